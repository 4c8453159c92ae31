-- Too few bytes are misuse; else the record is read, and refused as malformed records are. Assumes nothing.
use Rattle.kept.specs.declared.faults.Fault.TheVariants.{Misuse}
use Rattle.export.proofs.SpectrumLaws.{record_short, record_long, spectrum_refused}
use Rattle.export.proofs.files.record_spectrum.Goals as goal

pub returns-then-bytes-lt-RECORD : goal.returns-then-bytes-lt-RECORD
returns-then-bytes-lt-RECORD c = spectrum_refused c.args.rows.now Misuse (record_short c.args.bytes.now c.if-bytes-lt-RECORD.true)

pub returns : goal.returns
returns c = rw (record_long c.args.bytes.now c.if-bytes-lt-RECORD.false, ← c.record_in.ensures) c.spectrum_or.ensures
