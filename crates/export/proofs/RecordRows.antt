-- A file that the reader takes has, record by record, the spectra of its list's lines. Assumes nothing.
use Prim.Native.Nat.{ℕ, ◌+◌, ◌*◌, ◌<◌}
use mathlib.Core.Path.{◌≡◌, sym, ◌∙◌}
use mathlib.Core.List.{List}
use lib.ListN.{get_or, drop}
use Rattle.std.specs.Prelude.{Ok, None}
use Rattle.refusals.specs.declared.Refusal.TheVariants as No
use Rattle.records.specs.Records.{record_size}
use Rattle.list_lines.specs.ListLines.{lines_of}
use Rattle.site_files.specs.Format.{head_size, count_in, unpack_of}
use Rattle.record_answers.proofs.RecordByRecord.{alike}
use Rattle.export.specs.Given.{spectrum_or, record_spectrum}
use Rattle.export.proofs.SpectrumLaws.{of_request, record_long}

pub record_rows :
    (file list : List ℕ) → unpack_of file ≡ Ok list → (k : ℕ) → k < count_in file
    → record_spectrum (drop (head_size + record_size * k) file) ≡ spectrum_or No.Malformed (get_or (lines_of list) k None)
record_rows file list e k h =
    let a = alike file list e k h in
    record_long (drop (head_size + record_size * k) file) a.long
    ∙ of_request No.FileField a.of_record
    ∙ sym (of_request No.Malformed a.of_line)
