-- The line is read, and refused as malformed lines are. Assumes nothing.
use Rattle.export.proofs.xanhupive_spectrum.Goals as goal

pub returns : goal.returns
returns c = rw (← c.read_line.ensures, c.number_in.ensures) c.spectrum_or.ensures
