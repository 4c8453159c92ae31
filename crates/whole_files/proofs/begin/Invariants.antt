-- The name of the file that was made is within the lent bytes.
use Rattle.std.proofs.Common.{◌≤◌, length}
use Rattle.std.specs.Prelude.{IfOk}
use Rattle.whole_files.specs.Names.{longest_path, name_room}
use Rattle.whole_files.proofs.begin.Given as goal

abbrev pub invariant-loop-attempt : goal.invariant-loop-attempt
invariant-loop-attempt g l = IfOk l.made (λ made. made.1 ≤ length l.name) × (name_room ≤ length l.name) × (length l.target ≤ longest_path)
