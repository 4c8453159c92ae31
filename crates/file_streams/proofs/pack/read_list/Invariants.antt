-- The lines are counted up to one more than a file has.
use Rattle.std.proofs.Common.{◌+◌, ◌≤◌}
use Rattle.site_files.specs.Format.{most_records}
use Rattle.file_streams.proofs.pack.read_list.Given as goal

abbrev pub invariant-loop : goal.invariant-loop
invariant-loop g l = l.count ≤ most_records + 1
