-- The word, and behind it the number and the LF. Assumes nothing.
use Rattle.std.proofs.Common.{ℕ, ◌≤◌, ◌+◌, ◌++◌, length, arith}
use Rattle.lent.proofs.PutLaws.{shorter, room_after, then}
use Rattle.numerals.specs.Render.{lf, ascii, ended}
use Rattle.lines.specs.Lines.{number_line}
use Rattle.lines.proofs.write.put_no.Goals as goal

-- there is room for both
both : (n m : ℕ) → length (number_line n) ≤ m → 0 + length (ascii "no " ++ ended n lf) ≤ m
unfolding number_line
both n m h = omega arith

pub put_slice-at-requires : goal.put_slice-at-requires
unfolding ascii
put_slice-at-requires c =
    shorter 0 (ascii "no ") (ended c.args.n lf) (both c.args.n (length c.args.out.now) c.requires)

pub put_ended-requires : goal.put_ended-requires
unfolding ascii
put_ended-requires c =
    room_after {s = ascii "no "} c.put_slice-at.ensures (ended c.args.n lf) (both c.args.n (length c.args.out.now) c.requires)

pub returns : goal.returns
unfolding number_line ascii
returns c =
    then {s = ascii "no "} c.put_slice-at.ensures (ended c.args.n lf) (both c.args.n (length c.args.out.now) c.requires) c.put_ended.ensures
