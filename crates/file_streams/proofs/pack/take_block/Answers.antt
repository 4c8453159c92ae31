-- What is behind the last LF is held, if it can still be a line, and what is before it packed. Of the system it is assumed that each call
-- returns.
use Prim.Native.Nat.{ℕ}
use mathlib.Core.Path.{subst, ap, ◌∙◌}
use native.Mathlib.Omega.{arith}
use lib.ListN.{take, drop, length, length-drop}
use Rattle.lent.proofs.PartLaws.{rest}
use Rattle.file_streams.specs.Ends.{Stepped, too_long, taken}
use Rattle.file_streams.proofs.pack.take_block.Goals as goal

pub returns-then-block-cut-gt-LONGEST : goal.returns-then-block-cut-gt-LONGEST
returns-then-block-cut-gt-LONGEST g c = too_long (omega (arith, c.if-block-cut-gt-LONGEST.true, c.up_to_last-cut.ensures.0))

pub returns : goal.returns
returns g c =
    let block = c.args.block.now in
    let cut = c.up_to_last-cut.result in
    taken (omega (arith, ap length (c.hold.ensures ∙ rest block cut), length-drop cut block, c.if-block-cut-gt-LONGEST.false))
    (c.hold.ensures ∙ rest block cut ∙ ap (λ (n : ℕ). drop n block) c.up_to_last-cut.ensures.0)
    (subst (λ (n : ℕ). Stepped c.args.count (take n block) c.pack_lines.result) c.up_to_last-cut.ensures.0 c.pack_lines.ensures)
