-- No byte is a space, or the first that is one stands at `end`.
use Rattle.std.proofs.Common.{◌+◌, rules, refl}
use Rattle.lent.proofs.PartLaws.{rest}
use Rattle.text.proofs.FieldLaws.{space-none, space-first}
use Rattle.text.proofs.read.cut.Goals as goal

pub returns-in_err-end : goal.returns-in_err-end
returns-in_err-end c = rw c.from_residual.ensures (space-none c.args.s.now (search rules))

pub returns : goal.returns
returns c =
    let s = c.args.s.now in
    let e = space-first s c.in_ok-end.end (search rules) (search rules) (search rules) in
    rw e (search rules, refl, rest s (c.in_ok-end.end + 1))
