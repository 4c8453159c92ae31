-- The last that is b, or none.
use Rattle.std.proofs.Common.{rules, sym}
use Rattle.cuts.proofs.CutLaws.{up_none, up_last}
use Rattle.cuts.proofs.up_to_last.Goals as goal

pub returns-in-Some : goal.returns-in-Some
returns-in-Some c = (sym (up_last c.args.b c.args.s.now c.in-Some.i (search rules) (search rules) (search rules)), search rules)

pub returns-in-None : goal.returns-in-None
returns-in-None c = (sym (up_none c.args.b c.args.s.now (search rules)), search rules)
