-- A list that ends in LF, or has no byte, is owed nothing more; an unfinished line is malformed. Assumes nothing.
use Rattle.std.proofs.Common.{◌≡◌, rules, arith}
use Rattle.lists.proofs.HeldLaws.{nothing_owed, closing_some}
use Rattle.lists.proofs.Reader.answer_end.Goals as goal

pub returns-then-is_empty : goal.returns-then-is_empty
returns-then-is_empty c = nothing_owed c.args.self.now c.args.out.now (c.is_empty.ensures.0 c.if-is_empty.true)

pub returns : goal.returns
returns c =
    let some : c.args.self.now.count ≡ 0 → ⊥ = λ e. let empty = c.is_empty.ensures.1 e in let not = c.if-is_empty.false in cc in
    rw (closing_some c.args.self.now (search rules) (omega (arith, some))) c.write_no.ensures
