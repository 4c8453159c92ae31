-- What each turn of the loop does to `Going`, by the byte and by what the writer says. Assumes nothing.
use Rattle.std.proofs.Common.{◌≡◌, refl, length, rules, arith}
use lib.ListN.{length-drop}
use Rattle.lent.proofs.WroteLaws.{to_fits}
use Rattle.lent.proofs.PartLaws.{rest}
use Rattle.text.specs.Grammar.{longest}
use Rattle.lists.proofs.PartLaws.{begins, ends, byte_pushed, line-answered, line_refused, line-stops}
use Rattle.lists.proofs.take_part.Goals as goal

pub loop-i-init : goal.loop-i-init
loop-i-init c = (refl, begins c.args.sheet c.args.part.now c.args.out.now c.args.reader.now (search rules) (search rules))

pub loop-i-preserved-then-c-ne-LF : goal.loop-i-preserved-then-c-ne-LF
loop-i-preserved-then-c-ne-LF c =
    (c.loop-i.invariant.0, rw c.push.ensures (byte_pushed c.loop-i.invariant.1 c.loop-i-test.true c.if-c-ne-LF.true))

pub overflow_add-wrote : goal.overflow_add-wrote
overflow_add-wrote c =
    omega (
      arith,
      to_fits _ _ c.in-Ok.n (rw (rest c.loop-i.out c.loop-i.wrote) at c.in-Ok.ensures).answer,
      length-drop c.loop-i.wrote c.loop-i.out,
      c.loop-i.invariant.1.written,
    )

pub returns-in-Err : goal.returns-in-Err
returns-in-Err c =
    rw c.loop-i.invariant.0
    (line_refused c.loop-i.invariant.1 c.loop-i-test.true c.if-c-ne-LF.false _ (rw (rest c.loop-i.out c.loop-i.wrote) at c.in-Err.ensures)
    (omega arith))

pub returns-in-Err-2 : goal.returns-in-Err-2
returns-in-Err-2 c =
    line-stops c.loop-i.invariant.1 c.loop-i-test.true c.if-c-ne-LF.false _ (rw (rest c.loop-i.out c.loop-i.wrote) at c.in-Err-2.ensures)
    (omega arith)

pub loop-i-preserved : goal.loop-i-preserved
loop-i-preserved c = (
  c.loop-i.invariant.0,
  rw c.clear.ensures
      (line-answered c.loop-i.invariant.1 c.loop-i-test.true c.if-c-ne-LF.false _ (rw (rest c.loop-i.out c.loop-i.wrote) at c.in-Ok.ensures)),
)

pub returns : goal.returns
returns c = ends c.loop-i.invariant.1 c.loop-i-test.false
