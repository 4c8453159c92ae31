-- A number below 10 has one digit, any other one more than its tenth.
use Rattle.std.proofs.Common.{arith}
use Rattle.numerals.proofs.RenderLaws.{length-one, length_more, length-render}
use Rattle.numerals.proofs.+digits.Goals as goal

pub returns-then-n-lt10 : goal.returns-then-n-lt10
returns-then-n-lt10 t c = (omega (arith, length-one c.args.n c.if-n-lt10.true), omega arith)

pub returns : goal.returns
returns t c =
    let n = c.args.n in
    let e = length_more n c.if-n-lt10.false in
    (omega (arith, e), omega (arith, e, length-render 19 n (omega (arith, c.ranges.n))))
