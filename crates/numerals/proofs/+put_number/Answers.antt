-- A number below 10 is one byte; of any other its tenth is written and then its last digit.
use Rattle.std.proofs.Common.{ℕ, ◌+◌, ◌/◌, ◌%◌, ◌≤◌, [], ◌∷◌, ◌++◌, length, arith}
use Rattle.numerals.specs.Render.{digit0, render}
use Rattle.numerals.proofs.RenderLaws.{render-one, render-more, length-one, length_more}
use Rattle.lent.proofs.PutLaws.{room_after, then}
use Rattle.numerals.proofs.+put_number.Goals as goal

pub put_byte-requires : goal.put_byte-requires
put_byte-requires t c = omega (arith, length-one c.args.n c.if-n-lt10.true)

pub returns-then-n-lt10 : goal.returns-then-n-lt10
returns-then-n-lt10 t c = rw (render-one c.args.n c.if-n-lt10.true) c.put_byte.ensures

pub put_number-p-requires : goal.put_number-p-requires
put_number-p-requires t c = (omega arith, omega (arith, length_more c.args.n c.if-n-lt10.false))

-- there is room for the tenth and its last digit
room : (at n m : ℕ) → 10 ≤ n → at + length (render n) ≤ m → at + length (render (n / 10) ++ ((digit0 + n % 10) ∷ [])) ≤ m
room at n m h k = rw (← render-more n h) k

pub put_byte-requires-2 : goal.put_byte-requires-2
put_byte-requires-2 t c =
    let n = c.args.n in
    room_after c.put_number-p.ensures ((digit0 + n % 10) ∷ []) (room c.args.at n (length c.args.b.now) c.if-n-lt10.false c.requires)

pub returns : goal.returns
returns t c =
    let n = c.args.n in
    rw (render-more n c.if-n-lt10.false)
    (then c.put_number-p.ensures ((digit0 + n % 10) ∷ []) (room c.args.at n (length c.args.b.now) c.if-n-lt10.false c.requires) c.put_byte-2.ensures)
