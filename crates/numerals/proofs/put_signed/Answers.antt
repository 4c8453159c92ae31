-- Below 0 a minus sign is written and then the size; otherwise the size alone.
use Rattle.std.proofs.Common.{◌≡◌, ℕ, [], ◌∷◌, ◌++◌, sym, ap, ◌∙◌, true, false, ℤ, pos, nat_abs}
use lib.Signed.{lt_z}
use mir.Facts.{to_z-of_z}
use Rattle.numerals.specs.Render.{minus, render, render_signed}
use Rattle.numerals.proofs.RenderLaws.{below_zero, not_below_zero}
use Rattle.lent.proofs.PutLaws.{shorter, room_after, then}
use Rattle.numerals.proofs.put_signed.Goals as goal

-- the text by the sign
low : (z : ℤ) (n : ℕ) → lt_z z (pos 0) ≡ true → n ≡ nat_abs z → render_signed z ≡ (minus ∷ []) ++ render n
low z n h e = below_zero z h ∙ ap (λ (k : ℕ). minus ∷ render k) (sym e)

high : (z : ℤ) (n : ℕ) → lt_z z (pos 0) ≡ false → n ≡ nat_abs z → render_signed z ≡ render n
high z n h e = not_below_zero z h ∙ ap render (sym e)

pub put_byte-p-requires : goal.put_byte-p-requires
put_byte-p-requires c =
    let e = low c.args.z _ (simp (to_z-of_z c.ranges.z) at c.if-z-lt0.true) (simp (to_z-of_z c.ranges.z) at c.unsigned_abs-n.ensures.value) in
    shorter c.args.at (minus ∷ []) (render c.unsigned_abs-n.result) (rw e at c.requires)

pub put_number-requires : goal.put_number-requires
put_number-requires c =
    let e = low c.args.z _ (simp (to_z-of_z c.ranges.z) at c.if-z-lt0.true) (simp (to_z-of_z c.ranges.z) at c.unsigned_abs-n.ensures.value) in
    room_after c.put_byte-p.ensures (render c.unsigned_abs-n.result) (rw e at c.requires)

pub returns-then-z-lt0 : goal.returns-then-z-lt0
returns-then-z-lt0 c =
    let e = low c.args.z _ (simp (to_z-of_z c.ranges.z) at c.if-z-lt0.true) (simp (to_z-of_z c.ranges.z) at c.unsigned_abs-n.ensures.value) in
    rw e (then c.put_byte-p.ensures (render c.unsigned_abs-n.result) (rw e at c.requires) c.put_number.ensures)

pub put_number-requires-2 : goal.put_number-requires-2
put_number-requires-2 c =
    let e = high c.args.z _ (simp (to_z-of_z c.ranges.z) at c.if-z-lt0.false) (simp (to_z-of_z c.ranges.z) at c.unsigned_abs-n.ensures.value) in
    rw e at c.requires

pub returns : goal.returns
returns c =
    let e = high c.args.z _ (simp (to_z-of_z c.ranges.z) at c.if-z-lt0.false) (simp (to_z-of_z c.ranges.z) at c.unsigned_abs-n.ensures.value) in
    rw e c.put_number-2.ensures
