-- `reckon::signed::round_div`: half the divisor, put on away from zero, turns the rounding toward zero into one to the
-- nearest. Assumes nothing.
use Prim.Native.Nat.{ℕ, suc, ◌+◌, ◌/◌, ◌≤◌, ◌^◌, ◌<◌}
use mathlib.Core.Path.{◌≡◌, refl, sym, ap, ◌∙◌}
use mathlib.Core.Bool.{true, false}
use native.Mathlib.Nat.{zero-div}
use native.Mathlib.Omega.{arith}
use lib.IntN.{ℤ, pos, negsuc, neg_ℤ, nat_abs, ◌+ℤ◌, ◌-ℤ◌}
use lib.Signed.{lt_z, quot_z}
use mir.Syntax.{w64}
use mir.Val.{SFits, to_z}
use mir.Facts.{to_z-of_z, to_z_pos}
use Rattle.exact.specs.Near.{up, dn}
use Rattle.exact.proofs.Signed.{by_sign, same_parts, sfits-abs, lit_fits, lt-read, lt-parts, nlt_parts}
use Rattle.exact.proofs.Signed.{sub_is, add-abs, neg-abs, neg-up, neg-dn, quot-up, quot-dn}
use Rattle.fixed.specs.Fixed.{nearest}
use Rattle.reckon.proofs.Fitting.{quot_fits}
use Rattle.reckon.proofs.signed.round_div.Goals.{then-a-lt0, else-a-lt0}
use Rattle.reckon.proofs.signed.round_div.Goals as goal

-- ---- the rounding, on either side of zero
below : (a : ℤ) (d : ℕ) → lt_z a (pos 0) ≡ true → quot_z (a -ℤ pos (d / 2)) (pos d) ≡ nearest a d
unfolding nearest
below (pos n) d l = absurd (omega (arith, lt-parts (pos n) (pos 0) l))
below (negsuc n) d l =
    let z : ℤ = negsuc n -ℤ pos (d / 2) in
    let w : ℤ = pos ((suc n + d / 2) / d) in
    let p : up z ≡ 0 = by_sign z (λ h. omega (arith, sub_is (negsuc n) (pos (d / 2)))) (λ h. h) in
    let q : dn z ≡ suc n + d / 2 = omega (arith, sub_is (negsuc n) (pos (d / 2))) in
    same_parts (quot_z z (pos d)) (neg_ℤ w)
    (quot-up z d ∙ ap (λ (u : ℕ). u / d) p ∙ zero-div d ∙ sym (neg-up w))
    (quot-dn z d ∙ ap (λ (u : ℕ). u / d) q ∙ sym (neg-dn w))

above : (a : ℤ) (d : ℕ) → lt_z a (pos 0) ≡ false → quot_z (a +ℤ pos (d / 2)) (pos d) ≡ nearest a d
unfolding nearest
above (pos n) d l = refl
above (negsuc n) d l = absurd (omega (arith, nlt_parts (negsuc n) (pos 0) l))

-- ---- the 64 bits: with the half taken away or put on, the number fits, and so does its quotient
module _ (a : ℤ) (d : ℕ) (h : nat_abs a ≤ 2 ^ 62) (k : d ≤ 2 ^ 62) where
  lower-size : nat_abs (a -ℤ pos (d / 2)) < 2 ^ 63
  lower-size = let b : ℤ = pos (d / 2) in omega (arith, add-abs a (neg_ℤ b), neg-abs b)

  upper-size : nat_abs (a +ℤ pos (d / 2)) < 2 ^ 63
  upper-size = omega (arith, add-abs a (pos (d / 2)))

  lower-fits : SFits w64 (a -ℤ pos (d / 2))
  lower-fits = sfits-abs (a -ℤ pos (d / 2)) lower-size

  upper_fits : SFits w64 (a +ℤ pos (d / 2))
  upper_fits = sfits-abs (a +ℤ pos (d / 2)) upper-size

  lower-quot : SFits w64 (quot_z (a -ℤ pos (d / 2)) (pos d))
  lower-quot = quot_fits (a -ℤ pos (d / 2)) (pos d) lower-size

  upper-quot : SFits w64 (quot_z (a +ℤ pos (d / 2)) (pos d))
  upper-quot = quot_fits (a +ℤ pos (d / 2)) (pos d) upper-size

  half : to_z w64 (d / 2) ≡ pos (d / 2)
  half = to_z_pos w64 (omega arith)

  whole : to_z w64 d ≡ pos d
  whole = to_z_pos w64 (omega arith)

pub returns : goal.returns
returns c =
    let a = c.args.a in
    let d = c.args.d in
    let h = c.requires.0 in
    let k = c.requires.2 in
    elim c.if-a-lt0.branch [
      | then-a-lt0 w ↦
          simp (w.away-is, to_z-of_z c.ranges.a, half a d h k, to_z-of_z (lower-fits a d h k), whole a d h k, to_z-of_z (lower-quot a d h k))
          (below a d (lt-read c.ranges.a (lit_fits (pos 0) tt) w.if-a-lt0.true))
      | else-a-lt0 w ↦
          simp (w.away-is, to_z-of_z c.ranges.a, half a d h k, to_z-of_z (upper_fits a d h k), whole a d h k, to_z-of_z (upper-quot a d h k))
          (above a d (lt-read c.ranges.a (lit_fits (pos 0) tt) w.if-a-lt0.false))
    ]
