-- The series with alternating signs as the code runs it: a term at a time, each at most the one before. Assumes nothing.
use Prim.Native.Nat.{ℕ, suc, ◌+◌, ◌-◌, ◌*◌, ◌/◌, ◌≤◌, ◌<◌}
use Rattle.std.specs.Int.{abs_diff}
use mathlib.Core.Path.{◌≡◌, refl, ap}
use mathlib.Core.Bool.{Bool, true, false}
use native.Mathlib.Nat.{le_trans, le_of_eq, mul-le-mul, mul-le-mul_left, mul_comm, div-div-eq-div-mul}
use native.Mathlib.Omega.{arith}
use lib.Dec.{leb}
use lib.IntN.{ℤ, pos, ◌-ℤ◌}
use Rattle.std.proofs.lemmas.Bool.{leb-true, leb-false}
use Rattle.exact.specs.Series.{alternating}
use Rattle.fixed.specs.Fixed.{sin_acute, cos_fixed}
use Rattle.exact.proofs.Signed.{same_diff, sub_is}
use Rattle.exact.proofs.Quotients.{mul_small}

-- one term of the series
pub sine_term :
    (S w t d n : ℕ) → 0 < n → alternating S w t d n ≡ pos t -ℤ alternating S w (t * w / S / (d * (d + 1))) (d + 2) (n - 1)
unfolding alternating
sine_term S w t d n h = let e : n ≡ suc (n - 1) = omega arith in ap (λ (j : ℕ). alternating S w t d j) e

-- the next term is at most the present one, where the square of the angle is at most 3
pub term_falls : (S w t d e : ℕ) → w ≤ 3 * S → 2 ≤ d → 2 ≤ e → t * w / S / (d * e) ≤ t
term_falls S w t d e h k l =
    let four : 2 * 2 ≤ d * e = mul-le-mul k l in
    let w_le : w ≤ S * (d * e) = le_trans h (le_trans (le_of_eq (mul_comm 3 S)) (mul-le-mul_left S (omega arith))) in
    le_trans (le_of_eq (div-div-eq-div-mul (t * w) S (d * e))) (mul_small (S * (d * e)) t w_le)

-- a difference that is not negative
pub minus : (a b : ℕ) → b ≤ a → pos (a - b) ≡ pos a -ℤ pos b
minus a b h = same_diff (pos (a - b)) (pos a -ℤ pos b) (omega (arith, sub_is (pos a) (pos b)))

-- the cosine is the sine of how far the angle lies from 90 degrees
cosine_at : (d : ℕ) (b : Bool) → leb d 90 ≡ b → elim b as (λ t. ℤ) [ true ↦ sin_acute (90 - d) | false ↦ sin_acute (d - 90) ] ≡ sin_acute (abs_diff d 90)
cosine_at d true e = let h : 90 - d ≡ abs_diff d 90 = omega (arith, leb-true d 90 e) in ap sin_acute h
cosine_at d false e = let h : d - 90 ≡ abs_diff d 90 = omega (arith, leb-false d 90 e) in ap sin_acute h

pub cosine_of : (d : ℕ) → cos_fixed d ≡ sin_acute (abs_diff d 90)
unfolding cos_fixed
cosine_of d = cosine_at d (leb d 90) refl
