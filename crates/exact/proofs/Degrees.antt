-- Sines and cosines of whole degrees: their symmetries, and the sum of their squares. The signs of the angle are an equation; the
-- rest holds up to a few units of 10^-30 and is one test, computed at every degree. Assumes nothing.
use Prim.Native.Nat.{ℕ, zero, suc, ◌+◌, ◌-◌, ◌*◌, ◌≤◌}
use mathlib.Core.Path.{◌≡◌, refl, sym}
use mathlib.Core.Bool.{Bool, ◌&&◌}
use native.Mathlib.Omega.{arith}
use lib.Dec.{T, leb, leb→le}
use lib.Ieee.Fits.{and_l, and_r}
use lib.IntN.{ℤ, pos, negsuc, neg_ℤ, nat_abs, neg_ℤ-neg_ℤ, ◌-ℤ◌}
use Rattle.exact.specs.Near.{Within}
use Rattle.exact.specs.Exact.{E30, sin_e, cos_e}
use Rattle.exact.specs.Laws.{Symmetric, Circle}
use Rattle.exact.proofs.Computed.{run, run-from}
use Rattle.exact.proofs.NearLaws.{within←}

-- ---- the sign of the angle
pub sin_odd : (d : ℤ) → sin_e (neg_ℤ d) ≡ neg_ℤ (sin_e d)
unfolding sin_e
sin_odd (pos zero) = refl
sin_odd (pos (suc d)) = refl
sin_odd (negsuc d) = sym (neg_ℤ-neg_ℤ _)

pub cos_even : (d : ℤ) → cos_e (neg_ℤ d) ≡ cos_e d
unfolding cos_e
cos_even (pos zero) = refl
cos_even (pos (suc d)) = refl
cos_even (negsuc d) = refl

-- ---- 180 less the angle, 90 less the angle, and the squares
apart : ℤ → ℤ → Bool
apart a b = leb (nat_abs (a -ℤ b)) 5

supplement : ℕ → Bool
unfolding apart sin_e cos_e
supplement d =
    apart (sin_e (pos 180 -ℤ pos d)) (sin_e (pos d))
    && (apart (cos_e (pos 180 -ℤ pos d)) (neg_ℤ (cos_e (pos d))) && apart (sin_e (pos 90 -ℤ pos d)) (cos_e (pos d)))

squares : ℕ → Bool
unfolding sin_e cos_e
squares d =
    let s : ℕ = nat_abs (sin_e (pos d)) in
    let c : ℕ = nat_abs (cos_e (pos d)) in
    leb ((E30 - 4) * (E30 - 4)) (s * s + c * c) && leb (s * s + c * c) ((E30 + 4) * (E30 + 4))

supplement-all : T (run supplement 0 181)
unfolding supplement
supplement-all = tt

squares-all : T (run squares 0 181)
unfolding squares
squares-all = tt

at : (f : ℕ → Bool) → T (run f 0 181) → (d : ℕ) → d ≤ 180 → T (f d)
at f t d h = run-from f 0 181 t d (omega arith) (omega arith)

near : (a b : ℤ) → T (apart a b) → Within 5 a b
unfolding apart
near a b t = within← 5 a b (leb→le (nat_abs (a -ℤ b)) 5 t)

pub symmetric : (d : ℕ) → d ≤ 180 → Symmetric d
unfolding supplement
symmetric d h =
    let t : T (supplement d) = at supplement supplement-all d h in
    let u = and_r (apart (sin_e (pos 180 -ℤ pos d)) (sin_e (pos d))) _ t in
    record {
      sin_supplement = near _ _ (and_l (apart (sin_e (pos 180 -ℤ pos d)) (sin_e (pos d))) _ t);
      cos_supplement = near _ _ (and_l (apart (cos_e (pos 180 -ℤ pos d)) (neg_ℤ (cos_e (pos d)))) _ u);
      sin_complement = near _ _ (and_r (apart (cos_e (pos 180 -ℤ pos d)) (neg_ℤ (cos_e (pos d)))) _ u);
    }

pub circle : (d : ℕ) → d ≤ 180 → Circle d
unfolding squares
circle d h =
    let s : ℕ = nat_abs (sin_e (pos d)) in
    let c : ℕ = nat_abs (cos_e (pos d)) in
    let t : T (squares d) = at squares squares-all d h in
    record {
      low = leb→le _ _ (and_l (leb ((E30 - 4) * (E30 - 4)) (s * s + c * c)) _ t);
      high = leb→le _ _ (and_r (leb ((E30 - 4) * (E30 - 4)) (s * s + c * c)) _ t);
    }
