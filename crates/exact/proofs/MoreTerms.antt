-- Sixty terms are all of them: at 10^-30 every later term is 0, so any number of further terms moves no logarithm, no exponential and
-- no sine or cosine of an angle from -180 to 180 degrees at all. Assumes nothing.
use Prim.Native.Nat.{ℕ, zero, suc, ◌+◌, ◌-◌, ◌*◌, ◌/◌, ◌%◌, ◌^◌, ◌≤◌, ◌<◌}
use mathlib.Core.Path.{◌≡◌, refl, sym, ap, ◌∙◌}
use native.Mathlib.Decide.{dec_le}
use native.Mathlib.Nat.{le_refl, le_of_lt, lt_of_not-le, mod-lt, div-le_of_le-mul, mul-le-mul_right, suc-mul, div-mul-le_self}
use native.Mathlib.Omega.{arith}
use lib.Dec.{lit≤}
use lib.IntN.{ℤ, pos, negsuc, neg_ℤ, nat_abs, ◌-ℤ◌}
use Rattle.exact.specs.Series.{ln_unit, ln2, ln_halving, ln_from, exp_series, exp_whole, sin_series, cos_series}
use Rattle.exact.specs.Exact.{E30, PI30, ln_with, ln_e, exp_with, exp_e, radians, sin_with, sin_e, cos_with, cos_e}
use Rattle.exact.proofs.LnSeries.{power_after, ln_series_ends, ratio_third}
use Rattle.exact.proofs.LnWhole.{halving_below, halving_above, half-below, enough}
use Rattle.exact.proofs.LnExact.{L30, ln2-is}
use Rattle.exact.proofs.ExpSeries.{term_after, exp_series_ends}
use Rattle.exact.proofs.SineSeries.{size_after, sin_series_ends, cos_series_ends}

-- ---- the logarithm: at a third, the largest z, the power is 0 after sixty terms
third_ends : power_after E30 (E30 / 3 * (E30 / 3) / E30) (E30 / 3) 60 ≡ 0
unfolding power_after
third_ends = refl

unit_more : (m k : ℕ) → m ≤ 2 * E30 → ln_unit E30 (60 + k) m ≡ ln_unit E30 60 m
unfolding ln_unit
unit_more m k h = ln_series_ends E30 60 (E30 / 3) third_ends (ratio_third E30 m (lit≤ tt) h) k

ln2-more : (k : ℕ) → ln2 E30 (60 + k) ≡ ln2 E30 60
unfolding ln2
ln2-more k = ln_series_ends E30 60 (E30 / 3) third_ends (le_refl (E30 / 3)) k

halving_step :
    (L f x k : ℕ) → ln_halving E30 (60 + k) L f (x / 2) ≡ ln_halving E30 60 L f (x / 2)
    → ln_halving E30 (60 + k) L (suc f) x ≡ ln_halving E30 60 L (suc f) x
halving_step L f x k ih = either (dec_le (2 * E30) x)
  where
    either : Dec (2 * E30 ≤ x) → ln_halving E30 (60 + k) L (suc f) x ≡ ln_halving E30 60 L (suc f) x
    either (yes h) =
        halving_above E30 (60 + k) L f x h ∙ ap (λ (s : ℕ). L + s) ih ∙ sym (halving_above E30 60 L f x h)
    either (no g) =
        let h : x < 2 * E30 = lt_of_not-le g in
        halving_below E30 (60 + k) L f x h ∙ unit_more x k (le_of_lt h) ∙ sym (halving_below E30 60 L f x h)

halving_more : (L f x k : ℕ) → x < 2 ^ suc f * E30 → ln_halving E30 (60 + k) L f x ≡ ln_halving E30 60 L f x
unfolding ln_halving
halving_more L zero x k h = unit_more x k (le_of_lt h)
halving_more L (suc f) x k h = halving_step L f x k (halving_more L f (x / 2) k (half-below E30 f x h))

pub ln_more : (x k : ℕ) → ln_with (60 + k) x ≡ ln_e x
unfolding ln_e ln_from
ln_more x k =
    ap (λ (L : ℕ). pos (ln_from E30 (60 + k) L (2 ^ 100 * x)) -ℤ pos (100 * L)) (ln2-more k)
    ∙ ap (λ (s : ℕ). pos s -ℤ pos (100 * ln2 E30 60))
    (halving_more (ln2 E30 60) (2 ^ 100 * x) (2 ^ 100 * x) k (enough E30 (2 ^ 100 * x) (lit≤ tt)))

-- ---- the exponential: at ln 2 the term is 0 after sixty
two_ends : term_after E30 L30 E30 1 60 ≡ 0
unfolding term_after
two_ends = refl

series_more : (r k : ℕ) → r ≤ L30 → exp_series E30 (60 + k) r ≡ exp_series E30 60 r
series_more r k h = exp_series_ends E30 60 L30 two_ends h k

whole-more : (x : ℤ) (k : ℕ) → exp_whole E30 (60 + k) L30 x ≡ exp_whole E30 60 L30 x
unfolding exp_whole
whole-more (pos x) k = ap (λ (s : ℕ). 2 ^ (x / L30) * s) (series_more (x % L30) k (le_of_lt (mod-lt x (lit≤ tt))))
whole-more (negsuc x) k =
    ap (λ (s : ℕ). s / 2 ^ suc (x / L30))
    (series_more (suc (x / L30) * L30 - suc x) k (rest L30 (x / L30) (div-mul-le_self x L30)))
  where
    rest : (L q : ℕ) → q * L ≤ x → suc q * L - suc x ≤ L
    rest L q h = omega (arith, suc-mul q L)

pub exp_more : (x : ℤ) (k : ℕ) → exp_with (60 + k) x ≡ exp_e x
unfolding exp_e
exp_more x k =
    ap (λ (L : ℕ). exp_whole E30 (60 + k) L x) (ln2-more k ∙ ln2-is)
    ∙ whole-more x k
    ∙ sym (ap (λ (L : ℕ). exp_whole E30 60 L x) ln2-is)

-- ---- sine and cosine: at a half turn the term is 0 after sixty
sin_ends : size_after E30 (PI30 * PI30 / E30) PI30 2 60 ≡ 0
unfolding size_after
sin_ends = refl

cos_ends : size_after E30 (PI30 * PI30 / E30) E30 1 60 ≡ 0
unfolding size_after
cos_ends = refl

-- of any angle up to a half turn, in radians
pub sin_radians_more : (x k : ℕ) → x ≤ PI30 → sin_series E30 (60 + k) x ≡ sin_series E30 60 x
sin_radians_more x k h = sin_series_ends E30 60 PI30 sin_ends h k

pub cos_radians_more : (x k : ℕ) → x ≤ PI30 → cos_series E30 (60 + k) x ≡ cos_series E30 60 x
cos_radians_more x k h = cos_series_ends E30 60 PI30 cos_ends h k

half-turn : (d : ℕ) → d ≤ 180 → radians d ≤ PI30
unfolding radians
half-turn d h = div-le_of_le-mul 180 (mul-le-mul_right PI30 h)

-- of whole degrees
pub sin_more : (d : ℤ) (k : ℕ) → nat_abs d ≤ 180 → sin_with (60 + k) d ≡ sin_e d
unfolding sin_e
sin_more (pos d) k h = sin_radians_more (radians d) k (half-turn d h)
sin_more (negsuc d) k h = ap neg_ℤ (sin_radians_more (radians (suc d)) k (half-turn (suc d) h))

pub cos_more : (d : ℤ) (k : ℕ) → nat_abs d ≤ 180 → cos_with (60 + k) d ≡ cos_e d
unfolding cos_e
cos_more d k h = cos_radians_more (radians (nat_abs d)) k (half-turn (nat_abs d) h)
