-- What the proofs ask of a sine and a cosine, and that every whole degree from 1 to 179 but 90 has it. 58 is above the tangent of 89
-- degrees: with it no tangent comes up. Assumes nothing.
use Prim.Native.Nat.{ℕ, ◌+◌, ◌*◌, ◌≤◌}
use mathlib.Core.Path.{◌≡◌, refl, ap}
use mathlib.Core.Bool.{Bool, true, ◌&&◌}
use native.Mathlib.Omega.{arith}
use native.Mathlib.Decide.{dec_le}
use lib.Dec.{T, leb, lit≤}
use lib.IntN.{pos, nat_abs}
use Rattle.exact.specs.Exact.{E30}
use Rattle.fixed.specs.Fixed.{K21, sin_fixed, cos_fixed}
use Rattle.geometry.specs.Geometry.{sin_size, cos_size}
use Rattle.geometry.specs.Fixed.{sin9, cos9}
use Rattle.geometry.proofs.Scales.{Scale, Near}
use Rattle.exact.proofs.Computed.{run, run-from, order-first}

-- s and c are the sine and the cosine of an angle in exact units, s' and c' those of the program
pub record Angle (S k s c s' c' : ℕ) : Type 0 where
  pub s_le : s ≤ S
  pub c_le : c ≤ S
  pub s_far : S ≤ 58 * s
  pub c_far : S ≤ 58 * c
  pub one-low : S * S ≤ s * s + c * c + 9 * S
  pub one-high : s * s + c * c ≤ S * S + 9 * S
  pub steep : S * S + 3364 * (s * s) ≤ 3364 * (S * S)
  pub s_near : Near k 2 s' s
  pub c_near : Near k 2 c' c
  pub s'_le : s' ≤ 1000000000
  pub c'_le : c' ≤ 1000000000
  pub c'_far : 1000000000 ≤ 58 * c'
  pub one'_high : s' * s' + c' * c' ≤ 1000000010000000000

-- the same as a test
is_angle : ℕ → ℕ → ℕ → ℕ → ℕ → ℕ → Bool
is_angle S k s c s' c' =
    leb s S
    && (leb c S
    && (leb S (58 * s)
    && (leb S (58 * c)
    && (leb (S * S) (s * s + c * c + 9 * S)
    && (leb (s * s + c * c) (S * S + 9 * S)
    && (leb (S * S + 3364 * (s * s)) (3364 * (S * S))
    && (leb (s' * k) (s + 2 * k)
    && (leb s (s' * k + 2 * k)
    && (leb (c' * k) (c + 2 * k)
    && (leb c (c' * k + 2 * k)
    && (leb s' 1000000000
    && (leb c' 1000000000
    && (leb 1000000000 (58 * c') && (leb (s' * s' + c' * c') 1000000010000000000 && true))))))))))))))

angle : (S k s c s' c' : ℕ) → T (is_angle S k s c s' c') → Angle S k s c s' c'
unfolding is_angle
angle S k s c s' c' t =
    let f1 = order-first s S _ t in
    let f2 = order-first c S _ f1.1 in
    let f3 = order-first S (58 * s) _ f2.1 in
    let f4 = order-first S (58 * c) _ f3.1 in
    let f5 = order-first (S * S) (s * s + c * c + 9 * S) _ f4.1 in
    let f6 = order-first (s * s + c * c) (S * S + 9 * S) _ f5.1 in
    let f7 = order-first (S * S + 3364 * (s * s)) (3364 * (S * S)) _ f6.1 in
    let f8 = order-first (s' * k) (s + 2 * k) _ f7.1 in
    let f9 = order-first s (s' * k + 2 * k) _ f8.1 in
    let f10 = order-first (c' * k) (c + 2 * k) _ f9.1 in
    let f11 = order-first c (c' * k + 2 * k) _ f10.1 in
    let f12 = order-first s' 1000000000 _ f11.1 in
    let f13 = order-first c' 1000000000 _ f12.1 in
    let f14 = order-first 1000000000 (58 * c') _ f13.1 in
    let f15 = order-first (s' * s' + c' * c') 1000000010000000000 _ f14.1 in
    record {
      s_le = f1.0;
      c_le = f2.0;
      s_far = f3.0;
      c_far = f4.0;
      one-low = f5.0;
      one-high = f6.0;
      steep = f7.0;
      s_near = record { low = f8.0; high = f9.0 };
      c_near = record { low = f10.0; high = f11.0 };
      s'_le = f12.0;
      c'_le = f13.0;
      c'_far = f14.0;
      one'_high = f15.0;
    }

-- ---- whole degrees, at 10^-30
abbrev pub WholeDegree : ℕ → Type 0
WholeDegree d = Angle E30 K21 (sin_size d) (cos_size d) (sin9 d) (cos9 d)

test : ℕ → Bool
unfolding is_angle sin_size cos_size sin9 cos9
test d = is_angle E30 K21 (sin_size d) (cos_size d) (sin9 d) (cos9 d)

below_90 : T (run test 1 89)
unfolding test
below_90 = tt

above_90 : T (run test 91 89)
unfolding test
above_90 = tt

pub degrees : (d : ℕ) → 1 ≤ d → d ≤ 179 → (d ≡ 90 → ⊥) → WholeDegree d
unfolding test
degrees d l h n = either (dec_le d 89)
  where
    either : Dec (d ≤ 89) → WholeDegree d
    either (yes g) = angle E30 K21 _ _ _ _ (run-from test 1 89 below_90 d l (omega arith))
    either (no g) = angle E30 K21 _ _ _ _ (run-from test 91 89 above_90 d (omega arith) (omega arith))

-- what a function that gives a sine or the size of a cosine says of it
pub sine-is : (d r : ℕ) → pos r ≡ sin_fixed d → r ≡ sin9 d
unfolding sin9
sine-is d r e = ap nat_abs e

pub cosine_is : (d r : ℕ) → pos r ≡ cos_fixed d → r ≡ cos9 d
unfolding cos9
cosine_is d r e = ap nat_abs e

-- a tenth of a millimetre in exact units
abbrev pub K26 : ℕ
K26 = 100_000000_000000_000000_000000

pub scale30 : Scale E30 K26 K21
scale30 = record { S-is = refl; K-is = refl; big = lit≤ tt }
