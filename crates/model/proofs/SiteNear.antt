-- The site term from an A1100 that is only near, for V below k1. A = A1100 is within 64 parts in 10^9 and two units of 10^-9, and c
-- (V/k1)^n, which is at least 0.18, within 20 parts and two units: the 44 parts by which it is nearer make up for the four units, so
-- B = A + c (V/k1)^n is within 64 parts, and its logarithm within 74 + 7 = 81 units. In C = A + c the constant brings the parts down:
-- 34 A + 2 is at most 30 c, as A is at most 1.49, so C is within 30 parts and its logarithm within 35 + 7 = 42 units. The exact ln B
-- - ln C lies between -2.93 and 0, as B is at least 0.18 and at most C, which is at most 3.36. Assumes nothing.
use Prim.Native.Nat.{ℕ, ◌+◌, ◌*◌, ◌/◌, ◌≤◌, ◌<◌}
use mathlib.Core.Path.{◌≡◌, refl, sym, ap, subst}
use mathlib.Core.Bool.{Bool, true, false}
use native.Mathlib.Omega.{arith}
use native.Mathlib.Nat.{le_trans, mul-le-mul_right, mul_comm, mul-add, add-mul}
use lib.Dec.{ltb, lit≤}
use lib.IntN.{pos, ◌+ℤ◌, ◌-ℤ◌, ◌*ℤ◌}
use lib.Signed.{shr_z}
use Rattle.exact.specs.Near.{NearZ}
use Rattle.exact.specs.Laws.{Rel}
use Rattle.exact.specs.Exact.{E30, ln_e}
use Rattle.fixed.specs.Fixed.{E9, K21, mul_div, ln_fixed, ln_quotient}
use Rattle.tables.specs.declared.Coefficients.{Coefficients}
use Rattle.model.specs.declared.Scenario.{Scenario}
use Rattle.model.proofs.Curve.{Paired, curve_low_fixed, curve-low, curve_high_fixed, quotient-near, curve-near, curve-high}
use Rattle.model.specs.Fixed.{site_c_fixed, f_site_fixed, curve_fixed, ln_median_at_fixed}
use Rattle.model.specs.Equations.{times, least, site_c, f_site, curve, linear, ln_median_at}
use Rattle.model.proofs.Fair.{Fair, soft_err, linear_err, rest_err}
use borrow.Author.Tests.{ltb-true, ltb-false, lt-ltb, le-ltb}
use Rattle.model.specs.Accuracy.{InRange}
use Rattle.model.proofs.Through.{ln_through}
use Rattle.model.proofs.NearSums.{near_add, near_share, near_sub}
use Rattle.exact.proofs.NearLaws.{near_wide}
use Rattle.model.proofs.TermsNear.{terms_near}

-- what is asked of A1100: how near, and how large
pub record RockNear (a b : ℕ) : Type 0 where
  pub near : Rel E9 64 (2 * E30) (a * K21) b
  pub fixed_top : a ≤ 1490000000
  pub exact_top : b ≤ 1480000000 * K21

-- ---- sums
-- of two numbers, the second nearer by τ parts, which make up for both slacks
rel_mix :
    (N ρ σ τ T U a b c d : ℕ) → ρ ≡ σ + τ → T + U ≤ τ * c → T + U ≤ τ * d → Rel N ρ T a b → Rel N σ U c d → Rel N ρ 0 (a + c) (b + d)
rel_mix N ρ σ τ T U a b c d e hc hd r s =
    record {
      low = side a c b d r.low s.low hd;
      high = side b d a c r.high s.high hc;
    }
  where
    side :
        (x w y z : ℕ) → x * N ≤ y * (N + ρ) + T → w * N ≤ z * (N + σ) + U → T + U ≤ τ * z → (x + w) * N ≤ (y + z) * (N + ρ) + 0
    side x w y z h k t =
        omega (
          arith,
          h,
          k,
          t,
          add-mul x w N,
          add-mul y z (N + ρ),
          mul-add z N ρ,
          ap (λ (p : ℕ). z * p) e,
          mul-add z σ τ,
          mul-add z N σ,
          mul_comm z τ,
        )

-- of a number and a constant C, which brings ρ = σ + τ parts down to σ
rel_const :
    (N ρ σ τ T a b C : ℕ) → ρ ≡ σ + τ → a * τ + T ≤ C * σ → b * τ + T ≤ C * σ → Rel N ρ T a b → Rel N σ 0 (a + C) (b + C)
rel_const N ρ σ τ T a b C e ha hb r =
    record { low = side a b r.low hb; high = side b a r.high ha }
  where
    side : (x y : ℕ) → x * N ≤ y * (N + ρ) + T → y * τ + T ≤ C * σ → (x + C) * N ≤ (y + C) * (N + σ) + 0
    side x y h k =
        omega (
          arith,
          h,
          k,
          add-mul x C N,
          add-mul y C (N + σ),
          mul-add y N ρ,
          ap (λ (p : ℕ). y * p) e,
          mul-add y σ τ,
          mul-add y N σ,
          mul-add C N σ,
        )

-- ---- B
pub soft_rel :
    (v k1 a b : ℕ) → Paired v k1 → RockNear a b → Rel E9 64 0 ((a + curve_fixed v k1) * K21) (b + curve v k1)
soft_rel v k1 a b p r =
    subst (λ (t : ℕ). Rel E9 64 0 t (b + curve v k1)) (sym (add-mul a (curve_fixed v k1) K21))
    (rel_mix E9 64 20 44 (2 * E30) (2 * E30) (a * K21) b (curve_fixed v k1 * K21) (curve v k1) refl
    (coarse (curve_fixed v k1) K21 (curve_low_fixed v k1 p))
    (fine (curve v k1) (curve-low v k1 p))
    r.near
    (curve-near v k1 p))
  where
    coarse : (y K : ℕ) → 179999900 ≤ y → 2 * (E9 * K) + 2 * (E9 * K) ≤ 44 * (y * K)
    coarse y K h = omega (arith, mul-le-mul_right K h)

    fine : (y : ℕ) → 180000000 * K21 ≤ y → 2 * E30 + 2 * E30 ≤ 44 * y
    fine y h = omega arith

soft_ln_near :
    (v k1 a b : ℕ) → Paired v k1 → v < k1 → RockNear a b → NearZ K21 81 (ln_fixed (a + curve_fixed v k1)) (ln_e (b + curve v k1))
soft_ln_near v k1 a b p h r =
    ln_through 74 (a + curve_fixed v k1) (b + curve v k1) (lit≤ tt) (omega (arith, curve_low_fixed v k1 p))
    (omega (arith, r.fixed_top, curve_high_fixed v k1 p h))
    (some b (curve v k1) (curve-low v k1 p))
    (most_of b (curve v k1) r.exact_top (curve-high v k1 p h))
    (soft_rel v k1 a b p r)
  where
    some : (b y : ℕ) → 180000000 * K21 ≤ y → 0 < b + y
    some b y k = omega arith

    most_of : (b y : ℕ) → b ≤ 1480000000 * K21 → y ≤ site_c → b + y ≤ 65536 * E30
    most_of b y k l = omega arith

-- ---- C
pub hard_rel : (a b : ℕ) → RockNear a b → Rel E9 30 0 ((a + site_c_fixed) * K21) (b + site_c)
hard_rel a b r =
    subst (λ (t : ℕ). Rel E9 30 0 t (b + site_c)) (sym (add-mul a site_c_fixed K21))
    (rel_const E9 64 30 34 (2 * E30) (a * K21) b site_c refl
    (room (a * K21) (le_trans (mul-le-mul_right K21 r.fixed_top) (lit≤ tt)))
    (room b (le_trans r.exact_top (lit≤ tt)))
    r.near)
  where
    room : (y : ℕ) → y ≤ 1490000000000000000000000000000 → y * 34 + 2 * E30 ≤ site_c * 30
    room y h = omega arith

hard_ln_near : (a b : ℕ) → RockNear a b → NearZ K21 42 (ln_fixed (a + site_c_fixed)) (ln_e (b + site_c))
hard_ln_near a b r =
    ln_through 35 (a + site_c_fixed) (b + site_c) (lit≤ tt) (omega arith) (omega (arith, r.fixed_top)) (some b)
    (most_of b r.exact_top) (hard_rel a b r)
  where
    some : (b : ℕ) → 0 < b + site_c
    some b = omega arith

    most_of : (b : ℕ) → b ≤ 1480000000 * K21 → b + site_c ≤ 65536 * E30
    most_of b h = omega arith

-- ---- the term below k1
-- ln B - ln C
pub logarithms_near :
    (v k1 a b : ℕ) → Paired v k1 → v < k1 → RockNear a b
    → NearZ K21 123 (ln_fixed (a + curve_fixed v k1) -ℤ ln_fixed (a + site_c_fixed)) (ln_e (b + curve v k1) -ℤ ln_e (b + site_c))
logarithms_near v k1 a b p h r = near_sub (soft_ln_near v k1 a b p h r) (hard_ln_near a b r)

soft-near :
    (c : Coefficients) (v a b : ℕ) → Paired v c.k1 → v < c.k1 → RockNear a b
    → NearZ K21 (soft_err c)
    (mul_div c.c10 (ln_quotient v c.k1) (pos 1000)
    +ℤ mul_div c.k2 (ln_fixed (a + curve_fixed v c.k1) -ℤ ln_fixed (a + site_c_fixed)) (pos 1000))
    (times c.c10 (ln_e (v * E30 / c.k1)) +ℤ times c.k2 (ln_e (b + curve v c.k1) -ℤ ln_e (b + site_c)))
unfolding times
soft-near c v a b p h r =
    near_add (near_share 1000 c.c10 (lit≤ tt) (lit≤ tt) (quotient-near v c.k1 p))
    (near_share 1000 c.k2 (lit≤ tt) (lit≤ tt) (logarithms_near v c.k1 a b p h r))

-- from k1 up, v the smaller of V and 1100
linear-near :
    (c : Coefficients) (v : ℕ) → Paired v c.k1
    → NearZ K21 (linear_err c) (mul_div (linear c) (ln_quotient v c.k1) (pos 100000)) (shr_z (linear c *ℤ ln_e (v * E30 / c.k1)) 100000)
linear-near c v p = near_share 100000 (linear c) (lit≤ tt) (lit≤ tt) (quotient-near v c.k1 p)

pub paired : (c : Coefficients) (v : ℕ) → Fair c → 150 ≤ v → v ≤ 1500 → Paired v c.k1
paired c v f l h = record { v_low = l; v_high = h; k_low = f.k1_low; k_high = f.k1_high }

-- the smaller of two, by cases
pub least_by : (P : ℕ → Type 0) (a b : ℕ) → (a < b → P a) → (b ≤ a → P b) → P (least a b)
least_by P a b f g = go (ltb a b) refl
  where
    go : (t : Bool) → ltb a b ≡ t → P (elim t [ true ↦ a | false ↦ b ])
    go true e = f (ltb-true a b e)
    go false e = g (ltb-false a b e)

-- the smaller of V and 1100 is paired with k1 too
pub capped : (c : Coefficients) (v : ℕ) → Fair c → 150 ≤ v → v ≤ 1500 → Paired (least v 1100) c.k1
capped c v f l h = least_by (λ (t : ℕ). Paired t c.k1) v 1100 (λ k. paired c v f l h) (λ k. paired c 1100 f (lit≤ tt) (lit≤ tt))

-- ---- the term, by V and k1
soft_site :
    (c : Coefficients) (v a b : ℕ) → Fair c → 150 ≤ v → v ≤ 1500 → v < c.k1 → RockNear a b
    → NearZ K21 (soft_err c) (f_site_fixed c v a) (f_site c v b)
unfolding f_site_fixed f_site
soft_site c v a b f l h k r = rw (f_site_fixed, f_site, lt-ltb v c.k1 k) (soft-near c v a b (paired c v f l h) k r)

linear_site :
    (c : Coefficients) (v a b : ℕ) → Fair c → 150 ≤ v → v ≤ 1500 → c.k1 ≤ v
    → NearZ K21 (linear_err c) (f_site_fixed c v a) (f_site c v b)
unfolding f_site_fixed f_site
linear_site c v a b f l h k = rw (f_site_fixed, f_site, le-ltb v c.k1 k) (linear-near c (least v 1100) (capped c v f l h))

pub ln_median_at-near :
    (c : Coefficients) (x : Scenario) (a b : ℕ) → Fair c → InRange x → RockNear a b
    → NearZ K21 400 (ln_median_at_fixed c x x.vs30 a) (ln_median_at c x x.vs30 b)
ln_median_at-near c x a b f i r = go (ltb x.vs30 c.k1) refl
  where
    go :
        (t : Bool) → ltb x.vs30 c.k1 ≡ t
        → NearZ K21 400 (ln_median_at_fixed c x x.vs30 a) (ln_median_at c x x.vs30 b)
    go true e =
        near_wide K21 (rest_err c + soft_err c) 400 _ _ f.soft_budget
        (terms_near c x x.vs30 a b f i (soft_site c x.vs30 a b f i.vs30-low i.vs30-high (ltb-true _ _ e) r))
    go false e =
        near_wide K21 (rest_err c + linear_err c) 400 _ _ f.linear_budget
        (terms_near c x x.vs30 a b f i (linear_site c x.vs30 a b f i.vs30-low i.vs30-high (ltb-false _ _ e)))
