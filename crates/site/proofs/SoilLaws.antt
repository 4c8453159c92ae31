-- What is shared by the measures of one k1: which case it is, and how large its numbers are. Assumes nothing.
use Prim.Native.Nat.{ℕ, ◌+◌, ◌≤◌, ◌<◌}
use mathlib.Core.Path.{◌≡◌, refl, sym, subst}
use mathlib.Core.Bool.{Bool, true, false}
use native.Mathlib.Omega.{arith}
use native.Mathlib.Nat.{le-add_right, mul-le-mul_right, div-le_of_le-mul}
use lib.Dec.{ltb, lit≤}
use lib.IntN.{pos, nat_abs, ◌-ℤ◌}
use borrow.Author.Tests.{lt-ltb, le-ltb, ltb-true, ltb-false}
use Rattle.exact.proofs.Signed.{by_sign, abs-parts, sub_is}
use Rattle.fixed.specs.Fixed.{E9, ln_fixed, ln_quotient}
use Rattle.tables.specs.declared.Coefficients.{Coefficients}
use Rattle.model.specs.declared.Scenario.{Scenario}
use Rattle.site.specs.declared.Soil.{Soil}
use Rattle.model.specs.Accuracy.{InRange}
use Rattle.model.specs.Equations.{least}
use Rattle.model.specs.Fixed.{curve_fixed, rock_pga_fixed, share_fixed, site_c_fixed}
use Rattle.tables.specs.OfTables.{OfTable2}
use Rattle.site.specs.Sharing.{soil_of}
use Rattle.model.proofs.Curve.{Paired, quotient-size}
use Rattle.model.proofs.Median.{rock_is_near}
use Rattle.model.proofs.Fair.{fair_of}
use Rattle.model.proofs.SiteNear.{paired, capped}
use Rattle.model.proofs.Sizes.{logarithms_size}

-- ---- the two cases
abbrev pub soft_soil : ℕ → Scenario → Soil
soft_soil k1 x =
    record {
      ratio = ln_quotient x.vs30 k1;
      gain = ln_fixed (rock_pga_fixed x + curve_fixed x.vs30 k1) -ℤ ln_fixed (rock_pga_fixed x + site_c_fixed);
      swing = pos (share_fixed (rock_pga_fixed x) (curve_fixed x.vs30 k1)) -ℤ pos (share_fixed (rock_pga_fixed x) site_c_fixed);
    }

abbrev pub hard_soil : ℕ → Scenario → Soil
hard_soil k1 x = record { ratio = ln_quotient (least x.vs30 1100) k1; gain = pos 0; swing = pos 0 }

pub soft_soil_lem : (k1 : ℕ) (x : Scenario) → x.vs30 < k1 → soil_of k1 x ≡ soft_soil k1 x
unfolding soil_of
soft_soil_lem k1 x h = rw (soil_of, lt-ltb x.vs30 k1 h)

pub hard_soil_lem : (k1 : ℕ) (x : Scenario) → k1 ≤ x.vs30 → soil_of k1 x ≡ hard_soil k1 x
unfolding soil_of
hard_soil_lem k1 x h = rw (soil_of, le-ltb x.vs30 k1 h)

-- a fact of a soil, by the two cases
pub soil_by :
    (P : Soil → Type 0) (k1 : ℕ) (x : Scenario) → (x.vs30 < k1 → P (soft_soil k1 x)) → (k1 ≤ x.vs30 → P (hard_soil k1 x))
    → P (soil_of k1 x)
soil_by P k1 x f g = go (ltb x.vs30 k1) refl
  where
    go : (t : Bool) → ltb x.vs30 k1 ≡ t → P (soil_of k1 x)
    go true e = let h = ltb-true x.vs30 k1 e in subst P (sym (soft_soil_lem k1 x h)) (f h)
    go false e = let h = ltb-false x.vs30 k1 e in subst P (sym (hard_soil_lem k1 x h)) (g h)

-- ---- sizes
-- a share is at most one, and so is the difference of two
pub share_le : (a b : ℕ) → share_fixed a b ≤ E9
share_le a b = div-le_of_le-mul (a + b) (mul-le-mul_right E9 (le-add_right a b))

pub swing_le : (p q : ℕ) → p ≤ E9 → q ≤ E9 → nat_abs (pos p -ℤ pos q) ≤ E9
swing_le p q h k =
    by_sign (pos p -ℤ pos q)
    (λ z. omega (arith, z, abs-parts (pos p -ℤ pos q), sub_is (pos p) (pos q)))
    (λ z. omega (arith, z, abs-parts (pos p -ℤ pos q), sub_is (pos p) (pos q)))

pub record SoilSmall (s : Soil) : Type 0 where
  pub ratio_small : nat_abs s.ratio ≤ 2000000005
  pub gain_small : nat_abs s.gain ≤ 2930000123
  pub swing_small : nat_abs s.swing ≤ 1000000000

pub soil_small : (c : Coefficients) (x : Scenario) → OfTable2 c → InRange x → SoilSmall (soil_of c.k1 x)
soil_small c x o r =
    soil_by SoilSmall c.k1 x
    (λ h. record {
      ratio_small = quotient-size x.vs30 c.k1 p;
      gain_small = logarithms_size x.vs30 c.k1 _ _ p h (rock_is_near x r);
      swing_small = swing_le _ _ (share_le (rock_pga_fixed x) (curve_fixed x.vs30 c.k1)) (share_le (rock_pga_fixed x) site_c_fixed);
    })
    (λ h. record {
      ratio_small = quotient-size (least x.vs30 1100) c.k1 (capped c x.vs30 (fair_of c o) r.vs30-low r.vs30-high);
      gain_small = lit≤ tt;
      swing_small = lit≤ tt;
    })
  where
    p : Paired x.vs30 c.k1
    p = paired c x.vs30 (fair_of c o) r.vs30-low r.vs30-high
