-- The ln median of PGA at 1100 m/s lies in the exponential's range; A1100 is small enough for its logarithm and its share. Assumes
-- nothing.
use Prim.Native.Nat.{ℕ, ◌/◌, ◌≤◌}
use mathlib.Core.Path.{◌≡◌, refl, sym, ap, ap₂, ◌∙◌}
use native.Mathlib.Omega.{arith}
use native.Mathlib.Nat.{le_trans}
use lib.Dec.{lit≤}
use lib.IntN.{ℤ, pos, neg_ℤ}
use mir.Syntax.{w64}
use mir.Val.{SFits, to_z, of_z}
use mir.Facts.{to_z-of_z}
use Rattle.exact.proofs.Signed.{sfits}
use Rattle.fixed.specs.Fixed.{mul_div, ln_quotient, exp_fixed}
use Rattle.tables.specs.declared.Coefficients.{Coefficients}
use Rattle.tables.specs.Tables.{PGA, table2, coefficients_at}
use Rattle.model.specs.declared.Scenario.{Scenario}
use Rattle.model.specs.Accuracy.{InRange}
use Rattle.model.specs.Fixed.{f_site_fixed, ln_sum, ln_median_at_fixed, rock_pga_fixed}
use Rattle.model.proofs.Rock.{rock_ln_size, rock_top_fixed}
use Rattle.terms.specs.declared.Measure.{Measure}
use Rattle.site.proofs.rock.rock_of.Goals as goal

-- the constant of the code
site_is : f_site_fixed (coefficients_at PGA) 1100 0 ≡ neg_ℤ (pos 82069920)
unfolding f_site_fixed mul_div ln_quotient coefficients_at table2
site_is = refl

sum_fits : (x : Scenario) → InRange x → SFits w64 (ln_median_at_fixed (coefficients_at PGA) x 1100 0)
sum_fits x r = let z = rock_ln_size x r in sfits _ (omega (arith, z.1)) (omega (arith, z.0))

-- PGA's row of Table 2
pga_row : (m : Measure) → m.i ≡ PGA → m.c ≡ coefficients_at PGA
pga_row m e = m.row ∙ ap coefficients_at e

-- the sum is the definition's
sum_is :
    (m : Measure) (s : ℤ) → m.i ≡ PGA → s ≡ ln_sum m.c m.f.now.x (neg_ℤ (pos 82069920))
    → s ≡ ln_median_at_fixed (coefficients_at PGA) m.f.now.x 1100 0
unfolding ln_median_at_fixed
sum_is m s k e = e ∙ ap₂ (λ (r : Coefficients) (z : ℤ). ln_sum r m.f.now.x z) (pga_row m k) (sym site_is)

-- A1100 as the code has it
pga_is : (m : Measure) (s : ℤ) (a : ℕ) → m.i ≡ PGA → s ≡ ln_sum m.c m.f.now.x (neg_ℤ (pos 82069920))
    → a ≡ exp_fixed (to_z w64 (of_z w64 s)) → a / 10 ≡ rock_pga_fixed m.f.now.x
unfolding rock_pga_fixed
pga_is m s a k e f = simp (f, sum_is m s k e, to_z-of_z (sum_fits m.f.now.x m.f.now.in_range))

rock_high : (m : Measure) (a : ℕ) → a ≡ rock_pga_fixed m.f.now.x → a ≤ 1490000000
rock_high m a e = rw e (rock_top_fixed m.f.now.x m.f.now.in_range)

pub exp_fixed-pga-requires : goal.exp_fixed-pga-requires
exp_fixed-pga-requires c =
    let m = c.args.m.now in
    let z = rock_ln_size m.f.now.x m.f.now.in_range in
    let e = sum_is m _ c.requires c.ln_sum.ensures in
    simp (e, to_z-of_z (sum_fits m.f.now.x m.f.now.in_range)) (le_trans z.1 (lit≤ tt), le_trans z.0 (lit≤ tt))

pub ln_fixed-requires : goal.ln_fixed-requires
ln_fixed-requires c =
    let e = pga_is c.args.m.now _ _ c.requires c.ln_sum.ensures c.exp_fixed-pga.ensures in
    (omega arith, omega (arith, rock_high c.args.m.now _ e))

pub share_of-requires : goal.share_of-requires
share_of-requires c =
    let e = pga_is c.args.m.now _ _ c.requires c.ln_sum.ensures c.exp_fixed-pga.ensures in
    (rock_high c.args.m.now _ e, lit≤ tt, lit≤ tt)

pub returns : goal.returns
returns c = pga_is c.args.m.now _ _ c.requires c.ln_sum.ensures c.exp_fixed-pga.ensures
