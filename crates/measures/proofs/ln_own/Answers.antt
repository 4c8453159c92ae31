-- The sum of six terms at the site's own Vs30 and A1100. Assumes nothing.
use Rattle.std.proofs.Common.{arith, ◌≡◌, ◌≤◌, nat_abs, w64, ℤ, FitsSigned, to_z, of_z, sym, ap, subst, ◌∙◌}
use mir.Facts.{to_z-of_z}
use Rattle.exact.proofs.Signed.{sfits, sfits-abs}
use Rattle.tables.specs.declared.Coefficients.{Coefficients}
use Rattle.tables.specs.OfTables.{OfTable2}
use Rattle.model.specs.declared.Scenario.{Scenario}
use Rattle.model.specs.Accuracy.{InRange}
use Rattle.model.specs.Fixed.{f_site_fixed, ln_sum, rock_pga_fixed, ln_median_at_fixed, ln_own_fixed}
use Rattle.model.proofs.Median.{rock_is_near, ln_own-size}
use Rattle.model.proofs.Fair.{fair_of}
use Rattle.model.proofs.Sizes.{f_site-size}
use Rattle.terms.proofs.Rows.{of_table}
use Rattle.measures.proofs.ln_own.Goals as goal

module _ (c : Coefficients) (x : Scenario) (o : OfTable2 c) (r : InRange x) where
  site_small : nat_abs (f_site_fixed c x.vs30 (rock_pga_fixed x)) ≤ 13100000000
  site_small = f_site-size c x.vs30 _ _ (fair_of c o) r.vs30-low r.vs30-high (rock_is_near x r)

  -- as the machine reads it
  site_read : (z : ℤ) → z ≡ f_site_fixed c x.vs30 (rock_pga_fixed x) → to_z w64 (of_z w64 z) ≡ f_site_fixed c x.vs30 (rock_pga_fixed x)
  site_read z e = ap (λ (t : ℤ). to_z w64 (of_z w64 t)) e ∙ to_z-of_z (sfits-abs _ (omega (arith, site_small)))

  -- the sum is that of the row's measure, and so it is small
  sum_fits : FitsSigned w64 (ln_median_at_fixed c x x.vs30 (rock_pga_fixed x))
  unfolding ln_own_fixed
  sum_fits =
      let z = ln_own-size o.i x o.below r in
      subst (λ (r : Coefficients). FitsSigned w64 (ln_median_at_fixed r x x.vs30 (rock_pga_fixed x))) (sym o.is)
      (sfits (ln_own_fixed o.i x) (omega (arith, z.1)) (omega (arith, z.0)))

  sum_is : (y z : ℤ) → y ≡ f_site_fixed c x.vs30 (rock_pga_fixed x) → z ≡ ln_sum c x (to_z w64 (of_z w64 y))
      → to_z w64 (of_z w64 z) ≡ ln_median_at_fixed c x x.vs30 (rock_pga_fixed x)
  unfolding ln_median_at_fixed
  sum_is y z e f = ap (λ (t : ℤ). to_z w64 (of_z w64 t)) (f ∙ ap (λ (s : ℤ). ln_sum c x s) (site_read y e)) ∙ to_z-of_z sum_fits

pub ln_sum-requires : goal.ln_sum-requires
ln_sum-requires c =
    let m = c.args.m.now.measure in
    rw (site_read m.c m.f.now.x (of_table m) m.f.now.in_range c.f_site.result c.f_site.ensures)
    (site_small m.c m.f.now.x (of_table m) m.f.now.in_range)

pub returns : goal.returns
returns c =
    let m = c.args.m.now.measure in
    sum_is m.c m.f.now.x (of_table m) m.f.now.in_range c.f_site.result c.ln_sum.result c.f_site.ensures c.ln_sum.ensures
