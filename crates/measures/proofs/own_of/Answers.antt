-- Each field by its own function, at figures that are small by the laws of `Sizes`. Assumes nothing.
use Rattle.std.proofs.Common.{arith, ◌≡◌, ◌≤◌, ◌<◌, ℕ, nat_abs, w64, ℤ, FitsSigned, to_z, of_z, ap, ◌∙◌}
use native.Mathlib.Nat.{mul-le-mul}
use mir.Facts.{to_z-of_z}
use Rattle.exact.specs.Near.{up}
use Rattle.exact.proofs.Signed.{sfits, sfits-abs}
use Rattle.tables.specs.declared.Coefficients.{Coefficients}
use Rattle.tables.specs.declared.Deviations.{Deviations}
use Rattle.tables.specs.Tables.{coefficients_at, deviations_at}
use Rattle.model.specs.declared.Scenario.{Scenario}
use Rattle.model.specs.Accuracy.{InRange}
use Rattle.model.specs.Fixed.{squared_fixed, alpha_fixed, intra_variance_fixed, ln_median_at_fixed, ln_own_fixed, rock_pga_fixed, variance_fixed, own_fixed}
use Rattle.model.proofs.Fair.{fair-at, spread_at_lem}
use Rattle.model.proofs.Median.{rock_is_near, ln_own-size}
use Rattle.model.proofs.Sizes.{alpha-size}
use Rattle.model.proofs.Demand.{variance_size}
use Rattle.measures.proofs.own_of.Goals as goal

-- alpha of a measure
abbrev alpha_at : ℕ → Scenario → ℤ
alpha_at i x = alpha_fixed (coefficients_at i) x.vs30 (rock_pga_fixed x)

record Steps (i : ℕ) (x : Scenario) : Type 0 where
  alpha-small : nat_abs (alpha_at i x) ≤ 2671000367
  t_high : (deviations_at i).t ≤ 500
  s_c_high : (deviations_at i).sC ≤ 300
  t2 : squared_fixed (deviations_at i).t ≤ 250000000
  s_c2 : squared_fixed (deviations_at i).sC ≤ 90000000
  variance_high : variance_fixed i x ≤ 2000000287
  ln_fits : FitsSigned w64 (ln_own_fixed i x)

steps : (i : ℕ) (x : Scenario) → i < 24 → InRange x → Steps i x
steps i x h r =
    let d = spread_at_lem i h in
    let z = ln_own-size i x h r in
    record {
      alpha-small = alpha-size (coefficients_at i) x.vs30 _ _ (fair-at i h) r.vs30-low r.vs30-high (rock_is_near x r);
      t_high = d.t_high;
      s_c_high = d.s_c_high;
      t2 = omega (arith, mul-le-mul d.t_high d.t_high);
      s_c2 = omega (arith, mul-le-mul d.s_c_high d.s_c_high);
      variance_high = variance_size i x h r;
      ln_fits = sfits _ (omega (arith, z.1)) (omega (arith, z.0));
    }

-- ---- what the code works out, in the words of the definitions
alpha_read :
    (i : ℕ) (c : Coefficients) (x : Scenario) (z : ℤ) → Steps i x → c ≡ coefficients_at i → z ≡ alpha_fixed c x.vs30 (rock_pga_fixed x)
    → to_z w64 (of_z w64 z) ≡ alpha_at i x
alpha_read i c x z s e f =
    ap (λ (t : ℤ). to_z w64 (of_z w64 t)) (f ∙ ap (λ (r : Coefficients). alpha_fixed r x.vs30 (rock_pga_fixed x)) e)
    ∙ to_z-of_z (sfits-abs _ (omega (arith, s.alpha-small)))

variance_is :
    (i : ℕ) (x : Scenario) (d : Deviations) (a : ℤ) (v : ℕ) → v ≡ up (intra_variance_fixed d a) → d ≡ deviations_at i → a ≡ alpha_at i x
    → v ≡ variance_fixed i x
unfolding variance_fixed
variance_is i x d a v f e g =
    f ∙ ap (λ (r : Deviations). up (intra_variance_fixed r a)) e ∙ ap (λ (t : ℤ). up (intra_variance_fixed (deviations_at i) t)) g

ln_read :
    (i : ℕ) (c : Coefficients) (x : Scenario) (z : ℤ) → Steps i x → c ≡ coefficients_at i → z ≡ ln_median_at_fixed c x x.vs30 (rock_pga_fixed x)
    → to_z w64 (of_z w64 z) ≡ ln_own_fixed i x
unfolding ln_own_fixed
ln_read i c x z s e f =
    ap (λ (t : ℤ). to_z w64 (of_z w64 t)) (f ∙ ap (λ (r : Coefficients). ln_median_at_fixed r x x.vs30 (rock_pga_fixed x)) e)
    ∙ to_z-of_z s.ln_fits

-- ---- the function
pub intra_variance-intra-requires : goal.intra_variance-intra-requires
intra_variance-intra-requires c =
    let m = c.args.m.now.measure in
    let s = steps m.i m.f.now.x m.below m.f.now.in_range in
    rw (alpha_read m.i m.c m.f.now.x c.alpha.result s m.row c.alpha.ensures)
    (m.below, c.deviations_at-d.ensures, s.alpha-small)

pub squared-requires : goal.squared-requires
squared-requires c =
    let m = c.args.m.now.measure in
    let s = steps m.i m.f.now.x m.below m.f.now.in_range in
    omega (arith, ap (λ (d : Deviations). d.t) c.deviations_at-d.ensures, s.t_high)

pub squared-requires-2 : goal.squared-requires-2
squared-requires-2 c =
    let m = c.args.m.now.measure in
    let s = steps m.i m.f.now.x m.below m.f.now.in_range in
    omega (arith, ap (λ (d : Deviations). d.sC) c.deviations_at-d.ensures, s.s_c_high)

pub overflow_add-total : goal.overflow_add-total
overflow_add-total c =
    let m = c.args.m.now.measure in
    let s = steps m.i m.f.now.x m.below m.f.now.in_range in
    let a = alpha_read m.i m.c m.f.now.x c.alpha.result s m.row c.alpha.ensures in
    let v = variance_is m.i m.f.now.x _ _ c.intra_variance-intra.result c.intra_variance-intra.ensures c.deviations_at-d.ensures a in
    let t = c.squared.ensures ∙ ap (λ (d : Deviations). squared_fixed d.t) c.deviations_at-d.ensures in
    record { fits = omega (arith, t, v, s.t2, s.variance_high) }

pub overflow_add-arbitrary : goal.overflow_add-arbitrary
overflow_add-arbitrary c =
    let m = c.args.m.now.measure in
    let s = steps m.i m.f.now.x m.below m.f.now.in_range in
    let a = alpha_read m.i m.c m.f.now.x c.alpha.result s m.row c.alpha.ensures in
    let v = variance_is m.i m.f.now.x _ _ c.intra_variance-intra.result c.intra_variance-intra.ensures c.deviations_at-d.ensures a in
    let t = c.squared.ensures ∙ ap (λ (d : Deviations). squared_fixed d.t) c.deviations_at-d.ensures in
    let q = c.squared-2.ensures ∙ ap (λ (d : Deviations). squared_fixed d.sC) c.deviations_at-d.ensures in
    record { fits = omega (arith, q, t, v, s.t2, s.s_c2, s.variance_high) }

pub returns : goal.returns
unfolding own_fixed
returns c =
    let m = c.args.m.now.measure in
    let s = steps m.i m.f.now.x m.below m.f.now.in_range in
    let a = alpha_read m.i m.c m.f.now.x c.alpha.result s m.row c.alpha.ensures in
    let v = variance_is m.i m.f.now.x _ _ c.intra_variance-intra.result c.intra_variance-intra.ensures c.deviations_at-d.ensures a in
    let t = c.squared.ensures ∙ ap (λ (d : Deviations). squared_fixed d.t) c.deviations_at-d.ensures in
    let q = c.squared-2.ensures ∙ ap (λ (d : Deviations). squared_fixed d.sC) c.deviations_at-d.ensures in
    let l = ln_read m.i m.c m.f.now.x c.ln_own.result s m.row c.ln_own.ensures in
    let u = ap (λ (d : Deviations). d.t) c.deviations_at-d.ensures in
    simp (l, v, t, q, c.from.ensures, u)
