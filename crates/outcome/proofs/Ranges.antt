-- What an accepted stage says of its figures: each lies in its range, given or completed. Assumes nothing.
use Prim.Native.Nat.{ℕ, ◌*◌, ◌/◌, ◌≤◌}
use mathlib.Core.Path.{◌≡◌, refl, subst}
use mathlib.Core.Bool.{Bool, true, false, not, cond, ◌&&◌}
use mathlib.Core.List.{[]}
use native.Mathlib.Omega.{arith}
use lib.Dec.{T}
use lib.IntN.{ℤ, pos}
use lib.Signed.{le_z}
use borrow.Author.Tests.{not-false, ltb-false}
use Rattle.std.specs.Prelude.{None}
use Rattle.exact.proofs.Signed.{by_sign, abs-parts, le_parts}
use Rattle.request.specs.declared.Field.{Field}
use Rattle.request.specs.declared.Field.TheVariants.{Measured, Inferred, Estimated, Blank}
use Rattle.request.specs.declared.Style.{Style}
use Rattle.request.specs.declared.Style.TheVariants.{StrikeSlip, Reverse, Normal}
use Rattle.request.specs.declared.Request.{Request}
use Rattle.request.specs.Fields.{is_given, is_blank, value_of, size_of, within, allowed}
use Rattle.request.specs.Styles.{top_magnitude}
use Rattle.rules.specs.Rules.{hypocentre, basin_from_z15, basin_from_z10}
use Rattle.rules.specs.Fixed.{basin_fixed}
use Rattle.rules.proofs.Ranges.{dip_of_range, hypocentre-top}
use Rattle.rules.proofs.WidthNear.{width_fixed-near}
use Rattle.rules.proofs.BasinNear.{basin_fixed-near}
use Rattle.outcome.specs.Figures.{or_estimate, style, dip, width, zhyp, tenths_of, zhyp_tenths, ztor, basin_of}
use Rattle.refusals.specs.Order.{first}
use Rattle.outcome.specs.Refusals.{source_given, source_rows, path_given, path_rows, site_given}
use Rattle.refusals.proofs.Rows.{clear, first-both}

-- ---- one field
both : (a b : Bool) → a && b ≡ true → (a ≡ true) × (b ≡ true)
both true b e = (refl, e)
both false b e = absurd (subst (λ (t : Bool). T (not t)) e tt)

pub within-size : (f : Field) (a b : ℕ) → within f (pos a) (pos b) ≡ true → (a ≤ size_of f) × (size_of f ≤ b)
unfolding within size_of
within-size f a b e =
    let v : ℤ = value_of f in
    let given = both (is_given f) (le_z (pos a) v && le_z v (pos b)) e in
    let t = both (le_z (pos a) v) (le_z v (pos b)) given.1 in
    let low = le_parts (pos a) v t.0 in
    let high = le_parts v (pos b) t.1 in
    by_sign v
    (λ h. (omega (arith, abs-parts v, low), omega (arith, abs-parts v, high)))
    (λ h. (omega (arith, abs-parts v, low), omega (arith, abs-parts v, low)))

pub allowed-size : (f : Field) (a b : ℕ) → allowed f (pos a) (pos b) ≡ true → size_of f ≤ b
unfolding allowed is_blank size_of value_of
allowed-size (Measured v) a b e = (within-size (Measured v) a b e).1
allowed-size (Inferred v) a b e = (within-size (Inferred v) a b e).1
allowed-size (Estimated v) a b e = (within-size (Estimated v) a b e).1
allowed-size Blank a b e = omega arith

-- a figure, where the estimate lies in the range too
pub figure_range :
    (f : Field) (e a b : ℕ) → allowed f (pos a) (pos b) ≡ true → a ≤ e → e ≤ b
    → (a ≤ size_of (or_estimate f e)) × (size_of (or_estimate f e) ≤ b)
unfolding or_estimate allowed is_blank size_of value_of
figure_range (Measured v) e a b t l h = within-size (Measured v) a b t
figure_range (Inferred v) e a b t l h = within-size (Inferred v) a b t
figure_range (Estimated v) e a b t l h = within-size (Estimated v) a b t
figure_range Blank e a b t l h = (l, h)

magnitude : (f : Field) (s : Style) → within f (pos 400) (top_magnitude s) ≡ true → (400 ≤ size_of f) × (size_of f ≤ 850)
unfolding top_magnitude
magnitude f StrikeSlip e = within-size f 400 850 e
magnitude f Reverse e = let w = within-size f 400 800 e in (w.0, omega (arith, w.1))
magnitude f Normal e = let w = within-size f 400 750 e in (w.0, omega (arith, w.1))

-- ---- the source
pub record SourceRange (r : Request) : Type 0 where
  pub m_low : 400 ≤ size_of r.m
  pub m_high : size_of r.m ≤ 850
  pub vs30-low : 150 ≤ size_of r.vs30
  pub vs30-high : size_of r.vs30 ≤ 1500
  pub dip-low : 15 ≤ size_of (dip r)
  pub dip-high : size_of (dip r) ≤ 90
  pub w_low : 1 ≤ size_of (width r)
  pub w_high : size_of (width r) ≤ 100000
  pub zhyp-given : size_of r.zhyp ≤ 30000
  pub zhyp-high : zhyp_tenths r ≤ 300000
  pub zhyp-whole : size_of (zhyp r) ≤ 30000

zhyp-most : (f : Field) (s : Style) (m : ℕ) → m ≤ 850 → size_of f ≤ 30000 → tenths_of f s m ≤ 300000
unfolding tenths_of
zhyp-most f s m h k = go (is_blank f)
  where
    go : (t : Bool) → cond t (hypocentre s m) (10 * size_of f) ≤ 300000
    go true = hypocentre-top s m h
    go false = omega arith

pub source_range : (r : Request) → first (source_given r) ≡ None → SourceRange r
unfolding source_given dip width zhyp zhyp_tenths
source_range r e =
    let c1 = clear _ _ e in
    let c2 = clear _ _ c1.1 in
    let c3 = clear _ _ c2.1 in
    let c4 = clear _ _ c3.1 in
    let c5 = clear _ _ c4.1 in
    let c6 = clear _ _ c5.1 in
    let m = magnitude r.m (style r) (not-false _ c2.0) in
    let v = within-size r.vs30 150 1500 (not-false _ c3.0) in
    let d = figure_range r.dip _ 15 90 (not-false _ c4.0) (dip_of_range (style r)).0 (dip_of_range (style r)).1 in
    let near = width_fixed-near (style r) (size_of r.m) m.0 m.1 in
    let w = figure_range r.w _ 1 100000 (not-false _ c5.0) near.bottom near.top in
    let z = allowed-size r.zhyp 0 30000 (not-false _ c6.0) in
    record {
      m_low = m.0;
      m_high = m.1;
      vs30-low = v.0;
      vs30-high = v.1;
      dip-low = d.0;
      dip-high = d.1;
      w_low = w.0;
      w_high = w.1;
      zhyp-given = z;
      zhyp-high = zhyp-most r.zhyp (style r) (size_of r.m) m.1 z;
      zhyp-whole =
          (figure_range r.zhyp (hypocentre (style r) (size_of r.m) / 10) 0 30000 (not-false _ c6.0) (omega arith)
          (omega (arith, hypocentre-top (style r) (size_of r.m) m.1))
          ).1;
    }

-- with ZTOR, given or completed
pub top_range : (r : Request) → first (source_rows r) ≡ None → size_of (ztor r) ≤ 15000
unfolding source_rows source_given
top_range r e =
    let t = first-both (source_given r) _ e in
    ltb-false 15000 (size_of (ztor r)) (clear _ [] t.1).0

pub source_given_lem : (r : Request) → first (source_rows r) ≡ None → first (source_given r) ≡ None
unfolding source_rows source_given
source_given_lem r e = (first-both (source_given r) _ e).0

-- ---- the path
pub record PathRange (r : Request) : Type 0 where
  pub rjb-high : size_of r.rjb ≤ 200000
  pub rrup-given : size_of r.rrup ≤ 200000

pub path_range : (r : Request) → first (path_given r) ≡ None → PathRange r
unfolding path_given
path_range r e =
    let c8 = clear _ _ e in
    let c9 = clear _ _ c8.1 in
    let c10 = clear _ _ c9.1 in
    let c11 = clear _ _ c10.1 in
    record {
      rjb-high = (within-size r.rjb 0 200000 (not-false _ c8.0)).1;
      rrup-given = allowed-size r.rrup 0 200000 (not-false _ c11.0);
    }

pub path_given_lem : (r : Request) → first (path_rows r) ≡ None → first (path_given r) ≡ None
unfolding path_rows path_given
path_given_lem r e = (first-both (path_given r) _ e).0

-- ---- the site
pub record SiteRange (r : Request) : Type 0 where
  pub z10_given : size_of r.z10 ≤ 10000
  pub z15_given : size_of r.z15 ≤ 10000

pub site_range : (r : Request) → first (site_given r) ≡ None → SiteRange r
unfolding site_given
site_range r e =
    let c1 = clear _ _ e in
    let c2 = clear _ _ c1.1 in
    record {
      z10_given = allowed-size r.z10 0 10000 (not-false _ c1.0);
      z15_given = allowed-size r.z15 0 10000 (not-false _ c2.0);
    }

-- so that its estimate is small
pub basin-most : (z15 z10 : Field) (v : ℕ) → size_of z15 ≤ 10000 → size_of z10 ≤ 10000 → 150 ≤ v → v ≤ 1500 → basin_of z15 z10 v ≤ 40000
unfolding basin_of
basin-most z15 z10 v h k low high = go (is_given z15) (is_given z10)
  where
    go : (a b : Bool) → cond a (basin_from_z15 (size_of z15)) (cond b (basin_from_z10 (size_of z10)) (basin_fixed v)) ≤ 40000
    go true b = omega arith
    go false true = omega arith
    go false false = omega (arith, (basin_fixed-near v low high).top)
