-- Below k1 the swing is the definition's difference; from k1 up it is 0, and so is its share. Assumes nothing.
use Prim.Native.Nat.{◌*◌, ◌^◌, ◌≤◌, ◌<◌}
use mathlib.Core.Path.{◌≡◌, ◌∙◌}
use native.Mathlib.Omega.{arith}
use native.Mathlib.Nat.{mul-le-mul, mul-zero}
use lib.Dec.{lit≤}
use lib.IntN.{ℤ, pos, nat_abs}
use borrow.Author.Tests.{lt-ltb, le-ltb}
use mir.Syntax.{w64}
use mir.Val.{SFits}
use mir.Facts.{to_z-of_z}
use Rattle.exact.proofs.Signed.{sfits-abs, abs-parts}
use Rattle.fixed.specs.Fixed.{mul_div}
use Rattle.fixed.proofs.SignedLaws.{mul_div_zero}
use Rattle.tables.specs.declared.Coefficients.{Coefficients}
use Rattle.model.specs.declared.Scenario.{Scenario}
use Rattle.site.specs.declared.Soil.{Soil}
use Rattle.model.specs.Accuracy.{InRange}
use Rattle.model.specs.Fixed.{alpha_fixed, rock_pga_fixed}
use Rattle.tables.specs.OfTables.{OfTable2}
use Rattle.site.specs.Sharing.{soil_of}
use Rattle.model.proofs.Fair.{fair_of}
use Rattle.model.proofs.Cells.{Cells, cells}
use Rattle.model.proofs.Sizes.{share_size}
use Rattle.terms.proofs.Rows.{of_table}
use Rattle.site.specs.declared.OnSoil.{OnSoil}
use Rattle.site.proofs.SoilLaws.{soil_by, soil_small}
use Rattle.site.proofs.OnSoil.alpha.Goals as goal

record Steps (c : Coefficients) (z : ℤ) : Type 0 where
  cells : Cells c
  z_fits : SFits w64 z
  product : nat_abs c.k2 * nat_abs z < 2 ^ 63
  whole : SFits w64 (mul_div c.k2 z (pos 1000))

steps : (c : Coefficients) (x : Scenario) → OfTable2 c → InRange x → Steps c (soil_of c.k1 x).swing
steps c x o r =
    let f = fair_of c o in
    let k : nat_abs c.k2 ≤ 2670 = omega (arith, abs-parts c.k2, f.k2_sign, f.k2_small) in
    let z : ℤ = (soil_of c.k1 x).swing in
    let s = (soil_small c x o r).swing_small in
    record {
      cells = cells c o;
      z_fits = sfits-abs z (omega (arith, s));
      product = omega (arith, mul-le-mul k s);
      whole = sfits-abs (mul_div c.k2 z (pos 1000)) (omega (arith, share_size c.k2 z 1000 2670 1000000000 2670000000 k s (lit≤ tt)));
    }

known : (m : OnSoil) → Steps m.measure.c (soil_of m.measure.c.k1 m.measure.f.now.x).swing
known m = steps m.measure.c m.measure.f.now.x (of_table m.measure) m.measure.f.now.in_range

alpha-is : (c : Coefficients) (x : Scenario) → mul_div c.k2 (soil_of c.k1 x).swing (pos 1000) ≡ alpha_fixed c x.vs30 (rock_pga_fixed x)
unfolding alpha_fixed
alpha-is c x =
    soil_by (λ (s : Soil). mul_div c.k2 s.swing (pos 1000) ≡ alpha_fixed c x.vs30 (rock_pga_fixed x)) c.k1 x
    (λ h. rw (alpha_fixed, lt-ltb x.vs30 c.k1 h))
    (λ h. mul_div_zero c.k2 (pos 0) (pos 1000) (omega (arith, mul-zero (nat_abs c.k2))) ∙ rw (alpha_fixed, le-ltb x.vs30 c.k1 h))

pub mul_div-requires : goal.mul_div-requires
mul_div-requires c =
    let f = known c.args.self.now in
    simp (c.from.ensures, c.args.self.now.soil_is, f.cells.k2.back, to_z-of_z f.z_fits) (f.product, lit≤ tt)

pub returns : goal.returns
returns c =
    let f = known c.args.self.now in
    simp (c.mul_div.ensures, c.from.ensures, c.args.self.now.soil_is, f.cells.k2.back, to_z-of_z f.z_fits, to_z-of_z f.whole)
    (alpha-is c.args.self.now.measure.c c.args.self.now.measure.f.now.x)
