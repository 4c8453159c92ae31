-- Below k1 and from k1 up the term is the definition's, its products small by the row's sizes. Assumes nothing.
use Prim.Native.Nat.{◌*◌, ◌^◌, ◌≤◌, ◌<◌}
use mathlib.Core.Path.{◌≡◌}
use native.Mathlib.Omega.{arith}
use native.Mathlib.Nat.{mul-le-mul}
use lib.Dec.{lit≤}
use lib.IntN.{ℤ, pos, nat_abs, ◌+ℤ◌}
use borrow.Author.Tests.{lt-ltb, le-ltb}
use mir.Syntax.{w64}
use mir.Val.{SFits}
use mir.Facts.{to_z-of_z}
use Rattle.exact.proofs.Signed.{sfits-abs, abs-parts, add-abs}
use Rattle.fixed.specs.Fixed.{mul_div}
use Rattle.tables.specs.declared.Coefficients.{Coefficients}
use Rattle.model.specs.declared.Scenario.{Scenario}
use Rattle.site.specs.declared.Soil.{Soil}
use Rattle.model.specs.Accuracy.{InRange}
use Rattle.model.specs.Equations.{linear}
use Rattle.model.specs.Fixed.{f_site_fixed, rock_pga_fixed}
use Rattle.tables.specs.OfTables.{OfTable2}
use Rattle.site.specs.Sharing.{soil_of}
use Rattle.model.proofs.Fair.{fair_of}
use Rattle.model.proofs.Cells.{Cells, cells}
use Rattle.model.proofs.Sizes.{share_size}
use Rattle.terms.proofs.Rows.{of_table}
use Rattle.site.specs.declared.OnSoil.{OnSoil}
use Rattle.site.proofs.SoilLaws.{soft_soil_lem, hard_soil_lem, soil_small}
use Rattle.site.proofs.OnSoil.f_site.Goals as goal

-- the products with a soil's numbers
record Steps (c : Coefficients) (s : Soil) : Type 0 where
  cells : Cells c
  linear-fits : SFits w64 (linear c)
  ratio_fits : SFits w64 s.ratio
  gain_fits : SFits w64 s.gain
  by_c10 : nat_abs c.c10 * nat_abs s.ratio < 2 ^ 63
  by_k2 : nat_abs c.k2 * nat_abs s.gain < 2 ^ 63
  by_linear : nat_abs (linear c) * nat_abs s.ratio < 2 ^ 63
  p : SFits w64 (mul_div c.c10 s.ratio (pos 1000))
  q : SFits w64 (mul_div c.k2 s.gain (pos 1000))
  sum : SFits w64 (mul_div c.c10 s.ratio (pos 1000) +ℤ mul_div c.k2 s.gain (pos 1000))
  whole : SFits w64 (mul_div (linear c) s.ratio (pos 100000))

steps : (c : Coefficients) (x : Scenario) → OfTable2 c → InRange x → Steps c (soil_of c.k1 x)
steps c x o r =
    let f = fair_of c o in
    let s : Soil = soil_of c.k1 x in
    let k : nat_abs c.k2 ≤ 2670 = omega (arith, abs-parts c.k2, f.k2_sign, f.k2_small) in
    let z = soil_small c x o r in
    let a : ℤ = mul_div c.c10 s.ratio (pos 1000) in
    let b : ℤ = mul_div c.k2 s.gain (pos 1000) in
    let ha = share_size c.c10 s.ratio 1000 2600 2000000005 5200000013 f.c10_small z.ratio_small (lit≤ tt) in
    let hb = share_size c.k2 s.gain 1000 2670 2930000123 7823100329 k z.gain_small (lit≤ tt) in
    record {
      cells = cells c o;
      linear-fits = sfits-abs (linear c) (omega (arith, f.linear-small));
      ratio_fits = sfits-abs s.ratio (omega (arith, z.ratio_small));
      gain_fits = sfits-abs s.gain (omega (arith, z.gain_small));
      by_c10 = omega (arith, mul-le-mul f.c10_small z.ratio_small);
      by_k2 = omega (arith, mul-le-mul k z.gain_small);
      by_linear = omega (arith, mul-le-mul f.linear-small z.ratio_small);
      p = sfits-abs a (omega (arith, ha));
      q = sfits-abs b (omega (arith, hb));
      sum = sfits-abs (a +ℤ b) (omega (arith, ha, hb, add-abs a b));
      whole =
          sfits-abs (mul_div (linear c) s.ratio (pos 100000))
          (omega (
            arith,
            share_size (linear c) s.ratio 100000 82000 2000000005 13100000000 f.linear-small z.ratio_small (lit≤ tt),
          ));
    }

known : (m : OnSoil) → Steps m.measure.c (soil_of m.measure.c.k1 m.measure.f.now.x)
known m = steps m.measure.c m.measure.f.now.x (of_table m.measure) m.measure.f.now.in_range

soft-is :
    (c : Coefficients) (x : Scenario) → x.vs30 < c.k1
    → mul_div c.c10 (soil_of c.k1 x).ratio (pos 1000) +ℤ mul_div c.k2 (soil_of c.k1 x).gain (pos 1000)
    ≡ f_site_fixed c x.vs30 (rock_pga_fixed x)
unfolding f_site_fixed
soft-is c x h = rw (soft_soil_lem c.k1 x h, f_site_fixed, lt-ltb x.vs30 c.k1 h)

hard-is :
    (c : Coefficients) (x : Scenario) → c.k1 ≤ x.vs30
    → mul_div (linear c) (soil_of c.k1 x).ratio (pos 100000) ≡ f_site_fixed c x.vs30 (rock_pga_fixed x)
unfolding f_site_fixed
hard-is c x h = rw (hard_soil_lem c.k1 x h, f_site_fixed, le-ltb x.vs30 c.k1 h)

pub mul_div-requires : goal.mul_div-requires
mul_div-requires c =
    let f = known c.args.self.now in
    simp (c.from-then-self-from.ensures, c.args.self.now.soil_is, f.cells.c10.back, to_z-of_z f.ratio_fits) (f.by_c10, lit≤ tt)

pub mul_div-requires-then-self-from : goal.mul_div-requires-then-self-from
mul_div-requires-then-self-from c =
    let f = known c.args.self.now in
    simp (c.from-then-self-from-2.ensures, c.args.self.now.soil_is, f.cells.k2.back, to_z-of_z f.gain_fits) (f.by_k2, lit≤ tt)

pub overflow_add-result : goal.overflow_add-result
overflow_add-result c =
    let f = known c.args.self.now in
    simp (
      c.mul_div.ensures,
      c.mul_div-then-self-from.ensures,
      c.from-then-self-from.ensures,
      c.from-then-self-from-2.ensures,
      c.args.self.now.soil_is,
      f.cells.c10.back,
      to_z-of_z f.ratio_fits,
      f.cells.k2.back,
      to_z-of_z f.gain_fits,
      to_z-of_z f.p,
      to_z-of_z f.q,
    )
    f.sum

pub returns-then-self-from : goal.returns-then-self-from
returns-then-self-from c =
    let f = known c.args.self.now in
    simp (
      c.mul_div.ensures,
      c.mul_div-then-self-from.ensures,
      c.from-then-self-from.ensures,
      c.from-then-self-from-2.ensures,
      c.args.self.now.soil_is,
      f.cells.c10.back,
      to_z-of_z f.ratio_fits,
      f.cells.k2.back,
      to_z-of_z f.gain_fits,
      to_z-of_z f.p,
      to_z-of_z f.q,
      to_z-of_z f.sum,
    )
    (soft-is c.args.self.now.measure.c c.args.self.now.measure.f.now.x (rw c.from.ensures at c.if-self-from.true))

pub mul_div-requires-2 : goal.mul_div-requires-2
mul_div-requires-2 c =
    let f = known c.args.self.now in
    simp (c.linear.ensures, c.args.self.now.soil_is, to_z-of_z f.linear-fits, to_z-of_z f.ratio_fits) (f.by_linear, lit≤ tt)

pub returns : goal.returns
returns c =
    let f = known c.args.self.now in
    simp
    (c.mul_div-2.ensures, c.linear.ensures, c.args.self.now.soil_is, to_z-of_z f.linear-fits, to_z-of_z f.ratio_fits, to_z-of_z f.whole)
    (hard-is c.args.self.now.measure.c c.args.self.now.measure.f.now.x (rw c.from.ensures at c.if-self-from.false))
