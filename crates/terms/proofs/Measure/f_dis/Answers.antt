-- The slope and the logarithm are small, so their product fits. Assumes nothing.
use Prim.Native.Nat.{◌*◌, ◌^◌, ◌≤◌, ◌<◌}
use mathlib.Core.Path.{◌≡◌}
use native.Mathlib.Omega.{arith}
use native.Mathlib.Nat.{mul-le-mul}
use lib.Dec.{lit≤}
use lib.IntN.{pos, nat_abs, ◌*ℤ◌}
use mir.Syntax.{w64}
use mir.Val.{SFits, to_z}
use mir.Facts.{to_z-of_z, to_z_pos}
use Rattle.exact.proofs.Signed.{sfits-abs, abs-parts, mul-abs, mul-abs-le}
use Rattle.tables.specs.declared.Coefficients.{Coefficients}
use Rattle.model.specs.declared.Scenario.{Scenario}
use Rattle.model.specs.Accuracy.{InRange}
use Rattle.model.specs.Equations.{slope}
use Rattle.model.specs.Fixed.{ln_distance, f_dis_fixed}
use Rattle.tables.specs.OfTables.{OfTable2}
use Rattle.model.proofs.Fair.{fair_of}
use Rattle.model.proofs.Cells.{Cells, cells}
use Rattle.model.proofs.Sizes.{ln_distance-size, f_dis-size}
use Rattle.model.proofs.TermsNear.{slope-size}
use Rattle.terms.specs.declared.Measure.{Measure}
use Rattle.terms.proofs.Rows.{of_table}
use Rattle.terms.proofs.Measure.f_dis.Goals as goal

record Steps (c : Coefficients) (x : Scenario) : Type 0 where
  bits : to_z w64 x.m ≡ pos x.m
  cells : Cells c
  p4 : SFits w64 (pos 100 *ℤ c.c4)
  p5 : SFits w64 (c.c5 *ℤ pos x.m)
  sum : SFits w64 (slope c x.m)
  ln_fits : SFits w64 (ln_distance c.c6 x.rrup)
  product : nat_abs (slope c x.m) * nat_abs (ln_distance c.c6 x.rrup) < 2 ^ 63
  whole : SFits w64 (f_dis_fixed c x.m x.rrup)

steps : (c : Coefficients) (x : Scenario) → OfTable2 c → InRange x → Steps c x
steps c x o r =
    let f = fair_of c o in
    let s = slope-size c x.m f r.m_low r.m_high in
    let l = ln_distance-size c.c6 x.rrup f.c6_low f.c6_high r.rrup-high in
    let p = mul-le-mul s l in
    let small4 : nat_abs c.c4 ≤ 1000000 =
    omega (arith, abs-parts c.c4, abs-parts c.c5, f.c4_sign, f.c5_sign, f.slope-low, f.slope-high) in
    let small5 : nat_abs c.c5 ≤ 1000000 =
    omega (arith, abs-parts c.c4, abs-parts c.c5, f.c4_sign, f.c5_sign, f.slope-low, f.slope-high) in
    record {
      bits = to_z_pos w64 (omega (arith, r.m_high));
      cells = cells c o;
      p4 = sfits-abs (pos 100 *ℤ c.c4) (omega (arith, small4, mul-abs (pos 100) c.c4));
      p5 = sfits-abs (c.c5 *ℤ pos x.m) (omega (arith, mul-abs-le c.c5 (pos x.m) small5 r.m_high));
      sum = sfits-abs (slope c x.m) (omega (arith, s));
      ln_fits = sfits-abs (ln_distance c.c6 x.rrup) (omega (arith, l));
      product = omega (arith, p);
      whole = sfits-abs (f_dis_fixed c x.m x.rrup) (omega (arith, f_dis-size c x.m x.rrup f r.m_low r.m_high r.rrup-high));
    }

known : (m : Measure) → Steps m.c m.f.now.x
known m = steps m.c m.f.now.x (of_table m) m.f.now.in_range

pub overflow_add-slope : goal.overflow_add-slope
overflow_add-slope c =
    let f = known c.args.self.now in
    simp (c.from.ensures, c.from-2.ensures, f.cells.c4.back, f.cells.c5.back, f.bits, to_z-of_z f.p4, to_z-of_z f.p5) f.sum

pub mul_div-requires : goal.mul_div-requires
mul_div-requires c =
    let f = known c.args.self.now in
    simp
    (c.args.self.now.path_is, c.from.ensures, c.from-2.ensures, f.cells.c4.back, f.cells.c5.back, f.bits, to_z-of_z f.p4, to_z-of_z f.p5, to_z-of_z f.sum, to_z-of_z f.ln_fits)
    (f.product, lit≤ tt)

pub returns : goal.returns
unfolding f_dis_fixed
returns c =
    let f = known c.args.self.now in
    simp (
      c.mul_div.ensures,
      c.args.self.now.path_is,
      c.from.ensures,
      c.from-2.ensures,
      f.cells.c4.back,
      f.cells.c5.back,
      f.bits,
      to_z-of_z f.p4,
      to_z-of_z f.p5,
      to_z-of_z f.sum,
      to_z-of_z f.ln_fits,
      to_z-of_z f.whole,
    )
