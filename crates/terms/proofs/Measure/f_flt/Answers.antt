-- One case a style, each product small by the sizes of c7 and c8. Assumes nothing.
use Prim.Native.Nat.{ℕ}
use Rattle.std.proofs.Common.{min}
use Rattle.std.proofs.lemmas.Bool.Decides.{nat_tests}
use mathlib.Core.Path.{◌≡◌}
use native.Mathlib.Omega.{arith}
use lib.IntN.{pos, ◌*ℤ◌}
use mir.Syntax.{w64}
use mir.Val.{SFits, to_z}
use mir.Facts.{to_z-of_z, to_z_pos}
use Rattle.exact.proofs.Signed.{sfits-abs, mul-abs-le}
use Rattle.request.specs.declared.Style.TheVariants.{Reverse, Normal}
use Rattle.tables.specs.declared.Coefficients.{Coefficients}
use Rattle.model.specs.Equations.{f_flt_z}
use Rattle.model.specs.Fixed.{f_flt_fixed}
use Rattle.tables.specs.OfTables.{OfTable2}
use Rattle.model.proofs.Ends.{f_flt_z-le}
use Rattle.model.proofs.Fair.{fair_of}
use Rattle.model.proofs.Cells.{Cells, cells}
use Rattle.model.proofs.Sizes.{f_flt-size}
use Rattle.terms.specs.declared.Measure.{Measure}
use Rattle.terms.proofs.Rows.{of_table}
use Rattle.terms.proofs.Measure.f_flt.Goals as goal

record Steps (c : Coefficients) (z : ℕ) : Type 0 where
  z_fits : SFits w64 (pos (f_flt_z z))
  bits : to_z w64 (f_flt_z z) ≡ pos (f_flt_z z)
  cells : Cells c
  product : SFits w64 (c.c7 *ℤ pos (f_flt_z z))
  reverse : SFits w64 (c.c7 *ℤ pos (f_flt_z z) *ℤ pos 1000)
  normal : SFits w64 (c.c8 *ℤ pos 1000000)

steps : (c : Coefficients) (z : ℕ) → OfTable2 c → Steps c z
unfolding f_flt_fixed
steps c z o =
    let f = fair_of c o in
    let k = f_flt_z-le z in
    record {
      z_fits = sfits-abs (pos (f_flt_z z)) (omega (arith, k));
      bits = to_z_pos w64 (omega (arith, k));
      cells = cells c o;
      product = sfits-abs (c.c7 *ℤ pos (f_flt_z z)) (omega (arith, mul-abs-le c.c7 (pos (f_flt_z z)) f.c7_small k));
      reverse = sfits-abs (c.c7 *ℤ pos (f_flt_z z) *ℤ pos 1000) (omega (arith, f_flt-size c Reverse z f));
      normal = sfits-abs (c.c8 *ℤ pos 1000000) (omega (arith, f_flt-size c Normal z f));
    }

-- the code's smaller of the two
smaller : (z : ℕ) → min z 1000 ≡ f_flt_z z
smaller z = grind (arith, nat_tests)

known : (m : Measure) → Steps m.c m.f.now.x.ztor
known m = steps m.c m.f.now.x.ztor (of_table m)

pub returns-in-StrikeSlip : goal.returns-in-StrikeSlip
unfolding f_flt_fixed
returns-in-StrikeSlip c = rw c.in-StrikeSlip.is

pub returns-in-Reverse : goal.returns-in-Reverse
unfolding f_flt_fixed
returns-in-Reverse c =
    let f = known c.args.self.now in
    rw c.in-Reverse.is (simp (c.from.ensures, c.min.ensures, smaller c.args.self.now.f.now.x.ztor, f.bits, f.cells.c7.back, to_z-of_z f.product, to_z-of_z f.reverse))

pub returns-in-Normal : goal.returns-in-Normal
unfolding f_flt_fixed
returns-in-Normal c =
    let f = known c.args.self.now in
    rw c.in-Normal.is (simp (c.from-in-Normal.ensures, f.cells.c8.back, to_z-of_z f.normal))
