-- One product, small by the sizes of c9 and of the four factors. Assumes nothing.
use Prim.Native.Nat.{◌*◌, ◌^◌, ◌≤◌, ◌<◌}
use mathlib.Core.Path.{◌≡◌}
use native.Mathlib.Omega.{arith}
use native.Mathlib.Nat.{mul-le-mul}
use lib.Dec.{lit≤}
use lib.IntN.{pos, nat_abs}
use mir.Syntax.{w64}
use mir.Val.{SFits, to_z}
use mir.Facts.{to_z-of_z, to_z_pos}
use Rattle.exact.proofs.Signed.{sfits-abs}
use Rattle.tables.specs.declared.Coefficients.{Coefficients}
use Rattle.model.specs.declared.Scenario.{Scenario}
use Rattle.model.specs.Fixed.{wall_fixed, f_hng_fixed}
use Rattle.tables.specs.OfTables.{OfTable2}
use Rattle.model.proofs.Fair.{fair_of}
use Rattle.model.proofs.Cells.{Cells, cells}
use Rattle.model.proofs.Sizes.{wall_size, f_hng-size}
use Rattle.terms.specs.declared.Measure.{Measure}
use Rattle.terms.proofs.Rows.{of_table}
use Rattle.terms.proofs.Measure.f_hng.Goals as goal

record Steps (c : Coefficients) (x : Scenario) : Type 0 where
  wall_fits : SFits w64 (pos (wall_fixed x))
  bits : to_z w64 (wall_fixed x) ≡ pos (wall_fixed x)
  cells : Cells c
  product : nat_abs c.c9 * wall_fixed x < 2 ^ 63
  whole : SFits w64 (f_hng_fixed c x)

steps : (c : Coefficients) (x : Scenario) → OfTable2 c → Steps c x
steps c x o =
    let f = fair_of c o in
    let w = wall_size x in
    let p : nat_abs c.c9 * wall_fixed x ≤ 500 * 1000000000 = mul-le-mul f.c9_small w in
    record {
      wall_fits = sfits-abs (pos (wall_fixed x)) (omega (arith, w));
      bits = to_z_pos w64 (omega (arith, w));
      cells = cells c o;
      product = omega (arith, p);
      whole = sfits-abs (f_hng_fixed c x) (omega (arith, f_hng-size c x f));
    }

known : (m : Measure) → Steps m.c m.f.now.x
known m = steps m.c m.f.now.x (of_table m)

pub overflow_cast-self : goal.overflow_cast-self
overflow_cast-self c = rw c.args.self.now.f.now.wall_is (known c.args.self.now).wall_fits

pub mul_div-requires : goal.mul_div-requires
mul_div-requires c =
    let f = known c.args.self.now in
    simp (c.from.ensures, c.args.self.now.f.now.wall_is, f.bits, f.cells.c9.back) (f.product, lit≤ tt)

pub returns : goal.returns
unfolding f_hng_fixed
returns c =
    let f = known c.args.self.now in
    simp (c.mul_div.ensures, c.from.ensures, c.args.self.now.f.now.wall_is, f.bits, f.cells.c9.back, to_z-of_z f.whole)
