-- The three branches are the definition's, each product small by the row's sizes. Assumes nothing.
use Prim.Native.Nat.{ℕ, ◌*◌, ◌^◌, ◌≤◌, ◌<◌}
use mathlib.Core.Path.{◌≡◌}
use native.Mathlib.Omega.{arith}
use native.Mathlib.Nat.{mul-le-mul, le_refl}
use lib.Dec.{lit≤}
use lib.IntN.{pos, nat_abs, ◌-ℤ◌, ◌*ℤ◌}
use borrow.Author.Tests.{lt-ltb, le-ltb, le-leb, lt-leb}
use mir.Syntax.{w64}
use mir.Val.{SFits, to_z}
use mir.Facts.{to_z-of_z, to_z_pos}
use Rattle.exact.proofs.Signed.{sfits-abs, mul-abs-le}
use Rattle.fixed.specs.Fixed.{mul_div}
use Rattle.tables.specs.declared.Coefficients.{Coefficients}
use Rattle.model.specs.Fixed.{deep_fixed, f_sed_fixed}
use Rattle.tables.specs.OfTables.{OfTable2}
use Rattle.model.proofs.Fair.{fair_of}
use Rattle.model.proofs.Cells.{Cells, cells}
use Rattle.model.proofs.Sizes.{deep-size, share_size, shallow-size}
use Rattle.terms.specs.declared.Measure.{Measure}
use Rattle.terms.proofs.Rows.{of_table}
use Rattle.terms.proofs.Measure.f_sed.Goals as goal

record Steps (c : Coefficients) (z : ℕ) : Type 0 where
  bits : to_z w64 z ≡ pos z
  depth_fits : SFits w64 (pos z -ℤ pos 1000)
  cells : Cells c
  shallow : SFits w64 (c.c11 *ℤ (pos z -ℤ pos 1000))
  shallow-whole : SFits w64 (c.c11 *ℤ (pos z -ℤ pos 1000) *ℤ pos 1000)
  deep-fits : SFits w64 (pos (deep_fixed z))
  deep_bits : to_z w64 (deep_fixed z) ≡ pos (deep_fixed z)
  both : SFits w64 (c.c12 *ℤ c.k3)
  product : nat_abs (c.c12 *ℤ c.k3) * deep_fixed z < 2 ^ 63
  deep-whole : SFits w64 (mul_div (c.c12 *ℤ c.k3) (pos (deep_fixed z)) (pos 1000000))

steps : (c : Coefficients) (z : ℕ) → OfTable2 c → z ≤ 10000 → Steps c z
steps c z o h =
    let f = fair_of c o in
    let d = deep-size z in
    let l : nat_abs (pos z -ℤ pos 1000) ≤ 10000 = shallow-size z h in
    let p : nat_abs (c.c11 *ℤ (pos z -ℤ pos 1000)) ≤ 300 * 10000 = mul-abs-le c.c11 (pos z -ℤ pos 1000) f.c11_small l in
    let q = mul-le-mul f.basin-small d in
    record {
      bits = to_z_pos w64 (omega (arith, h));
      depth_fits = sfits-abs (pos z -ℤ pos 1000) (omega (arith, l));
      cells = cells c o;
      shallow = sfits-abs (c.c11 *ℤ (pos z -ℤ pos 1000)) (omega (arith, p));
      shallow-whole =
          sfits-abs (c.c11 *ℤ (pos z -ℤ pos 1000) *ℤ pos 1000)
          (omega (arith, mul-abs-le (c.c11 *ℤ (pos z -ℤ pos 1000)) (pos 1000) p (le_refl 1000)));
      deep-fits = sfits-abs (pos (deep_fixed z)) (omega (arith, d));
      deep_bits = to_z_pos w64 (omega (arith, d));
      both = sfits-abs (c.c12 *ℤ c.k3) (omega (arith, f.basin-small));
      product = omega (arith, q);
      deep-whole =
          sfits-abs (mul_div (c.c12 *ℤ c.k3) (pos (deep_fixed z)) (pos 1000000))
          (omega (
            arith,
            share_size (c.c12 *ℤ c.k3) (pos (deep_fixed z)) 1000000 2800000 472366552 1400000000 f.basin-small d (lit≤ tt),
          ));
    }

known : (m : Measure) → Steps m.c m.f.now.x.z25
known m = steps m.c m.f.now.x.z25 (of_table m) m.f.now.in_range.z25-high

pub returns-then-z-lt1000 : goal.returns-then-z-lt1000
unfolding f_sed_fixed
returns-then-z-lt1000 c =
    let f = known c.args.self.now in
    rw (lt-ltb c.args.self.now.f.now.x.z25 1000 c.if-z-lt1000.true, f_sed_fixed)
    (simp (c.from.ensures, f.bits, to_z-of_z f.depth_fits, f.cells.c11.back, to_z-of_z f.shallow, to_z-of_z f.shallow-whole))

pub returns-then-z-le3000 : goal.returns-then-z-le3000
unfolding f_sed_fixed
returns-then-z-le3000 c =
    rw (le-ltb c.args.self.now.f.now.x.z25 1000 c.if-z-lt1000.false, f_sed_fixed, le-leb c.args.self.now.f.now.x.z25 3000 c.if-z-le3000.true)

pub overflow_cast-self : goal.overflow_cast-self
overflow_cast-self c = rw c.args.self.now.f.now.deep_is (known c.args.self.now).deep-fits

pub mul_div-requires : goal.mul_div-requires
mul_div-requires c =
    let f = known c.args.self.now in
    simp (c.args.self.now.f.now.deep_is, f.deep_bits, c.from-2.ensures, c.from-3.ensures, f.cells.c12.back, f.cells.k3.back, to_z-of_z f.both) (f.product, lit≤ tt)

pub returns : goal.returns
unfolding f_sed_fixed
returns c =
    let f = known c.args.self.now in
    rw (le-ltb c.args.self.now.f.now.x.z25 1000 c.if-z-lt1000.false, f_sed_fixed, lt-leb c.args.self.now.f.now.x.z25 3000 c.if-z-le3000.false)
    (simp
    (c.mul_div.ensures, c.args.self.now.f.now.deep_is, f.deep_bits, c.from-2.ensures, c.from-3.ensures, f.cells.c12.back, f.cells.k3.back, to_z-of_z f.both, to_z-of_z f.deep-whole))
