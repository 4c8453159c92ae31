-- The definition's sum, each step of it within 64 bits by the row's sizes. Assumes nothing.
use Prim.Native.Nat.{ℕ, ◌-◌, ◌≤◌}
use mathlib.Core.Path.{◌≡◌}
use native.Mathlib.Omega.{arith}
use native.Mathlib.Nat.{le_refl}
use lib.IntN.{ℤ, pos, nat_abs, ◌+ℤ◌, ◌*ℤ◌}
use mir.Syntax.{w64}
use mir.Val.{SFits, to_z}
use mir.Facts.{to_z-of_z, to_z_pos}
use Rattle.exact.proofs.Signed.{sfits-abs, add-abs, mul-abs, mul-abs-le}
use Rattle.tables.specs.declared.Coefficients.{Coefficients}
use Rattle.tables.specs.OfTables.{OfTable2}
use Rattle.model.specs.Fixed.{f_mag_fixed}
use Rattle.model.specs.Equations.{by_magnitude}
use Rattle.model.proofs.Fair.{fair_of}
use Rattle.model.proofs.Cells.{Cells, cells}
use Rattle.model.proofs.Sizes.{f_mag-size, by_magnitude-size}
use Rattle.terms.specs.declared.Measure.{Measure}
use Rattle.terms.proofs.Rows.{of_table}
use Rattle.terms.proofs.Measure.f_mag.Goals as goal

-- the steps of the sum
record Steps (c : Coefficients) (m : ℕ) : Type 0 where
  bits : to_z w64 m ≡ pos m
  above : (e : ℕ) → to_z w64 (m - e) ≡ pos (m - e)
  cells : Cells c
  p0 : SFits w64 (pos 100 *ℤ c.c0)
  p1 : SFits w64 (c.c1 *ℤ pos m)
  s1 : SFits w64 (pos 100 *ℤ c.c0 +ℤ c.c1 *ℤ pos m)
  p2 : SFits w64 (c.c2 *ℤ pos (m - 550))
  s2 : SFits w64 (pos 100 *ℤ c.c0 +ℤ c.c1 *ℤ pos m +ℤ c.c2 *ℤ pos (m - 550))
  p3 : SFits w64 (c.c3 *ℤ pos (m - 650))
  s3 : SFits w64 (by_magnitude c m)
  whole : SFits w64 (by_magnitude c m *ℤ pos 10000)

steps : (c : Coefficients) (m : ℕ) → OfTable2 c → m ≤ 850 → Steps c m
unfolding f_mag_fixed
steps c m o h =
    let f = fair_of c o in
    let mid : m - 550 ≤ 300 = omega arith in
    let big : m - 650 ≤ 200 = omega arith in
    let a : ℤ = pos 100 *ℤ c.c0 in
    let b : ℤ = c.c1 *ℤ pos m in
    let p : ℤ = c.c2 *ℤ pos (m - 550) in
    let a_is = mul-abs (pos 100) c.c0 in
    let b_is = mul-abs-le c.c1 (pos m) (le_refl (nat_abs c.c1)) h in
    let p_is = mul-abs-le c.c2 (pos (m - 550)) (le_refl (nat_abs c.c2)) mid in
    let q_is = mul-abs-le c.c3 (pos (m - 650)) (le_refl (nat_abs c.c3)) big in
    record {
      bits = to_z_pos w64 (omega arith);
      above = λ e. to_z_pos w64 (omega arith);
      cells = cells c o;
      p0 = sfits-abs a (omega (arith, f.magnitude-small, a_is));
      p1 = sfits-abs b (omega (arith, f.magnitude-small, b_is));
      s1 = sfits-abs (a +ℤ b) (omega (arith, f.magnitude-small, a_is, b_is, add-abs a b));
      p2 = sfits-abs p (omega (arith, f.magnitude-small, p_is));
      s2 = sfits-abs (a +ℤ b +ℤ p) (omega (arith, f.magnitude-small, a_is, b_is, p_is, add-abs a b, add-abs (a +ℤ b) p));
      p3 = sfits-abs (c.c3 *ℤ pos (m - 650)) (omega (arith, f.magnitude-small, q_is));
      s3 = sfits-abs (by_magnitude c m) (omega (arith, by_magnitude-size c m f h));
      whole = sfits-abs (by_magnitude c m *ℤ pos 10000) (omega (arith, f_mag-size c m f h));
    }

known : (m : Measure) → Steps m.c m.f.now.x.m
known m = steps m.c m.f.now.x.m (of_table m) m.f.now.in_range.m_high

pub overflow_add-sum : goal.overflow_add-sum
overflow_add-sum c =
    let f = known c.args.self.now in
    simp (c.from.ensures, c.from-2.ensures, f.cells.c0.back, f.cells.c1.back, f.bits, to_z-of_z f.p0, to_z-of_z f.p1) f.s1

pub overflow_add-sum-2 : goal.overflow_add-sum-2
overflow_add-sum-2 c =
    let f = known c.args.self.now in
    simp (
      c.saturating_sub.ensures,
      c.from.ensures,
      f.cells.c0.back,
      c.from-2.ensures,
      f.cells.c1.back,
      f.bits,
      to_z-of_z f.p0,
      to_z-of_z f.p1,
      to_z-of_z f.s1,
      c.from-3.ensures,
      f.cells.c2.back,
      f.above 550,
      to_z-of_z f.p2,
    )
    f.s2

pub overflow_add-sum-3 : goal.overflow_add-sum-3
overflow_add-sum-3 c =
    let f = known c.args.self.now in
    simp (
      c.saturating_sub.ensures,
      c.saturating_sub-2.ensures,
      c.from.ensures,
      f.cells.c0.back,
      c.from-2.ensures,
      f.cells.c1.back,
      f.bits,
      to_z-of_z f.p0,
      to_z-of_z f.p1,
      to_z-of_z f.s1,
      c.from-3.ensures,
      f.cells.c2.back,
      f.above 550,
      to_z-of_z f.p2,
      to_z-of_z f.s2,
      c.from-4.ensures,
      f.cells.c3.back,
      f.above 650,
      to_z-of_z f.p3,
    )
    f.s3

pub overflow_mul-result : goal.overflow_mul-result
overflow_mul-result c =
    let f = known c.args.self.now in
    simp (
      c.saturating_sub.ensures,
      c.saturating_sub-2.ensures,
      c.from.ensures,
      f.cells.c0.back,
      c.from-2.ensures,
      f.cells.c1.back,
      f.bits,
      to_z-of_z f.p0,
      to_z-of_z f.p1,
      to_z-of_z f.s1,
      c.from-3.ensures,
      f.cells.c2.back,
      f.above 550,
      to_z-of_z f.p2,
      to_z-of_z f.s2,
      c.from-4.ensures,
      f.cells.c3.back,
      f.above 650,
      to_z-of_z f.p3,
      to_z-of_z f.s3,
    )
    f.whole

pub returns : goal.returns
unfolding f_mag_fixed
returns c =
    let f = known c.args.self.now in
    simp (
      c.saturating_sub.ensures,
      c.saturating_sub-2.ensures,
      c.from.ensures,
      f.cells.c0.back,
      c.from-2.ensures,
      f.cells.c1.back,
      f.bits,
      to_z-of_z f.p0,
      to_z-of_z f.p1,
      to_z-of_z f.s1,
      c.from-3.ensures,
      f.cells.c2.back,
      f.above 550,
      to_z-of_z f.p2,
      to_z-of_z f.s2,
      c.from-4.ensures,
      f.cells.c3.back,
      f.above 650,
      to_z-of_z f.p3,
      to_z-of_z f.s3,
      to_z-of_z f.whole,
    )
