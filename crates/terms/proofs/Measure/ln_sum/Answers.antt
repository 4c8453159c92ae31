-- Six terms, of which the sizes add up to less than 53 · 10^9. Assumes nothing.
use Prim.Native.Nat.{◌≤◌}
use native.Mathlib.Omega.{arith}
use lib.IntN.{ℤ, nat_abs, ◌+ℤ◌}
use mir.Syntax.{w64}
use mir.Val.{SFits}
use mir.Facts.{to_z-of_z}
use Rattle.exact.proofs.Signed.{sfits-abs, add-abs}
use Rattle.tables.specs.declared.Coefficients.{Coefficients}
use Rattle.model.specs.declared.Scenario.{Scenario}
use Rattle.model.specs.Accuracy.{InRange}
use Rattle.model.specs.Fixed.{f_mag_fixed, f_dis_fixed, f_flt_fixed, f_hng_fixed, f_sed_fixed, ln_sum}
use Rattle.tables.specs.OfTables.{OfTable2}
use Rattle.model.proofs.Fair.{fair_of}
use Rattle.model.proofs.Sizes.{f_mag-size, f_dis-size, f_flt-size, f_hng-size, f_sed-size}
use Rattle.terms.specs.declared.Measure.{Measure}
use Rattle.terms.proofs.Rows.{of_table}
use Rattle.terms.proofs.Measure.ln_sum.Goals as goal

record Steps (c : Coefficients) (x : Scenario) (site : ℤ) : Type 0 where
  mag : SFits w64 (f_mag_fixed c x.m)
  dis : SFits w64 (f_dis_fixed c x.m x.rrup)
  flt : SFits w64 (f_flt_fixed c x.style x.ztor)
  hng : SFits w64 (f_hng_fixed c x)
  sit : SFits w64 site
  sed : SFits w64 (f_sed_fixed c x.z25)
  s2 : SFits w64 (f_mag_fixed c x.m +ℤ f_dis_fixed c x.m x.rrup)
  s3 : SFits w64 (f_mag_fixed c x.m +ℤ f_dis_fixed c x.m x.rrup +ℤ f_flt_fixed c x.style x.ztor)
  s4 : SFits w64 (f_mag_fixed c x.m +ℤ f_dis_fixed c x.m x.rrup +ℤ f_flt_fixed c x.style x.ztor +ℤ f_hng_fixed c x)
  s5 : SFits w64 (f_mag_fixed c x.m +ℤ f_dis_fixed c x.m x.rrup +ℤ f_flt_fixed c x.style x.ztor +ℤ f_hng_fixed c x +ℤ site)
  s6 : SFits w64 (ln_sum c x site)

steps : (c : Coefficients) (x : Scenario) (site : ℤ) → OfTable2 c → InRange x → nat_abs site ≤ 13100000000 → Steps c x site
steps c x site o r h =
    let f = fair_of c o in
    let a : ℤ = f_mag_fixed c x.m in
    let b : ℤ = f_dis_fixed c x.m x.rrup in
    let d : ℤ = f_flt_fixed c x.style x.ztor in
    let e : ℤ = f_hng_fixed c x in
    let g : ℤ = f_sed_fixed c x.z25 in
    let ha = f_mag-size c x.m f r.m_high in
    let hb = f_dis-size c x.m x.rrup f r.m_low r.m_high r.rrup-high in
    let hd = f_flt-size c x.style x.ztor f in
    let he = f_hng-size c x f in
    let hg = f_sed-size c x.z25 f in
    let k2 : nat_abs (a +ℤ b) ≤ 37100000000 = omega (arith, ha, hb, add-abs a b) in
    let k3 : nat_abs (a +ℤ b +ℤ d) ≤ 37400000000 = omega (arith, k2, hd, add-abs (a +ℤ b) d) in
    let k4 : nat_abs (a +ℤ b +ℤ d +ℤ e) ≤ 37900000000 = omega (arith, k3, he, add-abs (a +ℤ b +ℤ d) e) in
    let k5 : nat_abs (a +ℤ b +ℤ d +ℤ e +ℤ site) ≤ 51000000000 = omega (arith, k4, h, add-abs (a +ℤ b +ℤ d +ℤ e) site) in
    let k6 : nat_abs (a +ℤ b +ℤ d +ℤ e +ℤ site +ℤ g) ≤ 52400000000 = omega (arith, k5, hg, add-abs (a +ℤ b +ℤ d +ℤ e +ℤ site) g) in
    record {
      mag = sfits-abs a (omega (arith, ha));
      dis = sfits-abs b (omega (arith, hb));
      flt = sfits-abs d (omega (arith, hd));
      hng = sfits-abs e (omega (arith, he));
      sit = sfits-abs site (omega (arith, h));
      sed = sfits-abs g (omega (arith, hg));
      s2 = sfits-abs (a +ℤ b) (omega (arith, k2));
      s3 = sfits-abs (a +ℤ b +ℤ d) (omega (arith, k3));
      s4 = sfits-abs (a +ℤ b +ℤ d +ℤ e) (omega (arith, k4));
      s5 = sfits-abs (a +ℤ b +ℤ d +ℤ e +ℤ site) (omega (arith, k5));
      s6 = sfits-abs (a +ℤ b +ℤ d +ℤ e +ℤ site +ℤ g) (omega (arith, k6));
    }

known : (m : Measure) (site : ℤ) → nat_abs site ≤ 13100000000 → Steps m.c m.f.now.x site
known m site h = steps m.c m.f.now.x site (of_table m) m.f.now.in_range h

pub overflow_add-result : goal.overflow_add-result
overflow_add-result c =
    let f = known c.args.self.now c.args.site c.requires in
    simp (c.f_mag.ensures, c.f_dis.ensures, to_z-of_z f.mag, to_z-of_z f.dis) f.s2

pub overflow_add-result-2 : goal.overflow_add-result-2
overflow_add-result-2 c =
    let f = known c.args.self.now c.args.site c.requires in
    simp
    (c.f_mag.ensures, c.f_dis.ensures, c.f_flt.ensures, to_z-of_z f.mag, to_z-of_z f.dis, to_z-of_z f.s2, to_z-of_z f.flt)
    f.s3

pub overflow_add-result-3 : goal.overflow_add-result-3
overflow_add-result-3 c =
    let f = known c.args.self.now c.args.site c.requires in
    simp (
      c.f_mag.ensures,
      c.f_dis.ensures,
      c.f_flt.ensures,
      c.f_hng.ensures,
      to_z-of_z f.mag,
      to_z-of_z f.dis,
      to_z-of_z f.s2,
      to_z-of_z f.flt,
      to_z-of_z f.s3,
      to_z-of_z f.hng,
    )
    f.s4

pub overflow_add-result-4 : goal.overflow_add-result-4
overflow_add-result-4 c =
    let f = known c.args.self.now c.args.site c.requires in
    simp (
      c.f_mag.ensures,
      c.f_dis.ensures,
      c.f_flt.ensures,
      c.f_hng.ensures,
      to_z-of_z f.mag,
      to_z-of_z f.dis,
      to_z-of_z f.s2,
      to_z-of_z f.flt,
      to_z-of_z f.s3,
      to_z-of_z f.hng,
      to_z-of_z f.s4,
      to_z-of_z f.sit,
    )
    f.s5

pub overflow_add-result-5 : goal.overflow_add-result-5
overflow_add-result-5 c =
    let f = known c.args.self.now c.args.site c.requires in
    simp (
      c.f_mag.ensures,
      c.f_dis.ensures,
      c.f_flt.ensures,
      c.f_hng.ensures,
      c.f_sed.ensures,
      to_z-of_z f.mag,
      to_z-of_z f.dis,
      to_z-of_z f.s2,
      to_z-of_z f.flt,
      to_z-of_z f.s3,
      to_z-of_z f.hng,
      to_z-of_z f.s4,
      to_z-of_z f.sit,
      to_z-of_z f.s5,
      to_z-of_z f.sed,
    )
    f.s6

pub returns : goal.returns
returns c =
    let f = known c.args.self.now c.args.site c.requires in
    simp (
      c.f_mag.ensures,
      c.f_dis.ensures,
      c.f_flt.ensures,
      c.f_hng.ensures,
      c.f_sed.ensures,
      to_z-of_z f.mag,
      to_z-of_z f.dis,
      to_z-of_z f.s2,
      to_z-of_z f.flt,
      to_z-of_z f.s3,
      to_z-of_z f.hng,
      to_z-of_z f.s4,
      to_z-of_z f.sit,
      to_z-of_z f.s5,
      to_z-of_z f.sed,
      to_z-of_z f.s6,
    )
