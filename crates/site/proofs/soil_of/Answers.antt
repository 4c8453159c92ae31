-- Below k1 and from k1 up the soil is that of `SoilLaws`, each number of it small. Assumes nothing.
use borrow.Author.Tests.{lt-ltb}
use Rattle.std.proofs.Common.{min}
use Rattle.std.proofs.lemmas.Bool.Decides.{nat_tests}
use Prim.Native.Nat.{ℕ, ◌+◌, ◌≤◌, ◌<◌}
use mathlib.Core.Path.{◌≡◌, ap, ap₂, ◌∙◌}
use native.Mathlib.Omega.{arith}
use lib.IntN.{ℤ, pos, nat_abs, ◌-ℤ◌}
use mir.Syntax.{w64}
use mir.Val.{SFits, to_z, of_z}
use mir.Facts.{to_z-of_z, to_z_pos}
use Rattle.exact.proofs.Signed.{sfits-abs}
use Rattle.fixed.specs.Fixed.{ln_fixed, ln_quotient}
use Rattle.tables.specs.declared.Coefficients.{Coefficients}
use Rattle.model.specs.declared.Scenario.{Scenario}
use Rattle.site.specs.declared.rock.Rock.{Rock}
use Rattle.model.specs.Accuracy.{InRange}
use Rattle.model.specs.Equations.{least}
use Rattle.model.specs.Fixed.{curve_of, curve_fixed, rock_pga_fixed, share_fixed, site_c_fixed}
use Rattle.tables.specs.OfTables.{OfTable2}
use Rattle.terms.specs.declared.Measure.{Measure}
use Rattle.terms.proofs.Rows.{of_table}
use Rattle.model.proofs.Curve.{Paired, quotient-size, curve_low_fixed, curve_high_fixed}
use Rattle.model.proofs.Median.{rock_is_near}
use Rattle.model.proofs.Fair.{fair_of}
use Rattle.model.proofs.SiteNear.{paired, capped}
use Rattle.model.proofs.Sizes.{log_size, logarithms_size}
use Rattle.site.proofs.SoilLaws.{soft_soil_lem, hard_soil_lem, share_le, swing_le}
use Rattle.site.proofs.soil_of.Goals as goal

-- ---- the numbers below k1
record Soft (v k1 a : ℕ) : Type 0 where
  k1_low : 400 ≤ k1
  k1_high : k1 ≤ 1086
  v_low : 150 ≤ v
  a_high : a ≤ 1490000000
  curve-low : 179999900 ≤ curve_fixed v k1
  curve-high : curve_fixed v k1 ≤ 1900000000
  ratio_small : nat_abs (ln_quotient v k1) ≤ 2000000005
  ratio_fits : SFits w64 (ln_quotient v k1)
  curve_log : SFits w64 (ln_fixed (a + curve_fixed v k1))
  rock_log : SFits w64 (ln_fixed (a + site_c_fixed))
  gain_fits : SFits w64 (ln_fixed (a + curve_fixed v k1) -ℤ ln_fixed (a + site_c_fixed))
  curve_share : SFits w64 (pos (share_fixed a (curve_fixed v k1)))
  curve_bits : to_z w64 (share_fixed a (curve_fixed v k1)) ≡ pos (share_fixed a (curve_fixed v k1))
  rock_share : SFits w64 (pos (share_fixed a site_c_fixed))
  rock_bits : to_z w64 (share_fixed a site_c_fixed) ≡ pos (share_fixed a site_c_fixed)
  swing_fits : SFits w64 (pos (share_fixed a (curve_fixed v k1)) -ℤ pos (share_fixed a site_c_fixed))

soft : (c : Coefficients) (x : Scenario) → OfTable2 c → InRange x → x.vs30 < c.k1 → Soft x.vs30 c.k1 (rock_pga_fixed x)
soft c x o r h =
    let f = fair_of c o in
    let p = paired c x.vs30 f r.vs30-low r.vs30-high in
    let a : ℕ = rock_pga_fixed x in
    let b : ℕ = curve_fixed x.vs30 c.k1 in
    let n = rock_is_near x r in
    let low = curve_low_fixed x.vs30 c.k1 p in
    let high = curve_high_fixed x.vs30 c.k1 p h in
    let q = quotient-size x.vs30 c.k1 p in
    let share_b = share_le a b in
    let share_c = share_le a site_c_fixed in
    record {
      k1_low = f.k1_low;
      k1_high = f.k1_high;
      v_low = r.vs30-low;
      a_high = n.fixed_top;
      curve-low = low;
      curve-high = high;
      ratio_small = q;
      ratio_fits = sfits-abs (ln_quotient x.vs30 c.k1) (omega (arith, q));
      curve_log = sfits-abs (ln_fixed (a + b)) (omega (arith, log_size (a + b) (omega (arith, low)) (omega (arith, high, n.fixed_top))));
      rock_log = sfits-abs (ln_fixed (a + site_c_fixed)) (omega (arith, log_size (a + site_c_fixed) (omega arith) (omega (arith, n.fixed_top))));
      gain_fits =
          sfits-abs (ln_fixed (a + b) -ℤ ln_fixed (a + site_c_fixed)) (omega (arith, logarithms_size x.vs30 c.k1 _ _ p h n));
      curve_share = sfits-abs (pos (share_fixed a b)) (omega (arith, share_b));
      curve_bits = to_z_pos w64 (omega (arith, share_b));
      rock_share = sfits-abs (pos (share_fixed a site_c_fixed)) (omega (arith, share_c));
      rock_bits = to_z_pos w64 (omega (arith, share_c));
      swing_fits = sfits-abs (pos (share_fixed a b) -ℤ pos (share_fixed a site_c_fixed)) (omega (arith, swing_le _ _ share_b share_c));
    }

-- the rock's numbers
log_is : (m : Measure) (r : Rock) → r.pga ≡ rock_pga_fixed m.f.now.x → r.log ≡ ln_fixed (rock_pga_fixed m.f.now.x + site_c_fixed)
log_is m r e = r.log_is ∙ ap (λ (a : ℕ). ln_fixed (a + site_c_fixed)) e

share_is : (m : Measure) (r : Rock) → r.pga ≡ rock_pga_fixed m.f.now.x → r.share ≡ share_fixed (rock_pga_fixed m.f.now.x) site_c_fixed
share_is m r e = r.share_is ∙ ap (λ (a : ℕ). share_fixed a site_c_fixed) e

least_is : (a b : ℕ) → min a b ≡ least a b
least_is a b = grind (arith, nat_tests)

hard : (c : Coefficients) (x : Scenario) → OfTable2 c → InRange x → Paired (least x.vs30 1100) c.k1
hard c x o r = capped c x.vs30 (fair_of c o) r.vs30-low r.vs30-high

-- ln(V/k1), of the smaller of V and 1100
ratio_is : (k v m : ℕ) (l : ℤ) → m ≡ least v 1100 → l ≡ ln_quotient m k → l ≡ ln_quotient (least v 1100) k
ratio_is k v m l e f = f ∙ ap (λ (u : ℕ). ln_quotient u k) e

-- ---- below k1, where V is the smaller
soft_ratio : (k v m : ℕ) (l : ℤ) → v < k → k ≤ 1086 → m ≡ least v 1100 → l ≡ ln_quotient m k → l ≡ ln_quotient v k
soft_ratio k v m l h t e f = ratio_is k v m l e f ∙ rw (least, lt-ltb v 1100 (omega arith))

-- the curve's contract, in the definition's words
curve-is :
    (k v r : ℕ) (l : ℤ) → SFits w64 (ln_quotient v k) → l ≡ ln_quotient v k → r ≡ curve_of (to_z w64 (of_z w64 l)) → r ≡ curve_fixed v k
unfolding curve_fixed
curve-is k v r l n e s = simp (e, to_z-of_z n) at s

pub ln_quotient-ratio-requires : goal.ln_quotient-ratio-requires
ln_quotient-ratio-requires c =
    let p = hard c.args.m.now.c c.args.m.now.f.now.x (of_table c.args.m.now) c.args.m.now.f.now.in_range in
    rw (c.min.ensures ∙ least_is _ _)
    (omega (arith, p.k_low), omega (arith, p.k_high), omega (arith, p.k_high, p.v_low), omega (arith, p.v_high, p.k_low))

pub returns-then-k1-v : goal.returns-then-k1-v
returns-then-k1-v c =
    let k : ℕ = c.args.m.now.c.k1 in
    let v : ℕ = least c.args.m.now.f.now.x.vs30 1100 in
    let q = quotient-size v k (hard c.args.m.now.c c.args.m.now.f.now.x (of_table c.args.m.now) c.args.m.now.f.now.in_range) in
    let n = sfits-abs (ln_quotient v k) (omega (arith, q)) in
    let e = ratio_is k c.args.m.now.f.now.x.vs30 _ _ (c.min.ensures ∙ least_is _ _) (rw c.from-k1.ensures at c.ln_quotient-ratio.ensures) in
    rw (hard_soil_lem k c.args.m.now.f.now.x (rw c.from-k1.ensures at c.if-k1-v.true)) (simp (e, to_z-of_z n))

pub curve_of-curve-requires : goal.curve_of-curve-requires
unfolding curve_fixed
curve_of-curve-requires c =
    let f = soft c.args.m.now.c c.args.m.now.f.now.x (of_table c.args.m.now) c.args.m.now.f.now.in_range (rw c.from-k1.ensures at c.if-k1-v.false) in
    let e = soft_ratio c.args.m.now.c.k1 c.args.m.now.f.now.x.vs30 _ _ (rw c.from-k1.ensures at c.if-k1-v.false) f.k1_high (c.min.ensures ∙ least_is _ _) (rw c.from-k1.ensures at c.ln_quotient-ratio.ensures) in
    simp (e, to_z-of_z f.ratio_fits) (f.ratio_small, f.curve-high)

pub overflow_add-rock : goal.overflow_add-rock
overflow_add-rock c =
    let f = soft c.args.m.now.c c.args.m.now.f.now.x (of_table c.args.m.now) c.args.m.now.f.now.in_range (rw c.from-k1.ensures at c.if-k1-v.false) in
    let e = soft_ratio c.args.m.now.c.k1 c.args.m.now.f.now.x.vs30 _ _ (rw c.from-k1.ensures at c.if-k1-v.false) f.k1_high (c.min.ensures ∙ least_is _ _) (rw c.from-k1.ensures at c.ln_quotient-ratio.ensures) in
    let b = curve-is c.args.m.now.c.k1 c.args.m.now.f.now.x.vs30 _ _ f.ratio_fits e c.curve_of-curve.ensures in
    rw (c.requires, b) (record { fits = omega (arith, f.a_high, f.curve-high) })

pub ln_fixed-requires : goal.ln_fixed-requires
ln_fixed-requires c =
    let f = soft c.args.m.now.c c.args.m.now.f.now.x (of_table c.args.m.now) c.args.m.now.f.now.in_range (rw c.from-k1.ensures at c.if-k1-v.false) in
    let e = soft_ratio c.args.m.now.c.k1 c.args.m.now.f.now.x.vs30 _ _ (rw c.from-k1.ensures at c.if-k1-v.false) f.k1_high (c.min.ensures ∙ least_is _ _) (rw c.from-k1.ensures at c.ln_quotient-ratio.ensures) in
    let b = curve-is c.args.m.now.c.k1 c.args.m.now.f.now.x.vs30 _ _ f.ratio_fits e c.curve_of-curve.ensures in
    rw (c.requires, b) (omega (arith, f.curve-low), omega (arith, f.a_high, f.curve-high))

pub overflow_sub-result : goal.overflow_sub-result
overflow_sub-result c =
    let f = soft c.args.m.now.c c.args.m.now.f.now.x (of_table c.args.m.now) c.args.m.now.f.now.in_range (rw c.from-k1.ensures at c.if-k1-v.false) in
    let e = soft_ratio c.args.m.now.c.k1 c.args.m.now.f.now.x.vs30 _ _ (rw c.from-k1.ensures at c.if-k1-v.false) f.k1_high (c.min.ensures ∙ least_is _ _) (rw c.from-k1.ensures at c.ln_quotient-ratio.ensures) in
    let b = curve-is c.args.m.now.c.k1 c.args.m.now.f.now.x.vs30 _ _ f.ratio_fits e c.curve_of-curve.ensures in
    let a = c.requires in
    let l = c.ln_fixed.ensures ∙ ap₂ (λ (p q : ℕ). ln_fixed (p + q)) a b in
    simp (l, log_is c.args.m.now c.args.rock.now c.requires, to_z-of_z f.curve_log, to_z-of_z f.rock_log) f.gain_fits

pub share_of-requires : goal.share_of-requires
share_of-requires c =
    let f = soft c.args.m.now.c c.args.m.now.f.now.x (of_table c.args.m.now) c.args.m.now.f.now.in_range (rw c.from-k1.ensures at c.if-k1-v.false) in
    let e = soft_ratio c.args.m.now.c.k1 c.args.m.now.f.now.x.vs30 _ _ (rw c.from-k1.ensures at c.if-k1-v.false) f.k1_high (c.min.ensures ∙ least_is _ _) (rw c.from-k1.ensures at c.ln_quotient-ratio.ensures) in
    let b = curve-is c.args.m.now.c.k1 c.args.m.now.f.now.x.vs30 _ _ f.ratio_fits e c.curve_of-curve.ensures in
    rw (c.requires, b) (f.a_high, omega (arith, f.curve-low), f.curve-high)

pub overflow_cast-result : goal.overflow_cast-result
overflow_cast-result c =
    let f = soft c.args.m.now.c c.args.m.now.f.now.x (of_table c.args.m.now) c.args.m.now.f.now.in_range (rw c.from-k1.ensures at c.if-k1-v.false) in
    let e = soft_ratio c.args.m.now.c.k1 c.args.m.now.f.now.x.vs30 _ _ (rw c.from-k1.ensures at c.if-k1-v.false) f.k1_high (c.min.ensures ∙ least_is _ _) (rw c.from-k1.ensures at c.ln_quotient-ratio.ensures) in
    let b = curve-is c.args.m.now.c.k1 c.args.m.now.f.now.x.vs30 _ _ f.ratio_fits e c.curve_of-curve.ensures in
    let a = c.requires in
    rw (c.share_of.ensures ∙ ap₂ share_fixed a b) f.curve_share

pub overflow_cast-result-2 : goal.overflow_cast-result-2
overflow_cast-result-2 c =
    let f = soft c.args.m.now.c c.args.m.now.f.now.x (of_table c.args.m.now) c.args.m.now.f.now.in_range (rw c.from-k1.ensures at c.if-k1-v.false) in
    rw (share_is c.args.m.now c.args.rock.now c.requires) f.rock_share

pub overflow_sub-result-2 : goal.overflow_sub-result-2
overflow_sub-result-2 c =
    let f = soft c.args.m.now.c c.args.m.now.f.now.x (of_table c.args.m.now) c.args.m.now.f.now.in_range (rw c.from-k1.ensures at c.if-k1-v.false) in
    let e = soft_ratio c.args.m.now.c.k1 c.args.m.now.f.now.x.vs30 _ _ (rw c.from-k1.ensures at c.if-k1-v.false) f.k1_high (c.min.ensures ∙ least_is _ _) (rw c.from-k1.ensures at c.ln_quotient-ratio.ensures) in
    let b = curve-is c.args.m.now.c.k1 c.args.m.now.f.now.x.vs30 _ _ f.ratio_fits e c.curve_of-curve.ensures in
    let a = c.requires in
    let s = c.share_of.ensures ∙ ap₂ share_fixed a b in
    simp (s, share_is c.args.m.now c.args.rock.now c.requires, f.curve_bits, f.rock_bits) f.swing_fits

pub returns : goal.returns
returns c =
    let f = soft c.args.m.now.c c.args.m.now.f.now.x (of_table c.args.m.now) c.args.m.now.f.now.in_range (rw c.from-k1.ensures at c.if-k1-v.false) in
    let e = soft_ratio c.args.m.now.c.k1 c.args.m.now.f.now.x.vs30 _ _ (rw c.from-k1.ensures at c.if-k1-v.false) f.k1_high (c.min.ensures ∙ least_is _ _) (rw c.from-k1.ensures at c.ln_quotient-ratio.ensures) in
    let b = curve-is c.args.m.now.c.k1 c.args.m.now.f.now.x.vs30 _ _ f.ratio_fits e c.curve_of-curve.ensures in
    let a = c.requires in
    let l = c.ln_fixed.ensures ∙ ap₂ (λ (p q : ℕ). ln_fixed (p + q)) a b in
    let s = c.share_of.ensures ∙ ap₂ share_fixed a b in
    rw (soft_soil_lem c.args.m.now.c.k1 c.args.m.now.f.now.x (rw c.from-k1.ensures at c.if-k1-v.false))
    (simp (
      e,
      l,
      log_is c.args.m.now c.args.rock.now c.requires,
      s,
      share_is c.args.m.now c.args.rock.now c.requires,
      to_z-of_z f.ratio_fits,
      to_z-of_z f.curve_log,
      to_z-of_z f.rock_log,
      to_z-of_z f.gain_fits,
      f.curve_bits,
      f.rock_bits,
      to_z-of_z f.swing_fits,
    ))
