-- Each step of the code is the definition's, and its size keeps it within 64 bits; with alpha 0 what is added to s² is 0. Assumes
-- nothing.
use Rattle.std.proofs.Common.{arith, ◌≡◌, ◌≤◌, ◌<◌, nat_abs, ℕ, ◌*◌, ◌^◌, zero, suc, refl, ap, ap₂, sym, ◌∙◌, w64, ℤ, pos, negsuc, ◌+ℤ◌, FitsSigned, to_z, of_z}
use native.Mathlib.Nat.{mul-le-mul}
use lib.Dec.{lit≤}
use borrow.Author.Tests.{le-leb}
use Rattle.std.specs.Int.{int_max}
use mir.Facts.{to_z_pos, to_z-of_z}
use Rattle.exact.specs.Near.{up}
use Rattle.exact.proofs.Signed.{sfits-abs, add-abs, up_lt}
use Rattle.fixed.specs.Fixed.{E9, mul_div}
use Rattle.fixed.proofs.SignedLaws.{mul_div-abs}
use Rattle.tables.specs.declared.Deviations.{Deviations}
use Rattle.tables.specs.Tables.{measures, deviations_at}
use Rattle.model.specs.Fixed.{squared_fixed, cross_fixed, intra_variance_fixed}
use Rattle.sigmas.proofs.LinearSite.{rock_is, y_of, added_of, flat, spread_row}
use Rattle.model.proofs.Sizes.{y_fits}
use Rattle.sigmas.proofs.intra_variance.Goals as goal
use Rattle.sigmas.proofs.intra_variance.Goals.{After-max}

-- ---- the sizes of the steps
record Steps (d : Deviations) (a : ℤ) : Type 0 where
  square-low : squared_fixed d.s ≤ 490000000
  cross-low : cross_fixed d ≤ 800000000
  y_in : FitsSigned w64 (y_of a)
  sum_in : FitsSigned w64 (y_of a +ℤ pos (cross_fixed d))
  product : nat_abs (y_of a) * nat_abs (y_of a +ℤ pos (cross_fixed d)) < 2 ^ 63
  added_in : FitsSigned w64 (added_of d a)
  whole_in : FitsSigned w64 (pos (squared_fixed d.s) +ℤ added_of d a)

steps : (i : ℕ) (d : Deviations) (a : ℤ) → (i < measures) × (d ≡ deviations_at i) × (nat_abs a ≤ 2671000367) → Steps d a
steps i d a (below, is, h) =
    let f = spread_row i d below is in
    let x : ℤ = pos (cross_fixed d) in
    let y : nat_abs (y_of a) ≤ 995000000 = y_fits a h in
    let s : nat_abs (y_of a +ℤ x) ≤ 1795000000 = omega (arith, add-abs (y_of a) x, f.cross-high) in
    let p : nat_abs (y_of a) * nat_abs (y_of a +ℤ x) ≤ 995000000 * 1795000000 = mul-le-mul y s in
    let q : squared_fixed d.s ≤ 490000000 = omega (arith, mul-le-mul f.s_high f.s_high) in
    let t : nat_abs (added_of d a) ≤ 1786025000 = omega (arith, mul_div-abs (y_of a) (y_of a +ℤ x) (pos E9)) in
    record {
      square-low = q;
      cross-low = f.cross-high;
      y_in = sfits-abs (y_of a) (omega arith);
      sum_in = sfits-abs (y_of a +ℤ x) (omega arith);
      product = omega arith;
      added_in = sfits-abs (added_of d a) (omega arith);
      whole_in = sfits-abs (pos (squared_fixed d.s) +ℤ added_of d a) (omega (arith, add-abs (pos (squared_fixed d.s)) (added_of d a)));
    }

-- ---- the steps, as the machine reads them
read_y :
    (a y : ℤ) → FitsSigned w64 a → FitsSigned w64 (y_of a) → y ≡ mul_div (pos 372134384) (to_z w64 (of_z w64 a)) (pos 1000000000)
    → to_z w64 (of_z w64 y) ≡ y_of a
read_y a y f g e =
    let h : y ≡ y_of a = e ∙ rw (to_z-of_z f, rock_is) in
    rw h (to_z-of_z g)

read_cross : (d : Deviations) (n : ℕ) → n ≡ cross_fixed d → cross_fixed d ≤ 800000000 → to_z w64 n ≡ pos (cross_fixed d)
read_cross d n e h = to_z_pos w64 (omega (arith, e, h)) ∙ ap pos e

read_added : (d : Deviations) (a y x z : ℤ) → Steps d a → y ≡ y_of a → x ≡ pos (cross_fixed d)
    → z ≡ mul_div y (to_z w64 (of_z w64 (y +ℤ x))) (pos 1000000000) → to_z w64 (of_z w64 z) ≡ added_of d a
read_added d a y x z s e f g =
    let h : z ≡ added_of d a = g ∙ rw (e, f, to_z-of_z s.sum_in) in
    rw h (to_z-of_z s.added_in)

more_is :
    (d : Deviations) (a z : ℤ) (l : ℕ) → Steps d a → l ≡ squared_fixed d.s → z ≡ added_of d a
    → to_z w64 l +ℤ z ≡ intra_variance_fixed d a
unfolding intra_variance_fixed
more_is d a z l s e f = ap₂ (λ (p q : ℤ). p +ℤ q) (to_z_pos w64 (omega (arith, e, s.square-low)) ∙ ap pos e) f

whole_fits : (d : Deviations) (a : ℤ) → Steps d a → FitsSigned w64 (intra_variance_fixed d a)
unfolding intra_variance_fixed
whole_fits d a s = s.whole_in

-- ---- the sum, at least 0
not_below_zero : (v : ℤ) → int_max v (pos 0) ≡ pos (up v)
not_below_zero (pos zero) = refl
not_below_zero (pos (suc n)) = rw (le-leb 1 (suc n) (omega arith))
not_below_zero (negsuc n) = refl

read_most :
    (m v z : ℤ) → FitsSigned w64 v → m ≡ v → z ≡ int_max (to_z w64 (of_z w64 m)) (pos 0) → to_z w64 (of_z w64 z) ≡ pos (up v)
read_most m v z f e g =
    let r : to_z w64 (of_z w64 m) ≡ v = ap (λ (t : ℤ). to_z w64 (of_z w64 t)) e ∙ to_z-of_z f in
    let h : z ≡ pos (up v) = g ∙ ap (λ (t : ℤ). int_max t (pos 0)) r ∙ not_below_zero v in
    rw h (to_z-of_z (sfits-abs (pos (up v)) (up_lt v f)))

-- ---- the function
pub squared-linear-requires : goal.squared-linear-requires
squared-linear-requires c = omega (arith, spread_row c.args.i c.args.d c.requires.0 c.requires.1)

pub returns-then-alpha-eq0 : goal.returns-then-alpha-eq0
returns-then-alpha-eq0 c =
    let zero : c.args.alpha ≡ pos 0 = sym (to_z-of_z c.ranges.alpha) ∙ ap (to_z w64) c.if-alpha-eq0.true in
    c.squared-linear.ensures ∙ flat c.args.d ∙ ap (λ (a : ℤ). up (intra_variance_fixed c.args.d a)) (sym zero)

pub overflow_add-y : goal.overflow_add-y
overflow_add-y c =
    let s = steps c.args.i c.args.d c.args.alpha c.requires in
    let y = read_y c.args.alpha c.mul_div-y.result c.ranges.alpha s.y_in c.mul_div-y.ensures in
    let x = read_cross c.args.d c.cross_at.result (c.cross_at.ensures ∙ ap cross_fixed (sym c.requires.1)) s.cross-low in
    rw (y, x) s.sum_in

pub mul_div-requires : goal.mul_div-requires
mul_div-requires c =
    let s = steps c.args.i c.args.d c.args.alpha c.requires in
    let y = read_y c.args.alpha c.mul_div-y.result c.ranges.alpha s.y_in c.mul_div-y.ensures in
    let x = read_cross c.args.d c.cross_at.result (c.cross_at.ensures ∙ ap cross_fixed (sym c.requires.1)) s.cross-low in
    rw (y, x, to_z-of_z s.sum_in) (s.product, lit≤ tt)

pub overflow_add-more : goal.overflow_add-more
overflow_add-more c =
    let s = steps c.args.i c.args.d c.args.alpha c.requires in
    let y = read_y c.args.alpha c.mul_div-y.result c.ranges.alpha s.y_in c.mul_div-y.ensures in
    let x = read_cross c.args.d c.cross_at.result (c.cross_at.ensures ∙ ap cross_fixed (sym c.requires.1)) s.cross-low in
    let z = read_added c.args.d c.args.alpha _ _ c.mul_div.result s y x c.mul_div.ensures in
    let m = more_is c.args.d c.args.alpha _ c.squared-linear.result s c.squared-linear.ensures z in
    rw m (whole_fits c.args.d c.args.alpha s)

sum_is :
    (c : After-max)
    → to_z w64 (of_z w64 c.max.result) ≡ pos (up (intra_variance_fixed c.args.d c.args.alpha))
sum_is c =
    let s = steps c.args.i c.args.d c.args.alpha c.requires in
    let y = read_y c.args.alpha c.mul_div-y.result c.ranges.alpha s.y_in c.mul_div-y.ensures in
    let x = read_cross c.args.d c.cross_at.result (c.cross_at.ensures ∙ ap cross_fixed (sym c.requires.1)) s.cross-low in
    let z = read_added c.args.d c.args.alpha _ _ c.mul_div.result s y x c.mul_div.ensures in
    let m = more_is c.args.d c.args.alpha _ c.squared-linear.result s c.squared-linear.ensures z in
    read_most _ _ _ (whole_fits c.args.d c.args.alpha s) m c.max.ensures.value

pub overflow_cast-result : goal.overflow_cast-result
overflow_cast-result c =
    let s = steps c.args.i c.args.d c.args.alpha c.requires in
    rw (sum_is c) (tt, record { fits = omega (arith, up_lt _ (whole_fits c.args.d c.args.alpha s)) })

pub returns : goal.returns
returns c = ap nat_abs (sum_is c)
