-- The logarithm of V/k1 within 5 units of 10^-9, and c (V/k1)^n within 20 parts in 10^9 and two units, for every V and k1 in range. n
-- times the logarithm is 118 · 5/100 and two roundings off, 7 units; the exponential makes 20 parts of them; the products by c and
-- the last digits dropped are less than two units. The logarithm lies between -2 and 2. Below k1 the exact c (V/k1)^n is at most c,
-- and at least its value for V = 150 and the largest k1, which is above 0.18, and the program's is above that but for 100 units.
-- Assumes nothing.
use Prim.Native.Nat.{ℕ, ◌+◌, ◌*◌, ◌/◌, ◌≤◌, ◌<◌}
use mathlib.Core.Path.{◌≡◌, refl, subst, ap, sym}
use native.Mathlib.Omega.{arith}
use native.Mathlib.Nat.{le_trans, mul-le-mul_left, mul-le-mul_right, mul_assoc, zero-mul, mul_right_comm, lt_of_lt_of_le, le_of_mul-le-mul_right, div-le_of_le-mul, add-mul, le_of_lt}
use lib.Dec.{lit≤}
use lib.IntN.{ℤ, pos, nat_abs, ◌*ℤ◌, negsuc}
use lib.Ieee.Nearest.{div_mono}
use Rattle.exact.specs.Near.{up, dn, NearZ}
use Rattle.exact.specs.Laws.{Rel, Whole}
use Rattle.exact.specs.Exact.{E30, ln_e, exp_e, mul_e, pow_e}
use Rattle.fixed.specs.Fixed.{E9, K20, K21, mul_div, ln_quotient, exp_fixed}
use Rattle.fixed.proofs.LnNear.{ln_quotient-near}
use Rattle.model.specs.FineNear.{Between}
use Rattle.model.proofs.Between.{near_between, between_wide, floor_order, between_ln, mul-up-order}
use Rattle.model.specs.Equations.{site_n, E27, curve, site_c}
use Rattle.fixed.proofs.SignedLaws.{mul_div-abs, mul_div-whole}
use Rattle.model.specs.Fixed.{curve_fixed, site_c_fixed}
use Rattle.exact.proofs.Signed.{by_sign, abs-parts, mul-up, mul-dn}
use Rattle.model.proofs.NearSums.{near-quot, near_mul}
use Rattle.exact.proofs.ExpExact.{exp_e_mono}
use Rattle.exact.proofs.Quotients.{div-le}
use Rattle.model.proofs.Through.{rel_least, rel_cut, rel_most, exp_through}
use Rattle.exact.proofs.Rounding.{mul_e-whole}
use Rattle.exact.proofs.RelLaws.{rel_times}
use Rattle.exact.proofs.LnExact.{ln_e_mono}

-- what is asked of V and k1
pub record Paired (v k1 : ℕ) : Type 0 where
  pub v_low : 150 ≤ v
  pub v_high : v ≤ 1500
  pub k_low : 400 ≤ k1
  pub k_high : k1 ≤ 1086

-- ---- ln (V/k1)
pub quotient-near : (v k1 : ℕ) → Paired v k1 → NearZ K21 5 (ln_quotient v k1) (ln_e (v * E30 / k1))
quotient-near v k1 p =
    ln_quotient-near v k1 (omega (arith, p.k_low)) (omega (arith, p.v_low, p.k_high)) (omega (arith, p.v_high, p.k_low))

-- the least and the largest quotient
abbrev least_ratio : ℕ
least_ratio = 150 * E30 / 1086

abbrev largest_ratio : ℕ
largest_ratio = 1500 * E30 / 400

ratio_low : (v k1 : ℕ) → Paired v k1 → least_ratio ≤ v * E30 / k1
ratio_low v k1 p = div_mono (150 * E30) 1086 (v * E30) k1 (lit≤ tt) (omega (arith, p.k_low)) (cross v k1 p.v_low p.k_high)
  where
    cross : (v k1 : ℕ) → 150 ≤ v → k1 ≤ 1086 → 150 * E30 * k1 ≤ v * E30 * 1086
    cross v k1 h k = omega arith

ratio_high : (v k1 : ℕ) → Paired v k1 → v * E30 / k1 ≤ largest_ratio
ratio_high v k1 p = div_mono (v * E30) k1 (1500 * E30) 400 (omega (arith, p.k_low)) (lit≤ tt) (cross v k1 p.v_high p.k_low)
  where
    cross : (v k1 : ℕ) → v ≤ 1500 → 400 ≤ k1 → v * E30 * 400 ≤ 1500 * E30 * k1
    cross v k1 h k = omega arith

-- the exact logarithm lies between -2 and 2
abbrev pub minus_two : ℤ
minus_two = negsuc 1_999999_999999_999999_999999_999999

two_below : up minus_two + dn (ln_e least_ratio) ≤ up (ln_e least_ratio) + dn minus_two
unfolding ln_e
two_below = lit≤ tt

two_above : up (ln_e largest_ratio) + 0 ≤ 2 * E30 + dn (ln_e largest_ratio)
unfolding ln_e
two_above = lit≤ tt

quotient_between : (v k1 : ℕ) → Paired v k1 → Between minus_two (pos (2 * E30)) (ln_e (v * E30 / k1))
quotient_between v k1 p =
    between_wide minus_two (pos (2 * E30)) two_below two_above
    (between_ln least_ratio (v * E30 / k1) largest_ratio (lit≤ tt) (ratio_low v k1 p) (ratio_high v k1 p))

-- and below k1 it is not positive
ln_one_lem : up (ln_e E30) + 0 ≤ 0 + dn (ln_e E30)
unfolding ln_e
ln_one_lem = lit≤ tt

pub below_between : (v k1 : ℕ) → Paired v k1 → v < k1 → Between minus_two (pos 0) (ln_e (v * E30 / k1))
below_between v k1 p h =
    between_wide minus_two (pos 0) two_below ln_one_lem
    (between_ln least_ratio (v * E30 / k1) E30 (lit≤ tt) (ratio_low v k1 p) (div-le_of_le-mul k1 (mul-le-mul_right E30 (le_of_lt h))))

-- so the program's is at most 2 and 5 units
pub quotient-size : (v k1 : ℕ) → Paired v k1 → nat_abs (ln_quotient v k1) ≤ 2000000005
quotient-size v k1 p =
    let s = near_between 2000000000 2000000000 (lit≤ tt) (lit≤ tt) (lit≤ tt) (quotient_between v k1 p) (quotient-near v k1 p) in
    by_sign (ln_quotient v k1)
    (λ z. omega (arith, abs-parts (ln_quotient v k1), s.0, s.1))
    (λ z. omega (arith, abs-parts (ln_quotient v k1), s.0, s.1))

-- ---- n ln (V/k1)
-- a factor that divisor and dividend share
whole-less : (D F p : ℕ) (q d : ℤ) → 0 < F → Whole (D * F) q (pos (p * F) *ℤ d) → Whole D q (pos p *ℤ d)
whole-less D F p q d hF w =
    let a : ℤ = pos p *ℤ d in
    let b : ℤ = pos (p * F) *ℤ d in
    let u : up b ≡ up a * F = parts (up d) (dn d) (mul-up (pos (p * F)) d) (mul-up (pos p) d) in
    let n : dn b ≡ dn a * F = parts (dn d) (up d) (mul-dn (pos (p * F)) d) (mul-dn (pos p) d) in
    record {
      low = side (up q) (dn q) (up a) (dn a) (omega (arith, w.low, u, n));
      high = omega (arith, side (dn q) (up q) (dn a) (up a) (omega (arith, w.high, u, n)));
    }
  where
    parts : (s t : ℕ) {x y : ℕ} → x ≡ p * F * s + 0 * t → y ≡ p * s + 0 * t → x ≡ y * F
    parts s t {x} {y} e f =
        let g : y ≡ p * s = omega (arith, f, zero-mul t) in
        omega (arith, e, zero-mul t, mul_right_comm p F s, ap (λ (n : ℕ). n * F) g)

    side : (r s a b : ℕ) → D * F * r + b * F ≤ a * F + D * F * s + D * F → D * r + b ≤ a + D * s + D
    side r s a b h =
        le_of_mul-le-mul_right
        (omega (
          arith,
          h,
          mul_right_comm D F r,
          mul_right_comm D F s,
          add-mul (D * r) b F,
          add-mul (a + D * s) D F,
          add-mul a (D * s) F,
        ))
        hF

power_near :
    (v k1 : ℕ) → Paired v k1
    → NearZ K21 7 (mul_div (pos 118) (ln_quotient v k1) (pos 100)) (mul_e site_n (ln_e (v * E30 / k1)))
power_near v k1 p =
    near-quot 100 7 (lit≤ tt) (lit≤ tt) (lit≤ tt) (mul_div-whole (pos 118) (ln_quotient v k1) 100 (lit≤ tt))
    (whole-less 100 10000000000000000000000000000 118 _ (ln_e (v * E30 / k1)) (lit≤ tt) (mul_e-whole site_n (ln_e (v * E30 / k1))))
    (near_mul (pos 118) (quotient-near v k1 p))

power_size : (v k1 : ℕ) → Paired v k1 → nat_abs (mul_div (pos 118) (ln_quotient v k1) (pos 100)) ≤ 2400000000
power_size v k1 p = rw (mul_div-abs (pos 118) (ln_quotient v k1) (pos 100)) (go (nat_abs (ln_quotient v k1)) (quotient-size v k1 p))
  where
    go : (n : ℕ) → n ≤ 2000000005 → 118 * n / 100 ≤ 2400000000
    go n h = omega arith

-- ---- c (V/k1)^n
pub curve-near : (v k1 : ℕ) → Paired v k1 → Rel E9 20 (2 * E30) (curve_fixed v k1 * K21) (curve v k1)
unfolding curve_fixed curve pow_e
curve-near v k1 p =
    let a : ℤ = mul_div (pos 118) (ln_quotient v k1) (pos 100) in
    let b : ℤ = mul_e site_n (ln_e (v * E30 / k1)) in
    let e : ℕ = exp_fixed a in
    let size : up a + dn a ≤ 2400000000 = subst (λ (t : ℕ). t ≤ 2400000000) (abs-parts a) (power_size v k1 p) in
    rel_cut (188 * e) K20 100 10 (2 * E30) (lit≤ tt) (lit≤ tt) (lit≤ tt) (lit≤ tt)
    (subst (λ (t : ℕ). Rel E9 20 (188 * (3 * (K20 * E9))) t (188 * exp_e b)) (sym (mul_assoc 188 e K20))
    (rel_times E9 20 (3 * (K20 * E9)) (e * K20) (exp_e b) 188
    (exp_through 7 a b (lit≤ tt) (omega arith) (omega arith) (power_near v k1 p))))

-- a power with a positive exponent grows
power_mono : (x y : ℕ) → 0 < x → x ≤ y → pow_e x site_n ≤ pow_e y site_n
unfolding pow_e mul_e
power_mono x y hx h =
    exp_e_mono (mul_e site_n (ln_e x)) (mul_e site_n (ln_e y))
    (floor_order (site_n *ℤ ln_e x) (site_n *ℤ ln_e y) E30 (mul-up-order site_n (ln_e x) (ln_e y) refl (ln_e_mono x y hx h)))

curve-least : 18 * E27 * 10 ≤ 188 * pow_e least_ratio site_n / 100
unfolding pow_e
curve-least = lit≤ tt

curve-one : 188 * pow_e E30 site_n / 100 ≤ site_c
unfolding pow_e
curve-one = lit≤ tt

pub curve-low : (v k1 : ℕ) → Paired v k1 → 180000000 * K21 ≤ curve v k1
unfolding curve
curve-low v k1 p =
    le_trans curve-least (div-le 100 (mul-le-mul_left 188 (power_mono least_ratio (v * E30 / k1) (lit≤ tt) (ratio_low v k1 p))))

pub curve-high : (v k1 : ℕ) → Paired v k1 → v < k1 → curve v k1 ≤ site_c
unfolding curve
curve-high v k1 p h =
    le_trans
    (div-le 100
    (mul-le-mul_left 188
    (power_mono (v * E30 / k1) E30 (lt_of_lt_of_le (lit≤ tt) (ratio_low v k1 p))
    (div-le_of_le-mul k1 (mul-le-mul_right E30 (le_of_lt h))))))
    curve-one

-- and so the program's
pub curve_low_fixed : (v k1 : ℕ) → Paired v k1 → 179999900 ≤ curve_fixed v k1
curve_low_fixed v k1 p =
    go (curve_fixed v k1)
    (rel_least E9 20 K21 2 180000000 (curve_fixed v k1) (curve v k1) (lit≤ tt) (curve-low v k1 p) (curve-near v k1 p))
  where
    go : (a : ℕ) → 180000000 * E9 ≤ a * (E9 + 20) + 2 * E9 → 179999900 ≤ a
    go a h = omega arith

pub curve_high_fixed : (v k1 : ℕ) → Paired v k1 → v < k1 → curve_fixed v k1 ≤ 1900000000
curve_high_fixed v k1 p h =
    go (curve_fixed v k1)
    (rel_most E9 20 K21 2 site_c_fixed (curve_fixed v k1) (curve v k1) (lit≤ tt) (curve-high v k1 p h) (curve-near v k1 p))
  where
    go : (a : ℕ) → a * E9 ≤ site_c_fixed * (E9 + 20) + 2 * E9 → a ≤ 1900000000
    go a h = omega arith
