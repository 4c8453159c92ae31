-- The weight of a period between two others, of which the longer is from 1.2 to 2 times the shorter, lies within 3 units of 10^-9 of the
-- exact one: both logarithms are short by at most 2 units of 10^-10, and the lower of the two quotients' divisors is at least ln 1.2,
-- so that 2 units are at most 1.1 of the quotient's, and its rounding one more. Neither weight is above 1. Assumes nothing.
use Prim.Native.Nat.{ℕ, ◌+◌, ◌-◌, ◌*◌, ◌/◌, ◌≤◌, ◌<◌}
use mathlib.Core.Path.{◌≡◌, sym, ap, subst, ◌∙◌}
use native.Mathlib.Omega.{arith}
use native.Mathlib.Decide.{dec_le}
use native.Mathlib.Nat.{le_refl, le_trans, le_of_eq, add-le-add, le-add_left, mul-le-mul_left, mul-le-mul_right, mul_assoc, mul_comm, mul_right_comm, mul-add, add-mul, lt-div-mul-add, div-mul-le_self, div-le_of_le-mul, le-div_iff_mul-le}
use lib.Dec.{lit≤}
use lib.IntN.{pos}
use Rattle.exact.specs.Near.{up, dn, NearZ}
use Rattle.exact.specs.Exact.{E30, ln_e}
use Rattle.exact.proofs.LnExact.{ln_e_mono}
use Rattle.exact.proofs.Quotients.{div-le}
use Rattle.fixed.specs.Fixed.{E9, K20, K21, ln_narrow}
use Rattle.fixed.proofs.LnNarrow.{ln_narrow-near, ln_narrow_mono, ln_narrow-low}
use Rattle.model.proofs.Quotients.{near_pos}
use Rattle.between.specs.Periods.{weight}
use Rattle.between.specs.Fixed.{weight_fixed}

-- ---- the quotient w of a by b, coarse, against that of a' by b'; k fine units are a coarse one
above : (k a b a' b' w : ℕ) → 1000 ≤ k → w ≤ E9 → 1823215567 ≤ b → a' ≤ (a + 2) * k → b * k ≤ b' + 1000 → a * E9 < w * b + b → a' * E9 ≤ b' * (w + 3)
above k a b a' b' w hk hw least ha lb hi =
    let more : a * E9 + 1 ≤ w * b + b = omega arith in
    fin (a * k) (b * k) (w * b * k) (b' * w) (mul-le-mul_right k least) (omega (arith, ha, add-mul a 2 k))
    (omega (arith, mul-le-mul_right k more, add-mul (a * E9) 1 k, add-mul (w * b) b k, mul_right_comm a E9 k))
    (omega (arith, mul-le-mul_right (w + 3) lb, mul-add (b * k) w 3, add-mul b' 1000 (w + 3), mul-add b' w 3, mul_assoc w b k, mul_comm w (b * k)))
    (mul-add b' w 3)
  where
    fin :
        (ak bk wbk bw : ℕ) → 1823215567 * k ≤ bk → a' ≤ ak + 2 * k → ak * E9 + k ≤ wbk + bk → wbk + 3 * bk ≤ bw + 3 * b' + 1000 * (w + 3)
        → b' * (w + 3) ≡ bw + b' * 3
        → a' * E9 ≤ b' * (w + 3)
    fin ak bk wbk bw h0 h1 h2 h3 e = omega arith

below : (k a b a' b' u : ℕ) → 1000 ≤ k → u ≤ E9 → 1823215567 ≤ b → a * k ≤ a' + 1000 → b' ≤ (b + 2) * k → (u + 3) * b ≤ a * E9 → u * b' ≤ a' * E9
below k a b a' b' u hk hu least la hb lo =
    fin (a * k) (b * k) (u * b * k) (u * k) (mul-le-mul_right k least) la
    (omega (arith, mul-le-mul_right k lo, add-mul u 3 b, add-mul (u * b) (3 * b) k, mul_assoc 3 b k, mul_right_comm a E9 k))
    (omega (arith, mul-le-mul_left u hb, mul_assoc u (b + 2) k, mul-add u b 2, add-mul (u * b) (u * 2) k, mul_right_comm u 2 k))
    (le_trans (mul-le-mul_right k hu) (le_of_eq (mul_comm E9 k)))
  where
    fin :
        (ak bk ubk uk : ℕ) → 1823215567 * k ≤ bk → ak ≤ a' + 1000 → ubk + 3 * bk ≤ ak * E9 → u * b' ≤ ubk + uk * 2 → uk ≤ k * E9
        → u * b' ≤ a' * E9
    fin ak bk ubk uk h0 h1 h2 h3 h4 = omega arith

-- ---- at both scales: K fine units are one of 10^-9
quotients :
    (k K a b a' b' : ℕ) → 1000 ≤ k → 0 < b' → a ≤ b → 1823215567 ≤ b → a * k ≤ a' + 1000 → a' ≤ (a + 2) * k → b * k ≤ b' + 1000 → b' ≤ (b + 2) * k
    → NearZ K 3 (pos (a * E9 / b)) (pos (a' * (E9 * K) / b'))
quotients k K a b a' b' hk hb' ab least la ha lb hb =
    near_pos w w' (either (dec_le 3 w))
    (le_trans (div-le_of_le-mul b' (le_trans (le_of_eq (sym_assoc a' E9 K)) (le_trans (mul-le-mul_right K (above k a b a' b' w hk w_one least ha lb w_high)) (le_of_eq (mul_assoc b' (w + 3) K)))))
    (le_of_eq (add-mul w 3 K)))
  where
    b_pos : 0 < b
    b_pos = omega arith

    w : ℕ
    w = a * E9 / b

    w' : ℕ
    w' = a' * (E9 * K) / b'

    w_one : w ≤ E9
    w_one = div-le_of_le-mul b (mul-le-mul_right E9 ab)

    w_low : w * b ≤ a * E9
    w_low = div-mul-le_self (a * E9) b

    w_high : a * E9 < w * b + b
    w_high = lt-div-mul-add {a = a * E9} {b = b} b_pos

    sym_assoc : (x y z : ℕ) → x * (y * z) ≡ x * y * z
    sym_assoc x y z = sym (mul_assoc x y z)

    lower : (u : ℕ) → u + 3 ≡ w → u * K ≤ w'
    lower u e =
        (le-div_iff_mul-le hb').1
        (le_trans (le_of_eq (mul_right_comm u K b'))
        (le_trans (mul-le-mul_right K (below k a b a' b' u hk (omega (arith, w_one)) least la hb (subst (λ (t : ℕ). t * b ≤ a * E9) (sym e) w_low)))
        (le_of_eq (mul_assoc a' E9 K))))

    either : Dec (3 ≤ w) → w * K ≤ w' + 3 * K
    either (yes h) =
        let e : w - 3 + 3 ≡ w = omega arith in
        le_trans (le_of_eq (ap (λ (t : ℕ). t * K) (sym e) ∙ add-mul (w - 3) 3 K)) (add-le-add (lower (w - 3) e) (le_refl (3 * K)))
    either (no h) =
        let small : w ≤ 3 = omega arith in
        le_trans (mul-le-mul_right K small) (le-add_left (3 * K) w')

-- ---- the weight of a period t between t1 and t2
module _ (t t1 t2 : ℕ) (h1 : 0 < t1) (low : t1 ≤ t) (high : t ≤ t2) (wide : t2 ≤ 2 * t1) (apart : 6 * t1 ≤ 5 * t2) where
  near_t :
      (dn (ln_e (t * E30 / t1)) ≡ 0)
      × (ln_narrow t t1 * K20 ≤ up (ln_e (t * E30 / t1)) + 1000)
      × (up (ln_e (t * E30 / t1)) ≤ (ln_narrow t t1 + 2) * K20)
  near_t = ln_narrow-near t t1 h1 low (le_trans high wide)

  near_t2 :
      (dn (ln_e (t2 * E30 / t1)) ≡ 0)
      × (ln_narrow t2 t1 * K20 ≤ up (ln_e (t2 * E30 / t1)) + 1000)
      × (up (ln_e (t2 * E30 / t1)) ≤ (ln_narrow t2 t1 + 2) * K20)
  near_t2 = ln_narrow-near t2 t1 h1 (le_trans low high) wide

  least : 1823215567 ≤ ln_narrow t2 t1
  least = ln_narrow-low t2 t1 h1 wide apart

  -- the exact logarithm of the longer period is above 0
  some : 0 < up (ln_e (t2 * E30 / t1))
  some = positive K20 (ln_narrow t2 t1) (up (ln_e (t2 * E30 / t1))) (lit≤ tt) least near_t2.1
    where
      positive : (k b b' : ℕ) → 1000 ≤ k → 1823215567 ≤ b → b * k ≤ b' + 1000 → 0 < b'
      positive k b b' hk h l = omega (arith, mul-le-mul_right k h)

  pub weight-near : NearZ K21 3 (pos (weight_fixed t t1 t2)) (pos (weight t t1 t2))
  unfolding weight_fixed weight
  weight-near =
      quotients K20 K21 (ln_narrow t t1) (ln_narrow t2 t1) (up (ln_e (t * E30 / t1))) (up (ln_e (t2 * E30 / t1))) (lit≤ tt) some
      (ln_narrow_mono t t2 t1 h1 low high) least near_t.1 near_t.2 near_t2.1 near_t2.2

  pub weight_fixed-one : weight_fixed t t1 t2 ≤ E9
  unfolding weight_fixed
  weight_fixed-one = div-le_of_le-mul (ln_narrow t2 t1) (mul-le-mul_right E9 (ln_narrow_mono t t2 t1 h1 low high))

  pub weight-one : weight t t1 t2 ≤ E30
  unfolding weight
  weight-one = div-le_of_le-mul (up (ln_e (t2 * E30 / t1))) (mul-le-mul_right E30 grows)
    where
      no_sign : (a b c d : ℕ) → a + d ≤ c + b → b ≡ 0 → a ≤ c
      no_sign a b c d h e = omega arith

      from_one : E30 ≤ t * E30 / t1
      from_one = (le-div_iff_mul-le h1).1 (le_trans (le_of_eq (mul_comm E30 t1)) (mul-le-mul_right E30 low))

      grows : up (ln_e (t * E30 / t1)) ≤ up (ln_e (t2 * E30 / t1))
      grows =
          no_sign (up (ln_e (t * E30 / t1))) (dn (ln_e (t * E30 / t1))) (up (ln_e (t2 * E30 / t1))) (dn (ln_e (t2 * E30 / t1)))
          (ln_e_mono (t * E30 / t1) (t2 * E30 / t1) (le_trans (lit≤ tt) from_one) (div-le t1 (mul-le-mul_right E30 high)))
          near_t.0
