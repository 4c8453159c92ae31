-- A number on the line between two lies where both lie, the exact one and the one that is reckoned. Assumes nothing.
use Prim.Native.Nat.{ℕ, suc, ◌+◌, ◌-◌, ◌*◌, ◌/◌, ◌≤◌, ◌<◌, zero-le}
use mathlib.Core.Path.{◌≡◌, refl, sym, ap, ◌∙◌}
use mathlib.Core.Logic.{◌⊎◌, inl, inr}
use native.Mathlib.Omega.{arith}
use native.Mathlib.Nat.{le-add_left, le-add_right, mul-le-mul_left, mul-le-mul_right, mul-add, add-mul, mul_comm, le-div_iff_mul-le, div-lt_iff_lt-mul, div-le_of_le-mul, div-mul-le_self}
use lib.Arith.{le-zero}
use lib.Dec.{lit≤}
use lib.IntN.{ℤ, pos, negsuc, ◌+ℤ◌, ◌-ℤ◌, ◌*ℤ◌}
use lib.Signed.{shr_z, quot_z}
use Rattle.exact.specs.Near.{up, dn}
use Rattle.exact.specs.Exact.{E30}
use Rattle.exact.proofs.Signed.{by_sign, add_parts, sub_is, scaled_up, scaled_dn, quot-up, quot-dn}
use Rattle.fixed.specs.Fixed.{E9, mul_div}
use Rattle.model.specs.FineNear.{Between}
use Rattle.between.specs.Periods.{on_line}
use Rattle.between.specs.Fixed.{on_line_fixed}

-- ---- a division rounded down keeps whole bounds
floor_low : (E : ℕ) (lo h : ℤ) → 0 < E → up lo * E + dn h ≤ up h + dn lo * E → up lo + dn (shr_z h E) ≤ up (shr_z h E) + dn lo
floor_low E (pos l) (pos h) hE k = let g : l * E ≤ h = omega arith in omega (arith, (le-div_iff_mul-le hE).1 g)
floor_low E (negsuc l) (pos h) hE k = omega arith
floor_low E (pos l) (negsuc h) hE k = absurd (omega arith)
floor_low E (negsuc l) (negsuc h) hE k = let g : h < suc l * E = omega arith in omega (arith, (div-lt_iff_lt-mul hE).1 g)

floor_high : (E : ℕ) (hi h : ℤ) → 0 < E → up h + dn hi * E ≤ up hi * E + dn h → up (shr_z h E) + dn hi ≤ up hi + dn (shr_z h E)
floor_high E (pos m) (pos h) hE k = let g : h ≤ E * m = omega (arith, mul_comm E m) in omega (arith, div-le_of_le-mul E g)
floor_high E (negsuc m) (pos h) hE k = absurd (omega (arith, add-mul 1 m E))
floor_high E (pos m) (negsuc h) hE k = omega arith
floor_high E (negsuc m) (negsuc h) hE k =
    let g : m * E ≤ h = omega (arith, add-mul 1 m E) in omega (arith, (le-div_iff_mul-le hE).1 g)

-- ---- the line
-- a bound c of p and q bounds p v + q w by c (v + w)
weighted :
    (v w E c1 c0 p1 p0 q1 q0 h1 h0 : ℕ) → v + w ≡ E → c1 + p0 ≤ p1 + c0 → c1 + q0 ≤ q1 + c0 → h1 + (p0 * v + q0 * w) ≡ h0 + (p1 * v + q1 * w)
    → c1 * E + h0 ≤ h1 + c0 * E
weighted v w E c1 c0 p1 p0 q1 q0 h1 h0 e p q s =
    rw (sym e)
    (omega (
      arith,
      s,
      mul-le-mul_right v p,
      mul-le-mul_right w q,
      add-mul c1 p0 v,
      add-mul p1 c0 v,
      add-mul c1 q0 w,
      add-mul q1 c0 w,
      mul-add c1 v w,
      mul-add c0 v w,
    ))

pub line_between :
    (lo hi a b : ℤ) (w : ℕ) → w ≤ E30 → Between lo hi a → Between lo hi b → Between lo hi (on_line w a b)
unfolding on_line
line_between lo hi a b w h p q =
    let v : ℕ = E30 - w in
    let s : ℤ = a *ℤ pos v +ℤ b *ℤ pos w in
    let e : v + w ≡ E30 = omega arith in
    let parts : up s + (dn a * v + dn b * w) ≡ dn s + (up a * v + up b * w) =
    omega (arith, add_parts (a *ℤ pos v) (b *ℤ pos w), scaled_up a v, scaled_dn a v, scaled_up b w, scaled_dn b w) in
    let turned : dn s + (up a * v + up b * w) ≡ up s + (dn a * v + dn b * w) = sym parts in
    record {
      low =
          floor_low E30 lo s (lit≤ tt)
          (weighted v w E30 (up lo) (dn lo) (up a) (dn a) (up b) (dn b) (up s) (dn s) e p.low q.low parts);
      high =
          floor_high E30 hi s (lit≤ tt)
          (swapped (up s) (dn s) (up hi * E30) (dn hi * E30)
          (weighted v w E30 (dn hi) (up hi) (dn a) (up a) (dn b) (up b) (dn s) (up s) e (omega (arith, p.high)) (omega (arith, q.high)) turned));
    }
  where
    swapped : (s1 s0 c1 c0 : ℕ) → c0 + s1 ≤ s0 + c1 → s1 + c0 ≤ c1 + s0
    swapped s1 s0 c1 c0 h = omega arith

-- ---- the line that is reckoned: what is put to a has the sign of b - a, and is not larger
-- l is not above b where b is not below a, and not below a
rising :
    (a1 a0 b1 b0 d1 d0 m1 m0 l1 l0 : ℕ) → d1 + (b0 + a1) ≡ d0 + (b1 + a0) → l1 + (a0 + m0) ≡ l0 + (a1 + m1) → m1 ≤ d1 → m0 ≤ d0 → d0 ≡ 0
    → (l1 + b0 ≤ b1 + l0) × (a1 + l0 ≤ l1 + a0)
rising a1 a0 b1 b0 d1 d0 m1 m0 l1 l0 e f g h z = (omega arith, omega arith)

-- a part is not above what bounds both ends' parts
bounded :
    (H a1 a0 b1 b0 l1 l0 : ℕ) → ((l1 ≡ 0) ⊎ (l0 ≡ 0)) → a1 ≤ H → b1 ≤ H → ((l1 + b0 ≤ b1 + l0) ⊎ (l1 + a0 ≤ a1 + l0)) → l1 ≤ H
bounded H a1 a0 b1 b0 l1 l0 (inl z) ha hb o = omega arith
bounded H a1 a0 b1 b0 l1 l0 (inr z) ha hb (inl o) = omega arith
bounded H a1 a0 b1 b0 l1 l0 (inr z) ha hb (inr o) = omega arith

one_sign : (l : ℤ) → (up l ≡ 0) ⊎ (dn l ≡ 0)
one_sign (pos n) = inr refl
one_sign (negsuc n) = inl refl

pub line-inside :
    (w : ℕ) (a b : ℤ) (H L : ℕ) → w ≤ E9 → up a ≤ H → up b ≤ H → dn a ≤ L → dn b ≤ L
    → (up (on_line_fixed w a b) ≤ H) × (dn (on_line_fixed w a b) ≤ L)
unfolding on_line_fixed mul_div
line-inside w a b H L hw ha hb la lb =
    let d : ℤ = b -ℤ a in
    let q : ℤ = quot_z d (pos 4) in
    let m : ℤ = quot_z (q *ℤ pos w) (pos 250000000) in
    let l : ℤ = a +ℤ m in
    let m_up : up m ≤ up d =
    part (up m) (up q) (up d) (quot-up (q *ℤ pos w) 250000000 ∙ ap (λ (t : ℕ). t / 250000000) (scaled_up q w)) (quot-up d 4) in
    let m_dn : dn m ≤ dn d =
    part (dn m) (dn q) (dn d) (quot-dn (q *ℤ pos w) 250000000 ∙ ap (λ (t : ℕ). t / 250000000) (scaled_dn q w)) (quot-dn d 4) in
    by_sign d
    (λ z.
    let o = rising (up a) (dn a) (up b) (dn b) (up d) (dn d) (up m) (dn m) (up l) (dn l) (sub_is b a) (add_parts a m) m_up m_dn z in
    fin l (inl o.0) (inr (turned (up a) (dn a) (up l) (dn l) o.1)))
    (λ z.
    let o = rising (dn a) (up a) (dn b) (up b) (dn d) (up d) (dn m) (up m) (dn l) (up l) (sym (sub_is b a)) (sym (add_parts a m)) m_dn m_up z in
    fin l (inr (turned (dn a) (up a) (dn l) (up l) o.1)) (inl o.0))
  where
    -- a quarter, times at most 4, is not above the whole
    part : (m q d : ℕ) → m ≡ q * w / 250000000 → q ≡ d / 4 → m ≤ d
    part m q d e f =
        let k : q * w ≤ q * E9 = mul-le-mul_left q hw in
        omega (arith, div-mul-le_self (q * w) 250000000)

    turned : (a1 a0 l1 l0 : ℕ) → a1 + l0 ≤ l1 + a0 → l0 + a1 ≤ a0 + l1
    turned a1 a0 l1 l0 h = omega arith

    swapped : {A B : Type 0} → A ⊎ B → B ⊎ A
    swapped (inl x) = inr x
    swapped (inr y) = inl y

    fin :
        (l : ℤ) → ((up l + dn b ≤ up b + dn l) ⊎ (up l + dn a ≤ up a + dn l)) → ((dn l + up b ≤ dn b + up l) ⊎ (dn l + up a ≤ dn a + up l))
        → (up l ≤ H) × (dn l ≤ L)
    fin l o p = (
      bounded H (up a) (dn a) (up b) (dn b) (up l) (dn l) (one_sign l) ha hb o,
      bounded L (dn a) (up a) (dn b) (up b) (dn l) (up l) (swapped (one_sign l)) la lb p,
    )

-- a line between numbers without a sign is without a sign
pub line_plain : (w a b : ℕ) → w ≤ E9 → dn (on_line_fixed w (pos a) (pos b)) ≡ 0
line_plain w a b hw = le-zero (line-inside w (pos a) (pos b) (a + b) 0 hw (le-add_right a b) (le-add_left b a) zero-le zero-le).1
