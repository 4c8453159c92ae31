-- A number drawn between two fine ones lies near that drawn between the exact two. The coarse weight w and N - w are whole numbers, so
-- that ends within e units give a sum within e: no more than each end. The weight's own error, g units, counts as often as the exact
-- ends are apart, D times one. A quarter of the difference, rounded, and the product over N/4, rounded, are 5 units more; and a
-- rounding of the exact line is less than one. Assumes nothing.
use Prim.Native.Nat.{ℕ, ◌+◌, ◌-◌, ◌*◌, ◌≤◌, ◌<◌}
use mathlib.Core.Path.{◌≡◌, sym, ap, ◌∙◌}
use native.Mathlib.Omega.{arith}
use native.Mathlib.Decide.{dec_le}
use native.Mathlib.Nat.{le_trans, le_of_eq, mul-pos, mul-le-mul_left, mul-le-mul_right, mul_assoc, mul_comm, mul_left_comm, mul_right_comm, mul-add, add-mul, le_of_mul-le-mul_left}
use lib.Dec.{lit≤}
use lib.IntN.{ℤ, pos, ◌+ℤ◌, ◌-ℤ◌, ◌*ℤ◌}
use lib.Signed.{quot_z, shr_z}
use Rattle.exact.specs.Near.{up, dn, NearZ, Within}
use Rattle.exact.specs.Exact.{E30}
use Rattle.exact.proofs.Signed.{add_parts, sub_is, scaled_up, scaled_dn}
use Rattle.exact.proofs.Rounding.{quot-whole, floor_whole}
use Rattle.fixed.specs.Fixed.{E9, K21, mul_div}
use Rattle.fixed.proofs.SignedLaws.{mul_div-whole}
use Rattle.between.specs.Periods.{on_line}
use Rattle.between.specs.Fixed.{on_line_fixed}

-- ---- the coarse line: N times it is within 5 N of a (N - w) + b w. Numbers stand by their positive and negative parts
quarter :
    (M w v a1 a0 b1 b0 d1 d0 q1 q0 m1 m0 l1 l0 : ℕ) → v + w ≡ 4 * M → l1 + (a0 + m0) ≡ l0 + (a1 + m1) → d1 + (b0 + a1) ≡ d0 + (b1 + a0)
    → 4 * q1 + d0 ≤ d1 + 4 * q0 + 4
    → M * m1 + q0 * w ≤ q1 * w + M * m0 + M
    → 4 * M * l1 + (a0 * v + b0 * w) ≤ a1 * v + b1 * w + 4 * M * l0 + 5 * (4 * M)
quarter M w v a1 a0 b1 b0 d1 d0 q1 q0 m1 m0 l1 l0 e el ed hq hm =
    let N : ℕ = 4 * M in
    let turns : N * l1 + (N * a0 + N * m0) ≡ N * l0 + (N * a1 + N * m1) =
    omega (arith, ap (λ (t : ℕ). N * t) el, mul-add N l1 (a0 + m0), mul-add N a0 m0, mul-add N l0 (a1 + m1), mul-add N a1 m1) in
    let apart : d1 * w + (b0 * w + a1 * w) ≡ d0 * w + (b1 * w + a0 * w) =
    omega (arith, ap (λ (t : ℕ). t * w) ed, add-mul d1 (b0 + a1) w, add-mul b0 a1 w, add-mul d0 (b1 + a0) w, add-mul b1 a0 w) in
    let fourth : 4 * (q1 * w) + d0 * w ≤ d1 * w + 4 * (q0 * w) + 4 * w =
    omega (
      arith,
      mul-le-mul_right w hq,
      add-mul (4 * q1) d0 w,
      add-mul (d1 + 4 * q0) 4 w,
      add-mul d1 (4 * q0) w,
      mul_assoc 4 q1 w,
      mul_assoc 4 q0 w,
    ) in
    let whole : N * a0 ≡ a0 * v + a0 * w = mul_comm N a0 ∙ ap (λ (t : ℕ). a0 * t) (sym e) ∙ mul-add a0 v w in
    let whole' : N * a1 ≡ a1 * v + a1 * w = mul_comm N a1 ∙ ap (λ (t : ℕ). a1 * t) (sym e) ∙ mul-add a1 v w in
    omega (arith, turns, apart, fourth, whole, whole', hm, mul_assoc 4 M m1, mul_assoc 4 M m0, e)

-- ---- the weight: w K and w' are D apart, and so v K and v' to the other side
moved :
    (p1 p0 q1 q0 x y v' w' Δ B : ℕ) → y ≡ w' + Δ → v' ≡ x + Δ → q1 + p0 ≤ p1 + q0 + B
    → p1 * x + q1 * y + (p0 * v' + q0 * w') ≤ p1 * v' + q1 * w' + (p0 * x + q0 * y) + B * Δ
moved p1 p0 q1 q0 x y v' w' Δ B ey ev h =
    rw (ey, ev)
    (omega (
      arith,
      mul-le-mul_right Δ h,
      add-mul q1 p0 Δ,
      add-mul (p1 + q0) B Δ,
      add-mul p1 q0 Δ,
      mul-add q1 w' Δ,
      mul-add q0 w' Δ,
      mul-add p1 x Δ,
      mul-add p0 x Δ,
    ))

weighed :
    (p1 p0 q1 q0 x y v' w' G B : ℕ) → x + y ≡ v' + w' → y ≤ w' + G → w' ≤ y + G → q1 + p0 ≤ p1 + q0 + B → p1 + q0 ≤ q1 + p0 + B
    → p1 * x + q1 * y + (p0 * v' + q0 * w') ≤ p1 * v' + q1 * w' + (p0 * x + q0 * y) + B * G
weighed p1 p0 q1 q0 x y v' w' G B e h k l m = either (dec_le w' y)
  where
    either : Dec (w' ≤ y) → p1 * x + q1 * y + (p0 * v' + q0 * w') ≤ p1 * v' + q1 * w' + (p0 * x + q0 * y) + B * G
    either (yes g) =
        let small : y - w' ≤ G = omega arith in
        omega (arith, moved p1 p0 q1 q0 x y v' w' (y - w') B (omega arith) (omega arith) l, mul-le-mul_left B small)
    either (no g) =
        let small : x - v' ≤ G = omega arith in
        omega (arith, moved q1 q0 p1 p0 y x w' v' (x - v') B (omega arith) (omega arith) (omega arith), mul-le-mul_left B small)

-- ---- both together, in one direction: l the coarse line, a and b its ends, s what the exact line x is N K of
one_way :
    (N K v w v' w' e g D a1 a0 b1 b0 p1 p0 q1 q0 l1 l0 s1 s0 x1 x0 : ℕ) → 0 < N → 0 < K → v + w ≡ N → v' + w' ≡ N * K
    → w * K ≤ w' + g * K
    → w' ≤ w * K + g * K
    → N * l1 + (a0 * v + b0 * w) ≤ a1 * v + b1 * w + N * l0 + 5 * N
    → a1 * K + p0 ≤ p1 + a0 * K + e * K
    → b1 * K + q0 ≤ q1 + b0 * K + e * K
    → q1 + p0 ≤ p1 + q0 + D * (N * K)
    → p1 + q0 ≤ q1 + p0 + D * (N * K)
    → s1 + (p0 * v' + q0 * w') ≡ s0 + (p1 * v' + q1 * w')
    → s1 + N * K * x0 ≤ N * K * x1 + s0 + N * K
    → l1 * K + x0 ≤ x1 + l0 * K + (e + g * D + 6) * K
one_way N K v w v' w' e g D a1 a0 b1 b0 p1 p0 q1 q0 l1 l0 s1 s0 x1 x0 hN h_k ev ev' hw hw' hl na nb far near es hx =
    le_of_mul-le-mul_left goal (mul-pos hN h_k)
  where
    E : ℕ
    E = N * K

    -- an end, weighed
    end : (c1 c0 z1 z0 u : ℕ) → c1 * K + z0 ≤ z1 + c0 * K + e * K → c1 * u * K + z0 * u ≤ z1 * u + c0 * u * K + e * K * u
    end c1 c0 z1 z0 u h =
        omega (
          arith,
          mul-le-mul_right u h,
          add-mul (c1 * K) z0 u,
          add-mul (z1 + c0 * K) (e * K) u,
          add-mul z1 (c0 * K) u,
          mul_right_comm c1 K u,
          mul_right_comm c0 K u,
        )

    share : e * K * v + e * K * w ≡ e * K * N
    share = sym (mul-add (e * K) v w) ∙ ap (λ (t : ℕ). e * K * t) ev

    line : N * l1 * K + (a0 * v * K + b0 * w * K) ≤ a1 * v * K + b1 * w * K + N * l0 * K + 5 * N * K
    line =
        omega (
          arith,
          mul-le-mul_right K hl,
          add-mul (N * l1) (a0 * v + b0 * w) K,
          add-mul (a0 * v) (b0 * w) K,
          add-mul (a1 * v + b1 * w + N * l0) (5 * N) K,
          add-mul (a1 * v + b1 * w) (N * l0) K,
          add-mul (a1 * v) (b1 * w) K,
        )

    -- the coarse line against the exact ends, at the coarse weight
    coarse : N * l1 * K + (p0 * v + q0 * w) ≤ p1 * v + q1 * w + N * l0 * K + (e * K * N + 5 * N * K)
    coarse = omega (arith, end a1 a0 p1 p0 v na, end b1 b0 q1 q0 w nb, share, line)

    -- and at the exact one
    changed :
        p1 * (v * K) + q1 * (w * K) + (p0 * v' + q0 * w') ≤ p1 * v' + q1 * w' + (p0 * (v * K) + q0 * (w * K)) + D * (N * K) * (g * K)
    changed =
        weighed p1 p0 q1 q0 (v * K) (w * K) v' w' (g * K) (D * (N * K)) (sym (add-mul v w K) ∙ ap (λ (t : ℕ). t * K) ev ∙ sym ev') hw hw'
        far near

    finer :
        N * l1 * K * K + (p0 * (v * K) + q0 * (w * K))
        ≤ p1 * (v * K) + q1 * (w * K) + N * l0 * K * K + (e * K * N * K + 5 * N * K * K)
    finer =
        omega (
          arith,
          mul-le-mul_right K coarse,
          add-mul (N * l1 * K) (p0 * v + q0 * w) K,
          add-mul (p0 * v) (q0 * w) K,
          add-mul (p1 * v + q1 * w + N * l0 * K) (e * K * N + 5 * N * K) K,
          add-mul (p1 * v + q1 * w) (N * l0 * K) K,
          add-mul (p1 * v) (q1 * w) K,
          add-mul (e * K * N) (5 * N * K) K,
          mul_assoc p0 v K,
          mul_assoc q0 w K,
          mul_assoc p1 v K,
          mul_assoc q1 w K,
        )

    scaled : (l : ℕ) → N * l * K * K ≡ N * K * (l * K)
    scaled l = omega (arith, mul_assoc (N * l) K K, mul_right_comm N l (K * K), sym_scaled l)
      where
        sym_scaled : (l : ℕ) → N * l * (K * K) ≡ N * K * (l * K)
        sym_scaled l = simp (mul_assoc, mul_comm, mul_left_comm)

    slack : e * K * N * K + 5 * N * K * K + D * (N * K) * (g * K) + N * K ≤ N * K * ((e + g * D + 6) * K)
    slack =
        let one : e * K * N * K ≡ N * K * (e * K) = simp (mul_assoc, mul_comm, mul_left_comm) in
        let two : 5 * N * K * K ≡ N * K * (5 * K) = omega (arith, mul_assoc 5 N K, mul_assoc 5 (N * K) K, mul_left_comm (N * K) 5 K) in
        let three : D * (N * K) * (g * K) ≡ N * K * (g * D * K) = simp (mul_assoc, mul_comm, mul_left_comm) in
        let four : N * K ≤ N * K * K = le_trans (le_of_eq (sym (omega_one (N * K)))) (mul-le-mul_left (N * K) h_k) in
        let sum : N * K * ((e + g * D + 6) * K) ≡ N * K * (e * K) + N * K * (g * D * K) + N * K * (6 * K) =
        ap (λ (t : ℕ). N * K * t) (add-mul (e + g * D) 6 K ∙ ap (λ (t : ℕ). t + 6 * K) (add-mul e (g * D) K))
        ∙ mul-add (N * K) (e * K + g * D * K) (6 * K)
        ∙ ap (λ (t : ℕ). t + N * K * (6 * K)) (mul-add (N * K) (e * K) (g * D * K)) in
        omega (arith, one, two, three, four, sum, mul_left_comm (N * K) 5 K, mul_left_comm (N * K) 6 K)
      where
        omega_one : (m : ℕ) → m * 1 ≡ m
        omega_one m = omega arith

    goal : N * K * (l1 * K + x0) ≤ N * K * (x1 + l0 * K + (e + g * D + 6) * K)
    goal =
        omega (
          arith,
          finer,
          changed,
          scaled l1,
          scaled l0,
          slack,
          es,
          hx,
          mul-add (N * K) (l1 * K) x0,
          mul-add (N * K) (x1 + l0 * K) ((e + g * D + 6) * K),
          mul-add (N * K) x1 (l0 * K),
        )

-- ---- the law
-- the other sides of the facts, in the order that `quarter` and `one_way` ask for
parts :
    (s1 s0 u d p q p1 p0 q1 q0 : ℕ) → s1 + (d + q) ≡ s0 + (u + p) → u ≡ p1 → d ≡ p0 → p ≡ q1 → q ≡ q0
    → s1 + (p0 + q0) ≡ s0 + (p1 + q1)
parts s1 s0 u d p q p1 p0 q1 q0 e a b c f = omega arith

product-low : (M m1 m0 u d p1 p0 : ℕ) → M * m1 + d ≤ u + M * m0 + M → u ≡ p1 → d ≡ p0 → M * m1 + p0 ≤ p1 + M * m0 + M
product-low M m1 m0 u d p1 p0 h a b = omega arith

product_high : (M m1 m0 u d p1 p0 : ℕ) → u + M * m0 ≤ M * m1 + d + M → u ≡ p1 → d ≡ p0 → M * m0 + p1 ≤ p0 + M * m1 + M
product_high M m1 m0 u d p1 p0 h a b = omega arith

turned : (a b c d e : ℕ) → a + b ≤ c + d + e → b + a ≤ d + c + e
turned a b c d e h = omega arith

pub line-near :
    (e g D w w' : ℕ) (a b a' b' : ℤ) → w ≤ E9 → w' ≤ E30 → NearZ K21 g (pos w) (pos w') → Within (D * E30) a' b' → NearZ K21 e a a'
    → NearZ K21 e b b'
    → NearZ K21 (e + g * D + 6) (on_line_fixed w a b) (on_line w' a' b')
unfolding on_line_fixed on_line
line-near e g D w w' a b a' b' hw hw' n far na nb =
    let M : ℕ = 250000000 in
    let v : ℕ = E9 - w in
    let v' : ℕ = E30 - w' in
    let d : ℤ = b -ℤ a in
    let q : ℤ = quot_z d (pos 4) in
    let m : ℤ = mul_div q (pos w) (pos M) in
    let l : ℤ = a +ℤ m in
    let s : ℤ = a' *ℤ pos v' +ℤ b' *ℤ pos w' in
    let x : ℤ = shr_z s E30 in
    let ev : v + w ≡ E9 = rest E9 w hw in
    let ev' : v' + w' ≡ E30 = rest E30 w' hw' in
    let q_whole = quot-whole 4 d (lit≤ tt) in
    let m_whole = mul_div-whole q (pos w) M (lit≤ tt) in
    let x_whole = floor_whole E30 s (lit≤ tt) in
    let es =
    parts (up s) (dn s) (up (a' *ℤ pos v')) (dn (a' *ℤ pos v')) (up (b' *ℤ pos w')) (dn (b' *ℤ pos w')) (up a' * v') (dn a' * v') (up b' * w')
    (dn b' * w') (add_parts (a' *ℤ pos v') (b' *ℤ pos w')) (scaled_up a' v') (scaled_dn a' v') (scaled_up b' w') (scaled_dn b' w') in
    let hl =
    quarter M w v (up a) (dn a) (up b) (dn b) (up d) (dn d) (up q) (dn q) (up m) (dn m) (up l) (dn l) ev (add_parts a m) (sub_is b a)
    q_whole.low
    (product-low M (up m) (dn m) (up (q *ℤ pos w)) (dn (q *ℤ pos w)) (up q * w) (dn q * w) m_whole.low (scaled_up q w) (scaled_dn q w)) in
    let hl' =
    quarter M w v (dn a) (up a) (dn b) (up b) (dn d) (up d) (dn q) (up q) (dn m) (up m) (dn l) (up l) ev (sym (add_parts a m)) (sym (sub_is b a))
    (turned (up d) (4 * dn q) (4 * up q) (dn d) 4 q_whole.high)
    (product_high M (up m) (dn m) (up (q *ℤ pos w)) (dn (q *ℤ pos w)) (up q * w) (dn q * w) m_whole.high (scaled_up q w) (scaled_dn q w)) in
    let wl : w * K21 ≤ w' + g * K21 = bare (w * K21) w' (g * K21) n.low in
    let wh : w' ≤ w * K21 + g * K21 = bare w' (w * K21) (g * K21) n.high in
    record {
      low =
          one_way E9 K21 v w v' w' e g D (up a) (dn a) (up b) (dn b) (up a') (dn a') (up b') (dn b') (up l) (dn l) (up s) (dn s) (up x) (dn x)
          (lit≤ tt) (lit≤ tt) ev ev' wl wh hl na.low nb.low far.high far.low es x_whole.high;
      high =
          turned (dn l * K21) (up x) (dn x) (up l * K21) ((e + g * D + 6) * K21)
          (one_way E9 K21 v w v' w' e g D (dn a) (up a) (dn b) (up b) (dn a') (up a') (dn b') (up b') (dn l) (up l) (dn s) (up s) (dn x) (up x)
          (lit≤ tt) (lit≤ tt) ev ev' wl wh hl'
          (turned (up a') (dn a * K21) (up a * K21) (dn a') (e * K21) na.high)
          (turned (up b') (dn b * K21) (up b * K21) (dn b') (e * K21) nb.high)
          (turned (up a') (dn b') (up b') (dn a') (D * E30) far.low)
          (turned (up b') (dn a') (up a') (dn b') (D * E30) far.high)
          (sym es)
          (turned (E30 * up x) (dn s) (up s) (E30 * dn x) E30 x_whole.low));
    }
  where
    rest : (E w : ℕ) → w ≤ E → E - w + w ≡ E
    rest E w h = omega arith

    bare : (a b c : ℕ) → a + 0 ≤ b + 0 + c → a ≤ b + c
    bare a b c h = omega arith
