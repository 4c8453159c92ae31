-- Nearness of signed numbers at two scales under sums, differences, products and quotients. If a K and b are at most e K apart, then
-- sums are e + f apart, a multiple by c is |c| e, and a quotient by D, rounded either way on each side, is (e + D + 1)/D or less: one
-- unit for the coarse rounding, and less than one for the fine one, as D is at most K. A product of two near numbers is off by e |d|
-- + f |a|. Assumes nothing.
use Prim.Native.Nat.{ℕ, suc, ◌+◌, ◌*◌, ◌/◌, ◌≤◌, ◌<◌}
use mathlib.Core.Path.{◌≡◌, sym, ap, subst₂, ◌∙◌}
use native.Mathlib.Omega.{arith}
use native.Mathlib.Nat.{le_trans, le_of_eq, add_comm, mul-le-mul_left, mul-le-mul_right, mul_assoc, mul_comm, mul-add, add-mul, mul-zero, zero-mul, mul-mul-mul_comm, mul-pos, le_of_mul-le-mul_left, lt-div-mul-add}
use lib.IntN.{ℤ, pos, negsuc, neg_ℤ, nat_abs, ◌+ℤ◌, ◌-ℤ◌, ◌*ℤ◌}
use lib.Signed.{shr_z}
use Rattle.exact.specs.Near.{up, dn, NearZ}
use Rattle.exact.specs.Laws.{Whole}
use Rattle.exact.proofs.Signed.{abs-parts, add_parts, neg-up, neg-dn, mul-up, mul-dn}
use Rattle.exact.proofs.Rounding.{floor_whole}
use Rattle.fixed.specs.Fixed.{mul_div}
use Rattle.fixed.proofs.SignedLaws.{mul_div-whole}

-- ---- one number at both scales
-- a multiple of D coarse units is the same multiple of D K fine ones
pub near_exact : (K D : ℕ) (a : ℤ) → NearZ K 0 (a *ℤ pos D) (a *ℤ pos (D * K))
near_exact K D a =
    let u : up (a *ℤ pos D) * K ≡ up (a *ℤ pos (D * K)) = part (up a) (dn a) (mul-up a (pos D)) (mul-up a (pos (D * K))) in
    let d : dn (a *ℤ pos D) * K ≡ dn (a *ℤ pos (D * K)) = swapped (mul-dn a (pos D)) (mul-dn a (pos (D * K))) in
    record { low = omega (arith, u, d); high = omega (arith, u, d) }
  where
    part : (p q : ℕ) {s t : ℕ} → s ≡ p * D + q * 0 → t ≡ p * (D * K) + q * 0 → s * K ≡ t
    part p q {s} {t} e f =
        let g : s ≡ p * D = omega (arith, e, mul-zero q) in
        ap (λ (n : ℕ). n * K) g ∙ omega (arith, f, mul-zero q, mul_assoc p D K)

    swapped : {s t : ℕ} → s ≡ up a * 0 + dn a * D → t ≡ up a * 0 + dn a * (D * K) → s * K ≡ t
    swapped e f = part (dn a) (up a) (e ∙ add_comm (up a * 0) (dn a * D)) (f ∙ add_comm (up a * 0) (dn a * (D * K)))

-- ---- sums
-- the equation between the parts of a sum, brought to the fine scale
spread : (K u a b d x y : ℕ) → u + (a + b) ≡ d + (x + y) → u * K + (a * K + b * K) ≡ d * K + (x * K + y * K)
spread K u a b d x y e =
    omega (arith, ap (λ (t : ℕ). t * K) e, add-mul u (a + b) K, add-mul a b K, add-mul d (x + y) K, add-mul x y K)

-- the bounds of two terms add up
pub near_add : {K e f : ℕ} {a b c d : ℤ} → NearZ K e a b → NearZ K f c d → NearZ K (e + f) (a +ℤ c) (b +ℤ d)
near_add {K} {e} {f} {a} {b} {c} {d} n m =
    let s = spread K (up (a +ℤ c)) (dn a) (dn c) (dn (a +ℤ c)) (up a) (up c) (add_parts a c) in
    record {
      low = omega (arith, s, add_parts b d, n.low, m.low, add-mul e f K);
      high = omega (arith, s, add_parts b d, n.high, m.high, add-mul e f K);
    }

-- the other sign changes no bound
pub near-neg : {K e : ℕ} {a b : ℤ} → NearZ K e a b → NearZ K e (neg_ℤ a) (neg_ℤ b)
near-neg {K} {e} {a} {b} n =
    let u : up (neg_ℤ a) * K ≡ dn a * K = ap (λ (t : ℕ). t * K) (neg-up a) in
    let d : dn (neg_ℤ a) * K ≡ up a * K = ap (λ (t : ℕ). t * K) (neg-dn a) in
    record {
      low = omega (arith, n.high, u, d, neg-up b, neg-dn b);
      high = omega (arith, n.low, u, d, neg-up b, neg-dn b);
    }

-- so a difference is bounded as a sum is
pub near_sub : {K e f : ℕ} {a b c d : ℤ} → NearZ K e a b → NearZ K f c d → NearZ K (e + f) (a -ℤ c) (b -ℤ d)
near_sub n m = near_add n (near-neg m)

-- ---- products by a whole number
-- one side of the nearness, times k
times : (K k e p q r s : ℕ) → p * K + s ≤ r + q * K + e * K → k * p * K + k * s ≤ k * r + k * q * K + k * e * K
times K k e p q r s h =
    omega (
      arith,
      mul-le-mul_left k h,
      mul-add k (p * K) s,
      mul_assoc k p K,
      mul-add k (r + q * K) (e * K),
      mul-add k r (q * K),
      mul_assoc k q K,
      mul_assoc k e K,
    )

-- a multiple by k of numbers whose parts are known: those of a and b, or those with the sign turned
multiple :
    (K k e p q r s : ℕ) (a b : ℤ) → up a ≡ k * p → dn a ≡ k * q → up b ≡ k * r → dn b ≡ k * s → p * K + s ≤ r + q * K + e * K
    → q * K + r ≤ s + p * K + e * K
    → NearZ K (k * e) a b
multiple K k e p q r s a b eu ed fu fd l h =
    let u : up a * K ≡ k * p * K = ap (λ (t : ℕ). t * K) eu in
    let d : dn a * K ≡ k * q * K = ap (λ (t : ℕ). t * K) ed in
    record {
      low = omega (arith, times K k e p q r s l, u, d, fu, fd);
      high = omega (arith, times K k e q p s r h, u, d, fu, fd);
    }

-- the size of the factor counts
pub near_mul : {K e : ℕ} {a b : ℤ} (c : ℤ) → NearZ K e a b → NearZ K (nat_abs c * e) (c *ℤ a) (c *ℤ b)
near_mul {K} {e} {a} {b} (pos k) n =
    multiple K k e (up a) (dn a) (up b) (dn b) (pos k *ℤ a) (pos k *ℤ b) (same_up a) (same-dn a) (same_up b) (same-dn b) n.low
    (omega (arith, n.high))
  where
    same_up : (z : ℤ) → up (pos k *ℤ z) ≡ k * up z
    same_up z = omega (arith, mul-up (pos k) z, zero-mul (dn z))

    same-dn : (z : ℤ) → dn (pos k *ℤ z) ≡ k * dn z
    same-dn z = omega (arith, mul-dn (pos k) z, zero-mul (up z))
near_mul {K} {e} {a} {b} (negsuc k) n =
    multiple K (suc k) e (dn a) (up a) (dn b) (up b) (negsuc k *ℤ a) (negsuc k *ℤ b) (turned_up a) (turned-dn a) (turned_up b)
    (turned-dn b)
    (omega (arith, n.high))
    n.low
  where
    turned_up : (z : ℤ) → up (negsuc k *ℤ z) ≡ suc k * dn z
    turned_up z = omega (arith, mul-up (negsuc k) z, zero-mul (up z))

    turned-dn : (z : ℤ) → dn (negsuc k *ℤ z) ≡ suc k * up z
    turned-dn z = omega (arith, mul-dn (negsuc k) z, zero-mul (dn z))

-- ---- quotients by a whole number, rounded either way
-- one side: u, d are the parts of a and w, x those of b; p, q those of the coarse quotient and r, s those of the fine one
quot_core :
    (K D e e' u d w x p q r s : ℕ) → 0 < D → D ≤ K → e + D + 1 ≤ D * e' → D * p + d ≤ u + D * q + D → u * K + x ≤ w + d * K + e * K
    → w + D * s ≤ D * r + x + D
    → p * K + s ≤ r + q * K + e' * K
quot_core K D e e' u d w x p q r s hD h_k he ha n hb = le_of_mul-le-mul_left whole hD
  where
    one : D * (p * K) + d * K ≤ u * K + D * (q * K) + D * K
    one =
        omega (
          arith,
          mul-le-mul_right K ha,
          add-mul (D * p) d K,
          mul_assoc D p K,
          add-mul (u + D * q) D K,
          add-mul u (D * q) K,
          mul_assoc D q K,
        )

    whole : D * (p * K + s) ≤ D * (r + q * K + e' * K)
    whole =
        omega (
          arith,
          one,
          n,
          hb,
          h_k,
          mul-le-mul_right K he,
          add-mul (e + D) 1 K,
          add-mul e D K,
          mul_assoc D e' K,
          mul-add D (p * K) s,
          mul-add D (r + q * K) (e' * K),
          mul-add D r (q * K),
        )

pub near-quot :
    {K e : ℕ} {a b p q : ℤ} (D e' : ℕ) → 0 < D → D ≤ K → e + D + 1 ≤ D * e' → Whole D p a → Whole D q b → NearZ K e a b
    → NearZ K e' p q
near-quot {K} {e} {a} {b} {p} {q} D e' hD h_k he wa wb n =
    record {
      low = quot_core K D e e' (up a) (dn a) (up b) (dn b) (up p) (dn p) (up q) (dn q) hD h_k he wa.low n.low wb.high;
      high =
          turned
          (quot_core K D e e' (dn a) (up a) (dn b) (up b) (dn p) (up p) (dn q) (up q) hD h_k he
          (omega (arith, wa.high)) (omega (arith, n.high)) (omega (arith, wb.low)));
    }
  where
    turned : dn p * K + up q ≤ dn q + up p * K + e' * K → up q + dn p * K ≤ up p * K + dn q + e' * K
    turned h = omega arith

-- ---- a coefficient's share c a/D of a number a that is off by e
abbrev pub share_err : ℕ → ℤ → ℕ → ℕ
share_err D c e = (nat_abs c * e + 2 * D) / D

-- the program's share, toward zero, and the exact one, rounded down
pub near_share :
    {K e : ℕ} {a b : ℤ} (D : ℕ) (c : ℤ) → 0 < D → D ≤ K → NearZ K e a b
    → NearZ K (share_err D c e) (mul_div c a (pos D)) (shr_z (c *ℤ b) D)
near_share {K} {e} {a} {b} D c hD h_k n =
    near-quot D (share_err D c e) hD h_k (room (nat_abs c * e) (share_err D c e) (lt-div-mul-add {a = nat_abs c * e + 2 * D} {b = D} hD))
    (mul_div-whole c a D hD)
    (floor_whole D (c *ℤ b) hD)
    (near_mul c n)
  where
    room : (m q : ℕ) → m + 2 * D < q * D + D → m + D + 1 ≤ D * q
    room m q h = omega (arith, mul_comm D q)

-- ---- a product of two near numbers
-- x, y are the parts of a at the fine scale, z, w those of c; the others those of b and d
prod_core :
    (x y z w ub db ud dd E F : ℕ) → x + db ≤ ub + y + E → ub + y ≤ x + db + E → z + dd ≤ ud + w + F → ud + w ≤ z + dd + F
    → z * x + w * y + (db * ud + ub * dd) ≤ ub * ud + db * dd + (w * x + z * y) + E * (ud + dd) + F * (x + y)
prod_core x y z w ub db ud dd E F l h m k =
    omega (arith, e1, e2, e3, e4, mul-add E ud dd, mul-add F x y, mul_comm dd x, mul_comm ud x, mul_comm dd y, mul_comm ud y)
  where
    e1 : x * ud + db * ud ≤ ub * ud + y * ud + E * ud
    e1 = omega (arith, mul-le-mul_right ud l, add-mul x db ud, add-mul (ub + y) E ud, add-mul ub y ud)

    e2 : ub * dd + y * dd ≤ x * dd + db * dd + E * dd
    e2 = omega (arith, mul-le-mul_right dd h, add-mul ub y dd, add-mul (x + db) E dd, add-mul x db dd)

    e3 : z * x + dd * x ≤ ud * x + w * x + F * x
    e3 = omega (arith, mul-le-mul_right x m, add-mul z dd x, add-mul (ud + w) F x, add-mul ud w x)

    e4 : ud * y + w * y ≤ z * y + dd * y + F * y
    e4 = omega (arith, mul-le-mul_right y k, add-mul ud w y, add-mul (z + dd) F y, add-mul z dd y)

-- one side of the products a c and b d, the parts of a and b in either order
side :
    (K e f A D ua da uc dc ub db ud dd : ℕ) → ua + da ≤ A → ud + dd ≤ D * K → ua * K + db ≤ ub + da * K + e * K
    → ub + da * K ≤ ua * K + db + e * K
    → uc * K + dd ≤ ud + dc * K + f * K
    → ud + dc * K ≤ uc * K + dd + f * K
    → (ua * uc + da * dc) * (K * K) + (ub * dd + db * ud)
    ≤ ub * ud + db * dd + (ua * dc + da * uc) * (K * K) + (e * D + f * A) * (K * K)
side K e f A D ua da uc dc ub db ud dd hA hD l h m k =
    let core = prod_core (ua * K) (da * K) (uc * K) (dc * K) ub db ud dd (e * K) (f * K) l h m k in
    let E : e * K * (ud + dd) ≤ e * D * (K * K) = le_trans (mul-le-mul_left (e * K) hD) (le_of_eq (mul-mul-mul_comm e K D K)) in
    let F : f * K * (ua * K + da * K) ≤ f * A * (K * K) =
    le_trans (le_of_eq (ap (λ (t : ℕ). f * K * t) (sym (add-mul ua da K))))
    (le_trans (mul-le-mul_left (f * K) (mul-le-mul_right K hA)) (le_of_eq (mul-mul-mul_comm f K A K))) in
    fin (K * K) (ua * uc) (da * dc) (ua * dc) (da * uc) (e * D) (f * A) (db * ud) (ub * dd) (ub * ud) (db * dd) _ _ _ _ _ _
    (square uc ua) (square dc da) (square dc ua) (square uc da) core E F
  where
    square : (p q : ℕ) → p * K * (q * K) ≡ q * p * (K * K)
    square p q = mul-mul-mul_comm p K q K ∙ ap (λ (t : ℕ). t * (K * K)) (mul_comm p q)

    fin :
        (L p q r s g g' t u v w zx wy wx zy EE FF : ℕ) → zx ≡ p * L → wy ≡ q * L → wx ≡ r * L → zy ≡ s * L
        → zx + wy + (t + u) ≤ v + w + (wx + zy) + EE + FF
        → EE ≤ g * L
        → FF ≤ g' * L
        → (p + q) * L + (u + t) ≤ v + w + (r + s) * L + (g + g') * L
    fin L p q r s g g' t u v w zx wy wx zy EE FF e1 e2 e3 e4 c E F = omega (arith, add-mul p q L, add-mul r s L, add-mul g g' L)

-- a at most A, d at most D coarse units
pub near_prod :
    {K e f : ℕ} {a b c d : ℤ} (A D : ℕ) → nat_abs a ≤ A → nat_abs d ≤ D * K → NearZ K e a b → NearZ K f c d
    → NearZ (K * K) (e * D + f * A) (a *ℤ c) (b *ℤ d)
near_prod {K} {e} {f} {a} {b} {c} {d} A D hA hD n m =
    let k_a : up a + dn a ≤ A = le_trans (le_of_eq (sym (abs-parts a))) hA in
    let k_a' : dn a + up a ≤ A = omega arith in
    let k_d : up d + dn d ≤ D * K = le_trans (le_of_eq (sym (abs-parts d))) hD in
    let one = side K e f A D (up a) (dn a) (up c) (dn c) (up b) (dn b) (up d) (dn d) k_a k_d n.low n.high m.low m.high in
    let two =
    side K e f A D (dn a) (up a) (up c) (dn c) (dn b) (up b) (up d) (dn d) k_a' k_d (omega (arith, n.high)) (omega (arith, n.low))
    m.low
    m.high in
    record {
      low =
          subst₂ (λ (s t : ℕ). s * (K * K) + dn (b *ℤ d) ≤ up (b *ℤ d) + t * (K * K) + (e * D + f * A) * (K * K))
          (sym (mul-up a c))
          (sym (mul-dn a c))
          (subst₂
          (λ (s t : ℕ).
          (up a * up c + dn a * dn c) * (K * K) + t ≤ s + (up a * dn c + dn a * up c) * (K * K) + (e * D + f * A) * (K * K))
          (sym (mul-up b d)) (sym (mul-dn b d)) one);
      high =
          subst₂ (λ (s t : ℕ). up (b *ℤ d) + t * (K * K) ≤ s * (K * K) + dn (b *ℤ d) + (e * D + f * A) * (K * K))
          (sym (mul-up a c))
          (sym (mul-dn a c))
          (subst₂
          (λ (s t : ℕ).
          s + (up a * dn c + dn a * up c) * (K * K) ≤ (up a * up c + dn a * dn c) * (K * K) + t + (e * D + f * A) * (K * K))
          (sym (mul-up b d)) (sym (mul-dn b d))
          (turn _ _ _ _ _ _ _ _ _ (flip (dn a * up c) (up a * dn c)) (flip (dn a * dn c) (up a * up c)) two));
    }
  where
    flip : (p q : ℕ) → (p + q) * (K * K) ≡ (q + p) * (K * K)
    flip p q = ap (λ (t : ℕ). t * (K * K)) (add_comm p q)

    turn : (x y p q r z u v g : ℕ) → x ≡ y → r ≡ z → x + (p + q) ≤ u + v + r + g → q + p + y ≤ z + (v + u) + g
    turn x y p q r z u v g e f h = omega arith

-- ---- a product brought back to its scale: divided by N there and by N K here
back_core :
    (N K g e' u d w x p q r s : ℕ) → 0 < N → 0 < K → N ≤ K → g + N + 1 ≤ N * e' → N * p + d ≤ u + N * q + N
    → u * (K * K) + x ≤ w + d * (K * K) + g * (K * K)
    → w + N * K * s ≤ N * K * r + x + N * K
    → p * K + s ≤ r + q * K + e' * K
back_core N K g e' u d w x p q r s hN h_k hNK he ha n hb = le_of_mul-le-mul_left whole (mul-pos hN h_k)
  where
    one : N * p * (K * K) + d * (K * K) ≤ u * (K * K) + N * q * (K * K) + N * (K * K)
    one =
        omega (
          arith,
          mul-le-mul_right (K * K) ha,
          add-mul (N * p) d (K * K),
          add-mul (u + N * q) N (K * K),
          add-mul u (N * q) (K * K),
        )

    two : N * K ≤ K * K
    two = mul-le-mul_right K hNK

    three : g * (K * K) + N * (K * K) + K * K ≤ N * e' * (K * K)
    three = omega (arith, mul-le-mul_right (K * K) he, add-mul (g + N) 1 (K * K), add-mul g N (K * K))

    turn : (t : ℕ) → N * K * (t * K) ≡ N * t * (K * K)
    turn t = mul-mul-mul_comm N K t K

    whole : N * K * (p * K + s) ≤ N * K * (r + q * K + e' * K)
    whole =
        omega (
          arith,
          one,
          two,
          three,
          n,
          hb,
          turn p,
          turn q,
          turn e',
          mul-add (N * K) (p * K) s,
          mul-add (N * K) (r + q * K) (e' * K),
          mul-add (N * K) r (q * K),
        )

pub near-back :
    {K g : ℕ} {a b p q : ℤ} (N e' : ℕ) → 0 < N → 0 < K → N ≤ K → g + N + 1 ≤ N * e' → Whole N p a → Whole (N * K) q b
    → NearZ (K * K) g a b
    → NearZ K e' p q
near-back {K} {g} {a} {b} {p} {q} N e' hN h_k hNK he wa wb n =
    record {
      low = back_core N K g e' (up a) (dn a) (up b) (dn b) (up p) (dn p) (up q) (dn q) hN h_k hNK he wa.low n.low wb.high;
      high =
          turned
          (back_core N K g e' (dn a) (up a) (dn b) (up b) (dn p) (up p) (dn q) (up q) hN h_k hNK he
          (omega (arith, wa.high)) (omega (arith, n.high)) (omega (arith, wb.low)));
    }
  where
    turned : dn p * K + up q ≤ dn q + up p * K + e' * K → up q + dn p * K ≤ up p * K + dn q + e' * K
    turned h = omega arith
