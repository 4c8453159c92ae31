-- Alpha from an A1100 that is only near: within 367 units of 10^-9, and between -2.671 and 0. A/B is 1 - c (V/k1)^n/B, so the slack
-- of A does not count: c (V/k1)^n is within 32 parts in 10^9 and B within 64, the quotient within 99 units and its complement within
-- 101; A/C likewise, as c is exact and C within 30 parts, within 35. As printed, A (1/B - 1/C) is within 4 units of 10^-30 of A/B -
-- A/C, A being at most 2. Times k2, at most 2.67, and two roundings: 367. As B is not above C, A/B - A/C lies between 0 and 1.
-- Assumes nothing.
use Prim.Native.Nat.{ℕ, ◌+◌, ◌*◌, ◌/◌, ◌≤◌, ◌<◌}
use mathlib.Core.Path.{◌≡◌, refl, subst, ap}
use mathlib.Core.Bool.{Bool, true, false}
use native.Mathlib.Omega.{arith}
use native.Mathlib.Nat.{le_refl, le_trans, mul-le-mul_left, mul-le-mul_right, mul_assoc, mul_comm, mul_left_comm, mul-add, add-mul, le_of_mul-le-mul_left, le_of_mul-le-mul_right, div-mul-le_self, lt-div-mul-add, div-le_of_le-mul, le-add_left, le_of_lt, zero-mul, add-le-add, le-add_right, le_of_eq}
use lib.Dec.{ltb, lit≤}
use lib.IntN.{ℤ, pos, negsuc, nat_abs, ◌-ℤ◌, ◌*ℤ◌}
use Rattle.exact.specs.Near.{up, dn, NearZ, Within}
use Rattle.exact.specs.Laws.{Rel}
use Rattle.exact.specs.Exact.{E30, mul_e}
use Rattle.fixed.specs.Fixed.{E9, K21, mul_div}
use Rattle.tables.specs.declared.Coefficients.{Coefficients}
use Rattle.model.proofs.Curve.{Paired, curve_low_fixed, curve-low, curve-near, curve-high}
use Rattle.model.specs.Fixed.{site_c_fixed, alpha_fixed, curve_fixed}
use Rattle.model.proofs.SiteNear.{RockNear, soft_rel, hard_rel, paired}
use Rattle.model.specs.Equations.{alpha, site_c, times, curve}
use Rattle.model.specs.FineNear.{Between}
use Rattle.model.proofs.Between.{between_wide, share_nothing, between_share, between_turned}
use Rattle.model.proofs.Quotients.{rest-near, ratio_near}
use Rattle.exact.proofs.Rounding.{mul_e-whole, floor_whole}
use Rattle.model.proofs.Fair.{Fair}
use Rattle.exact.proofs.Signed.{sub_is, abs-parts, mul-up, mul-dn, scaled_up, scaled_dn}
use lib.Signed.{shr_z}
use Rattle.exact.proofs.NearLaws.{near_within, near_wide}
use lib.Ieee.Nearest.{div_mono}
use Rattle.model.proofs.NearSums.{near_sub, share_err, near_share}
use borrow.Author.Tests.{ltb-true}

-- ---- A/B and A/C
-- a slack that is σ parts of the numbers
rel_absorb : (N ρ σ T a b : ℕ) → T ≤ σ * a → T ≤ σ * b → Rel N ρ T a b → Rel N (ρ + σ) 0 a b
rel_absorb N ρ σ T a b ha hb r =
    record {
      low = omega (arith, r.low, mul-add b N ρ, mul-add b N (ρ + σ), mul-add b ρ σ, mul_comm b σ);
      high = omega (arith, r.high, mul-add a N ρ, mul-add a N (ρ + σ), mul-add a ρ σ, mul_comm a σ);
    }

curve_rel : (v k1 : ℕ) → Paired v k1 → Rel E9 32 0 (curve_fixed v k1 * K21) (curve v k1)
curve_rel v k1 p =
    rel_absorb E9 20 12 (2 * E30) (curve_fixed v k1 * K21) (curve v k1) (coarse (curve_fixed v k1) K21 (curve_low_fixed v k1 p))
    (fine (curve v k1) (curve-low v k1 p))
    (curve-near v k1 p)
  where
    coarse : (y K : ℕ) → 179999900 ≤ y → 2 * (E9 * K) ≤ 12 * (y * K)
    coarse y K h = omega (arith, mul-le-mul_right K h)

    fine : (y : ℕ) → 180000000 * K21 ≤ y → 2 * E30 ≤ 12 * y
    fine y h = omega arith

soft_ratio :
    (v k1 a b : ℕ) → Paired v k1 → RockNear a b
    → NearZ K21 101 (pos (a * E9 / (a + curve_fixed v k1))) (pos (b * E30 / (b + curve v k1)))
soft_ratio v k1 a b p r =
    let hx : 0 < a + curve_fixed v k1 = omega (arith, curve_low_fixed v k1 p) in
    let hy : 0 < b + curve v k1 = le_trans (lit≤ tt) (le_trans (curve-low v k1 p) (le-add_left (curve v k1) b)) in
    rest-near {e = 99} E9 a (curve_fixed v k1) (a + curve_fixed v k1) b (curve v k1) (b + curve v k1) hx hy (lit≤ tt) refl refl
    (ratio_near {ρ = 32} {σ = 64} E9 (curve_fixed v k1) (curve v k1) (a + curve_fixed v k1) (b + curve v k1) (lit≤ tt) (lit≤ tt) hx hy
    (lit≤ tt)
    (lit≤ tt)
    (le-add_left (curve_fixed v k1) a)
    (le-add_left (curve v k1) b)
    (curve_rel v k1 p)
    (soft_rel v k1 a b p r))

constant : Rel E9 0 0 (site_c_fixed * K21) site_c
constant = record { low = lit≤ tt; high = lit≤ tt }

hard_ratio : (a b : ℕ) → RockNear a b → NearZ K21 35 (pos (a * E9 / (a + site_c_fixed))) (pos (b * E30 / (b + site_c)))
hard_ratio a b r =
    let hx : 0 < a + site_c_fixed = le_trans (lit≤ tt) (le-add_left site_c_fixed a) in
    let hy : 0 < b + site_c = le_trans (lit≤ tt) (le-add_left site_c b) in
    rest-near {e = 33} E9 a site_c_fixed (a + site_c_fixed) b site_c (b + site_c) hx hy (lit≤ tt) refl refl
    (ratio_near {ρ = 0} {σ = 30} E9 site_c_fixed site_c (a + site_c_fixed) (b + site_c) (lit≤ tt) (lit≤ tt) hx hy (lit≤ tt) (lit≤ tt)
    (le-add_left site_c_fixed a)
    (le-add_left site_c b)
    constant
    (hard_rel a b r))

-- ---- A (1/B) against A/B: q is 1/B and r is A/B
inverse :
    (E A B q r : ℕ) → 0 < B → A ≤ 2 * E → q * B ≤ E * E → E * E < q * B + B → r * B ≤ A * E → A * E < r * B + B
    → (E * r ≤ A * q + 2 * E) × (A * q ≤ E * r + E)
inverse E A B q r h_b hA q-low q-high r_low r_high = (
  le_trans (le_of_mul-le-mul_right one h_b) (omega (arith, hA)),
  le_of_mul-le-mul_right two h_b,
)
  where
    one : E * r * B ≤ (A * q + A) * B
    one =
        omega (
          arith,
          mul_assoc E r B,
          mul-le-mul_left E r_low,
          mul_left_comm E A E,
          mul-le-mul_left A (le_of_lt q-high),
          mul-add A (q * B) B,
          mul_assoc A q B,
          add-mul (A * q) A B,
        )

    two : A * q * B ≤ (E * r + E) * B
    two =
        omega (
          arith,
          mul_assoc A q B,
          mul-le-mul_left A q-low,
          mul_left_comm A E E,
          mul-le-mul_left E (le_of_lt r_high),
          mul-add E (r * B) B,
          mul_assoc E r B,
          add-mul (E * r) E B,
        )

-- ---- A (1/B - 1/C) as printed, against A/B - A/C
printed :
    (A B C : ℕ) → 0 < B → 0 < C → A ≤ 2 * E30
    → Within 4 (pos (A * E30 / B) -ℤ pos (A * E30 / C)) (mul_e (pos A) (pos (E30 * E30 / B) -ℤ pos (E30 * E30 / C)))
printed A B C h_b hC hA =
    let r : ℕ = A * E30 / B in
    let s : ℕ = A * E30 / C in
    let q : ℕ = E30 * E30 / B in
    let p : ℕ = E30 * E30 / C in
    let d : ℤ = pos q -ℤ pos p in
    let m : ℤ = pos A *ℤ d in
    let at_b =
    inverse E30 A B q r h_b hA (div-mul-le_self (E30 * E30) B) (lt-div-mul-add {a = E30 * E30} {b = B} h_b)
    (div-mul-le_self (A * E30) B)
    (lt-div-mul-add {a = A * E30} {b = B} h_b) in
    let at_c =
    inverse E30 A C p s hC hA (div-mul-le_self (E30 * E30) C) (lt-div-mul-add {a = E30 * E30} {b = C} hC)
    (div-mul-le_self (A * E30) C)
    (lt-div-mul-add {a = A * E30} {b = C} hC) in
    let w = mul_e-whole (pos A) d in
    fin E30 (pos r -ℤ pos s) d m (mul_e (pos A) d) r s q p (lit≤ tt) (sub_is (pos r) (pos s)) (sub_is (pos q) (pos p))
    (mul-up (pos A) d) (mul-dn (pos A) d) at_b.0 at_b.1 at_c.0 at_c.1 w.low w.high
  where
    fin :
        (E : ℕ) (t d m z : ℤ) (r s q p : ℕ) → 0 < E → up t + (0 + s) ≡ dn t + (r + 0) → up d + (0 + p) ≡ dn d + (q + 0)
        → up m ≡ A * up d + 0 * dn d
        → dn m ≡ A * dn d + 0 * up d
        → E * r ≤ A * q + 2 * E
        → A * q ≤ E * r + E
        → E * s ≤ A * p + 2 * E
        → A * p ≤ E * s + E
        → E * up z + dn m ≤ up m + E * dn z + E
        → up m + E * dn z ≤ E * up z + dn m + E
        → Within 4 t z
    fin E t d m z r s q p hE et ed mu md rl rh sl sh zl zh =
        let Et : E * up t + E * s ≡ E * dn t + E * r = spread E (up t) s (dn t) r et in
        let Ad : A * up d + A * p ≡ A * dn d + A * q = spread A (up d) p (dn d) q ed in
        let u : up m ≡ A * up d = omega (arith, mu, zero-mul (dn d)) in
        let n : dn m ≡ A * dn d = omega (arith, md, zero-mul (up d)) in
        record {
          low = cancel (up t) (dn z) (up z) (dn t) (omega (arith, Et, Ad, u, n, rl, sh, zh));
          high = cancel (up z) (dn t) (up t) (dn z) (omega (arith, Et, Ad, u, n, rh, sl, zl));
        }
      where
        spread : (k a b c e : ℕ) → a + (0 + b) ≡ c + (e + 0) → k * a + k * b ≡ k * c + k * e
        spread k a b c e h =
            omega (arith, ap (λ (n : ℕ). k * n) h, mul-add k a (0 + b), mul-add k c (e + 0), mul-add k 0 b, mul-add k e 0)

        cancel : (a b c e : ℕ) → E * a + E * b ≤ E * c + E * e + 4 * E → a + b ≤ c + e + 4
        cancel a b c e h =
            le_of_mul-le-mul_left
            (omega (arith, h, mul-add E a b, mul-add E (c + e) 4, mul-add E c e, mul_comm E 4))
            hE

-- ---- alpha
difference_near :
    (v k1 a b : ℕ) → Paired v k1 → RockNear a b
    → NearZ K21 137
    (pos (a * E9 / (a + curve_fixed v k1)) -ℤ pos (a * E9 / (a + site_c_fixed)))
    (mul_e (pos b) (pos (E30 * E30 / (b + curve v k1)) -ℤ pos (E30 * E30 / (b + site_c))))
difference_near v k1 a b p r =
    let B-pos : 0 < b + curve v k1 = le_trans (lit≤ tt) (le_trans (curve-low v k1 p) (le-add_left (curve v k1) b)) in
    let C-pos : 0 < b + site_c = le_trans (lit≤ tt) (le-add_left site_c b) in
    near_within K21 136 1 _ _ _ (near_sub (soft_ratio v k1 a b p r) (hard_ratio a b r))
    (within_wide (printed b (b + curve v k1) (b + site_c) B-pos C-pos (le_trans r.exact_top (lit≤ tt))))
  where
    within_wide : {s t : ℤ} → Within 4 s t → Within (1 * K21) s t
    within_wide w = record { low = omega (arith, w.low); high = omega (arith, w.high) }

pub alpha-near :
    (c : Coefficients) (v a b : ℕ) → Fair c → 150 ≤ v → v ≤ 1500 → RockNear a b → NearZ K21 367 (alpha_fixed c v a) (alpha c v b)
unfolding alpha_fixed alpha times
alpha-near c v a b f l h r = go (ltb v c.k1)
  where
    room : (n : ℕ) → n ≤ 2670 → (n * 137 + 2 * 1000) / 1000 ≤ 367
    room n k = omega arith

    k2_size : nat_abs c.k2 ≤ 2670
    k2_size = omega (arith, abs-parts c.k2, f.k2_sign, f.k2_small)

    go :
        (t : Bool)
        → NearZ K21 367
        (elim t [
          | true ↦ mul_div c.k2 (pos (a * E9 / (a + curve_fixed v c.k1)) -ℤ pos (a * E9 / (a + site_c_fixed))) (pos 1000)
          | false ↦ pos 0
        ])
        (elim t [
          | true ↦ times c.k2 (mul_e (pos b) (pos (E30 * E30 / (b + curve v c.k1)) -ℤ pos (E30 * E30 / (b + site_c))))
          | false ↦ pos 0
        ])
    go true =
        near_wide K21 (share_err 1000 c.k2 137) 367 _ _ (room (nat_abs c.k2) k2_size)
        (near_share 1000 c.k2 (lit≤ tt) (lit≤ tt) (difference_near v c.k1 a b (paired c v f l h) r))
    go false = record { low = lit≤ tt; high = lit≤ tt }

-- ---- where it lies
-- A (1/B - 1/C)
abbrev inverses : ℕ → ℕ → ℕ → ℤ
inverses v k1 b = mul_e (pos b) (pos (E30 * E30 / (b + curve v k1)) -ℤ pos (E30 * E30 / (b + site_c)))

abbrev pub alpha_low : ℤ
alpha_low = negsuc 2_670999_999999_999999_999999_999999

inverse_between : (v k1 b : ℕ) → Paired v k1 → v < k1 → Between (pos 0) (pos E30) (inverses v k1 b)
unfolding mul_e
inverse_between v k1 b p h =
    let B : ℕ = b + curve v k1 in
    let C : ℕ = b + site_c in
    let B-pos : 0 < B = le_trans (lit≤ tt) (le_trans (curve-low v k1 p) (le-add_left (curve v k1) b)) in
    let C-pos : 0 < C = le_trans (lit≤ tt) (le-add_left site_c b) in
    let falls : E30 * E30 / C ≤ E30 * E30 / B =
    div_mono (E30 * E30) C (E30 * E30) B C-pos B-pos (mul-le-mul_left (E30 * E30) (add-le-add (le_refl b) (curve-high v k1 p h))) in
    let q : ℕ = E30 * E30 / B in
    let d : Between (pos 0) (pos q) (pos q -ℤ pos (E30 * E30 / C)) = between_less q (E30 * E30 / C) falls in
    let top : b * q / E30 ≤ E30 =
    div-le_of_le-mul E30
    (le_trans (mul-le-mul_right q (le-add_right b (curve v k1))) (le_trans (le_of_eq (mul_comm B q)) (div-mul-le_self (E30 * E30) B)))
    in
    between_wide (pos 0) (pos E30) (le_of_eq (nothing-low b)) (add-le-add top (le_refl 0)) (between_share E30 (pos b) refl d)
  where
    between_less : (q p : ℕ) → p ≤ q → Between (pos 0) (pos q) (pos q -ℤ pos p)
    between_less q p k = record { low = omega (arith, sub_is (pos q) (pos p)); high = omega (arith, sub_is (pos q) (pos p)) }

    nothing-low : (b : ℕ) → 0 + 0 ≡ b * 0 / E30 + 0
    nothing-low b = omega arith

pub alpha_between : (c : Coefficients) (v b : ℕ) → Fair c → 150 ≤ v → v ≤ 1500 → Between alpha_low (pos 0) (alpha c v b)
unfolding alpha times
alpha_between c v b f l h = go (ltb v c.k1) refl
  where
    share_low :
        (k : ℤ) → up k ≤ 0 → dn k ≤ 2670 → up alpha_low + dn (shr_z (k *ℤ pos E30) 1000) ≤ up (shr_z (k *ℤ pos E30) 1000) + dn alpha_low
    share_low k s m =
        omega (arith, (floor_whole 1000 (k *ℤ pos E30) (lit≤ tt)).high, scaled_up k E30, scaled_dn k E30)

    go :
        (t : Bool) → ltb v c.k1 ≡ t
        → Between alpha_low (pos 0) (elim t [ true ↦ times c.k2 (inverses v c.k1 b) | false ↦ pos 0 ])
    go true e =
        between_wide alpha_low (pos 0) (share_low c.k2 f.k2_sign f.k2_small) (le_refl 0)
        (subst (λ (t : ℤ). Between (shr_z (c.k2 *ℤ pos E30) 1000) t (shr_z (c.k2 *ℤ inverses v c.k1 b) 1000))
        (share_nothing 1000 c.k2)
        (between_turned 1000 c.k2 (omega (arith, f.k2_sign))
        (inverse_between v c.k1 b (paired c v f l h) (ltb-true v c.k1 e))))
    go false e = record { low = lit≤ tt; high = lit≤ tt }
