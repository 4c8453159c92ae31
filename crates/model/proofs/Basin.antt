-- The basin response term within 9 c12 k3 units of 10^-9. The exponential of a number that is not positive is at most 1, so ten parts
-- in 10^9 are ten units; with the last digit dropped it is 13 units off, its complement to 1 no more, and e^-0.75, which the program
-- holds rounded down, one. Their product is off by 0.4724 · 13 + 1 and two roundings: 9. It grows with the depth, and at 10 km is
-- below 0.390282. Assumes nothing.
use Prim.Native.Nat.{ℕ, ◌+◌, ◌-◌, ◌*◌, ◌/◌, ◌≤◌, ◌<◌, zero-le}
use mathlib.Core.Path.{◌≡◌, ap, subst, ◌∙◌}
use native.Mathlib.Omega.{arith}
use native.Mathlib.Decide.{dec_le}
use native.Mathlib.Nat.{le_refl, le_trans, mul-le-mul_left, mul-le-mul_right, mul_assoc, mul_comm, mul_right_comm, mul-add, add-mul, mul-zero, zero-mul, div-one, le_of_mul-le-mul_right}
use lib.Dec.{ltb, leb, lit≤}
use lib.IntN.{ℤ, pos, neg_ℤ, ◌*ℤ◌, ◌-ℤ◌}
use Rattle.exact.specs.Near.{up, dn, NearZ}
use Rattle.exact.specs.Laws.{Rel}
use Rattle.exact.specs.Exact.{E30, exp_e}
use Rattle.exact.proofs.NearLaws.{near_wide}
use Rattle.fixed.specs.Fixed.{E9, K20, K21, mul_div, exp_fixed}
use Rattle.tables.specs.declared.Coefficients.{Coefficients}
use Rattle.model.proofs.Through.{rel_cut}
use Rattle.model.proofs.Quotients.{near_pos, pos_high, pos_low}
use Rattle.exact.proofs.ExpExact.{exp_e_mono}
use Rattle.exact.proofs.Signed.{same_parts, mul-up, neg-up, neg-dn, mul-dn}
use Rattle.model.specs.Equations.{E27, deep, E24, f_sed}
use Rattle.model.specs.Fixed.{deep_fixed, f_sed_fixed}
use Rattle.model.proofs.NearSums.{near-back, share_err, near_prod, near_share, near_exact}
use Rattle.exact.proofs.Rounding.{quot-whole, floor_whole}
use mathlib.Core.Bool.{Bool, true, false}
use Rattle.exact.proofs.Quotients.{div-le}
use Rattle.fixed.proofs.ExpNear.{exp_fixed-near}
use lib.Signed.{shr_z}

-- ---- the exponential of a number that is not positive
-- ρ parts of a number that is at most 1, and t units more, are ρ + t + 1 units
part_near :
    (N K ρ t T a b : ℕ) → 0 < N → ρ * (ρ + t) ≤ N → b ≤ N * K → T ≤ t * (N * K) → Rel N ρ T (a * K) b
    → NearZ K (ρ + t + 1) (pos a) (pos b)
part_near N K ρ t T a b hN small top h_t r =
    let low : a * K ≤ b + (ρ + t) * K = le_of_mul-le-mul_right first hN in
    near_pos a b (omega (arith, low, add-mul (ρ + t) 1 K)) (le_of_mul-le-mul_right (second low) hN)
  where
    first : a * K * N ≤ (b + (ρ + t) * K) * N
    first =
        omega (
          arith,
          r.low,
          mul-add b N ρ,
          mul-le-mul_right ρ top,
          mul_comm (N * K) ρ,
          h_t,
          add-mul ρ t (N * K),
          add-mul b ((ρ + t) * K) N,
          mul_right_comm (ρ + t) K N,
          mul_assoc (ρ + t) N K,
        )

    second : a * K ≤ b + (ρ + t) * K → b * N ≤ (a * K + (ρ + t + 1) * K) * N
    second low =
        let above : a * K ≤ N * K + (ρ + t) * K = omega arith in
        omega (
          arith,
          r.high,
          h_t,
          mul-add (a * K) N ρ,
          mul-le-mul_right ρ above,
          add-mul (N * K) ((ρ + t) * K) ρ,
          mul_comm (N * K) ρ,
          mul_right_comm (ρ + t) K ρ,
          mul_comm (ρ + t) ρ,
          mul-le-mul_right K small,
          add-mul ρ t (N * K),
          add-mul (ρ + t) 1 (N * K),
          add-mul (a * K) ((ρ + t + 1) * K) N,
          mul_right_comm (ρ + t + 1) K N,
          mul_assoc (ρ + t + 1) N K,
        )

at_zero : exp_e (pos 0) ≤ E30
unfolding exp_e
at_zero = lit≤ tt

-- at most 1
pub exp_one_lem : (x : ℤ) → up x ≡ 0 → exp_e x ≤ E30
exp_one_lem x h = le_trans (exp_e_mono x (pos 0) (omega arith)) at_zero

-- n units of 10^-9 below zero
exp_below : (n : ℕ) → n ≤ 22000000000 → NearZ K21 13 (pos (exp_fixed (neg_ℤ (pos n)) / 10)) (pos (exp_e (neg_ℤ (pos (n * K21)))))
exp_below n h =
    let x : ℤ = neg_ℤ (pos n) in
    subst (λ (z : ℤ). NearZ K21 13 (pos (exp_fixed x / 10)) (pos (exp_e z))) (fine n)
    (part_near E9 K21 10 2 (2 * E30) (exp_fixed x / 10) (exp_e (x *ℤ pos K21)) (lit≤ tt) (lit≤ tt)
    (exp_one_lem (x *ℤ pos K21)
    (omega (arith, mul-up x (pos K21), neg-up (pos n), mul-zero (dn x), zero-mul K21, ap (λ (t : ℕ). t * K21) (neg-up (pos n)))))
    (lit≤ tt)
    (subst (λ (t : ℕ). Rel E9 10 (2 * E30) (exp_fixed x / 10 * K21) t) (div-one (exp_e (x *ℤ pos K21)))
    (rel_cut (exp_fixed x) K20 1 10 (2 * E30) (lit≤ tt) (lit≤ tt) (lit≤ tt) (lit≤ tt)
    (exp_fixed-near x (omega (arith, neg-up (pos n))) (omega (arith, neg-dn (pos n)))))))
  where
    fine : (n : ℕ) → neg_ℤ (pos n) *ℤ pos K21 ≡ neg_ℤ (pos (n * K21))
    fine n =
        same_parts (neg_ℤ (pos n) *ℤ pos K21) (neg_ℤ (pos (n * K21)))
        (rw (mul-up (neg_ℤ (pos n)) (pos K21), neg-up (pos n), neg-dn (pos n), neg-up (pos (n * K21))) (omega arith))
        (rw (mul-dn (neg_ℤ (pos n)) (pos K21), neg-up (pos n), neg-dn (pos n), neg-dn (pos (n * K21))) (omega arith))

-- ---- the complement to 1, of a number that is at most 1
rest_of_one : {K e : ℕ} (N a b : ℕ) → b ≤ N * K → NearZ K e (pos a) (pos b) → NearZ K e (pos (N - a)) (pos (N * K - b))
rest_of_one {K} {e} N a b top n = either (dec_le a N)
  where
    either : Dec (a ≤ N) → NearZ K e (pos (N - a)) (pos (N * K - b))
    either (yes h) =
        let s : N - a + a ≡ N = omega arith in
        let m : (N - a) * K + a * K ≡ N * K = subst (λ (t : ℕ). (N - a) * K + a * K ≡ t * K) s (omega (arith, add-mul (N - a) a K)) in
        near_pos (N - a) (N * K - b) (omega (arith, m, pos_high n)) (omega (arith, m, pos_low n))
    either (no h) =
        let z : N - a ≡ 0 = omega arith in
        let m : (N - a) * K ≡ 0 = ap (λ (t : ℕ). t * K) z ∙ zero-mul K in
        let over : N ≤ a = omega arith in
        near_pos (N - a) (N * K - b) (omega (arith, m)) (omega (arith, m, pos_low n, mul-le-mul_right K over))

-- ---- e^-0.75 (1 - e^(-0.25 (Z - 3)))
quarter : NearZ K21 1 (pos 472366552) (pos (exp_e (neg_ℤ (pos (750 * E27)))))
unfolding exp_e
quarter = near_pos 472366552 _ (lit≤ tt) (lit≤ tt)

pub deep-near : (z : ℕ) → z ≤ 10000 → NearZ K21 9 (pos (deep_fixed z)) (pos (deep z))
unfolding deep_fixed deep
deep-near z h =
    let n : ℕ = (z - 3000) * 250000 in
    let e : ℕ = exp_fixed (neg_ℤ (pos n)) / 10 in
    let f : ℕ = exp_e (neg_ℤ (pos (n * K21))) in
    subst
    (λ (t : ℕ).
    NearZ K21 9 (pos (472366552 * (E9 - e) / E9))
    (pos (exp_e (neg_ℤ (pos (750 * E27))) * (E30 - exp_e (neg_ℤ (pos t))) / E30)))
    (mul_assoc (z - 3000) 250000 K21)
    (near-back E9 9 (lit≤ tt) (lit≤ tt) (lit≤ tt) (lit≤ tt) (quot-whole E9 (pos 472366552 *ℤ pos (E9 - e)) (lit≤ tt))
    (floor_whole E30 (pos (exp_e (neg_ℤ (pos (750 * E27)))) *ℤ pos (E30 - f)) (lit≤ tt))
    (near_prod 472366552 E9 (le_refl 472366552) (sub-le f) quarter
    (rest_of_one E9 e f (exp_one_lem (neg_ℤ (pos (n * K21))) (neg-up (pos (n * K21)))) (exp_below n (small z h)))))
  where
    small : (z : ℕ) → z ≤ 10000 → (z - 3000) * 250000 ≤ 22000000000
    small z h = omega arith

    sub-le : (f : ℕ) → E30 - f ≤ E9 * K21
    sub-le f = omega arith

-- deeper is more
deep_mono : (y z : ℕ) → y ≤ z → deep y ≤ deep z
unfolding deep
deep_mono y z h =
    let a : ℕ = (y - 3000) * (250 * E24) in
    let b : ℕ = (z - 3000) * (250 * E24) in
    let k : y - 3000 ≤ z - 3000 = omega arith in
    let falls : exp_e (neg_ℤ (pos b)) ≤ exp_e (neg_ℤ (pos a)) =
    exp_e_mono (neg_ℤ (pos b)) (neg_ℤ (pos a))
    (order a b (mul-le-mul_right (250 * E24) k) (neg-up (pos a)) (neg-dn (pos a)) (neg-up (pos b)) (neg-dn (pos b))) in
    div-le E30 (mul-le-mul_left (exp_e (neg_ℤ (pos (750 * E27)))) (less _ _ falls))
  where
    order :
        (a b : ℕ) {p q r s : ℕ} → a ≤ b → p ≡ 0 → q ≡ a → r ≡ 0 → s ≡ b → r + q ≤ p + s
    order a b h e f g k = omega arith

    less : (p q : ℕ) → p ≤ q → E30 - q ≤ E30 - p
    less p q h = omega arith

deepest : deep 10000 ≤ 390282 * E24
unfolding deep
deepest = lit≤ tt

pub deep-top : (z : ℕ) → z ≤ 10000 → deep z ≤ 390282 * E24
deep-top z h = le_trans (deep_mono z 10000 h) deepest

-- ---- the term
pub f_sed-near :
    (c : Coefficients) (z : ℕ) → z ≤ 10000 → NearZ K21 (share_err 1000000 (c.c12 *ℤ c.k3) 9) (f_sed_fixed c z) (f_sed c z)
unfolding f_sed_fixed f_sed
f_sed-near c z h = first (ltb z 1000)
  where
    second :
        (t : Bool)
        → NearZ K21 (share_err 1000000 (c.c12 *ℤ c.k3) 9)
        (elim t [ true ↦ pos 0 | false ↦ mul_div (c.c12 *ℤ c.k3) (pos (deep_fixed z)) (pos 1000000) ])
        (elim t [ true ↦ pos 0 | false ↦ shr_z (c.c12 *ℤ c.k3 *ℤ pos (deep z)) 1000000 ])
    second true = record { low = omega arith; high = omega arith }
    second false = near_share 1000000 (c.c12 *ℤ c.k3) (lit≤ tt) (lit≤ tt) (deep-near z h)

    first :
        (t : Bool)
        → NearZ K21 (share_err 1000000 (c.c12 *ℤ c.k3) 9)
        (elim t [
          | true ↦ c.c11 *ℤ (pos z -ℤ pos 1000) *ℤ pos 1000
          | false ↦ elim (leb z 3000) [ true ↦ pos 0 | false ↦ mul_div (c.c12 *ℤ c.k3) (pos (deep_fixed z)) (pos 1000000) ]
        ])
        (elim t [
          | true ↦ c.c11 *ℤ (pos z -ℤ pos 1000) *ℤ pos E24
          | false ↦ elim (leb z 3000) [ true ↦ pos 0 | false ↦ shr_z (c.c12 *ℤ c.k3 *ℤ pos (deep z)) 1000000 ]
        ])
    first true = near_wide K21 0 _ _ _ zero-le (near_exact K21 1000 (c.c11 *ℤ (pos z -ℤ pos 1000)))
    first false = second (leb z 3000)
