-- The program's logarithm and exponential at an argument that is itself only near the exact one. An argument ρ parts in 10^9 off
-- moves the exact logarithm by 73 ρ/64 units of 10^-9, and the program's adds 7. An argument e units of 10^-9 off moves the exact
-- exponential by e + 2 parts in 10^9; the program's adds 10, and the chain one: e + 13 parts, and three units of 10^-10. Assumes
-- nothing.
use Prim.Native.Nat.{ℕ, ◌+◌, ◌*◌, ◌/◌, ◌≤◌, ◌<◌}
use mathlib.Core.Path.{◌≡◌, refl}
use native.Mathlib.Omega.{arith}
use native.Mathlib.Nat.{le_trans, le_of_lt, lt_of_lt_of_le, mul-le-mul_left, mul-le-mul_right, mul_assoc, mul_comm, mul_left_comm, mul-add, add-mul, one-mul, le_of_mul-le-mul_left, div-mul-le_self, lt-div-mul-add, le_of_mul-le-mul_right, mul_right_comm}
use lib.Dec.{lit≤}
use lib.IntN.{ℤ, pos, ◌*ℤ◌}
use Rattle.exact.specs.Near.{up, dn, NearZ}
use Rattle.exact.specs.Laws.{Rel}
use Rattle.exact.specs.Exact.{E30, ln_e, exp_e}
use Rattle.exact.proofs.NearLaws.{near_within, near→within}
use Rattle.exact.proofs.RelLaws.{rel_wide, rel_trans}
use Rattle.exact.proofs.LnExact.{ln_e-near}
use Rattle.exact.proofs.ExpExact.{exp_e-near}
use Rattle.fixed.specs.Fixed.{E9, K20, K21, ln_fixed, exp_fixed}
use Rattle.fixed.proofs.LnNear.{ln_fixed-near}
use Rattle.fixed.proofs.ExpNear.{exp_fixed-near}

-- ln x against the exact ln y, x and y within ρ parts in 10^9
pub ln_through :
    {ρ : ℕ} (e x y : ℕ) → 73 * ρ + 1 ≤ 64 * e → E9 ≤ 8 * x → x < 65536 * E9 → 0 < y → y ≤ 65536 * E30 → Rel E9 ρ 0 (x * K21) y
    → NearZ K21 (7 + e) (ln_fixed x) (ln_e y)
ln_through {ρ} e x y he low high hy top r =
    let one : 0 < x = omega arith in
    near_within K21 7 e (ln_fixed x) (ln_e (x * K21)) (ln_e y) (ln_fixed-near x low high)
    (ln_e-near E9 K21 ρ e refl (lit≤ tt) he (x * K21) y (lt_of_lt_of_le (lit≤ tt) (mul-le-mul_right K21 one)) hy
    (le_trans (mul-le-mul_right K21 (le_of_lt high)) (lit≤ tt))
    (le_trans top (lit≤ tt))
    r)

-- e^a in units of 10^-10 against the exact e^b, a and b within e units of 10^-9
pub exp_through :
    (e : ℕ) (a b : ℤ) → e ≤ 1000 → up a ≤ 22000000000 → dn a ≤ 22000000000 → NearZ K21 e a b
    → Rel E9 (e + 13) (3 * (K20 * E9)) (exp_fixed a * K20) (exp_e b)
exp_through e a b he hu hd n =
    let chained =
    rel_trans E9 10 (e + 2) (K20 * (E9 + 10)) (E9 + (e + 2)) (exp_fixed a * K20) (exp_e (a *ℤ pos K21)) (exp_e b) (lit≤ tt) (omega arith)
    (lit≤ tt)
    (omega arith)
    (exp_fixed-near a hu hd)
    (exp_e-near E9 K21 e refl (lit≤ tt) (square e he) (lit≤ tt) (le_trans (mul-le-mul_right K21 he) (lit≤ tt)) (a *ℤ pos K21) b
    (near→within K21 e a b n)) in
    rel_wide E9 (10 + (e + 2) + 1) (e + 13) (2 * (K20 * (E9 + 10)) + 2 * (E9 + (e + 2))) (3 * (K20 * E9)) (exp_fixed a * K20) (exp_e b)
    (omega arith)
    (omega arith)
    chained
  where
    square : (e : ℕ) → e ≤ 1000 → e * e + 2 * e ≤ E9
    square e h = omega (arith, mul-le-mul_left e h)

-- ---- digits dropped: by D on both sides, and F more on the coarse one, whose unit becomes F times as large
cut_low : (N ρ T T' K D F a b : ℕ) → 0 < D → 0 < F * K → T + D * (F * K * (N + ρ)) ≤ D * T' → a * K * N ≤ b * (N + ρ) + T
    → a / (D * F) * (F * K) * N ≤ b / D * (N + ρ) + T'
cut_low N ρ T T' K D F a b hD h_k room h =
    le_of_mul-le-mul_left (go (a / (D * F)) (b / D) (N + ρ) (div-mul-le_self a (D * F)) (lt-div-mul-add {a = b} {b = D} hD) room h) hD
  where
    regroup : (q : ℕ) → D * (q * (F * K) * N) ≡ q * (D * F) * K * N
    regroup q = simp (mul_assoc, mul_comm, mul_left_comm)

    go :
        (q r M : ℕ) → q * (D * F) ≤ a → b < r * D + D → T + D * (F * K * M) ≤ D * T' → a * K * N ≤ b * M + T
        → D * (q * (F * K) * N) ≤ D * (r * M + T')
    go q r M hq hr room h =
        let above : b ≤ r * D + D = le_of_lt hr in
        omega (
          arith,
          regroup q,
          mul-le-mul_right N (mul-le-mul_right K hq),
          mul-le-mul_right M above,
          add-mul (r * D) D M,
          mul_comm r D,
          mul_assoc D r M,
          mul-le-mul_left D (mul-le-mul_right M h_k),
          one-mul M,
          mul-add D (r * M) T',
        )

cut_high : (N ρ T T' K D F a b : ℕ) → 0 < D → 0 < D * F → T + D * (F * K * (N + ρ)) ≤ D * T' → b * N ≤ a * K * (N + ρ) + T
    → b / D * N ≤ a / (D * F) * (F * K) * (N + ρ) + T'
cut_high N ρ T T' K D F a b hD hF room h =
    le_of_mul-le-mul_left
    (go (a / (D * F)) (b / D) (N + ρ) (lt-div-mul-add {a = a} {b = D * F} hF) (div-mul-le_self b D) room h)
    hD
  where
    regroup : (q M : ℕ) → (q * (D * F) + D * F) * K * M ≡ D * (q * (F * K) * M) + D * (F * K * M)
    regroup q M = simp (add-mul, mul_assoc, mul_comm, mul_left_comm)

    go :
        (q r M : ℕ) → a < q * (D * F) + D * F → r * D ≤ b → T + D * (F * K * M) ≤ D * T' → b * N ≤ a * K * M + T
        → D * (r * N) ≤ D * (q * (F * K) * M + T')
    go q r M hq hr room h =
        omega (
          arith,
          regroup q M,
          mul-le-mul_right M (mul-le-mul_right K (le_of_lt hq)),
          mul-le-mul_right N hr,
          mul_comm r D,
          mul_assoc D r N,
          mul-add D (q * (F * K) * M) T',
        )

pub rel_cut :
    {N ρ T b : ℕ} (a K D F T' : ℕ) → 0 < D → 0 < D * F → 0 < F * K → T + D * (F * K * (N + ρ)) ≤ D * T' → Rel N ρ T (a * K) b
    → Rel N ρ T' (a / (D * F) * (F * K)) (b / D)
rel_cut {N} {ρ} {T} {b} a K D F T' hD hF h_k room r =
    record {
      low = cut_low N ρ T T' K D F a b hD h_k room r.low;
      high = cut_high N ρ T T' K D F a b hD hF room r.high;
    }

-- ---- where a number lies whose exact one lies between L and H coarse units: t is the slack in coarse units
pub rel_least :
    (N ρ K t L a b : ℕ) → 0 < K → L * K ≤ b → Rel N ρ (t * (N * K)) (a * K) b → L * N ≤ a * (N + ρ) + t * N
rel_least N ρ K t L a b h_k h r =
    le_of_mul-le-mul_right
    (omega (
      arith,
      mul-le-mul_right N h,
      mul_right_comm L K N,
      r.high,
      mul_right_comm a K (N + ρ),
      add-mul (a * (N + ρ)) (t * N) K,
      mul_assoc t N K,
    ))
    h_k

pub rel_most :
    (N ρ K t H a b : ℕ) → 0 < K → b ≤ H * K → Rel N ρ (t * (N * K)) (a * K) b → a * N ≤ H * (N + ρ) + t * N
rel_most N ρ K t H a b h_k h r =
    le_of_mul-le-mul_right
    (omega (
      arith,
      mul-le-mul_right (N + ρ) h,
      mul_right_comm H K (N + ρ),
      r.low,
      mul_right_comm a K N,
      add-mul (H * (N + ρ)) (t * N) K,
      mul_assoc t N K,
    ))
    h_k
