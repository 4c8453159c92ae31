-- Relative nearness of two numbers that are not negative: order, chains, multiples, quotients. Assumes nothing.
use Prim.Native.Nat.{ℕ, ◌+◌, ◌*◌, ◌/◌, ◌≤◌, ◌<◌}
use mathlib.Core.Path.{◌≡◌, ap}
use native.Mathlib.Omega.{arith}
use native.Mathlib.Nat.{le_trans, le_of_eq, mul-le-mul_left, mul-le-mul_right, mul_assoc, mul_comm, mul_right_comm, mul-add, add-mul, le_of_mul-le-mul_right, div-mul-le_self, lt-div-mul-add}
use Rattle.exact.specs.Laws.{Rel}

pub rel_sym : {N ρ T a b : ℕ} → Rel N ρ T a b → Rel N ρ T b a
rel_sym r = record { low = r.high; high = r.low }

pub rel_wide : (N ρ ρ' T T' a b : ℕ) → ρ ≤ ρ' → T ≤ T' → Rel N ρ T a b → Rel N ρ' T' a b
rel_wide N ρ ρ' T T' a b h k r =
    record {
      low = omega (arith, r.low, mul-le-mul_left b h, mul-add b N ρ, mul-add b N ρ');
      high = omega (arith, r.high, mul-le-mul_left a h, mul-add a N ρ, mul-add a N ρ');
    }

-- ---- chains: the parts add up, and one more
-- the first slack stays as it is, and W makes up for U ρ/N
pub chain :
    (N ρ σ T U W a b c : ℕ) → 0 < N → ρ * σ ≤ N → U * ρ ≤ W * N → a * N ≤ b * (N + ρ) + T → b * N ≤ c * (N + σ) + U
    → a * N ≤ c * (N + (ρ + σ + 1)) + (T + U + W)
chain N ρ σ T U W a b c hN small hW h k = le_of_mul-le-mul_right whole hN
  where
    one : b * (N + ρ) * N ≤ c * (N + σ) * (N + ρ) + U * (N + ρ)
    one = omega (arith, mul_right_comm b (N + ρ) N, mul-le-mul_right (N + ρ) k, add-mul (c * (N + σ)) U (N + ρ))

    two : (N + σ) * (N + ρ) ≤ (N + (ρ + σ + 1)) * N
    two =
        omega (
          arith,
          mul-add (N + σ) N ρ,
          add-mul N σ ρ,
          mul_comm N ρ,
          mul_comm σ ρ,
          add-mul N σ N,
          add-mul N (ρ + σ + 1) N,
          add-mul (ρ + σ) 1 N,
          add-mul ρ σ N,
        )

    three : c * (N + σ) * (N + ρ) ≤ c * (N + (ρ + σ + 1)) * N
    three = omega (arith, mul_assoc c (N + σ) (N + ρ), mul-le-mul_left c two, mul_assoc c (N + (ρ + σ + 1)) N)

    whole : a * N * N ≤ (c * (N + (ρ + σ + 1)) + (T + U + W)) * N
    whole =
        omega (
          arith,
          one,
          three,
          hW,
          mul-add U N ρ,
          mul-le-mul_right N h,
          add-mul (b * (N + ρ)) T N,
          add-mul (c * (N + (ρ + σ + 1))) (T + U + W) N,
          add-mul (T + U) W N,
          add-mul T U N,
        )

pub rel_trans :
    (N ρ σ T U a b c : ℕ) → 0 < N → ρ * σ ≤ N → ρ ≤ N → σ ≤ N → Rel N ρ T a b → Rel N σ U b c
    → Rel N (ρ + σ + 1) (2 * T + 2 * U) a c
rel_trans N ρ σ T U a b c hN small hρ hσ r s =
    let swap : σ + ρ + 1 ≡ ρ + σ + 1 = omega arith in
    record {
      low = le_trans (chain N ρ σ T U U a b c hN small (mul-le-mul_left U hρ) r.low s.low) (omega arith);
      high =
          le_trans
          (chain N σ ρ U T T c b a hN (le_trans (le_of_eq (mul_comm σ ρ)) small) (mul-le-mul_left T hσ) s.high r.high)
          (omega (arith, ap (λ (t : ℕ). a * (N + t)) swap));
    }

-- ---- a multiple, and a quotient rounded down, which loses a unit
pub rel_times : (N ρ T a b c : ℕ) → Rel N ρ T a b → Rel N ρ (c * T) (c * a) (c * b)
rel_times N ρ T a b c r =
    record {
      low = omega (arith, mul-le-mul_left c r.low, mul_assoc c a N, mul-add c (b * (N + ρ)) T, mul_assoc c b (N + ρ));
      high = omega (arith, mul-le-mul_left c r.high, mul_assoc c b N, mul-add c (a * (N + ρ)) T, mul_assoc c a (N + ρ));
    }

quot-side : (N ρ a b d : ℕ) → 0 < d → a * N ≤ b * (N + ρ) → a / d * N ≤ b / d * (N + ρ) + (N + ρ)
quot-side N ρ a b d hd h =
    le_of_mul-le-mul_right (go (a / d) (b / d) (N + ρ) (div-mul-le_self a d) (lt-div-mul-add {a = b} {b = d} hd) h) hd
  where
    go : (p q M : ℕ) → p * d ≤ a → b < q * d + d → a * N ≤ b * M → p * N * d ≤ (q * M + M) * d
    go p q M k l m =
        let above : b ≤ q * d + d = omega arith in
        omega (
          arith,
          mul_right_comm p N d,
          mul-le-mul_right N k,
          mul-le-mul_right M above,
          add-mul (q * d) d M,
          mul_right_comm q d M,
          add-mul (q * M) M d,
          mul_comm d M,
        )

pub rel_quot : (N ρ a b d : ℕ) → 0 < d → Rel N ρ 0 a b → Rel N ρ (N + ρ) (a / d) (b / d)
rel_quot N ρ a b d hd r =
    record {
      low = quot-side N ρ a b d hd (omega (arith, r.low));
      high = quot-side N ρ b a d hd (omega (arith, r.high));
    }
