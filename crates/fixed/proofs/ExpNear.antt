-- The program's exponential lies within ten parts in 10^9, and one unit of 10^-10, of the exact one. The series of twelve terms, its
-- third made from a quarter of r, is short by at most 41 units of 10^-10 on a value of 1 or more: five parts. The k multiples of ln 2
-- and the rest r, put together again at 10^-30, are an argument within 2 units of 10^-9 of the exact one: four parts, by the exact
-- exponential's own law, which crosses multiples of ln 2; so no k is compared with another. Assumes nothing.
use Prim.Native.Nat.{ℕ, ◌+◌, ◌-◌, ◌*◌, ◌/◌, ◌%◌, ◌^◌, ◌≤◌, ◌<◌}
use mathlib.Core.Path.{◌≡◌, refl, sym, ap, ap₂, subst, subst₂}
use native.Mathlib.Omega.{arith}
use native.Mathlib.Nat.{le_refl, le_trans, le_of_eq, le_of_lt, lt_of_lt_of_le, mul-le-mul, mul-le-mul_right, mul-lt-mul_of_pos_right, mul_assoc, mul_comm, mul_left_comm, mul_right_comm, mul-mul-mul_comm, mul-add, add-mul, mul-zero, one-mul, add-zero, le-div_iff_mul-le, div-le_of_le-mul, div-mul-le_self, lt-div-mul-add, div-add-mod', mod-lt}
use lib.Dec.{lit≤}
use lib.Arith.{digits_div, digits_mod}
use lib.IntN.{ℤ, pos, ◌*ℤ◌}
use Rattle.exact.specs.Near.{up, dn}
use Rattle.exact.specs.Laws.{Close, Rel}
use Rattle.exact.specs.Series.{exp_terms, exp_series, exp_from}
use Rattle.exact.specs.Exact.{E30, exp_e}
use Rattle.exact.proofs.Signed.{mul-up, mul-dn}
use Rattle.exact.proofs.Quotients.{div-le, mul-below, mul-above, quot_below, quot_above, cancel}
use Rattle.exact.proofs.ExpSeries.{exp_terms_mono, exp_terms_split, term_after_mono, count_after, second_term}
use Rattle.exact.proofs.LnExact.{L30}
use Rattle.exact.proofs.ExpExact.{exp_e_offset, exp_from-near}
use Rattle.exact.proofs.TwoScales.{exp_terms_close}
use Rattle.exact.proofs.RelLaws.{rel_trans, rel_times}
use Rattle.fixed.proofs.LeftOut.{exp_left_out}
use Rattle.fixed.specs.Fixed.{E9, K20, K21, exp_one, exp_two, exp_count, exp_unit, exp_shifted, exp_fixed}

-- ---- the budget, in units of the inside
-- how many units of 10^-30 one has, and how many of them make one of 10^-9
abbrev K : ℕ
K = E30 / exp_one

abbrev tens : ℕ
tens = exp_one / E9

-- the terms from the third on, and by how much the series may be short: four for each of these, and one for what is left out
abbrev more : ℕ
more = exp_count - 2

abbrev short : ℕ
short = more * 4 + 1

-- on a value of 1 or more that is five parts in 10^9
unit_room : short ≤ 5 * tens
unit_room = lit≤ tt

-- ---- the third term, from a quarter of r; H is half of one
third-low : (H r : ℕ) → 2 * (r / 4 * r / H) * (2 * H) ≤ r * r
third-low H r = go (r / 4) (r / 4 * r / H) (omega arith) (div-mul-le_self (r / 4 * r) H)
  where
    go : (q t : ℕ) → 4 * q ≤ r → t * H ≤ q * r → 2 * t * (2 * H) ≤ r * r
    go q t h k = omega (arith, mul-mul-mul_comm 2 t 2 H, mul-le-mul_right r h, mul_assoc 4 q r)

third-high : (H r : ℕ) → 0 < H → 5 * r ≤ 7 * H → r * r ≤ (2 * (r / 4 * r / H) + 7) * (2 * H)
third-high H r hH hr = go (r / 4) (r / 4 * r / H) (omega arith) (lt-div-mul-add {a = r / 4 * r} {b = H} hH)
  where
    go : (q t : ℕ) → r ≤ 4 * q + 3 → q * r < t * H + H → r * r ≤ (2 * t + 7) * (2 * H)
    go q t h k =
        omega (
          arith,
          mul-le-mul_right r h,
          add-mul (4 * q) 3 r,
          mul_assoc 4 q r,
          add-mul (2 * t) 7 (2 * H),
          mul-mul-mul_comm 2 t 2 H,
        )

third_close : (H K r : ℕ) → 0 < H → 0 < K → 5 * r ≤ 7 * H → Close K 4 (r / 4 * r / H) (r * K * (r * K) / (2 * H * K) / 2)
third_close H K r hH h_k hr =
    let t : ℕ = r / 4 * r / H in
    let h_s : 0 < 2 * H = omega arith in
    let two : 2 * t ≤ r * r / (2 * H) = (le-div_iff_mul-le h_s).1 (third-low H r) in
    let even : t ≡ 2 * t / 2 = omega arith in
    record {
      low =
          le_trans (le_of_eq (ap (λ (x : ℕ). x * K) even))
          (quot_below 2 K (2 * t) (lit≤ tt)
          (le_trans (mul-le-mul_right K two) (mul-below (2 * H) K r r h_s h_k (le_refl (r * K)) (le_refl (r * K)))));
      high =
          quot_above 2 K (2 * t + 7) (t + 4)
          (mul-above (2 * H) K r r (2 * t + 7) (le_refl (r * K)) (le_refl (r * K)) (third-high H r hH hr))
          (omega arith);
    }

-- ---- the series, r the same at both scales
from-third :
    (r : ℕ) → exp_series E30 60 (r * K) ≡ E30 + (r * K + exp_terms E30 (r * K) (r * K * (r * K) / E30 / 2) 3 58)
unfolding exp_series exp_terms
from-third r =
    let R : ℕ = r * K in
    ap (λ (t : ℕ). E30 + (t + exp_terms E30 R (t * R / E30 / 2) 3 58)) (second_term E30 R (lit≤ tt))

unit_close : (r : ℕ) → r < exp_two → Close K short (exp_unit r) (exp_series E30 60 (r * K))
unfolding exp_unit
unit_close r hr =
    let R : ℕ = r * K in
    let T : ℕ = R * R / E30 / 2 in
    let t : ℕ = r / 4 * r / (exp_one / 2) in
    let quarter : r / 4 ≤ exp_two = omega arith in
    let t_le : t ≤ exp_one = div-le_of_le-mul (exp_one / 2) (le_trans (mul-le-mul quarter (le_of_lt hr)) (lit≤ tt)) in
    let cr : Close K 2 r R = record { low = le_refl (r * K); high = mul-le-mul_right K (omega arith) } in
    let c : Close K (more * 4) (exp_terms exp_one r t 3 more) (exp_terms E30 R T 3 more) =
    exp_terms_close exp_one K (lit≤ tt) (lit≤ tt) more 3 t r (lit≤ tt) t_le (omega arith)
    (third_close (exp_one / 2) K r (lit≤ tt) (lit≤ tt) (omega arith)) cr in
    let top : R ≤ L30 = le_trans (mul-le-mul_right K (le_of_lt hr)) (lit≤ tt) in
    let T-le : T ≤ L30 * L30 / E30 / 2 = div-le 2 (div-le E30 (mul-le-mul top top)) in
    fin K exp_one (exp_terms exp_one r t 3 more) (exp_terms E30 R T 3 more) _ _ (exp_series E30 60 R) (from-third r)
    (exp_terms_split E30 R T 3 more (60 - exp_count))
    (le_trans (exp_terms_mono E30 (60 - exp_count) (count_after 3 more) top (term_after_mono E30 more 3 top T-le)) exp_left_out)
    c.low c.high
  where
    fin :
        (K l a b m s e : ℕ) → e ≡ l * K + (r * K + s) → s ≡ b + m → m ≤ K → a * K ≤ b → b ≤ (a + more * 4) * K
        → Close K short (l + r + a) e
    fin K l a b m s e he hs hm low high =
        record {
          low = omega (arith, add-mul (l + r) a K, add-mul l r K);
          high = omega (arith, add-mul (l + r + a) short K, add-mul (l + r) a K, add-mul l r K, add-mul a (more * 4) K);
        }

unit_low : (r : ℕ) → tens * E9 ≤ exp_unit r
unfolding exp_unit
unit_low r = omega arith

unit_near : (r : ℕ) → r < exp_two → Rel E9 5 0 (exp_unit r * K) (exp_series E30 60 (r * K))
unit_near r hr =
    go E9 K tens short (exp_unit r) (exp_series E30 60 (r * K)) unit_room (unit_low r) (unit_close r hr)
  where
    go : (N K f s E F : ℕ) → s ≤ 5 * f → f * N ≤ E → Close K s E F → Rel N 5 0 (E * K) F
    go N K f s E F room h c =
        let parts : s * N ≤ 5 * E = omega (arith, mul-le-mul_right N room, mul_assoc 5 f N) in
        record {
          low = omega (arith, mul-le-mul_right N c.low, mul-add F N 5);
          high =
              omega (
                arith,
                mul-le-mul_right N c.high,
                add-mul E s K,
                add-mul (E * K) (s * K) N,
                mul-add (E * K) N 5,
                mul_right_comm s K N,
                mul-le-mul_right K parts,
                mul_assoc 5 E K,
              );
        }

-- ---- k multiples of ln 2 and the rest, put together at 10^-30
together : (k R : ℕ) → R < L30 → 2 ^ k * exp_series E30 60 R ≡ exp_from E30 60 L30 (k * L30 + R)
unfolding exp_from
together k R h = sym (ap₂ (λ (a b : ℕ). 2 ^ a * exp_series E30 60 b) (digits_div k h) (digits_mod k h))

-- l is ln 2 at the coarse scale and φ what it lacks, f coarse units make one of x; y is x and 32 l, Y is x at the fine scale and 32 ln 2: at
-- most 32 φ apart
same_argument :
    (K M f l φ k r y Y u d : ℕ) → M ≡ f * K → k ≤ 64 → k * l + r ≡ y → f * u + 32 * l ≡ f * d + y
    → u * M + 32 * (l * K + φ) ≡ d * M + Y
    → 32 * φ ≤ 2 * M
    → (k * (l * K + φ) + r * K ≤ Y + 2 * M) × (Y ≤ k * (l * K + φ) + r * K + 2 * M)
same_argument K M f l φ k r y Y u d eM hk ey ex e_y small =
    let z : k * (l * K + φ) + r * K ≡ y * K + k * φ =
    omega (arith, mul-add k (l * K) φ, mul_assoc k l K, add-mul (k * l) r K, ap (λ (t : ℕ). t * K) ey) in
    let s : f * (u * K) + 32 * (l * K) ≡ f * (d * K) + y * K =
    omega (
      arith,
      ap (λ (t : ℕ). t * K) ex,
      add-mul (f * u) (32 * l) K,
      add-mul (f * d) y K,
      mul_assoc f u K,
      mul_assoc 32 l K,
      mul_assoc f d K,
    ) in
    let w : Y ≡ y * K + 32 * φ =
    omega (arith, ap (λ (t : ℕ). u * t) eM, ap (λ (t : ℕ). d * t) eM, mul_left_comm u f K, mul_left_comm d f K) in
    let kφ : k * φ ≤ 64 * φ = mul-le-mul_right φ hk in
    (omega (arith, z, w, kφ, small), omega (arith, z, w, small))

-- ---- the last division loses one unit
floor_near : (N ρ K P W Q : ℕ) → 0 < P → 0 < K → Rel N ρ 0 (W * K) Q → Rel N ρ (K * (N + ρ)) (W / P * K) (Q / P)
floor_near N ρ K P W Q hP h_k r =
    record {
      low = low (W / P) (Q / P) (N + ρ) (div-mul-le_self W P) (lt-div-mul-add {a = Q} {b = P} hP) (none r.low);
      high = high (W / P) (Q / P) (N + ρ) (lt-div-mul-add {a = W} {b = P} hP) (div-mul-le_self Q P) (none r.high);
    }
  where
    none : {a b : ℕ} → a ≤ b + 0 → a ≤ b
    none {a} {b} h = le_trans h (le_of_eq (add-zero b))

    low : (w q M : ℕ) → w * P ≤ W → Q < q * P + P → W * K * N ≤ Q * M → w * K * N ≤ q * M + K * M
    low w q M h k l =
        let above : Q ≤ q * P + P = le_of_lt k in
        le_trans
        (cancel P (w * K * N) (q * M + M) hP
        (omega (
          arith,
          l,
          mul_right_comm (w * K) N P,
          mul_right_comm w K P,
          ap (λ (t : ℕ). t * N) (mul_right_comm w K P),
          mul-le-mul_right N (mul-le-mul_right K h),
          mul-le-mul_right M above,
          add-mul (q * P) P M,
          mul_right_comm q P M,
          mul_comm P M,
          add-mul (q * M) M P,
        )))
        (omega (arith, mul-le-mul_right M h_k, one-mul M))

    high : (w q M : ℕ) → W < w * P + P → q * P ≤ Q → Q * N ≤ W * K * M → q * N ≤ w * K * M + K * M
    high w q M h k l =
        let above : W ≤ w * P + P = le_of_lt h in
        cancel P (q * N) (w * K * M + K * M) hP
        (omega (
          arith,
          l,
          mul_right_comm q N P,
          mul-le-mul_right N k,
          mul_assoc W K M,
          mul-le-mul_right (K * M) above,
          add-mul (w * P) P (K * M),
          mul_right_comm w P (K * M),
          mul_assoc w K M,
          mul_comm P (K * M),
          add-mul (w * K * M) (K * M) P,
          ap (λ (t : ℕ). t * P) (mul_assoc w K M),
        ))

-- ---- the whole
shifted-near :
    (y Y u d : ℕ) → y < 65 * exp_two → tens * u + 32 * exp_two ≡ tens * d + y → u * K21 + 32 * L30 ≡ d * K21 + Y
    → Rel E9 10 (K * (E9 + 10)) (exp_shifted y * K) (exp_from E30 60 L30 Y / 2 ^ 32)
unfolding exp_shifted
shifted-near y Y u d hy ey e_y =
    let k : ℕ = y / exp_two in
    let r : ℕ = y % exp_two in
    let hr : y % exp_two < exp_two = mod-lt y (lit≤ tt) in
    let hk : y / exp_two ≤ 64 = omega arith in
    let R-lt : r * K < L30 = lt_of_lt_of_le (mul-lt-mul_of_pos_right hr (lit≤ tt)) (lit≤ tt) in
    let a : Rel E9 5 0 (2 ^ k * exp_unit r * K) (exp_from E30 60 L30 (k * L30 + r * K)) =
    subst₂ (λ (s t : ℕ). Rel E9 5 0 s t) (sym (mul_assoc (2 ^ k) (exp_unit r) K)) (together k (r * K) R-lt)
    (plain (2 ^ k) (rel_times E9 5 0 (exp_unit r * K) (exp_series E30 60 (r * K)) (2 ^ k) (unit_near r hr))) in
    let near = same_argument K K21 tens exp_two (L30 - exp_two * K) k r y Y u d refl hk (div-add-mod' y exp_two) ey e_y (lit≤ tt) in
    let b : Rel E9 4 0 (exp_from E30 60 L30 (k * L30 + r * K)) (exp_from E30 60 L30 Y) =
    exp_from-near E9 K21 2 refl (lit≤ tt) (lit≤ tt) (lit≤ tt) (lit≤ tt) (k * L30 + r * K) Y near.0 near.1 in
    floor_near E9 10 K (2 ^ 32) (2 ^ k * exp_unit r) (exp_from E30 60 L30 Y) (lit≤ tt) (lit≤ tt)
    (rel_trans E9 5 4 0 0 _ _ _ (lit≤ tt) (lit≤ tt) (lit≤ tt) (lit≤ tt) a b)
  where
    plain : (c : ℕ) {a b : ℕ} → Rel E9 5 (c * 0) a b → Rel E9 5 0 a b
    plain c {a} {b} h = subst (λ (t : ℕ). Rel E9 5 t a b) (mul-zero c) h

-- e^x within ten parts in 10^9 and one unit of 10^-10, for x from -22 to 22
pub exp_fixed-near :
    (x : ℤ) → up x ≤ 22000000000 → dn x ≤ 22000000000 → Rel E9 10 (K20 * (E9 + 10)) (exp_fixed x * K20) (exp_e (x *ℤ pos K21))
unfolding exp_fixed
exp_fixed-near x hu hd =
    let y : ℕ = tens * up x + 32 * exp_two - tens * dn x in
    let Y : ℕ = up x * K21 + 32 * L30 - dn x * K21 in
    let e_y : up x * K21 + 32 * L30 ≡ dn x * K21 + Y =
    whole (up x * K21) (dn x * K21) (32 * L30) (le_trans (mul-le-mul_right K21 hd) (lit≤ tt)) in
    subst (λ (t : ℕ). Rel E9 10 (K20 * (E9 + 10)) (exp_shifted y * K20) t)
    (sym (exp_e_offset (x *ℤ pos K21) 32 Y (fine K21 (32 * L30) Y (x *ℤ pos K21) (mul-up x (pos K21)) (mul-dn x (pos K21)) e_y)))
    (shifted-near y Y (up x) (dn x) (omega arith) (omega arith) e_y)
  where
    whole : (u d l : ℕ) → d ≤ l → u + l ≡ d + (u + l - d)
    whole u d l h = omega arith

    fine :
        (K l Y : ℕ) (z : ℤ) → up z ≡ up x * K + dn x * 0 → dn z ≡ up x * 0 + dn x * K → up x * K + l ≡ dn x * K + Y
        → up z + l ≡ dn z + Y
    fine K l Y z h k e = omega (arith, h, k, mul-zero (up x), mul-zero (dn x))
