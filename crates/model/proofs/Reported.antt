-- A row that is reported of a fine one is as near the exact values as `Accurate` says, whichever measure's they are, where the fine one
-- is as near them as `FineNear` says. The nearest millionth of a number within 500 units of 10^-9 is within 1000 of them, so within one
-- millionth. The exponential of such a number is within 10 + 502 + 1 parts in 10^9 and one unit of 10^-10 and a little,
-- of which the last is made up by what 1/500000, 2000 parts, leaves, as the median is above one unit: at ln median -15 it is above
-- 3000. Assumes nothing.
use Prim.Native.Nat.{ℕ, ◌+◌, ◌*◌, ◌^◌, ◌≤◌, ◌<◌}
use mathlib.Core.Path.{◌≡◌, refl, sym, subst}
use native.Mathlib.Omega.{arith}
use native.Mathlib.Nat.{le_refl, le_trans, mul-le-mul_right, mul_assoc, mul_comm, mul_left_comm, mul_right_comm, add-mul, le_of_mul-le-mul_right, add-le-add}
use lib.Dec.{lit≤}
use lib.IntN.{ℤ, pos, ◌*ℤ◌}
use Rattle.exact.specs.Near.{up, dn, NearZ}
use Rattle.exact.specs.Exact.{E30, exp_e}
use Rattle.fixed.specs.Fixed.{E9, K20, K21, nearest, exp_fixed}
use Rattle.model.specs.declared.Fine.{Fine}
use Rattle.fixed.proofs.SignedLaws.{nearest-half}
use Rattle.exact.proofs.ExpExact.{exp_e-near, exp_e_mono}
use Rattle.model.specs.FineNear.{minus_fifteen, Between, RootNear, FineNear}
use Rattle.model.specs.Accuracy.{Exact, sixth_place, median_parts, NearSixth, NearMedian, Accurate}
use Rattle.exact.proofs.RelLaws.{chain}
use Rattle.exact.proofs.NearLaws.{near→within, near_wide}
use Rattle.model.specs.Equations.{most, E24, E27}
use Rattle.model.specs.Fixed.{sigma_of, report}
use Rattle.fixed.proofs.ExpNear.{exp_fixed-near}
use Rattle.model.proofs.Between.{near_between}
use Rattle.model.proofs.NearSums.{near_exact}
use Rattle.model.proofs.SigmaNear.{sigma_near}
use Rattle.model.proofs.WallNear.{most_by}

-- ---- the nearest millionth
pub report-near : {K e : ℕ} {s x : ℤ} → e ≤ 500 → NearZ K e s x → NearZ (1000 * K) 1 (nearest s 1000) x
report-near {K} {e} {s} {x} he n =
    let q : ℤ = nearest s 1000 in
    let h = nearest-half s 1000 (lit≤ tt) in
    record {
      low = core (up s) (dn s) (up q) (dn q) (up x) (dn x) (omega (arith, h.low)) n.low;
      high = turned (core (dn s) (up s) (dn q) (up q) (dn x) (up x) (omega (arith, h.high)) (omega (arith, n.high)));
    }
  where
    core :
        (u d p q v w : ℕ) → 1000 * p + d ≤ u + 1000 * q + 500 → u * K + w ≤ v + d * K + e * K
        → p * (1000 * K) + w ≤ v + q * (1000 * K) + 1 * (1000 * K)
    core u d p q v w h k =
        omega (
          arith,
          mul-le-mul_right K h,
          add-mul (1000 * p) d K,
          add-mul (u + 1000 * q) 500 K,
          add-mul u (1000 * q) K,
          mul_assoc 1000 p K,
          mul_assoc 1000 q K,
          mul_left_comm p 1000 K,
          mul_left_comm q 1000 K,
          mul-le-mul_right K he,
        )

    turned :
        dn (nearest s 1000) * (1000 * K) + up x ≤ dn x + up (nearest s 1000) * (1000 * K) + 1 * (1000 * K)
        → up x + dn (nearest s 1000) * (1000 * K) ≤ up (nearest s 1000) * (1000 * K) + dn x + 1 * (1000 * K)
    turned h = omega arith

-- ---- the median
-- 513 parts and a little more than a unit
pub record Valued (p y : ℕ) : Type 0 where
  pub low : p * E9 ≤ y * (E9 + 513) + K20 * (E9 + 11)
  pub high : y * E9 ≤ p * (E9 + 513) + K20 * (E9 + 514)

pub value-near : (s x : ℤ) → up s ≤ 22000000000 → dn s ≤ 22000000000 → NearZ K21 500 s x → Valued (exp_fixed s * K20) (exp_e x)
value-near s x hu hd n =
    let near = exp_e-near E9 K21 500 refl (lit≤ tt) (lit≤ tt) (lit≤ tt) (lit≤ tt) (s *ℤ pos K21) x (near→within K21 500 s x n) in
    let leaf = exp_fixed-near s hu hd in
    let p : ℕ = exp_fixed s * K20 in
    let m : ℕ = exp_e (s *ℤ pos K21) in
    record {
      low =
          le_trans
          (chain E9 10 502 (K20 * (E9 + 10)) (E9 + 502) 11 p m (exp_e x) (lit≤ tt) (lit≤ tt) (lit≤ tt) leaf.low near.low)
          (add-le-add (le_refl (exp_e x * (E9 + 513))) (lit≤ tt));
      high =
          le_trans
          (chain E9 502 10 (E9 + 502) (K20 * (E9 + 10)) (K20 * 503) (exp_e x) m p (lit≤ tt) (lit≤ tt) (lit≤ tt) near.high
          leaf.high)
          (add-le-add (le_refl (p * (E9 + 513))) (lit≤ tt));
    }

-- the upper bound, in units of which y has at most H
in_units : (K M T H p y : ℕ) → 0 < K → y ≤ H * K → p * K * E9 ≤ y * M + K * T → p * E9 ≤ H * M + T
in_units K M T H p y h_k h l =
    le_of_mul-le-mul_right
    (omega (arith, l, mul_right_comm p K E9, mul-le-mul_right M h, mul_right_comm H K M, add-mul (H * M) T K, mul_comm K T))
    h_k

-- the median at ln median -15 is above 3000 units, and at 13 below 2^53
least-value : 3000 * K20 ≤ exp_e minus_fifteen
unfolding exp_e
least-value = lit≤ tt

largest-value : exp_e (pos (13 * E30)) ≤ 4500000000000000 * K20
unfolding exp_e
largest-value = lit≤ tt

-- a fine ln median within 500 units of an exact one from -15 to 13
module _ (s x : ℤ) (n : NearZ K21 500 s x) (b : Between minus_fifteen (pos (13 * E30)) x) where
  ln_parts : (dn s ≤ 15000000500) × (up s ≤ 13000000500)
  ln_parts = near_between 15000000000 13000000000 (lit≤ tt) (lit≤ tt) (lit≤ tt) b n

  valued : Valued (exp_fixed s * K20) (exp_e x)
  valued = value-near s x (le_trans ln_parts.1 (lit≤ tt)) (le_trans ln_parts.0 (lit≤ tt)) n

  least : 3000 * K20 ≤ exp_e x
  least = le_trans least-value (exp_e_mono minus_fifteen x b.low)

  largest : exp_e x ≤ 4500000000000000 * K20
  largest = le_trans (exp_e_mono x (pos (13 * E30)) b.high) largest-value

  -- at least one unit
  value-one : 1 ≤ exp_fixed s
  value-one = go (exp_fixed s) (exp_e x) least valued.high
    where
      go : (p y : ℕ) → 3000 * K20 ≤ y → y * E9 ≤ p * K20 * (E9 + 513) + K20 * (E9 + 514) → 1 ≤ p
      go p y k l = omega arith

  -- so taking at least one changes nothing
  value-is : most 1 (exp_fixed s) ≡ exp_fixed s
  value-is = most_by (λ (n : ℕ). n ≡ exp_fixed s) 1 (exp_fixed s) (λ k. omega (arith, value-one)) (λ k. refl)

  pub median_reported : NearMedian (most 1 (exp_fixed s)) (exp_e x)
  median_reported =
      subst (λ (n : ℕ). NearMedian n (exp_e x)) (sym value-is)
      (record {
        least = value-one;
        low = low (exp_fixed s * K20) (exp_e x) least valued.low;
        high = high (exp_fixed s * K20) (exp_e x) valued.high;
      })
    where
      low :
          (p y : ℕ) → 3000 * K20 ≤ y → p * E9 ≤ y * (E9 + 513) + K20 * (E9 + 11)
          → median_parts * p ≤ median_parts * y + median_parts * K20 + y
      low p y k l = omega arith

      high : (p y : ℕ) → y * E9 ≤ p * (E9 + 513) + K20 * (E9 + 514) → median_parts * y ≤ median_parts * p + median_parts * K20 + y
      high p y l = omega arith

  -- and it is below 2^53
  pub median-fits : most 1 (exp_fixed s) < 2 ^ 53
  median-fits =
      subst (λ (n : ℕ). n < 2 ^ 53) (sym value-is)
      (go (exp_fixed s)
      (in_units K20 (E9 + 513) (E9 + 11) 4500000000000000 (exp_fixed s) (exp_e x) (lit≤ tt) largest valued.low))
    where
      go : (p : ℕ) → p * E9 ≤ 4500000000000000 * (E9 + 513) + (E9 + 11) → p < 2 ^ 53
      go p k = omega arith

-- ---- a row
pub sigma_reported : (v s : ℕ) → RootNear v s → NearSixth (pos (sigma_of v)) (pos s)
sigma_reported v s n =
    subst (λ (t : ℕ). NearSixth (pos (sigma_of v)) (pos t)) (sym n.is) (sigma_near 290 v n.under (lit≤ tt) n.least n.near)

-- the fine ln median of a row, as near as is asked above
fine_ln : (e : Exact) (f : Fine) → FineNear e f → NearZ K21 500 f.ln e.ln
fine_ln e f n = near_wide K21 400 500 f.ln e.ln (lit≤ tt) n.ln_near

pub report-fits : (e : Exact) (f : Fine) → FineNear e f → (report f).median < 2 ^ 53
unfolding report
report-fits e f n = median-fits f.ln e.ln (fine_ln e f n) n.ln_between

pub report_accurate : (e : Exact) (f : Fine) → FineNear e f → Accurate e (report f)
unfolding report
report_accurate e f n =
    let near : NearZ K21 500 f.ln e.ln = fine_ln e f n in
    record {
      ln_near = report-near (lit≤ tt) near;
      median-near =
          subst (λ (y : ℕ). NearMedian (most 1 (exp_fixed f.ln)) y) (sym n.median-is)
          (median_reported f.ln e.ln near n.ln_between);
      intra-near = sigma_reported f.intra e.intra n.intra;
      inter-near =
          subst (λ (y : ℕ). NearSixth (pos (f.t * 1000)) (pos y)) (sym n.inter-is)
          (near_wide E24 0 sixth_place (pos (f.t * 1000)) (pos (f.t * E27)) (lit≤ tt) (near_exact E24 1000 (pos f.t)));
      total-near = sigma_reported f.total e.total n.total;
      arbitrary-near = sigma_reported f.arbitrary e.arbitrary n.arbitrary;
    }
