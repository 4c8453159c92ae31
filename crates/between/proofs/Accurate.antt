-- The row at any period is as near the exact one as demand 3 asks. At a tabulated period it is the row of a measure. Between two it is
-- drawn between their fine rows: ln median within 400 + 3 · 28 + 6 units of 10^-9, as the weight is within 3 and the exact ends, both from
-- -15 to 13, are at most 28 apart; a sigma within 485 + 3 · 2 + 6, the inter-event sigma within 3 + 6. One proof for all gaps: it asks of the two
-- rows what holds of every measure's. Assumes nothing.
use Prim.Native.Nat.{ℕ, ◌+◌, ◌*◌, ◌^◌, ◌≤◌, ◌<◌}
use mathlib.Core.Path.{◌≡◌, refl, sym, subst}
use mathlib.Core.Bool.{Bool, true, false}
use native.Mathlib.Omega.{arith}
use native.Mathlib.Nat.{le_trans, le_of_eq, le_of_lt, mul-le-mul_right}
use lib.Dec.{eqb, lit≤}
use lib.IntN.{ℤ, pos}
use Rattle.exact.specs.Near.{up, dn, NearZ, Within}
use Rattle.exact.specs.Exact.{E30}
use Rattle.exact.proofs.NearLaws.{near_wide}
use Rattle.exact.proofs.Signed.{same_parts}
use Rattle.fixed.specs.Fixed.{E9, K21, nearest}
use Rattle.tables.specs.Tables.{period_at}
use Rattle.model.specs.declared.Scenario.{Scenario}
use Rattle.model.specs.declared.Fine.{Fine}
use Rattle.model.specs.declared.Row.{Row}
use Rattle.model.specs.Accuracy.{InRange, Exact, exact_of, NearSixth, Accurate}
use Rattle.model.specs.Equations.{E27}
use Rattle.model.specs.FineNear.{Between, minus_fifteen, RootNear, FineNear}
use Rattle.model.specs.Fixed.{fine_fixed, row_fixed, FineInRange}
use Rattle.model.proofs.Demand.{fine-near, fine_in_range, demand_3}
use Rattle.model.proofs.NearSums.{near_exact}
use Rattle.model.proofs.Quotients.{pos_high}
use Rattle.model.proofs.Reported.{report-near, median_reported, median-fits}
use Rattle.between.specs.Periods.{last_up_to, weight, on_line, sigma_on_line, line_exact, exact_from, exact_at}
use Rattle.between.specs.Fixed.{weight_fixed, on_line_fixed, fine_sigma, sigma_on_line_fixed, to_millionths, drawn_fixed, drawn_report, row_from, row_at}
use Rattle.between.proofs.Line.{line_between, line_plain}
use Rattle.between.proofs.LineNear.{line-near}
use Rattle.between.proofs.Weight.{weight-near, weight_fixed-one, weight-one}
use Rattle.between.proofs.Gaps.{Placed, placed, gap_at}
use Rattle.between.proofs.Sigma.{fine_sigma-near, fine_sigma-high}

-- ---- between two rows
-- a weight and its exact one
pub record Weighed (w w' : ℕ) : Type 0 where
  pub one : w ≤ E9
  pub exact_one : w' ≤ E30
  pub near : NearZ K21 3 (pos w) (pos w')

module _ (w w' : ℕ) (h : Weighed w w') where
  -- a sigma to the nearest millionth
  sigma_reported :
      (e a b a' b' : ℕ) → e + 3 * 2 + 6 ≤ 500 → a' ≤ 2 * E30 → b' ≤ 2 * E30 → NearZ K21 e (pos a) (pos a') → NearZ K21 e (pos b) (pos b')
      → NearSixth (pos (to_millionths (up (on_line_fixed w (pos a) (pos b))))) (pos (sigma_on_line w' a' b'))
  unfolding nearest on_line
  sigma_reported e a b a' b' room ha hb na nb =
      let l : ℤ = on_line_fixed w (pos a) (pos b) in
      let x : ℤ = on_line w' (pos a') (pos b') in
      let far : Within (2 * E30) (pos a') (pos b') = record { low = near_by a' b' ha; high = near_by b' a' hb } in
      let near : NearZ K21 (e + 3 * 2 + 6) l x = line-near e 3 2 w w' (pos a) (pos b) (pos a') (pos b') h.one h.exact_one h.near far na nb in
      let plain : l ≡ pos (up l) = same_parts l (pos (up l)) refl (line_plain w a b h.one) in
      report-near {s = pos (up l)} room (subst (λ (z : ℤ). NearZ K21 (e + 3 * 2 + 6) z x) plain near)
    where
      near_by : (a b : ℕ) → a ≤ 2 * E30 → a + 0 ≤ b + 0 + 2 * E30
      near_by a b h = omega arith

  -- of two variances
  root_reported :
      (v u s r : ℕ) → RootNear v s → RootNear u r → v ≤ 2400000000 → u ≤ 2400000000
      → NearSixth (pos (to_millionths (sigma_on_line_fixed w v u))) (pos (sigma_on_line w' s r))
  root_reported v u s r n m hv hu =
      sigma_reported 485 (fine_sigma v) (fine_sigma u) s r (lit≤ tt) (top v s n hv) (top u r m hu) (fine_sigma-near v s n) (fine_sigma-near u r m)
    where
      top : (v s : ℕ) → RootNear v s → v ≤ 2400000000 → s ≤ 2 * E30
      top v s n h = go (fine_sigma v) s K21 (le_of_lt (fine_sigma-high v h)) (pos_high (fine_sigma-near v s n))
        where
          go : (f s K : ℕ) → f ≤ 1549200000 → s ≤ f * K + 485 * K → s ≤ 2 * (E9 * K)
          go f s K h k = omega (arith, mul-le-mul_right K h)

  -- ln median
  module _ (e f : Exact) (p q : Fine) (n : FineNear e p) (m : FineNear f q) where
    -- two numbers from -15 to 13
    apart : (a b : ℤ) → Between minus_fifteen (pos (13 * E30)) a → Between minus_fifteen (pos (13 * E30)) b → Within (28 * E30) a b
    apart a b i j =
        record {
          low = go (up a) (dn a) (up b) (dn b) i.high j.low;
          high = go (up b) (dn b) (up a) (dn a) j.high i.low;
        }
      where
        go : (a1 a0 b1 b0 : ℕ) → a1 + 0 ≤ 13 * E30 + a0 → 0 + b0 ≤ b1 + 15 * E30 → a1 + b0 ≤ b1 + a0 + 28 * E30
        go a1 a0 b1 b0 h k = omega arith

    ln_near : NearZ K21 500 (on_line_fixed w p.ln q.ln) (on_line w' e.ln f.ln)
    ln_near =
        near_wide K21 490 500 (on_line_fixed w p.ln q.ln) (on_line w' e.ln f.ln) (lit≤ tt)
        (line-near 400 3 28 w w' p.ln q.ln e.ln f.ln h.one h.exact_one h.near
        (apart e.ln f.ln n.ln_between m.ln_between)
        n.ln_near
        m.ln_near)

    ln_inside : Between minus_fifteen (pos (13 * E30)) (on_line w' e.ln f.ln)
    ln_inside = line_between minus_fifteen (pos (13 * E30)) e.ln f.ln w' h.exact_one n.ln_between m.ln_between

    -- the median is below 2^53
    pub line-median-fits : (drawn_report (drawn_fixed w p q)).median < 2 ^ 53
    unfolding drawn_report drawn_fixed
    line-median-fits = median-fits (on_line_fixed w p.ln q.ln) (on_line w' e.ln f.ln) ln_near ln_inside

    pub line_accurate : FineInRange p → FineInRange q → Accurate (line_exact w' e f) (drawn_report (drawn_fixed w p q))
    unfolding line_exact drawn_report drawn_fixed
    line_accurate r s =
        let l : ℤ = on_line_fixed w p.ln q.ln in
        let x : ℤ = on_line w' e.ln f.ln in
        record {
          ln_near = report-near (lit≤ tt) ln_near;
          median-near = median_reported l x ln_near ln_inside;
          intra-near = root_reported p.intra q.intra e.intra f.intra n.intra m.intra r.intra-high s.intra-high;
          inter-near =
              sigma_reported 0 (p.t * 1000000) (q.t * 1000000) e.inter f.inter (lit≤ tt)
              (small p.t e.inter r.t_high n.inter-is)
              (small q.t f.inter s.t_high m.inter-is)
              (inter p.t e.inter n.inter-is)
              (inter q.t f.inter m.inter-is);
          total-near = root_reported p.total q.total e.total f.total n.total m.total r.total-high s.total-high;
          arbitrary-near =
              root_reported p.arbitrary q.arbitrary e.arbitrary f.arbitrary n.arbitrary m.arbitrary r.arbitrary-high
              s.arbitrary-high;
        }
      where
        small : (t i : ℕ) → t ≤ 500 → i ≡ t * E27 → i ≤ 2 * E30
        small t i h e = le_trans (le_of_eq e) (le_trans (mul-le-mul_right E27 h) (lit≤ tt))

        inter : (t i : ℕ) → i ≡ t * E27 → NearZ K21 0 (pos (t * 1000000)) (pos i)
        inter t i e = subst (λ (z : ℕ). NearZ K21 0 (pos (t * 1000000)) (pos z)) (sym e) (near_exact K21 1000000 (pos t))

-- ---- at any period
-- what holds of the rows of every measure, and of every row drawn between two neighbours', holds of the row at a period, the exact one
-- and the one that is reported
pub by_place :
    (P : Exact → Row → Type 0) (t : ℕ) (x : Scenario) → 10 ≤ t → t ≤ 10000
    → ((i : ℕ) → i < 24 → P (exact_of i x) (row_fixed i x))
    → ((i w w' : ℕ) → i + 1 < 24 → Weighed w w'
    → P (line_exact w' (exact_of i x) (exact_of (i + 1) x)) (drawn_report (drawn_fixed w (fine_fixed i x) (fine_fixed (i + 1) x))))
    → P (exact_at t x) (row_at t x)
unfolding exact_at exact_from row_at row_from
by_place P t x l h one line = at (last_up_to t) (placed t l h)
  where
    at : (i : ℕ) → Placed t i → P (exact_from i t x) (row_from i t x)
    at i p = go (eqb (period_at i) t) refl
      where
        weighed : eqb (period_at i) t ≡ false → Weighed (weight_fixed t (period_at i) (period_at (i + 1))) (weight t (period_at i) (period_at (i + 1)))
        weighed e =
            let g = gap_at i (p.next-below e) in
            let t1 : ℕ = period_at i in
            let t2 : ℕ = period_at (i + 1) in
            let high : t ≤ t2 = le_of_lt (p.high e) in
            record {
              one = weight_fixed-one t t1 t2 g.some p.low high g.wide g.apart;
              exact_one = weight-one t t1 t2 g.some p.low high g.wide g.apart;
              near = weight-near t t1 t2 g.some p.low high g.wide g.apart;
            }

        go :
            (b : Bool) → eqb (period_at i) t ≡ b
            → P
            (elim b [
              | true ↦ exact_of i x
              | false ↦ line_exact (weight t (period_at i) (period_at (i + 1))) (exact_of i x) (exact_of (i + 1) x)
            ])
            (elim b [
              | true ↦ row_fixed i x
              | false ↦ drawn_report (drawn_fixed (weight_fixed t (period_at i) (period_at (i + 1))) (fine_fixed i x) (fine_fixed (i + 1) x))
            ])
        go true e = one i (le_trans p.below (lit≤ tt))
        go false e =
            line i (weight_fixed t (period_at i) (period_at (i + 1))) (weight t (period_at i) (period_at (i + 1))) (next (p.next-below e)) (weighed e)
          where
            next : i < 20 → i + 1 < 24
            next k = omega arith

pub period_accurate : (t : ℕ) (x : Scenario) → 10 ≤ t → t ≤ 10000 → InRange x → Accurate (exact_at t x) (row_at t x)
period_accurate t x l h r =
    by_place (λ (e : Exact) (w : Row). Accurate e w) t x l h (λ i k. demand_3 i x k r)
    (λ i w w' k g.
    let j : i < 24 = before i k in
    line_accurate w w' g (exact_of i x) (exact_of (i + 1) x) (fine_fixed i x) (fine_fixed (i + 1) x) (fine-near i x j r) (fine-near (i + 1) x k r)
    (fine_in_range i x j r) (fine_in_range (i + 1) x k r))
  where
    before : (i : ℕ) → i + 1 < 24 → i < 24
    before i k = omega arith
