-- Demand 3: for every measure and every request in range, the fine row is as near the exact values as `FineNear` says, and so the
-- reported one as `Accurate` says. One proof for all 24 measures: each law above asks of a row no more than `Fair` and `Spread`, which
-- the rows of Tables 2 and 3 have. Assumes nothing.
use Prim.Native.Nat.{ℕ, ◌+◌, ◌*◌, ◌/◌, ◌≤◌, ◌<◌}
use mathlib.Core.Path.{◌≡◌, refl}
use native.Mathlib.Omega.{arith}
use native.Mathlib.Nat.{le_refl, le_trans, mul-le-mul, mul-le-mul_right, mul_assoc, add-le-add, le-add_right}
use lib.Dec.{lit≤}
use lib.IntN.{ℤ, pos}
use Rattle.exact.specs.Near.{up, dn, NearZ}
use Rattle.exact.specs.Exact.{E30, root_e}
use Rattle.fixed.specs.Fixed.{K21}
use Rattle.tables.specs.Tables.{coefficients_at, deviations_at}
use Rattle.model.specs.declared.Scenario.{Scenario}
use Rattle.model.specs.Equations.{E24, alpha, intra_variance, median, intra, total, arbitrary, rock_pga, joined, inter}
use Rattle.model.specs.Accuracy.{InRange, exact_of, Accurate}
use Rattle.exact.proofs.Signed.{by_sign}
use Rattle.model.specs.Fixed.{squared_fixed, alpha_fixed, variance_fixed, own_fixed, raised, fine_fixed, report, row_fixed, rock_pga_fixed, intra_variance_fixed, FineInRange}
use Rattle.model.proofs.Alpha.{alpha-near, alpha_low, alpha_between}
use Rattle.model.specs.FineNear.{Between, RootNear, FineNear}
use Rattle.model.proofs.SigmaNear.{joined-near}
use Rattle.model.proofs.Variance.{square-root, variance_near, variance_high, variance_low}
use Rattle.model.proofs.Fair.{fair-at, spread_at_lem}
use Rattle.model.proofs.Median.{rock_is_near}
use Rattle.model.proofs.ShortPeriods.{ln_median-near, ln_median_between, ln_median-size}
use Rattle.model.proofs.Quotients.{pos_low}
use Rattle.model.proofs.Reported.{report_accurate}
use Rattle.exact.proofs.NearLaws.{near_wide}

-- a number near one that is 0.09 or more is not negative, and at least 0.089999
positive :
    (R E : ℤ) → NearZ K21 287 R E → 90000 * E24 + dn E ≤ up E + 3 → NearZ K21 287 (pos (up R)) (pos (up E)) × (89999000 ≤ up R)
positive R E n low = by_sign R (λ z. fin z) (λ z. absurd (omega (arith, n.high, low, z)))
  where
    none : dn E ≡ 0
    none = by_sign E (λ z. z) (λ z. absurd (omega (arith, low, z)))

    fin : dn R ≡ 0 → NearZ K21 287 (pos (up R)) (pos (up E)) × (89999000 ≤ up R)
    fin z = (
      record { low = omega (arith, n.low, z, none); high = omega (arith, n.high, z, none) },
      omega (arith, n.high, low, z),
    )

module _ (i : ℕ) (x : Scenario) (h : i < 24) (r : InRange x) where
  -- ---- the variances
  exact_alpha : ℤ
  exact_alpha = alpha (coefficients_at i) x.vs30 (rock_pga x)

  fixed_alpha : ℤ
  fixed_alpha = alpha_fixed (coefficients_at i) x.vs30 (rock_pga_fixed x)

  alphas_near : NearZ K21 367 fixed_alpha exact_alpha
  unfolding fixed_alpha exact_alpha
  alphas_near =
      alpha-near (coefficients_at i) x.vs30 (rock_pga_fixed x) (rock_pga x) (fair-at i h) r.vs30-low r.vs30-high
      (rock_is_near x r)

  alphas_between : Between alpha_low (pos 0) exact_alpha
  unfolding exact_alpha
  alphas_between = alpha_between (coefficients_at i) x.vs30 (rock_pga x) (fair-at i h) r.vs30-low r.vs30-high

  exact_variance : ℕ
  exact_variance = up (intra_variance (deviations_at i) exact_alpha)

  intra_variance_lem : NearZ K21 287 (pos (variance_fixed i x)) (pos exact_variance) × (89999000 ≤ variance_fixed i x)
  unfolding variance_fixed exact_variance exact_alpha fixed_alpha
  intra_variance_lem =
      positive (intra_variance_fixed (deviations_at i) fixed_alpha) (intra_variance (deviations_at i) exact_alpha)
      (variance_near fixed_alpha exact_alpha alphas_near alphas_between (deviations_at i) (spread_at_lem i h))
      (variance_low fixed_alpha exact_alpha alphas_near alphas_between (deviations_at i) (spread_at_lem i h))

  variance_top : exact_variance ≤ 2 * E30
  unfolding exact_variance
  variance_top = variance_high fixed_alpha exact_alpha alphas_near alphas_between (deviations_at i) (spread_at_lem i h)

  -- with sums of which each is 1 unit less sure than what it adds to
  abbrev t2 : ℕ
  t2 = squared_fixed (deviations_at i).t

  abbrev s_c2 : ℕ
  s_c2 = squared_fixed (deviations_at i).sC

  -- what stands under the root of the total sigma
  exact_total : ℕ
  exact_total = root_e exact_variance * root_e exact_variance / E30 + (deviations_at i).t * (deviations_at i).t * E24

  total_variance : NearZ K21 288 (pos (variance_fixed i x + t2)) (pos exact_total)
  unfolding exact_total
  total_variance =
      joined-near 287 (variance_fixed i x) exact_variance (deviations_at i).t (le_trans variance_top (lit≤ tt)) intra_variance_lem.0

  total-top : exact_total ≤ 4 * E30
  unfolding exact_total
  total-top =
      le_trans
      (add-le-add (square-root exact_variance (le_trans variance_top (lit≤ tt))).0
      (mul-le-mul_right E24 (mul-le-mul (spread_at_lem i h).t_high (spread_at_lem i h).t_high)))
      (le_trans (add-le-add variance_top (le_refl (500 * 500 * E24))) (lit≤ tt))

  -- ---- the fine row
  intra-near : RootNear (variance_fixed i x) (intra i x)
  unfolding intra exact_variance exact_alpha
  intra-near =
      record {
        under = exact_variance;
        is = refl;
        near = near_wide K21 287 290 _ _ (lit≤ tt) intra_variance_lem.0;
        least = intra_variance_lem.1;
      }

  total-near : RootNear (variance_fixed i x + t2) (total i x)
  unfolding total joined intra exact_total exact_variance exact_alpha
  total-near =
      record {
        under = exact_total;
        is = refl;
        near = near_wide K21 288 290 _ _ (lit≤ tt) total_variance;
        least = le_trans intra_variance_lem.1 (le-add_right (variance_fixed i x) t2);
      }

  arbitrary-near : RootNear (variance_fixed i x + t2 + s_c2) (arbitrary i x)
  unfolding arbitrary total joined intra exact_total exact_variance exact_alpha
  arbitrary-near =
      record {
        under = root_e exact_total * root_e exact_total / E30 + (deviations_at i).sC * (deviations_at i).sC * E24;
        is = refl;
        near =
            near_wide K21 289 290 _ _ (lit≤ tt)
            (joined-near 288 (variance_fixed i x + t2) exact_total (deviations_at i).sC total-top total_variance);
        least = le_trans total-near.least (le-add_right (variance_fixed i x + t2) s_c2);
      }

  pub fine-near : FineNear (exact_of i x) (fine_fixed i x)
  unfolding exact_of fine_fixed raised own_fixed median inter
  fine-near =
      record {
        ln_near = ln_median-near i x h r;
        ln_between = ln_median_between i x h r;
        median-is = refl;
        intra = intra-near;
        inter-is = refl;
        total = total-near;
        arbitrary = arbitrary-near;
      }

  -- its size
  pub variance_size : variance_fixed i x ≤ 2000000287
  variance_size = top (variance_fixed i x) exact_variance variance_top (pos_low intra_variance_lem.0)
    where
      top : (v w : ℕ) → w ≤ 2 * E30 → v * K21 ≤ w + 287 * K21 → v ≤ 2000000287
      top v w k l = omega arith

  pub fine_in_range : FineInRange (fine_fixed i x)
  unfolding fine_fixed raised own_fixed
  fine_in_range =
      let d = spread_at_lem i h in
      let t_high : t2 ≤ 250000000 = mul-le-mul_right 1000 (mul-le-mul d.t_high d.t_high) in
      let s_c_high : s_c2 ≤ 90000000 = mul-le-mul_right 1000 (mul-le-mul d.s_c_high d.s_c_high) in
      let z = ln_median-size i x h r in
      record {
        ln_low = z.0;
        ln_high = z.1;
        intra-high = omega (arith, variance_size);
        t_high = d.t_high;
        total-high = omega (arith, variance_size, t_high);
        arbitrary-high = omega (arith, variance_size, t_high, s_c_high);
      }

  -- ---- the reported row
  pub demand_3 : Accurate (exact_of i x) (row_fixed i x)
  unfolding row_fixed
  demand_3 = report_accurate (exact_of i x) (fine_fixed i x) fine-near

-- the inter-event sigma is Table 3's number itself
pub inter_exact : (i : ℕ) (x : Scenario) → (row_fixed i x).inter * E24 ≡ (exact_of i x).inter
unfolding row_fixed report fine_fixed raised own_fixed exact_of inter
inter_exact i x = mul_assoc (deviations_at i).t 1000 E24
