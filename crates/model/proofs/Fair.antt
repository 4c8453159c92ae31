-- What the proofs ask of a row of Tables 2 and 3, and one computed test that each of the 24 rows has it. No proof reads a number of a
-- row but through these facts. The bounds of error, in units of 10^-9: 7 for the distance term, 56 c9 for the hanging wall, 9 c12 k3
-- for the basin; for the site, 5 c10 + 123 k2 below k1 and 5 (c10 + k2 n) from k1 up; and two a product for its roundings. The
-- largest sum is 396, at 0.5 s. Assumes nothing.
use Prim.Native.Nat.{ℕ, ◌+◌, ◌*◌, ◌≤◌, ◌<◌}
use mathlib.Core.Path.{sym, subst}
use mathlib.Core.Bool.{Bool, true, ◌&&◌}
use mathlib.Core.List.{List, ◌∷◌, []}
use native.Mathlib.Omega.{arith}
use lib.Dec.{T, leb, leb→le}
use lib.Ieee.Fits.{and_l, and_r}
use lib.IntN.{◌*ℤ◌, nat_abs}
use Rattle.exact.specs.Near.{up, dn}
use Rattle.exact.proofs.Computed.{run, run-from}
use Rattle.tables.specs.declared.Coefficients.{Coefficients}
use Rattle.tables.specs.declared.Deviations.{Deviations}
use Rattle.tables.specs.Tables.{table2, table3, coefficients_at, deviations_at}
use Rattle.tables.specs.OfTables.{OfTable2, OfTable3}
use Rattle.model.specs.Equations.{linear}
use Rattle.model.proofs.NearSums.{share_err}
use Rattle.model.specs.Fixed.{cross_fixed}

-- ---- many orders at once: a list of pairs, of which each first number is at most its second
abbrev pub le_all : List (ℕ × ℕ) → Bool
le_all [] = true
le_all (p ∷ ps) = leb p.0 p.1 && le_all ps

abbrev pub LeAll : List (ℕ × ℕ) → Type 0
LeAll [] = Unit
LeAll (p ∷ ps) = (p.0 ≤ p.1) × LeAll ps

pub le-all : (ps : List (ℕ × ℕ)) → T (le_all ps) → LeAll ps
le-all [] t = tt
le-all (p ∷ ps) t =
    (leb→le p.0 p.1 (and_l (leb p.0 p.1) (le_all ps) t), le-all ps (and_r (leb p.0 p.1) (le_all ps) t))

-- ---- the bounds of error
-- all terms but the site's
abbrev pub rest_err : Coefficients → ℕ
rest_err c = 7 + (share_err 1000 c.c9 56 + share_err 1000000 (c.c12 *ℤ c.k3) 9)

-- the site's below k1
abbrev pub soft_err : Coefficients → ℕ
soft_err c = share_err 1000 c.c10 5 + share_err 1000 c.k2 123

-- and from k1 up
abbrev pub linear_err : Coefficients → ℕ
linear_err c = share_err 100000 (linear c) 5

-- ---- Table 2
pub record Fair (c : Coefficients) : Type 0 where
  pub c4_sign : up c.c4 ≤ 0
  pub c5_sign : dn c.c5 ≤ 0
  -- c4 + c5 M lies between -1.7 and 0
  pub slope-high : up c.c5 * 850 ≤ 100 * dn c.c4
  pub slope-low : 100 * dn c.c4 ≤ up c.c5 * 400 + 170000
  pub c6_low : 4000 ≤ c.c6
  pub c6_high : c.c6 ≤ 9000
  pub c7_sign : dn c.c7 ≤ 0
  pub c8_sign : up c.c8 ≤ 0
  pub c9_sign : dn c.c9 ≤ 0
  pub c11_sign : dn c.c11 ≤ 0
  pub basin_sign : dn (c.c12 *ℤ c.k3) ≤ 0
  pub k1_low : 400 ≤ c.k1
  pub k1_high : c.k1 ≤ 1086
  pub k2_sign : up c.k2 ≤ 0
  pub k2_small : dn c.k2 ≤ 2670
  pub linear_sign : up (linear c) ≤ 0
  pub soft_budget : rest_err c + soft_err c ≤ 400
  pub linear_budget : rest_err c + linear_err c ≤ 400
  -- sizes, for 64 bits
  pub magnitude-small : 100 * nat_abs c.c0 + nat_abs c.c1 * 850 + nat_abs c.c2 * 300 + nat_abs c.c3 * 200 ≤ 2800000
  pub c7_small : nat_abs c.c7 ≤ 300
  pub c8_small : nat_abs c.c8 ≤ 200
  pub c9_small : nat_abs c.c9 ≤ 500
  pub c10_small : nat_abs c.c10 ≤ 2600
  pub c11_small : nat_abs c.c11 ≤ 300
  pub basin-small : nat_abs (c.c12 *ℤ c.k3) ≤ 2800000
  pub linear-small : nat_abs (linear c) ≤ 82000
  pub c12_small : nat_abs c.c12 ≤ 1000
  pub k3_small : nat_abs c.k3 ≤ 2800

fair_facts : Coefficients → List (ℕ × ℕ)
fair_facts c =
    (up c.c4, 0) ∷ (dn c.c5, 0) ∷ (up c.c5 * 850, 100 * dn c.c4) ∷ (100 * dn c.c4, up c.c5 * 400 + 170000)
    ∷ (4000, c.c6) ∷ (c.c6, 9000) ∷ (dn c.c7, 0) ∷ (up c.c8, 0) ∷ (dn c.c9, 0) ∷ (dn c.c11, 0)
    ∷ (dn (c.c12 *ℤ c.k3), 0)
    ∷ (400, c.k1) ∷ (c.k1, 1086) ∷ (up c.k2, 0) ∷ (dn c.k2, 2670) ∷ (up (linear c), 0)
    ∷ (rest_err c + soft_err c, 400) ∷ (rest_err c + linear_err c, 400)
    ∷ (100 * nat_abs c.c0 + nat_abs c.c1 * 850 + nat_abs c.c2 * 300 + nat_abs c.c3 * 200, 2800000) ∷ (nat_abs c.c7, 300)
    ∷ (nat_abs c.c8, 200) ∷ (nat_abs c.c9, 500) ∷ (nat_abs c.c10, 2600) ∷ (nat_abs c.c11, 300)
    ∷ (nat_abs (c.c12 *ℤ c.k3), 2800000) ∷ (nat_abs (linear c), 82000)
    ∷ (nat_abs c.c12, 1000) ∷ (nat_abs c.k3, 2800) ∷ []

fair : (c : Coefficients) → T (le_all (fair_facts c)) → Fair c
unfolding fair_facts
fair c t =
    let h = le-all (fair_facts c) t in
    let h4 = h.1.1.1.1 in
    let h8 = h4.1.1.1.1 in
    let h12 = h8.1.1.1.1 in
    let h16 = h12.1.1.1.1 in
    let h20 = h16.1.1.1.1 in
    let h24 = h20.1.1.1.1 in
    record {
      c4_sign = h.0;
      c5_sign = h.1.0;
      slope-high = h.1.1.0;
      slope-low = h.1.1.1.0;
      c6_low = h4.0;
      c6_high = h4.1.0;
      c7_sign = h4.1.1.0;
      c8_sign = h4.1.1.1.0;
      c9_sign = h8.0;
      c11_sign = h8.1.0;
      basin_sign = h8.1.1.0;
      k1_low = h8.1.1.1.0;
      k1_high = h12.0;
      k2_sign = h12.1.0;
      k2_small = h12.1.1.0;
      linear_sign = h12.1.1.1.0;
      soft_budget = h16.0;
      linear_budget = h16.1.0;
      magnitude-small = h16.1.1.0;
      c7_small = h16.1.1.1.0;
      c8_small = h20.0;
      c9_small = h20.1.0;
      c10_small = h20.1.1.0;
      c11_small = h20.1.1.1.0;
      basin-small = h24.0;
      linear-small = h24.1.0;
      c12_small = h24.1.1.0;
      k3_small = h24.1.1.1.0;
    }

fair_at : ℕ → Bool
unfolding fair_facts coefficients_at table2
fair_at i = le_all (fair_facts (coefficients_at i))

fair-rows : T (run fair_at 0 24)
unfolding fair_at
fair-rows = tt

pub fair-at : (i : ℕ) → i < 24 → Fair (coefficients_at i)
unfolding fair_at
fair-at i h = fair (coefficients_at i) (run-from fair_at 0 24 fair-rows i (omega arith) (omega arith))

-- a row that a function is handed
pub fair_of : (c : Coefficients) → OfTable2 c → Fair c
fair_of c o = subst (λ (r : Coefficients). Fair r) (sym o.is) (fair-at o.i o.below)

-- ---- Table 3
pub record Spread (d : Deviations) : Type 0 where
  pub s_low : 300 ≤ d.s
  pub s_high : d.s ≤ 700
  pub t_high : d.t ≤ 500
  pub s_c_high : d.sC ≤ 300
  pub rho_high : d.rho ≤ 1000
  -- 2 rho sigma_lnYB
  pub cross-high : cross_fixed d ≤ 800000000

spread_facts : Deviations → List (ℕ × ℕ)
unfolding cross_fixed
spread_facts d = (300, d.s) ∷ (d.s, 700) ∷ (d.t, 500) ∷ (d.sC, 300) ∷ (d.rho, 1000) ∷ (cross_fixed d, 800000000) ∷ []

spread : (d : Deviations) → T (le_all (spread_facts d)) → Spread d
unfolding spread_facts
spread d t =
    let h = le-all (spread_facts d) t in
    record {
      s_low = h.0;
      s_high = h.1.0;
      t_high = h.1.1.0;
      s_c_high = h.1.1.1.0;
      rho_high = h.1.1.1.1.0;
      cross-high = h.1.1.1.1.1.0;
    }

spread_at : ℕ → Bool
unfolding spread_facts deviations_at table3
spread_at i = le_all (spread_facts (deviations_at i))

spread-rows : T (run spread_at 0 24)
unfolding spread_at
spread-rows = tt

pub spread_at_lem : (i : ℕ) → i < 24 → Spread (deviations_at i)
unfolding spread_at
spread_at_lem i h = spread (deviations_at i) (run-from spread_at 0 24 spread-rows i (omega arith) (omega arith))

pub spread_of : (d : Deviations) → OfTable3 d → Spread d
spread_of d o = subst (λ (r : Deviations). Spread r) (sym o.is) (spread_at_lem o.i o.below)
