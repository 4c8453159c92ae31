-- A1100: where it lies, and how near the program's is. The sum of PGA's terms at Vs30 = 1100 lies between -15 and 0.39, by a computed
-- test over the 451 magnitudes: the logarithm of RRUP² + c6² is at least 3.4455, as c6 is 5.6, and that of 1100/865 lies between 0.24
-- and 0.241. So A1100 is at most 1.48. The program's sum is within 51 units of 10^-9, so its A1100 within 64 parts in 10^9 and two
-- units. Assumes nothing.
use Prim.Native.Nat.{ℕ, ◌+◌, ◌*◌, ◌/◌, ◌≤◌}
use mathlib.Core.Path.{refl, subst}
use mathlib.Core.Bool.{Bool}
use mathlib.Core.List.{List, ◌∷◌, []}
use native.Mathlib.Omega.{arith}
use lib.Dec.{T, lit≤}
use lib.IntN.{ℤ, pos, ◌*ℤ◌}
use lib.Signed.{shr_z}
use Rattle.exact.specs.Near.{up, dn, NearZ}
use Rattle.exact.specs.Laws.{Rel}
use Rattle.exact.specs.Exact.{E30, ln_e, exp_e}
use Rattle.exact.proofs.Computed.{run, run-from}
use Rattle.tables.specs.Tables.{PGA, table2, coefficients_at}
use Rattle.fixed.specs.Fixed.{E9, K20, K21, exp_fixed}
use Rattle.model.specs.declared.Scenario.{Scenario}
use Rattle.model.proofs.Fair.{Fair, le_all, rest_err, fair-at, linear_err, le-all}
use Rattle.model.specs.Equations.{E24, E27, linear, f_site, f_mag, rock_pga, times, ln_median_at}
use Rattle.model.specs.Accuracy.{InRange}
use Rattle.model.specs.Fixed.{f_site_fixed, rock_pga_fixed, ln_median_at_fixed}
use Rattle.model.specs.FineNear.{Between, minus_fifteen}
use Rattle.model.proofs.Between.{between_turned, near_between, between_wide}
use native.Mathlib.Nat.{le_trans, div-one}
use Rattle.model.proofs.Through.{rel_most, rel_cut, exp_through}
use Rattle.model.proofs.Ends.{low_end, high_end, sum_between, distance_between}
use Rattle.exact.proofs.ExpExact.{exp_e_mono}
use Rattle.model.proofs.NearSums.{near_share}
use Rattle.fixed.proofs.LnNear.{ln_quotient-near}
use Rattle.exact.proofs.NearLaws.{near_wide}
use Rattle.model.proofs.TermsNear.{terms_near}

pga_fair : Fair (coefficients_at PGA)
pga_fair = fair-at PGA (lit≤ tt)

-- ---- where it lies
-- ln 31.36 is above 3.4455
abbrev near_end : ℤ
near_end = pos (3445500 * E24)

nearest_end : up near_end + dn (ln_e (5600 * 5600 * E24)) ≤ up (ln_e (5600 * 5600 * E24)) + dn near_end
unfolding ln_e
nearest_end = lit≤ tt

rock_quotient : Between (pos (240 * E27)) (pos (241 * E27)) (ln_e (1100 * E30 / 865))
unfolding ln_e
rock_quotient = record { low = lit≤ tt; high = lit≤ tt }

abbrev site_low : ℤ
site_low = shr_z (linear (coefficients_at PGA) *ℤ pos (241 * E27)) 100000

abbrev site_high : ℤ
site_high = shr_z (linear (coefficients_at PGA) *ℤ pos (240 * E27)) 100000

rock_site : (a : ℕ) → Between site_low site_high (f_site (coefficients_at PGA) 1100 a)
unfolding f_site coefficients_at table2
rock_site a = between_turned 100000 (linear (coefficients_at PGA)) refl rock_quotient

-- a is at most b, as a pair of a list of orders
abbrev pub order : ℤ → ℤ → ℕ × ℕ
order a b = (up a + dn b, up b + dn a)

c6_is : 5600 ≤ (coefficients_at PGA).c6
unfolding coefficients_at table2
c6_is = lit≤ tt

rock_facts : ℕ → List (ℕ × ℕ)
unfolding f_mag times coefficients_at table2
rock_facts m =
    order minus_fifteen (low_end (coefficients_at PGA) m site_low)
    ∷ order (high_end (coefficients_at PGA) m near_end site_high) (pos (390 * E27))
    ∷ []

rock_at : ℕ → Bool
unfolding rock_facts
rock_at m = le_all (rock_facts m)

rock_magnitudes : T (run rock_at 400 451)
unfolding rock_at
rock_magnitudes = tt

pub rock_between :
    (x : Scenario) (a : ℕ) → InRange x → Between minus_fifteen (pos (390 * E27)) (ln_median_at (coefficients_at PGA) x 1100 a)
unfolding rock_at
rock_between x a i =
    let facts = le-all (rock_facts x.m) (run-from rock_at 400 451 rock_magnitudes x.m i.m_low (omega (arith, i.m_high))) in
    between_wide minus_fifteen (pos (390 * E27)) facts.0 facts.1.0
    (sum_between (coefficients_at PGA) x 1100 a pga_fair i
    (distance_between 5600 (coefficients_at PGA).c6 x.rrup near_end (lit≤ tt) c6_is pga_fair.c6_high i.rrup-high nearest_end)
    (rock_site a))

-- e^0.39 is below 1.48
top-value : exp_e (pos (390 * E27)) ≤ 1480000000 * K21
unfolding exp_e
top-value = lit≤ tt

pub rock_top : (x : Scenario) → InRange x → rock_pga x ≤ 1480000000 * K21
unfolding rock_pga
rock_top x i = le_trans (exp_e_mono (ln_median_at (coefficients_at PGA) x 1100 0) (pos (390 * E27)) (rock_between x 0 i).high) top-value

-- ---- how near the program's is
rock_budget : rest_err (coefficients_at PGA) + linear_err (coefficients_at PGA) ≤ 51
unfolding coefficients_at table2
rock_budget = lit≤ tt

rock_site_near :
    NearZ K21 (linear_err (coefficients_at PGA)) (f_site_fixed (coefficients_at PGA) 1100 0) (f_site (coefficients_at PGA) 1100 0)
unfolding f_site_fixed f_site coefficients_at table2
rock_site_near =
    near_share 100000 (linear (coefficients_at PGA)) (lit≤ tt) (lit≤ tt) (ln_quotient-near 1100 865 (lit≤ tt) (lit≤ tt) (lit≤ tt))

rock_ln_near :
    (x : Scenario) → InRange x
    → NearZ K21 51 (ln_median_at_fixed (coefficients_at PGA) x 1100 0) (ln_median_at (coefficients_at PGA) x 1100 0)
rock_ln_near x i =
    near_wide K21 (rest_err (coefficients_at PGA) + linear_err (coefficients_at PGA)) 51 _ _ rock_budget
    (terms_near (coefficients_at PGA) x 1100 0 0 pga_fair i rock_site_near)

-- its logarithm, for the range of the program's exponential
pub rock_ln_size :
    (x : Scenario) → InRange x
    → (dn (ln_median_at_fixed (coefficients_at PGA) x 1100 0) ≤ 15000000051)
    × (up (ln_median_at_fixed (coefficients_at PGA) x 1100 0) ≤ 390000051)
rock_ln_size x i = near_between 15000000000 390000000 (lit≤ tt) (lit≤ tt) (lit≤ tt) (rock_between x 0 i) (rock_ln_near x i)

pub rock_near : (x : Scenario) → InRange x → Rel E9 64 (2 * E30) (rock_pga_fixed x * K21) (rock_pga x)
unfolding rock_pga_fixed rock_pga
rock_near x i =
    let a : ℤ = ln_median_at_fixed (coefficients_at PGA) x 1100 0 in
    let b : ℤ = ln_median_at (coefficients_at PGA) x 1100 0 in
    let s = rock_ln_size x i in
    subst (λ (t : ℕ). Rel E9 64 (2 * E30) (exp_fixed a / 10 * K21) t) (div-one (exp_e b))
    (rel_cut (exp_fixed a) K20 1 10 (2 * E30) (lit≤ tt) (lit≤ tt) (lit≤ tt) (lit≤ tt)
    (exp_through 51 a b (lit≤ tt) (le_trans s.1 (lit≤ tt)) (le_trans s.0 (lit≤ tt)) (rock_ln_near x i)))

pub rock_top_fixed : (x : Scenario) → InRange x → rock_pga_fixed x ≤ 1490000000
rock_top_fixed x i =
    go (rock_pga_fixed x) (rel_most E9 64 K21 2 1480000000 (rock_pga_fixed x) (rock_pga x) (lit≤ tt) (rock_top x i) (rock_near x i))
  where
    go : (a : ℕ) → a * E9 ≤ 1480000000 * (E9 + 64) + 2 * E9 → a ≤ 1490000000
    go a h = omega arith
