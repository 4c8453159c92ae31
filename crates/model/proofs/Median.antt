-- The exact ln median of every measure by itself, of a request in range, lies between -15 and 13, and the program's is within 400 units
-- of 10^-9 of it. Below k1 the site term is at least 2 c10 below zero, for c10 above zero, and at most 2.93 |k2| above it, and 2 |c10| for c10
-- below zero, as ln(V/k1) lies between -2 and 0 and ln B - ln C between -2.93 and 0; from k1 up it lies between 1.02 (c10 + k2 n) and
-- 0. One computed test over 24 rows and 451 magnitudes says that the sums stay inside. Assumes nothing.
use Prim.Native.Nat.{ℕ, ◌+◌, ◌*◌, ◌/◌, ◌≤◌, ◌<◌}
use mathlib.Core.Path.{◌≡◌, refl, subst}
use mathlib.Core.Bool.{Bool, true, false}
use mathlib.Core.List.{List, ◌∷◌, []}
use native.Mathlib.Omega.{arith}
use native.Mathlib.Nat.{le_trans, le-add_left, le_of_lt, le_refl, le-div_iff_mul-le, add-le-add, le_of_eq, mul_comm, mul-le-mul_right, mul-le-mul}
use lib.Dec.{T, ltb, lit≤}
use lib.IntN.{ℤ, pos, negsuc, neg_ℤ, ◌+ℤ◌, ◌-ℤ◌, ◌*ℤ◌}
use lib.Signed.{shr_z}
use Rattle.exact.specs.Near.{up, dn, NearZ}
use Rattle.exact.specs.Exact.{E30, ln_e}
use Rattle.exact.proofs.Computed.{run, run-from}
use Rattle.fixed.specs.Fixed.{K21}
use Rattle.tables.specs.declared.Coefficients.{Coefficients}
use Rattle.tables.specs.Tables.{table2, coefficients_at}
use Rattle.model.specs.declared.Scenario.{Scenario}
use Rattle.model.specs.Equations.{site_c, times, f_site, linear, E27, f_mag, curve, least, E24, ln_own, rock_pga, ln_median_at}
use Rattle.model.proofs.Curve.{Paired, minus_two, curve-low, below_between, curve-high}
use Rattle.model.proofs.Fair.{le_all, LeAll, Fair, le-all, fair-at}
use Rattle.model.specs.FineNear.{Between, minus_fifteen}
use Rattle.model.proofs.Between.{share_nothing, between_share, between_add, between_turned, between_sub, between_ln, between_wide, near_between}
use Rattle.model.proofs.Rock.{order, rock_near, rock_top_fixed, rock_top}
use borrow.Author.Tests.{lt-ltb, le-ltb, ltb-true, ltb-false}
use Rattle.model.proofs.SiteNear.{least_by, RockNear, ln_median_at-near, paired}
use Rattle.model.proofs.Ends.{low_end, high_end, far_end, distance_between, sum_between}
use Rattle.exact.proofs.Signed.{sub_is}
use lib.Ieee.Nearest.{div_mono}
use Rattle.model.specs.Accuracy.{InRange}
use Rattle.model.specs.Fixed.{ln_own_fixed, rock_pga_fixed}

-- ---- the ends of the site term below k1
-- ln B - ln C
abbrev pub widest : ℤ
widest = negsuc 2_929999_999999_999999_999999_999999

widest_end :
    up widest + dn (ln_e (180000000 * K21) -ℤ ln_e (1480000000 * K21 + site_c))
    ≤ up (ln_e (180000000 * K21) -ℤ ln_e (1480000000 * K21 + site_c)) + dn widest
unfolding ln_e
widest_end = lit≤ tt

pub difference_between :
    (v k1 b : ℕ) → Paired v k1 → v < k1 → b ≤ 1480000000 * K21 → Between widest (pos 0) (ln_e (b + curve v k1) -ℤ ln_e (b + site_c))
difference_between v k1 b p h top =
    let y : ℕ = b + curve v k1 in
    let z : ℕ = b + site_c in
    let least_y : 180000000 * K21 ≤ b + curve v k1 = le_trans (curve-low v k1 p) (le-add_left (curve v k1) b) in
    let y_pos : 0 < b + curve v k1 = le_trans (lit≤ tt) least_y in
    let low : Between (ln_e (180000000 * K21) -ℤ ln_e (1480000000 * K21 + site_c)) (ln_e y -ℤ ln_e y) (ln_e y -ℤ ln_e z) =
    between_sub (between_ln (180000000 * K21) y y (lit≤ tt) least_y (le_refl y))
    (between_ln y z (1480000000 * K21 + site_c) y_pos (add-le-add (le_refl b) (curve-high v k1 p h)) (add-le-add top (le_refl site_c)))
    in
    between_wide widest (pos 0) widest_end (omega (arith, sub_is (ln_e y) (ln_e y))) low

-- a number between -2 and 0, times a coefficient of either sign
signed_between :
    (c d : ℤ) → Between minus_two (pos 0) d → Between (times (pos (up c)) minus_two) (times (neg_ℤ (pos (dn c))) minus_two) (times c d)
unfolding times
signed_between (pos n) d b =
    subst (λ (t : ℤ). Between (shr_z (pos n *ℤ minus_two) 1000) t (shr_z (pos n *ℤ d) 1000)) (share_nothing 1000 (pos n))
    (between_share 1000 (pos n) refl b)
signed_between (negsuc n) d b =
    subst (λ (t : ℤ). Between t (shr_z (negsuc n *ℤ minus_two) 1000) (shr_z (negsuc n *ℤ d) 1000)) (share_nothing 1000 (negsuc n))
    (between_turned 1000 (negsuc n) refl b)

abbrev soft_low : Coefficients → ℤ
soft_low c = times (pos (up c.c10)) minus_two +ℤ times c.k2 (pos 0)

abbrev soft_high : Coefficients → ℤ
soft_high c = times (neg_ℤ (pos (dn c.c10))) minus_two +ℤ times c.k2 widest

soft_between :
    (c : Coefficients) (v b : ℕ) → Fair c → Paired v c.k1 → v < c.k1 → b ≤ 1480000000 * K21
    → Between (soft_low c) (soft_high c) (f_site c v b)
unfolding f_site times
soft_between c v b f p h top =
    rw (f_site, lt-ltb v c.k1 h)
    (between_add (signed_between c.c10 (ln_e (v * E30 / c.k1)) (below_between v c.k1 p h))
    (between_turned 1000 c.k2 (omega (arith, f.k2_sign)) (difference_between v c.k1 b p h top)))

-- ---- and from k1 up
abbrev linear_low : Coefficients → ℤ
linear_low c = shr_z (linear c *ℤ pos (1020 * E27)) 100000

-- ln 2.75 is below 1.02, and ln 1 is 0
highest : up (ln_e (1100 * E30 / 400)) + 0 ≤ 1020 * E27 + dn (ln_e (1100 * E30 / 400))
unfolding ln_e
highest = lit≤ tt

lowest : 0 + dn (ln_e E30) ≤ up (ln_e E30) + 0
unfolding ln_e
lowest = lit≤ tt

linear_between : (c : Coefficients) (v b : ℕ) → Fair c → c.k1 ≤ v → Between (linear_low c) (pos 0) (f_site c v b)
unfolding f_site
linear_between c v b f h =
    rw (f_site, le-ltb v c.k1 h)
    (subst (λ (t : ℤ). Between (linear_low c) t (shr_z (linear c *ℤ ln_e (least v 1100 * E30 / c.k1)) 100000))
    (share_nothing 100000 (linear c))
    (between_turned 100000 (linear c) (omega (arith, f.linear_sign))
    (between_wide (pos 0) (pos (1020 * E27)) lowest highest
    (between_ln E30 (least v 1100 * E30 / c.k1) (1100 * E30 / 400) (lit≤ tt) one_up to_top))))
  where
    k_pos : 0 < c.k1
    k_pos = le_trans (lit≤ tt) f.k1_low

    capped-low : c.k1 ≤ least v 1100
    capped-low = least_by (λ (t : ℕ). c.k1 ≤ t) v 1100 (λ k. h) (λ k. le_trans f.k1_high (lit≤ tt))

    capped-high : least v 1100 ≤ 1100
    capped-high = least_by (λ (t : ℕ). t ≤ 1100) v 1100 (λ k. le_of_lt k) (λ k. le_refl 1100)

    one_up : E30 ≤ least v 1100 * E30 / c.k1
    one_up = (le-div_iff_mul-le k_pos).1 (le_trans (le_of_eq (mul_comm E30 c.k1)) (mul-le-mul_right E30 capped-low))

    to_top : least v 1100 * E30 / c.k1 ≤ 1100 * E30 / 400
    to_top =
        div_mono (least v 1100 * E30) c.k1 (1100 * E30) 400 k_pos (lit≤ tt)
        (mul-le-mul (mul-le-mul_right E30 capped-high) f.k1_low)

-- ---- the sums
end_facts : Coefficients → ℕ → List (ℕ × ℕ)
unfolding f_mag times
end_facts c m =
    order minus_fifteen (low_end c m (soft_low c))
    ∷ order (high_end c m (pos 0) (soft_high c)) (pos (13 * E30))
    ∷ order minus_fifteen (low_end c m (linear_low c))
    ∷ order (high_end c m (pos 0) (pos 0)) (pos (13 * E30))
    ∷ []

ends_at : ℕ → ℕ → Bool
unfolding end_facts coefficients_at table2
ends_at i m = le_all (end_facts (coefficients_at i) m)

row_at : ℕ → Bool
unfolding ends_at
row_at i = run (ends_at i) 400 451

rows : T (run row_at 0 24)
unfolding row_at
rows = tt

end_facts_lem : (i m : ℕ) → i < 24 → 400 ≤ m → m ≤ 850 → LeAll (end_facts (coefficients_at i) m)
unfolding row_at
end_facts_lem i m h l k =
    le-all (end_facts (coefficients_at i) m)
    (run-from (ends_at i) 400 451 (run-from row_at 0 24 rows i (omega arith) (omega arith)) m l (omega arith))

-- ---- where ln median lies, and how near the program's is
-- ln 16 is not negative
pub ln_sixteen : 0 + dn (ln_e (4000 * 4000 * E24)) ≤ up (ln_e (4000 * 4000 * E24)) + 0
unfolding ln_e
ln_sixteen = lit≤ tt

pub ln_own_between : (i : ℕ) (x : Scenario) → i < 24 → InRange x → Between minus_fifteen (pos (13 * E30)) (ln_own i x)
unfolding ln_own end_facts
ln_own_between i x h r = go (ltb x.vs30 (coefficients_at i).k1) refl
  where
    f : Fair (coefficients_at i)
    f = fair-at i h

    facts : LeAll (end_facts (coefficients_at i) x.m)
    facts = end_facts_lem i x.m h r.m_low r.m_high

    d : Between (pos 0) far_end (ln_e ((x.rrup * x.rrup + (coefficients_at i).c6 * (coefficients_at i).c6) * E24))
    d = distance_between 4000 (coefficients_at i).c6 x.rrup (pos 0) (lit≤ tt) f.c6_low f.c6_high r.rrup-high ln_sixteen

    go :
        (t : Bool) → ltb x.vs30 (coefficients_at i).k1 ≡ t
        → Between minus_fifteen (pos (13 * E30)) (ln_median_at (coefficients_at i) x x.vs30 (rock_pga x))
    go true e =
        between_wide minus_fifteen (pos (13 * E30)) facts.0 facts.1.0
        (sum_between (coefficients_at i) x x.vs30 (rock_pga x) f r d
        (soft_between (coefficients_at i) x.vs30 (rock_pga x) f (paired (coefficients_at i) x.vs30 f r.vs30-low r.vs30-high)
        (ltb-true _ _ e)
        (rock_top x r)))
    go false e =
        between_wide minus_fifteen (pos (13 * E30)) facts.1.1.0 facts.1.1.1.0
        (sum_between (coefficients_at i) x x.vs30 (rock_pga x) f r d
        (linear_between (coefficients_at i) x.vs30 (rock_pga x) f (ltb-false _ _ e)))

-- A1100 is as near as the site term asks
pub rock_is_near : (x : Scenario) → InRange x → RockNear (rock_pga_fixed x) (rock_pga x)
rock_is_near x r = record { near = rock_near x r; fixed_top = rock_top_fixed x r; exact_top = rock_top x r }

pub ln_own-near : (i : ℕ) (x : Scenario) → i < 24 → InRange x → NearZ K21 400 (ln_own_fixed i x) (ln_own i x)
unfolding ln_own_fixed ln_own
ln_own-near i x h r = ln_median_at-near (coefficients_at i) x (rock_pga_fixed x) (rock_pga x) (fair-at i h) r (rock_is_near x r)

pub ln_own-size :
    (i : ℕ) (x : Scenario) → i < 24 → InRange x → (dn (ln_own_fixed i x) ≤ 15000000400) × (up (ln_own_fixed i x) ≤ 13000000400)
ln_own-size i x h r =
    near_between 15000000000 13000000000 (lit≤ tt) (lit≤ tt) (lit≤ tt) (ln_own_between i x h r) (ln_own-near i x h r)
