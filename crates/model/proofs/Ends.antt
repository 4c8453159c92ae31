-- Between which numbers the exact ln Y lies, which a row and M give: the distance term by the logarithm at RRUP = 0 and at 200 km, as
-- c4 + c5 M is not positive; style between c8 and c7; the hanging wall between 0 and c9; the basin between -c11 and its value at 10
-- km; the site term's ends are handed over. Assumes nothing.
use Prim.Native.Nat.{ℕ, ◌+◌, ◌*◌, ◌≤◌, ◌<◌, zero-le}
use mathlib.Core.Path.{◌≡◌, refl, subst, ap, ◌∙◌}
use mathlib.Core.Bool.{Bool, true, false}
use native.Mathlib.Omega.{arith}
use native.Mathlib.Nat.{mul-le-mul, mul-le-mul_left, mul-le-mul_right, le_of_lt, le_trans, le_of_eq, mul_assoc, zero-mul, add-mul, le_refl, add-le-add, mul-pos}
use lib.Dec.{ltb, leb, lit≤}
use lib.IntN.{ℤ, pos, negsuc, ◌+ℤ◌, ◌-ℤ◌, ◌*ℤ◌}
use lib.Signed.{shr_z}
use Rattle.exact.specs.Near.{up, dn}
use Rattle.exact.specs.Exact.{E30, ln_e}
use Rattle.request.specs.declared.Style.{Style}
use Rattle.request.specs.declared.Style.TheVariants.{StrikeSlip, Reverse, Normal}
use Rattle.tables.specs.declared.Coefficients.{Coefficients}
use Rattle.model.specs.declared.Scenario.{Scenario}
use Rattle.model.specs.FineNear.{Between}
use Rattle.model.proofs.Between.{between_self, between_turned, mul-up-order, around, mul-nothing, share_nothing, between_share, between_up, between_below, between_above, between_wide, between_ln, between_add}
use Rattle.model.specs.Equations.{f_dis, f_flt, E24, f_mag, slope, E27, f_flt_z, f_sed, deep, times, ln_median_at, f_site}
use Rattle.model.proofs.Fair.{Fair}
use Rattle.model.proofs.TermsNear.{slope_sign}
use borrow.Author.Tests.{ltb-true}
use Rattle.exact.proofs.Signed.{by_sign, sub_is, scaled_up, scaled_dn}
use Rattle.model.proofs.Basin.{deep-top}
use Rattle.model.specs.Accuracy.{InRange}
use Rattle.model.proofs.WallNear.{f_hng_between}

-- ---- each term
f_mag_between : (c : Coefficients) (m : ℕ) → Between (f_mag c m) (f_mag c m) (f_mag c m)
f_mag_between c m = between_self (f_mag c m)

f_dis_between :
    (c : Coefficients) (m r : ℕ) (near far : ℤ) → Fair c → m ≤ 850 → Between near far (ln_e ((r * r + c.c6 * c.c6) * E24))
    → Between (shr_z (slope c m *ℤ far) 200000) (shr_z (slope c m *ℤ near) 200000) (f_dis c m r)
unfolding f_dis
f_dis_between c m r near far f h b = between_turned 200000 (slope c m) (slope_sign c m f h) b

-- the depth that counts is at most 1 km
pub f_flt_z-le : (z : ℕ) → f_flt_z z ≤ 1000
f_flt_z-le z = go (ltb z 1000) refl
  where
    go : (t : Bool) → ltb z 1000 ≡ t → elim t [ true ↦ z | false ↦ 1000 ] ≤ 1000
    go true e = le_of_lt (ltb-true z 1000 e)
    go false e = lit≤ tt

f_flt_between : (c : Coefficients) (s : Style) (z : ℕ) → Fair c → Between (c.c8 *ℤ pos E27) (c.c7 *ℤ pos E27) (f_flt c s z)
unfolding f_flt
f_flt_between c s z f = by s
  where
    lo_sign : up (c.c8 *ℤ pos E27) ≡ 0
    lo_sign = omega (arith, scaled_up c.c8 E27, f.c8_sign)

    hi_sign : dn (c.c7 *ℤ pos E27) ≡ 0
    hi_sign = omega (arith, scaled_dn c.c7 E27, f.c7_sign)

    up_rev : (n : ℕ) → n ≤ 1000 → up (c.c7 *ℤ pos n *ℤ pos E24) ≤ up (c.c7 *ℤ pos E27)
    up_rev n h =
        rw (scaled_up (c.c7 *ℤ pos n) E24, scaled_up c.c7 n, scaled_up c.c7 E27)
        (le_trans (mul-le-mul_right E24 (mul-le-mul_left (up c.c7) h)) (le_of_eq (mul_assoc (up c.c7) 1000 E24)))

    dn_rev : (n : ℕ) → dn (c.c7 *ℤ pos n *ℤ pos E24) ≡ 0
    dn_rev n = rw (scaled_dn (c.c7 *ℤ pos n) E24, scaled_dn c.c7 n, none) (ap (λ (t : ℕ). t * E24) (zero-mul n) ∙ zero-mul E24)
      where
        none : dn c.c7 ≡ 0
        none = omega (arith, f.c7_sign)

    by : (s : Style) → Between (c.c8 *ℤ pos E27) (c.c7 *ℤ pos E27) (f_flt c s z)
    by StrikeSlip = around (c.c8 *ℤ pos E27) (c.c7 *ℤ pos E27) lo_sign hi_sign
    by Reverse =
        record {
          low = omega (arith, lo_sign, dn_rev (f_flt_z z));
          high = omega (arith, hi_sign, dn_rev (f_flt_z z), up_rev (f_flt_z z) (f_flt_z-le z));
        }
    by Normal =
        record {
          low = le_refl (up (c.c8 *ℤ pos E27) + dn (c.c8 *ℤ pos E27));
          high = omega (arith, lo_sign, hi_sign);
        }

-- the shallowest basin, and the deepest
abbrev sed_low : Coefficients → ℤ
sed_low c = c.c11 *ℤ negsuc 999 *ℤ pos E24

abbrev sed_high : Coefficients → ℤ
sed_high c = shr_z (c.c12 *ℤ c.k3 *ℤ pos (390282 * E24)) 1000000

f_sed_between : (c : Coefficients) (z : ℕ) → Fair c → z ≤ 10000 → Between (sed_low c) (sed_high c) (f_sed c z)
unfolding f_sed
f_sed_between c z f h = first (ltb z 1000) refl
  where
    -- c11 times a number grows with it
    product :
        (a b : ℤ) → up a + dn b ≤ up b + dn a
        → up (c.c11 *ℤ a *ℤ pos E24) + dn (c.c11 *ℤ b *ℤ pos E24) ≤ up (c.c11 *ℤ b *ℤ pos E24) + dn (c.c11 *ℤ a *ℤ pos E24)
    product a b g =
        let none : dn c.c11 ≡ 0 = omega (arith, f.c11_sign) in
        rw (scaled_up (c.c11 *ℤ a) E24, scaled_dn (c.c11 *ℤ b) E24, scaled_up (c.c11 *ℤ b) E24, scaled_dn (c.c11 *ℤ a) E24)
        (omega (
          arith,
          mul-le-mul_right E24 (mul-up-order c.c11 a b none g),
          add-mul (up (c.c11 *ℤ a)) (dn (c.c11 *ℤ b)) E24,
          add-mul (up (c.c11 *ℤ b)) (dn (c.c11 *ℤ a)) E24,
        ))

    nothing : c.c11 *ℤ pos 0 *ℤ pos E24 ≡ pos 0
    nothing = ap (λ (t : ℤ). t *ℤ pos E24) (mul-nothing c.c11)

    low_sign : up (sed_low c) ≡ 0
    low_sign = by_sign (sed_low c) (λ k. omega (arith, k, below)) (λ k. k)
      where
        below : up (sed_low c) + 0 ≤ 0 + dn (sed_low c)
        below = subst (λ (t : ℤ). up (sed_low c) + dn t ≤ up t + dn (sed_low c)) nothing (product (negsuc 999) (pos 0) (lit≤ tt))

    inside : (n : ℕ) → n ≤ 390282 * E24 → n + 0 ≤ 390282 * E24 + 0
    inside n k = omega arith

    deeper : Between (pos 0) (sed_high c) (shr_z (c.c12 *ℤ c.k3 *ℤ pos (deep z)) 1000000)
    deeper =
        subst (λ (t : ℤ). Between t (sed_high c) (shr_z (c.c12 *ℤ c.k3 *ℤ pos (deep z)) 1000000))
        (share_nothing 1000000 (c.c12 *ℤ c.k3))
        (between_share 1000000 (c.c12 *ℤ c.k3) (omega (arith, f.basin_sign))
        (record { low = zero-le; high = inside (deep z) (deep-top z h) }))

    high_sign : dn (sed_high c) ≡ 0
    high_sign = by_sign (sed_high c) (λ k. k) (λ k. omega (arith, k, between_up deeper, deeper.high, deeper.low))

    shallower : z < 1000 → Between (sed_low c) (pos 0) (c.c11 *ℤ (pos z -ℤ pos 1000) *ℤ pos E24)
    shallower k =
        let s : ℤ = pos z -ℤ pos 1000 in
        record {
          low = product (negsuc 999) s (omega (arith, sub_is (pos z) (pos 1000)));
          high =
              subst (λ (t : ℤ). up (c.c11 *ℤ s *ℤ pos E24) + dn t ≤ up t + dn (c.c11 *ℤ s *ℤ pos E24)) nothing
              (product s (pos 0) (omega (arith, sub_is (pos z) (pos 1000))));
        }

    second :
        (t : Bool) → Between (sed_low c) (sed_high c) (elim t [ true ↦ pos 0 | false ↦ shr_z (c.c12 *ℤ c.k3 *ℤ pos (deep z)) 1000000 ])
    second true = around (sed_low c) (sed_high c) low_sign high_sign
    second false = between_below (sed_low c) low_sign deeper

    first :
        (t : Bool) → ltb z 1000 ≡ t
        → Between (sed_low c) (sed_high c)
        (elim t [
          | true ↦ c.c11 *ℤ (pos z -ℤ pos 1000) *ℤ pos E24
          | false ↦ elim (leb z 3000) [ true ↦ pos 0 | false ↦ shr_z (c.c12 *ℤ c.k3 *ℤ pos (deep z)) 1000000 ]
        ])
    first true e = between_above (sed_high c) high_sign (shallower (ltb-true z 1000 e))
    first false e = second (leb z 3000)

-- ---- the logarithm of RRUP² + c6², c6 at least n
-- at 200 km and the largest c6 it is below 10.6
abbrev pub far_end : ℤ
far_end = pos (10600 * E27)

farthest : up (ln_e ((200000 * 200000 + 9000 * 9000) * E24)) + 0 ≤ up far_end + dn (ln_e ((200000 * 200000 + 9000 * 9000) * E24))
unfolding ln_e
farthest = lit≤ tt

pub distance_between :
    (n c6 r : ℕ) (near : ℤ) → 0 < n → n ≤ c6 → c6 ≤ 9000 → r ≤ 200000
    → up near + dn (ln_e (n * n * E24)) ≤ up (ln_e (n * n * E24)) + dn near
    → Between near far_end (ln_e ((r * r + c6 * c6) * E24))
distance_between n c6 r near hn l h k e =
    between_wide near far_end e farthest
    (between_ln (n * n * E24) ((r * r + c6 * c6) * E24) ((200000 * 200000 + 9000 * 9000) * E24) (mul-pos (mul-pos hn hn) (lit≤ tt))
    (mul-le-mul_right E24 (omega (arith, mul-le-mul l l)))
    (mul-le-mul_right E24 (add-le-add (mul-le-mul k k) (mul-le-mul h h))))

-- ---- the sum, a site term handed over
abbrev pub low_end : Coefficients → ℕ → ℤ → ℤ
low_end c m s =
    f_mag c m +ℤ shr_z (slope c m *ℤ far_end) 200000 +ℤ c.c8 *ℤ pos E27 +ℤ times c.c9 (pos 0) +ℤ s +ℤ sed_low c

abbrev pub high_end : Coefficients → ℕ → ℤ → ℤ → ℤ
high_end c m near s =
    f_mag c m +ℤ shr_z (slope c m *ℤ near) 200000 +ℤ c.c7 *ℤ pos E27 +ℤ times c.c9 (pos E30) +ℤ s +ℤ sed_high c

pub sum_between :
    {near lo hi : ℤ} (c : Coefficients) (x : Scenario) (v a : ℕ) → Fair c → InRange x
    → Between near far_end (ln_e ((x.rrup * x.rrup + c.c6 * c.c6) * E24))
    → Between lo hi (f_site c v a)
    → Between (low_end c x.m lo) (high_end c x.m near hi) (ln_median_at c x v a)
unfolding ln_median_at
sum_between {near} {lo} {hi} c x v a f i d s =
    between_add
    (between_add
    (between_add
    (between_add (between_add (f_mag_between c x.m) (f_dis_between c x.m x.rrup near far_end f i.m_high d))
    (f_flt_between c x.style x.ztor f))
    (f_hng_between c x (omega (arith, f.c9_sign))))
    s)
    (f_sed_between c x.z25 f i.z25-high)
