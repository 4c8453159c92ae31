-- What is reported: within 2 m of the exact RRUP; never below the root of RJB² + ZTOR², and off the hanging wall the smallest such whole
-- metre; a metre less, never above the root of RJB² + (ZTOR + W)². On the hanging wall it is RRUP rounded up, which is within 0.371 m + 1 m,
-- held between the two roots rounded up. The first of these is at most a metre and 0.2 mm above the exact RRUP and is reported only where
-- it is the larger; the second is at most 0.2 mm below it and is reported only where it is the smaller:
--   RJB² = (RX - h)² + RY², (RX - h)² + ZTOR² ≤ R'² ≤ (RX - h)² + (ZTOR + W)² and RRUP² = R'² + RY²,
-- each but for twice the square of a tenth of a millimetre. Assumes nothing.
use Prim.Native.Nat.{ℕ, zero, suc, ◌+◌, ◌-◌, ◌*◌, ◌/◌, ◌≤◌, ◌<◌, min, max}
use mathlib.Core.Logic.{◌⊎◌, ⊎_elim}
use mathlib.Core.Path.{◌≡◌, refl, ap, subst}
use mathlib.Core.Bool.{Bool, true, false, not, cond, ◌&&◌}
use native.Mathlib.Omega.{arith}
use native.Mathlib.Decide.{dec_le}
use native.Mathlib.Nat.{le_trans, le_refl, mul-le-mul, mul-le-mul_right, div-le_of_le-mul, le-max_left, max-le, max-eq_left, max-eq_right, min-le_left, min-eq_left, min-eq_right}
use lib.Dec.{T, eqb, leb, ltb}
use lib.IntN.{ℤ, pos, nat_abs}
use lib.Signed.{lt_z, le_z}
use borrow.Author.Tests.{leb-true, leb-false, ltb-true}
use Rattle.exact.specs.Root.{root}
use Rattle.exact.specs.Exact.{E30}
use Rattle.exact.specs.Near.{NearZ, dn}
use Rattle.exact.proofs.Root.{root_is, side-lt}
use Rattle.exact.proofs.Signed.{by_sign, abs-parts, lt-parts, le_parts}
use Rattle.geometry.specs.Geometry.{r_prime, rrup, cos_size, rrup_e, hanging_wall_e, ceil_root, on_hanging_wall, rupture_distance_e, RuptureInRange}
use Rattle.geometry.specs.Fixed.{cos9, site_fixed, from_plan_fixed, hanging_wall_fixed, rupture_distance}
use Rattle.geometry.specs.declared.Place.{Place}
use Rattle.geometry.proofs.Lengths.{square_mono, side-le, triangle}
use Rattle.geometry.proofs.Scales.{Scale, Near, metres, width-near}
use Rattle.geometry.proofs.Angles.{Angle, WholeDegree, degrees, K26, scale30}
use Rattle.geometry.proofs.PlanNear.{Placed, plan-near, plan-square, plan-square-high}
use Rattle.geometry.proofs.Zones.{section_square, section_above}
use Rattle.geometry.proofs.SectionNear.{rrup-near, metres-up}

-- ---- no whole number whose square is at most RJB² + ZTOR² is more than a metre above RRUP
not_below : {S K k sd cd sd' cd' : ℕ} → Scale S K k → Angle S k sd cd sd' cd' → (w z x y rjb p : ℕ) → 1 ≤ w → w ≤ 100000 → z ≤ 15000
    → x ≤ 1000000 * S → rjb * S * (rjb * S) ≤ (x - w * cd) * (x - w * cd) + y * y + 2 * (K * K) → p * p ≤ rjb * rjb + z * z
    → p * S ≤ rrup S sd cd w z x y + S
unfolding rrup
not_below {S} {K} {k} {sd} {cd} scale d w z x y rjb p w_low w_le z_le x_le far hp =
    let r : ℕ = r_prime S sd cd w z x in
    let D : ℕ = root (r * r + y * y) in
    let long : p * S ≤ D + 1 + 2 * K =
    triangle (p * S) (D + 1) (2 * K)
    (omega (arith, mul-le-mul_right (S * S) hp, section_square scale d w z x w_low w_le z_le x_le, (root_is (r * r + y * y)).high)) in
    omega arith

-- ---- and none whose square is at least RJB² + (ZTOR + W)² is more than 0.2 mm below it
not_beyond : {S K k sd cd sd' cd' : ℕ} → Scale S K k → Angle S k sd cd sd' cd' → (w z x y rjb q : ℕ) → 1 ≤ w → w ≤ 100000 → z ≤ 15000
    → x ≤ 1000000 * S → (x - w * cd) * (x - w * cd) + y * y ≤ rjb * S * (rjb * S) + K * K → rjb * rjb + (z + w) * (z + w) ≤ q * q
    → rrup S sd cd w z x y ≤ q * S + 2 * K
unfolding rrup
not_beyond {S} {K} {k} {sd} {cd} scale d w z x y rjb q w_low w_le z_le x_le near hq =
    let r : ℕ = r_prime S sd cd w z x in
    triangle (root (r * r + y * y)) (q * S) (2 * K)
    (omega (arith, mul-le-mul_right (S * S) hq, section_above scale d w z x w_low w_le z_le x_le, (root_is (r * r + y * y)).low))

less_than_a_metre : {S K k : ℕ} → Scale S K k → (q : ℕ) → q * S + 2 * K ≤ q * S + S
less_than_a_metre scale q = omega arith

-- ---- RRUP of the program, for any RX and RY
pub from-plan-near : (dip w ztor : ℕ) (p : Place) (x y : ℕ) → WholeDegree dip → 1 ≤ w → w ≤ 100000 → ztor ≤ 15000
    → Placed K26 p.x p.y x y → Near E30 2 (from_plan_fixed dip w ztor p) (rrup_e dip w ztor x y)
unfolding from_plan_fixed rrup_e
from-plan-near dip w ztor p x y d w_low w_le z_le placed = metres-up _ scale30 (rrup-near scale30 d placed w ztor w_low w_le z_le)

-- ---- the hanging wall, by its azimuth
-- where the site lies, at both scales: h is W cos(dip)
record Site (h rjb : ℕ) (p : Place) (x y : ℕ) : Type 0 where
  placed : Placed K26 p.x p.y x y
  spans : rjb * E30 * (rjb * E30) ≤ (x - h) * (x - h) + y * y + 2 * (K26 * K26)
  spans_high : (x - h) * (x - h) + y * y ≤ rjb * E30 * (rjb * E30) + K26 * K26

-- at 90 degrees
site_90 : {S K k cd' cd : ℕ} → Scale S K k → (w rjb : ℕ) → w ≤ 100000 → rjb ≤ 200000 → cd' ≤ 1000000000 → Near k 2 cd' cd
    → Placed K (10000 * rjb + w * cd' / 100000) 0 (rjb * S + w * cd) 0
site_90 {K = K} {cd' = cd'} scale w rjb w_le rjb-le cd'-le n =
    let h : ℕ = w * cd' / 100000 in
    let h_near = width-near scale w w_le n in
    let h_le : h ≤ 1000000000 = div-le_of_le-mul 100000 (mul-le-mul w_le cd'-le) in
    record {
      x_near = record {
        low = omega (arith, metres scale rjb);
        high = omega (arith, metres scale rjb);
      };
      y_near = record { low = omega arith; high = omega arith };
      x'_le = omega arith;
      y'_le = omega arith;
    }

spans_90 : (R h m : ℕ) → R * R ≤ (R + h - h) * (R + h - h) + 0 * 0 + m
spans_90 R h m = let e : R ≡ R + h - h = omega arith in omega (arith, ap (λ (n : ℕ). n * n) e)

spans_90_high : (R h m : ℕ) → (R + h - h) * (R + h - h) + 0 * 0 ≤ R * R + m
spans_90_high R h m = let e : R ≡ R + h - h = omega arith in omega (arith, ap (λ (n : ℕ). n * n) e)

module _ (dip a w z rjb : ℕ) (ranges : RuptureInRange dip w z rjb) (dip-le : dip < 90) (a_low : 1 ≤ a) (a_high : a ≤ 179) where
  dip_degree : WholeDegree dip
  dip_degree = degrees dip (omega arith) (omega arith) (λ e. omega arith)

  by_azimuth : (P : ℕ → ℕ → Type 0)
      → ((p : Place) (x y : ℕ) → Site (w * cos_size dip) rjb p x y → P (from_plan_fixed dip w z p) (rrup_e dip w z x y))
      → P (hanging_wall_fixed dip a w z rjb) (hanging_wall_e dip a w z rjb)
  unfolding hanging_wall_fixed hanging_wall_e site_fixed
  by_azimuth P each = go (eqb a 90) refl
    where
      h'_le : w * cos9 dip / 100000 ≤ 1000000000
      h'_le = div-le_of_le-mul 100000 (mul-le-mul ranges.w_high dip_degree.c'_le)

      h_le : w * cos_size dip ≤ 100000 * E30
      h_le = mul-le-mul ranges.w_high dip_degree.c_le

      go : (t : Bool) → eqb a 90 ≡ t → P (hanging_wall_fixed dip a w z rjb) (hanging_wall_e dip a w z rjb)
      go true e =
          rw (e, hanging_wall_fixed, site_fixed, hanging_wall_e)
          (each _ _ _
          (record {
            placed = site_90 scale30 w rjb ranges.w_high ranges.rjb-high dip_degree.c'_le dip_degree.c_near;
            spans = spans_90 (rjb * E30) (w * cos_size dip) (2 * (K26 * K26));
            spans_high = spans_90_high (rjb * E30) (w * cos_size dip) (K26 * K26);
          }))
      go false e =
          let az : WholeDegree a = degrees a a_low a_high (λ n. differ (subst (λ (t : ℕ). eqb t 90 ≡ false) n e)) in
          rw (e, hanging_wall_fixed, site_fixed, hanging_wall_e)
          (each _ _ _
          (record {
            placed =
                plan-near
                (record {
                  scale = scale30;
                  angle = az;
                  h_near = width-near scale30 w ranges.w_high dip_degree.c_near;
                  h'_le = h'_le;
                  h_le = h_le;
                  rjb-le = ranges.rjb-high;
                });
            spans = plan-square scale30 az (w * cos_size dip) rjb h_le ranges.rjb-high;
            spans_high = plan-square-high scale30 az (w * cos_size dip) rjb h_le ranges.rjb-high;
          }))
        where
          differ : true ≡ false → ⊥
          differ n = subst T n tt

  hanging_near : Near E30 2 (hanging_wall_fixed dip a w z rjb) (hanging_wall_e dip a w z rjb)
  hanging_near =
      by_azimuth (λ m n. Near E30 2 m n)
      (λ p x y site. from-plan-near dip w z p x y dip_degree ranges.w_low ranges.w_high ranges.ztor-high site.placed)

  x_le : {S K k x' y' x y : ℕ} → Scale S K k → Placed K x' y' x y → x ≤ 1000000 * S
  x_le {K = K} scale p = omega (arith, mul-le-mul_right K p.x'_le)

  hanging_above : (p : ℕ) → p * p ≤ rjb * rjb + z * z → p * E30 ≤ hanging_wall_e dip a w z rjb + E30
  unfolding rrup_e
  hanging_above p hp =
      by_azimuth (λ m n. p * E30 ≤ n + E30)
      (λ q x y site.
      not_below scale30 dip_degree w z x y rjb p ranges.w_low ranges.w_high ranges.ztor-high (x_le scale30 site.placed) site.spans hp)

  hanging_below : (q : ℕ) → rjb * rjb + (z + w) * (z + w) ≤ q * q → hanging_wall_e dip a w z rjb ≤ q * E30 + 2 * K26
  unfolding rrup_e
  hanging_below q hq =
      by_azimuth (λ m n. n ≤ q * E30 + 2 * K26)
      (λ p x y site.
      not_beyond scale30 dip_degree w z x y rjb q ranges.w_low ranges.w_high ranges.ztor-high (x_le scale30 site.placed) site.spans_high hq)

-- ---- the smallest whole number whose square is not below n
pub ceil_above : (n : ℕ) → n ≤ ceil_root n * ceil_root n
unfolding ceil_root
ceil_above n = go (leb n (root n * root n)) refl
  where
    go : (t : Bool) → leb n (root n * root n) ≡ t → n ≤ cond t (root n) (root n + 1) * cond t (root n) (root n + 1)
    go true e = leb-true n (root n * root n) e
    go false e = omega (arith, (root_is n).high)

pub ceil_least : (n m : ℕ) → n ≤ m * m → ceil_root n ≤ m
unfolding ceil_root
ceil_least n m h = go (leb n (root n * root n)) refl
  where
    go : (t : Bool) → leb n (root n * root n) ≡ t → cond t (root n) (root n + 1) ≤ m
    go true e = side-le (root n) m (le_trans (root_is n).low h)
    go false e = omega (arith, side-lt (root n) m (omega (arith, leb-false n (root n * root n) e)))

-- one less is at most the root
ceil_before : (n : ℕ) → (ceil_root n - 1) * (ceil_root n - 1) ≤ n
ceil_before n = go (ceil_root n) refl
  where
    go : (m : ℕ) → ceil_root n ≡ m → (m - 1) * (m - 1) ≤ n
    go zero e = omega arith
    go (suc p) e = le_trans (square_mono (suc p - 1) p (omega arith)) (either (dec_le n (p * p)))
      where
        either : Dec (n ≤ p * p) → p * p ≤ n
        either (yes l) = absurd (omega (arith, ceil_least n p l))
        either (no l) = omega arith

-- ---- the larger and the smaller of two
larger-near : (S m n D : ℕ) → Near S 2 n D → (m - 1) * S ≤ D + S → Near S 2 (max m n) D
larger-near S m n D a b = either (dec_le m n)
  where
    one : (m : ℕ) → m ≤ m - 1 + 1
    one m = omega arith

    either : Dec (m ≤ n) → Near S 2 (max m n) D
    either (yes l) = rw (max-eq_right l) a
    either (no l) =
        let g : n ≤ m = omega arith in
        rw (max-eq_left g)
        (record { low = omega (arith, b, mul-le-mul_right S (one m)); high = omega (arith, mul-le-mul_right S g) })

smaller-near : (S m n D : ℕ) → Near S 2 n D → D ≤ m * S + S → Near S 2 (min m n) D
smaller-near S m n D a b = either (dec_le m n)
  where
    either : Dec (m ≤ n) → Near S 2 (min m n) D
    either (yes l) = rw (min-eq_left l) (record { low = omega (arith, a.low, mul-le-mul_right S l); high = omega arith })
    either (no l) = let g : n ≤ m = omega arith in rw (min-eq_right g) a

-- ---- the two sides of the test
signed : {M e a b : ℕ} → Near M e a b → NearZ M e (pos a) (pos b)
signed n = record { low = omega arith; high = omega arith }

both : (a b : Bool) → a && b ≡ true → (a ≡ true) × (b ≡ true)
both true b e = (refl, e)
both false b e = absurd (subst (λ (t : Bool). T (not t)) e tt)

-- what the test says of the dip and the azimuth
pub record HangingWall (dip : ℕ) (azimuth : ℤ) : Type 0 where
  pub dip-lt : dip < 90
  pub not_negative : dn azimuth ≡ 0
  pub a_low : 1 ≤ nat_abs azimuth
  pub a_high : nat_abs azimuth ≤ 179

pub hanging_wall : (dip : ℕ) (azimuth : ℤ) → on_hanging_wall dip azimuth ≡ true → HangingWall dip azimuth
unfolding on_hanging_wall
hanging_wall dip azimuth e =
    let d = both (ltb dip 90) (lt_z (pos 0) azimuth && lt_z azimuth (pos 180)) e in
    let a = both (lt_z (pos 0) azimuth) (lt_z azimuth (pos 180)) d.1 in
    let above = lt-parts (pos 0) azimuth a.0 in
    let below = lt-parts azimuth (pos 180) a.1 in
    by_sign azimuth
    (λ z.
    record {
      dip-lt = ltb-true dip 90 d.0;
      not_negative = z;
      a_low = omega (arith, abs-parts azimuth);
      a_high = omega (arith, abs-parts azimuth);
    })
    (λ z. absurd (omega arith))

-- the definitions by that test
pub distance_on : (dip : ℕ) (azimuth : ℤ) (w ztor rjb : ℕ) → on_hanging_wall dip azimuth ≡ true
    → (rupture_distance dip azimuth w ztor rjb
    ≡ max (ceil_root (rjb * rjb + ztor * ztor))
    (min (ceil_root (rjb * rjb + (ztor + w) * (ztor + w))) (hanging_wall_fixed dip (nat_abs azimuth) w ztor rjb)))
    × (rupture_distance_e dip azimuth w ztor rjb ≡ hanging_wall_e dip (nat_abs azimuth) w ztor rjb)
unfolding rupture_distance rupture_distance_e
distance_on dip azimuth w ztor rjb e = (rw (e, rupture_distance), rw (e, rupture_distance_e))

pub distance_off : (dip : ℕ) (azimuth : ℤ) (w ztor rjb : ℕ) → on_hanging_wall dip azimuth ≡ false
    → (rupture_distance dip azimuth w ztor rjb ≡ ceil_root (rjb * rjb + ztor * ztor))
    × (rupture_distance_e dip azimuth w ztor rjb ≡ ceil_root (rjb * rjb + ztor * ztor) * E30)
unfolding rupture_distance rupture_distance_e
distance_off dip azimuth w ztor rjb e = (rw (e, rupture_distance), rw (e, rupture_distance_e))

-- ---- the theorems
-- within 2 m of the exact value
pub reported_near : (dip : ℕ) (azimuth : ℤ) (w ztor rjb : ℕ) → RuptureInRange dip w ztor rjb
    → NearZ E30 2 (pos (rupture_distance dip azimuth w ztor rjb)) (pos (rupture_distance_e dip azimuth w ztor rjb))
reported_near dip azimuth w ztor rjb ranges = signed (go (on_hanging_wall dip azimuth) refl)
  where
    n : ℕ
    n = rjb * rjb + ztor * ztor

    most : ℕ
    most = ceil_root (rjb * rjb + (ztor + w) * (ztor + w))

    a : ℕ
    a = nat_abs azimuth

    same : (M m : ℕ) → Near M 2 m (m * M)
    same M m = record { low = omega arith; high = omega arith }

    go : (t : Bool) → on_hanging_wall dip azimuth ≡ t
        → Near E30 2 (rupture_distance dip azimuth w ztor rjb) (rupture_distance_e dip azimuth w ztor rjb)
    go true e =
        let o = hanging_wall dip azimuth e in
        let is = distance_on dip azimuth w ztor rjb e in
        rw (is.0, is.1)
        (larger-near E30 (ceil_root n) (min most (hanging_wall_fixed dip a w ztor rjb)) (hanging_wall_e dip a w ztor rjb)
        (smaller-near E30 most (hanging_wall_fixed dip a w ztor rjb) (hanging_wall_e dip a w ztor rjb)
        (hanging_near dip a w ztor rjb ranges o.dip-lt o.a_low o.a_high)
        (le_trans
        (hanging_below dip a w ztor rjb ranges o.dip-lt o.a_low o.a_high most (ceil_above (rjb * rjb + (ztor + w) * (ztor + w))))
        (less_than_a_metre scale30 most)))
        (hanging_above dip a w ztor rjb ranges o.dip-lt o.a_low o.a_high (ceil_root n - 1) (ceil_before n)))
    go false e = let is = distance_off dip azimuth w ztor rjb e in rw (is.0, is.1) (same E30 (ceil_root n))

-- never below the root of RJB² + ZTOR²
pub reported_above : (dip : ℕ) (azimuth : ℤ) (w ztor rjb : ℕ)
    → rjb * rjb + ztor * ztor ≤ rupture_distance dip azimuth w ztor rjb * rupture_distance dip azimuth w ztor rjb
reported_above dip azimuth w ztor rjb = le_trans (ceil_above n) (square_mono _ _ (go (on_hanging_wall dip azimuth) refl))
  where
    n : ℕ
    n = rjb * rjb + ztor * ztor

    go : (t : Bool) → on_hanging_wall dip azimuth ≡ t → ceil_root n ≤ rupture_distance dip azimuth w ztor rjb
    go true e = rw (distance_on dip azimuth w ztor rjb e).0 (le-max_left (ceil_root n) _)
    go false e = rw (distance_off dip azimuth w ztor rjb e).0 (le_refl (ceil_root n))

-- a metre less is never above the root of RJB² + (ZTOR + W)²
pub reported_below : (dip : ℕ) (azimuth : ℤ) (w ztor rjb : ℕ)
    → (rupture_distance dip azimuth w ztor rjb - 1) * (rupture_distance dip azimuth w ztor rjb - 1) ≤ rjb * rjb + (ztor + w) * (ztor + w)
reported_below dip azimuth w ztor rjb = le_trans (square_mono _ _ (less (go (on_hanging_wall dip azimuth) refl))) (ceil_before N)
  where
    N : ℕ
    N = rjb * rjb + (ztor + w) * (ztor + w)

    n : ℕ
    n = rjb * rjb + ztor * ztor

    less : {m b : ℕ} → m ≤ b → m - 1 ≤ b - 1
    less h = omega arith

    least-most : ceil_root n ≤ ceil_root N
    least-most = ceil_least n (ceil_root N) (le_trans (omega arith) (ceil_above N))

    go : (t : Bool) → on_hanging_wall dip azimuth ≡ t → rupture_distance dip azimuth w ztor rjb ≤ ceil_root N
    go true e = rw (distance_on dip azimuth w ztor rjb e).0 (max-le least-most (min-le_left (ceil_root N) _))
    go false e = rw (distance_off dip azimuth w ztor rjb e).0 least-most

-- at a vertical fault, in line with the top edge and on the footwall the smallest whole metre not below that root
pub reported_off : (dip : ℕ) (azimuth : ℤ) (w ztor rjb : ℕ)
    → (dip ≡ 90) ⊎ ((azimuth ≡ pos 180) ⊎ (le_z azimuth (pos 0) ≡ true))
    → (rupture_distance dip azimuth w ztor rjb ≡ ceil_root (rjb * rjb + ztor * ztor))
    × (rupture_distance_e dip azimuth w ztor rjb ≡ ceil_root (rjb * rjb + ztor * ztor) * E30)
reported_off dip azimuth w ztor rjb case = distance_off dip azimuth w ztor rjb (go (on_hanging_wall dip azimuth) refl)
  where
    go : (t : Bool) → on_hanging_wall dip azimuth ≡ t → on_hanging_wall dip azimuth ≡ false
    go false e = e
    go true e =
        let o = hanging_wall dip azimuth e in
        absurd
        (⊎_elim (λ h. omega arith)
        (⊎_elim (λ h. omega (arith, ap nat_abs h))
        (λ h. omega (arith, abs-parts azimuth, le_parts azimuth (pos 0) h))) case)
