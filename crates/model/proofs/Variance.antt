-- The variance under the root of the intra-event sigma within 287 units of 10^-9, and not below 0.09 but for some units of 10^-30. y
-- = alpha sigma_lnAB, sigma_lnAB being 0.3722 and held within one unit, is within 0.3722 · 367 + 2.671 and two roundings, 141 units,
-- and lies between -0.9942 and 0. k = 2 rho sigma_lnYB is within 4 units and at most 0.8, so y + k is within 145 and at most 0.9942
-- in size, and y (y + k) within 141 · 0.9942 + 145 · 0.9945 and two roundings, 286. The printed form, with each square and product
-- rounded apart, is some units of 10^-30 away, and so is sigma_lnYB² + 0.3² from s². As rho is at most 1, k |y| is at most twice
-- sigma_lnYB |y|, and so at most the two squares. Assumes nothing.
use Prim.Native.Nat.{ℕ, ◌+◌, ◌*◌, ◌/◌, ◌≤◌, ◌<◌, ◌-◌, zero-le}
use mathlib.Core.Path.{◌≡◌, refl, subst, ◌∙◌, sym, ap}
use native.Mathlib.Omega.{arith}
use native.Mathlib.Nat.{le_refl, le_trans, mul_assoc, mul_comm, mul-add, add-mul, le-add_right, le_of_eq, mul-le-mul_right, le_of_mul-le-mul_left, div-le_of_le-mul, le_of_mul-le-mul_right, lt-div-mul-add, mul-le-mul, zero-mul, mul-zero, mul-le-mul_left, mul_left_comm}
use lib.Dec.{lit≤}
use lib.IntN.{ℤ, pos, negsuc, nat_abs, ◌+ℤ◌, ◌*ℤ◌}
use lib.Signed.{shr_z}
use Rattle.exact.specs.Near.{up, dn, NearZ, Within}
use Rattle.exact.specs.Exact.{E30, mul_e, root_e}
use Rattle.exact.specs.Root.{root, IsRoot}
use Rattle.fixed.specs.Fixed.{E9, K21, mul_div}
use Rattle.tables.specs.declared.Deviations.{Deviations}
use Rattle.tables.specs.Tables.{PGA, table3, deviations_at}
use Rattle.model.specs.Fixed.{at_base_fixed, cross_fixed, intra_variance_fixed}
use Rattle.model.specs.Equations.{at_base, times, E24, intra_variance}
use Rattle.model.specs.FineNear.{Between}
use Rattle.model.proofs.Between.{between_wide, near_between, share_nothing, between_dn, between_share, between_up}
use Rattle.model.proofs.Fair.{Spread}
use Rattle.model.proofs.Alpha.{alpha_low}
use Rattle.exact.proofs.NearLaws.{near_wide, near_within}
use Rattle.exact.proofs.Signed.{abs-parts, by_sign, add_parts, *ℤ-+ℤ, mul-up, mul-dn, mul-abs-le, scaled_up, scaled_dn}
use Rattle.model.proofs.NearSums.{near-back, share_err, near_share, near_prod, near_add, near_exact}
use Rattle.fixed.proofs.SignedLaws.{mul_div-whole}
use Rattle.exact.proofs.Rounding.{mul_e-whole, floor_whole}
use Rattle.model.proofs.WallNear.{root-cut, squares}
use Rattle.exact.proofs.Root.{root_is, square-one, side-lt, square_two}
use Rattle.model.proofs.Quotients.{near_pos, pos_high}
use Rattle.exact.proofs.Quotients.{div-le}

-- ---- sigma at the base of the profile: the same root at two scales
at_base-near : (s : ℕ) → NearZ K21 1 (pos (at_base_fixed s)) (pos (at_base s))
unfolding at_base_fixed at_base root_e
at_base-near s =
    let n : ℕ = (s * s - 300 * 300) * 1000000000000 in
    let same : n * (K21 * K21) ≡ (s * s - 300 * 300) * E24 * E30 =
    mul_assoc (s * s - 300 * 300) 1000000000000 (K21 * K21) ∙ sym (mul_assoc (s * s - 300 * 300) E24 E30) in
    let X : ℕ = root ((s * s - 300 * 300) * E24 * E30) in
    let cut = root-cut n K21 (root n) X (root_is n) (subst (λ (t : ℕ). IsRoot t X) (sym same) (root_is _)) (lit≤ tt) in
    near_pos (root n) X (le_trans cut.0 (le-add_right X (1 * K21))) (le_trans cut.1 (le_of_eq (add-mul (root n) 1 K21)))

-- sigma_lnAB
pub rock_sigma_le : at_base_fixed (deviations_at PGA).s ≤ 372134384
unfolding at_base_fixed deviations_at table3
rock_sigma_le = lit≤ tt

-- k
abbrev cross : Deviations → ℤ
cross d = times (pos (2 * d.rho)) (pos (at_base d.s))

cross-near : (d : Deviations) → Spread d → NearZ K21 4 (pos (cross_fixed d)) (cross d)
unfolding cross_fixed times mul_div
cross-near d p =
    near_wide K21 (share_err 1000 (pos (2 * d.rho)) 1) 4 _ _ (room d.rho p.rho_high)
    (near_share 1000 (pos (2 * d.rho)) (lit≤ tt) (lit≤ tt) (at_base-near d.s))
  where
    room : (r : ℕ) → r ≤ 1000 → (2 * r * 1 + 2 * 1000) / 1000 ≤ 4
    room r h = omega arith

cross-high : (d : Deviations) → Spread d → up (cross d) ≤ 800000004 * K21
unfolding times
cross-high d p =
    go (cross_fixed d) (2 * d.rho * at_base d.s / 1000) K21 p.cross-high (pos_high (cross-near d p))
  where
    go : (k n K : ℕ) → k ≤ 800000000 → n ≤ k * K + 4 * K → n ≤ 800000004 * K
    go k n K h l = omega (arith, mul-le-mul_right K h)

-- ---- rounding apart
-- the sum of two numbers rounded down apart is within 3 of their sum rounded down
floors : (D : ℕ) (a b : ℤ) → 0 < D → Within 3 (shr_z (a +ℤ b) D) (shr_z a D +ℤ shr_z b D)
floors D a b hD =
    let s : ℤ = shr_z (a +ℤ b) D in
    let p : ℤ = shr_z a D in
    let q : ℤ = shr_z b D in
    let ws = floor_whole D (a +ℤ b) hD in
    let wp = floor_whole D a hD in
    let wq = floor_whole D b hD in
    let sum = spread (up (p +ℤ q)) (dn p) (dn q) (dn (p +ℤ q)) (up p) (up q) (add_parts p q) in
    record {
      low = cancel (up s) (dn (p +ℤ q)) (up (p +ℤ q)) (dn s) (omega (arith, ws.low, wp.high, wq.high, sum, add_parts a b));
      high = cancel (up (p +ℤ q)) (dn s) (up s) (dn (p +ℤ q)) (omega (arith, ws.high, wp.low, wq.low, sum, add_parts a b));
    }
  where
    spread : (u a b d x y : ℕ) → u + (a + b) ≡ d + (x + y) → D * u + (D * a + D * b) ≡ D * d + (D * x + D * y)
    spread u a b d x y e =
        omega (arith, ap (λ (t : ℕ). D * t) e, mul-add D u (a + b), mul-add D a b, mul-add D d (x + y), mul-add D x y)

    cancel : (w x y z : ℕ) → D * w + D * x ≤ D * y + D * z + 3 * D → w + x ≤ y + z + 3
    cancel w x y z h =
        le_of_mul-le-mul_left (omega (arith, h, mul-add D w x, mul-add D (y + z) 3, mul-add D y z, mul_comm D 3)) hD

-- the square of a root is the number, or up to 5 units less
pub square-root : (n : ℕ) → n ≤ 4 * E30 → (root_e n * root_e n / E30 ≤ n) × (n ≤ root_e n * root_e n / E30 + 5)
unfolding root_e
square-root n h = go E30 (root (n * E30)) (lit≤ tt) h (root_is (n * E30)).low (root_is (n * E30)).high
  where
    go : (E r : ℕ) → 0 < E → n ≤ 4 * E → r * r ≤ n * E → n * E < (r + 1) * (r + 1) → (r * r / E ≤ n) × (n ≤ r * r / E + 5)
    go E r hE k l m =
        let r_lt : r < 2 * E + 1 =
        side-lt r (2 * E + 1) (omega (arith, l, mul-le-mul_right E k, square-one (2 * E), square_two E, mul_assoc 4 E E)) in (
          div-le_of_le-mul E (le_trans l (le_of_eq (mul_comm n E))),
          le_of_mul-le-mul_right (top (r * r / E) (lt-div-mul-add {a = r * r} {b = E} hE) r_lt) hE,
        )
      where
        top : (q : ℕ) → r * r < q * E + E → r < 2 * E + 1 → n * E ≤ (q + 5) * E
        top q g c = omega (arith, m, g, c, square-one r, add-mul q 5 E)

-- sigma_lnYB²
abbrev base_square : Deviations → ℤ
base_square d = mul_e (pos (at_base d.s)) (pos (at_base d.s))

-- and 0.3² are s², but for 5 units
base_square_lem :
    (d : Deviations) → Spread d
    → (up (base_square d) + 90000 * E24 ≤ d.s * d.s * E24 + dn (base_square d))
    × (d.s * d.s * E24 + dn (base_square d) ≤ up (base_square d) + 90000 * E24 + 5)
unfolding mul_e at_base
base_square_lem d p =
    let n : ℕ = (d.s * d.s - 300 * 300) * E24 in
    let q = square-root n (le_trans (mul-le-mul_right E24 (small d.s p.s_high)) (lit≤ tt)) in
    let whole : d.s * d.s * E24 ≡ n + 90000 * E24 = rest (d.s * d.s) (mul-le-mul p.s_low p.s_low) in
    parts (root_e n * root_e n / E30) n (d.s * d.s * E24) (90000 * E24) q.0 q.1 whole
  where
    small : (s : ℕ) → s ≤ 700 → s * s - 300 * 300 ≤ 490000
    small s h = omega (arith, mul-le-mul h h)

    parts : (a n t m : ℕ) → a ≤ n → n ≤ a + 5 → t ≡ n + m → (a + m ≤ t + 0) × (t + 0 ≤ a + m + 5)
    parts a n t m l h e = (omega arith, omega arith)

    rest : (t : ℕ) → 300 * 300 ≤ t → t * E24 ≡ (t - 300 * 300) * E24 + 90000 * E24
    rest t h = omega arith

-- ---- y
abbrev y_low : ℤ
y_low = negsuc 994199999999999999999999999999

-- sigma_lnAB
abbrev rock_base : ℤ
rock_base = pos (at_base (deviations_at PGA).s)

y_low_lem : up y_low + dn (shr_z (rock_base *ℤ alpha_low) E30) ≤ up (shr_z (rock_base *ℤ alpha_low) E30) + dn y_low
unfolding at_base deviations_at table3
y_low_lem = lit≤ tt

module _ (a b : ℤ) (n : NearZ K21 367 a b) (w : Between alpha_low (pos 0) b) where
  y_f : ℤ
  y_f = mul_div (pos (at_base_fixed (deviations_at PGA).s)) a (pos E9)

  y_e : ℤ
  y_e = mul_e rock_base b

  y_between : Between y_low (pos 0) y_e
  unfolding y_e mul_e
  y_between =
      between_wide y_low (pos 0) y_low_lem (le_refl 0)
      (subst
      (λ (t : ℤ). Between (shr_z (rock_base *ℤ alpha_low) E30) t (shr_z (rock_base *ℤ b) E30))
      (share_nothing E30 rock_base)
      (between_share E30 rock_base refl w))

  alpha-size : nat_abs b ≤ 2671000000 * K21
  alpha-size = omega (arith, abs-parts b, between_dn w, between_up w)

  y_near : NearZ K21 141 y_f y_e
  unfolding y_f y_e
  y_near =
      near-back E9 141 (lit≤ tt) (lit≤ tt) (lit≤ tt) (lit≤ tt)
      (mul_div-whole (pos (at_base_fixed (deviations_at PGA).s)) a E9 (lit≤ tt))
      (mul_e-whole rock_base b)
      (near_prod 372134384 2671000000 rock_sigma_le alpha-size (at_base-near (deviations_at PGA).s) n)

  y_size : nat_abs y_f ≤ 994200141
  y_size =
      let s = near_between 994200000 0 (lit≤ tt) (lit≤ tt) (lit≤ tt) y_between y_near in
      by_sign y_f (λ z. omega (arith, abs-parts y_f, s.0, s.1)) (λ z. omega (arith, abs-parts y_f, s.0, s.1))

  -- ---- the variance
  module _ (d : Deviations) (p : Spread d) where
    sum_near : NearZ K21 145 (y_f +ℤ pos (cross_fixed d)) (y_e +ℤ cross d)
    sum_near = near_add y_near (cross-near d p)

    sum-size : nat_abs (y_e +ℤ cross d) ≤ 994200000 * K21
    unfolding times
    sum-size =
        by_sign (y_e +ℤ cross d)
        (λ z. omega
        (arith, z, abs-parts (y_e +ℤ cross d), add_parts y_e (cross d), between_up y_between, between_dn y_between, cross-high d p))
        (λ z. omega
        (arith, z, abs-parts (y_e +ℤ cross d), add_parts y_e (cross d), between_up y_between, between_dn y_between, cross-high d p))

    product-near : NearZ K21 286 (mul_div y_f (y_f +ℤ pos (cross_fixed d)) (pos E9)) (shr_z (y_e *ℤ (y_e +ℤ cross d)) E30)
    product-near =
        near-back E9 286 (lit≤ tt) (lit≤ tt) (lit≤ tt) (lit≤ tt) (mul_div-whole y_f (y_f +ℤ pos (cross_fixed d)) E9 (lit≤ tt))
        (floor_whole E30 (y_e *ℤ (y_e +ℤ cross d)) (lit≤ tt))
        (near_prod 994200141 994200000 y_size sum-size y_near sum_near)

    -- as printed: each square and product rounded apart
    printed-near : Within 8 (pos (d.s * d.s * E24) +ℤ shr_z (y_e *ℤ (y_e +ℤ cross d)) E30) (intra_variance d b)
    unfolding intra_variance mul_e y_e
    printed-near =
        let B : ℤ = pos (at_base d.s) in
        let z : ℤ = shr_z (y_e *ℤ (y_e +ℤ cross d)) E30 in
        let sq : ℤ = mul_e B B in
        let both : Within 3 z (mul_e y_e y_e +ℤ mul_e y_e (cross d)) =
        subst (λ (t : ℤ). Within 3 (shr_z t E30) (mul_e y_e y_e +ℤ mul_e y_e (cross d))) (sym (*ℤ-+ℤ y_e y_e (cross d)))
        (floors E30 (y_e *ℤ y_e) (y_e *ℤ cross d) (lit≤ tt)) in
        fin (d.s * d.s * E24) z sq (mul_e y_e y_e) (mul_e y_e (cross d)) (base_square_lem d p).0 (base_square_lem d p).1 both
      where
        fin :
            (n : ℕ) (z sq u v : ℤ) → up sq + 90000 * E24 ≤ n + dn sq → n + dn sq ≤ up sq + 90000 * E24 + 5 → Within 3 z (u +ℤ v)
            → Within 8 (pos n +ℤ z) (sq +ℤ pos (90000 * E24) +ℤ u +ℤ v)
        fin n z sq u v l h w =
            record {
              low =
                  omega (
                    arith,
                    w.low,
                    add_parts (pos n) z,
                    add_parts u v,
                    add_parts sq (pos (90000 * E24)),
                    add_parts (sq +ℤ pos (90000 * E24)) u,
                    add_parts (sq +ℤ pos (90000 * E24) +ℤ u) v,
                  );
              high =
                  omega (
                    arith,
                    w.high,
                    add_parts (pos n) z,
                    add_parts u v,
                    add_parts sq (pos (90000 * E24)),
                    add_parts (sq +ℤ pos (90000 * E24)) u,
                    add_parts (sq +ℤ pos (90000 * E24) +ℤ u) v,
                  );
            }

    pub variance_near : NearZ K21 287 (intra_variance_fixed d a) (intra_variance d b)
    unfolding intra_variance_fixed y_f
    variance_near =
        near_within K21 286 1 _ (pos (d.s * d.s * E24) +ℤ shr_z (y_e *ℤ (y_e +ℤ cross d)) E30) (intra_variance d b)
        (near_add (near_exact K21 1000 (pos (d.s * d.s))) product-near)
        (record { low = omega (arith, printed-near.low); high = omega (arith, printed-near.high) })

    -- ---- it is not below 0.09, but for 3 units of 10^-30
    pub variance_low : 90000 * E24 + dn (intra_variance d b) ≤ up (intra_variance d b) + 3
    unfolding intra_variance y_e times
    variance_low =
        let B : ℕ = at_base d.s in
        let k : ℕ = 2 * d.rho * B / 1000 in
        let k_le : k ≤ 2 * B = div-le_of_le-mul 1000 (rho_le d.rho B p.rho_high) in
        let m : ℕ = dn y_e in
        let none : up y_e ≡ 0 = omega (arith, between_up y_between) in
        let w1 = mul_e-whole (pos B) (pos B) in
        let w2 = mul_e-whole y_e y_e in
        let w3 = mul_e-whole y_e (pos k) in
        fin E30 B k m (mul_e (pos B) (pos B)) (mul_e y_e y_e) (mul_e y_e (pos k)) (y_e *ℤ y_e) (y_e *ℤ pos k) (lit≤ tt) k_le
        (square-up y_e none) (square-dn y_e none) (scaled_up y_e k ∙ ap (λ (t : ℕ). t * k) none ∙ zero-mul k) (scaled_dn y_e k)
        w1.high w2.high w3.high
      where
        rho_le : (r B : ℕ) → r ≤ 1000 → 2 * r * B ≤ 1000 * (2 * B)
        rho_le r B h = omega (arith, mul_assoc 2 r B, mul-le-mul_right B h)

        square-up : (y : ℤ) → up y ≡ 0 → up (y *ℤ y) ≡ dn y * dn y
        square-up y z = omega (arith, mul-up y y, ap (λ (t : ℕ). t * up y) z, zero-mul (up y))

        square-dn : (y : ℤ) → up y ≡ 0 → dn (y *ℤ y) ≡ 0
        square-dn y z =
            omega (arith, mul-dn y y, ap (λ (t : ℕ). t * dn y) z, ap (λ (t : ℕ). dn y * t) z, zero-mul (dn y), mul-zero (dn y))

        fin :
            (E B k m : ℕ) (sq u v yy yk : ℤ) → 0 < E → k ≤ 2 * B → up yy ≡ m * m → dn yy ≡ 0 → up yk ≡ 0 → dn yk ≡ m * k
            → B * B + E * dn sq ≤ E * up sq + 0 + E
            → up yy + E * dn u ≤ E * up u + dn yy + E
            → up yk + E * dn v ≤ E * up v + dn yk + E
            → 90000 * E24 + dn (sq +ℤ pos (90000 * E24) +ℤ u +ℤ v) ≤ up (sq +ℤ pos (90000 * E24) +ℤ u +ℤ v) + 3
        fin E B k m sq u v yy yk hE hk e1 e2 e3 e4 w1 w2 w3 =
            let less : dn sq + dn u + dn v ≤ up sq + up u + up v + 3 =
            le_of_mul-le-mul_left
            (omega (
              arith,
              w1,
              w2,
              w3,
              e1,
              e2,
              e3,
              e4,
              mul-le-mul_left m hk,
              mul_left_comm m 2 B,
              squares m B,
              mul-add E (dn sq + dn u) (dn v),
              mul-add E (dn sq) (dn u),
              mul-add E (up sq + up u + up v) 3,
              mul-add E (up sq + up u) (up v),
              mul-add E (up sq) (up u),
            ))
            hE in
            omega (
              arith,
              less,
              add_parts sq (pos (90000 * E24)),
              add_parts (sq +ℤ pos (90000 * E24)) u,
              add_parts (sq +ℤ pos (90000 * E24) +ℤ u) v,
            )

    -- ---- and not above 2
    pub variance_high : up (intra_variance d b) ≤ 2 * E30
    variance_high =
        let z : ℤ = shr_z (y_e *ℤ (y_e +ℤ cross d)) E30 in
        let size : nat_abs (y_e *ℤ (y_e +ℤ cross d)) ≤ 994200000 * K21 * (994200000 * K21) =
        mul-abs-le y_e (y_e +ℤ cross d) y_exact_size sum-size in
        let z_le : up z ≤ E30 = le_trans (floor_up (y_e *ℤ (y_e +ℤ cross d)) E30) (le_trans (div-le E30 size) (lit≤ tt)) in
        let s_le : d.s * d.s * E24 ≤ 490000 * E24 = mul-le-mul_right E24 (mul-le-mul p.s_high p.s_high) in
        by_sign (intra_variance d b)
        (λ k. omega (arith, k, z_le, s_le, printed-near.high, add_parts (pos (d.s * d.s * E24)) z))
        (λ k. le_trans (le_of_eq k) (lit≤ tt))
      where
        y_exact_size : nat_abs y_e ≤ 994200000 * K21
        y_exact_size = omega (arith, abs-parts y_e, between_dn y_between, between_up y_between)

        floor_up : (t : ℤ) (D : ℕ) → up (shr_z t D) ≤ nat_abs t / D
        floor_up (pos n) D = le_refl (n / D)
        floor_up (negsuc n) D = zero-le
