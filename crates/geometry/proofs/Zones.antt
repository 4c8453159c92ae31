-- Equations 15 to 17 by their zones, and R' without a case. Write s and c for the sine and the cosine of the dip and Z for ZTOR. Turned
-- by the dip, the site lies v = RX s + Z c from the plane of the rupture, and RX c - Z s below the upper edge along it; so e, what it
-- lies above the upper or beyond the lower edge, is (Z s - RX c) + (RX c - Z s - W), each difference stopping at 0. In every zone
--   R'² = v² + e²                                                                                   (section)
--   (RX - h)² + Z² ≤ R'², RX - h stopping at 0                                                      (section-square)
--   R'² ≤ (RX - h)² + (Z + W)²                                                                      (section-above)
-- Zone A: v² + e² = RX² + Z², a turn. Zone B: e = 0, and with d = RX c - Z s, 0 ≤ d ≤ W, the turn says v² = RX² + Z² - d²; where h ≤ RX
-- both d² and h² are at most RX h. Zone C: the turn of (RX - h, Z + W s). From above: in zone A, RX h = W RX c ≤ W Z; in zone B, v is a side of
-- that turn where h ≤ RX, and at most Z + W elsewhere. The roundings cost less than the square of a tenth of a millimetre. A and B below are
-- S v and S e. Assumes nothing.
use Prim.Native.Nat.{ℕ, ◌+◌, ◌-◌, ◌*◌, ◌/◌, ◌≤◌, ◌<◌}
use mathlib.Core.Path.{◌≡◌, refl, ap, ◌∙◌}
use native.Mathlib.Omega.{arith}
use native.Mathlib.Decide.{dec_le}
use native.Mathlib.Nat.{le_trans, le_of_eq, add-mul, mul-add, mul_comm, mul_assoc, mul_left_comm, mul_right_comm, mul-mul-mul_comm, mul-le-mul, mul-le-mul_left, mul-le-mul_right, div-mul-le_self, mul-pos}
use borrow.Author.Tests.{le-leb, lt-leb, lt-ltb, le-ltb}
use Rattle.exact.specs.Root.{IsRoot}
use Rattle.exact.proofs.Root.{root_is}
use Rattle.geometry.specs.Geometry.{first16, last16, r_prime}
use Rattle.exact.proofs.Quotients.{cancel, over_quot}
use Rattle.geometry.proofs.Lengths.{square-sum, square-mul, square_mono, triangle, gap, gap-square, turn}
use Rattle.geometry.proofs.Scales.{Scale, S_pos, speck}
use Rattle.geometry.proofs.Angles.{Angle}
use Rattle.geometry.proofs.Corner.{ca_pos, eq7}

abbrev pub off_plane : ℕ → ℕ → ℕ → ℕ → ℕ
off_plane sd cd Z x = x * sd + Z * cd

abbrev pub off_edges : ℕ → ℕ → ℕ → ℕ → ℕ → ℕ
off_edges sd cd W Z x = Z * sd - x * cd + (x * cd - Z * sd - W)

-- r is the length of A and B over S, but for U over S
pub record Section (S U A B r : ℕ) : Type 0 where
  pub low : r * S * (r * S) ≤ A * A + B * B + U * U
  pub high : A * A + B * B ≤ r * S * (r * S) + U * U

-- equation 16 holds at its last RX: at 45 degrees and in tenths of a metre, W and ZTOR 1 m, that is 2.4 m; 17 would give 2.4 there
end_included : r_prime 10 7 7 1 1 24 ≡ 23
unfolding r_prime
end_included = refl

module _ {S K k sd cd sd' cd' : ℕ} (scale : Scale S K k) (d : Angle S k sd cd sd' cd') where
  -- a few exact units of area for each unit of length, times S², are less than U²
  cube : 1000000000000000 * (S * (S * S)) ≤ K * S * (K * S)
  cube =
      omega (arith, mul-le-mul_right (S * S) (speck scale))

  -- the turn of a vector and the root of its square
  turned : (X Y r : ℕ) → X ≤ 1000000 * S → Y ≤ 1000000 * S → IsRoot (X * X + Y * Y) r
      → (r * S * (r * S) ≤ (X * sd + Y * cd) * (X * sd + Y * cd) + gap (X * cd) (Y * sd) * gap (X * cd) (Y * sd) + 20000000000000 * (S * (S * S)))
      × ((X * sd + Y * cd) * (X * sd + Y * cd) + gap (X * cd) (Y * sd) * gap (X * cd) (Y * sd) ≤ r * S * (r * S) + 30000000000000 * (S * (S * S)))
  turned X Y r h_x hY i =
      let n : ℕ = X * X + Y * Y in
      let n_le : n ≤ 2000000000000 * (S * S) =
      omega (arith, mul-le-mul h_x h_x, mul-le-mul hY hY) in
      let r_le : r ≤ 2000000 * S = omega (arith, triangle r X Y i.low) in
      let n_cube : n * S ≤ 2000000000000 * (S * (S * S)) =
      le_trans (mul-le-mul_right S n_le) (le_of_eq (mul_assoc 2000000000000 (S * S) S ∙ ap (λ (t : ℕ). 2000000000000 * t) (mul_comm (S * S) S))) in
      let r_cube : r * (S * S) ≤ 2000000 * (S * (S * S)) =
      le_trans (mul-le-mul_right (S * S) r_le) (le_of_eq (mul_assoc 2000000 S (S * S))) in (
        omega (arith, turn X Y sd cd, mul-le-mul_right (S * S) i.low, mul-le-mul_left n d.one-low),
        omega (arith, turn X Y sd cd, mul-le-mul_right (S * S) (below i.high), mul-le-mul_left n d.one-high),
      )
    where
      below : {n : ℕ} → n < (r + 1) * (r + 1) → n ≤ r * r + 2 * r
      below h = omega arith

  -- a side that is off by m
  off_square : (m B D : ℕ) → m ≤ 1000000 * S → B ≤ 2000000 * (S * S) → D ≤ B + m → D * D ≤ B * B + 5000000000000 * (S * (S * S))
  off_square m B D hm h_b h =
      let cross : B * m ≤ 2000000000000 * (S * (S * S)) =
      le_trans (mul-le-mul h_b hm)
      (le_of_eq (mul-mul-mul_comm 2000000 (S * S) 1000000 S ∙ ap (λ (t : ℕ). 2000000000000 * t) (mul_comm (S * S) S))) in
      let own : m * m ≤ 1000000000000 * (S * (S * S)) =
      le_trans (mul-le-mul hm hm)
      (le_trans (le_of_eq (mul-mul-mul_comm 1000000 S 1000000 S)) (mul-le-mul_left 1000000000000 one)) in
      omega (arith, square_mono D (B + m) h)
    where
      one : S * S ≤ S * (S * S)
      one = omega (arith, mul-le-mul_right (S * S) (S_pos scale))

  module _ (w z x : ℕ) (w_low : 1 ≤ w) (w_le : w ≤ 100000) (z_le : z ≤ 15000) (x_le : x ≤ 1000000 * S) where
    -- what holds of R' in each zone
    pub by_zone : (P : ℕ → Type 0)
        → ((r : ℕ) → x * cd ≤ z * S * sd → IsRoot (x * x + z * S * (z * S)) r → P r)
        → ((r : ℕ) → z * S * sd ≤ x * cd + z * cd → x * cd ≤ z * S * sd + w * (S * S) → r * S ≤ off_plane sd cd (z * S) x
        → off_plane sd cd (z * S) x ≤ (r + 1) * S → P r)
        → ((r : ℕ) → z * S * sd + w * (S * S) ≤ x * cd + z * cd
        → IsRoot ((x - w * cd) * (x - w * cd) + (z * S + w * sd) * (z * S + w * sd)) r → P r)
        → P (r_prime S sd cd w z x)
    unfolding r_prime
    by_zone P zone_a zone_b zone_c = either (dec_le first x) (dec_le x last)
      where
        first : ℕ
        first = first16 S sd cd z

        last : ℕ
        last = last16 S sd cd w z

        first-low : first * cd ≤ z * S * sd
        first-low = (eq7 scale d z).low

        first-high : z * S * sd ≤ first * cd + z * cd
        first-high = le_trans (eq7 scale d z).high (le_of_eq (add-mul first z cd))

        last-low : last * cd ≤ z * S * sd + w * (S * S)
        last-low =
            omega (arith, first-low, div-mul-le_self (w * S * S) cd)

        last-high : z * S * sd + w * (S * S) ≤ (last + 1) * cd + z * cd
        last-high =
            omega (arith, first-high, over_quot (w * S * S) cd (ca_pos scale d))

        r : ℕ
        r = x * sd / S + z * cd

        r_low : r * S ≤ off_plane sd cd (z * S) x
        r_low = omega (arith, div-mul-le_self (x * sd) S)

        r_high : off_plane sd cd (z * S) x ≤ (r + 1) * S
        r_high =
            omega (arith, over_quot (x * sd) S (S_pos scale))

        either : Dec (first ≤ x) → Dec (x ≤ last) → P (r_prime S sd cd w z x)
        either (no l) m =
            rw (lt-ltb x first (omega arith), r_prime) (zone_a _ (le_trans (mul-le-mul_right cd (omega arith)) first-low) (root_is _))
        either (yes l) (yes m) =
            rw (le-ltb x first l, r_prime, le-leb x last m)
            (zone_b r (omega (arith, first-high, mul-le-mul_right cd l)) (le_trans (mul-le-mul_right cd m) last-low) r_low r_high)
        either (yes l) (no m) =
            let far : last + 1 ≤ x = omega arith in
            rw (le-ltb x first l, r_prime, lt-leb x last (omega arith))
            (zone_c _ (omega (arith, last-high, mul-le-mul_right cd far)) (root_is _))

    -- R'² is v² + e²
    pub section : Section S (K * S) (off_plane sd cd (z * S) x) (off_edges sd cd (w * (S * S)) (z * S) x) (r_prime S sd cd w z x)
    section = by_zone Goal zone_a zone_b zone_c
      where
        Goal : ℕ → Type 0
        Goal r = Section S (K * S) (off_plane sd cd (z * S) x) (off_edges sd cd (w * (S * S)) (z * S) x) r

        Z-le : z * S ≤ 15000 * S
        Z-le = mul-le-mul_right S z_le

        sd_pos : 0 < sd
        sd_pos = omega arith

        zone_a : (r : ℕ) → x * cd ≤ z * S * sd → IsRoot (x * x + z * S * (z * S)) r → Goal r
        zone_a r l i =
            let t = turned x (z * S) r x_le (omega (arith, Z-le)) i in
            let e : gap (x * cd) (z * S * sd) ≡ off_edges sd cd (w * (S * S)) (z * S) x = omega arith in
            record { low = omega (arith, ap (λ (n : ℕ). n * n) e, cube); high = omega (arith, ap (λ (n : ℕ). n * n) e, cube) }

        zone_b : (r : ℕ) → z * S * sd ≤ x * cd + z * cd → x * cd ≤ z * S * sd + w * (S * S) → r * S ≤ off_plane sd cd (z * S) x
            → off_plane sd cd (z * S) x ≤ (r + 1) * S → Goal r
        zone_b r l m low high =
            let A : ℕ = off_plane sd cd (z * S) x in
            let B : ℕ = off_edges sd cd (w * (S * S)) (z * S) x in
            let A-le : A ≤ 2000000 * (S * S) =
            omega (arith, mul-le-mul x_le d.s_le, mul-le-mul Z-le d.c_le) in
            let B-le : B ≤ 0 + z * S = omega (arith, mul-le-mul_left z d.c_le) in
            let r_le : r * S ≤ 2000000 * (S * S) = le_trans low A-le in
            record {
              low = omega (arith, square_mono (r * S) A low);
              high =
                  omega (
                    arith,
                    off_square S (r * S) A (omega arith) r_le (omega arith),
                    off_square (z * S) 0 B (omega (arith, Z-le)) (omega arith) B-le,
                    cube,
                  );
            }

        zone_c : (r : ℕ) → z * S * sd + w * (S * S) ≤ x * cd + z * cd
            → IsRoot ((x - w * cd) * (x - w * cd) + (z * S + w * sd) * (z * S + w * sd)) r → Goal r
        zone_c r l i =
            let Z : ℕ = z * S in
            let W : ℕ = w * (S * S) in
            let X : ℕ = x - w * cd in
            let Y : ℕ = z * S + w * sd in
            let m : ℕ = (9 * w + z) * S in
            let A : ℕ = off_plane sd cd (z * S) x in
            let B : ℕ = off_edges sd cd (w * (S * S)) (z * S) x in
            let D : ℕ = gap (X * cd) (Y * sd) in
            let ws_le : w * sd ≤ 100000 * S = mul-le-mul w_le d.s_le in
            let z_cd : z * cd ≤ z * S = mul-le-mul_left z d.c_le in
            let z_sd : z * S ≤ z * S * sd = omega (arith, mul-le-mul_left (z * S) (sd_pos)) in
            let h_in : w * cd ≤ x =
            cancel cd (w * cd) x (ca_pos scale d)
            (omega (arith, mul-le-mul_left w (mul-le-mul d.c_le d.c_le))) in
            let back : X + w * cd ≡ x = omega arith in
            let A-is : X * sd + Y * cd ≡ A =
            omega (arith, ap (λ (n : ℕ). n * sd) back) in
            let X-cd : X * cd + w * (cd * cd) ≡ x * cd =
            omega (arith, ap (λ (n : ℕ). n * cd) back) in
            let one-low : W ≤ w * (sd * sd) + w * (cd * cd) + 9 * (w * S) =
            omega (arith, mul-le-mul_left w d.one-low) in
            let one-high : w * (sd * sd) + w * (cd * cd) ≤ W + 9 * (w * S) =
            omega (arith, mul-le-mul_left w d.one-high) in
            let m_le : m ≤ 1000000 * S = mul-le-mul_right S (omega arith) in
            let x_cd : x * cd ≤ 1000000 * (S * S) = le_trans (mul-le-mul x_le d.c_le) (le_of_eq (mul_assoc 1000000 S S)) in
            let Z-sd : Z * sd ≤ 15000 * (S * S) = le_trans (mul-le-mul Z-le d.s_le) (le_of_eq (mul_assoc 15000 S S)) in
            let w_sd : w * (sd * sd) ≤ 100000 * (S * S) = mul-le-mul w_le (mul-le-mul d.s_le d.s_le) in
            let t = turned X Y r (omega arith) (omega (arith, Z-le)) i in
            let A-square : (X * sd + Y * cd) * (X * sd + Y * cd) ≡ A * A = ap (λ (n : ℕ). n * n) A-is in
            record {
              low = omega (arith, off_square m B D m_le (omega arith) (omega arith), cube);
              high = omega (arith, off_square m D B m_le (omega arith) (omega arith), cube);
            }

    -- the site is no nearer the rupture than the lower edge's end of the strip lies from it on the plan and ZTOR in depth
    pub section_square :
        (x - w * cd) * (x - w * cd) + z * S * (z * S) ≤ r_prime S sd cd w z x * r_prime S sd cd w z x + K * K
    section_square = by_zone Goal zone_a zone_b zone_c
      where
        Goal : ℕ → Type 0
        Goal r = (x - w * cd) * (x - w * cd) + z * S * (z * S) ≤ r * r + K * K

        Z-le : z * S ≤ 15000 * S
        Z-le = mul-le-mul_right S z_le

        -- from the root of something not below
        rooted : (X Y r : ℕ) → X ≤ 1000000 * S → Y ≤ 1000000 * S → x - w * cd ≤ X → z * S ≤ Y → IsRoot (X * X + Y * Y) r → Goal r
        rooted X Y r h_x hY lX lY i =
            omega (
              arith,
              square_mono (x - w * cd) X lX,
              square_mono (z * S) Y lY,
              i.high,
              square-sum r 1,
              triangle r X Y i.low,
              speck scale,
            )

        zone_a : (r : ℕ) → x * cd ≤ z * S * sd → IsRoot (x * x + z * S * (z * S)) r → Goal r
        zone_a r l i = rooted x (z * S) r x_le (omega (arith, Z-le)) (omega arith) (omega arith) i

        zone_c : (r : ℕ) → z * S * sd + w * (S * S) ≤ x * cd + z * cd
            → IsRoot ((x - w * cd) * (x - w * cd) + (z * S + w * sd) * (z * S + w * sd)) r → Goal r
        zone_c r l i =
            rooted (x - w * cd) (z * S + w * sd) r (omega arith) (omega (arith, Z-le, mul-le-mul w_le d.s_le)) (omega arith) (omega arith) i

        zone_b : (r : ℕ) → z * S * sd ≤ x * cd + z * cd → x * cd ≤ z * S * sd + w * (S * S) → r * S ≤ off_plane sd cd (z * S) x
            → off_plane sd cd (z * S) x ≤ (r + 1) * S → Goal r
        zone_b r l m low high =
            let Z : ℕ = z * S in
            let n : ℕ = x * x + Z * Z in
            let c : ℕ = x - w * cd in
            let A : ℕ = off_plane sd cd Z x in
            let A-le : A ≤ 2000000 * S * S =
            omega (arith, mul-le-mul x_le d.s_le, mul-le-mul Z-le d.c_le) in
            let r_le : r ≤ 2000000 * S = cancel S r (2000000 * S) (S_pos scale) (le_trans low A-le) in
            let n_le : n ≤ 2000000000000 * (S * S) =
            omega (arith, mul-le-mul x_le x_le, mul-le-mul Z-le Z-le) in
            let whole : c * c + Z * Z ≤ (r + 1) * (r + 1) + (18000000000000 * S + z * z) =
            cancel (S * S) (c * c + Z * Z) ((r + 1) * (r + 1) + (18000000000000 * S + z * z)) (mul-pos (S_pos scale) (S_pos scale))
            (omega (
              arith,
              add-mul (c * c) (Z * Z) (S * S),
              dipped,
              turn x Z sd cd,
              mul-le-mul_left n d.one-low,
              mul-add n (sd * sd + cd * cd) (9 * S),
              mul_left_comm n 9 S,
              add-mul (x * x) (Z * Z) (S * S),
              mul-le-mul_right S n_le,
              mul_right_comm 2000000000000 (S * S) S,
              square_mono A ((r + 1) * S) high,
              square-mul (r + 1) S,
              add-mul ((r + 1) * (r + 1)) (18000000000000 * S + z * z) (S * S),
              add-mul (18000000000000 * S) (z * z) (S * S),
              mul_assoc 18000000000000 S (S * S),
              mul_assoc 2000000000000 S (S * S),
            )) in
            omega (arith, square-sum r 1, mul-le-mul z_le z_le, S_pos scale, speck scale)
          where
            -- along the dip: d² and (x - h)² are together at most x²
            dipped :
                gap (x * cd) (z * S * sd) * gap (x * cd) (z * S * sd) + (x - w * cd) * (x - w * cd) * (S * S)
                ≤ x * x * (S * S) + z * z * (S * S)
            dipped = either (dec_le (x * cd) (z * S * sd)) (dec_le (w * cd) x)
              where
                G : ℕ
                G = gap (x * cd) (z * S * sd)

                h : ℕ
                h = w * cd

                regroup : x * cd * (w * (S * S)) ≡ x * h * (S * S)
                regroup = simp (mul_assoc, mul_comm, mul_left_comm)

                rest : h ≤ x → (x - h) * (x - h) + x * h ≤ x * x
                rest q =
                    omega (arith, gap-square x h, mul-le-mul_right h q)

                either : Dec (x * cd ≤ z * S * sd) → Dec (h ≤ x) → G * G + (x - h) * (x - h) * (S * S) ≤ x * x * (S * S) + z * z * (S * S)
                either (yes p) q =
                    omega (arith, square_mono G (z * S) (omega (arith, mul-le-mul_left z d.c_le)), mul-le-mul_right (S * S) (square_mono (x - h) x (omega arith)))
                either (no p) (no q) =
                    omega (arith, square_mono G (x * S) (omega (arith, mul-le-mul_left x d.c_le)), mul-le-mul_right (S * S) (square_mono (x - h) 0 (omega arith)))
                either (no p) (yes q) =
                    let over_x : G ≤ x * cd = omega arith in
                    let over_w : G ≤ w * (S * S) = omega arith in
                    omega (arith, mul-le-mul over_x over_w, mul-le-mul_right (S * S) (rest q))

    -- and no farther than that end lies from it on the plan and ZTOR + W in depth
    pub section_above :
        r_prime S sd cd w z x * r_prime S sd cd w z x ≤ (x - w * cd) * (x - w * cd) + (z + w) * S * ((z + w) * S) + K * K
    section_above = by_zone Goal zone_a zone_b zone_c
      where
        X : ℕ
        X = x - w * cd

        Goal : ℕ → Type 0
        Goal r = r * r ≤ X * X + (z + w) * S * ((z + w) * S) + K * K

        deepest : z * S + w * sd ≤ (z + w) * S
        deepest = omega (arith, mul-le-mul_left w d.s_le)

        zone_a : (r : ℕ) → x * cd ≤ z * S * sd → IsRoot (x * x + z * S * (z * S)) r → Goal r
        zone_a r l i = omega (arith, i.low, across (dec_le (w * cd) x))
          where
            h : ℕ
            h = w * cd

            x_h : x * h ≤ z * w * (S * S)
            x_h = omega (arith, mul-le-mul_left w l, mul-le-mul_left (z * w * S) d.s_le)

            across : Dec (h ≤ x) → x * x ≤ X * X + 2 * (z * w * (S * S))
            across (yes p) = omega (arith, x_h, gap-square x h, square_mono (gap x h) X (omega arith))
            across (no p) = let q : x ≤ h = omega arith in omega (arith, x_h, mul-le-mul_left x q)

        zone_b : (r : ℕ) → z * S * sd ≤ x * cd + z * cd → x * cd ≤ z * S * sd + w * (S * S) → r * S ≤ off_plane sd cd (z * S) x
            → off_plane sd cd (z * S) x ≤ (r + 1) * S → Goal r
        zone_b r l m low high = either (dec_le (w * cd) x)
          where
            T : ℕ
            T = z * S + w * sd

            -- over the rupture
            over : x ≤ w * cd → r ≤ (z + w) * S
            over p =
                cancel S r ((z + w) * S) (S_pos scale)
                (omega (arith, low, mul-le-mul_right sd p, mul-le-mul_left w (mul-le-mul d.c_le d.s_le), mul-le-mul_left (z * S) d.c_le))

            turned_in : w * cd ≤ x → r * S * (r * S) ≤ (X * X + T * T) * (S * S + 9 * S)
            turned_in p =
                let back : X + w * cd ≡ x = omega arith in
                let A-is : X * sd + T * cd ≡ off_plane sd cd (z * S) x = omega (arith, ap (λ (n : ℕ). n * sd) back) in
                omega (
                  arith,
                  square_mono (r * S) (X * sd + T * cd) (omega (arith, low, A-is)),
                  turn X T sd cd,
                  mul-le-mul_left (X * X + T * T) d.one-high,
                )

            either : Dec (w * cd ≤ x) → Goal r
            either (no p) = omega (arith, square_mono r ((z + w) * S) (over (omega arith)))
            either (yes p) =
                let n : ℕ = X * X + T * T in
                let T-le : T ≤ 115000 * S = omega (arith, deepest, mul-le-mul_right S z_le, mul-le-mul_right S w_le) in
                let X-le : X ≤ 1000000 * S = omega arith in
                let n_le : n ≤ 2000000000000 * (S * S) = omega (arith, mul-le-mul X-le X-le, mul-le-mul T-le T-le) in
                let whole : r * r ≤ n + 18000000000000 * S =
                cancel (S * S) (r * r) (n + 18000000000000 * S) (mul-pos (S_pos scale) (S_pos scale))
                (omega (arith, turned_in p, mul-le-mul_right S n_le)) in
                omega (arith, whole, square_mono T ((z + w) * S) deepest, speck scale)

        zone_c : (r : ℕ) → z * S * sd + w * (S * S) ≤ x * cd + z * cd
            → IsRoot ((x - w * cd) * (x - w * cd) + (z * S + w * sd) * (z * S + w * sd)) r → Goal r
        zone_c r l i = omega (arith, i.low, square_mono (z * S + w * sd) ((z + w) * S) deepest)
