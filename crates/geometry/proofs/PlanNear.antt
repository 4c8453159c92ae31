-- RX and RY of the program lie within 1200 tenths of a millimetre of the exact ones, and these span RJB. The unit of the errors is K, a
-- tenth of a millimetre; R is RJB in exact units.
--   Both beyond the strip: g and h s are off by 3 + 2 + 1 = 6 each, and g ≤ R ≤ 58 (r + 1). So the roots, whose squares and those of g
--   add up to R² at both scales, are within 118 · 6 + 1 = 709; o is within 715, and RX = s o and RY = c o within 715 + 6 + 1 = 722.
--   Both beside it: RX c is R s but for 7, so RX is within 58 · 7 + 1 = 407; RY is R.
--   The program's test has 10 to spare, more than the 4 + 5 + 1 that its two sides are off, so where it fails the exact test fails. One
--   mixed case is left, the program beside and the exact site just beyond: h c ≤ R s ≤ h c + 19 S. There RX is between h and R s / c,
--   and the program's is at most h and 580; so RX is within 584, and RY, at most R and at least (R s - 20 S)/s, within 1161.
-- Assumes nothing.
use Prim.Native.Nat.{ℕ, ◌+◌, ◌-◌, ◌*◌, ◌/◌, ◌≤◌, ◌<◌}
use mathlib.Core.Path.{◌≡◌, sym, ap, subst, ◌∙◌}
use native.Mathlib.Omega.{arith}
use native.Mathlib.Decide.{dec_le}
use native.Mathlib.Nat.{le_trans, le_of_eq, add-mul, mul_comm, mul_assoc, mul_left_comm, mul-le-mul, mul-le-mul_left, mul-le-mul_right, div-mul-le_self, mul-pos, le_refl}
use borrow.Author.Tests.{le-leb, lt-leb}
use Rattle.exact.specs.Root.{IsRoot}
use Rattle.exact.proofs.Root.{root_is}
use Rattle.geometry.specs.Geometry.{tangent, rx8, rx, ry}
use Rattle.geometry.specs.Fixed.{from_top_fixed, place_fixed}
use Rattle.geometry.specs.declared.Place.{Place}
use Rattle.exact.proofs.Quotients.{cancel, over_quot}
use Rattle.geometry.proofs.Lengths.{square-mul, square_mono, side-le, gap, gap-square}
use Rattle.geometry.proofs.Scales.{Scale, Near, widen, S_pos, K-pos, few, speck, metres, metres-near, sine_unit, product-near, mul-near}
use Rattle.geometry.proofs.Angles.{Angle}
use Rattle.geometry.proofs.Corner.{Eq7, Eq8, Eq20, ca_pos, eq7, eq8, eq20, beside_low, beside_high, g_in, e_in, r_in, x_in, root_far, edge, rim, y_low_lem, y_high, square, square-high}

-- ---- two roots whose squares and those of g and G, at most d apart, add up to R²
closer : (g G d : ℕ) → g ≤ G + d → g * g ≤ G * G + 2 * (d * g)
closer g G d h = either (dec_le g G)
  where
    either : Dec (g ≤ G) → g * g ≤ G * G + 2 * (d * g)
    either (yes l) = omega (arith, square_mono g G l)
    either (no l) =
        let m : G ≤ g = omega arith in
        omega (arith, mul-le-mul_right g h, mul-le-mul_left G h, mul-le-mul_left d m)

root_below : (R r g G d b : ℕ) → b * b + G * G ≤ R * R → R * R ≤ (r + 1) * (r + 1) + g * g → g ≤ G + d → g ≤ 58 * (r + 1)
    → b ≤ r + 1 + 58 * d
root_below R r g G d b hb hr hg far =
    side-le b (r + 1 + 58 * d)
    (omega (arith, closer g G d hg, mul-le-mul_left d far))

root-above : (R r g G d b : ℕ) → R * R ≤ b * b + G * G → r * r + g * g ≤ R * R → G ≤ g + d → g ≤ 58 * (r + 1) → 1 ≤ d
    → r ≤ b + 118 * d
root-above R r g G d b hb hr hG far one = either (dec_le r (b + 118 * d))
  where
    either : Dec (r ≤ b + 118 * d) → r ≤ b + 118 * d
    either (yes l) = l
    either (no l) =
        let more : b + 118 * d ≤ r = omega arith in
        let part : 118 * d ≤ r = omega arith in
        let less : b ≤ r = omega arith in
        absurd
        (omega (arith, square_mono G (g + d) hG, mul-le-mul_left d far, mul-le-mul_right r more, mul-le-mul_left b less, mul-le-mul_left d part, mul_left_comm d 118 d, mul-le-mul_left d one))

-- what is given: the azimuth, RJB in metres, and h at both scales
pub record Given (S K k sa ca sa' ca' h h' rjb : ℕ) : Type 0 where
  pub scale : Scale S K k
  pub angle : Angle S k sa ca sa' ca'
  pub h_near : Near K 3 h' h
  pub h'_le : h' ≤ 1000000000
  pub h_le : h ≤ 100000 * S
  pub rjb-le : rjb ≤ 200000

-- what is found: RX and RY at both scales
pub record Placed (K x' y' x y : ℕ) : Type 0 where
  pub x_near : Near K 1200 x' x
  pub y_near : Near K 1200 y' y
  pub x'_le : x' ≤ 3500000000
  pub y'_le : y' ≤ 3500000000

-- a product with a sine is not above its length
pub product_le : (a b : ℕ) → b ≤ 1000000000 → a * b / 1000000000 ≤ a
product_le a b h =
    cancel 1000000000 (a * b / 1000000000) a (omega arith)
    (le_trans (div-mul-le_self (a * b) 1000000000) (mul-le-mul_left a h))

module _ {S K k sa ca sa' ca' h h' rjb : ℕ} (u : Given S K k sa ca sa' ca' h h' rjb) where
  -- the program's two sides of the test, in exact units
  across : Near (K * k) (4 * 1000000000) (10000 * rjb * sa') (rjb * S * sa)
  across = product-near u.scale 4 (metres-near u.scale rjb) u.angle.s_near u.angle.s_le (omega arith)

  along : Near (K * k) (5 * 1000000000) (h' * ca') (h * ca)
  along = product-near u.scale 2 u.h_near u.angle.c_near u.angle.c_le (omega arith)

  -- few exact units times a sine are less than a tenth of a millimetre times one
  crumb : (m s : ℕ) → m ≤ 100000000 → s ≤ S → m * s ≤ K * S
  crumb m s hm hs = mul-le-mul (few u.scale m hm) hs

  R-le : rjb * S ≤ 200000 * S
  R-le = mul-le-mul_right S u.rjb-le

  -- where the program's test fails, the exact one fails
  beyond_both : h' * ca' + 10000000000 < 10000 * rjb * sa' → h < rjb * tangent S sa ca
  beyond_both l = either (dec_le (rjb * tangent S sa ca) h)
    where
      either : Dec (rjb * tangent S sa ca ≤ h) → h < rjb * tangent S sa ca
      either (no g) = omega arith
      either (yes g) =
          let pos : 0 < K * k = mul-pos (K-pos u.scale) (omega arith) in
          absurd
          (omega (arith, mul-le-mul_right (K * k) (more l), across.low, along.high, (eq7 u.scale u.angle rjb).high, mul-le-mul_right ca g, crumb rjb ca (omega arith) u.angle.c_le, sine_unit u.scale))
        where
          more : {m n : ℕ} → m < n → m + 1 ≤ n
          more l = omega arith

  -- ---- both beyond the strip
  both_beyond : {g e r x y r' : ℕ} → h' * ca' + 10000000000 < 10000 * rjb * sa'
      → IsRoot (10000 * rjb * (10000 * rjb) - h' * ca' / 1000000000 * (h' * ca' / 1000000000)) r'
      → Eq8 S sa ca h (rjb * S) g e r x → Eq20 sa ca x y
      → Placed K ((r' + h' * sa' / 1000000000) * sa' / 1000000000) ((r' + h' * sa' / 1000000000) * ca' / 1000000000) x y
  both_beyond {g} {e} {r} {x} {y} {r'} l i q p =
      let a : Angle S k sa ca sa' ca' = u.angle in
      let R : ℕ = rjb * S in
      let n : ℕ = 10000 * rjb in
      let g' : ℕ = h' * ca' / 1000000000 in
      let e' : ℕ = h' * sa' / 1000000000 in
      let pos : 0 < K = K-pos u.scale in
      let g_near : Near K 6 g' g =
      mul-near u.scale 2 1 u.h_near a.c_near a.c_le (omega arith) q.g_low q.g_high (omega arith) in
      let e_near : Near K 6 e' e =
      mul-near u.scale 2 1 u.h_near a.s_near a.s_le (omega arith) q.e_low q.e_high (omega arith) in
      let in_n : g' * g' ≤ n * n =
      square_mono g' n
      (cancel 1000000000 g' n (omega arith)
      (omega (arith, mul-le-mul_left n a.s'_le))) in
      let whole : n * n * (K * K) ≡ R * R = sym (square-mul n K) ∙ ap (λ (t : ℕ). t * t) (metres u.scale rjb) in
      let far : g ≤ 58 * (r + 1) = le_trans (g_in u.scale a q u.h_le R-le) (root_far u.scale a q u.h_le R-le) in
      let under : r' * K * (r' * K) + g' * K * (g' * K) ≤ R * R =
      omega (arith, mul-le-mul_right (K * K) (sum-le i.low in_n)) in
      let over : R * R ≤ (r' + 1) * K * ((r' + 1) * K) + g' * K * (g' * K) =
      omega (arith, mul-le-mul_right (K * K) (le-sum i.high in_n)) in
      let low : r' * K ≤ r + 1 + 58 * (6 * K) = root_below R r g (g' * K) (6 * K) (r' * K) under q.r_high g_near.high far in
      let high : r ≤ (r' + 1) * K + 118 * (6 * K) =
      root-above R r g (g' * K) (6 * K) ((r' + 1) * K) over q.r_low g_near.low far (omega arith) in
      let o_near : Near K 715 (r' + e') (r + e) =
      record {
        low = omega arith;
        high = omega arith;
      } in
      let r'_le : r' ≤ n = side-le r' n (omega arith) in
      let e'_le : e' ≤ h' = product_le h' sa' a.s'_le in
      let o_le : 2 * (r' + e') ≤ 6 * 1000000000 = omega arith in
      record {
        x_near =
            widen 1200 (omega arith)
            (mul-near u.scale 6 1 o_near a.s_near a.s_le o_le
            (le_trans q.x_low (le_of_eq (mul_comm sa (r + e)))) (le_trans (le_of_eq (mul_comm (r + e) sa)) q.x_high) (omega arith));
        y_near =
            widen 1200 (omega arith)
            (mul-near u.scale 6 1000059 o_near a.c_near a.c_le o_le
            (y_low_lem u.scale a q u.h_le R-le p) (y_high u.scale a q u.h_le R-le p) (omega arith));
        x'_le = omega (arith, product_le (r' + e') sa' a.s'_le);
        y'_le = omega (arith, product_le (r' + e') ca' a.c'_le);
      }
    where
      sum-le : {a g n : ℕ} → a ≤ n - g → g ≤ n → a + g ≤ n
      sum-le h l = omega arith

      le-sum : {a g n : ℕ} → n - g < a → g ≤ n → n ≤ a + g
      le-sum h l = omega arith

  -- ---- the program beside the strip
  -- a tenth of a millimetre times one is at most 58 times that of a sine
  by_sine : (m s : ℕ) → S ≤ 58 * s → m * (K * S) ≤ 58 * m * K * s
  by_sine m s far =
      le_trans (mul-le-mul_left m (mul-le-mul_left K far))
      (le_of_eq
      (ap (λ (t : ℕ). m * t) (mul_left_comm K 58 s)
      ∙ mul_left_comm m 58 (K * s)
      ∙ sym (mul_assoc 58 m (K * s))
      ∙ sym (mul_assoc (58 * m) K s)))

  module _ (l : 10000 * rjb * sa' ≤ h' * ca' + 10000000000) where
    x'_in : 10000 * rjb * sa' / ca' ≤ h' + 580
    x'_in =
        cancel ca' (10000 * rjb * sa' / ca') (h' + 580) (omega arith)
        (omega (arith, div-mul-le_self (10000 * rjb * sa') ca'))

    x'_small : (m : ℕ) → m ≤ 10000 * rjb * sa' / ca' + 1 → 2 * m ≤ 3 * 1000000000
    x'_small m h = omega (arith, x'_in)

    exact_tenths : (n : ℕ) → Near K 0 n (n * K)
    exact_tenths n = record { low = omega arith; high = omega arith }

    -- RX c is R s
    x'_low : 10000 * rjb * sa' / ca' * K * ca ≤ rjb * S * sa + 406 * K * ca
    x'_low =
        let x' : ℕ = 10000 * rjb * sa' / ca' in
        omega (
          arith,
          (product-near u.scale 3 (exact_tenths x') u.angle.c_near u.angle.c_le (x'_small x' (omega arith))).high,
          mul-le-mul_right (K * k) (div-mul-le_self (10000 * rjb * sa') ca'),
          across.low,
          sine_unit u.scale,
          by_sine 7 ca u.angle.c_far,
        )

    x'_high : rjb * S * sa ≤ (10000 * rjb * sa' / ca' + 1) * K * ca + 406 * K * ca
    x'_high =
        let x' : ℕ = 10000 * rjb * sa' / ca' in
        omega (
          arith,
          (product-near u.scale 3 (exact_tenths (x' + 1)) u.angle.c_near u.angle.c_le (x'_small (x' + 1) (le_refl _))).low,
          mul-le-mul_right (K * k) (over_quot (10000 * rjb * sa') ca' (omega arith)),
          across.high,
          sine_unit u.scale,
          by_sine 7 ca u.angle.c_far,
        )

    -- R s is not far above h c
    not_far : rjb * S * sa ≤ h * ca + 19 * (K * S)
    not_far =
        omega (arith, across.high, mul-le-mul_right (K * k) l, along.low, sine_unit u.scale)

    both_beside : {x y : ℕ} → x ≤ h → Eq7 S sa ca rjb x → Eq20 sa ca x y → Placed K (10000 * rjb * sa' / ca') (10000 * rjb) x y
    both_beside {x} {y} x_h q p =
        let x' : ℕ = 10000 * rjb * sa' / ca' in
        let pca : 0 < ca = ca_pos u.scale u.angle in
        let low : x' * K ≤ x + rjb + 406 * K =
        cancel ca (x' * K) (x + rjb + 406 * K) pca (omega (arith, x'_low)) in
        let high : x ≤ (x' + 1) * K + 406 * K =
        cancel ca x ((x' + 1) * K + 406 * K) pca (omega (arith, x'_high)) in
        record {
          x_near = record { low = omega arith; high = omega arith };
          y_near = record {
            low = omega (arith, metres u.scale rjb, beside_high u.scale u.angle u.rjb-le q p);
            high = omega (arith, metres u.scale rjb, beside_low u.scale u.angle q p);
          };
          x'_le = omega (arith, x'_in);
          y'_le = omega arith;
        }

    -- the exact site just beyond the strip
    mixed : {g e r x y : ℕ} → Eq8 S sa ca h (rjb * S) g e r x → Eq20 sa ca x y → Placed K (10000 * rjb * sa' / ca') (10000 * rjb) x y
    mixed {g} {e} {r} {x} {y} q p =
        let a : Angle S k sa ca sa' ca' = u.angle in
        let R : ℕ = rjb * S in
        let x' : ℕ = 10000 * rjb * sa' / ca' in
        let rim_r : (r + e) * ca ≤ (R + 1000001) * S = rim u.scale a q u.h_le R-le in
        let h_x : h ≤ x + 2 * k = edge u.scale a q u.h_le R-le in
        let low : x' * K ≤ x + 584 * K =
        omega (arith, mul-le-mul_right K x'_in, add-mul h' 580 K) in
        let x_r : x * ca ≤ (R + 1000001) * sa =
        cancel S (x * ca) ((R + 1000001) * sa) (S_pos u.scale)
        (omega (arith, mul-le-mul_right ca q.x_low, mul-le-mul_left sa rim_r)) in
        let high : x ≤ (x' + 1) * K + 406 * K + 58000058 =
        cancel ca x ((x' + 1) * K + 406 * K + 58000058) (ca_pos u.scale a)
        (omega (arith, x'_high)) in
        let y_r : y ≤ R + 1000001 =
        cancel S y (R + 1000001) (S_pos u.scale) (le_trans (y_low_lem u.scale a q u.h_le R-le p) rim_r) in
        let R-y : R ≤ y + 1000001 + 1160 * K =
        cancel sa R (y + 1000001 + 1160 * K) (omega arith)
        (omega (arith, not_far, mul-le-mul_right ca h_x, mul-le-mul two_k a.c_le, by_sine 20 sa a.s_far)) in
        record {
          x_near = record { low = omega arith; high = omega arith };
          y_near = record { low = omega (arith, metres u.scale rjb); high = omega (arith, metres u.scale rjb) };
          x'_le = omega (arith, x'_in);
          y'_le = omega arith;
        }
      where
        two_k : 2 * k ≤ K
        two_k = omega arith

-- a length that is more by few exact units
little_more : (R y S KK : ℕ) → R ≤ y + 12600001 → y ≤ 200000 * S → 0 < S → 1000000000000000 * S ≤ KK → R * R ≤ y * y + KK
little_more R y S KK h l pos room = omega (arith, square_mono R (y + 12600001) h)

-- ---- the definitions by their tests
pub rx_beside : (S sa ca h rjb : ℕ) → rjb * tangent S sa ca ≤ h → rjb * tangent S sa ca ≡ rx S sa ca h rjb
unfolding rx
rx_beside S sa ca h rjb l = rw (le-leb _ _ l, rx)

rx_beyond : (S sa ca h rjb : ℕ) → h < rjb * tangent S sa ca → rx8 S sa ca h rjb ≡ rx S sa ca h rjb
unfolding rx
rx_beyond S sa ca h rjb l = rw (lt-leb (rjb * tangent S sa ca) h l, rx)

pub place_beside : (sa ca h rjb : ℕ) → rjb * sa ≤ h * ca + 10000000000 → record { x = rjb * sa / ca; y = rjb } ≡ place_fixed sa ca h rjb
unfolding place_fixed
place_beside sa ca h rjb l = rw (le-leb _ _ l, place_fixed)

pub place_beyond : (sa ca h rjb : ℕ) → h * ca + 10000000000 < rjb * sa
    → record { x = from_top_fixed sa ca h rjb * sa / 1000000000; y = from_top_fixed sa ca h rjb * ca / 1000000000 } ≡ place_fixed sa ca h rjb
unfolding place_fixed
place_beyond sa ca h rjb l = rw (lt-leb (rjb * sa) (h * ca + 10000000000) l, place_fixed)

module _ {S K k sa ca sa' ca' : ℕ} (scale : Scale S K k) (a : Angle S k sa ca sa' ca') (h rjb : ℕ) (h_le : h ≤ 100000 * S) (rjb-le : rjb ≤ 200000) where
  -- what holds of RX and RY by equation 7 and by equation 8
  by_strip : (P : ℕ → ℕ → Type 0)
      → ((y : ℕ) → rjb * tangent S sa ca ≤ h → Eq20 sa ca (rjb * tangent S sa ca) y → P (rjb * tangent S sa ca) y)
      → ((g e r x y : ℕ) → h < rjb * tangent S sa ca → Eq8 S sa ca h (rjb * S) g e r x → Eq20 sa ca x y → P x y)
      → P (rx S sa ca h rjb) (ry S sa ca (rx S sa ca h rjb))
  unfolding rx8 ry
  by_strip P beside beyond = either (dec_le (rjb * tangent S sa ca) h)
    where
      Both : ℕ → Type 0
      Both x = P x (ry S sa ca x)

      either : Dec (rjb * tangent S sa ca ≤ h) → Both (rx S sa ca h rjb)
      either (yes l) =
          subst Both (rx_beside S sa ca h rjb l)
          (beside _ l (eq20 scale a (rjb * tangent S sa ca) (omega arith)))
      either (no l) =
          let out : h < rjb * tangent S sa ca = omega arith in
          let R-le : rjb * S ≤ 200000 * S = mul-le-mul_right S rjb-le in
          let q = eq8 scale a h rjb _ out (root_is _) in
          subst Both (rx_beyond S sa ca h rjb out)
          (beyond _ _ _ _ _ out q
          (eq20 scale a _ (omega (arith, x_in scale a q h_le R-le, r_in scale a q h_le R-le, e_in scale a q h_le R-le))))

  -- RJB is the distance to the strip: RX - h counts as 0 below 0
  pub plan-square :
      rjb * S * (rjb * S)
      ≤ (rx S sa ca h rjb - h) * (rx S sa ca h rjb - h) + ry S sa ca (rx S sa ca h rjb) * ry S sa ca (rx S sa ca h rjb) + 2 * (K * K)
  plan-square = by_strip (λ x y. rjb * S * (rjb * S) ≤ (x - h) * (x - h) + y * y + 2 * (K * K)) beside beyond
    where
      R-le : rjb * S ≤ 200000 * S
      R-le = mul-le-mul_right S rjb-le

      beside : (y : ℕ) → rjb * tangent S sa ca ≤ h → Eq20 sa ca (rjb * tangent S sa ca) y
          → rjb * S * (rjb * S) ≤ (rjb * tangent S sa ca - h) * (rjb * tangent S sa ca - h) + y * y + 2 * (K * K)
      beside y l p =
          omega (
            arith,
            little_more (rjb * S) y S (K * K) (beside_high scale a rjb-le (eq7 scale a rjb) p)
                (le_trans (beside_low scale a (eq7 scale a rjb) p) R-le) (S_pos scale) (speck scale),
          )

      beyond : (g e r x y : ℕ) → h < rjb * tangent S sa ca → Eq8 S sa ca h (rjb * S) g e r x → Eq20 sa ca x y
          → rjb * S * (rjb * S) ≤ (x - h) * (x - h) + y * y + 2 * (K * K)
      beyond g e r x y out q p = either (dec_le h x)
        where
          whole : rjb * S * (rjb * S) ≤ gap x h * gap x h + y * y + K * K
          whole = omega (arith, square scale a q h_le R-le p, gap-square x h)

          either : Dec (h ≤ x) → rjb * S * (rjb * S) ≤ (x - h) * (x - h) + y * y + 2 * (K * K)
          either (yes l) = omega (arith, whole, square_mono (gap x h) (x - h) (omega arith))
          either (no l) = omega (arith, whole, square_mono (gap x h) K (omega (arith, edge scale a q h_le R-le)))

  -- and no more than that
  pub plan-square-high :
      (rx S sa ca h rjb - h) * (rx S sa ca h rjb - h) + ry S sa ca (rx S sa ca h rjb) * ry S sa ca (rx S sa ca h rjb)
      ≤ rjb * S * (rjb * S) + K * K
  plan-square-high = by_strip (λ x y. (x - h) * (x - h) + y * y ≤ rjb * S * (rjb * S) + K * K) beside beyond
    where
      beside : (y : ℕ) → rjb * tangent S sa ca ≤ h → Eq20 sa ca (rjb * tangent S sa ca) y
          → (rjb * tangent S sa ca - h) * (rjb * tangent S sa ca - h) + y * y ≤ rjb * S * (rjb * S) + K * K
      beside y l p =
          omega (
            arith,
            square_mono (rjb * tangent S sa ca - h) 0 (omega arith),
            square_mono y (rjb * S) (beside_low scale a (eq7 scale a rjb) p),
          )

      beyond : (g e r x y : ℕ) → h < rjb * tangent S sa ca → Eq8 S sa ca h (rjb * S) g e r x → Eq20 sa ca x y
          → (x - h) * (x - h) + y * y ≤ rjb * S * (rjb * S) + K * K
      beyond g e r x y out q p =
          omega (
            arith,
            square-high scale a q h_le (mul-le-mul_right S rjb-le) p,
            gap-square x h,
            square_mono (x - h) (gap x h) (omega arith),
          )

-- RX and RY of the program
pub plan-near : {S K k sa ca sa' ca' h h' rjb : ℕ} → Given S K k sa ca sa' ca' h h' rjb
    → Placed K (place_fixed sa' ca' h' (10000 * rjb)).x (place_fixed sa' ca' h' (10000 * rjb)).y (rx S sa ca h rjb)
    (ry S sa ca (rx S sa ca h rjb))
unfolding from_top_fixed
plan-near {S} {K} {k} {sa} {ca} {sa'} {ca'} {h} {h'} {rjb} u = either (dec_le (10000 * rjb * sa') (h' * ca' + 10000000000))
  where
    Goal : Place → Type 0
    Goal p = Placed K p.x p.y (rx S sa ca h rjb) (ry S sa ca (rx S sa ca h rjb))

    either : Dec (10000 * rjb * sa' ≤ h' * ca' + 10000000000) → Goal (place_fixed sa' ca' h' (10000 * rjb))
    either (yes l) =
        subst Goal (place_beside sa' ca' h' (10000 * rjb) l)
        (by_strip u.scale u.angle h rjb u.h_le u.rjb-le (λ x y. Placed K (10000 * rjb * sa' / ca') (10000 * rjb) x y)
        (λ y m. both_beside u l m (eq7 u.scale u.angle rjb)) (λ g e r x y m. mixed u l))
    either (no l) =
        let off : h' * ca' + 10000000000 < 10000 * rjb * sa' = omega arith in
        let out : h < rjb * tangent S sa ca = beyond_both u off in
        subst Goal (place_beyond sa' ca' h' (10000 * rjb) off)
        (by_strip u.scale u.angle h rjb u.h_le u.rjb-le (λ x y. Placed K _ _ x y)
        (λ y m p. absurd (omega arith)) (λ g e r x y m. both_beyond u off (root_is _)))
