-- RRUP of the program, in millimetres, lies within 371 of the exact value, for any RX and RY that lie within 1200 tenths of a millimetre
-- of the exact ones and below 350 km. In tenths of a millimetre: RX s and RX c are off by 1200 + 7, Z s and Z c by 1; v and e, each with
-- one rounding to 10, by less than 1230, and so is RY. Three sides that are off by 1230 make a length that is off by 3660; R'² = v² + e²
-- and the root's own rounding cost 1 and 10 more. Assumes nothing.
use Prim.Native.Nat.{ℕ, ◌+◌, ◌-◌, ◌*◌, ◌/◌, ◌≤◌, ◌<◌}
use mathlib.Core.Path.{◌≡◌, sym, ap, ◌∙◌}
use native.Mathlib.Omega.{arith}
use native.Mathlib.Nat.{add-mul, mul_assoc, mul_left_comm, mul-mul-mul_comm, mul-le-mul_right, div-mul-le_self}
use Rattle.exact.specs.Root.{IsRoot}
use Rattle.exact.proofs.Root.{root_is}
use Rattle.geometry.specs.Geometry.{rrup}
use Rattle.geometry.specs.Fixed.{off_plane_fixed, off_edges_fixed, rrup_fixed}
use Rattle.exact.proofs.Quotients.{cancel, over_quot, sub-mul}
use Rattle.geometry.proofs.Lengths.{side-le, triangle, longer}
use Rattle.geometry.proofs.Scales.{Scale, Near, S_pos, few, tenths, metres-near, sine_unit, product-near}
use Rattle.geometry.proofs.Angles.{Angle}
use Rattle.geometry.proofs.PlanNear.{Placed}
use Rattle.geometry.proofs.Zones.{off_plane, off_edges, Section, section}

-- ---- e: differences that stop at 0, their sides off by 1207 and 1 and rounded by 10
edges_low : (Q P W a b a' b' U : ℕ) → Q ≤ b' - a' + 10 * U → P ≤ a' - b' + 10 * U → a' ≤ a + 1207 * U → a ≤ a' + 1207 * U → b' ≤ b + 1 * U → b ≤ b' + 1 * U
    → Q + (P - W) ≤ b - a + (a - b - W) + 1230 * U
edges_low Q P W a b a' b' U h2 h3 a1 a2 b1 b2 = omega arith

edges_high : (Q P W a b a' b' U : ℕ) → b' - a' ≤ Q + 10 * U → a' - b' ≤ P + 10 * U → a' ≤ a + 1207 * U → a ≤ a' + 1207 * U → b' ≤ b + 1 * U → b ≤ b' + 1 * U
    → b - a + (a - b - W) ≤ Q + (P - W) + 1230 * U
edges_high Q P W a b a' b' U h2 h3 a1 a2 b1 b2 = omega arith

module _ {S K k sd cd sd' cd' x' y' x y : ℕ} (scale : Scale S K k) (d : Angle S k sd cd sd' cd') (p : Placed K x' y' x y) (w z : ℕ) (z_le : z ≤ 15000) where
  x_sine : Near (K * k) (1207 * 1000000000) (x' * sd') (x * sd)
  x_sine = product-near scale 7 p.x_near d.s_near d.s_le (omega arith)

  x_cosine : Near (K * k) (1207 * 1000000000) (x' * cd') (x * cd)
  x_cosine = product-near scale 7 p.x_near d.c_near d.c_le (omega arith)

  z_sine : Near (K * k) (1 * 1000000000) (10000 * z * sd') (z * S * sd)
  z_sine = product-near scale 1 (metres-near scale z) d.s_near d.s_le (omega arith)

  z_cosine : Near (K * k) (1 * 1000000000) (10000 * z * cd') (z * S * cd)
  z_cosine = product-near scale 1 (metres-near scale z) d.c_near d.c_le (omega arith)

  -- to millimetres
  millimetres : (n : ℕ) → Near (10 * (K * S)) 1 (n / 10000000000) (n * (K * k))
  millimetres n =
      let q : ℕ = n / 10000000000 in
      let unit : (m : ℕ) → m * (10 * (K * S)) ≡ m * 10000000000 * (K * k) =
      λ m. ap (λ (t : ℕ). m * t) (ten (K * S) (K * k) (sine_unit scale)) ∙ sym (mul_assoc m 10000000000 (K * k)) in
      record {
        low = omega (arith, unit q, mul-le-mul_right (K * k) (div-mul-le_self n 10000000000));
        high = omega (arith, unit (q + 1), mul-le-mul_right (K * k) (over_quot n 10000000000 (omega arith)));
      }
    where
      ten : (m n : ℕ) → m ≡ 1000000000 * n → 10 * m ≡ 10000000000 * n
      ten m n e = omega arith

  plane_near : Near (10 * (K * S)) 123 (off_plane_fixed sd' cd' (10000 * z) x') (off_plane sd cd (z * S) x)
  plane_near =
      let n : ℕ = x' * sd' + 10000 * z * cd' in
      record {
        low = omega (arith, (millimetres n).low, x_sine.low, z_cosine.low, sine_unit scale);
        high = omega (arith, (millimetres n).high, x_sine.high, z_cosine.high, sine_unit scale);
      }

  edges_near : Near (10 * (K * S)) 123 (off_edges_fixed (10000 * z * sd') (x' * cd') w) (off_edges sd cd (w * (S * S)) (z * S) x)
  unfolding off_edges_fixed
  edges_near =
      let U : ℕ = K * S in
      let up : ℕ = 10000 * z * sd' in
      let down : ℕ = x' * cd' in
      let q : ℕ = (up - down) / 10000000000 in
      let r : ℕ = (down - up) / 10000000000 in
      let width : 1000 * w * (10 * U) ≡ w * (S * S) =
      mul-mul-mul_comm 1000 w 10 U
      ∙ mul_left_comm 10000 w U
      ∙ ap (λ (t : ℕ). w * t) (sym (mul_assoc 10000 K S) ∙ ap (λ (t : ℕ). t * S) (sym (tenths scale))) in
      let whole : (q + (r - 1000 * w)) * (10 * U) ≡ q * (10 * U) + (r * (10 * U) - w * (S * S)) =
      add-mul q (r - 1000 * w) (10 * U)
      ∙ ap (λ (t : ℕ). q * (10 * U) + t) (sub-mul r (1000 * w) (10 * U) ∙ ap (λ (t : ℕ). r * (10 * U) - t) width) in
      let x_low : down * (K * k) ≤ x * cd + 1207 * U = omega (arith, x_cosine.low, sine_unit scale) in
      let x_high : x * cd ≤ down * (K * k) + 1207 * U = omega (arith, x_cosine.high, sine_unit scale) in
      let z_low : up * (K * k) ≤ z * S * sd + 1 * U = omega (arith, z_sine.low, sine_unit scale) in
      let z_high : z * S * sd ≤ up * (K * k) + 1 * U = omega (arith, z_sine.high, sine_unit scale) in
      let m : ℕ = K * k in
      let a : ℕ = x * cd in
      let b : ℕ = z * S * sd in
      let W : ℕ = w * (S * S) in
      let above : (up - down) * m ≡ up * m - down * m = sub-mul up down m in
      let below : (down - up) * m ≡ down * m - up * m = sub-mul down up m in
      let low : q * (10 * U) + (r * (10 * U) - W) ≤ off_edges sd cd W (z * S) x + 1230 * U =
      edges_low (q * (10 * U)) (r * (10 * U)) W a b (down * m) (up * m) U
      (omega (arith, (millimetres (up - down)).low)) (omega (arith, (millimetres (down - up)).low)) x_low x_high z_low z_high in
      let high : off_edges sd cd W (z * S) x ≤ q * (10 * U) + (r * (10 * U) - W) + 1230 * U =
      edges_high (q * (10 * U)) (r * (10 * U)) W a b (down * m) (up * m) U
      (omega (arith, (millimetres (up - down)).high)) (omega (arith, (millimetres (down - up)).high)) x_low x_high z_low z_high in
      record { low = omega arith; high = omega arith }

  along_near : Near (10 * (K * S)) 123 (y' / 10) (y * S)
  along_near =
      let U : ℕ = K * S in
      record {
        low =
            omega (arith, mul-le-mul_right U (div-mul-le_self y' 10), mul-le-mul_right S p.y_near.low);
        high =
            omega (arith, mul-le-mul_right U (over_quot y' 10 (omega arith)), mul-le-mul_right S p.y_near.high);
      }

-- ---- the lengths: D of R' and RY, r of v, e and u
module _ {S K k v e u A B R D r : ℕ} (y : ℕ) (scale : Scale S K k) (s : Section S (K * S) A B R) (i : IsRoot (v * v + e * e + u * u) r) (j : IsRoot (R * R + y * y) D) (nv : Near (10 * (K * S)) 123 v A) (ne : Near (10 * (K * S)) 123 e B) (nu : Near (10 * (K * S)) 123 u (y * S)) where
  scaled : (M : ℕ) → v * M * (v * M) + e * M * (e * M) + u * M * (u * M) ≡ (v * v + e * e + u * u) * (M * M)
  scaled M =
      omega arith

  two : R * S * (R * S) + y * S * (y * S) ≡ (R * R + y * y) * (S * S)
  two = omega arith

  length-near : Near (10 * K) 371 r D
  length-near =
      let U : ℕ = K * S in
      let M : ℕ = 10 * (K * S) in
      let F : ℕ = (r + 1) * M + 3 * (123 * M) in
      let base : v * M * (v * M) + e * M * (e * M) + u * M * (u * M) ≤ (r + 1) * M * ((r + 1) * M) =
      omega (arith, mul-le-mul_right (M * M) (less i.high)) in
      let over : A * A + B * B + y * S * (y * S) ≤ F * F =
      longer (v * M) (e * M) (u * M) (123 * M) ((r + 1) * M) base nv.high ne.high nu.high in
      let D-le : D * S ≤ F + U =
      triangle (D * S) F U (omega (arith, mul-le-mul_right (S * S) j.low)) in
      let G : ℕ = (D + 1) * S + U in
      let under : A * A + B * B + y * S * (y * S) ≤ G * G =
      omega (arith, mul-le-mul_right (S * S) (less j.high)) in
      let back : v * M * (v * M) + e * M * (e * M) + u * M * (u * M) ≤ (G + 3 * (123 * M)) * (G + 3 * (123 * M)) =
      longer A B (y * S) (123 * M) G under nv.low ne.low nu.low in
      let r_le : r * M ≤ G + 3 * (123 * M) =
      side-le (r * M) (G + 3 * (123 * M)) (omega (arith, mul-le-mul_right (M * M) i.low)) in
      record {
        low =
            cancel S (r * (10 * K)) (D + 371 * (10 * K)) (S_pos scale)
            (omega (arith, mul-le-mul_right S (few scale 1 (omega arith))));
        high =
            cancel S D (r * (10 * K) + 371 * (10 * K)) (S_pos scale)
            (omega arith);
      }
    where
      less : {a b : ℕ} → a < b → a ≤ b
      less l = omega arith

-- ---- the definitions themselves
pub rrup-near : {S K k sd cd sd' cd' x' y' x y : ℕ} → Scale S K k → Angle S k sd cd sd' cd' → Placed K x' y' x y → (w z : ℕ) → 1 ≤ w → w ≤ 100000
    → z ≤ 15000 → Near (10 * K) 371 (rrup_fixed sd' cd' w (10000 * z) x' y') (rrup S sd cd w z x y)
unfolding rrup_fixed rrup
rrup-near {K = K} {x = x} {y = y} scale d p w z w_low w_le z_le =
    length-near y scale (section scale d w z x w_low w_le z_le (omega (arith, mul-le-mul_right K p.x'_le)))
    (root_is _) (root_is _) (plane_near scale d p w z z_le) (edges_near scale d p w z z_le) (along_near scale d p w z z_le)

-- rounded up to whole metres
pub metres-up : {S K k D : ℕ} (r : ℕ) → Scale S K k → Near (10 * K) 371 r D → Near S 2 ((r + 999) / 1000) D
metres-up {S} {K} {k} {D} r scale n =
    let m : ℕ = (r + 999) / 1000 in
    let unit : m * S ≡ 1000 * m * (10 * K) =
    ap (λ (t : ℕ). m * t) (tenths scale) ∙ mul_left_comm m 10000 K ∙ sym (mul-mul-mul_comm 1000 m 10 K) in
    let up : r * (10 * K) ≤ 1000 * m * (10 * K) = mul-le-mul_right (10 * K) (omega arith) in
    let down : 1000 * m * (10 * K) ≤ (r + 999) * (10 * K) = mul-le-mul_right (10 * K) (omega arith) in
    record {
      low = omega arith;
      high = omega arith;
    }
