-- Squares and lengths of whole numbers, with no root taken: a length is compared by its square. Assumes nothing.
use Prim.Native.Nat.{ℕ, ◌+◌, ◌-◌, ◌*◌, ◌≤◌}
use mathlib.Core.Path.{◌≡◌, subst}
use native.Mathlib.Omega.{arith}
use native.Mathlib.Decide.{dec_le}
use native.Mathlib.Nat.{le_trans, add-mul, mul-add, mul_comm, mul_assoc, mul_left_comm, mul-mul-mul_comm, mul-le-mul, mul-le-mul_right}
use Rattle.exact.specs.Root.{root}
use Rattle.exact.proofs.Root.{root_is, side-lt}

pub square-sum : (a b : ℕ) → (a + b) * (a + b) ≡ a * a + 2 * (a * b) + b * b
square-sum a b = simp (mul-add, add-mul) (omega arith)

pub square-mul : (a b : ℕ) → a * b * (a * b) ≡ a * a * (b * b)
square-mul a b = mul-mul-mul_comm a b a b

pub square_mono : (a b : ℕ) → a ≤ b → a * a ≤ b * b
square_mono a b h = mul-le-mul h h

pub side-le : (a b : ℕ) → a * a ≤ b * b → a ≤ b
side-le a b h = omega (arith, side-lt a (b + 1) (omega arith))

pub root-le : (n b : ℕ) → n ≤ b * b → root n ≤ b
root-le n b h = side-le (root n) b (le_trans (root_is n).low h)

-- a side of a right triangle is at most the other two together
pub triangle : (a b c : ℕ) → a * a ≤ b * b + c * c → a ≤ b + c
triangle a b c h = side-le a (b + c) (omega arith)

-- three sides, each longer by at most g: the length is more by at most 3 g
pub longer : (a b c g r : ℕ) {a' b' c' : ℕ} → a * a + b * b + c * c ≤ r * r → a' ≤ a + g → b' ≤ b + g → c' ≤ c + g
    → a' * a' + b' * b' + c' * c' ≤ (r + 3 * g) * (r + 3 * g)
longer a b c g r {a'} {b'} {c'} h ha hb hc =
    omega (arith, grow a a' ha (side-le a r (omega arith)), grow b b' hb (side-le b r (omega arith)), grow c c' hc (side-le c r (omega arith)))
  where
    grow : (s s' : ℕ) → s' ≤ s + g → s ≤ r → s' * s' ≤ s * s + 2 * (r * g) + g * g
    grow s s' hs l = omega (arith, square_mono s' (s + g) hs, mul-le-mul_right g l)

-- the difference of two numbers, the larger first
abbrev pub gap : ℕ → ℕ → ℕ
gap m n = m - n + (n - m)

pub gap-square : (m n : ℕ) → gap m n * gap m n + 2 * (m * n) ≡ m * m + n * n
gap-square m n = either (dec_le m n)
  where
    part : (m n d : ℕ) → m + d ≡ n → d * d + 2 * (m * n) ≡ m * m + n * n
    part m n d e = subst (λ (t : ℕ). d * d + 2 * (m * t) ≡ m * m + t * t) e (omega arith)

    either : Dec (m ≤ n) → gap m n * gap m n + 2 * (m * n) ≡ m * m + n * n
    either (yes l) = part m n (gap m n) (omega arith)
    either (no l) = omega (arith, part n m (gap m n) (omega arith))

-- a turn keeps the length: (x s + z c)² + (x c - z s)² = (x² + z²)(s² + c²)
pub turn : (x z s c : ℕ)
    → (x * s + z * c) * (x * s + z * c) + gap (x * c) (z * s) * gap (x * c) (z * s) ≡ (x * x + z * z) * (s * s + c * c)
turn x z s c = omega (arith, gap-square (x * c) (z * s))
  where
    swap : x * s * (z * c) ≡ x * c * (z * s)
    swap = simp (mul_assoc, mul_comm, mul_left_comm)

    spread : (x * x + z * z) * (s * s + c * c) ≡ x * s * (x * s) + z * c * (z * c) + (x * c * (x * c) + z * s * (z * s))
    spread = simp (mul-add, add-mul) (omega arith)
