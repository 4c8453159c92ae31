-- The logarithm beyond 2: powers of two are taken out one at a time, and each is ln 2 more. Assumes nothing.
use Prim.Native.Nat.{ℕ, zero, suc, ◌+◌, ◌*◌, ◌/◌, ◌≤◌, ◌<◌}
use mathlib.Core.Path.{◌≡◌, refl}
use native.Mathlib.Nat.{mul_comm}
use borrow.Author.Tests.{lt-ltb, le-ltb}
use Rattle.fixed.specs.Fixed.{E9, ln_two, ln_ratio, ln_halved, ln_doubled}

-- ---- by halving y
pub halved_last : (f : ℕ) {y : ℕ} → y < 2 * E9 → ln_halved f y ≡ ln_ratio y E9
unfolding ln_halved
halved_last zero h = refl
halved_last (suc f) {y} h = rw (ln_halved, lt-ltb y (2 * E9) h)

pub halved_more : (f : ℕ) {y : ℕ} → 2 * E9 ≤ y → ln_halved (suc f) y ≡ ln_two + ln_halved f (y / 2)
unfolding ln_halved
halved_more f {y} h = rw (ln_halved, le-ltb y (2 * E9) h)

-- ---- by doubling q
pub doubled_last : (f q : ℕ) {p : ℕ} → p < 2 * q → ln_doubled f p q ≡ ln_ratio p q
unfolding ln_doubled
doubled_last zero q h = refl
doubled_last (suc f) q {p} h = rw (ln_doubled, lt-ltb p (2 * q) h)

pub doubled_more : (f q : ℕ) {p : ℕ} → 2 * q ≤ p → ln_doubled (suc f) p q ≡ ln_two + ln_doubled f p (q * 2)
unfolding ln_doubled
doubled_more f q {p} h = rw (mul_comm q 2, ln_doubled, le-ltb p (2 * q) h)
