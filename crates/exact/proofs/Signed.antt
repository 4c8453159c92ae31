-- Signed numbers for `omega`, which reads ℕ alone: each ℤ by its two parts, `up` and `dn`, of which one is 0. Every law turns an
-- operation, a test or a range on ℤ into linear facts on the parts. Assumes nothing.
use Prim.Native.Nat.{ℕ, zero, suc, ◌+◌, ◌-◌, ◌*◌, ◌/◌, ◌%◌, ◌^◌, ◌≤◌, ◌<◌, zero-le}
use mathlib.Core.Path.{◌≡◌, refl, sym, ap, subst, ◌∙◌}
use mathlib.Core.Bool.{Bool, true, false, not, cond}
use native.Mathlib.Omega.{arith}
use native.Mathlib.Nat.{mul-le-mul, mul-add, add-mul, mul_assoc, mul-zero, zero-mul, zero-div, zero-mod, div-le_of_le-mul}
use lib.Dec.{T, ltb, ltb→lt}
use lib.IntN.{ℤ, pos, negsuc, neg_ℤ, nat_abs, sub_ℕ, ◌+ℤ◌, ◌-ℤ◌, ◌*ℤ◌}
use lib.Signed.{mag, lt_z, le_z, non_neg, quot_z, rem_z}
use borrow.Author.Tests.{ltb-true, ltb-false, leb-true, leb-false}
use mir.Syntax.{w64}
use mir.Val.{Fits, SFits, to_z, of_z}
use mir.Facts.{to_z-of_z}
use Rattle.exact.specs.Near.{up, dn}

-- ---- a number and its parts
pub by_sign : {P : Type 0} (z : ℤ) → (dn z ≡ 0 → P) → (up z ≡ 0 → P) → P
by_sign (pos n) f g = f refl
by_sign (negsuc n) f g = g refl

pub abs-parts : (z : ℤ) → nat_abs z ≡ up z + dn z
abs-parts (pos n) = omega arith
abs-parts (negsuc n) = omega arith

never : {P : Type 0} {n : ℕ} → suc n ≡ 0 → P
never h = absurd (omega arith)

pub same_parts : (a b : ℤ) → up a ≡ up b → dn a ≡ dn b → a ≡ b
same_parts (pos a) (pos b) e f = ap pos e
same_parts (pos a) (negsuc b) e f = never (sym f)
same_parts (negsuc a) (pos b) e f = never f
same_parts (negsuc a) (negsuc b) e f = ap negsuc (less a b f)
  where
    less : (m n : ℕ) → suc m ≡ suc n → m ≡ n
    less m n h = omega arith

-- two numbers are equal where their differences are
pub same_diff : (a b : ℤ) → up a + dn b ≡ up b + dn a → a ≡ b
same_diff a b e =
    by_sign a
    (λ h. by_sign b (λ k. same_parts a b (omega arith) (omega arith)) (λ k. same_parts a b (omega arith) (omega arith)))
    (λ h. by_sign b (λ k. same_parts a b (omega arith) (omega arith)) (λ k. same_parts a b (omega arith) (omega arith)))

-- ---- the range of an i64
pub sfits : (z : ℤ) → up z < 2 ^ 63 → dn z ≤ 2 ^ 63 → SFits w64 z
sfits (pos n) h k = record { sfits = h }
sfits (negsuc n) h k = record { sfits = k }

pub sfits-abs : (z : ℤ) → nat_abs z < 2 ^ 63 → SFits w64 z
sfits-abs z h = sfits z (omega (arith, abs-parts z)) (omega (arith, abs-parts z))

pub lit_fits : (z : ℤ) → T (ltb (mag z) (2 ^ 63)) → SFits w64 z
lit_fits z t = record { sfits = ltb→lt (mag z) (2 ^ 63) t }

pub up_lt : (z : ℤ) → SFits w64 z → up z < 2 ^ 63
up_lt (pos n) h = h.sfits
up_lt (negsuc n) h = omega arith

pub dn-le : (z : ℤ) → SFits w64 z → dn z ≤ 2 ^ 63
dn-le (pos n) h = zero-le
dn-le (negsuc n) h = h.sfits

-- ---- a test, of the numbers themselves where the machine read them back from their bits
pub lt-read : {a b : ℤ} {t : Bool} → SFits w64 a → SFits w64 b → lt_z (to_z w64 (of_z w64 a)) (to_z w64 (of_z w64 b)) ≡ t → lt_z a b ≡ t
lt-read f g e = simp (to_z-of_z f, to_z-of_z g) at e

pub le_read : {a b : ℤ} {t : Bool} → SFits w64 a → SFits w64 b → le_z (to_z w64 (of_z w64 a)) (to_z w64 (of_z w64 b)) ≡ t → le_z a b ≡ t
le_read f g e = simp (to_z-of_z f, to_z-of_z g) at e

-- a test as an order of parts
pub lt-parts : (a b : ℤ) → lt_z a b ≡ true → up a + dn b < up b + dn a
lt-parts (pos a) (pos b) e = omega (arith, ltb-true a b e)
lt-parts (pos a) (negsuc b) e = absurd (subst (λ (t : Bool). T (not t)) e tt)
lt-parts (negsuc a) (pos b) e = omega arith
lt-parts (negsuc a) (negsuc b) e = omega (arith, ltb-true b a e)

pub nlt_parts : (a b : ℤ) → lt_z a b ≡ false → up b + dn a ≤ up a + dn b
nlt_parts (pos a) (pos b) e = omega (arith, ltb-false a b e)
nlt_parts (pos a) (negsuc b) e = omega arith
nlt_parts (negsuc a) (pos b) e = absurd (subst T e tt)
nlt_parts (negsuc a) (negsuc b) e = omega (arith, ltb-false b a e)

pub le_parts : (a b : ℤ) → le_z a b ≡ true → up a + dn b ≤ up b + dn a
le_parts (pos a) (pos b) e = omega (arith, leb-true a b e)
le_parts (pos a) (negsuc b) e = absurd (subst (λ (t : Bool). T (not t)) e tt)
le_parts (negsuc a) (pos b) e = omega arith
le_parts (negsuc a) (negsuc b) e = omega (arith, leb-true b a e)

pub nle_parts : (a b : ℤ) → le_z a b ≡ false → up b + dn a < up a + dn b
nle_parts (pos a) (pos b) e = omega (arith, leb-false a b e)
nle_parts (pos a) (negsuc b) e = omega arith
nle_parts (negsuc a) (pos b) e = absurd (subst T e tt)
nle_parts (negsuc a) (negsuc b) e = omega (arith, leb-false b a e)

-- and an order of parts as a test
bool_case : {P : Type 0} (t : Bool) → (t ≡ true → P) → (t ≡ false → P) → P
bool_case true f g = f refl
bool_case false f g = g refl

pub le_true : (a b : ℤ) → up a + dn b ≤ up b + dn a → le_z a b ≡ true
le_true a b h = bool_case (le_z a b) (λ e. e) (λ e. absurd (omega (arith, nle_parts a b e)))

pub le_false : (a b : ℤ) → up b + dn a < up a + dn b → le_z a b ≡ false
le_false a b h = bool_case (le_z a b) (λ e. absurd (omega (arith, le_parts a b e))) (λ e. e)

pub lt_true : (a b : ℤ) → up a + dn b < up b + dn a → lt_z a b ≡ true
lt_true a b h = bool_case (lt_z a b) (λ e. e) (λ e. absurd (omega (arith, nlt_parts a b e)))

pub lt_false : (a b : ℤ) → up b + dn a ≤ up a + dn b → lt_z a b ≡ false
lt_false a b h = bool_case (lt_z a b) (λ e. absurd (omega (arith, lt-parts a b e))) (λ e. e)

pub not_lt : (a b : ℤ) (t : Bool) → lt_z a b ≡ t → le_z b a ≡ not t
not_lt a b true e = le_false b a (lt-parts a b e)
not_lt a b false e = le_true b a (nlt_parts a b e)

-- ---- sums
sub_parts : (a b : ℕ) → up (sub_ℕ a b) + b ≡ dn (sub_ℕ a b) + a
sub_parts a b = go (ltb a b) refl
  where
    go : (t : Bool) → ltb a b ≡ t → up (cond t (negsuc (b - suc a)) (pos (a - b))) + b ≡ dn (cond t (negsuc (b - suc a)) (pos (a - b))) + a
    go true e = omega (arith, ltb-true a b e)
    go false e = omega (arith, ltb-false a b e)

pub add_parts : (a b : ℤ) → up (a +ℤ b) + (dn a + dn b) ≡ dn (a +ℤ b) + (up a + up b)
add_parts (pos a) (pos b) = omega arith
add_parts (pos a) (negsuc b) = omega (arith, sub_parts a (suc b))
add_parts (negsuc a) (pos b) = omega (arith, sub_parts b (suc a))
add_parts (negsuc a) (negsuc b) = omega arith

pub neg-up : (a : ℤ) → up (neg_ℤ a) ≡ dn a
neg-up (pos zero) = refl
neg-up (pos (suc n)) = refl
neg-up (negsuc n) = refl

pub neg-dn : (a : ℤ) → dn (neg_ℤ a) ≡ up a
neg-dn (pos zero) = refl
neg-dn (pos (suc n)) = refl
neg-dn (negsuc n) = refl

pub sub_is : (a b : ℤ) → up (a -ℤ b) + (dn a + up b) ≡ dn (a -ℤ b) + (up a + dn b)
sub_is a b = omega (arith, add_parts a (neg_ℤ b), neg-up b, neg-dn b)

pub add-abs : (a b : ℤ) → nat_abs (a +ℤ b) ≤ nat_abs a + nat_abs b
add-abs a b =
    by_sign (a +ℤ b)
    (λ h. omega (arith, add_parts a b, abs-parts a, abs-parts b, abs-parts (a +ℤ b)))
    (λ h. omega (arith, add_parts a b, abs-parts a, abs-parts b, abs-parts (a +ℤ b)))

pub neg-abs : (a : ℤ) → nat_abs (neg_ℤ a) ≡ nat_abs a
neg-abs a = omega (arith, abs-parts a, abs-parts (neg_ℤ a), neg-up a, neg-dn a)

-- ---- products
pub mul-up : (a b : ℤ) → up (a *ℤ b) ≡ up a * up b + dn a * dn b
mul-up (pos a) (pos b) = omega (arith, zero-mul 0)
mul-up (pos a) (negsuc b) = neg-up (pos (a * suc b)) ∙ omega (arith, mul-zero a, zero-mul (suc b))
mul-up (negsuc a) (pos b) = neg-up (pos (suc a * b)) ∙ omega (arith, mul-zero (suc a), zero-mul b)
mul-up (negsuc a) (negsuc b) = omega (arith, zero-mul 0)

pub mul-dn : (a b : ℤ) → dn (a *ℤ b) ≡ up a * dn b + dn a * up b
mul-dn (pos a) (pos b) = omega (arith, mul-zero a, zero-mul b)
mul-dn (pos a) (negsuc b) = neg-dn (pos (a * suc b)) ∙ omega (arith, zero-mul 0)
mul-dn (negsuc a) (pos b) = neg-dn (pos (suc a * b)) ∙ omega (arith, zero-mul 0)
mul-dn (negsuc a) (negsuc b) = omega (arith, mul-zero (suc a), zero-mul (suc b))

-- the parts of a multiple by a number without a sign
pub scaled_up : (a : ℤ) (K : ℕ) → up (a *ℤ pos K) ≡ up a * K
scaled_up a K = omega (arith, mul-up a (pos K), mul-zero (dn a))

pub scaled_dn : (a : ℤ) (K : ℕ) → dn (a *ℤ pos K) ≡ dn a * K
scaled_dn a K = omega (arith, mul-dn a (pos K), mul-zero (up a))

pub mul-abs : (a b : ℤ) → nat_abs (a *ℤ b) ≡ nat_abs a * nat_abs b
mul-abs (pos a) (pos b) = refl
mul-abs (pos a) (negsuc b) = neg-abs (pos (a * suc b))
mul-abs (negsuc a) (pos b) = neg-abs (pos (suc a * b))
mul-abs (negsuc a) (negsuc b) = refl

pub mul-abs-le : (a b : ℤ) {A B : ℕ} → nat_abs a ≤ A → nat_abs b ≤ B → nat_abs (a *ℤ b) ≤ A * B
mul-abs-le a b h k = rw (mul-abs a b) (mul-le-mul h k)

-- ---- quotients toward zero by a number above 0: each part is divided
pub quot-up : (a : ℤ) (d : ℕ) → up (quot_z a (pos d)) ≡ up a / d
quot-up (pos a) d = refl
quot-up (negsuc a) d = neg-up (pos (suc a / d)) ∙ sym (zero-div d)

pub quot-dn : (a : ℤ) (d : ℕ) → dn (quot_z a (pos d)) ≡ dn a / d
quot-dn (pos a) d = sym (zero-div d)
quot-dn (negsuc a) d = neg-dn (pos (suc a / d))

pub rem-up : (a : ℤ) (d : ℕ) → up (rem_z a (pos d)) ≡ up a % d
rem-up (pos a) d = refl
rem-up (negsuc a) d = neg-up (pos (suc a % d)) ∙ sym (zero-mod d)

pub rem-dn : (a : ℤ) (d : ℕ) → dn (rem_z a (pos d)) ≡ dn a % d
rem-dn (pos a) d = sym (zero-mod d)
rem-dn (negsuc a) d = neg-dn (pos (suc a % d))

-- and by any number: the sizes are divided
pub quot-abs : (a b : ℤ) → nat_abs (quot_z a b) ≡ nat_abs a / nat_abs b
quot-abs (pos a) (pos b) = refl
quot-abs (pos a) (negsuc b) = neg-abs (pos (a / suc b))
quot-abs (negsuc a) (pos b) = neg-abs (pos (suc a / b))
quot-abs (negsuc a) (negsuc b) = refl

pub quot-abs-le : (a : ℤ) (d : ℕ) {A : ℕ} → nat_abs a ≤ d * A → nat_abs (quot_z a (pos d)) ≤ A
quot-abs-le a d h = rw (quot-abs a (pos d)) (div-le_of_le-mul d h)

-- ---- casts and divisors
pub nonneg : (z : ℤ) → dn z ≡ 0 → T (non_neg z)
nonneg (pos n) h = tt
nonneg (negsuc n) h = never h

pub not_below : (z : ℤ) → lt_z z (pos 0) ≡ false → dn z ≡ 0
not_below z l = by_sign z (λ a. a) (λ a. omega (arith, nlt_parts z (pos 0) l))

-- what `z as u64` asks
pub as_unsigned : (z : ℤ) → SFits w64 z → dn z ≡ 0 → T (non_neg z) × Fits w64 (nat_abs z)
as_unsigned z f h = (nonneg z h, record { fits = omega (arith, abs-parts z, up_lt z f) })

-- what `/ z` asks
pub bits_pos : (z : ℤ) → SFits w64 z → 1 ≤ nat_abs z → 0 < of_z w64 z
bits_pos (pos n) f h = h
bits_pos (negsuc n) f h = omega (arith, f.sfits)

-- ---- the ring laws that `lib.IntN` lacks
pub *ℤ-assoc : (a b c : ℤ) → a *ℤ b *ℤ c ≡ a *ℤ (b *ℤ c)
*ℤ-assoc a b c =
    same_parts (a *ℤ b *ℤ c) (a *ℤ (b *ℤ c))
    (rw (mul-up (a *ℤ b) c, mul-up a (b *ℤ c), mul-up a b, mul-dn a b, mul-up b c, mul-dn b c)
    (simp (add-mul, mul-add, mul_assoc) (omega arith)))
    (rw (mul-dn (a *ℤ b) c, mul-dn a (b *ℤ c), mul-up a b, mul-dn a b, mul-up b c, mul-dn b c)
    (simp (add-mul, mul-add, mul_assoc) (omega arith)))

pub *ℤ-+ℤ : (a b c : ℤ) → a *ℤ (b +ℤ c) ≡ a *ℤ b +ℤ a *ℤ c
*ℤ-+ℤ a b c =
    let s : ℤ = b +ℤ c in
    let e : up s + (dn b + dn c) ≡ dn s + (up b + up c) = add_parts b c in
    same_diff (a *ℤ s) (a *ℤ b +ℤ a *ℤ c)
    (omega (
      arith,
      add_parts (a *ℤ b) (a *ℤ c),
      mul-up a s,
      mul-dn a s,
      mul-up a b,
      mul-dn a b,
      mul-up a c,
      mul-dn a c,
      spread (up a) (up s) (dn b) (dn c) (dn s) (up b) (up c) e,
      spread (dn a) (up s) (dn b) (dn c) (dn s) (up b) (up c) e,
    ))
  where
    spread : (k p q r t u v : ℕ) → p + (q + r) ≡ t + (u + v) → k * p + (k * q + k * r) ≡ k * t + (k * u + k * v)
    spread k p q r t u v e =
        omega (arith, ap (λ (n : ℕ). k * n) e, mul-add k p (q + r), mul-add k q r, mul-add k t (u + v), mul-add k u v)
