-- The logarithm of any number from 1 up: the halvings are as many as are asked for, a power of two adds so many ln 2, it grows, and
-- it moves by at most 73/64 of the relative change of its argument, across powers of two as well. Assumes nothing.
use Prim.Native.Nat.{ℕ, zero, suc, ◌+◌, ◌-◌, ◌*◌, ◌/◌, ◌^◌, ◌≤◌, ◌<◌}
use mathlib.Core.Path.{◌≡◌, refl, sym, ap, subst, ◌∙◌}
use mathlib.Core.Bool.{Bool, true, false}
use native.Mathlib.Omega.{arith}
use native.Mathlib.Decide.{dec_le}
use native.Mathlib.Nat.{le_refl, le_trans, lt_of_lt_of_le, mul-le-mul_left, mul-le-mul_right, mul_assoc, mul_comm, mul_left_comm, mul-add, add-mul, suc-mul, one-mul, zero-mul, mul-zero, pow-succ', pow-le-pow_right, le_of_mul-le-mul_left, le-mul_of_pos_right}
use lib.Dec.{lit≤}
use lib.Pow.{pow_pos}
use borrow.Author.Tests.{lt-ltb, le-ltb}
use Rattle.exact.specs.Series.{ln_unit, ln_halving, ln_from}
use Rattle.exact.proofs.LnSeries.{ln_unit_mono, ln_unit-one}
use Rattle.exact.proofs.LnLip.{ln_unit_lip}

-- ---- the two ways of a halving
pub halving_below : (S n L f x : ℕ) → x < 2 * S → ln_halving S n L (suc f) x ≡ ln_unit S n x
unfolding ln_halving
halving_below S n L f x h =
    ap (λ (b : Bool). elim b as (λ t. ℕ) [ true ↦ ln_unit S n x | false ↦ L + ln_halving S n L f (x / 2) ]) (lt-ltb x (2 * S) h)

pub halving_above : (S n L f x : ℕ) → 2 * S ≤ x → ln_halving S n L (suc f) x ≡ L + ln_halving S n L f (x / 2)
unfolding ln_halving
halving_above S n L f x h =
    ap (λ (b : Bool). elim b as (λ t. ℕ) [ true ↦ ln_unit S n x | false ↦ L + ln_halving S n L f (x / 2) ]) (le-ltb x (2 * S) h)

-- what is below a power of two is, halved, below the power before
pub half-below : (S f x : ℕ) → x < 2 ^ suc (suc f) * S → x / 2 < 2 ^ suc f * S
half-below S f x h = omega (arith, ap (λ (t : ℕ). t * S) (pow-succ' 2 (suc f)), mul_assoc 2 (2 ^ suc f) S)

-- ---- more halvings allowed than asked for change nothing
fuel_step :
    (S n L f x : ℕ) → (2 * S ≤ x → ln_halving S n L (suc f) (x / 2) ≡ ln_halving S n L f (x / 2))
    → ln_halving S n L (suc (suc f)) x ≡ ln_halving S n L (suc f) x
fuel_step S n L f x ih = either (dec_le (2 * S) x)
  where
    either : Dec (2 * S ≤ x) → ln_halving S n L (suc (suc f)) x ≡ ln_halving S n L (suc f) x
    either (yes a) =
        halving_above S n L (suc f) x a ∙ ap (λ (t : ℕ). L + t) (ih a) ∙ sym (halving_above S n L f x a)
    either (no a) = halving_below S n L (suc f) x (omega arith) ∙ sym (halving_below S n L f x (omega arith))

fuel_one : (S n L f x : ℕ) → x < 2 ^ suc f * S → ln_halving S n L (suc f) x ≡ ln_halving S n L f x
unfolding ln_halving
fuel_one S n L zero x h = halving_below S n L 0 x h
fuel_one S n L (suc f) x h = fuel_step S n L f x (λ k. fuel_one S n L f (x / 2) (half-below S f x h))

pub fuel_more : (S n L k f x : ℕ) → x < 2 ^ suc f * S → ln_halving S n L (k + f) x ≡ ln_halving S n L f x
fuel_more S n L zero f x h = let e : 0 + f ≡ f = omega arith in ap (λ (t : ℕ). ln_halving S n L t x) e
fuel_more S n L (suc k) f x h =
    let e : suc k + f ≡ suc (k + f) = omega arith in
    let more : 2 ^ suc f ≤ 2 ^ suc (k + f) = pow-le-pow_right (lit≤ tt) (omega arith) in
    ap (λ (t : ℕ). ln_halving S n L t x) e
    ∙ fuel_one S n L (k + f) x (lt_of_lt_of_le h (mul-le-mul_right S more))
    ∙ fuel_more S n L k f x h

two_power : (x : ℕ) → x < 2 ^ x
two_power zero = lit≤ tt
two_power (suc x) = omega (arith, two_power x, pow-succ' 2 x)

-- a number needs fewer halvings than itself
pub enough : (S x : ℕ) → 0 < S → x < 2 ^ suc x * S
enough S x h_s = lt_of_lt_of_le two (le-mul_of_pos_right (2 ^ suc x) h_s)
  where
    two : x < 2 ^ suc x
    two = omega (arith, two_power x, pow-succ' 2 x)

pub ln_from-at : (S n L f x : ℕ) → 0 < S → x < 2 ^ suc f * S → ln_from S n L x ≡ ln_halving S n L f x
unfolding ln_from
ln_from-at S n L f x h_s h = either (dec_le f x)
  where
    either : Dec (f ≤ x) → ln_halving S n L x x ≡ ln_halving S n L f x
    either (yes k) =
        let e : x ≡ x - f + f = omega arith in
        ap (λ (t : ℕ). ln_halving S n L t x) e ∙ fuel_more S n L (x - f) f x h
    either (no k) =
        let e : f ≡ f - x + x = omega arith in
        sym (ap (λ (t : ℕ). ln_halving S n L t x) e ∙ fuel_more S n L (f - x) x x (enough S x h_s))

-- ---- a power of two adds so many L
pub ln_from-double : (S n L x : ℕ) → 0 < S → S ≤ x → ln_from S n L (2 * x) ≡ L + ln_from S n L x
ln_from-double S n L x h_s hx =
    let half : 2 * x / 2 ≡ x = omega arith in
    ln_from-at S n L (suc x) (2 * x) h_s (omega (arith, enough S x h_s, ap (λ (t : ℕ). t * S) (pow-succ' 2 (suc x)), mul_assoc 2 (2 ^ suc x) S))
    ∙ halving_above S n L x (2 * x) (omega arith)
    ∙ ap (λ (t : ℕ). L + ln_halving S n L x t) half
    ∙ ap (λ (t : ℕ). L + t) (sym (ln_from-at S n L x x h_s (enough S x h_s)))

pub ln_from_power : (S n L s x : ℕ) → 0 < S → S ≤ x → ln_from S n L (2 ^ s * x) ≡ s * L + ln_from S n L x
ln_from_power S n L zero x h_s hx = omega (arith, ap (λ (t : ℕ). ln_from S n L t) (one-mul x), zero-mul L)
ln_from_power S n L (suc s) x h_s hx =
    let e : 2 ^ suc s * x ≡ 2 * (2 ^ s * x) = ap (λ (t : ℕ). t * x) (pow-succ' 2 s) ∙ mul_assoc 2 (2 ^ s) x in
    let big : S ≤ 2 ^ s * x = le_trans hx (omega (arith, mul-le-mul_right x (pow_pos s), one-mul x)) in
    omega (
      arith,
      ap (λ (t : ℕ). ln_from S n L t) e,
      ln_from-double S n L (2 ^ s * x) h_s big,
      ln_from_power S n L s x h_s hx,
      suc-mul s L,
    )

module _ (S n L : ℕ) (h_s : 0 < S) (e_l : L ≡ ln_unit S (suc n) (2 * S)) (L-le : L ≤ S) where
  -- ---- it grows
  mono_step :
      (f x y : ℕ) → S ≤ x → x ≤ y
      → (2 * S ≤ x → ln_halving S (suc n) L f (x / 2) ≤ ln_halving S (suc n) L f (y / 2))
      → ln_halving S (suc n) L (suc f) x ≤ ln_halving S (suc n) L (suc f) y
  mono_step f x y hx h ih = either (dec_le (2 * S) x) (dec_le (2 * S) y)
    where
      either : Dec (2 * S ≤ x) → Dec (2 * S ≤ y) → ln_halving S (suc n) L (suc f) x ≤ ln_halving S (suc n) L (suc f) y
      either (yes a) (yes b) = rw (halving_above S (suc n) L f x a, halving_above S (suc n) L f y b) (omega (arith, ih a))
      either (yes a) (no b) = absurd (omega arith)
      either (no a) (yes b) =
          rw (halving_below S (suc n) L f x (omega arith), halving_above S (suc n) L f y b)
          (omega (arith, e_l, ln_unit_mono S (suc n) x (2 * S) h_s hx (omega arith)))
      either (no a) (no b) =
          rw (halving_below S (suc n) L f x (omega arith), halving_below S (suc n) L f y (omega arith))
          (ln_unit_mono S (suc n) x y h_s hx h)

  ln_halving_mono : (f x y : ℕ) → S ≤ x → x ≤ y → ln_halving S (suc n) L f x ≤ ln_halving S (suc n) L f y
  unfolding ln_halving
  ln_halving_mono zero x y hx h = ln_unit_mono S (suc n) x y h_s hx h
  ln_halving_mono (suc f) x y hx h = mono_step f x y hx h (λ a. ln_halving_mono f (x / 2) (y / 2) (omega arith) (omega arith))

  pub ln_from_mono : (x y : ℕ) → S ≤ x → x ≤ y → ln_from S (suc n) L x ≤ ln_from S (suc n) L y
  ln_from_mono x y hx h =
      rw
      (ln_from-at S (suc n) L y x h_s (below_both h), ln_from-at S (suc n) L y y h_s (enough S y h_s))
      (ln_halving_mono y x y hx h)
    where
      below_both : x ≤ y → x < 2 ^ suc y * S
      below_both k = omega (arith, enough S y h_s)

  -- ---- it is at most one for each power of two
  size_step :
      (f x : ℕ) → S ≤ x → (2 * S ≤ x → ln_halving S (suc n) L f (x / 2) ≤ suc f * S)
      → ln_halving S (suc n) L (suc f) x ≤ suc (suc f) * S
  size_step f x hx ih = either (dec_le (2 * S) x)
    where
      either : Dec (2 * S ≤ x) → ln_halving S (suc n) L (suc f) x ≤ suc (suc f) * S
      either (yes a) = rw (halving_above S (suc n) L f x a) (omega (arith, ih a, suc-mul (suc f) S))
      either (no a) =
          rw (halving_below S (suc n) L f x (omega arith))
          (omega (arith, e_l, ln_unit_mono S (suc n) x (2 * S) h_s hx (omega arith), suc-mul (suc f) S))

  ln_halving-size : (f x : ℕ) → S ≤ x → x < 2 ^ suc f * S → ln_halving S (suc n) L f x ≤ suc f * S
  unfolding ln_halving
  ln_halving-size zero x hx h = omega (arith, e_l, ln_unit_mono S (suc n) x (2 * S) h_s hx (omega arith))
  ln_halving-size (suc f) x hx h = size_step f x hx (λ a. ln_halving-size f (x / 2) (omega arith) (half-below S f x h))

  pub ln_from-size : (f x : ℕ) → S ≤ x → x < 2 ^ suc f * S → ln_from S (suc n) L x ≤ suc f * S
  ln_from-size f x hx h = rw (ln_from-at S (suc n) L f x h_s h) (ln_halving-size f x hx h)

  -- ---- how far it moves: x times the change, so that no quotient is needed. F bounds the halvings, and each costs `slack` units
  module _ (F : ℕ) where
    abbrev pub slack : ℕ
    slack = 500 * n + 2400 + (73 + 64 * F)

    -- both are halved: a is the half of x, r what is left
    half_core :
        (x a r h h' A B c : ℕ) → x ≡ 2 * a + r → r ≤ 1 → 2 * h' ≤ h + 1 → S ≤ x → B ≤ F * S
        → 64 * (a * B) ≤ 64 * (a * A) + 73 * (S * h') + c * a
        → 64 * (x * (L + B)) ≤ 64 * (x * (L + A)) + 73 * (S * h) + (c + slack) * x
    half_core x a r h h' A B c ex hr hh hx h_b ih =
        omega (
          arith,
          mul-add x L B,
          mul-add x L A,
          ap (λ (t : ℕ). t * B) ex,
          add-mul (2 * a) r B,
          mul_assoc 2 a B,
          mul-le-mul_right B hr,
          ap (λ (t : ℕ). t * A) ex,
          add-mul (2 * a) r A,
          mul_assoc 2 a A,
          mul-le-mul_left S hh,
          mul-add S h 1,
          mul_left_comm S 2 h',
          ap (λ (t : ℕ). c * t) ex,
          mul-add c (2 * a) r,
          mul_left_comm c 2 a,
          add-mul c slack x,
          add-mul (500 * n + 2400) (73 + 64 * F) x,
          add-mul 73 (64 * F) x,
          mul_assoc 64 F x,
          mul-le-mul_left F hx,
        )

    -- y alone is halved: from x to 2, and from 1 to b, the half of y
    cross_core :
        (x y b h A B c : ℕ) → y ≡ x + h → x ≤ 2 * S → 2 * S ≤ y → b ≡ y / 2 → S ≤ b
        → 64 * (S * B) ≤ 73 * (S * (b - S)) + c * S
        → 64 * (x * L) ≤ 64 * (x * A) + 73 * (S * (2 * S - x)) + (500 * n + 2400) * x
        → 64 * (x * (L + B)) ≤ 64 * (x * A) + 73 * (S * h) + (c + slack) * x
    cross_core x y b h A B c ey hx hy eb hb ih base =
        let g : ℕ = b - S in
        let change : 64 * B ≤ 73 * g + c =
        le_of_mul-le-mul_left
        (omega (arith, mul_left_comm S 64 B, mul-add S (73 * g) c, mul_left_comm S 73 g, mul_comm S c)) h_s in
        let total : h ≡ 2 * S - x + (y - 2 * S) = omega arith in
        let twice : 2 * g ≤ y - 2 * S = omega arith in
        let right : x * g ≤ S * (y - 2 * S) =
        omega (arith, mul-le-mul_right g hx, mul_assoc 2 S g, mul-le-mul_left S twice, mul_left_comm S 2 g) in
        omega (
          arith,
          mul-add x L B,
          mul-le-mul_left x change,
          mul_left_comm x 64 B,
          mul-add x (73 * g) c,
          mul_left_comm x 73 g,
          mul_comm x c,
          right,
          ap (λ (t : ℕ). S * t) total,
          mul-add S (2 * S - x) (y - 2 * S),
          add-mul c slack x,
          add-mul (500 * n + 2400) (73 + 64 * F) x,
        )

    ln_halving-one : (f : ℕ) → ln_halving S (suc n) L f S ≡ 0
    unfolding ln_halving
    ln_halving-one zero = ln_unit-one S (suc n)
    ln_halving-one (suc f) = halving_below S (suc n) L f S (omega arith) ∙ ln_unit-one S (suc n)

    lip_step :
        (f x y h : ℕ) → suc f ≤ F → S ≤ x → y ≡ x + h → y < 2 ^ suc (suc f) * S
        → ((u v k : ℕ) → S ≤ u → v ≡ u + k → v < 2 ^ suc f * S
        → 64 * (u * ln_halving S (suc n) L f v) ≤ 64 * (u * ln_halving S (suc n) L f u) + 73 * (S * k) + suc f * slack * u)
        → 64 * (x * ln_halving S (suc n) L (suc f) y)
        ≤ 64 * (x * ln_halving S (suc n) L (suc f) x) + 73 * (S * h) + suc (suc f) * slack * x
    lip_step f x y h hF hx e top ih = either (dec_le (2 * S) x) (dec_le (2 * S) y)
      where
        below : y / 2 < 2 ^ suc f * S
        below = half-below S f y top

        more : suc (suc f) * slack ≡ suc f * slack + slack
        more = suc-mul (suc f) slack

        either : Dec (2 * S ≤ x) → Dec (2 * S ≤ y)
            → 64 * (x * ln_halving S (suc n) L (suc f) y)
            ≤ 64 * (x * ln_halving S (suc n) L (suc f) x) + 73 * (S * h) + suc (suc f) * slack * x
        either (yes a) (yes b) =
            let size : ln_halving S (suc n) L f (y / 2) ≤ F * S =
            le_trans (ln_halving-size f (y / 2) (omega arith) below) (mul-le-mul_right S hF) in
            rw (halving_above S (suc n) L f x a, halving_above S (suc n) L f y b, more)
            (half_core x (x / 2) (x - 2 * (x / 2)) h (y / 2 - x / 2) (ln_halving S (suc n) L f (x / 2))
            (ln_halving S (suc n) L f (y / 2)) (suc f * slack) (omega arith) (omega arith) (omega arith) hx size
            (ih (x / 2) (y / 2) (y / 2 - x / 2) (omega arith) (omega arith) below))
        either (yes a) (no b) = absurd (omega arith)
        either (no a) (yes b) =
            let one = ih S (y / 2) (y / 2 - S) (le_refl S) (omega arith) below in
            rw (halving_below S (suc n) L f x (omega arith), halving_above S (suc n) L f y b, more)
            (cross_core x y (y / 2) h (ln_unit S (suc n) x) (ln_halving S (suc n) L f (y / 2)) (suc f * slack) e (omega arith) b refl
            (omega arith)
            (omega (arith, one, ap (λ (t : ℕ). S * t) (ln_halving-one f), mul-zero S))
            (subst
            (λ (t : ℕ). 64 * (x * t) ≤ 64 * (x * ln_unit S (suc n) x) + 73 * (S * (2 * S - x)) + (500 * n + 2400) * x)
            (sym e_l)
            (ln_unit_lip S n x (2 * S) (2 * S - x) h_s hx (omega arith) (le_refl (2 * S)))))
        either (no a) (no b) =
            rw (halving_below S (suc n) L f x (omega arith), halving_below S (suc n) L f y (omega arith), more)
            (omega (
              arith,
              ln_unit_lip S n x y h h_s hx e (omega arith),
              add-mul (suc f * slack) slack x,
              add-mul (500 * n + 2400) (73 + 64 * F) x,
            ))

    ln_halving_lip :
        (f x y h : ℕ) → suc f ≤ F → S ≤ x → y ≡ x + h → y < 2 ^ suc f * S
        → 64 * (x * ln_halving S (suc n) L f y) ≤ 64 * (x * ln_halving S (suc n) L f x) + 73 * (S * h) + suc f * slack * x
    unfolding ln_halving
    ln_halving_lip zero x y h hF hx e top =
        omega (
          arith,
          ln_unit_lip S n x y h h_s hx e (omega arith),
          ap (λ (t : ℕ). t * x) (one-mul slack),
          add-mul (500 * n + 2400) (73 + 64 * F) x,
        )
    ln_halving_lip (suc f) x y h hF hx e top =
        lip_step f x y h (omega arith) hx e top (λ u v k hu ev tv. ln_halving_lip f u v k (omega arith) hu ev tv)

    pub ln_from_lip :
        (f x y h : ℕ) → suc f ≤ F → S ≤ x → y ≡ x + h → y < 2 ^ suc f * S
        → 64 * (x * ln_from S (suc n) L y) ≤ 64 * (x * ln_from S (suc n) L x) + 73 * (S * h) + suc f * slack * x
    ln_from_lip f x y h hF hx e top =
        rw (ln_from-at S (suc n) L f y h_s top, ln_from-at S (suc n) L f x h_s (omega arith))
        (ln_halving_lip f x y h hF hx e top)
