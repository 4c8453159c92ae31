-- The exact logarithm: its value by any power of two put in, that it grows, and how far it moves. Assumes nothing.
use Prim.Native.Nat.{ℕ, ◌+◌, ◌-◌, ◌*◌, ◌^◌, ◌≤◌, ◌<◌}
use mathlib.Core.Path.{◌≡◌, refl, sym, ap, ◌∙◌}
use native.Mathlib.Omega.{arith}
use native.Mathlib.Decide.{dec_le}
use native.Mathlib.Nat.{le_refl, le_trans, le_of_eq, lt_of_le_of_lt, mul-le-mul_left, mul-le-mul_right, mul_assoc, mul_comm, mul_left_comm, mul_right_comm, mul-add, add-mul, add-zero, le_of_mul-le-mul_left}
use lib.Dec.{lit≤, lit<}
use lib.IntN.{ℤ, pos, ◌-ℤ◌}
use lib.Pow.{pow-add}
use Rattle.exact.specs.Near.{up, dn, Within}
use Rattle.exact.specs.Laws.{Rel}
use Rattle.exact.specs.Series.{ln_unit, ln2, ln_from}
use Rattle.exact.specs.Exact.{E30, ln_e}
use Rattle.exact.proofs.Signed.{sub_is}
use Rattle.exact.proofs.LnWhole.{ln_from_power, ln_from_mono, ln_from_lip}

-- ---- ln 2, computed once
abbrev pub L30 : ℕ
L30 = 693147180559945309417232121428

pub ln2-is : ln2 E30 60 ≡ L30
unfolding ln2
ln2-is = refl

-- the series at 2 has the same z
pub L30-unit : L30 ≡ ln_unit E30 60 (2 * E30)
unfolding ln_unit
L30-unit = refl

-- ---- s powers of two put in make x a number from 1 up, whose logarithm has s times ln 2 too much
ln_e-is : (x : ℕ) → ln_e x ≡ pos (ln_from E30 60 L30 (2 ^ 100 * x)) -ℤ pos (100 * L30)
unfolding ln_e
ln_e-is x = ap (λ (l : ℕ). pos (ln_from E30 60 l (2 ^ 100 * x)) -ℤ pos (100 * l)) ln2-is

pub ln_e-parts : (s x : ℕ) → s ≤ 100 → E30 ≤ 2 ^ s * x → up (ln_e x) + s * L30 ≡ dn (ln_e x) + ln_from E30 60 L30 (2 ^ s * x)
ln_e-parts s x hs hx =
    let k : ℕ = 100 - s in
    let e : k + s ≡ 100 = omega arith in
    let power : 2 ^ k * (2 ^ s * x) ≡ 2 ^ 100 * x =
    sym (mul_assoc (2 ^ k) (2 ^ s) x) ∙ ap (λ (t : ℕ). t * x) (sym (pow-add 2 k s) ∙ ap (λ (t : ℕ). 2 ^ t) e) in
    let A : ℕ = ln_from E30 60 L30 (2 ^ 100 * x) in
    rw (ln_e-is x)
    (fin L30 k A (ln_from E30 60 L30 (2 ^ s * x)) (pos A -ℤ pos (100 * L30)) e (sub_is (pos A) (pos (100 * L30)))
    (ap (λ (t : ℕ). ln_from E30 60 L30 t) (sym power) ∙ ln_from_power E30 60 L30 k (2 ^ s * x) (lit≤ tt) hx))
  where
    fin : (L k A B : ℕ) (z : ℤ) → k + s ≡ 100 → up z + (0 + 100 * L) ≡ dn z + (A + 0) → A ≡ k * L + B → up z + s * L ≡ dn z + B
    fin L k A B z e p q = omega (arith, p, q, ap (λ (t : ℕ). t * L) e, add-mul k s L)

-- every number above 0 is 1 or more once a hundred powers of two are put in
pub full : (x : ℕ) → 0 < x → E30 ≤ 2 ^ 100 * x
full x h = le_trans (lit≤ tt) (mul-le-mul_left (2 ^ 100) h)

-- ---- it grows
pub ln_e_mono : (x y : ℕ) → 0 < x → x ≤ y → up (ln_e x) + dn (ln_e y) ≤ up (ln_e y) + dn (ln_e x)
ln_e_mono x y hx h =
    fin (100 * L30) _ _ (ln_e x) (ln_e y)
    (ln_e-parts 100 x (le_refl 100) (full x hx))
    (ln_e-parts 100 y (le_refl 100) (full y (le_trans hx h)))
    (ln_from_mono E30 59 L30 (lit≤ tt) L30-unit (lit≤ tt) (2 ^ 100 * x) (2 ^ 100 * y) (full x hx) (mul-le-mul_left (2 ^ 100) h))
  where
    fin : (l A B : ℕ) (a b : ℤ) → up a + l ≡ dn a + A → up b + l ≡ dn b + B → A ≤ B → up a + dn b ≤ up b + dn a
    fin l A B a b p q k = omega arith

-- ---- how far it moves
-- a change of ρ/N of the argument, brought to units of K
relative :
    (S N K a h ρ A B c : ℕ) → N * K ≡ S → 0 < a → h * N ≤ a * ρ → 64 * (a * B) ≤ 64 * (a * A) + 73 * (S * h) + c * a
    → 64 * B ≤ 64 * A + 73 * (ρ * K) + c
relative S N K a h ρ A B c e_s ha hh k =
    le_of_mul-le-mul_left
    (omega (
      arith,
      k,
      turn,
      mul_left_comm a 64 B,
      mul-add a (64 * A + 73 * (ρ * K)) c,
      mul-add a (64 * A) (73 * (ρ * K)),
      mul_left_comm a 64 A,
      mul_left_comm a 73 (ρ * K),
      mul_comm a c,
    ))
    ha
  where
    turn : S * h ≤ a * (ρ * K)
    turn =
        omega (
          arith,
          ap (λ (t : ℕ). t * h) e_s,
          mul_right_comm N K h,
          ap (λ (t : ℕ). t * K) (mul_comm N h),
          mul-le-mul_right K hh,
          mul_assoc a ρ K,
        )

-- below 2^201 what is lost to rounding stays under ten million units
abbrev ln_slack : ℕ
ln_slack = 201 * (500 * 59 + 2400 + (73 + 64 * 201))

-- two numbers ρ parts in N apart have logarithms within e units of K, where 64 e is more than 73 ρ
module _ (N K ρ e : ℕ) (e_s : N * K ≡ E30) (h_k : 10000000 ≤ K) (he : 73 * ρ + 1 ≤ 64 * e) where
  pub ln_from-near :
      (x y : ℕ) → E30 ≤ x → E30 ≤ y → y < 2 ^ 201 * E30 → y * N ≤ x * (N + ρ)
      → ln_from E30 60 L30 y ≤ ln_from E30 60 L30 x + e * K
  ln_from-near x y hx hy top r = either (dec_le x y)
    where
      apart : (h : ℕ) → y ≡ x + h → h * N ≤ x * ρ
      apart h k = omega (arith, r, ap (λ (t : ℕ). t * N) k, add-mul x h N, mul-add x N ρ)

      fin : (A B c : ℕ) → 64 * B ≤ 64 * A + 73 * (ρ * K) + c → c ≤ K → B ≤ A + e * K
      fin A B c h k = omega (arith, mul-le-mul_right K he, mul_assoc 64 e K, add-mul (73 * ρ) 1 K, mul_assoc 73 ρ K)

      more : (A B m : ℕ) → B ≤ A → B ≤ A + m
      more A B m h = omega arith

      either : Dec (x ≤ y) → ln_from E30 60 L30 y ≤ ln_from E30 60 L30 x + e * K
      either (yes h) =
          let ey : y ≡ x + (y - x) = omega arith in
          fin (ln_from E30 60 L30 x) (ln_from E30 60 L30 y) ln_slack
          (relative E30 N K x (y - x) ρ _ _ ln_slack e_s (le_trans (lit≤ tt) hx) (apart (y - x) ey)
          (ln_from_lip E30 59 L30 (lit≤ tt) L30-unit (lit≤ tt) 201 200 x y (y - x) (le_refl 201) hx ey top))
          (le_trans (lit≤ tt) h_k)
      either (no h) = more _ _ (e * K) (ln_from_mono E30 59 L30 (lit≤ tt) L30-unit (lit≤ tt) y x hy (omega arith))

  side : (x y : ℕ) → 0 < x → 0 < y → y ≤ 2 ^ 100 * E30 → y * N ≤ x * (N + ρ) → up (ln_e y) + dn (ln_e x) ≤ up (ln_e x) + dn (ln_e y) + e * K
  side x y hx hy top r =
      fin (100 * L30) _ _ (e * K) (ln_e x) (ln_e y)
      (ln_e-parts 100 x (le_refl 100) (full x hx))
      (ln_e-parts 100 y (le_refl 100) (full y hy))
      (ln_from-near (2 ^ 100 * x) (2 ^ 100 * y) (full x hx) (full y hy) (lt_of_le_of_lt (mul-le-mul_left (2 ^ 100) top) (lit< tt))
      (times (2 ^ 100) (N + ρ) r))
    where
      fin : (l A B m : ℕ) (a b : ℤ) → up a + l ≡ dn a + A → up b + l ≡ dn b + B → B ≤ A + m → up b + dn a ≤ up a + dn b + m
      fin l A B m a b p q h = omega arith

      times : (P M : ℕ) → y * N ≤ x * M → P * y * N ≤ P * x * M
      times P M h = omega (arith, mul_assoc P y N, mul_assoc P x M, mul-le-mul_left P h)

  pub ln_e-near :
      (x y : ℕ) → 0 < x → 0 < y → x ≤ 2 ^ 100 * E30 → y ≤ 2 ^ 100 * E30 → Rel N ρ 0 x y → Within (e * K) (ln_e x) (ln_e y)
  ln_e-near x y hx hy tx ty r =
      record {
        low = side y x hy hx tx (le_trans r.low (le_of_eq (add-zero (y * (N + ρ)))));
        high = side x y hx hy ty (le_trans r.high (le_of_eq (add-zero (x * (N + ρ)))));
      }
