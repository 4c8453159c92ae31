-- The exact exponential: its value by any multiples of ln 2 put in, that it grows, and how far it moves. Assumes nothing.
use Prim.Native.Nat.{ℕ, ◌+◌, ◌-◌, ◌*◌, ◌/◌, ◌^◌, ◌≤◌, ◌<◌}
use mathlib.Core.Path.{◌≡◌, sym, ap, subst, subst₂, ◌∙◌}
use native.Mathlib.Omega.{arith}
use native.Mathlib.Decide.{dec_le}
use native.Mathlib.Nat.{le_trans, le_of_lt, lt_of_not-le, mul-le-mul_left, mul-le-mul_right, mul_assoc, mul_comm, mul_left_comm, mul_right_comm, mul-add, add-mul, le_of_mul-le-mul_left, le_of_mul-le-mul_right, le-mul_of_pos_right}
use lib.Dec.{lit≤}
use lib.IntN.{ℤ, nat_abs}
use lib.Pow.{pow_pos}
use Rattle.exact.specs.Near.{up, dn, Within}
use Rattle.exact.specs.Laws.{Rel}
use Rattle.exact.specs.Series.{exp_series, exp_from, exp_whole}
use Rattle.exact.specs.Exact.{E30, exp_e}
use Rattle.exact.proofs.Signed.{abs-parts}
use Rattle.exact.proofs.Quotients.{div-le}
use Rattle.exact.proofs.ExpWhole.{exp_from_mono, exp_from_lip, exp_whole_offset}
use Rattle.exact.proofs.LnExact.{L30, ln2-is}
use Rattle.exact.proofs.RelLaws.{rel_sym, rel_quot}

-- ---- at ln 2 the series has reached 2 but for 75 units
pub two_top : exp_series E30 60 L30 ≤ 2 * E30
unfolding exp_series
two_top = lit≤ tt

pub two_near : 2 * E30 ≤ exp_series E30 60 L30 + 75
unfolding exp_series
two_near = lit≤ tt

-- ---- N multiples of ln 2 put in make x a number y from 0 up, whose exponential has N powers of two too many
pub exp_e_offset : (x : ℤ) (N y : ℕ) → up x + N * L30 ≡ dn x + y → exp_e x ≡ exp_from E30 60 L30 y / 2 ^ N
unfolding exp_e
exp_e_offset x N y e =
    ap (λ (l : ℕ). exp_whole E30 60 l x) ln2-is ∙ exp_whole_offset E30 59 L30 (lit≤ tt) (lit≤ tt) (lit≤ tt) two_top two_near x N y e

-- enough multiples for two numbers at once, and x with so many put in
both : ℤ → ℤ → ℕ
both x y = nat_abs x + nat_abs y

raised : ℕ → ℤ → ℕ
raised N x = up x + N * L30 - dn x

raised_is : (N : ℕ) (x : ℤ) → nat_abs x ≤ N → up x + N * L30 ≡ dn x + raised N x
unfolding raised
raised_is N x h = go (up x) (dn x) L30 (lit≤ tt) (omega (arith, abs-parts x))
  where
    go : (u d l : ℕ) → 1 ≤ l → d ≤ N → u + N * l ≡ d + (u + N * l - d)
    go u d l hl k = omega (arith, le-mul_of_pos_right N hl)

left_is : (x y : ℤ) → up x + both x y * L30 ≡ dn x + raised (both x y) x
unfolding both
left_is x y = raised_is (nat_abs x + nat_abs y) x (omega arith)

right_is : (x y : ℤ) → up y + both x y * L30 ≡ dn y + raised (both x y) y
unfolding both
right_is x y = raised_is (nat_abs x + nat_abs y) y (omega arith)

apart :
    (l d X Y : ℕ) (x y : ℤ) → up x + l ≡ dn x + X → up y + l ≡ dn y + Y → up x + dn y ≤ up y + dn x + d → X ≤ Y + d
apart l d X Y x y p q h = omega arith

-- ---- it grows
pub exp_e_mono : (x y : ℤ) → up x + dn y ≤ up y + dn x → exp_e x ≤ exp_e y
exp_e_mono x y h =
    let N : ℕ = both x y in
    let X : ℕ = raised N x in
    let Y : ℕ = raised N y in
    subst₂ (λ (a b : ℕ). a ≤ b) (sym (exp_e_offset x N X (left_is x y))) (sym (exp_e_offset y N Y (right_is x y)))
    (div-le (2 ^ N)
    (exp_from_mono E30 59 L30 (lit≤ tt) (lit≤ tt) (lit≤ tt) two_top two_near X Y
    (none X Y (apart (N * L30) 0 X Y x y (left_is x y) (right_is x y) (more (up x) (dn y) (up y) (dn x) h)))))
  where
    more : (a b c d : ℕ) → a + b ≤ c + d → a + b ≤ c + d + 0
    more a b c d k = omega arith

    none : (a b : ℕ) → a ≤ b + 0 → a ≤ b
    none a b k = omega arith

-- ---- how far it moves
-- N B ≤ N A + e B + A makes B at most 1 + (e + 2)/N of A, where e² + 2 e ≤ N; m is N - e
relative : (m e N A B : ℕ) → N ≡ m + e → 0 < m → e * e + 2 * e ≤ N → N * B ≤ N * A + e * B + A → B * N ≤ A * (N + (e + 2))
relative m e N A B eN hm small h = le_of_mul-le-mul_right both_sides hm
  where
    one : m * B ≤ (N + 1) * A
    one = omega (arith, h, ap (λ (t : ℕ). t * B) eN, add-mul m e B, add-mul N 1 A)

    square : e * e + e ≤ m → (m + e + 1) * (m + e) ≤ (m + e + (e + 2)) * m
    square k = simp (mul-add, add-mul) (omega (arith, mul_comm m e))

    two : (N + 1) * N ≤ (N + (e + 2)) * m
    two = subst (λ (t : ℕ). (t + 1) * t ≤ (t + (e + 2)) * m) (sym eN) (square (omega arith))

    left : B * N * m ≡ m * B * N
    left = simp (mul_assoc, mul_comm, mul_left_comm)

    middle : (N + 1) * A * N ≡ A * ((N + 1) * N)
    middle = mul_right_comm (N + 1) A N ∙ mul_comm ((N + 1) * N) A

    both_sides : B * N * m ≤ A * (N + (e + 2)) * m
    both_sides = omega (arith, left, middle, mul-le-mul_right N one, mul-le-mul_left A two, mul_assoc A (N + (e + 2)) m)

-- the law at units of K, and its rounding slack below one of them
coarser :
    (S N K d e A B c : ℕ) → N * K ≡ S → 0 < K → d ≤ e * K → c ≤ K → S * B ≤ S * A + d * B + c * A → N * B ≤ N * A + e * B + A
coarser S N K d e A B c e_s h_k hd hc k =
    le_of_mul-le-mul_left
    (omega (
      arith,
      k,
      ap (λ (t : ℕ). t * B) e_s,
      ap (λ (t : ℕ). t * A) e_s,
      ap (λ (t : ℕ). t * B) (mul_comm N K),
      ap (λ (t : ℕ). t * A) (mul_comm N K),
      mul_assoc K N B,
      mul_assoc K N A,
      mul-le-mul_right B hd,
      ap (λ (t : ℕ). t * B) (mul_comm e K),
      mul_assoc K e B,
      mul-le-mul_right A hc,
      mul-add K (N * A + e * B) A,
      mul-add K (N * A) (e * B),
    ))
    h_k

module _ (N K e : ℕ) (e_s : N * K ≡ E30) (h_k : 2000 ≤ K) (small : e * e + 2 * e ≤ N) (pos_n : 0 < N) (span : e * K ≤ L30) where
  ordered : (X Y : ℕ) → X ≤ Y → Y ≤ X + e * K → Rel N (e + 2) 0 (exp_from E30 60 L30 X) (exp_from E30 60 L30 Y)
  ordered X Y h k =
      let A : ℕ = exp_from E30 60 L30 X in
      let B : ℕ = exp_from E30 60 L30 Y in
      let d : ℕ = Y - X in
      let hd : d ≤ e * K = omega arith in
      record {
        low =
            fin A B (e + 2)
            (exp_from_mono E30 59 L30 (lit≤ tt) (lit≤ tt) (lit≤ tt) two_top two_near X Y h);
        high =
            none (B * N) (A * (N + (e + 2)))
            (relative (N - e) e N A B (omega arith) (omega arith) small
            (coarser E30 N K d e A B (24 * 60 + 75) e_s (le_trans (lit≤ tt) h_k) hd (le_trans (lit≤ tt) h_k)
            (exp_from_lip E30 59 L30 (lit≤ tt) (lit≤ tt) (lit≤ tt) two_top two_near X Y d (omega arith) (le_trans hd span))));
      }
    where
      fin : (A B ρ : ℕ) → A ≤ B → A * N ≤ B * (N + ρ) + 0
      fin A B ρ q = omega (arith, mul-le-mul_right N q, mul-add B N ρ)

      none : (a b : ℕ) → a ≤ b → a ≤ b + 0
      none a b q = omega arith

  -- the exponentials of two numbers from 0 up that are within e units of K
  pub exp_from-near :
      (X Y : ℕ) → X ≤ Y + e * K → Y ≤ X + e * K → Rel N (e + 2) 0 (exp_from E30 60 L30 X) (exp_from E30 60 L30 Y)
  exp_from-near X Y h k = either (dec_le X Y)
    where
      either : Dec (X ≤ Y) → Rel N (e + 2) 0 (exp_from E30 60 L30 X) (exp_from E30 60 L30 Y)
      either (yes g) = ordered X Y g k
      either (no g) = rel_sym (ordered Y X (le_of_lt (lt_of_not-le g)) h)

  -- and of any two: e + 2 parts in N apart, and one unit of 10^-30 for the last division
  pub exp_e-near : (x y : ℤ) → Within (e * K) x y → Rel N (e + 2) (N + (e + 2)) (exp_e x) (exp_e y)
  exp_e-near x y w =
      let M : ℕ = both x y in
      let X : ℕ = raised M x in
      let Y : ℕ = raised M y in
      subst₂ (λ (a b : ℕ). Rel N (e + 2) (N + (e + 2)) a b)
      (sym (exp_e_offset x M X (left_is x y))) (sym (exp_e_offset y M Y (right_is x y)))
      (rel_quot N (e + 2) (exp_from E30 60 L30 X) (exp_from E30 60 L30 Y) (2 ^ M) (pow_pos M)
      (exp_from-near X Y
      (apart (M * L30) (e * K) X Y x y (left_is x y) (right_is x y) w.low)
      (apart (M * L30) (e * K) Y X y x (right_is x y) (left_is x y) w.high)))
