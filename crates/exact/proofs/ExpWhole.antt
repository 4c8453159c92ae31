-- The exponential of any number: a multiple of ln 2 is a power of two, it grows, and its relative change is the change of its
-- argument and a few units, across multiples of ln 2 as well. Assumes nothing.
use Prim.Native.Nat.{ℕ, zero, suc, ◌+◌, ◌-◌, ◌*◌, ◌/◌, ◌%◌, ◌^◌, ◌≤◌, ◌<◌}
use mathlib.Core.Path.{◌≡◌, sym, ap, ap₂, subst, ◌∙◌}
use native.Mathlib.Omega.{arith}
use native.Mathlib.Decide.{dec_le}
use native.Mathlib.Nat.{le_trans, le_of_eq, le_of_lt, lt_of_not-le, mul-le-mul, mul-le-mul_left, mul_assoc, mul_comm, mul_left_comm, mul-add, add-mul, suc-mul, zero-mul, add-zero, pow-succ', pow-le-pow_right, lt_of_mul-lt-mul_right, div-mul-le_self, lt-div-mul-add, div-add-mod', mod-lt, div-eq_of_lt-le, div-eq_of_lt, mod-eq_of_lt, mul-div-mul_left, div-one, one-mul}
use lib.Dec.{lit≤}
use lib.IntN.{ℤ, pos, negsuc}
use Rattle.exact.specs.Near.{up, dn}
use Rattle.exact.specs.Series.{exp_series, exp_from, exp_whole}
use Rattle.exact.proofs.Quotients.{div-le}
use Rattle.exact.proofs.ExpSeries.{exp_series_mono, exp_series-one, exp_series_zero}
use Rattle.exact.proofs.ExpLip.{exp_series_lip}

-- both sides of the law, a power of two larger
times :
    (P S a b d c : ℕ) → S * a ≤ S * b + d * a + c * b → S * (P * a) ≤ S * (P * b) + d * (P * a) + c * (P * b)
times P S a b d c h =
    omega (
      arith,
      mul-le-mul_left P h,
      mul_left_comm S P a,
      mul_left_comm S P b,
      mul_left_comm d P a,
      mul_left_comm c P b,
      mul-add P (S * b + d * a) (c * b),
      mul-add P (S * b) (d * a),
    )

-- E at r, E' at r', EL at ln 2, where the series has nearly reached 2; l is what is left from r to ln 2
cross_core :
    (S n E E' EL l r' : ℕ) → S ≤ E → S ≤ E' → EL ≤ 2 * S → 2 * S ≤ EL + 75
    → S * E' ≤ S * S + r' * E' + 8 * (n * S) → S * EL ≤ S * E + l * EL + 8 * (n * S)
    → S * (2 * E') ≤ S * E + (l + r') * (2 * E') + (24 * n + 75) * E
cross_core S n E E' EL l r' hE hE' top near h1 h2 =
    omega (
      arith,
      mul_left_comm S 2 E',
      mul-le-mul_left S near,
      mul_left_comm S 2 S,
      mul-add S EL 75,
      mul-le-mul_left l top,
      mul_left_comm l 2 S,
      mul-le-mul_left l hE',
      mul_left_comm (l + r') 2 E',
      add-mul l r' E',
      add-mul (24 * n) 75 E,
      mul_assoc 24 n E,
      mul-le-mul_left n hE,
    )

-- what grows from S to at most 2 S as r goes from 0 to L, and doubles with each further L, grows everywhere
pub doubling_mono :
    (e : ℕ → ℕ) (S L : ℕ) → 0 < L → ((r r' : ℕ) → r ≤ r' → e r ≤ e r') → ((r : ℕ) → S ≤ e r) → e L ≤ 2 * S
    → (x y : ℕ) → x ≤ y → 2 ^ (x / L) * e (x % L) ≤ 2 ^ (y / L) * e (y % L)
doubling_mono e S L h_l grows least top x y h = either (dec_le (y / L) (x / L))
  where
    up_q : x / L ≤ y / L
    up_q = div-le L h

    either : Dec (y / L ≤ x / L) → 2 ^ (x / L) * e (x % L) ≤ 2 ^ (y / L) * e (y % L)
    either (yes k) =
        let q : y / L ≡ x / L = omega (arith, up_q) in
        let r : x % L ≤ y % L = omega (arith, ap (λ (t : ℕ). t * L) q, div-add-mod' x L, div-add-mod' y L) in
        rw q (mul-le-mul_left (2 ^ (x / L)) (grows (x % L) (y % L) r))
    either (no k) =
        le_trans (mul-le-mul_left (2 ^ (x / L)) (le_trans (grows (x % L) L (le_of_lt (mod-lt x h_l))) top))
        (le_trans (le_of_eq double) (mul-le-mul (pow-le-pow_right (lit≤ tt) (lt_of_not-le k)) (least (y % L))))
      where
        double : 2 ^ (x / L) * (2 * S) ≡ 2 ^ suc (x / L) * S
        double = omega (arith, ap (λ (t : ℕ). t * S) (pow-succ' 2 (x / L)), mul_assoc 2 (2 ^ (x / L)) S, mul_left_comm (2 ^ (x / L)) 2 S)

module _ (S n L : ℕ) (h_s : 0 < S) (h_l : 0 < L) (L-le : 4 * L ≤ 3 * S) (top : exp_series S (suc n) L ≤ 2 * S) (near : 2 * S ≤ exp_series S (suc n) L + 75) where
  -- ---- one more multiple of L doubles
  pub exp_from-next : (x : ℕ) → exp_from S (suc n) L (x + L) ≡ 2 * exp_from S (suc n) L x
  unfolding exp_from
  exp_from-next x =
      let q : (x + L) / L ≡ suc (x / L) =
      div-eq_of_lt-le L (omega (arith, suc-mul (x / L) L, div-mul-le_self x L))
      (omega (arith, add-mul (suc (x / L)) 1 L, suc-mul (x / L) L, lt-div-mul-add {a = x} {b = L} h_l)) in
      let r : (x + L) % L ≡ x % L =
      omega (arith, div-add-mod' (x + L) L, div-add-mod' x L, ap (λ (t : ℕ). t * L) q, suc-mul (x / L) L) in
      ap₂ (λ (a b : ℕ). 2 ^ a * exp_series S (suc n) b) q r
      ∙ ap (λ (a : ℕ). a * exp_series S (suc n) (x % L)) (pow-succ' 2 (x / L))
      ∙ mul_assoc 2 (2 ^ (x / L)) (exp_series S (suc n) (x % L))

  -- so multiples put in and powers of two taken out cancel
  offset_same : (j N Y : ℕ) → exp_from S (suc n) L (Y + j * L) / 2 ^ (N + j) ≡ exp_from S (suc n) L Y / 2 ^ N
  offset_same zero N Y =
      let e : Y + 0 * L ≡ Y = omega (arith, zero-mul L) in
      ap₂ (λ (a b : ℕ). exp_from S (suc n) L a / 2 ^ b) e (add-zero N)
  offset_same (suc j) N Y =
      let e : Y + suc j * L ≡ Y + j * L + L = omega (arith, suc-mul j L) in
      let f : N + suc j ≡ suc (N + j) = omega arith in
      ap₂ (λ (a b : ℕ). exp_from S (suc n) L a / 2 ^ b) e f
      ∙ ap₂ (λ (a b : ℕ). a / b) (exp_from-next (Y + j * L)) (pow-succ' 2 (N + j))
      ∙ mul-div-mul_left (exp_from S (suc n) L (Y + j * L)) (2 ^ (N + j)) (lit≤ tt)
      ∙ offset_same j N Y

  offset_any : (N M Y Z : ℕ) → Y + M * L ≡ Z + N * L → exp_from S (suc n) L Y / 2 ^ N ≡ exp_from S (suc n) L Z / 2 ^ M
  offset_any N M Y Z e = either (dec_le N M)
    where
      either : Dec (N ≤ M) → exp_from S (suc n) L Y / 2 ^ N ≡ exp_from S (suc n) L Z / 2 ^ M
      either (yes h) =
          let k : M ≡ N + (M - N) = omega arith in
          let y : Z ≡ Y + (M - N) * L = omega (arith, ap (λ (t : ℕ). t * L) k, add-mul N (M - N) L) in
          sym (ap₂ (λ (a b : ℕ). exp_from S (suc n) L a / 2 ^ b) y k ∙ offset_same (M - N) N Y)
      either (no h) =
          let k : N ≡ M + (N - M) = omega arith in
          let y : Y ≡ Z + (N - M) * L = omega (arith, ap (λ (t : ℕ). t * L) k, add-mul M (N - M) L) in
          ap₂ (λ (a b : ℕ). exp_from S (suc n) L a / 2 ^ b) y k ∙ offset_same (N - M) M Z

  -- what is below L has no multiple of it
  rest : (x : ℕ) → x < L → exp_from S (suc n) L x ≡ exp_series S (suc n) x
  unfolding exp_from
  rest x h =
      ap₂ (λ (a b : ℕ). 2 ^ a * exp_series S (suc n) b) (div-eq_of_lt h) (mod-eq_of_lt h)
      ∙ one-mul (exp_series S (suc n) x)

  -- the exponential of x, by any N multiples of L put in that make it a number y from 0 up
  pub exp_whole_offset : (x : ℤ) (N y : ℕ) → up x + N * L ≡ dn x + y → exp_whole S (suc n) L x ≡ exp_from S (suc n) L y / 2 ^ N
  unfolding exp_whole
  exp_whole_offset (pos x) N y e = sym (div-one (exp_from S (suc n) L x)) ∙ offset_any 0 N x y (omega (arith, zero-mul L))
  exp_whole_offset (negsuc x) N y e =
      let k : ℕ = suc (x / L) in
      let more : suc x ≤ k * L = omega (arith, suc-mul (x / L) L, lt-div-mul-add {a = x} {b = L} h_l) in
      let less : k * L - suc x < L = omega (arith, suc-mul (x / L) L, div-mul-le_self x L) in
      ap (λ (t : ℕ). t / 2 ^ k) (sym (rest (k * L - suc x) less)) ∙ offset_any k N (k * L - suc x) y (omega arith)

  -- ---- it grows
  pub exp_from_mono : (x y : ℕ) → x ≤ y → exp_from S (suc n) L x ≤ exp_from S (suc n) L y
  unfolding exp_from
  exp_from_mono = doubling_mono (exp_series S (suc n)) S L h_l (λ r r' h. exp_series_mono S (suc n) h) (exp_series-one S n) top

  -- ---- how far it moves
  abbrev pub exp_slack : ℕ
  exp_slack = 24 * suc n + 75

  -- both within one multiple of L
  same :
      (r r' d : ℕ) → r' ≡ r + d → r < L → d ≤ S
      → S * exp_series S (suc n) r' ≤ S * exp_series S (suc n) r + d * exp_series S (suc n) r' + exp_slack * exp_series S (suc n) r
  same r r' d e hr hd =
      fin (exp_series S (suc n) r') (exp_series S (suc n) r) (exp_series-one S n r)
      (exp_series_lip S (suc n) d r r' h_s e (omega arith) hd)
    where
      fin : (A B : ℕ) → S ≤ B → S * A ≤ S * B + d * A + 8 * (suc n * S) → S * A ≤ S * B + d * A + exp_slack * B
      fin A B h k = omega (arith, mul-le-mul_left (suc n) h, add-mul (24 * suc n) 75 B, mul_assoc 24 (suc n) B)

  -- one multiple of L crossed
  across :
      (r r' d : ℕ) → d ≡ L - r + r' → r < L → r' < L
      → S * (2 * exp_series S (suc n) r')
      ≤ S * exp_series S (suc n) r + d * (2 * exp_series S (suc n) r') + exp_slack * exp_series S (suc n) r
  across r r' d e hr hr' =
      subst
      (λ (t : ℕ). S * (2 * exp_series S (suc n) r')
      ≤ S * exp_series S (suc n) r + t * (2 * exp_series S (suc n) r') + exp_slack * exp_series S (suc n) r)
      (sym e)
      (cross_core S (suc n) (exp_series S (suc n) r) (exp_series S (suc n) r') (exp_series S (suc n) L) (L - r) r'
      (exp_series-one S n r) (exp_series-one S n r') top near
      (subst
      (λ (t : ℕ). S * exp_series S (suc n) r' ≤ S * t + r' * exp_series S (suc n) r' + 8 * (suc n * S))
      (exp_series_zero S n)
      (exp_series_lip S (suc n) r' 0 r' h_s (omega arith) (omega arith) (omega arith)))
      (exp_series_lip S (suc n) (L - r) r L h_s (omega arith) (omega arith) (omega arith)))

  pub exp_from_lip :
      (x y d : ℕ) → y ≡ x + d → d ≤ L
      → S * exp_from S (suc n) L y ≤ S * exp_from S (suc n) L x + d * exp_from S (suc n) L y + exp_slack * exp_from S (suc n) L x
  unfolding exp_from
  exp_from_lip x y d e hd = either (dec_le (y / L) (x / L))
    where
      ex : x / L * L + x % L ≡ x
      ex = div-add-mod' x L

      ey : y / L * L + y % L ≡ y
      ey = div-add-mod' y L

      rx : x % L < L
      rx = mod-lt x h_l

      ry : y % L < L
      ry = mod-lt y h_l

      up_q : x / L ≤ y / L
      up_q = div-le L (omega arith)

      one : y / L < x / L + 2
      one = lt_of_mul-lt-mul_right L (omega (arith, ex, ey, rx, add-mul (x / L) 2 L))

      either : Dec (y / L ≤ x / L)
          → S * (2 ^ (y / L) * exp_series S (suc n) (y % L))
          ≤ S * (2 ^ (x / L) * exp_series S (suc n) (x % L)) + d * (2 ^ (y / L) * exp_series S (suc n) (y % L))
          + exp_slack * (2 ^ (x / L) * exp_series S (suc n) (x % L))
      either (yes h) =
          let q : y / L ≡ x / L = omega (arith, up_q) in
          rw q
          (times (2 ^ (x / L)) S (exp_series S (suc n) (y % L)) (exp_series S (suc n) (x % L)) d exp_slack
          (same (x % L) (y % L) d (omega (arith, ex, ey, ap (λ (t : ℕ). t * L) q)) rx (omega arith)))
      either (no h) =
          let q : y / L ≡ suc (x / L) = omega (arith, up_q, one) in
          let regroup : 2 ^ suc (x / L) * exp_series S (suc n) (y % L) ≡ 2 ^ (x / L) * (2 * exp_series S (suc n) (y % L)) =
          ap (λ (t : ℕ). t * exp_series S (suc n) (y % L)) (pow-succ' 2 (x / L) ∙ mul_comm 2 (2 ^ (x / L)))
          ∙ mul_assoc (2 ^ (x / L)) 2 (exp_series S (suc n) (y % L)) in
          rw (q, regroup)
          (times (2 ^ (x / L)) S (2 * exp_series S (suc n) (y % L)) (exp_series S (suc n) (x % L)) d exp_slack
          (across (x % L) (y % L) d (omega (arith, ex, ey, rx, ap (λ (t : ℕ). t * L) q, suc-mul (x / L) L)) rx ry))
