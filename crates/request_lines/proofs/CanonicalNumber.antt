-- A number that is read is written with the digits that it was read from. Assumes nothing.
use Prim.Native.Nat.{ℕ, ◌+◌, ◌-◌, ◌*◌, ◌/◌, ◌%◌, ◌≤◌, ◌<◌}
use mathlib.Core.Path.{◌≡◌, refl, sym, ◌∙◌}
use mathlib.Core.Bool.{Bool, true, false, ◌&&◌, ◌||◌, cond, and-eq-true_iff}
use mathlib.Core.List.{List, [], ◌∷◌, ◌++◌, append_assoc, append-nil}
use native.Mathlib.Omega.{arith}
use borrow.Author.Tests.{lt-ltb, leb-true, eqb-false}
use lib.Dec.{leb, ltb, eqb}
use lib.ListN.{length, get_or}
use Rattle.std.specs.Prelude.{Some, None}
use Rattle.numerals.specs.Render.{digit0, digit9, render}
use Rattle.numerals.specs.Plain.{is_digit, digits_of}
use Rattle.numerals.proofs.RenderLaws.{render-one, render-more}
use Rattle.text.specs.Grammar.{unsigned_of}

-- the byte of a digit is "0" and its value
digit_byte : (c : ℕ) → is_digit c ≡ true → (digit0 + (c - digit0) ≡ c) × (c - digit0 < 10)
unfolding is_digit
digit_byte c e =
    let t = (and-eq-true_iff (leb digit0 c) (leb c digit9)).0 e in
    (omega (arith, leb-true digit0 c t.0), omega (arith, leb-true c digit9 t.1))

-- one digit after those of a number that is not 0
render-next : (n c : ℕ) → 1 ≤ n → is_digit c ≡ true → render (n * 10 + (c - digit0)) ≡ render n ++ (c ∷ [])
render-next n c h e =
    let d = digit_byte c e in
    let q : (n * 10 + (c - digit0)) / 10 ≡ n = omega (arith, d.1) in
    let m : (n * 10 + (c - digit0)) % 10 ≡ c - digit0 = omega (arith, d.1) in
    render-more (n * 10 + (c - digit0)) (omega arith) ∙ rw (q, m, d.0)

-- the digits after those of n, which is not 0, are kept
digits_text : (n : ℕ) (s : List ℕ) (v : ℕ) → 1 ≤ n → digits_of n s ≡ Some v → render v ≡ render n ++ s
unfolding digits_of
digits_text n [] v h e = let z : v ≡ n = cc in rw z (sym (append-nil (render n)))
digits_text n (c ∷ cs) v h e = go (is_digit c) refl (digits_text (n * 10 + (c - digit0)) cs v (omega arith)) e
  where
    go : (t : Bool) → is_digit c ≡ t → (digits_of (n * 10 + (c - digit0)) cs ≡ Some v → render v ≡ render (n * 10 + (c - digit0)) ++ cs)
        → cond t (digits_of (n * 10 + (c - digit0)) cs) None ≡ Some v → render v ≡ render n ++ (c ∷ cs)
    go true d ih g = ih g ∙ rw (render-next n c h d) (append_assoc (render n) (c ∷ []) cs)
    go false d ih g = cc

-- a first digit, and what follows it
digits_from : (c : ℕ) (cs : List ℕ) (v : ℕ) → digits_of 0 (c ∷ cs) ≡ Some v → (is_digit c ≡ true) × (digits_of (c - digit0) cs ≡ Some v)
unfolding digits_of
digits_from c cs v e = go (is_digit c) refl e
  where
    plain : 0 * 10 + (c - digit0) ≡ c - digit0
    plain = omega arith

    go : (t : Bool) → is_digit c ≡ t → cond t (digits_of (0 * 10 + (c - digit0)) cs) None ≡ Some v → (is_digit c ≡ true) × (digits_of (c - digit0) cs ≡ Some v)
    go true d g = (d, rw plain at g)
    go false d g = cc

-- the tests of a number that is read: some digit, and no leading "0" before another
module _ (s : List ℕ) (v : ℕ) where
  number_digits : unsigned_of s ≡ Some v → (eqb (length s) 0 ≡ false) × (ltb 1 (length s) && eqb (get_or s 0 0) digit0 ≡ false) × (digits_of 0 s ≡ Some v)
  unfolding unsigned_of
  number_digits e = go (eqb (length s) 0) (ltb 6 (length s)) (ltb 1 (length s) && eqb (get_or s 0 0) digit0) e
    where
      go : (a b c : Bool) → cond (a || b || c) None (digits_of 0 s) ≡ Some v → (a ≡ false) × (c ≡ false) × (digits_of 0 s ≡ Some v)
      go true b c g = cc
      go false true c g = cc
      go false false true g = cc
      go false false false g = (refl, refl, g)

-- so a number has one text only
pub number_text : (s : List ℕ) (v : ℕ) → unsigned_of s ≡ Some v → render v ≡ s
unfolding digits_of
number_text [] v e =
    let n = (number_digits [] v e).0 in
    let z : ◌≡◌ {A = ℕ} 0 1 = cc in
    absurd (omega arith)
number_text (c ∷ []) v e =
    let t = digits_from c [] v (number_digits (c ∷ []) v e).2 in
    let d = digit_byte c t.0 in
    let z : v ≡ c - digit0 = cc in
    rw z (render-one (c - digit0) d.1 ∙ rw d.0)
number_text (c ∷ d ∷ ds) v e =
    let n = number_digits (c ∷ d ∷ ds) v e in
    let t = digits_from c (d ∷ ds) v n.2 in
    let b = digit_byte c t.0 in
    let first : eqb c digit0 ≡ false = rw (lt-ltb 1 (length (c ∷ d ∷ ds)) (omega arith)) at n.1 in
    digits_text (c - digit0) (d ∷ ds) v (omega (arith, b.0, eqb-false c digit0 first)) t.1
    ∙ rw (render-one (c - digit0) b.1, b.0)
