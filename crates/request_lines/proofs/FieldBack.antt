-- A field that is read is one that text can hold, and its text is what it was read from; such a field, written, is read back. That its
-- text has no space in it, and how many bytes it has. Assumes nothing.
use Prim.Native.Nat.{ℕ, zero, suc, ◌≤◌, ◌<◌}
use mathlib.Core.Path.{◌≡◌, refl, sym, ap, ◌∙◌}
use mathlib.Core.Bool.{Bool, true, false, cond, ◌&&◌, and-eq-true_iff}
use mathlib.Core.List.{List, [], ◌∷◌}
use native.Mathlib.Omega.{arith}
use borrow.Author.Tests.{le-leb, leb-true, eqb-true}
use lib.Dec.{leb, eqb}
use lib.IntN.{ℤ, pos, negsuc, nat_abs}
use lib.ListN.{length, get_or, drop, drop_of_length-le}
use lib.Signed.{lt_z}
use Rattle.std.specs.Prelude.{Option, Some, None}
use Rattle.std.specs.Option.{option_map, option_and_then}
use Rattle.exact.proofs.Signed.{lt-parts}
use Rattle.request.specs.declared.Field.{Field}
use Rattle.request.specs.declared.Field.TheVariants.{Measured, Inferred, Estimated, Blank}
use Rattle.numerals.specs.Render.{minus, render_signed}
use Rattle.numerals.proofs.RenderLaws.{length-render, some-digit}
use Rattle.text.specs.Grammar.{tilde, unsigned_of, negative, signed_of, field_of, space_at}
use Rattle.text.proofs.NumberLaws.{number_lt}
use Rattle.text.proofs.RoundTrip.{field_back, inferred-back, signed_no_space}
use Rattle.fields.specs.Held.{held, holds}
use Rattle.request_lines.specs.RequestText.{field_text}
use Rattle.request_lines.proofs.CanonicalNumber.{number_text}

-- ---- a figure that is read
-- a list that starts with a byte other than 0
first_rest : (s : List ℕ) (c : ℕ) → get_or s 0 0 ≡ c → 0 < c → c ∷ drop 1 s ≡ s
first_rest [] c e h = absurd (omega arith)
first_rest (d ∷ ds) c e h = rw e

-- a number of one field, and the same after a minus sign where one is allowed
held_plain : (signed : Bool) (n : ℕ) → n < 1000000 → held signed (pos n) ≡ true
unfolding held
held_plain true n h = le-leb n 999999 (omega arith)
held_plain false n h = rw (le-leb 0 n (omega arith)) (le-leb n 999999 (omega arith))

held-negative : (n : ℕ) → suc n < 1000000 → held true (negsuc n) ≡ true
unfolding held
held-negative n h = rw (le-leb n 999998 (omega arith))

plain_text : (signed : Bool) (s : List ℕ) (z : ℤ) → option_map pos (unsigned_of s) ≡ Some z → (held signed z ≡ true) × (render_signed z ≡ s)
unfolding render_signed
plain_text signed s z e = go (unsigned_of s) refl e
  where
    go : (o : Option ℕ) → unsigned_of s ≡ o → option_map pos o ≡ Some z → (held signed z ≡ true) × (render_signed z ≡ s)
    go (Some n) h g = let q : z ≡ pos n = cc in rw q (held_plain signed n (number_lt s n h), number_text s n h)
    go None h g = cc

negative_text : (s : List ℕ) (z : ℤ) → option_and_then negative (unsigned_of s) ≡ Some z → (held true z ≡ true) × (render_signed z ≡ minus ∷ s)
unfolding negative render_signed
negative_text s z e = go (unsigned_of s) refl e
  where
    go : (o : Option ℕ) → unsigned_of s ≡ o → option_and_then negative o ≡ Some z → (held true z ≡ true) × (render_signed z ≡ minus ∷ s)
    go (Some zero) h g = cc
    go (Some (suc n)) h g =
        let q : z ≡ negsuc n = cc in
        rw q (held-negative n (number_lt s (suc n) h), ap (λ (l : List ℕ). minus ∷ l) (number_text s (suc n) h))
    go None h g = cc

figure_text : (signed : Bool) (s : List ℕ) (z : ℤ) → signed_of signed s ≡ Some z → (held signed z ≡ true) × (render_signed z ≡ s)
unfolding signed_of
figure_text signed s z e = go (eqb (get_or s 0 0) minus) signed refl e
  where
    go : (a b : Bool) → eqb (get_or s 0 0) minus ≡ a → cond a (cond b (option_and_then negative (unsigned_of (drop 1 s))) None) (option_map pos (unsigned_of s)) ≡ Some z
        → (held b z ≡ true) × (render_signed z ≡ s)
    go true true h g =
        let t = negative_text (drop 1 s) z g in
        (t.0, t.1 ∙ first_rest s minus (eqb-true (get_or s 0 0) minus h) (omega arith))
    go true false h g = cc
    go false b h g = plain_text b s z g

-- ---- a field that is read
-- what holds of every figure of this text holds of the field that is read as one
module _ (signed : Bool) (s : List ℕ) (origin : ℤ → Field) (P : Field → Type 0) (each : (v : ℤ) → held signed v ≡ true → render_signed v ≡ s → P (origin v)) where
  origin_text : (f : Field) → option_map origin (signed_of signed s) ≡ Some f → P f
  origin_text f e = go (signed_of signed s) refl e
    where
      go : (o : Option ℤ) → signed_of signed s ≡ o → option_map origin o ≡ Some f → P f
      go (Some v) h g =
          let q : f ≡ origin v = cc in
          let t = figure_text signed s v h in
          rw q (each v t.0 t.1)
      go None h g = cc

-- a "-" alone
blank_text : (s : List ℕ) → length s ≡ 1 → get_or s 0 0 ≡ minus → minus ∷ [] ≡ s
blank_text s h e = ap (λ (l : List ℕ). minus ∷ l) (sym (drop_of_length-le s {i = 1} (omega arith))) ∙ first_rest s minus e (omega arith)

-- a field, and the bytes that it was read from
abbrev Text : Bool → List ℕ → Field → Type 0
Text signed s f = (holds signed f ≡ true) × (field_text f ≡ s)

module _ (signed : Bool) (s : List ℕ) (f : Field) where
  pub field_text_lem : field_of signed s ≡ Some f → Text signed s f
  unfolding field_of holds field_text
  field_text_lem e = go (eqb (length s) 1) (eqb (get_or s 0 0) minus) refl refl e
    where
      figure : (t : Bool) → eqb (get_or s 0 0) tilde ≡ t → cond t (option_map Inferred (signed_of signed (drop 1 s))) (option_map Measured (signed_of signed s)) ≡ Some f → Text signed s f
      figure true h g =
          let t = first_rest s tilde (eqb-true (get_or s 0 0) tilde h) (omega arith) in
          origin_text signed (drop 1 s) Inferred (Text signed s) (λ v k r. (k, ap (λ (l : List ℕ). tilde ∷ l) r ∙ t)) f g
      figure false h g = origin_text signed s Measured (Text signed s) (λ v k r. (k, r)) f g

      go : (a b : Bool) → eqb (length s) 1 ≡ a → eqb (get_or s 0 0) minus ≡ b
          → cond (a && b) (Some Blank) (cond (eqb (get_or s 0 0) tilde) (option_map Inferred (signed_of signed (drop 1 s))) (option_map Measured (signed_of signed s))) ≡ Some f
          → Text signed s f
      go true true h k g =
          let q : f ≡ Blank = cc in
          rw q (refl, blank_text s (eqb-true (length s) 1 h) (eqb-true (get_or s 0 0) minus k))
      go true false h k g = figure (eqb (get_or s 0 0) tilde) refl g
      go false b h k g = figure (eqb (get_or s 0 0) tilde) refl g

-- ---- a field that is written
-- six digits, after a minus sign only where one is allowed
held_fits : (signed : Bool) (z : ℤ) → held signed z ≡ true → (nat_abs z < 1000000) × (lt_z z (pos 0) ≡ true → signed ≡ true)
unfolding held
held_fits true (pos n) e = (omega (arith, leb-true n 999999 e), λ h. refl)
held_fits true (negsuc n) e = (omega (arith, leb-true n 999998 ((and-eq-true_iff (leb n 999998) true).0 e).0), λ h. refl)
held_fits false (pos n) e =
    (omega (arith, leb-true n 999999 ((and-eq-true_iff (leb 0 n) (leb n 999999)).0 e).1), λ h. absurd (omega (arith, lt-parts (pos n) (pos 0) h)))
held_fits false (negsuc n) e = cc

pub text_field : (signed : Bool) (f : Field) → holds signed f ≡ true → field_of signed (field_text f) ≡ Some f
unfolding holds field_text field_of
text_field signed (Measured v) e = let h = held_fits signed v e in field_back signed v h.0 h.1
text_field signed (Inferred v) e = let h = held_fits signed v e in inferred-back signed v h.0 h.1
text_field signed (Estimated v) e = cc
text_field signed Blank e = refl

-- whatever it holds
pub field_no_space : (f : Field) → space_at (field_text f) ≡ length (field_text f)
unfolding field_text space_at
field_no_space (Measured v) = signed_no_space v
field_no_space (Inferred v) = ap suc (signed_no_space v)
field_no_space (Estimated v) = refl
field_no_space Blank = refl

-- ---- its length
-- six digits, a "~" before them, and between the two a minus sign where one is allowed
abbrev pub most : Bool → ℕ
most signed = cond signed 8 7

figure-length : (signed : Bool) (z : ℤ) → held signed z ≡ true → (1 ≤ length (render_signed z)) × (suc (length (render_signed z)) ≤ most signed)
unfolding render_signed
figure-length true (pos n) e = omega (arith, some-digit n, length-render 5 n (held_fits true (pos n) e).0)
figure-length true (negsuc n) e = omega (arith, some-digit (suc n), length-render 5 (suc n) (held_fits true (negsuc n) e).0)
figure-length false (pos n) e = omega (arith, some-digit n, length-render 5 n (held_fits false (pos n) e).0)
figure-length false (negsuc n) e = let q : ◌≡◌ {A = ℕ} 0 1 = cc ((held_fits false (negsuc n) e).1 refl) in absurd (omega arith)

pub field-length : (signed : Bool) (f : Field) → holds signed f ≡ true → (1 ≤ length (field_text f)) × (length (field_text f) ≤ most signed)
unfolding holds field_text
field-length signed (Measured v) e = omega (arith, figure-length signed v e)
field-length signed (Inferred v) e = omega (arith, figure-length signed v e)
field-length signed (Estimated v) e = cc
field-length true Blank e = omega arith
field-length false Blank e = omega arith
