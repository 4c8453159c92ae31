-- A line and its LF as the first field and what follows it, one field more at a time. Assumes nothing.
use Prim.Native.Nat.{ℕ, suc, ◌+◌, ◌≤◌, ◌<◌}
use mathlib.Core.Path.{◌≡◌, sym, ap, ◌∙◌}
use mathlib.Core.List.{List, [], ◌∷◌, ◌++◌, append_assoc}
use native.Mathlib.Omega.{arith}
use native.Mathlib.Numerals.{add-one}
use lib.IntN.{pos}
use lib.ListN.{length, take, drop, length-append, length-drop, drop_of_length-le}
use lib.Seq.{drop-cons, take_all}
use Rattle.request.specs.declared.Field.{Field}
use Rattle.request.specs.declared.Field.TheVariants.{Measured}
use Rattle.request.specs.declared.Request.{Request}
use Rattle.numerals.specs.Render.{lf, space}
use Rattle.text.specs.Grammar.{field_at}
use Rattle.fields.specs.Held.{fields_in}
use Rattle.fields.proofs.FieldsLaws.{thirteen}
use Rattle.request_lines.specs.RequestText.{field_text, more_text, fields_text, line_text}

-- what stands in a line from the space before field k on, its LF too
abbrev pub rest : List Field → ℕ → List ℕ
rest fs k = more_text (drop k fs) ++ (lf ∷ [])

module _ (fs : List Field) (k : ℕ) where
  -- a space, field k and what follows it; behind the last field the LF alone
  pub rest-field : k < length fs → rest fs k ≡ (space ∷ []) ++ (field_text (field_at fs k) ++ rest fs (k + 1))
  unfolding more_text
  rest-field h =
      rw (drop-cons fs k (Measured (pos 0)) h, add-one k)
      (ap (λ (l : List ℕ). space ∷ l) (append_assoc (field_text (field_at fs k)) (more_text (drop (suc k) fs)) (lf ∷ [])))

  pub rest-lf : length fs ≤ k → rest fs k ≡ lf ∷ []
  unfolding more_text
  rest-lf h = rw (drop_of_length-le fs {i = k} h)

-- the whole line
fields-rest : (fs : List Field) → 0 < length fs → fields_text fs ++ (lf ∷ []) ≡ field_text (field_at fs 0) ++ rest fs 1
unfolding fields_text
fields-rest [] h = absurd (omega arith)
fields-rest (f ∷ fs) h = append_assoc (field_text f) (more_text fs) (lf ∷ [])

-- the line of a request whose fields these are
pub line-rest : (r : Request) (fs : List Field) → fs ≡ fields_in r → line_text r ++ (lf ∷ []) ≡ field_text (field_at fs 0) ++ rest fs 1
unfolding line_text
line-rest r fs e = rw e (fields-rest (fields_in r) (omega (arith, thirteen r)))

-- the same by the fields behind the first
abbrev pub behind : List Field → List Field
behind fs = take 12 (drop 1 fs)

module _ (r : Request) (fs : List Field) (e : fs ≡ fields_in r) where
  whole : behind fs ≡ drop 1 fs
  whole = take_all 12 (drop 1 fs) (omega (arith, length-drop 1 fs, ap length e, thirteen r))

  pub line-behind : line_text r ++ (lf ∷ []) ≡ field_text (field_at fs 0) ++ rest (behind fs) 0
  line-behind = line-rest r fs e ∙ ap (λ (l : List Field). field_text (field_at fs 0) ++ (more_text l ++ (lf ∷ []))) (sym whole)

  pub length-behind : length (behind fs) ≡ 12
  length-behind = ap length whole ∙ omega (arith, length-drop 1 fs, ap length e, thirteen r)

-- ---- how long they are
-- a space or the LF stands beside each field
pub rest_length : (fs : List Field) (k : ℕ) → k < length fs → length (rest fs k) ≡ length (field_text (field_at fs k)) + 1 + length (rest fs (k + 1))
rest_length fs k h = ap length (rest-field fs k h) ∙ omega (arith, length-append (field_text (field_at fs k)) (rest fs (k + 1)))

pub lf_length : (fs : List Field) (k : ℕ) → length fs ≤ k → length (rest fs k) ≡ 1
lf_length fs k h = ap length (rest-lf fs k h)

pub line_length : (r : Request) (fs : List Field) → fs ≡ fields_in r → (length fs ≡ 13) × (length (rest fs 0) ≡ length (line_text r ++ (lf ∷ [])) + 1)
line_length r fs e =
    let n : length fs ≡ 13 = ap length e ∙ thirteen r in
    (n, omega (arith, ap length (rest-field fs 0 (omega arith)), ap length (line-rest r fs e)))
