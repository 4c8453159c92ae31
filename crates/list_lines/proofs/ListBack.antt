-- A list of lines that are all well-formed is the text of its requests, and the text of requests that text can hold is such a list. Assumes
-- nothing.
use Prim.Native.Nat.{ℕ, suc, ◌*◌, ◌≤◌}
use mathlib.Core.Path.{◌≡◌, refl, sym, ap, ◌∙◌}
use mathlib.Core.Bool.{Bool, true, false, cond, not, ◌&&◌, and-eq-true_iff}
use mathlib.Core.List.{List, [], ◌∷◌, ◌++◌, append_assoc, append-nil}
use native.Mathlib.Omega.{arith}
use borrow.Author.Tests.{ne_eqb, eqb-true}
use lib.Dec.{eqb}
use lib.ListN.{length, length-append}
use Rattle.std.specs.Prelude.{Option, Some, None}
use Rattle.request.specs.declared.Request.{Request}
use Rattle.numerals.specs.Render.{lf}
use Rattle.text.specs.Grammar.{line_of}
use Rattle.fields.specs.Held.{writable}
use Rattle.request_lines.specs.RequestText.{line_text, list_text}
use Rattle.request_lines.proofs.LineBack.{line_is_text, text_is_line, text_length, no_lf, line_no_lf}
use Rattle.list_lines.specs.ListLines.{lines_from, lines_of, all_read, requests_in}

-- ---- requests and lines
-- whether text can hold each of some requests
unfoldable pub all_writable : List Request → Bool
all_writable [] = true
all_writable (r ∷ rs) = writable r && all_writable rs

-- the lines that are read as some requests
unfoldable pub read : List Request → List (Option Request)
read [] = []
read (r ∷ rs) = Some r ∷ read rs

pub all_read_lem : (rs : List Request) → all_read (read rs) ≡ true
unfolding all_read read
all_read_lem [] = refl
all_read_lem (r ∷ rs) = all_read_lem rs

pub requests-read : (rs : List Request) → requests_in (read rs) ≡ rs
unfolding requests_in read
requests-read [] = refl
requests-read (r ∷ rs) = ap (λ (l : List Request). r ∷ l) (requests-read rs)

pub as_many : (ls : List (Option Request)) → all_read ls ≡ true → length (requests_in ls) ≡ length ls
unfolding all_read requests_in
as_many [] e = refl
as_many (Some r ∷ ls) e = omega (arith, as_many ls e)
as_many (None ∷ ls) e = let z : ◌≡◌ {A = ℕ} 0 1 = cc in absurd (omega arith)

-- ---- from requests to text and back
-- a text with no LF, and one behind it, is a line
line-past : (line t rest : List ℕ) → no_lf t ≡ true → lines_from line (t ++ (lf ∷ rest)) ≡ line_of (line ++ t) ∷ lines_of rest
unfolding lines_from no_lf
line-past line [] rest e = ap (λ (l : List ℕ). line_of l ∷ lines_of rest) (sym (append-nil line))
line-past line (c ∷ cs) rest e = go (eqb c lf) ((and-eq-true_iff (not (eqb c lf)) (no_lf cs)).0 e) (line-past (line ++ (c ∷ [])) cs rest)
  where
    go : (t : Bool) → (not t ≡ true) × (no_lf cs ≡ true)
        → (no_lf cs ≡ true → lines_from (line ++ (c ∷ [])) (cs ++ (lf ∷ rest)) ≡ line_of ((line ++ (c ∷ [])) ++ cs) ∷ lines_of rest)
        → cond t (line_of line ∷ lines_from [] (cs ++ (lf ∷ rest))) (lines_from (line ++ (c ∷ [])) (cs ++ (lf ∷ rest))) ≡ line_of (line ++ (c ∷ cs)) ∷ lines_of rest
    go true g ih = let f = g.0 in let z : ◌≡◌ {A = ℕ} 0 1 = cc in absurd (omega arith)
    go false g ih = ih g.1 ∙ ap (λ (l : List ℕ). line_of l ∷ lines_of rest) (append_assoc line (c ∷ []) cs)

pub lines_of_text : (rs : List Request) → all_writable rs ≡ true → lines_of (list_text rs) ≡ read rs
unfolding lines_from list_text read all_writable
lines_of_text [] e = refl
lines_of_text (r ∷ rs) e =
    let u = (and-eq-true_iff (writable r) (all_writable rs)).0 e in
    line-past [] (line_text r) (list_text rs) (line_no_lf r) ∙ rw (text_is_line r u.0, lines_of_text rs u.1)

-- ---- from text to requests and back
-- what is said of a list all of whose lines are well-formed
abbrev Text : List ℕ → List (Option Request) → Type 0
Text s ls = all_read ls ≡ true → (all_writable (requests_in ls) ≡ true) × (list_text (requests_in ls) ≡ s)

one_more : (line rest : List ℕ) (l : Option Request) (ls : List (Option Request)) → line_of line ≡ l → Text rest ls → Text (line ++ (lf ∷ rest)) (l ∷ ls)
unfolding all_read requests_in all_writable list_text
one_more line rest (Some r) ls e t h =
    let u = line_is_text line r e in
    let v = t h in
    (rw u.0 v.0, rw (u.1, v.1))
one_more line rest None ls e t h = let z : ◌≡◌ {A = ℕ} 0 1 = cc in absurd (omega arith)

text_from : (line s : List ℕ) → Text (line ++ s) (lines_from line s)
unfolding lines_from all_read requests_in all_writable list_text
text_from [] [] = λ h. (refl, refl)
text_from (c ∷ line) [] = rw (ne_eqb (suc (length line)) 0 (λ e. omega arith)) (λ h. let z : ◌≡◌ {A = ℕ} 0 1 = cc in absurd (omega arith))
text_from line (c ∷ cs) = go (eqb c lf) refl (text_from [] cs) (text_from (line ++ (c ∷ [])) cs)
  where
    go : (t : Bool) → eqb c lf ≡ t → Text cs (lines_from [] cs) → Text ((line ++ (c ∷ [])) ++ cs) (lines_from (line ++ (c ∷ [])) cs)
        → Text (line ++ (c ∷ cs)) (cond t (line_of line ∷ lines_from [] cs) (lines_from (line ++ (c ∷ [])) cs))
    go true e f g = rw (eqb-true c lf e) (one_more line cs (line_of line) (lines_from [] cs) refl f)
    go false e f g = λ h. let u = g h in (u.0, u.1 ∙ append_assoc line (c ∷ []) cs)

pub text_of_lines : (s : List ℕ) → Text s (lines_of s)
text_of_lines s = text_from [] s

-- ---- how long such a list is
pub text_long : (rs : List Request) → all_writable rs ≡ true → (26 * length rs ≤ length (list_text rs)) × (length (list_text rs) ≤ 106 * length rs)
unfolding all_writable list_text
text_long [] e = (omega arith, omega arith)
text_long (r ∷ rs) e =
    let u = (and-eq-true_iff (writable r) (all_writable rs)).0 e in
    let a = text_length r u.0 in
    let b = text_long rs u.1 in
    let n = length-append (line_text r) (lf ∷ list_text rs) in
    (omega (arith, a.0, b.0), omega (arith, a.1, b.1))
