-- A list by its first LF, and in two. Assumes nothing.
use Prim.Native.Nat.{ℕ, suc, ◌+◌, ◌-◌, ◌≤◌, ◌<◌}
use mathlib.Core.Path.{◌≡◌, refl, ap, ◌∙◌}
use mathlib.Core.Bool.{Bool, true, false, cond, not}
use mathlib.Core.List.{List, [], ◌∷◌, ◌++◌, append_assoc, append-nil}
use native.Mathlib.Omega.{arith}
use borrow.Author.Tests.{ne_eqb, eqb-true, eqb-false}
use lib.Dec.{eqb}
use lib.ListN.{length, take, drop, length-drop, length-append, drop_of_length-le}
use lib.Seq.{drop-drop}
use Rattle.std.specs.Prelude.{Option, None}
use Rattle.std.specs.Bool.{◌==◌}
use Rattle.std.specs.List.{position_or_len}
use Rattle.cuts.specs.Cuts.{up_to}
use Rattle.request.specs.declared.Request.{Request}
use Rattle.numerals.specs.Render.{lf}
use Rattle.text.specs.Grammar.{line_of}
use Rattle.list_lines.specs.ListLines.{lines_from, lines_of}

-- ---- the first LF
-- its place, or the length
abbrev pub lf_place : List ℕ → ℕ
lf_place s = position_or_len (λ c. c == lf) s

-- the bytes up to it are a line, and behind it the list goes on
first-line : (line s : List ℕ) → lf_place s < length s → lines_from line s ≡ line_of (line ++ take (lf_place s) s) ∷ lines_of (drop (suc (lf_place s)) s)
unfolding lines_from
first-line line [] h = absurd (omega arith)
first-line line (c ∷ cs) h = go (eqb c lf) (first-line (line ++ (c ∷ [])) cs) h
  where
    go : (t : Bool)
        → (lf_place cs < length cs → lines_from (line ++ (c ∷ [])) cs ≡ line_of ((line ++ (c ∷ [])) ++ take (lf_place cs) cs) ∷ lines_of (drop (suc (lf_place cs)) cs))
        → cond (not t) (1 + lf_place cs) 0 < suc (length cs)
        → cond t (line_of line ∷ lines_from [] cs) (lines_from (line ++ (c ∷ [])) cs)
        ≡ line_of (line ++ take (cond (not t) (1 + lf_place cs) 0) (c ∷ cs)) ∷ lines_of (drop (suc (cond (not t) (1 + lf_place cs) 0)) (c ∷ cs))
    go true ih g = rw (append-nil line)
    go false ih g =
        let e : 1 + lf_place cs ≡ suc (lf_place cs) = omega arith in
        ih (omega arith) ∙ rw (e, append_assoc line (c ∷ []) (take (lf_place cs) cs))

-- without one there is a line without its LF
last_line : (line s : List ℕ) → lf_place s ≡ length s → 0 < length line + length s → lines_from line s ≡ None ∷ []
unfolding lines_from
last_line line [] h k = rw (ne_eqb (length line) 0 (λ e. omega arith))
last_line line (c ∷ cs) h k = go (eqb c lf) (λ e. last_line (line ++ (c ∷ [])) cs e (omega (arith, length-append line (c ∷ [])))) h
  where
    go : (t : Bool) → (lf_place cs ≡ length cs → lines_from (line ++ (c ∷ [])) cs ≡ None ∷ []) → cond (not t) (1 + lf_place cs) 0 ≡ suc (length cs)
        → cond t (line_of line ∷ lines_from [] cs) (lines_from (line ++ (c ∷ [])) cs) ≡ None ∷ []
    go true ih g = absurd (omega arith)
    go false ih g = ih (omega arith)

-- the line at a place of a list, e the place of the first LF from there on, or the length
module _ (s : List ℕ) (at e : ℕ) (is : e ≡ at + lf_place (drop at s)) (inside : at < length s) where
  pub unfinished : e ≡ length s → lines_of (drop at s) ≡ None ∷ []
  unfinished h = last_line [] (drop at s) (omega (arith, is, length-drop at s)) (omega (arith, length-drop at s))

  pub line-here : (e ≡ length s → ⊥) → e ≤ length s → lines_of (drop at s) ≡ line_of (take (e - at) (drop at s)) ∷ lines_of (drop (e + 1) s)
  line-here h l = first-line [] (drop at s) (omega (arith, is, length-drop at s)) ∙ rw (drop-drop (suc (lf_place (drop at s))) at s, here, after)
    where
      here : lf_place (drop at s) ≡ e - at
      here = omega (arith, is)

      after : at + suc (e - at) ≡ e + 1
      after = omega (arith, is)

-- behind the list there is none
pub no_line_lem : (s : List ℕ) (at : ℕ) → length s ≤ at → lines_of (drop at s) ≡ []
unfolding lines_from
no_line_lem s at h = ap lines_of (drop_of_length-le s h)

-- ---- a list in two, the first of whole lines
pub lines-append : (line a b : List ℕ) → up_to lf a ≡ length a → (length a ≡ 0 → length line ≡ 0) → lines_from line (a ++ b) ≡ lines_from line a ++ lines_of b
unfolding lines_from up_to
lines-append [] [] b h k = refl
lines-append (x ∷ line) [] b h k = absurd (omega (arith, k refl))
lines-append line (c ∷ cs) b h k =
    go (eqb c lf) refl (eqb (up_to lf cs) 0) refl h (λ e. lines-append [] cs b e (λ z. refl)) (λ e d. lines-append (line ++ (c ∷ [])) cs b e d)
  where
    go : (t : Bool) → eqb c lf ≡ t → (a : Bool) → eqb (up_to lf cs) 0 ≡ a → cond a (cond t 1 0) (suc (up_to lf cs)) ≡ suc (length cs)
        → (up_to lf cs ≡ length cs → lines_from [] (cs ++ b) ≡ lines_from [] cs ++ lines_of b)
        → (up_to lf cs ≡ length cs → (length cs ≡ 0 → length (line ++ (c ∷ [])) ≡ 0) → lines_from (line ++ (c ∷ [])) (cs ++ b) ≡ lines_from (line ++ (c ∷ [])) cs ++ lines_of b)
        → cond t (line_of line ∷ lines_from [] (cs ++ b)) (lines_from (line ++ (c ∷ [])) (cs ++ b))
        ≡ cond t (line_of line ∷ lines_from [] cs) (lines_from (line ++ (c ∷ [])) cs) ++ lines_of b
    go true f true e g ih₁ ih₂ = ap (λ (l : List (Option Request)). line_of line ∷ l) (ih₁ (omega (arith, eqb-true (up_to lf cs) 0 e)))
    go true f false e g ih₁ ih₂ = ap (λ (l : List (Option Request)). line_of line ∷ l) (ih₁ (omega arith))
    go false f true e g ih₁ ih₂ = absurd (omega arith)
    go false f false e g ih₁ ih₂ = ih₂ (omega arith) (λ z. absurd (omega (arith, eqb-false (up_to lf cs) 0 e)))
