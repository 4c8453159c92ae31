-- What is written for lines one after another is written for each. Assumes nothing.
use Prim.Native.Nat.{ℕ}
use mathlib.Core.Path.{◌≡◌, refl, sym, ap, ◌∙◌}
use mathlib.Core.List.{List, [], ◌∷◌, ◌++◌, append_assoc}
use Rattle.std.specs.Prelude.{Option, Some, None}
use Rattle.request.specs.declared.Request.{Request}
use Rattle.numerals.specs.Render.{lf}
use Rattle.request_lines.specs.RequestText.{line_text, list_text}
use Rattle.records.specs.Records.{record_of}
use Rattle.list_lines.specs.ListLines.{lines_of, requests_in}
use Rattle.site_files.specs.Format.{records_of}

requests-append : (ls ms : List (Option Request)) → requests_in (ls ++ ms) ≡ requests_in ls ++ requests_in ms
unfolding requests_in
requests-append [] ms = refl
requests-append (Some r ∷ ls) ms = ap (λ (l : List Request). r ∷ l) (requests-append ls ms)
requests-append (None ∷ ls) ms = requests-append ls ms

records_join : (rs ss : List Request) → records_of (rs ++ ss) ≡ records_of rs ++ records_of ss
unfolding records_of
records_join [] ss = refl
records_join (r ∷ rs) ss = ap (λ (l : List ℕ). record_of r ++ l) (records_join rs ss) ∙ sym (append_assoc (record_of r) (records_of rs) (records_of ss))

text_join : (rs ss : List Request) → list_text (rs ++ ss) ≡ list_text rs ++ list_text ss
unfolding list_text
text_join [] ss = refl
text_join (r ∷ rs) ss =
    ap (λ (l : List ℕ). line_text r ++ (lf ∷ l)) (text_join rs ss) ∙ sym (append_assoc (line_text r) (lf ∷ list_text rs) (list_text ss))

pub records_append : (ls ms : List (Option Request)) → records_of (requests_in (ls ++ ms)) ≡ records_of (requests_in ls) ++ records_of (requests_in ms)
records_append ls ms = ap records_of (requests-append ls ms) ∙ records_join (requests_in ls) (requests_in ms)

pub text_append : (ls ms : List (Option Request)) → list_text (requests_in (ls ++ ms)) ≡ list_text (requests_in ls) ++ list_text (requests_in ms)
text_append ls ms = ap list_text (requests-append ls ms) ∙ text_join (requests_in ls) (requests_in ms)

-- the records of a list's lines
abbrev pub records_at : List ℕ → List ℕ
records_at s = records_of (requests_in (lines_of s))
