-- Records one after another from a place on: the first of them and those behind it, some and those behind them, and how long the text of all
-- is. Assumes nothing.
use Prim.Native.Nat.{ℕ, zero, suc, ◌+◌, ◌-◌, ◌*◌, ◌≤◌, ◌<◌}
use mathlib.Core.Path.{◌≡◌, sym, ap, ◌∙◌}
use mathlib.Core.Bool.{true}
use mathlib.Core.List.{List, [], ◌∷◌, ◌++◌, append_assoc}
use native.Mathlib.Omega.{arith}
use lib.ListN.{length, take, drop, length-append, length-drop}
use lib.Seq.{drop-drop, length-take-le}
use Rattle.std.specs.Prelude.{Option, Some}
use Rattle.request.specs.declared.Request.{Request}
use Rattle.numerals.specs.Render.{lf}
use Rattle.request_lines.specs.RequestText.{line_text, list_text}
use Rattle.records.specs.Records.{record_size, record_in}
use Rattle.list_lines.specs.ListLines.{all_read, requests_in}
use Rattle.list_lines.proofs.ListBack.{as_many, text_long}
use Rattle.site_files.specs.Format.{records_in}
use Rattle.site_files.proofs.RecordsBack.{length-read, records_writable}

-- ---- the records from record k on
-- what is left of so many records, k of them passed
abbrev pub left : ℕ → List ℕ → ℕ → List (Option Request)
left count s k = records_in (count - k) (drop (record_size * k) s)

-- the text of some records' lines
abbrev pub text_of : List (Option Request) → List ℕ
text_of ls = list_text (requests_in ls)

-- the line of the first, and those of the others
pub text_more : (r : Request) (ls : List (Option Request)) → text_of (Some r ∷ ls) ≡ (line_text r ++ (lf ∷ [])) ++ text_of ls
unfolding list_text requests_in
text_more r ls = sym (append_assoc (line_text r) (lf ∷ []) (text_of ls))

module _ (s : List ℕ) (count : ℕ) where
  pub none_passed : left count s 0 ≡ records_in count s
  none_passed = ap (λ (n : ℕ). records_in n s) (omega arith)

  pub all_passed : (k : ℕ) → count ≤ k → left count s k ≡ []
  unfolding records_in
  all_passed k h = let e : count - k ≡ 0 = omega arith in rw e

  -- record k, cut out where it stands
  module _ (k : ℕ) (inside : k < count) where
    cut : record_size * k + record_size - record_size * k ≡ record_size
    cut = omega arith

    pub one-long : record_size * count ≤ length s → record_size ≤ length (take (record_size * k + record_size - record_size * k) (drop (record_size * k) s))
    one-long h = rw cut (omega (arith, length-take-le record_size (drop (record_size * k) s) (omega (arith, length-drop (record_size * k) s))))

    pub one_passed : (l : Option Request) → l ≡ record_in (take (record_size * k + record_size - record_size * k) (drop (record_size * k) s)) → left count s k ≡ l ∷ left count s (k + 1)
    unfolding records_in
    one_passed l is =
        let n : count - k ≡ suc (count - (k + 1)) = omega arith in
        let e : record_size * k + record_size ≡ record_size * (k + 1) = omega arith in
        ap (λ (n : ℕ). records_in n (drop (record_size * k) s)) n
        ∙ ap (λ (m : Option Request). m ∷ records_in (count - (k + 1)) (drop record_size (drop (record_size * k) s))) (sym (is ∙ rw cut))
        ∙ ap (λ (r : List ℕ). l ∷ records_in (count - (k + 1)) r) (drop-drop record_size (record_size * k) s ∙ ap (λ (i : ℕ). drop i s) e)

-- ---- some, and those behind them
pub records_join_in : (m n : ℕ) (s : List ℕ) → records_in (m + n) s ≡ records_in m s ++ records_in n (drop (record_size * m) s)
unfolding records_in
records_join_in zero n s = let e : 0 + n ≡ n = omega arith in rw e
records_join_in (suc m) n s =
    let a : suc m + n ≡ suc (m + n) = omega arith in
    let b : record_size + record_size * m ≡ record_size * suc m = omega arith in
    ap (λ (i : ℕ). records_in i s) a
    ∙ ap (λ (ls : List (Option Request)). record_in (take record_size s) ∷ ls)
    (records_join_in m n (drop record_size s)
    ∙ ap (λ (r : List ℕ). records_in m (drop record_size s) ++ records_in n r) (drop-drop (record_size * m) record_size s ∙ ap (λ (i : ℕ). drop i s) b))

-- ---- how long their text is
pub length_more : (r : Request) (ls : List (Option Request)) → length (text_of (Some r ∷ ls)) ≡ length (line_text r ++ (lf ∷ [])) + length (text_of ls)
length_more r ls = ap length (text_more r ls) ∙ length-append (line_text r ++ (lf ∷ [])) (text_of ls)

pub lines-short : (n : ℕ) (s : List ℕ) → all_read (records_in n s) ≡ true → length (text_of (records_in n s)) ≤ 106 * n
lines-short n s e =
    let ls = records_in n s in
    omega (arith, (text_long (requests_in ls) (records_writable n s e)).1, as_many ls e, length-read n s)
