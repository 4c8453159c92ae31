-- The head of a file, written and read, read and written. Assumes nothing.
use Prim.Native.Nat.{ℕ, ◌≤◌}
use mathlib.Core.Path.{◌≡◌, refl, sym, ap, ◌∙◌}
use mathlib.Core.Bool.{true, and-eq-true_iff}
use mathlib.Core.List.{List, ◌++◌, append_assoc}
use native.Mathlib.Omega.{arith}
use lib.ListN.{length, take, drop, length-drop, take-append-drop}
use lib.Seq.{drop-drop, length-take-le}
use Rattle.std.proofs.lemmas.Bool.Decides.{Decides-eqb}
use Rattle.std.proofs.lemmas.Slice.Eq.{starts_is}
use Rattle.numerals.specs.Render.{ascii}
use Rattle.records.specs.Records.{are_bytes, high_first, number_from}
use Rattle.records.proofs.NumberBack.{bytes-append, number_lt, bytes_back}
use Rattle.site_files.specs.Format.{most_records, head_size, beginning, head_of, is_marked, count_in}

-- ---- written, and read
module _ (n : ℕ) (s : List ℕ) where
  pub head_marked : is_marked (head_of n ++ s) ≡ true
  unfolding is_marked beginning head_of ascii high_first
  head_marked = refl

  pub head_count : n ≤ most_records → count_in (head_of n ++ s) ≡ n
  unfolding count_in number_from head_of beginning ascii high_first
  head_count h = omega arith

  pub head_past : drop head_size (head_of n ++ s) ≡ s
  unfolding head_of beginning ascii high_first
  head_past = refl

pub length_head : (n : ℕ) → length (head_of n) ≡ head_size
unfolding head_of beginning ascii high_first
length_head n = refl

-- ---- read, and written
module _ (s : List ℕ) (marked : is_marked s ≡ true) (long : head_size ≤ length s) (are : are_bytes s ≡ true) where
  mark_first : beginning ++ drop 5 s ≡ s
  unfolding is_marked beginning ascii high_first
  mark_first = sym ((starts_is Decides-eqb s beginning (is_marked s) refl).0 marked)

  rest-bytes : are_bytes (take 2 (drop 5 s)) ≡ true
  rest-bytes =
      let u = (and-eq-true_iff (are_bytes beginning) (are_bytes (drop 5 s))).0 (sym (bytes-append beginning (drop 5 s)) ∙ ap are_bytes mark_first ∙ are) in
      ((and-eq-true_iff (are_bytes (take 2 (drop 5 s))) (are_bytes (drop 2 (drop 5 s)))).0
      (sym (bytes-append (take 2 (drop 5 s)) (drop 2 (drop 5 s))) ∙ ap are_bytes (take-append-drop 2 (drop 5 s)) ∙ u.1)).0

  two : length (take 2 (drop 5 s)) ≡ 2
  two = length-take-le 2 (drop 5 s) (omega (arith, length-drop 5 s))

  pub count-le : count_in s ≤ most_records
  unfolding count_in
  count-le = omega (arith, rw two at (number_lt (take 2 (drop 5 s)) rest-bytes))

  pub head_back : head_of (count_in s) ++ drop head_size s ≡ s
  unfolding head_of count_in
  head_back =
      append_assoc beginning (high_first 2 (number_from 0 (take 2 (drop 5 s)))) (drop head_size s)
      ∙ ap (λ (l : List ℕ). beginning ++ l)
      (ap (λ (l : List ℕ). l ++ drop head_size s) count-bytes
      ∙ ap (λ (l : List ℕ). take 2 (drop 5 s) ++ l) (sym (drop-drop 2 5 s))
      ∙ take-append-drop 2 (drop 5 s))
      ∙ mark_first
    where
      count-bytes : high_first 2 (number_from 0 (take 2 (drop 5 s))) ≡ take 2 (drop 5 s)
      count-bytes = rw two at (bytes_back (take 2 (drop 5 s)) rest-bytes)

  pub past_bytes : are_bytes (drop head_size s) ≡ true
  past_bytes = ((and-eq-true_iff (are_bytes (head_of (count_in s))) (are_bytes (drop head_size s))).0 (sym (bytes-append (head_of (count_in s)) (drop head_size s)) ∙ ap are_bytes head_back ∙ are)).1
