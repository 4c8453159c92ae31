-- What writer and reader make, test by test, and what they promise of it. Assumes nothing.
use Prim.Native.Nat.{ℕ, ◌+◌, ◌*◌, ◌≤◌, ◌<◌}
use mathlib.Core.Path.{◌≡◌, refl}
use mathlib.Core.Bool.{Bool, true, false, cond}
use mathlib.Core.List.{List}
use native.Mathlib.Omega.{arith}
use borrow.Author.Tests.{lt-ltb, le-ltb, eq-eqb, ne_eqb}
use lib.ListN.{length}
use Rattle.std.specs.Prelude.{Some, None, Result, Ok, Err, ok_or, MatchResult, IsErrAnd}
use Rattle.refusals.specs.declared.Refusal.{Refusal}
use Rattle.refusals.specs.declared.Refusal.TheVariants as No
use Rattle.lent.specs.Lent.{Written, LentWritten}
use Rattle.lent.proofs.WroteLaws.{refuses, writes}
use Rattle.request_lines.specs.RequestText.{list_text}
use Rattle.records.specs.Records.{record_size}
use Rattle.list_lines.specs.ListLines.{lines_of, all_read, requests_in, surveyed}
use Rattle.site_files.specs.Format.{most_records, head_size, file_of, is_marked, count_in, is_measured, lines_in, pack_of, unpack_of}
use Rattle.site_files.specs.Given.{answer_by, becomes, told, GivenBy, Given, found}

-- ---- the writer
module _ (list : List ℕ) where
  pub pack_malformed : all_read (lines_of list) ≡ false → pack_of list ≡ Err No.Malformed
  unfolding pack_of
  pack_malformed e = rw e

  pub pack_many : all_read (lines_of list) ≡ true → most_records < length (lines_of list) → pack_of list ≡ Err No.FileLength
  unfolding pack_of
  pack_many e h = rw (e, lt-ltb most_records (length (lines_of list)) h)

  pub pack_made : all_read (lines_of list) ≡ true → length (lines_of list) ≤ most_records → pack_of list ≡ Ok (file_of (requests_in (lines_of list)))
  unfolding pack_of
  pack_made e h = rw (e, le-ltb most_records (length (lines_of list)) h)

-- ---- the reader
module _ (file : List ℕ) where
  pub no_mark : is_marked file ≡ false → unpack_of file ≡ Err No.NoFile
  unfolding unpack_of
  no_mark e = rw e

  pub other_length : is_marked file ≡ true → (length file ≡ head_size + record_size * count_in file → ⊥) → unpack_of file ≡ Err No.FileLength
  unfolding unpack_of is_measured
  other_length e h = rw (e, ne_eqb (length file) (head_size + record_size * count_in file) h)

  -- with the mark, and as long as its count says, it has lines if each record is well-formed
  pub looked : is_marked file ≡ true → length file ≡ head_size + record_size * count_in file
      → ok_or (surveyed (lines_in file) (length (list_text (requests_in (lines_in file))))) No.FileField ≡ found (unpack_of file)
  unfolding unpack_of is_measured surveyed found
  looked e h =
      let text = list_text (requests_in (lines_in file)) in
      rw (e, eq-eqb (length file) (head_size + record_size * count_in file) h)
      (elim (all_read (lines_in file)) as (λ (t : Bool). ok_or (cond t (Some (length text)) None) No.FileField ≡ found (cond t (Ok text) (Err No.FileField))) [
        | true ↦ refl
        | false ↦ refl
      ])

-- ---- what is promised
-- where an error may be more than a refusal
module _ {E : Type 0} {of : Refusal → E} {m : Result (List ℕ) E} where
  pub given-error : (b : List ℕ) {e : E} → m ≡ Err e → GivenBy of m b (Err e) b
  unfolding answer_by becomes
  given-error b h = record { answer = rw h; became = rw h }

  -- bytes that were made, written
  pub given_refusal : {b s : List ℕ} {k : Refusal} {b₁ : List ℕ} → m ≡ Ok s → LentWritten b s (Err k) b₁ → GivenBy of m b (Err (of k)) b₁
  unfolding answer_by becomes
  given_refusal h w = record { answer = rw (h, ← w.answer); became = rw h w.became }

  pub given_count : {b s : List ℕ} {n : ℕ} {b₁ : List ℕ} → m ≡ Ok s → LentWritten b s (Ok n) b₁ → GivenBy of m b (Ok n) b₁
  unfolding answer_by becomes
  given_count h w = record { answer = rw (h, ← w.answer); became = rw h w.became }

module _ {m : Result (List ℕ) Refusal} (b s : List ℕ) (e : m ≡ Ok s) where
  pub given-short : length b < length s → Given m b (Err No.TooLong) b
  given-short h = given_refusal e (refuses b s h)

  pub given-bytes : {r : ℕ} {b₁ : List ℕ} → length s ≤ length b → Written b 0 s r b₁ → Given m b (Ok r) b₁
  given-bytes h v = given_count e (writes h v)

-- ---- a file that was looked through
-- it has lines
pub record Lines (m : Result (List ℕ) Refusal) (n : ℕ) : Type 0 where
  pub text : List ℕ
  pub made : m ≡ Ok text
  pub long : n ≡ length text

pub found-lines : (m : Result (List ℕ) Refusal) {n : ℕ} → Ok n ≡ found m → Lines m n
unfolding found
found-lines (Ok s) {n} e = record { text = s; made = refl; long = cc }
found-lines (Err k) {n} e = let z : ◌≡◌ {A = ℕ} 0 1 = cc in absurd (omega arith)

-- or it is refused
pub found-refusal : (m : Result (List ℕ) Refusal) {k : Refusal} → Err k ≡ found m → m ≡ Err k
unfolding found
found-refusal (Ok s) {k} e = let z : ◌≡◌ {A = ℕ} 0 1 = cc in absurd (omega arith)
found-refusal (Err j) {k} e = cc

-- ---- by numbers
-- errors converted to their numbers are told by them
pub told_numbers : {E : Type 0} (number : E → ℕ) (r : Result ℕ E) (q : Result ℕ ℕ) (w : ℕ)
    → MatchResult r (λ n. q ≡ Ok n) (λ e. IsErrAnd q (λ n. n ≡ number e)) → told (λ n. n) q w ≡ told number r w
unfolding told
told_numbers number (Ok n) q w h = rw h
told_numbers number (Err e) (Ok n) w h = absurd h
told_numbers number (Err e) (Err n) w h = rw h
