-- The calls of a list in parts with its reader in lent bytes: the sheet by its number, and what a call tells and leaves in what was lent.
-- Definitions only.
use Rattle.std.specs.Prelude.{ℕ, ◌≡◌, cond, List, [], ◌++◌, eqb, ltb, length, take, drop, Option, Some, None, Result, Ok, Err}
use Rattle.refusals.specs.declared.Refusal.{Refusal}
use Rattle.refusals.specs.declared.Refusal.TheVariants as No
use Rattle.refusals.specs.Order.{number_of}
use Rattle.lent.specs.Lent.{put, after}
use Rattle.answer.specs.declared.Sheet.{Sheet}
use Rattle.answer.specs.declared.Sheet.TheVariants as S
use Rattle.lists.specs.declared.Taken.{Taken}
use Rattle.lists.specs.declared.Reader.{Reader}
use Rattle.lists.specs.Parts.{Called, new_reader, closing, stand_in, part_answer, close_answer}
use Rattle.kept.specs.Faults.{misuse}
use Rattle.kept.specs.Kept.{reader_size, reader_bytes, reader_in}

-- the sheet of a number
unfoldable pub numbered : ℕ → Option Sheet
numbered n = cond (eqb n 0) (Some S.Completion) (cond (eqb n 1) (Some S.Prediction) None)

-- what is lent to a call: the reader's bytes, those for answers, and the numbers of bytes taken and written
pub record Loan : Type 0 where
  pub reader : List ℕ
  pub out : List ℕ
  pub took : ℕ
  pub wrote : ℕ

abbrev pub loan : List ℕ → List ℕ → ℕ → ℕ → Loan
loan reader out took wrote = record { reader = reader; out = out; took = took; wrote = wrote }

-- a reader's answer t, told in what is lent, r the reader and out the bytes for answers after it: a refusal leaves all as it was
unfoldable pub told : Loan → Result Taken Refusal → Reader → List ℕ → ℕ × Loan
unfolding put reader_bytes
told l (Ok t) r out = (0, loan (put l.reader 0 (reader_bytes r)) out t.took t.wrote)
told l (Err n) r out = (number_of n, l)

-- a close takes none
abbrev pub none_taken : Result ℕ Refusal → Result Taken Refusal
none_taken (Ok n) = Ok (record { took = 0; wrote = n })
none_taken (Err n) = Err n

-- ---- the calls: each with too few bytes for a reader is misuse, and leaves all as it was
-- a reader begun
unfoldable pub begin_told : List ℕ → ℕ × List ℕ
unfolding put reader_bytes
begin_told b = cond (ltb (length b) reader_size) (misuse, b) (0, put b 0 (reader_bytes new_reader))

-- a part; so is a number that is no sheet's
unfoldable pub part_told : Option Sheet → List ℕ → Loan → ℕ × Loan
unfolding told put reader_in part_answer
part_told None part l = (misuse, l)
part_told (Some sheet) part l =
    let r = reader_in l.reader in
    let room = length l.out in
    let t = part_answer sheet room r part in
    cond (ltb (length l.reader) reader_size) (misuse, l)
    (told l t.told t.reader (put l.out 0 (stand_in sheet room r part).text))

-- the close
unfoldable pub close_told : Loan → ℕ × Loan
unfolding told after reader_in close_answer
close_told l =
    let r = reader_in l.reader in
    let t = close_answer (length l.out) r in
    cond (ltb (length l.reader) reader_size) (misuse, l) (told l (none_taken t.told) t.reader (after l.out (closing r)))

-- ---- a list
-- what the calls write for a list offered in parts to a reader in lent bytes, whatever else is lent to each: what a call took is passed,
-- and what it wrote is the start of the bytes for answers; after a refusal the same is offered again
pub data Served (sheet : Sheet) : List ℕ → List ℕ → List ℕ → Type 0 where
  taken :
      (l l₁ : Loan) (part s text : List ℕ) → part_told (Some sheet) part l ≡ (0, l₁)
      → Served sheet l₁.reader (drop l₁.took part ++ s) text
      → Served sheet l.reader (part ++ s) (take l₁.wrote l₁.out ++ text)
  refused :
      (l l₁ : Loan) (part s text : List ℕ) → part_told (Some sheet) part l ≡ (number_of No.TooLong, l₁)
      → Served sheet l₁.reader s text → Served sheet l.reader s text
  closed : (l l₁ : Loan) → close_told l ≡ (0, l₁) → Served sheet l.reader [] (take l₁.wrote l₁.out)
  unclosed :
      (l l₁ : Loan) (text : List ℕ) → close_told l ≡ (number_of No.TooLong, l₁) → Served sheet l₁.reader [] text → Served sheet l.reader [] text
