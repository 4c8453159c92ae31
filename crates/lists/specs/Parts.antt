-- A list read in parts, 02 K1: what a reader holds of an unfinished line, what it makes of a part, byte by byte, and what a call answers.
-- Definitions only.
use Rattle.std.specs.Prelude.{ℕ, ◌+◌, ◌-◌, ◌<◌, ◌≤◌, ◌≡◌, cond, List, [], ◌∷◌, ◌++◌, eqb, ltb, length, take, drop, set, replicate, Result, Ok, Err, IsOk}
use Rattle.refusals.specs.declared.Refusal.{Refusal}
use Rattle.refusals.specs.declared.Refusal.TheVariants as No
use Rattle.lent.specs.Lent.{put, after}
use Rattle.numerals.specs.Render.{lf}
use Rattle.text.specs.Grammar.{longest}
use Rattle.answer.specs.declared.Sheet.{Sheet}
use Rattle.answer.specs.Sheets.{answer_to, longest_answer}
use Rattle.lists.specs.declared.Reader.{Reader}
use Rattle.lists.specs.declared.Taken.{Taken}
use Rattle.lists.specs.Whole.{ending}

-- ---- the reader
-- the bytes of an unfinished line of count bytes; one that is too long is not held, and zeros, one too many, stand for it
unfoldable pub held_line : List ℕ → ℕ → List ℕ
held_line held count = cond (ltb longest count) (replicate (longest + 1) 0) (take count held)

abbrev pub line_in : Reader → List ℕ
line_in r = held_line r.held r.count

-- a reader before the first byte
abbrev pub new_reader : Reader
new_reader = record { held = replicate longest 0; count = 0 }

-- after an LF
abbrev pub fresh : Reader → Reader
fresh r = record { held = r.held; count = 0 }

-- after one byte more of its line: held if there is room, and counted up to one more than there is room for
unfoldable pub grown : Reader → ℕ → Reader
grown r c =
    cond (ltb r.count longest)
    (record { held = set r.held r.count c; count = r.count + 1 })
    (record { held = r.held; count = longest + 1 })

-- the answer at the end of the list
unfoldable pub closing : Reader → List ℕ
unfolding held_line ending
closing r = ending (line_in r)

-- ---- a part
-- where a reader stands in a part: the text that it has written, and what is left of the part
pub record Stand : Type 0 where
  pub reader : Reader
  pub text : List ℕ
  pub left : List ℕ

-- it stops before the LF of a line with whose answer the text is longer than the room lent
unfoldable pub read_from : Sheet → ℕ → Reader → List ℕ → List ℕ → Stand
unfolding held_line grown answer_to
read_from sheet room r text [] = record { reader = r; text = text; left = [] }
read_from sheet room r text (c ∷ cs) =
    cond (eqb c lf)
    (cond (ltb room (length (text ++ answer_to sheet (line_in r))))
    (record { reader = r; text = text; left = c ∷ cs })
    (read_from sheet room (fresh r) (text ++ answer_to sheet (line_in r)) cs))
    (read_from sheet room (grown r c) text cs)

abbrev pub stand_in : Sheet → ℕ → Reader → List ℕ → Stand
stand_in sheet room r part = read_from sheet room r [] part

-- ---- what a call answers
-- the first answer that a part asks for: that at its first LF, none where it has no LF
unfoldable pub first_answer : Sheet → Reader → List ℕ → List ℕ
unfolding held_line grown answer_to
first_answer sheet r [] = []
first_answer sheet r (c ∷ cs) = cond (eqb c lf) (answer_to sheet (line_in r)) (first_answer sheet (grown r c) cs)

-- what a call tells, and the reader after it
pub record Called (A : Type 0) : Type 0 where
  pub told : Result A Refusal
  pub reader : Reader

-- refused: the reader is as it was
abbrev pub no_room : {A : Type 0} → Reader → Called A
no_room r = record { told = Err No.TooLong; reader = r }

-- to a part: refused where nothing would be written, its first answer longer than the room lent
unfoldable pub part_answer : Sheet → ℕ → Reader → List ℕ → Called Taken
unfolding first_answer read_from
part_answer sheet room r part =
    cond (ltb room (length (first_answer sheet r part)))
    (no_room r)
    (record {
      told =
          Ok
          (record {
            took = length part - length (stand_in sheet room r part).left;
            wrote = length (stand_in sheet room r part).text;
          });
      reader = (stand_in sheet room r part).reader;
    })

-- to the close: refused where its answer is longer than the room lent; else the reader after it is a new one
unfoldable pub close_answer : ℕ → Reader → Called ℕ
unfolding closing
close_answer room r =
    cond (ltb room (length (closing r))) (no_room r) (record { told = Ok (length (closing r)); reader = new_reader })

-- what was taken and written: no byte on a refusal
abbrev pub taken_of : Result Taken Refusal → Taken
taken_of (Ok t) = t
taken_of (Err n) = record { took = 0; wrote = 0 }

-- what is promised of a part, the bytes b lent to the reader r: what is told, t, the reader r₁ after it, and the bytes b₁ that b became
pub record PartTaken (sheet : Sheet) (r : Reader) (part b : List ℕ) (t : Result Taken Refusal) (r₁ : Reader) (b₁ : List ℕ) : Type 0 where
  pub answer : t ≡ (part_answer sheet (length b) r part).told
  pub reader : r₁ ≡ (part_answer sheet (length b) r part).reader
  pub bytes : b₁ ≡ put b 0 (stand_in sheet (length b) r part).text

-- what is promised of the close
pub record Closed (r : Reader) (b : List ℕ) (t : Result ℕ Refusal) (r₁ : Reader) (b₁ : List ℕ) : Type 0 where
  pub answer : t ≡ (close_answer (length b) r).told
  pub reader : r₁ ≡ (close_answer (length b) r).reader
  pub bytes : b₁ ≡ after b (closing r)

-- ---- a list in parts
-- what is left of a part after a call
abbrev pub not_taken : Sheet → ℕ → Reader → List ℕ → List ℕ
not_taken sheet room r part = drop (taken_of (part_answer sheet room r part).told).took part

-- the texts that a reader writes for a list offered in parts, with any room at each call, the bytes not taken offered again with what
-- follows; and at the close, tried until it is not refused
pub data Answered (sheet : Sheet) : Reader → List ℕ → List ℕ → Type 0 where
  closed : (room : ℕ) (r : Reader) → IsOk (close_answer room r).told → Answered sheet r [] (closing r)
  unclosed :
      (room : ℕ) (r : Reader) (text : List ℕ) → (close_answer room r).told ≡ Err No.TooLong
      → Answered sheet (close_answer room r).reader [] text → Answered sheet r [] text
  offered :
      (room : ℕ) (r : Reader) (part s text : List ℕ)
      → Answered sheet (part_answer sheet room r part).reader (not_taken sheet room r part ++ s) text
      → Answered sheet r (part ++ s) ((stand_in sheet room r part).text ++ text)

-- every caller ends who offers some byte of the list at each call and, where the call before was refused, room for the longest answer
pub data Ends (sheet : Sheet) : Result Taken Refusal → Reader → List ℕ → Type 0 where
  ends :
      (told : Result Taken Refusal) (r : Reader) (list : List ℕ)
      → ((room : ℕ) (part s : List ℕ) → list ≡ part ++ s → 0 < length part
      → (told ≡ Err No.TooLong → longest_answer sheet ≤ room)
      → Ends sheet (part_answer sheet room r part).told (part_answer sheet room r part).reader (not_taken sheet room r part ++ s))
      → Ends sheet told r list
