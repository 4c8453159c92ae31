-- By these calls too a list in parts gets the answers of the whole: what a call leaves in the lent bytes is the reader that the next one finds.
-- Assumes nothing.
use Prim.Native.Nat.{ℕ, ◌≤◌}
use mathlib.Core.Path.{◌≡◌, refl, sym, ap, ◌∙◌}
use mathlib.Core.Bool.{Bool, true, false}
use mathlib.Core.List.{List, [], ◌++◌}
use native.Mathlib.Nat.{zero-add}
use native.Mathlib.Omega.{arith}
use borrow.Author.Tests.{le-ltb, ltb-true, ltb-false}
use lib.Dec.{ltb}
use lib.ListN.{length, take, drop, length-replicate}
use Rattle.std.specs.Prelude.{Some, Result, Ok, Err, IsOk}
use Rattle.refusals.specs.declared.Refusal.{Refusal}
use Rattle.refusals.specs.declared.Refusal.TheVariants as No
use Rattle.refusals.specs.Order.{number_of}
use Rattle.lent.specs.Lent.{put, after}
use Rattle.lent.proofs.PutLaws.{take_put, length-put}
use Rattle.lent.proofs.WroteLaws.{after-fits}
use Rattle.text.specs.Grammar.{longest}
use Rattle.answer.specs.declared.Sheet.{Sheet}
use Rattle.lists.specs.declared.Reader.{Reader}
use Rattle.lists.specs.declared.Taken.{Taken}
use Rattle.lists.specs.Whole.{answers_from, answers_to}
use Rattle.lists.specs.Parts.{line_in, new_reader, closing, stand_in, Called, part_answer, close_answer, taken_of, PartTaken, Closed, not_taken}
use Rattle.lists.proofs.StandLaws.{text_fits}
use Rattle.lists.proofs.Progress.{wrote-is, zero_or_sixteen}
use Rattle.lists.proofs.CloseLaws.{close_fits, close_fitted, close_zero_or_sixteen}
use Rattle.lists.proofs.WholeList.{no_line_lem, next-full, one_call, closing-is}
use Rattle.kept.specs.Kept.{reader_size, reader_bytes, reader_in}
use Rattle.kept.proofs.KeptLaws.{found_again, held-full, length-bytes}
use Rattle.kept.specs.Calls.{Loan, loan, told, none_taken, begin_told, part_told, close_told, Served, taken, refused, closed, unclosed}
use Rattle.kept.proofs.TellLaws.{told-refused, told-taken, begin_misuse}

-- ---- told
-- a refusal is TooLong
abbrev OnlyTooLong : {A : Type 0} → Result A Refusal → Type 0
OnlyTooLong t = (n : Refusal) → t ≡ Err n → n ≡ No.TooLong

-- of a close too, told as one that takes none
only-close : (t : Result ℕ Refusal) → OnlyTooLong t → OnlyTooLong (none_taken t)
only-close (Ok m) only n e = absurd cc
only-close (Err k) only n e = let same : k ≡ n = cc in sym same ∙ only k refl

module _ (l l₁ : Loan) (r : Reader) (out : List ℕ) where
  -- 0 was told: the reader was not refused, and what it answered stands in what was lent
  told_zero :
      (t : Result Taken Refusal) → OnlyTooLong t → told l t r out ≡ (0, l₁)
      → IsOk t × (l₁ ≡ loan (put l.reader 0 (reader_bytes r)) out (taken_of t).took (taken_of t).wrote)
  told_zero (Ok t) only e = (refl, ap (λ (p : ℕ × Loan). p.1) (sym e ∙ told-taken l t r out))
  told_zero (Err n) only e =
      absurd (omega (arith, ap number_of (only n refl), ap (λ (p : ℕ × Loan). p.0) (sym (told-refused l n r out) ∙ e)))

  -- 16 was told: all is as it was
  told_sixteen : (t : Result Taken Refusal) → told l t r out ≡ (number_of No.TooLong, l₁) → l₁ ≡ l
  told_sixteen (Ok t) e = absurd (omega (arith, ap (λ (p : ℕ × Loan). p.0) (sym e ∙ told-taken l t r out)))
  told_sixteen (Err n) e = ap (λ (p : ℕ × Loan). p.1) (sym e ∙ told-refused l n r out)

-- ---- a call
-- with bytes enough for a reader
module _ (sheet : Sheet) (l : Loan) (h : reader_size ≤ length l.reader) where
  abbrev reader : Reader
  reader = reader_in l.reader

  abbrev room : ℕ
  room = length l.out

  part_goes :
      (part : List ℕ)
      → part_told (Some sheet) part l
      ≡ told l (part_answer sheet room reader part).told (part_answer sheet room reader part).reader
      (put l.out 0 (stand_in sheet room reader part).text)
  unfolding part_told
  part_goes part = rw (le-ltb (length l.reader) reader_size h)

  answered :
      (part : List ℕ)
      → PartTaken sheet reader part l.out (part_answer sheet room reader part).told (part_answer sheet room reader part).reader
      (put l.out 0 (stand_in sheet room reader part).text)
  answered part = record { answer = refl; reader = refl; bytes = refl }

  closed_so : Closed reader l.out (close_answer room reader).told (close_answer room reader).reader (after l.out (closing reader))
  closed_so = record { answer = refl; reader = refl; bytes = refl }

  close_goes :
      close_told l ≡ told l (none_taken (close_answer room reader).told) (close_answer room reader).reader (after l.out (closing reader))
  unfolding close_told
  close_goes = rw (le-ltb (length l.reader) reader_size h)

  -- a text written first in lent bytes stands there
  first : (s : List ℕ) → length s ≤ room → take (length s) (put l.out 0 s) ≡ s
  first s k = ap (λ (n : ℕ). take n (put l.out 0 s)) (sym (zero-add (length s))) ∙ take_put l.out 0 s (omega (arith, k))

  module _ (l₁ : Loan) where
    -- a part that is taken
    module _ (part : List ℕ) (e : part_told (Some sheet) part l ≡ (0, l₁)) where
      abbrev t : Called Taken
      t = part_answer sheet room reader part

      left :
          l₁
          ≡ loan (put l.reader 0 (reader_bytes t.reader)) (put l.out 0 (stand_in sheet room reader part).text) (taken_of t.told).took
          (taken_of t.told).wrote
      left = (told_zero l l₁ t.reader (put l.out 0 (stand_in sheet room reader part).text) t.told
          (zero_or_sixteen (answered part)) (sym (part_goes part) ∙ e)).1

      next-held : length t.reader.held ≡ longest
      next-held = next-full sheet room reader part (held-full l.reader h)

      part_found : reader_in l₁.reader ≡ t.reader
      part_found = ap (λ (k : Loan). reader_in k.reader) left ∙ found_again l.reader t.reader next-held

      part_size : reader_size ≤ length l₁.reader
      part_size =
          omega (
            arith,
            h,
            ap (λ (k : Loan). length k.reader) left,
            length-put l.reader 0 (reader_bytes t.reader) (omega (arith, h, length-bytes t.reader next-held)),
          )

      part_text : take l₁.wrote l₁.out ≡ (stand_in sheet room reader part).text
      part_text =
          ap (λ (k : Loan). take k.wrote k.out) left
          ∙ ap (λ (n : ℕ). take n (put l.out 0 (stand_in sheet room reader part).text)) (wrote-is sheet room reader part)
          ∙ first (stand_in sheet room reader part).text (text_fits sheet room reader [] part (omega arith))

      part_rest : drop l₁.took part ≡ not_taken sheet room reader part
      part_rest = ap (λ (k : Loan). drop k.took part) left

    -- a close that is not refused
    close_text : close_told l ≡ (0, l₁) → take l₁.wrote l₁.out ≡ closing reader
    close_text e =
        let c = close_answer room reader in
        let z = told_zero l l₁ c.reader (after l.out (closing reader)) (none_taken c.told) (only-close c.told (close_zero_or_sixteen closed_so)) (sym close_goes ∙ e) in
        let k = close_fitted room reader (ok_again c.told z.0) in
        ap (λ (m : Loan). take m.wrote m.out) z.1
        ∙ ap (λ (u : Called ℕ). take (taken_of (none_taken u.told)).wrote (after l.out (closing reader))) (close_fits room reader k)
        ∙ ap (take (length (closing reader))) (after-fits l.out (closing reader) k)
        ∙ first (closing reader) k
      where
        ok_again : (t : Result ℕ Refusal) → IsOk (none_taken t) → IsOk t
        ok_again (Ok n) h = refl
        ok_again (Err n) h = absurd cc

    -- a refusal leaves all as it was
    part_same : (part : List ℕ) → part_told (Some sheet) part l ≡ (number_of No.TooLong, l₁) → l₁ ≡ l
    part_same part e =
        let c = part_answer sheet room reader part in
        told_sixteen l l₁ c.reader (put l.out 0 (stand_in sheet room reader part).text) c.told (sym (part_goes part) ∙ e)

    close_same : close_told l ≡ (number_of No.TooLong, l₁) → l₁ ≡ l
    close_same e =
        let c = close_answer room reader in
        told_sixteen l l₁ c.reader (after l.out (closing reader)) (none_taken c.told) (sym close_goes ∙ e)

-- ---- the calls of a list
-- are those of its reader
served_from : {sheet : Sheet} {b s text : List ℕ} → reader_size ≤ length b → Served sheet b s text → text ≡ answers_from sheet (line_in (reader_in b)) s
served_from {sheet} h (taken l l₁ part s text e more) =
    ap (λ (k : List ℕ). k ++ text) (part_text sheet l h l₁ part e)
    ∙ one_call sheet (length l.out) (reader_in l.reader) (held-full l.reader h) part s text
    (served_from (part_size sheet l h l₁ part e) more
    ∙ ap (λ (r : Reader). answers_from sheet (line_in r) (drop l₁.took part ++ s)) (part_found sheet l h l₁ part e)
    ∙ ap (λ (k : List ℕ). answers_from sheet (line_in (part_answer sheet (length l.out) (reader_in l.reader) part).reader) (k ++ s)) (part_rest sheet l h l₁ part e))
served_from {sheet} h (refused l l₁ part s text e more) =
    let same = part_same sheet l h l₁ part e in
    served_from (omega (arith, h, ap (λ (k : Loan). length k.reader) same)) more
    ∙ ap (λ (k : Loan). answers_from sheet (line_in (reader_in k.reader)) s) same
served_from {sheet} h (closed l l₁ e) = close_text sheet l h l₁ e ∙ closing-is sheet (reader_in l.reader)
served_from {sheet} h (unclosed l l₁ text e more) =
    let same = close_same sheet l h l₁ e in
    served_from (omega (arith, h, ap (λ (k : Loan). length k.reader) same)) more
    ∙ ap (λ (k : Loan). answers_from sheet (line_in (reader_in k.reader)) []) same

-- ---- from a reader begun on
begun-long : (b₀ : List ℕ) {b : List ℕ} → begin_told b₀ ≡ (0, b) → reader_size ≤ length b₀
unfolding begin_told
begun-long b₀ {b} e = go (ltb (length b₀) reader_size) refl
  where
    go : (t : Bool) → ltb (length b₀) reader_size ≡ t → reader_size ≤ length b₀
    go true f = absurd (omega (arith, ap (λ (p : ℕ × List ℕ). p.0) (sym e ∙ sym (begin_misuse b₀ (ltb-true (length b₀) reader_size f)))))
    go false f = ltb-false (length b₀) reader_size f

begun-bytes : (b₀ : List ℕ) {b : List ℕ} → begin_told b₀ ≡ (0, b) → b ≡ put b₀ 0 (reader_bytes new_reader)
unfolding begin_told
begun-bytes b₀ {b} e =
    let told : begin_told b₀ ≡ (0, put b₀ 0 (reader_bytes new_reader)) = rw (le-ltb (length b₀) reader_size (begun-long b₀ e)) in
    ap (λ (p : ℕ × List ℕ). p.1) (sym e ∙ told)

-- they are the answers of the whole list
pub served_whole : (b₀ : List ℕ) {sheet : Sheet} {b s text : List ℕ} → begin_told b₀ ≡ (0, b) → Served sheet b s text → text ≡ answers_to sheet s
unfolding answers_to
served_whole b₀ {sheet} {b} {s} e a =
    let new = length-replicate {A = ℕ} longest 0 in
    let long = begun-long b₀ e in
    let bytes = begun-bytes b₀ e in
    served_from (omega (arith, long, ap length bytes, length-put b₀ 0 (reader_bytes new_reader) (omega (arith, long, length-bytes new_reader new)))) a
    ∙ ap (λ (r : Reader). answers_from sheet (line_in r) s) (ap reader_in bytes ∙ found_again b₀ new_reader new)
    ∙ ap (λ (k : List ℕ). answers_from sheet k s) (no_line_lem new_reader)
