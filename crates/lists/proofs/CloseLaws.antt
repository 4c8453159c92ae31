-- The close: TooLong is told exactly where its answer is longer than the room lent, and changes nothing; else the reader is a new one; and with
-- room for the longest answer it is never refused.
-- Assumes nothing.
use Prim.Native.Nat.{ℕ, ◌+◌, ◌≤◌, ◌<◌}
use mathlib.Core.Path.{◌≡◌, sym, ap, ◌∙◌}
use mathlib.Core.Bool.{Bool, true, false, cond}
use mathlib.Core.List.{List, []}
use mathlib.Core.Logic.{◌↔◌}
use native.Mathlib.Omega.{arith}
use borrow.Author.Tests.{lt-ltb, le-ltb}
use lib.Dec.{eqb}
use lib.ListN.{length}
use Rattle.std.specs.Prelude.{Result, Ok, Err, IsOk, is_ok}
use Rattle.refusals.specs.declared.Refusal.{Refusal}
use Rattle.refusals.specs.declared.Refusal.TheVariants as No
use Rattle.lent.specs.Lent.{wrote, put, LentWritten}
use Rattle.lent.proofs.WroteLaws.{to_fits, refused_full, after-fits, after-full}
use Rattle.lines.specs.Lines.{no_line}
use Rattle.text.specs.Grammar.{longest}
use Rattle.answer.specs.declared.Sheet.{Sheet}
use Rattle.answer.specs.Sheets.{longest_answer}
use Rattle.answer.proofs.LongestAnswer.{answer-short}
use Rattle.lists.specs.declared.Reader.{Reader}
use Rattle.lists.specs.Whole.{ending}
use Rattle.lists.specs.Parts.{held_line, line_in, new_reader, closing, Called, no_room, close_answer, Closed}
use Rattle.lists.proofs.HeldLaws.{refused_number, over_held}
use Rattle.lists.proofs.StandLaws.{fits_or_not}

-- a close that is told of is not refused
ok_not_refused : (n : ℕ) (e : Refusal) → ◌≡◌ {A = Result ℕ Refusal} (Ok n) (Err e) → ⊥
ok_not_refused n e h = cc

-- ---- the answer
module _ (room : ℕ) (r : Reader) where
  pub close_full : room < length (closing r) → close_answer room r ≡ no_room r
  unfolding close_answer
  close_full h = rw (lt-ltb room (length (closing r)) h)

  pub close_fits : length (closing r) ≤ room → close_answer room r ≡ record { told = Ok (length (closing r)); reader = new_reader }
  unfolding close_answer
  close_fits h = rw (le-ltb room (length (closing r)) h)

  pub close_sixteen : ((close_answer room r).told ≡ Err No.TooLong) ↔ (room < length (closing r))
  close_sixteen = (
    λ e.
        fits_or_not room (closing r) (room < length (closing r))
        (λ h. absurd (ok_not_refused (length (closing r)) No.TooLong (sym (ap (λ (c : Called ℕ). c.told) (close_fits h)) ∙ e)))
        (λ h. h),
    λ h. ap (λ (c : Called ℕ). c.told) (close_full h),
  )

  pub close_fitted : IsOk (close_answer room r).told → length (closing r) ≤ room
  close_fitted e =
      fits_or_not room (closing r) (length (closing r) ≤ room)
      (λ h. h)
      (λ h. absurd (no_ok (sym (ap (λ (c : Called ℕ). is_ok c.told) (close_full h)) ∙ e)))
    where
      no_ok : false ≡ true → ⊥
      no_ok e = cc

module _ {r : Reader} {b : List ℕ} {t : Result ℕ Refusal} {r₁ : Reader} {b₁ : List ℕ} (p : Closed r b t r₁ b₁) where
  -- by whether there is room
  when_fits : length (closing r) ≤ length b → (t ≡ Ok (length (closing r))) × (r₁ ≡ new_reader)
  when_fits h =
      (p.answer ∙ ap (λ (c : Called ℕ). c.told) (close_fits (length b) r h), p.reader ∙ ap (λ (c : Called ℕ). c.reader) (close_fits (length b) r h))

  when_full : length b < length (closing r) → (t ≡ Err No.TooLong) × (r₁ ≡ r)
  when_full h =
      (p.answer ∙ ap (λ (c : Called ℕ). c.told) (close_full (length b) r h), p.reader ∙ ap (λ (c : Called ℕ). c.reader) (close_full (length b) r h))

  -- one that is not refused leaves a new reader
  pub closed_new : IsOk t → r₁ ≡ new_reader
  closed_new e = (when_fits (close_fitted (length b) r (sym (ap is_ok p.answer) ∙ e))).1

  -- no other refusal is given
  pub close_zero_or_sixteen : (n : Refusal) → t ≡ Err n → n ≡ No.TooLong
  close_zero_or_sixteen n e =
      fits_or_not (length b) (closing r) (n ≡ No.TooLong)
      (λ h. absurd (ok_not_refused (length (closing r)) n (sym (when_fits h).0 ∙ e)))
      (λ h. let f = (when_full h).0 in cc)

  -- a refusal changes nothing
  pub close_refused_same : t ≡ Err No.TooLong → (r₁ ≡ r) × (b₁ ≡ b)
  close_refused_same e =
      let h = (close_sixteen (length b) r).0 (sym p.answer ∙ e) in
      ((when_full h).1, p.bytes ∙ after-full b (closing r) h)

  -- where there is room the answer is written
  module _ (room : length (closing r) ≤ length b) where
    pub closed_wrote : t ≡ Ok (length (closing r))
    closed_wrote = (when_fits room).0

    pub closed_bytes : b₁ ≡ put b 0 (closing r)
    closed_bytes = p.bytes ∙ after-fits b (closing r) room

pub closed_one :
    {r : Reader} {b : List ℕ} {t u : Result ℕ Refusal} {q₁ q₂ : Reader} {b₁ b₂ : List ℕ} → Closed r b t q₁ b₁ → Closed r b u q₂ b₂
    → (t ≡ u) × (q₁ ≡ q₂) × (b₁ ≡ b₂)
closed_one v w = (v.answer ∙ sym w.answer, v.reader ∙ sym w.reader, v.bytes ∙ sym w.bytes)

-- ---- from what was written to what is promised
module _ {r : Reader} {b b₁ : List ℕ} where
  pub closed_to : {q : Reader} (n : ℕ) → LentWritten b (closing r) (Ok n) b₁ → q ≡ new_reader → Closed r b (Ok n) q b₁
  closed_to n w e =
      let f = to_fits (length b) (closing r) n w.answer in
      let c = close_fits (length b) r f.0 in
      record {
        answer = ap Ok f.1 ∙ sym (ap (λ (c : Called ℕ). c.told) c);
        reader = e ∙ sym (ap (λ (c : Called ℕ). c.reader) c);
        bytes = w.became;
      }

  pub closed_refused : (n : Refusal) → LentWritten b (closing r) (Err n) b₁ → Closed r b (Err n) r b₁
  closed_refused n w =
      let c = close_full (length b) r (refused_full (length b) (closing r) n w.answer) in
      record {
        answer = ap Err (refused_number (length b) (closing r) n w.answer) ∙ sym (ap (λ (c : Called ℕ). c.told) c);
        reader = sym (ap (λ (c : Called ℕ). c.reader) c);
        bytes = w.became;
      }

-- ---- with room for the longest answer
-- a close writes no more than the line of a malformed request
short : (sheet : Sheet) (t : Bool) → length (cond t [] (no_line No.Malformed)) ≤ longest_answer sheet
short sheet true = omega arith
short sheet false =
    rw (← over_held sheet [] (longest + 1) (omega arith)) (answer-short sheet (held_line [] (longest + 1)))

pub closing-short : (sheet : Sheet) (r : Reader) → length (closing r) ≤ longest_answer sheet
unfolding closing ending
closing-short sheet r = short sheet (eqb (length (line_in r)) 0)

pub close_never_refused : (sheet : Sheet) (room : ℕ) (r : Reader) → longest_answer sheet ≤ room → IsOk (close_answer room r).told
close_never_refused sheet room r h = ap (λ (c : Called ℕ). is_ok c.told) (close_fits room r (omega (arith, h, closing-short sheet r)))
