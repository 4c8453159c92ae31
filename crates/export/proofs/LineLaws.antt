-- The count of a line that was written is that of its bytes; 0 says that it was refused and nothing else, as no answer is empty; and 38
-- bytes for a completion, 912 for a prediction, are always enough. Assumes nothing.
use Prim.Native.Nat.{ℕ, ◌≤◌, ◌<◌}
use mathlib.Core.Path.{◌≡◌, refl, ap, ◌∙◌}
use mathlib.Core.Bool.{Bool, true, false}
use mathlib.Core.List.{List}
use mathlib.Core.Logic.{◌↔◌}
use native.Mathlib.Omega.{arith}
use lib.Dec.{ltb}
use lib.ListN.{length}
use borrow.Author.Tests.{lt-ltb, le-ltb, ltb-true, ltb-false}
use Rattle.std.specs.Prelude.{Result, Ok, Err}
use Rattle.std.specs.Result.{result_unwrap_or}
use Rattle.refusals.specs.declared.Refusal.{Refusal}
use Rattle.lent.specs.Lent.{count_of, wrote, LentWritten}
use Rattle.answer.specs.declared.Sheet.{Sheet}
use Rattle.answer.specs.Sheets.{answer_to, longest_answer}
use Rattle.answer.proofs.LongestAnswer.{answer-short}
use Rattle.answer.proofs.SomeAnswer.{some-answer}
use Rattle.export.specs.Given.{LineGiven}

-- ---- the count
-- what a line writer promises, its answer counted
counted : (w : Result ℕ Refusal) → result_unwrap_or w 0 ≡ count_of w
counted (Ok n) = refl
counted (Err e) = refl

pub line-given : {b s : List ℕ} {w : Result ℕ Refusal} {b₁ : List ℕ} (n : ℕ) → LentWritten b s w b₁ → n ≡ result_unwrap_or w 0 → LineGiven b s n b₁
line-given {w = w} n v e = record { count = e ∙ counted w ∙ ap count_of v.answer; bytes = v.became }

-- ---- what the count says
module _ {b s : List ℕ} {n : ℕ} {b₁ : List ℕ} (g : LineGiven b s n b₁) where
  pub count-refused : length b < length s → n ≡ 0
  unfolding wrote
  count-refused h = g.count ∙ rw (lt-ltb (length b) (length s) h)

  pub count_written : length s ≤ length b → n ≡ length s
  unfolding wrote
  count_written h = g.count ∙ rw (le-ltb (length b) (length s) h)

module _ (sheet : Sheet) (line : List ℕ) {b : List ℕ} {n : ℕ} {b₁ : List ℕ} (g : LineGiven b (answer_to sheet line) n b₁) where
  pub zero_exactly : (n ≡ 0) ↔ (length b < length (answer_to sheet line))
  zero_exactly = (λ e. go e (ltb (length b) (length (answer_to sheet line))) refl, count-refused g)
    where
      go : n ≡ 0 → (t : Bool) → ltb (length b) (length (answer_to sheet line)) ≡ t → length b < length (answer_to sheet line)
      go e true h = ltb-true (length b) (length (answer_to sheet line)) h
      go e false h =
          omega (arith, count_written g (ltb-false (length b) (length (answer_to sheet line)) h), some-answer sheet line)

  pub always_room : longest_answer sheet ≤ length b → n ≡ length (answer_to sheet line)
  always_room h = count_written g (omega (arith, answer-short sheet line))
