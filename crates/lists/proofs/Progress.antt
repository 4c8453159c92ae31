-- What a caller of the reader leans on: TooLong is told exactly where the next answer is longer than the room lent, and changes nothing; a
-- call writes no more than that room; one that is not refused takes a byte at least of any part that has one; with room for the longest
-- answer none is refused; and so a caller that follows the rule ends.
-- Assumes nothing.
use Prim.Native.Nat.{ℕ, zero, suc, ◌+◌, ◌-◌, ◌*◌, ◌≤◌, ◌<◌}
use mathlib.Core.Path.{◌≡◌, refl, sym, ap, ◌∙◌}
use mathlib.Core.Bool.{Bool, true, false, cond}
use mathlib.Core.List.{List, [], ◌∷◌, ◌++◌}
use mathlib.Core.Logic.{◌↔◌}
use native.Mathlib.Omega.{arith}
use lib.Dec.{eqb}
use lib.ListN.{length, length-append, length-drop}
use Rattle.std.specs.Prelude.{Result, Ok, Err, IsOk, is_ok}
use Rattle.refusals.specs.declared.Refusal.{Refusal}
use Rattle.refusals.specs.declared.Refusal.TheVariants as No
use Rattle.lent.specs.Lent.{put}
use Rattle.lent.proofs.PutLaws.{put-nothing}
use Rattle.numerals.specs.Render.{lf}
use Rattle.answer.specs.declared.Sheet.{Sheet}
use Rattle.answer.specs.Sheets.{answer_to, longest_answer}
use Rattle.answer.proofs.LongestAnswer.{answer-short}
use Rattle.lists.specs.declared.Reader.{Reader}
use Rattle.lists.specs.declared.Taken.{Taken}
use Rattle.lists.specs.Parts.{line_in, grown, stand_in, first_answer, Called, part_answer, taken_of, PartTaken, not_taken, Ends, ends}
use Rattle.lists.proofs.StandLaws.{fits_or_not, text_fits, first-full, first_taken, answer-full, answer-fits, not_taken_full}

-- ---- what is told
-- of a call with room, and of one without
ok_not_refused : (t : Taken) (n : Refusal) → ◌≡◌ {A = Result Taken Refusal} (Ok t) (Err n) → ⊥
ok_not_refused t n e = cc

module _ (sheet : Sheet) (room : ℕ) (r : Reader) (part : List ℕ) where
  -- refused or not, by whether the first answer fits
  told_full : room < length (first_answer sheet r part) → (part_answer sheet room r part).told ≡ Err No.TooLong
  told_full h = ap (λ (c : Called Taken). c.told) (answer-full sheet room r part h)

  taken_fits :
      length (first_answer sheet r part) ≤ room
      → (part_answer sheet room r part).told
      ≡ Ok
      (record {
        took = length part - length (stand_in sheet room r part).left;
        wrote = length (stand_in sheet room r part).text;
      })
  taken_fits h = ap (λ (c : Called Taken). c.told) (answer-fits sheet room r part h)

  told_fits : length (first_answer sheet r part) ≤ room → IsOk (part_answer sheet room r part).told
  told_fits h = ap is_ok (taken_fits h)

  pub fits_or_full : (P : Type 0) → (length (first_answer sheet r part) ≤ room → P) → (room < length (first_answer sheet r part) → P) → P
  fits_or_full = fits_or_not room (first_answer sheet r part)

  -- TooLong says that the next answer is longer than the room, and nothing else gives it
  pub sixteen_exactly : ((part_answer sheet room r part).told ≡ Err No.TooLong) ↔ (room < length (first_answer sheet r part))
  sixteen_exactly = (
    λ e.
        fits_or_full (room < length (first_answer sheet r part))
        (λ h. absurd (ok_not_refused _ No.TooLong (sym (taken_fits h) ∙ e)))
        (λ h. h),
    told_full,
  )

  pub taken_exactly : IsOk (part_answer sheet room r part).told → length (first_answer sheet r part) ≤ room
  taken_exactly e =
      fits_or_full (length (first_answer sheet r part) ≤ room) (λ h. h) (λ h. absurd (no_ok (sym (ap is_ok (told_full h)) ∙ e)))
    where
      no_ok : false ≡ true → ⊥
      no_ok e = cc

  -- a call that is not refused takes a byte at least of a part that has one
  pub takes : IsOk (part_answer sheet room r part).told → 0 < length part → 0 < (taken_of (part_answer sheet room r part).told).took
  takes e h =
      let f = taken_exactly e in
      omega (arith, ap (λ (t : Result Taken Refusal). (taken_of t).took) (taken_fits f), first_taken sheet room r part f h)

  -- none takes or writes more than there is
  pub took_within : (taken_of (part_answer sheet room r part).told).took ≤ length part
  took_within =
      fits_or_full ((taken_of (part_answer sheet room r part).told).took ≤ length part)
      (λ h. omega (arith, ap (λ (t : Result Taken Refusal). (taken_of t).took) (taken_fits h)))
      (λ h. omega (arith, ap (λ (t : Result Taken Refusal). (taken_of t).took) (told_full h)))

  -- what is counted as written is the text
  pub wrote-is : (taken_of (part_answer sheet room r part).told).wrote ≡ length (stand_in sheet room r part).text
  wrote-is =
      fits_or_full ((taken_of (part_answer sheet room r part).told).wrote ≡ length (stand_in sheet room r part).text)
      (λ h. ap (λ (t : Result Taken Refusal). (taken_of t).wrote) (taken_fits h))
      (λ h.
      ap (λ (t : Result Taken Refusal). (taken_of t).wrote) (told_full h) ∙ sym (ap length (first-full sheet room r part h).0))

  pub wrote-within : (taken_of (part_answer sheet room r part).told).wrote ≤ room
  wrote-within = omega (arith, wrote-is, text_fits sheet room r [] part (omega arith))

-- no first answer is longer than the longest
first_short : (sheet : Sheet) (r : Reader) (part : List ℕ) → length (first_answer sheet r part) ≤ longest_answer sheet
unfolding first_answer
first_short sheet r [] = omega arith
first_short sheet r (c ∷ cs) = go (eqb c lf) (first_short sheet (grown r c) cs)
  where
    go :
        (t : Bool) → length (first_answer sheet (grown r c) cs) ≤ longest_answer sheet
        → length (cond t (answer_to sheet (line_in r)) (first_answer sheet (grown r c) cs)) ≤ longest_answer sheet
    go true h = answer-short sheet (line_in r)
    go false h = h

-- so that with that room no call is refused
pub never-refused : (sheet : Sheet) (room : ℕ) (r : Reader) (part : List ℕ) → longest_answer sheet ≤ room → IsOk (part_answer sheet room r part).told
never-refused sheet room r part h = told_fits sheet room r part (omega (arith, first_short sheet r part))

-- ---- a call
module _ {sheet : Sheet} {r : Reader} {part b : List ℕ} {t : Result Taken Refusal} {r₁ : Reader} {b₁ : List ℕ} (p : PartTaken sheet r part b t r₁ b₁) where
  -- no other refusal is given
  pub zero_or_sixteen : (n : Refusal) → t ≡ Err n → n ≡ No.TooLong
  zero_or_sixteen n e =
      fits_or_full sheet (length b) r part (n ≡ No.TooLong)
      (λ h. absurd (ok_not_refused _ n (sym (p.answer ∙ taken_fits sheet (length b) r part h) ∙ e)))
      (λ h. let f = p.answer ∙ told_full sheet (length b) r part h in cc)

  -- a refusal changes nothing
  pub refused-same : t ≡ Err No.TooLong → (r₁ ≡ r) × (b₁ ≡ b)
  refused-same e =
      let h = (sixteen_exactly sheet (length b) r part).0 (sym p.answer ∙ e) in (
        p.reader ∙ ap (λ (c : Called Taken). c.reader) (answer-full sheet (length b) r part h),
        p.bytes ∙ ap (put b 0) (first-full sheet (length b) r part h).0 ∙ sym (put-nothing b 0),
      )

  pub wrote_text : (taken_of t).wrote ≡ length (stand_in sheet (length b) r part).text
  wrote_text = ap (λ (u : Result Taken Refusal). (taken_of u).wrote) p.answer ∙ wrote-is sheet (length b) r part

  pub wrote-fits : (taken_of t).wrote ≤ length b
  wrote-fits =
      omega (arith, ap (λ (u : Result Taken Refusal). (taken_of u).wrote) p.answer, wrote-within sheet (length b) r part)

  pub took_fits : (taken_of t).took ≤ length part
  took_fits = omega (arith, ap (λ (u : Result Taken Refusal). (taken_of u).took) p.answer, took_within sheet (length b) r part)

  pub took_some : longest_answer sheet ≤ length b → 0 < length part → 0 < (taken_of t).took
  took_some h k =
      omega (
        arith,
        ap (λ (u : Result Taken Refusal). (taken_of u).took) p.answer,
        takes sheet (length b) r part (never-refused sheet (length b) r part h) k,
      )

-- ---- the caller ends
-- with each call that takes some, fewer are left; after a refusal as many, and then the next call has room
module _ (sheet : Sheet) (room : ℕ) (r : Reader) (part s : List ℕ) where
  fewer :
      length (first_answer sheet r part) ≤ room → 0 < length part → length (not_taken sheet room r part ++ s) < length (part ++ s)
  fewer h some =
      omega (
        arith,
        length-append (not_taken sheet room r part) s,
        length-append part s,
        length-drop (taken_of (part_answer sheet room r part).told).took part,
        takes sheet room r part (told_fits sheet room r part h) some,
        took_within sheet room r part,
      )

  as_many : room < length (first_answer sheet r part) → length (not_taken sheet room r part ++ s) ≡ length (part ++ s)
  as_many h = ap (λ (l : List ℕ). length (l ++ s)) (not_taken_full sheet room r part h)

  -- no call is refused with room for the longest answer
  no_second : room < length (first_answer sheet r part) → longest_answer sheet ≤ room → ⊥
  no_second h k = omega (arith, first_short sheet r part)

-- at most n calls: two for each byte, and one more unless the last call was refused
ends_in :
    (sheet : Sheet) (n more : ℕ) (told : Result Taken Refusal) (r : Reader) (list : List ℕ)
    → (more ≡ 0 → told ≡ Err No.TooLong) → 2 * length list + more ≤ n → Ends sheet told r list
ends_in sheet zero more told r list q h =
    ends told r list (λ room part s e some rule. absurd (omega (arith, h, some, ap length e, length-append part s)))
ends_in sheet (suc n) zero told r list q h =
    ends told r list
    (λ room part s e some rule.
    fits_or_full sheet room r part
    (Ends sheet (part_answer sheet room r part).told (part_answer sheet room r part).reader (not_taken sheet room r part ++ s))
    (λ f.
    ends_in sheet n 1 (part_answer sheet room r part).told (part_answer sheet room r part).reader (not_taken sheet room r part ++ s)
    (λ z. absurd (omega (arith, z)))
    (omega (arith, h, ap length e, fewer sheet room r part s f some)))
    (λ f. absurd (no_second sheet room r part s f (rule (q refl)))))
ends_in sheet (suc n) (suc more) told r list q h =
    ends told r list
    (λ room part s e some rule.
    fits_or_full sheet room r part
    (Ends sheet (part_answer sheet room r part).told (part_answer sheet room r part).reader (not_taken sheet room r part ++ s))
    (λ f.
    ends_in sheet n 1 (part_answer sheet room r part).told (part_answer sheet room r part).reader (not_taken sheet room r part ++ s)
    (λ z. absurd (omega (arith, z)))
    (omega (arith, h, ap length e, fewer sheet room r part s f some)))
    (λ f.
    ends_in sheet n 0 (part_answer sheet room r part).told (part_answer sheet room r part).reader (not_taken sheet room r part ++ s)
    (λ z. told_full sheet room r part f)
    (omega (arith, h, ap length e, as_many sheet room r part s f))))

-- whatever the last call told, and whatever stands in the reader
pub caller_ends : (sheet : Sheet) (told : Result Taken Refusal) (r : Reader) (list : List ℕ) → Ends sheet told r list
caller_ends sheet told r list = ends_in sheet (2 * length list + 1) 1 told r list (λ z. absurd (omega (arith, z))) (omega arith)
