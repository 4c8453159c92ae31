-- The reader from part to part and from block to block: what it leaves of a part it would take next, and after all of some bytes it is
-- the same however they were cut. Assumes nothing.
use Prim.Native.Nat.{ℕ, zero, suc, min, ◌-◌, ◌≤◌, ◌<◌}
use mathlib.Core.Path.{◌≡◌, refl, sym, ap, ◌∙◌}
use mathlib.Core.Bool.{Bool, true, false, cond}
use mathlib.Core.List.{List, [], ◌∷◌, ◌++◌}
use native.Mathlib.Nat.{zero-add}
use native.Mathlib.Omega.{arith}
use lib.Dec.{eqb, ltb}
use lib.ListN.{length, take, drop}
use Rattle.std.specs.Prelude.{Result, Ok, Err, IsOk, is_ok}
use Rattle.refusals.specs.declared.Refusal.{Refusal}
use Rattle.lent.specs.Lent.{put}
use Rattle.lent.proofs.PutLaws.{take_put}
use Rattle.lent.proofs.WroteLaws.{after-fits}
use Rattle.numerals.specs.Render.{lf}
use Rattle.answer.specs.declared.Sheet.{Sheet}
use Rattle.answer.specs.Sheets.{answer_to, longest_answer}
use Rattle.lists.specs.declared.Reader.{Reader}
use Rattle.lists.specs.declared.Taken.{Taken}
use Rattle.lists.specs.Parts.{line_in, fresh, grown, closing, Stand, first_answer, read_from, stand_in, taken_of, PartTaken, Closed}
use Rattle.lists.proofs.StandLaws.{text_fits, first_taken, answer-fits, not_taken_fits}
use Rattle.lists.proofs.CloseLaws.{close_fits}
use Rattle.lists.proofs.Progress.{taken_exactly, never-refused}
use Rattle.filter.specs.declared.Stop.{Stop}
use Rattle.filter.specs.declared.Stop.TheVariants as S
use Rattle.filter.specs.Turns.{reader_after, BlockTurn, ReadTurn, Took, EndTurn}

-- ---- bytes cut in two
pub after-append : (r : Reader) (a b : List ℕ) → reader_after r (a ++ b) ≡ reader_after (reader_after r a) b
unfolding reader_after
after-append r [] b = refl
after-append r (c ∷ cs) b = go (eqb c lf) (after-append (fresh r) cs b) (after-append (grown r c) cs b)
  where
    go : (t : Bool)
        → reader_after (fresh r) (cs ++ b) ≡ reader_after (reader_after (fresh r) cs) b
        → reader_after (grown r c) (cs ++ b) ≡ reader_after (reader_after (grown r c) cs) b
        → cond t (reader_after (fresh r) (cs ++ b)) (reader_after (grown r c) (cs ++ b))
        ≡ reader_after (cond t (reader_after (fresh r) cs) (reader_after (grown r c) cs)) b
    go true f g = f
    go false f g = g

-- ---- a text written first in lent bytes stands there
first : (b s : List ℕ) → length s ≤ length b → take (length s) (put b 0 s) ≡ s
first b s h = ap (λ (n : ℕ). take n (put b 0 s)) (sym (zero-add (length s))) ∙ take_put b 0 s (omega arith)

-- the answer at the close
module _ {r r₁ : Reader} {b : List ℕ} {t : Result ℕ Refusal} {b₁ : List ℕ} (p : Closed r b t r₁ b₁) (h : length (closing r) ≤ length b) where
  pub closing_told : t ≡ Ok (length (closing r))
  closing_told = p.answer ∙ ap (λ c. c.told) (close_fits (length b) r h)

  pub closing_ok : IsOk t
  closing_ok = ap is_ok closing_told

  pub closing_stands : {n : ℕ} → t ≡ Ok n → take n b₁ ≡ closing r
  closing_stands {n} e =
      let same : n ≡ length (closing r) = let k = closing_told in cc in
      ap (λ (k : ℕ). take k b₁) same ∙ ap (take (length (closing r))) (p.bytes ∙ after-fits b (closing r) h) ∙ first b (closing r) h

  pub closing-within : {n : ℕ} → t ≡ Ok n → n ≤ length b
  closing-within {n} e = let same : n ≡ length (closing r) = let k = closing_told in cc in omega (arith, same, h)

-- ---- a part, of which the reader leaves what does not fit
-- what the bytes left make of the reader
abbrev After : Stand → Reader → Type 0
After p last = reader_after p.reader p.left ≡ last

module _ (sheet : Sheet) (room : ℕ) where
  -- the bytes left make of the reader what the part would have made
  same_after : (r : Reader) (text part : List ℕ) → reader_after (read_from sheet room r text part).reader (read_from sheet room r text part).left ≡ reader_after r part
  unfolding read_from reader_after
  same_after r text [] = refl
  same_after r text (c ∷ cs) =
      go (eqb c lf) (ltb room (length (text ++ answer_to sheet (line_in r)))) refl (same_after (fresh r) (text ++ answer_to sheet (line_in r)) cs) (same_after (grown r c) text cs)
    where
      go : (a b : Bool) → eqb c lf ≡ a
          → After (read_from sheet room (fresh r) (text ++ answer_to sheet (line_in r)) cs) (reader_after (fresh r) cs)
          → After (read_from sheet room (grown r c) text cs) (reader_after (grown r c) cs)
          → After
          (cond a (cond b (record { reader = r; text = text; left = c ∷ cs }) (read_from sheet room (fresh r) (text ++ answer_to sheet (line_in r)) cs))
          (read_from sheet room (grown r c) text cs))
          (cond a (reader_after (fresh r) cs) (reader_after (grown r c) cs))
      go true true e f g = rw e
      go true false e f g = f
      go false b e f g = g

module _ {sheet : Sheet} {r r₁ : Reader} {part b : List ℕ} {t : Result Taken Refusal} {b₁ : List ℕ} (p : PartTaken sheet r part b t r₁ b₁) (enough : longest_answer sheet ≤ length b) where
  abbrev stand : Stand
  stand = stand_in sheet (length b) r part

  fits : length (first_answer sheet r part) ≤ length b
  fits = taken_exactly sheet (length b) r part (never-refused sheet (length b) r part enough)

  -- with room for the longest answer no part is refused
  pub part_told : t ≡ Ok (record { took = length part - length stand.left; wrote = length stand.text })
  part_told = p.answer ∙ ap (λ c. c.told) (answer-fits sheet (length b) r part fits)

  pub part_ok : IsOk t
  part_ok = ap is_ok part_told

  left_is : drop (length part - length stand.left) part ≡ stand.left
  left_is = ap (λ c. drop (taken_of c.told).took part) (sym (answer-fits sheet (length b) r part fits)) ∙ not_taken_fits sheet (length b) r part fits

  module _ {taken : Taken} (e : t ≡ Ok taken) where
    taken_is : taken ≡ record { took = length part - length stand.left; wrote = length stand.text }
    taken_is = let k = part_told in cc

    pub wrote_within : taken.wrote ≤ length b
    wrote_within = omega (arith, ap (λ (u : Taken). u.wrote) taken_is, text_fits sheet (length b) r [] part (omega arith))

    pub took_within : taken.took ≤ length part
    took_within = omega (arith, ap (λ (u : Taken). u.took) taken_is)

    pub took_some : 0 < length part → 0 < taken.took
    took_some h = omega (arith, ap (λ (u : Taken). u.took) taken_is, first_taken sheet (length b) r part fits h)

    -- the bytes not taken make of the reader what the part would have made
    pub goes_on : reader_after r₁ (drop taken.took part) ≡ reader_after r part
    goes_on =
        ap (λ (u : Taken). reader_after r₁ (drop u.took part)) taken_is
        ∙ ap (reader_after r₁) left_is
        ∙ ap (λ (q : Reader). reader_after q stand.left) (p.reader ∙ ap (λ c. c.reader) (answer-fits sheet (length b) r part fits))
        ∙ same_after sheet (length b) r [] part

    -- what stands first in the lent bytes is the text
    pub answers_stand : length b₁ ≡ length b → take taken.wrote b₁ ≡ (read_from sheet (length b₁) r [] part).text
    answers_stand l =
        ap (λ (u : Taken). take u.wrote b₁) taken_is
        ∙ ap (take (length stand.text)) p.bytes
        ∙ first b stand.text (text_fits sheet (length b) r [] part (omega arith))
        ∙ ap (λ (n : ℕ). (read_from sheet n r [] part).text) (sym l)

-- ---- what `read` answered
pub unread : {E : Type 0} (r : Reader) (input : List ℕ) (e : E) → ReadTurn (Err e) r input r (Err S.Unread)
unread r input e = (refl, refl)

-- a block's turn, after which there may be more
abbrev pub and_more : {A : Type 0} → Result A Stop → Result Bool Stop
and_more (Ok a) = Ok true
and_more (Err stop) = Err stop

module _ (E : Type 0) (r : Reader) (input : List ℕ) where
  pub ended : (n : ℕ) → n ≡ 0 → ReadTurn {E = E} (Ok n) r input r (Ok false)
  ended zero e = (refl, refl)
  ended (suc k) e = absurd (omega arith)

  pub some_read :
      {A : Type 0} (n : ℕ) (r₁ : Reader) (turn : Result A Stop) → 0 < n → BlockTurn r (take (min n (length input)) input) r₁ turn
      → ReadTurn {E = E} (Ok n) r input r₁ (and_more turn)
  some_read zero r₁ turn h b = absurd (omega arith)
  some_read (suc k) r₁ (Ok a) h b = (b, refl)
  some_read (suc k) r₁ (Err stop) h b = (b, tt)

-- ---- from turn to turn
-- a reader that is as it was has taken nothing: so a list begins, with a new one as with any other
pub begun : {first : Reader} (r : Reader) → r ≡ first → Took first r
unfolding reader_after
begun r e = record { bytes = []; reader = e }

of_block : {A : Type 0} (r r₁ : Reader) (block : List ℕ) (turn : Result A Stop) → BlockTurn r block r₁ turn → Took r r₁
of_block r r₁ block (Ok a) h = record { bytes = block; reader = h }
of_block r r₁ block (Err stop) h = begun r₁ h.0

pub of_read : {E : Type 0} (got : Result ℕ E) (r r₁ : Reader) (input : List ℕ) (turn : Result Bool Stop) → ReadTurn got r input r₁ turn → Took r r₁
of_read (Err e) r r₁ input turn h = begun r₁ h.0
of_read (Ok zero) r r₁ input turn h = begun r₁ h.0
of_read (Ok (suc k)) r r₁ input turn h = of_block r r₁ (take (min (suc k) (length input)) input) turn h.0

-- the list so far, and what a turn took
pub next-turn : {r q s : Reader} → Took r q → Took q s → Took r s
next-turn {r} l m =
    record {
      bytes = l.bytes ++ m.bytes;
      reader = m.reader ∙ ap (λ (q : Reader). reader_after q m.bytes) l.reader ∙ sym (after-append r l.bytes m.bytes);
    }

-- how a list ends that was read to its end: the last answer was written, or it was not
pub ended_well : {read : Result (Unit {0}) Stop} → read ≡ Ok tt → EndTurn read (Ok tt)
ended_well e = rw e tt

pub ended_unwritten : {read : Result (Unit {0}) Stop} → read ≡ Ok tt → EndTurn read (Err S.Unwritten)
ended_unwritten e = rw e refl
