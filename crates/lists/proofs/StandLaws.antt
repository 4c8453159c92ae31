-- Where a reader stands in a part: by its first byte; what it has written fits, what it leaves is the end of the part; and it has written
-- nothing, with bytes left, exactly where the first answer alone is longer than the room.
-- Assumes nothing.
use Prim.Native.Nat.{ℕ, ◌-◌, ◌≤◌, ◌<◌}
use mathlib.Core.Path.{◌≡◌, refl, sym, ap, ◌∙◌}
use mathlib.Core.Bool.{Bool, true, false, cond}
use mathlib.Core.List.{List, [], ◌∷◌, ◌++◌}
use native.Mathlib.Omega.{arith}
use borrow.Author.Tests.{lt-ltb, le-ltb, ltb-true, ltb-false}
use lib.Dec.{ltb, eqb}
use lib.ListN.{length, drop, length-append}
use lib.Seq.{drop_at}
use Rattle.std.specs.Prelude.{Ok}
use Rattle.numerals.specs.Render.{lf}
use Rattle.answer.specs.declared.Sheet.{Sheet}
use Rattle.answer.specs.Sheets.{answer_to}
use Rattle.answer.proofs.SomeAnswer.{some-answer}
use Rattle.lists.specs.declared.Reader.{Reader}
use Rattle.lists.specs.declared.Taken.{Taken}
use Rattle.lists.specs.Parts.{line_in, fresh, grown, Stand, read_from, stand_in, first_answer, Called, no_room, part_answer, taken_of, not_taken}

-- a text fits the room lent, or it does not
pub fits_or_not : (room : ℕ) (s : List ℕ) (P : Type 0) → (length s ≤ room → P) → (room < length s → P) → P
fits_or_not room s P fits full = go (ltb room (length s)) refl
  where
    go : (t : Bool) → ltb room (length s) ≡ t → P
    go true e = full (ltb-true room (length s) e)
    go false e = fits (ltb-false room (length s) e)

module _ (sheet : Sheet) (room : ℕ) where
  -- one case for each way on
  module _ (P : Stand → Type 0) (r : Reader) (text : List ℕ) (c : ℕ) (cs : List ℕ) where
    pub by_byte :
        (room < length (text ++ answer_to sheet (line_in r)) → P (record { reader = r; text = text; left = c ∷ cs }))
        → (length (text ++ answer_to sheet (line_in r)) ≤ room → P (read_from sheet room (fresh r) (text ++ answer_to sheet (line_in r)) cs))
        → P (read_from sheet room (grown r c) text cs)
        → P (read_from sheet room r text (c ∷ cs))
    unfolding read_from
    by_byte full fits byte = go (eqb c lf) (ltb room (length (text ++ answer_to sheet (line_in r)))) refl
      where
        go :
            (a b : Bool) → ltb room (length (text ++ answer_to sheet (line_in r))) ≡ b
            → P
            (cond a
            (cond b (record { reader = r; text = text; left = c ∷ cs }) (read_from sheet room (fresh r) (text ++ answer_to sheet (line_in r)) cs))
            (read_from sheet room (grown r c) text cs))
        go true true e = full (ltb-true room (length (text ++ answer_to sheet (line_in r))) e)
        go true false e = fits (ltb-false room (length (text ++ answer_to sheet (line_in r))) e)
        go false b e = byte

  -- ---- the text
  pub text_fits : (r : Reader) (text part : List ℕ) → length text ≤ room → length (read_from sheet room r text part).text ≤ room
  unfolding read_from
  text_fits r text [] h = h
  text_fits r text (c ∷ cs) h =
      by_byte (λ p. length p.text ≤ room) r text c cs
      (λ k. h)
      (λ k. text_fits (fresh r) (text ++ answer_to sheet (line_in r)) cs k)
      (text_fits (grown r c) text cs h)

  text_grows : (r : Reader) (text part : List ℕ) → length text ≤ length (read_from sheet room r text part).text
  unfolding read_from
  text_grows r text [] = omega arith
  text_grows r text (c ∷ cs) =
      by_byte (λ p. length text ≤ length p.text) r text c cs
      (λ k. omega arith)
      (λ k. omega (
        arith,
        text_grows (fresh r) (text ++ answer_to sheet (line_in r)) cs,
        length-append text (answer_to sheet (line_in r)),
      ))
      (text_grows (grown r c) text cs)

  -- ---- the bytes left
  -- the part is some bytes and those left
  record Front (part : List ℕ) (p : Stand) : Type 0 where
    front : List ℕ
    whole : front ++ p.left ≡ part

  before : (part : List ℕ) (p : Stand) (c : ℕ) → Front part p → Front (c ∷ part) p
  before part p c f = record { front = c ∷ f.front; whole = ap (λ (l : List ℕ). c ∷ l) f.whole }

  leaves : (r : Reader) (text part : List ℕ) → Front part (read_from sheet room r text part)
  unfolding read_from
  leaves r text [] = record { front = []; whole = refl }
  leaves r text (c ∷ cs) =
      by_byte (Front (c ∷ cs)) r text c cs
      (λ k. record { front = []; whole = refl })
      (λ k. before cs (read_from sheet room (fresh r) (text ++ answer_to sheet (line_in r)) cs) c
      (leaves (fresh r) (text ++ answer_to sheet (line_in r)) cs))
      (before cs (read_from sheet room (grown r c) text cs) c (leaves (grown r c) text cs))

  pub left_less : (r : Reader) (text part : List ℕ) → length (read_from sheet room r text part).left ≤ length part
  left_less r text part =
      let f = leaves r text part in omega (arith, ap length f.whole, length-append f.front (read_from sheet room r text part).left)

  left_is : (r : Reader) (part : List ℕ) → drop (length part - length (stand_in sheet room r part).left) part ≡ (stand_in sheet room r part).left
  left_is r part =
      let f = leaves r [] part in
      let l = (stand_in sheet room r part).left in
      ap (drop (length part - length l)) (sym f.whole)
      ∙ drop_at f.front l (length part - length l) (omega (arith, ap length f.whole, length-append f.front l))

  -- ---- the first answer
  -- nothing is written, and bytes are left
  abbrev pub Still : Stand → Type 0
  Still p = (p.text ≡ []) × (0 < length p.left)

  pub first-full : (r : Reader) (part : List ℕ) → room < length (first_answer sheet r part) → Still (stand_in sheet room r part)
  unfolding read_from first_answer
  first-full r [] h = absurd (omega arith)
  first-full r (c ∷ cs) h = go (eqb c lf) refl (λ k. first-full (grown r c) cs k)
    where
      go :
          (a : Bool) → eqb c lf ≡ a
          → (room < length (first_answer sheet (grown r c) cs) → Still (read_from sheet room (grown r c) [] cs))
          → Still (read_from sheet room r [] (c ∷ cs))
      go true e more = rw (e, lt-ltb room (length (answer_to sheet (line_in r))) (rw e at h)) (refl, omega arith)
      go false e more = rw e (more (rw e at h))

  -- where bytes are left, some are written
  abbrev pub Moved : Stand → Type 0
  Moved p = 0 < length p.left → 0 < length p.text

  pub first_fits : (r : Reader) (part : List ℕ) → length (first_answer sheet r part) ≤ room → Moved (stand_in sheet room r part)
  unfolding read_from first_answer
  first_fits r [] h k = absurd (omega arith)
  first_fits r (c ∷ cs) h k = go (eqb c lf) refl (λ f l. first_fits (grown r c) cs f l)
    where
      go :
          (a : Bool) → eqb c lf ≡ a
          → (length (first_answer sheet (grown r c) cs) ≤ room → Moved (read_from sheet room (grown r c) [] cs))
          → 0 < length (read_from sheet room r [] (c ∷ cs)).text
      go true e more =
          rw (e, le-ltb room (length (answer_to sheet (line_in r))) (rw e at h))
          (omega (arith, text_grows (fresh r) (answer_to sheet (line_in r)) cs, some-answer sheet (line_in r)))
      go false e more = rw e (more (rw e at h) (rw e at k))

  -- with room for it, a byte at least is taken of a part that has one
  pub first_taken : (r : Reader) (part : List ℕ) → length (first_answer sheet r part) ≤ room → 0 < length part → length (stand_in sheet room r part).left < length part
  unfolding read_from first_answer
  first_taken r [] h k = absurd (omega arith)
  first_taken r (c ∷ cs) h k = go (eqb c lf) refl
    where
      go : (a : Bool) → eqb c lf ≡ a → length (read_from sheet room r [] (c ∷ cs)).left < length (c ∷ cs)
      go true e =
          rw (e, le-ltb room (length (answer_to sheet (line_in r))) (rw e at h)) (omega (arith, left_less (fresh r) (answer_to sheet (line_in r)) cs))
      go false e = rw e (omega (arith, left_less (grown r c) [] cs))

  -- ---- the answer to a part
  module _ (r : Reader) (part : List ℕ) where
    pub answer-full : room < length (first_answer sheet r part) → part_answer sheet room r part ≡ no_room r
    unfolding part_answer
    answer-full h = rw (lt-ltb room (length (first_answer sheet r part)) h)

    pub answer-fits :
        length (first_answer sheet r part) ≤ room
        → part_answer sheet room r part
        ≡ record {
          told =
              Ok
              (record {
                took = length part - length (stand_in sheet room r part).left;
                wrote = length (stand_in sheet room r part).text;
              });
          reader = (stand_in sheet room r part).reader;
        }
    unfolding part_answer
    answer-fits h = rw (le-ltb room (length (first_answer sheet r part)) h)

    -- what is not taken: all of it on a refusal, else what the reader leaves
    pub not_taken_full : room < length (first_answer sheet r part) → not_taken sheet room r part ≡ part
    not_taken_full h = ap (λ (c : Called Taken). drop (taken_of c.told).took part) (answer-full h)

    pub not_taken_fits : length (first_answer sheet r part) ≤ room → not_taken sheet room r part ≡ (stand_in sheet room r part).left
    not_taken_fits h = ap (λ (c : Called Taken). drop (taken_of c.told).took part) (answer-fits h) ∙ left_is r part
