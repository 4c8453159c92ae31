-- A list read in parts, cut anywhere, gets the answers of the whole: what is owed for a part and whatever follows it is what was
-- written, and what is owed for the bytes left and what follows.
-- Assumes nothing.
use Prim.Native.Nat.{ℕ, zero, suc, ◌+◌, ◌≤◌, ◌<◌}
use mathlib.Core.Path.{◌≡◌, refl, sym, ap, ap₂, subst, ◌∙◌}
use mathlib.Core.Bool.{Bool, true, false, cond}
use mathlib.Core.List.{List, [], ◌∷◌, ◌++◌, append_assoc, append-nil}
use native.Mathlib.Omega.{arith}
use native.Mathlib.Numerals.{add-one}
use borrow.Author.Tests.{ltb-true, ltb-false, ne_eqb}
use lib.Dec.{ltb, eqb}
use lib.ListN.{length, set, length-replicate, length-append, length-set, length-drop}
use lib.Seq.{take-suc-set, length-take-le}
use Rattle.text.specs.Grammar.{longest}
use Rattle.numerals.specs.Render.{lf}
use Rattle.answer.specs.declared.Sheet.{Sheet}
use Rattle.answer.specs.Sheets.{answer_to, longest_answer}
use Rattle.lists.specs.declared.Reader.{Reader}
use Rattle.lists.specs.declared.Taken.{Taken}
use Rattle.lists.specs.Whole.{answers_from, answers_to}
use Rattle.lists.specs.Parts.{line_in, new_reader, fresh, grown, closing, Stand, read_from, stand_in, Called, part_answer, taken_of, not_taken, Answered, closed, unclosed, offered}
use Rattle.lists.proofs.HeldLaws.{held_over, held_whole, over_answer}
use Rattle.lists.proofs.StandLaws.{first-full, answer-full, answer-fits, not_taken_full, not_taken_fits}
use Rattle.lists.proofs.PartLaws.{grown-held, grown_over, grown-length}
use Rattle.lists.proofs.Progress.{fits_or_full, takes, never-refused}
use Rattle.lists.proofs.CloseLaws.{close_full, close_sixteen, close_never_refused}

-- ---- lines too long are all alike
pub over_alike : (sheet : Sheet) (a b s : List ℕ) → longest < length a → longest < length b → answers_from sheet a s ≡ answers_from sheet b s
unfolding answers_from
over_alike sheet a b [] h k = rw (ne_eqb (length a) 0 (λ e. omega arith), ne_eqb (length b) 0 (λ e. omega arith))
over_alike sheet a b (c ∷ cs) h k =
    ap₂ (λ (x y : List ℕ). cond (eqb c lf) (x ++ answers_from sheet [] cs) y)
    (over_answer sheet a h ∙ sym (over_answer sheet b k))
    (over_alike sheet (a ++ (c ∷ [])) (b ++ (c ∷ [])) cs (omega (arith, length-append a (c ∷ []))) (omega (arith, length-append b (c ∷ []))))

-- ---- one byte more
module _ (r : Reader) (full : length r.held ≡ longest) (c : ℕ) where
  -- held with the others
  one_more : r.count < longest → line_in (grown r c) ≡ line_in r ++ (c ∷ [])
  one_more h =
      ap line_in (grown-held r c h)
      ∙ held_whole (set r.held r.count c) (r.count + 1) (omega arith)
      ∙ rw (add-one r.count) (take-suc-set r.held r.count c (omega arith))
      ∙ ap (λ (l : List ℕ). l ++ (c ∷ [])) (sym (held_whole r.held r.count (omega arith)))

  -- one too many, then and already before
  over_length : longest ≤ r.count → longest ≤ length (line_in r)
  over_length h = go (ltb longest r.count) refl
    where
      go : (t : Bool) → ltb longest r.count ≡ t → longest ≤ length (line_in r)
      go true e =
          omega (arith, ap length (held_over r.held r.count (ltb-true longest r.count e)), length-replicate {A = ℕ} (longest + 1) 0)
      go false e =
          let k = ltb-false longest r.count e in
          omega (arith, ap length (held_whole r.held r.count k), length-take-le r.count r.held (omega arith))

  -- what the reader with the byte is owed is what its line with the byte is
  grown-alike : (sheet : Sheet) (s : List ℕ) → answers_from sheet (line_in (grown r c)) s ≡ answers_from sheet (line_in r ++ (c ∷ [])) s
  grown-alike sheet s = go (ltb r.count longest) refl
    where
      go : (t : Bool) → ltb r.count longest ≡ t → answers_from sheet (line_in (grown r c)) s ≡ answers_from sheet (line_in r ++ (c ∷ [])) s
      go true e = ap (λ (l : List ℕ). answers_from sheet l s) (one_more (ltb-true r.count longest e))
      go false e =
          let h = ltb-false r.count longest e in
          let q = ap line_in (grown_over r c h) ∙ held_over r.held (longest + 1) (omega arith) in
          over_alike sheet (line_in (grown r c)) (line_in r ++ (c ∷ [])) s
          (omega (arith, ap length q, length-replicate {A = ℕ} (longest + 1) 0))
          (omega (arith, over_length h, length-append (line_in r) (c ∷ [])))

-- ---- a part
-- what a reader is owed that stands in a part, the bytes s after it: the text that it has written, and the answers to come
abbrev pub owed : Sheet → Stand → List ℕ → List ℕ
owed sheet p s = p.text ++ answers_from sheet (line_in p.reader) (p.left ++ s)

pub no_line_lem : (r : Reader) → line_in (fresh r) ≡ []
no_line_lem r = held_whole r.held 0 (omega arith)

module _ (sheet : Sheet) (room : ℕ) (s : List ℕ) where
  -- by its first byte
  module _ (r : Reader) (full : length r.held ≡ longest) (text : List ℕ) (c : ℕ) (cs : List ℕ) where
    abbrev line : List ℕ
    line = answer_to sheet (line_in r)

    step :
        (a b : Bool) → eqb c lf ≡ a
        → owed sheet (record { reader = fresh r; text = text ++ line; left = cs }) s ≡ owed sheet (read_from sheet room (fresh r) (text ++ line) cs) s
        → owed sheet (record { reader = grown r c; text = text; left = cs }) s ≡ owed sheet (read_from sheet room (grown r c) text cs) s
        → text ++ cond a (line ++ answers_from sheet [] (cs ++ s)) (answers_from sheet (line_in r ++ (c ∷ [])) (cs ++ s))
        ≡ owed sheet
        (cond a (cond b (record { reader = r; text = text; left = c ∷ cs }) (read_from sheet room (fresh r) (text ++ line) cs)) (read_from sheet room (grown r c) text cs))
        s
    unfolding answers_from
    step true true e f g = rw e
    step true false e f g =
        sym (append_assoc text line (answers_from sheet [] (cs ++ s)))
        ∙ ap (λ (l : List ℕ). (text ++ line) ++ answers_from sheet l (cs ++ s)) (sym (no_line_lem r))
        ∙ f
    step false b e f g = ap (λ (l : List ℕ). text ++ l) (sym (grown-alike r full c sheet (cs ++ s))) ∙ g

  -- the same once the part is read
  pub part_is :
      (r : Reader) (text part : List ℕ) → length r.held ≡ longest
      → owed sheet (record { reader = r; text = text; left = part }) s ≡ owed sheet (read_from sheet room r text part) s
  unfolding read_from answers_from
  part_is r text [] h = refl
  part_is r text (c ∷ cs) h =
      step r h text c cs (eqb c lf) (ltb room (length (text ++ answer_to sheet (line_in r)))) refl
      (part_is (fresh r) (text ++ answer_to sheet (line_in r)) cs h)
      (part_is (grown r c) text cs (grown-length r c h))

  -- and the array keeps its length
  pub part_full : (r : Reader) (text part : List ℕ) → length r.held ≡ longest → length (read_from sheet room r text part).reader.held ≡ longest
  unfolding read_from
  part_full r text [] h = h
  part_full r text (c ∷ cs) h =
      go (eqb c lf) (ltb room (length (text ++ answer_to sheet (line_in r))))
      (part_full (fresh r) (text ++ answer_to sheet (line_in r)) cs h) (part_full (grown r c) text cs (grown-length r c h))
    where
      go :
          (a b : Bool)
          → length (read_from sheet room (fresh r) (text ++ answer_to sheet (line_in r)) cs).reader.held ≡ longest
          → length (read_from sheet room (grown r c) text cs).reader.held ≡ longest
          → length
          (cond a
          (cond b (record { reader = r; text = text; left = c ∷ cs }) (read_from sheet room (fresh r) (text ++ answer_to sheet (line_in r)) cs))
          (read_from sheet room (grown r c) text cs)).reader.held
          ≡ longest
      go true true f g = h
      go true false f g = f
      go false b f g = g

-- ---- a whole list
-- the array keeps its length from call to call
pub next-full : (sheet : Sheet) (room : ℕ) (r : Reader) (part : List ℕ) → length r.held ≡ longest → length (part_answer sheet room r part).reader.held ≡ longest
next-full sheet room r part full =
    fits_or_full sheet room r part (length (part_answer sheet room r part).reader.held ≡ longest)
    (λ h. ap (λ (t : Called Taken). length t.reader.held) (answer-fits sheet room r part h) ∙ part_full sheet room [] r [] part full)
    (λ h. ap (λ (t : Called Taken). length t.reader.held) (answer-full sheet room r part h) ∙ full)

-- what a call wrote and what is owed after it is what was owed before; of a call that is refused all is owed still
module _ (sheet : Sheet) (room : ℕ) (r : Reader) (full : length r.held ≡ longest) (part s text : List ℕ) where
  abbrev rest : List ℕ
  rest = not_taken sheet room r part ++ s

  pub one_call :
      text ≡ answers_from sheet (line_in (part_answer sheet room r part).reader) rest
      → (stand_in sheet room r part).text ++ text ≡ answers_from sheet (line_in r) (part ++ s)
  one_call e =
      fits_or_full sheet room r part ((stand_in sheet room r part).text ++ text ≡ answers_from sheet (line_in r) (part ++ s))
      (λ h.
      ap (λ (l : List ℕ). (stand_in sheet room r part).text ++ l)
      (e
      ∙ ap (λ (t : Called Taken). answers_from sheet (line_in t.reader) rest) (answer-fits sheet room r part h)
      ∙ ap (λ (l : List ℕ). answers_from sheet (line_in (stand_in sheet room r part).reader) (l ++ s)) (not_taken_fits sheet room r part h))
      ∙ sym (part_is sheet room s r [] part full))
      (λ h.
      ap (λ (l : List ℕ). l ++ text) (first-full sheet room r part h).0
      ∙ e
      ∙ ap (λ (t : Called Taken). answers_from sheet (line_in t.reader) rest) (answer-full sheet room r part h)
      ∙ ap (λ (l : List ℕ). answers_from sheet (line_in r) (l ++ s)) (not_taken_full sheet room r part h))

-- at the end
pub closing-is : (sheet : Sheet) (r : Reader) → closing r ≡ answers_from sheet (line_in r) []
unfolding closing answers_from
closing-is sheet r = refl

-- from any reader on: what its line and the list after it get
pub answered-from : {sheet : Sheet} {r : Reader} {s text : List ℕ} → length r.held ≡ longest → Answered sheet r s text → text ≡ answers_from sheet (line_in r) s
answered-from {sheet} h (closed room r e) = closing-is sheet r
answered-from {sheet} h (unclosed room r text e a) =
    let same = ap (λ (t : Called ℕ). t.reader) (close_full room r ((close_sixteen room r).0 e)) in
    answered-from (ap (λ (q : Reader). length q.held) same ∙ h) a ∙ ap (λ (q : Reader). answers_from sheet (line_in q) []) same
answered-from {sheet} h (offered room r part s text a) =
    one_call sheet room r h part s text (answered-from (next-full sheet room r part h) a)

-- joined they are the answers to the list, however it was cut, whatever room was lent, and whenever a call was refused
pub answered-whole : {sheet : Sheet} {s text : List ℕ} → Answered sheet new_reader s text → text ≡ answers_to sheet s
unfolding answers_to
answered-whole {sheet} {s} a =
    answered-from (length-replicate {A = ℕ} longest 0) a ∙ ap (λ (l : List ℕ). answers_from sheet l s) (no_line_lem new_reader)

-- ---- there is always such a way
-- with room for the longest answer at each call
at_the_end : (sheet : Sheet) (r : Reader) → Answered sheet r [] (answers_from sheet (line_in r) [])
at_the_end sheet r =
    subst (Answered sheet r []) (closing-is sheet r)
    (closed (longest_answer sheet) r (close_never_refused sheet (longest_answer sheet) r (omega arith)))

answered_in :
    (sheet : Sheet) (n : ℕ) (r : Reader) (s : List ℕ) → length r.held ≡ longest → length s ≤ n
    → Answered sheet r s (answers_from sheet (line_in r) s)
answered_in sheet zero r [] full h = at_the_end sheet r
answered_in sheet zero r (c ∷ cs) full h = absurd (omega arith)
answered_in sheet (suc n) r [] full h = at_the_end sheet r
answered_in sheet (suc n) r (c ∷ cs) full h =
    let room = longest_answer sheet in
    let part = c ∷ cs in
    let t = part_answer sheet room r part in
    let rest = not_taken sheet room r part in
    let some = takes sheet room r part (never-refused sheet room r part (omega arith)) (omega arith) in
    let more = answered_in sheet n t.reader rest (next-full sheet room r part full) (omega (arith, h, some, length-drop (taken_of t.told).took part)) in
    let same = append-nil rest in
    subst (λ (l : List ℕ). Answered sheet r l (answers_from sheet (line_in r) l)) (append-nil part)
    (subst (Answered sheet r (part ++ []))
    (one_call sheet room r full part [] (answers_from sheet (line_in t.reader) rest) (ap (answers_from sheet (line_in t.reader)) (sym same)))
    (offered room r part [] (answers_from sheet (line_in t.reader) rest)
    (subst (λ (l : List ℕ). Answered sheet t.reader l (answers_from sheet (line_in t.reader) rest)) (sym same) more)))

pub always_answered : (sheet : Sheet) (s : List ℕ) → Answered sheet new_reader s (answers_to sheet s)
unfolding answers_to
always_answered sheet s =
    subst (λ (l : List ℕ). Answered sheet new_reader s (answers_from sheet l s)) (no_line_lem new_reader)
    (answered_in sheet (length s) new_reader s (length-replicate {A = ℕ} longest 0) (omega arith))
