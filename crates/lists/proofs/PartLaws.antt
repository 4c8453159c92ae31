-- The reader byte by byte: what holds from turn to turn of the loop over a part, and what each turn does to it. Assumes nothing.
use Prim.Native.Nat.{ℕ, ◌+◌, ◌-◌, ◌≤◌, ◌<◌}
use mathlib.Core.Path.{◌≡◌, refl, sym, ap, subst, ◌∙◌}
use mathlib.Core.Bool.{Bool, true, false}
use mathlib.Core.List.{List, [], ◌++◌}
use native.Mathlib.Omega.{arith}
use native.Mathlib.Numerals.{add-one}
use borrow.Author.Tests.{eq-eqb, ne_eqb, lt-ltb, le-ltb, ltb-true, ltb-false}
use lib.Dec.{ltb}
use lib.ListN.{length, get_or, take, drop, set, length-append, length-drop, length-set, drop_of_length-le}
use lib.Seq.{drop-cons, drop-drop, length-take-le}
use Rattle.std.specs.Prelude.{Result, Ok, Err}
use Rattle.refusals.specs.declared.Refusal.{Refusal}
use Rattle.refusals.specs.declared.Refusal.TheVariants as No
use Rattle.lent.specs.Lent.{put, LentWritten}
use Rattle.lent.proofs.PutLaws.{take_put, drop-put, length-put}
use Rattle.lent.proofs.WroteLaws.{to_fits, refused_full, after-fits, after-full}
use Rattle.lent.proofs.PartLaws.{given_back, back-same, back-put, put_front}
use Rattle.numerals.specs.Render.{lf}
use Rattle.text.specs.Grammar.{longest}
use Rattle.answer.specs.declared.Sheet.{Sheet}
use Rattle.answer.specs.Sheets.{answer_to}
use Rattle.lists.specs.declared.Reader.{Reader}
use Rattle.lists.specs.declared.Taken.{Taken}
use Rattle.lists.specs.Parts.{line_in, fresh, grown, Stand, read_from, stand_in, first_answer, Called, PartTaken}
use Rattle.lists.proofs.HeldLaws.{refused_number}
use Rattle.lists.proofs.StandLaws.{fits_or_not, first-full, first_fits, answer-full, answer-fits}

-- ---- what the reader makes of a part from a place on, by the byte at that place
module _ (sheet : Sheet) (room : ℕ) (r : Reader) (text part : List ℕ) (i : ℕ) where
  from_end : length part ≤ i → read_from sheet room r text (drop i part) ≡ record { reader = r; text = text; left = [] }
  unfolding read_from
  from_end h = rw (drop_of_length-le part h)

  module _ (inside : i < length part) where
    from-line : get_or part i 0 ≡ lf → length (text ++ answer_to sheet (line_in r)) ≤ room
        → read_from sheet room r text (drop i part) ≡ read_from sheet room (fresh r) (text ++ answer_to sheet (line_in r)) (drop (i + 1) part)
    unfolding read_from
    from-line e h =
        rw (drop-cons part i 0 inside, eq-eqb (get_or part i 0) lf e, le-ltb room (length (text ++ answer_to sheet (line_in r))) h, add-one i)

    from-full : get_or part i 0 ≡ lf → room < length (text ++ answer_to sheet (line_in r))
        → read_from sheet room r text (drop i part) ≡ record { reader = r; text = text; left = drop i part }
    unfolding read_from
    from-full e h =
        rw (drop-cons part i 0 inside, eq-eqb (get_or part i 0) lf e, lt-ltb room (length (text ++ answer_to sheet (line_in r))) h)

    from_byte : (get_or part i 0 ≡ lf → ⊥) → read_from sheet room r text (drop i part) ≡ read_from sheet room (grown r (get_or part i 0)) text (drop (i + 1) part)
    unfolding read_from
    from_byte e = rw (drop-cons part i 0 inside, ne_eqb (get_or part i 0) lf e, add-one i)

-- ---- the answer
same_taken : {i j m n : ℕ} → i ≡ j → m ≡ n
    → ◌≡◌ {A = Result Taken Refusal} (Ok (record { took = i; wrote = m })) (Ok (record { took = j; wrote = n }))
same_taken p e = cc

module _ (sheet : Sheet) (room : ℕ) (r : Reader) (part : List ℕ) where
  -- the first answer fits, where bytes left say that some were written
  not_full : (0 < length (stand_in sheet room r part).left → 0 < length (stand_in sheet room r part).text) → length (first_answer sheet r part) ≤ room
  not_full some =
      fits_or_not room (first_answer sheet r part) (length (first_answer sheet r part) ≤ room)
      (λ h. h)
      (λ h. let f = first-full sheet room r part h in absurd (omega (arith, ap length f.0, some f.1)))

  -- it does not, where some are left and none was written
  not_fits : 0 < length (stand_in sheet room r part).left → length (stand_in sheet room r part).text ≡ 0 → room < length (first_answer sheet r part)
  not_fits some none =
      fits_or_not room (first_answer sheet r part) (room < length (first_answer sheet r part))
      (λ h. absurd (omega (arith, none, first_fits sheet room r part h some)))
      (λ h. h)

-- ---- one byte more
pub grown-held : (r : Reader) (c : ℕ) → r.count < longest → grown r c ≡ record { held = set r.held r.count c; count = r.count + 1 }
unfolding grown
grown-held r c h = rw (lt-ltb r.count longest h)

pub grown_over : (r : Reader) (c : ℕ) → longest ≤ r.count → grown r c ≡ record { held = r.held; count = longest + 1 }
unfolding grown
grown_over r c h = rw (le-ltb r.count longest h)

-- the array keeps its length, and the count fits its byte
pub grown-length : (r : Reader) (c : ℕ) → length r.held ≡ longest → length (grown r c).held ≡ longest
grown-length r c full = go (ltb r.count longest) refl
  where
    go : (t : Bool) → ltb r.count longest ≡ t → length (grown r c).held ≡ longest
    go true e = ap (λ (q : Reader). length q.held) (grown-held r c (ltb-true r.count longest e)) ∙ length-set r.held r.count c ∙ full
    go false e = ap (λ (q : Reader). length q.held) (grown_over r c (ltb-false r.count longest e)) ∙ full

grown-counted : (r : Reader) (c : ℕ) → (grown r c).count ≤ 255
grown-counted r c = go (ltb r.count longest) refl
  where
    go : (t : Bool) → ltb r.count longest ≡ t → (grown r c).count ≤ 255
    go true e =
        omega (arith, ap (λ (q : Reader). q.count) (grown-held r c (ltb-true r.count longest e)), ltb-true r.count longest e)
    go false e = omega (arith, ap (λ (q : Reader). q.count) (grown_over r c (ltb-false r.count longest e)))

-- ---- from turn to turn
-- the rest of the part makes of the reader and the text so far what the whole part makes of the reader at its start
pub record Going (sheet : Sheet) (part out₀ : List ℕ) (r₀ r : Reader) (out : List ℕ) (wrote i : ℕ) : Type 0 where
  pub held-length : length r.held ≡ longest
  pub counted : r.count ≤ 255
  pub taken : i ≤ length part
  pub written : wrote ≤ length out
  pub out_length : length out ≡ length out₀
  pub behind : drop wrote out ≡ drop wrote out₀
  pub same : read_from sheet (length out₀) r (take wrote out) (drop i part) ≡ read_from sheet (length out₀) r₀ [] part

pub begins : (sheet : Sheet) (part out : List ℕ) (r : Reader) → length r.held ≡ longest → r.count ≤ 255 → Going sheet part out r r out 0 0
begins sheet part out r h k = record { held-length = h; counted = k; taken = omega arith; written = omega arith; out_length = refl; behind = refl; same = refl }

module _ {sheet : Sheet} {part out₀ : List ℕ} {r₀ r : Reader} {out : List ℕ} {wrote i : ℕ} (g : Going sheet part out₀ r₀ r out wrote i) where
  -- what is left of the lent bytes
  left_over : length (drop wrote out) ≡ length out - wrote
  left_over = length-drop wrote out

  -- the text so far and one line more
  both : (s : List ℕ) → length (take wrote out ++ s) ≡ wrote + length s
  both s = omega (arith, length-append (take wrote out) s, length-take-le wrote out g.written)

  -- where the reader stops: the text is what stands in the lent bytes
  module _ (l : List ℕ) (here : read_from sheet (length out₀) r (take wrote out) (drop i part) ≡ record { reader = r; text = take wrote out; left = l }) where
    stand_is : stand_in sheet (length out₀) r₀ part ≡ record { reader = r; text = take wrote out; left = l }
    stand_is = sym g.same ∙ here

    text_is : length (stand_in sheet (length out₀) r₀ part).text ≡ wrote
    text_is = ap (λ (p : Stand). length p.text) stand_is ∙ length-take-le wrote out g.written

    left_are : length (stand_in sheet (length out₀) r₀ part).left ≡ length l
    left_are = ap (λ (p : Stand). length p.left) stand_is

    bytes_are : out ≡ put out₀ 0 (stand_in sheet (length out₀) r₀ part).text
    bytes_are = put_front out₀ out wrote g.written g.behind ∙ sym (ap (λ (p : Stand). put out₀ 0 p.text) stand_is)

    -- what is promised: bytes were written, or none is left
    taken_to : i + length l ≡ length part → (0 < length l → 0 < wrote) → PartTaken sheet r₀ part out₀ (Ok (record { took = i; wrote = wrote })) r out
    taken_to left some =
        let fits = answer-fits sheet (length out₀) r₀ part (not_full sheet (length out₀) r₀ part (λ k. omega (arith, text_is, left_are, k, some (omega (arith, left_are, k))))) in
        record {
          answer = same_taken (omega (arith, left_are)) (sym text_is) ∙ sym (ap (λ (c : Called Taken). c.told) fits);
          reader = sym (ap (λ (p : Stand). p.reader) stand_is) ∙ sym (ap (λ (c : Called Taken). c.reader) fits);
          bytes = bytes_are;
        }

    -- or none was, and some are left
    refused-at : wrote ≡ 0 → 0 < length l → PartTaken sheet r₀ part out₀ (Err No.TooLong) r₀ out
    refused-at none some =
        let full = answer-full sheet (length out₀) r₀ part (not_fits sheet (length out₀) r₀ part (omega (arith, left_are)) (omega (arith, text_is))) in
        record {
          answer = sym (ap (λ (c : Called Taken). c.told) full);
          reader = sym (ap (λ (c : Called Taken). c.reader) full);
          bytes = bytes_are;
        }

  -- at the end of the part
  pub ends : length part ≤ i → PartTaken sheet r₀ part out₀ (Ok (record { took = length part; wrote = wrote })) r out
  ends h =
      let all : length part ≡ i = omega (arith, g.taken) in
      rw all (taken_to [] (from_end sheet (length out₀) r (take wrote out) part i h) (omega (arith, g.taken)) (λ k. absurd (omega arith)))

  module _ (inside : i < length part) where
    -- a byte of a line
    pub byte_pushed : (get_or part i 0 ≡ lf → ⊥) → Going sheet part out₀ r₀ (grown r (get_or part i 0)) out wrote (i + 1)
    byte_pushed e =
        record {
          held-length = grown-length r (get_or part i 0) g.held-length;
          counted = grown-counted r (get_or part i 0);
          taken = omega arith;
          written = g.written;
          out_length = g.out_length;
          behind = g.behind;
          same = sym (from_byte sheet (length out₀) r (take wrote out) part i inside e) ∙ g.same;
        }

    -- an LF
    module _ (e : get_or part i 0 ≡ lf) where
      abbrev line : List ℕ
      line = answer_to sheet (line_in r)

      line-put : wrote + length line ≤ length out → Going sheet part out₀ r₀ (fresh r) (put out wrote line) (wrote + length line) (i + 1)
      line-put h =
          record {
            held-length = g.held-length;
            counted = omega arith;
            taken = omega arith;
            written = omega (arith, length-put out wrote line h);
            out_length = length-put out wrote line h ∙ g.out_length;
            behind =
                drop-put out wrote line h
                ∙ sym (drop-drop (length line) wrote out)
                ∙ ap (drop (length line)) g.behind
                ∙ drop-drop (length line) wrote out₀;
            same =
                ap (λ (l : List ℕ). read_from sheet (length out₀) (fresh r) l (drop (i + 1) part)) (take_put out wrote line h)
                ∙ sym (from-line sheet (length out₀) r (take wrote out) part i inside e (omega (arith, both line, g.out_length)))
                ∙ g.same;
          }

      full : length out < wrote + length line → read_from sheet (length out₀) r (take wrote out) (drop i part) ≡ record { reader = r; text = take wrote out; left = drop i part }
      full h = from-full sheet (length out₀) r (take wrote out) part i inside e (omega (arith, both line, g.out_length))

      -- the answer is written into what is left of the lent bytes
      pub line-answered : {x : List ℕ} (n : ℕ) → LentWritten (drop wrote out) line (Ok n) x
          → Going sheet part out₀ r₀ (fresh r) (given_back out wrote x) (wrote + n) (i + 1)
      line-answered {x} n w =
          let f = to_fits (length (drop wrote out)) line n w.answer in
          let same : x ≡ put (drop wrote out) 0 line = w.became ∙ after-fits (drop wrote out) line f.0 in
          subst (λ (b : List ℕ). Going sheet part out₀ r₀ (fresh r) b (wrote + n) (i + 1)) (sym (ap (given_back out wrote) same ∙ back-put out wrote line))
          (subst (λ (k : ℕ). Going sheet part out₀ r₀ (fresh r) (put out wrote line) (wrote + k) (i + 1)) (sym f.1)
          (line-put (omega (arith, f.0, left_over, g.written))))

      -- or it is too long for them, and they are as they were
      module _ {x : List ℕ} (n : Refusal) (w : LentWritten (drop wrote out) line (Err n) x) where
        too_long : length out < wrote + length line
        too_long = omega (arith, refused_full (length (drop wrote out)) line n w.answer, left_over, g.written)

        same_bytes : given_back out wrote x ≡ out
        same_bytes =
            ap (given_back out wrote) (w.became ∙ after-full (drop wrote out) line (refused_full (length (drop wrote out)) line n w.answer))
            ∙ back-same out wrote

        -- so that the call is refused where it is the first
        pub line_refused : wrote ≡ 0 → PartTaken sheet r₀ part out₀ (Err n) r₀ (given_back out wrote x)
        line_refused k =
            rw (same_bytes, refused_number (length (drop wrote out)) line n w.answer)
            (refused-at (drop i part) (full too_long) k (omega (arith, length-drop i part)))

        -- and else stops before its LF
        pub line-stops : 0 < wrote → PartTaken sheet r₀ part out₀ (Ok (record { took = i; wrote = wrote })) r (given_back out wrote x)
        line-stops k = rw same_bytes (taken_to (drop i part) (full too_long) (omega (arith, length-drop i part)) (λ _. k))

-- ---- one answer and one state of the bytes
pub part_taken_one :
    {sheet : Sheet} {r : Reader} {part b : List ℕ} {t u : Result Taken Refusal} {q₁ q₂ : Reader} {b₁ b₂ : List ℕ}
    → PartTaken sheet r part b t q₁ b₁ → PartTaken sheet r part b u q₂ b₂ → (t ≡ u) × (q₁ ≡ q₂) × (b₁ ≡ b₂)
part_taken_one v w = (v.answer ∙ sym w.answer, v.reader ∙ sym w.reader, v.bytes ∙ sym w.bytes)
