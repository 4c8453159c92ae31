-- What a call tells of a list in parts and leaves in what was lent, by what the reader answers. Assumes nothing.
use Prim.Native.Nat.{ℕ, ◌≤◌, ◌<◌}
use mathlib.Core.Path.{◌≡◌, refl, sym, ap, ◌∙◌}
use mathlib.Core.List.{List}
use lib.ListN.{length}
use borrow.Author.Tests.{lt-ltb, le-ltb}
use Rattle.std.specs.Prelude.{Option, Some, None, Result, Ok, Err}
use Rattle.refusals.specs.declared.Refusal.{Refusal}
use Rattle.refusals.specs.declared.Refusal.TheVariants as No
use Rattle.refusals.specs.Order.{number_of}
use Rattle.lent.specs.Lent.{put, after, Written}
use Rattle.answer.specs.declared.Sheet.{Sheet}
use Rattle.lists.specs.declared.Reader.{Reader}
use Rattle.lists.specs.declared.Taken.{Taken}
use Rattle.lists.specs.Parts.{new_reader, closing, Called, close_answer, PartTaken, Closed}
use Rattle.lists.proofs.Progress.{refused-same, zero_or_sixteen}
use Rattle.lists.proofs.CloseLaws.{close_refused_same, close_zero_or_sixteen}
use Rattle.kept.specs.Faults.{misuse}
use Rattle.kept.specs.Kept.{reader_size, reader_bytes, reader_in}
use Rattle.kept.specs.Calls.{Loan, loan, told, none_taken, begin_told, part_told, close_told}

-- ---- a reader's answer
pub told-refused : (l : Loan) (n : Refusal) (r : Reader) (out : List ℕ) → told l (Err n) r out ≡ (number_of n, l)
unfolding told
told-refused l n r out = refl

pub told-taken : (l : Loan) (t : Taken) (r : Reader) (out : List ℕ) → told l (Ok t) r out ≡ (0, loan (put l.reader 0 (reader_bytes r)) out t.took t.wrote)
unfolding told
told-taken l t r out = refl

-- ---- begin
pub begin_misuse : (b : List ℕ) → length b < reader_size → (misuse, b) ≡ begin_told b
unfolding begin_told
begin_misuse b h = rw (lt-ltb (length b) reader_size h)

pub begin_good : {b : List ℕ} {r : Reader} {p : ℕ} {b₁ : List ℕ} → reader_size ≤ length b → r ≡ new_reader → Written b 0 (reader_bytes r) p b₁ → (0, b₁) ≡ begin_told b
unfolding begin_told
begin_good {b} h e w =
    rw (le-ltb (length b) reader_size h) (ap (λ (l : List ℕ). (0, l)) (w.became ∙ ap (λ (q : Reader). put b 0 (reader_bytes q)) e))

-- ---- a part
pub part_short : (a : Option Sheet) (part : List ℕ) (l : Loan) → length l.reader < reader_size → (misuse, l) ≡ part_told a part l
unfolding part_told
part_short None part l h = refl
part_short (Some s) part l h = rw (lt-ltb (length l.reader) reader_size h)

pub part_none : {a : Option Sheet} (part : List ℕ) (l : Loan) → a ≡ None → (misuse, l) ≡ part_told a part l
unfolding part_told
part_none part l e = rw e

module _ {a : Option Sheet} {sheet : Sheet} {r : Reader} {part : List ℕ} (l : Loan) {t : Result Taken Refusal} {r₁ : Reader} {out : List ℕ} (e : a ≡ Some sheet) (h : reader_size ≤ length l.reader) (q : r ≡ reader_in l.reader) (p : PartTaken sheet r part l.out t r₁ out) where
  part_told_lem : part_told a part l ≡ told l t r₁ out
  unfolding part_told
  part_told_lem = rw (e, le-ltb (length l.reader) reader_size h, ← q, ← p.answer, ← p.reader, ← p.bytes)

  pub part_refused : (n : Refusal) → t ≡ Err n → (number_of n, loan l.reader out l.took l.wrote) ≡ part_told a part l
  part_refused n f =
      rw (refused-same p (f ∙ ap Err (zero_or_sixteen p n f))).1
      (sym (part_told_lem ∙ ap (λ (t : Result Taken Refusal). told l t r₁ out) f ∙ told-refused l n r₁ out))

  pub part_taken : {b : List ℕ} {n : ℕ} (u : Taken) → t ≡ Ok u → Written l.reader 0 (reader_bytes r₁) n b → (0, loan b out u.took u.wrote) ≡ part_told a part l
  part_taken u f w = rw w.became (sym (part_told_lem ∙ ap (λ (t : Result Taken Refusal). told l t r₁ out) f ∙ told-taken l u r₁ out))

-- ---- the close
pub close_short : (l : Loan) → length l.reader < reader_size → (misuse, l) ≡ close_told l
unfolding close_told
close_short l h = rw (lt-ltb (length l.reader) reader_size h)

module _ {r : Reader} (l : Loan) {t : Result ℕ Refusal} {r₁ : Reader} {out : List ℕ} (h : reader_size ≤ length l.reader) (q : r ≡ reader_in l.reader) (p : Closed r l.out t r₁ out) where
  close_told_lem : close_told l ≡ told l (none_taken t) r₁ out
  unfolding close_told
  close_told_lem =
      rw (le-ltb (length l.reader) reader_size h)
      (ap (λ (q : Reader). told l (none_taken (close_answer (length l.out) q).told) (close_answer (length l.out) q).reader (after l.out (closing q))) (sym q)
      ∙ ap (λ (u : Result ℕ Refusal). told l (none_taken u) (close_answer (length l.out) r).reader (after l.out (closing r))) (sym p.answer)
      ∙ ap (λ (s : Reader). told l (none_taken t) s (after l.out (closing r))) (sym p.reader)
      ∙ ap (told l (none_taken t) r₁) (sym p.bytes))

  pub close_refused : (n : Refusal) → t ≡ Err n → (number_of n, loan l.reader out l.took l.wrote) ≡ close_told l
  close_refused n f =
      rw (close_refused_same p (f ∙ ap Err (close_zero_or_sixteen p n f))).1
      (sym (close_told_lem ∙ ap (λ (t : Result ℕ Refusal). told l (none_taken t) r₁ out) f ∙ told-refused l n r₁ out))

  pub close_taken : {b : List ℕ} {n : ℕ} (m : ℕ) → t ≡ Ok m → Written l.reader 0 (reader_bytes r₁) n b → (0, loan b out 0 m) ≡ close_told l
  close_taken m f w =
      rw w.became
      (sym (close_told_lem ∙ ap (λ (t : Result ℕ Refusal). told l (none_taken t) r₁ out) f ∙ told-taken l (record { took = 0; wrote = m }) r₁ out))
