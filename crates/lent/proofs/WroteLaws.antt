-- From what was written, or did not fit, to what a writer promises; and back. Assumes nothing.
use Prim.Native.Nat.{ℕ, ◌≤◌, ◌<◌}
use mathlib.Core.Path.{◌≡◌, refl, sym, ap, ◌∙◌}
use mathlib.Core.Bool.{Bool, true, false, cond}
use mathlib.Core.List.{List, []}
use native.Mathlib.Omega.{arith}
use borrow.Author.Tests.{lt-ltb, le-ltb, ltb-true, ltb-false}
use lib.Dec.{ltb}
use lib.ListN.{length}
use Rattle.std.specs.Prelude.{Result, Ok, Err}
use Rattle.refusals.specs.declared.Refusal.{Refusal}
use Rattle.refusals.specs.declared.Refusal.TheVariants as No
use Rattle.lent.specs.Lent.{put, Written, wrote, after, LentWritten}
use Rattle.lent.proofs.PutLaws.{put-nothing}

-- ---- what is promised
pub refuses : {A : Type 0} (b s : List A) → length b < length s → LentWritten b s (Err No.TooLong) b
unfolding wrote after
refuses b s h = record { answer = rw (lt-ltb (length b) (length s) h); became = rw (lt-ltb (length b) (length s) h) }

pub writes : {A : Type 0} {b s : List A} {r : ℕ} {b₁ : List A} → length s ≤ length b → Written b 0 s r b₁ → LentWritten b s (Ok r) b₁
unfolding wrote after
writes {b} {s} {r} h w =
    record {
      answer = rw (le-ltb (length b) (length s) h) (ap Ok (omega (arith, w.place)));
      became = rw (le-ltb (length b) (length s) h) w.became;
    }

-- of nothing
pub nothing_written : {A : Type 0} (b : List A) → LentWritten b [] (Ok 0) b
nothing_written b = writes (omega arith) (record { place = refl; became = put-nothing b 0 })

-- one answer and one state of what is lent
pub lent_written_one : {A : Type 0} {b s : List A} {q r : Result ℕ Refusal} {b₁ b₂ : List A} → LentWritten b s q b₁ → LentWritten b s r b₂ → (q ≡ r) × (b₁ ≡ b₂)
lent_written_one v w = (v.answer ∙ sym w.answer, v.became ∙ sym w.became)

-- ---- what the answer says of the room
module _ {A : Type 0} (n : ℕ) (s : List A) where
  pub to_fits : (k : ℕ) → Ok k ≡ wrote n s → (length s ≤ n) × (k ≡ length s)
  unfolding wrote
  to_fits k e = go (ltb n (length s)) refl e
    where
      go : (t : Bool) → ltb n (length s) ≡ t → Ok k ≡ cond t (Err No.TooLong) (Ok (length s)) → (length s ≤ n) × (k ≡ length s)
      go true h g = let z : ◌≡◌ {A = ℕ} 0 1 = cc in absurd (omega arith)
      go false h g = (ltb-false n (length s) h, cc)

  pub refused_full : (k : Refusal) → Err k ≡ wrote n s → n < length s
  unfolding wrote
  refused_full k e = go (ltb n (length s)) refl e
    where
      go : (t : Bool) → ltb n (length s) ≡ t → Err k ≡ cond t (Err No.TooLong) (Ok (length s)) → n < length s
      go true h g = ltb-true n (length s) h
      go false h g = let z : ◌≡◌ {A = ℕ} 0 1 = cc in absurd (omega arith)

pub after-fits : {A : Type 0} (b s : List A) → length s ≤ length b → after b s ≡ put b 0 s
unfolding after
after-fits b s h = rw (le-ltb (length b) (length s) h)

pub after-full : {A : Type 0} (b s : List A) → length b < length s → after b s ≡ b
unfolding after
after-full b s h = rw (lt-ltb (length b) (length s) h)
