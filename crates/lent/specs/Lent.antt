-- Lent memory, bytes or numbers, once something is written into it, and what a writer answers. Definitions only.
use Rattle.std.specs.Prelude.{ℕ, ◌+◌, ◌≡◌, cond, List, ◌++◌, ltb, length, take, drop, Result, Ok, Err}
use Rattle.refusals.specs.declared.Refusal.{Refusal}
use Rattle.refusals.specs.declared.Refusal.TheVariants as No

-- ---- from a place on
-- b with s written over it from place p on
unfoldable pub put : {A : Type 0} → List A → ℕ → List A → List A
put b p s = take p b ++ (s ++ drop (p + length s) b)

-- what a writer of s at place p promises: the place after s, and what b became
pub record Written {A : Type 0} (b : List A) (p : ℕ) (s : List A) (r : ℕ) (b₁ : List A) : Type 0 where
  pub place : r ≡ p + length s
  pub became : b₁ ≡ put b p s

-- ---- what a writer answers
-- how much was written: nothing on a refusal
abbrev pub count_of : Result ℕ Refusal → ℕ
count_of (Ok n) = n
count_of (Err n) = 0

-- ---- from the start
-- the answer of a writer of s that is lent n places: refused if s is longer
unfoldable pub wrote : {A : Type 0} → ℕ → List A → Result ℕ Refusal
wrote n s = cond (ltb n (length s)) (Err No.TooLong) (Ok (length s))

-- what is lent, b, afterwards: as it was if s is longer, else s and behind it what was there
unfoldable pub after : {A : Type 0} → List A → List A → List A
unfolding put
after b s = cond (ltb (length b) (length s)) b (put b 0 s)

-- what a writer of s into b promises: the answer r, and what b became
pub record LentWritten {A : Type 0} (b s : List A) (r : Result ℕ Refusal) (b₁ : List A) : Type 0 where
  pub answer : r ≡ wrote (length b) s
  pub became : b₁ ≡ after b s
