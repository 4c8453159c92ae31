-- What writer and reader of a site file answer, and what they leave in lent bytes. Definitions only.
use Rattle.std.specs.Prelude.{ℕ, ◌≡◌, List, length, Result, Ok, Err}
use Rattle.std.specs.Result.{result_map_both}
use Rattle.refusals.specs.declared.Refusal.{Refusal}
use Rattle.refusals.specs.Order.{number_of}
use Rattle.lent.specs.Lent.{wrote, after}

-- the lent bytes b afterwards, of what was made: as they were on an error
unfoldable pub becomes : {E : Type 0} → Result (List ℕ) E → List ℕ → List ℕ
unfolding after
becomes (Ok s) b = after b s
becomes (Err e) b = b

-- the number that a call of C returns, and the lent number w afterwards: how many bytes were written, or as it was on an error
unfoldable pub told : {E : Type 0} → (E → ℕ) → Result ℕ E → ℕ → ℕ × ℕ
told number (Ok n) w = (0, n)
told number (Err e) w = (number e, w)

-- ---- of a call whose error is a refusal, or something else
module _ {E : Type 0} (refused : Refusal → E) where
  -- the answer where n bytes are lent: too few are told of after all else
  unfoldable pub answer_by : Result (List ℕ) E → ℕ → Result ℕ E
  unfolding wrote
  answer_by (Ok s) n = result_map_both (λ k. k) refused (wrote n s)
  answer_by (Err e) n = Err e

  -- what is promised of what was made and the lent bytes b: the answer r, and the bytes b₁ that b became
  pub record GivenBy (m : Result (List ℕ) E) (b : List ℕ) (r : Result ℕ E) (b₁ : List ℕ) : Type 0 where
    pub answer : r ≡ answer_by m (length b)
    pub became : b₁ ≡ becomes m b

  -- what is promised with the lent bytes b and the lent number w: the number n returned, and what b and w became
  pub record ToldBy (number : E → ℕ) (m : Result (List ℕ) E) (b : List ℕ) (w : ℕ) (n : ℕ) (b₁ : List ℕ) (w₁ : ℕ) : Type 0 where
    pub answer : (n, w₁) ≡ told number (answer_by m (length b)) w
    pub became : b₁ ≡ becomes m b

-- ---- of writer and reader, whose errors are refusals
abbrev pub Given : Result (List ℕ) Refusal → List ℕ → Result ℕ Refusal → List ℕ → Type 0
Given m b r b₁ = GivenBy (λ k. k) m b r b₁

abbrev pub Told : Result (List ℕ) Refusal → List ℕ → ℕ → ℕ → List ℕ → ℕ → Type 0
Told m b w n b₁ w₁ = ToldBy (λ k. k) number_of m b w n b₁ w₁

-- how many bytes a file's lines have, before it is known what is lent
unfoldable pub found : Result (List ℕ) Refusal → Result ℕ Refusal
found (Ok s) = Ok (length s)
found (Err k) = Err k

-- how many records a file has, of which so many are counted
unfoldable pub records_found : Result (List ℕ) Refusal → ℕ → Result ℕ Refusal
records_found (Ok s) n = Ok n
records_found (Err k) n = Err k

-- the number returned for a file of n records, and the lent number w afterwards: n, or as it was on a refusal
unfoldable pub counted : Result (List ℕ) Refusal → ℕ → ℕ → ℕ × ℕ
unfolding told records_found
counted m n w = told number_of (records_found m n) w
