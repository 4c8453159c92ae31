-- How far a run has come, turn by turn. Definitions only.
use Rattle.std.specs.Prelude.{ℕ, zero, suc, min, ◌≡◌, cond, true, false, Bool, List, [], ◌∷◌, eqb, Result, Ok, Err, IfOk, length, take}
use Rattle.numerals.specs.Render.{lf}
use Rattle.lists.specs.declared.Reader.{Reader}
use Rattle.lists.specs.Parts.{fresh, grown}
use Rattle.filter.specs.declared.Stop.{Stop}
use Rattle.filter.specs.declared.Stop.TheVariants as S

-- ---- the reader
-- a reader once it has taken all of some bytes
unfoldable pub reader_after : Reader → List ℕ → Reader
unfolding grown
reader_after r [] = r
reader_after r (c ∷ cs) = cond (eqb c lf) (reader_after (fresh r) cs) (reader_after (grown r c) cs)

-- ---- turns of the reader r, which is r₁ after them: where one fails, it is the one before it
-- a block handed to it: all of it is taken and answered, or an answer cannot be written
abbrev pub BlockTurn : {A : Type 0} → Reader → List ℕ → Reader → Result A Stop → Type 0
BlockTurn r block r₁ (Ok a) = r₁ ≡ reader_after r block
BlockTurn r block r₁ (Err stop) = (r₁ ≡ r) × (stop ≡ S.Unwritten)

-- what `read` answered, and the buffer after it: an error, and it cannot be read; at 0 it has ended; else so many of the bytes are a
-- block, and there may be more
abbrev pub ReadTurn : {E : Type 0} → Result ℕ E → Reader → List ℕ → Reader → Result Bool Stop → Type 0
ReadTurn (Err e) r input r₁ turn = (r₁ ≡ r) × (turn ≡ Err S.Unread)
ReadTurn (Ok zero) r input r₁ turn = (r₁ ≡ r) × (turn ≡ Ok false)
ReadTurn (Ok (suc k)) r input r₁ turn = BlockTurn r (take (min (suc k) (length input)) input) r₁ turn × IfOk turn (λ more. more ≡ true)

-- turns that took some bytes or none: the reader is the one after them
pub record Took (r r₁ : Reader) : Type 0 where
  pub bytes : List ℕ
  pub reader : r₁ ≡ reader_after r bytes

-- the end of a list: its last answer is written or cannot be; where the list was not read to its end none is owed
abbrev pub EndTurn : Result (Unit {0}) Stop → Result (Unit {0}) Stop → Type 0
EndTurn (Ok u) (Ok v) = Unit {0}
EndTurn (Ok u) (Err stop) = stop ≡ S.Unwritten
EndTurn (Err stop) end = end ≡ Err stop
