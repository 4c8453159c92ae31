-- What a program's arguments ask for. Definitions only.
use Rattle.std.specs.Prelude.{ℕ, Bool, true, false, cond, List, [], ◌∷◌, eqb, ltb, Option, Some, None}
use Rattle.numerals.specs.Render.{ascii}
use Rattle.answer.specs.declared.Sheet.{Sheet}
use Rattle.answer.specs.declared.Sheet.TheVariants as S
use Rattle.programs.specs.declared.Program.{Program}
use Rattle.programs.specs.declared.Program.TheVariants as P
use Rattle.programs.specs.declared.Word.{Word}
use Rattle.programs.specs.declared.Word.TheVariants as W
use Rattle.usage.specs.declared.Asked.{Asked}
use Rattle.usage.specs.declared.Asked.TheVariants as A

-- whether two texts have the same bytes
unfoldable pub same_text : List ℕ → List ℕ → Bool
same_text [] [] = true
same_text [] (y ∷ ys) = false
same_text (x ∷ xs) [] = false
same_text (x ∷ xs) (y ∷ ys) = cond (eqb x y) (same_text xs ys) false

-- the word that an argument is
unfoldable pub word_of : List ℕ → Word
unfolding same_text ascii
word_of s = cond (same_text s (ascii "--help")) W.Help (cond (same_text s (ascii "--period")) W.Period W.Unknown)

-- the sheet of a program that is asked for nothing else
abbrev pub sheet_of : Program → Sheet
sheet_of P.Complete = S.Completion
sheet_of P.Predict = S.Prediction

-- one argument alone
abbrev pub asked_alone : Word → Asked Sheet
asked_alone W.Help = A.Help
asked_alone W.Period = A.Misused
asked_alone W.Unknown = A.Misused

-- a number behind the word for a period
abbrev pub period_asked : Option ℕ → Asked Sheet
period_asked (Some t) = A.Run (S.Period t)
period_asked None = A.Misused

-- a word and a number: the predicting program's row at a period
abbrev pub asked_with : Program → Word → Option ℕ → Asked Sheet
asked_with P.Complete word number = A.Misused
asked_with P.Predict W.Help number = A.Misused
asked_with P.Predict W.Period number = period_asked number
asked_with P.Predict W.Unknown number = A.Misused

-- so many arguments, the program's own name counted: none besides it, one, two, or more
unfoldable pub asked_of : Program → ℕ → Word → Option ℕ → Asked Sheet
asked_of program count first second =
    cond (ltb count 2) (A.Run (sheet_of program))
    (cond (ltb count 3) (asked_alone first) (cond (ltb count 4) (asked_with program first second) A.Misused))
