-- The bytes of the argument are those of the first word, or of the second, or they are not. Assumes nothing.
use mathlib.Core.Path.{◌≡◌, ◌∙◌}
use mathlib.Core.Bool.{Bool}
use mathlib.Core.List.{List}
use Prim.Native.Nat.{ℕ}
use lib.Dec.{eqb}
use lib.Pointwise.{pointwise}
use Rattle.numerals.specs.Render.{ascii}
use Rattle.programs.specs.Arguments.{same_text, word_of}
use Rattle.programs.proofs.ArgumentLaws.{same_pointwise}
use Rattle.programs.proofs.word_of.Goals as goal

-- by what `==` answered of the argument and a word's bytes
told : (s word : List ℕ) {bytes : List ℕ} {answer t : Bool} → bytes ≡ word → answer ≡ pointwise eqb s bytes → answer ≡ t → same_text s word ≡ t
told s word e a h = same_pointwise s word ∙ cc

pub returns-then-eq : goal.returns-then-eq
unfolding word_of ascii
returns-then-eq c = rw (told c.args.s.now (ascii "--help") c.as_slice.ensures c.eq.ensures c.if-eq.true)

pub returns-then-eq-2 : goal.returns-then-eq-2
unfolding word_of ascii
returns-then-eq-2 c =
    rw (
      told c.args.s.now (ascii "--help") c.as_slice.ensures c.eq.ensures c.if-eq.false,
      told c.args.s.now (ascii "--period") c.as_slice-2.ensures c.eq-2.ensures c.if-eq-2.true,
    )

pub returns : goal.returns
unfolding word_of ascii
returns c =
    rw (
      told c.args.s.now (ascii "--help") c.as_slice.ensures c.eq.ensures c.if-eq.false,
      told c.args.s.now (ascii "--period") c.as_slice-2.ensures c.eq-2.ensures c.if-eq-2.false,
    )
