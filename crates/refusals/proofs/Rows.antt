-- What `first` says of a list of rows: the refusal of the first that holds, exactly, and none that no row has. Assumes nothing.
use Prim.Native.Nat.{ℕ}
use mathlib.Core.Path.{◌≡◌, refl, sym, ap, subst, ◌∙◌}
use mathlib.Core.Bool.{Bool, true, false, not, ◌&&◌}
use mathlib.Core.List.{[], ◌∷◌, ◌++◌}
use lib.Dec.{T, eqb}
use lib.Ieee.Fits.{and_l, and_r}
use borrow.Author.Tests.{eq-eqb}
use Rattle.std.specs.Prelude.{Option, Some, None}
use Rattle.refusals.specs.declared.Refusal.{Refusal}
use Rattle.refusals.specs.Order.{Rows, number_of, first, Fires, here, later, Silent, empty, quiet}

-- ---- a refusal that no row has
-- n is the refusal of no row
abbrev pub absent : Refusal → Rows → Bool
absent n [] = true
absent n (row ∷ rows) = not (eqb (number_of row.0) (number_of n)) && absent n rows

none : {n : Refusal} → None ≡ Some n → ⊥
none h = cc

-- a refusal that no row has is not the first's
pub first_absent : (n : Refusal) (rows : Rows) → T (absent n rows) → first rows ≡ Some n → ⊥
unfolding first
first_absent n [] t e = none e
first_absent n ((m, true) ∷ rest) t e =
    let is : m ≡ n = cc in
    rw (eq-eqb (number_of m) (number_of n) (ap number_of is)) at (and_l (not (eqb (number_of m) (number_of n))) (absent n rest) t)
first_absent n ((m, false) ∷ rest) t e = first_absent n rest (and_r (not (eqb (number_of m) (number_of n))) (absent n rest) t) e

-- ---- the rows one by one
-- where no row holds, the first does not, and none of the others
pub clear : (row : Refusal × Bool) (rest : Rows) → first (row ∷ rest) ≡ None → (row.1 ≡ false) × (first rest ≡ None)
unfolding first
clear (n, true) rest e = absurd (none (sym e))
clear (n, false) rest e = (refl, e)

-- rows that do not hold, in front, do not count
pub first-after : (a b : Rows) → first a ≡ None → first (a ++ b) ≡ first b
unfolding first
first-after [] b e = refl
first-after ((n, true) ∷ rest) b e = absurd (none (sym e))
first-after ((n, false) ∷ rest) b e = first-after rest b e

-- rows behind one that holds do not count
pub first_before : (a b : Rows) (n : Refusal) → first a ≡ Some n → first (a ++ b) ≡ Some n
unfolding first
first_before [] b n e = absurd (none e)
first_before ((m, true) ∷ rest) b n e = e
first_before ((m, false) ∷ rest) b n e = first_before rest b n e

-- no row of two lists holds where none of their joined list does
pub first-both : (a b : Rows) → first (a ++ b) ≡ None → (first a ≡ None) × (first b ≡ None)
unfolding first
first-both [] b e = (refl, e)
first-both ((n, true) ∷ rest) b e = absurd (none (sym e))
first-both ((n, false) ∷ rest) b e = first-both rest b e

-- ---- exactly when
pub fires_first : (n : Refusal) (rows : Rows) → Fires n rows → first rows ≡ Some n
unfolding first
fires_first n rows here = refl
fires_first n rows (later {rest = rest} f) = fires_first n rest f

pub first_fires : (n : Refusal) (rows : Rows) → first rows ≡ Some n → Fires n rows
unfolding first
first_fires n [] e = absurd (none e)
first_fires n ((m, true) ∷ rest) e = let is : n ≡ m = cc in subst (λ (k : Refusal). Fires n ((k, true) ∷ rest)) is here
first_fires n ((m, false) ∷ rest) e = later (first_fires n rest e)

pub silent-first : (rows : Rows) → Silent rows → first rows ≡ None
unfolding first
silent-first rows empty = refl
silent-first rows (quiet {rest = rest} s) = silent-first rest s

pub first-silent : (rows : Rows) → first rows ≡ None → Silent rows
unfolding first
first-silent [] e = empty
first-silent ((n, true) ∷ rest) e = absurd (none (sym e))
first-silent ((n, false) ∷ rest) e = quiet (first-silent rest e)

pub nothing : first [] ≡ None
unfolding first
nothing = refl

-- a row that does not hold, in front of rows of which none does
pub skip : (n : Refusal) (b : Bool) (rest : Rows) → b ≡ false → first rest ≡ None → first ((n, b) ∷ rest) ≡ None
unfolding first
skip n b rest h e = rw h e

pub three : (a b c : Rows) → first a ≡ None → first b ≡ None → first c ≡ None → first (a ++ (b ++ c)) ≡ None
three a b c ea eb ec = first-after a (b ++ c) ea ∙ first-after b c eb ∙ ec

-- a row that holds, in front
pub holds : (n : Refusal) (b : Bool) (rest : Rows) → b ≡ true → first ((n, b) ∷ rest) ≡ Some n
unfolding first
holds n b rest h = rw h

-- a row that does not hold, in front of others
pub passes : (n : Refusal) (b : Bool) (rest : Rows) → b ≡ false → first ((n, b) ∷ rest) ≡ first rest
unfolding first
passes n b rest h = rw h
