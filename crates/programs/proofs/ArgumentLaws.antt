-- When two texts have the same bytes. Assumes nothing.
use Prim.Native.Nat.{ℕ}
use mathlib.Core.Path.{◌≡◌, refl}
use mathlib.Core.Bool.{Bool, true, false, cond, ◌&&◌}
use mathlib.Core.List.{List, [], ◌∷◌}
use borrow.Author.Tests.{eq-eqb, eqb-true}
use lib.Dec.{eqb}
use lib.Pointwise.{pointwise}
use Rattle.programs.specs.Arguments.{same_text}

same_self : (s : List ℕ) → same_text s s ≡ true
unfolding same_text
same_self [] = refl
same_self (x ∷ xs) = rw (eq-eqb x x refl) (same_self xs)

pub same_equal : (a b : List ℕ) → a ≡ b → same_text a b ≡ true
same_equal a b e = rw (← e) (same_self a)

equal_same : (a b : List ℕ) → same_text a b ≡ true → a ≡ b
unfolding same_text
equal_same [] [] e = refl
equal_same [] (y ∷ ys) e = cc
equal_same (x ∷ xs) [] e = cc
equal_same (x ∷ xs) (y ∷ ys) e = go (eqb x y) refl e (equal_same xs ys)
  where
    go : (t : Bool) → eqb x y ≡ t → cond t (same_text xs ys) false ≡ true → (same_text xs ys ≡ true → xs ≡ ys) → x ∷ xs ≡ y ∷ ys
    go true f h g = let p = eqb-true x y f in let q = g h in cc
    go false f h g = cc

-- a test that is true of equal texts is false of these
pub other_text : (a b : List ℕ) {t : Bool} → (a ≡ b → t ≡ true) → t ≡ false → same_text a b ≡ false
other_text a b {t} f h = go (same_text a b) refl
  where
    go : (s : Bool) → same_text a b ≡ s → same_text a b ≡ false
    go true e = let k = f (equal_same a b e) in cc
    go false e = e

-- so it is what `==` answers of them
pub same_pointwise : (a b : List ℕ) → same_text a b ≡ pointwise eqb a b
unfolding same_text
same_pointwise [] [] = refl
same_pointwise [] (y ∷ ys) = refl
same_pointwise (x ∷ xs) [] = refl
same_pointwise (x ∷ xs) (y ∷ ys) = go (eqb x y) (same_pointwise xs ys)
  where
    go : (t : Bool) → same_text xs ys ≡ pointwise eqb xs ys → cond t (same_text xs ys) false ≡ t && pointwise eqb xs ys
    go true e = e
    go false e = refl
