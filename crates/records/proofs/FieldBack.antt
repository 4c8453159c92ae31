-- One field: its number and origin, written and read again, and read and written again. Assumes nothing.
use Prim.Native.Nat.{ℕ, ◌-◌, ◌≤◌, ◌<◌}
use mathlib.Core.Path.{◌≡◌, refl, sym, ap}
use mathlib.Core.Bool.{Bool, true, false, cond, and-eq-true_iff}
use native.Mathlib.Omega.{arith}
use borrow.Author.Tests.{lt-ltb, le-ltb, leb-true, eqb-true}
use lib.Dec.{ltb, leb, eqb}
use lib.IntN.{ℤ, pos, negsuc}
use lib.Signed.{le_z}
use Rattle.std.specs.Prelude.{Some, None}
use Rattle.request.specs.declared.Field.{Field}
use Rattle.request.specs.declared.Field.TheVariants.{Measured, Inferred, Estimated, Blank}
use Rattle.fields.specs.Held.{held, holds}
use Rattle.records.specs.Records.{lowest, word_of, signed_in, number_of, origin_of, given_as, field_in}

-- ---- signed numbers
-- a number that text can hold has six digits
held_high : (signed : Bool) (n : ℕ) → held signed (pos n) ≡ true → n ≤ 999999
unfolding held
held_high signed n h = leb-true n 999999 ((and-eq-true_iff (le_z (cond signed (negsuc 999998) (pos 0)) (pos n)) (leb n 999999)).0 h).1

held_low : (signed : Bool) (n : ℕ) → held signed (negsuc n) ≡ true → n ≤ 999998
unfolding held
held_low true n h = leb-true n 999998 ((and-eq-true_iff (leb n 999998) true).0 h).0
held_low false n h = let z : ◌≡◌ {A = ℕ} 0 1 = cc in absurd (omega arith)

-- so it fits in four bytes
word_lt : (signed : Bool) (v : ℤ) → held signed v ≡ true → word_of v < 4294967296
unfolding word_of
word_lt signed (pos n) h = omega (arith, held_high signed n h)
word_lt signed (negsuc n) h = omega arith

-- and is read from them as it was
word_back : (signed : Bool) (v : ℤ) → held signed v ≡ true → signed_in (word_of v) ≡ v
unfolding word_of signed_in
word_back signed (pos n) h = rw (lt-ltb n lowest (omega (arith, held_high signed n h)))
word_back signed (negsuc n) h =
    let k = held_low signed n h in
    rw (le-ltb (4294967295 - n) lowest (omega arith)) (ap negsuc (omega arith))

-- a signed number that four bytes make stands in four bytes as it stood there
signed_back_lem : (n : ℕ) → n < 4294967296 → word_of (signed_in n) ≡ n
unfolding word_of signed_in
signed_back_lem n h = go (ltb n lowest) refl
  where
    go : (t : Bool) → ltb n lowest ≡ t → word_of (cond t (pos n) (negsuc (4294967295 - n))) ≡ n
    go true e = refl
    go false e = omega arith

-- ---- a field
-- written and read again
pub field_back : (signed : Bool) (f : Field) → holds signed f ≡ true → field_in signed (number_of f) (origin_of f) ≡ Some f
unfolding holds number_of origin_of field_in given_as
field_back signed (Measured v) h = rw (word_back signed v h, h)
field_back signed (Inferred v) h = rw (word_back signed v h, h)
field_back signed (Estimated v) h = let z : ◌≡◌ {A = ℕ} 0 1 = cc in absurd (omega arith)
field_back signed Blank h = refl

pub number_small : (signed : Bool) (f : Field) → holds signed f ≡ true → number_of f < 4294967296
unfolding holds number_of
number_small signed (Measured v) h = word_lt signed v h
number_small signed (Inferred v) h = word_lt signed v h
number_small signed (Estimated v) h = let z : ◌≡◌ {A = ℕ} 0 1 = cc in absurd (omega arith)
number_small signed Blank h = omega arith

-- what is known of a field that was read of a number n and an origin o: text can hold it, and it is written as n, if n is of four bytes, and o
pub record Read (signed : Bool) (n o : ℕ) (f : Field) : Type 0 where
  pub holding : holds signed f ≡ true
  pub number : n < 4294967296 → number_of f ≡ n
  pub origin : origin_of f ≡ o

module _ (signed : Bool) (n o : ℕ) (f : Field) where
  blank-read : o ≡ 3 → (t : Bool) → eqb n lowest ≡ t → cond t (Some Blank) None ≡ Some f → Read signed n o f
  unfolding holds number_of origin_of
  blank-read three true e h =
      let is : f ≡ Blank = cc in
      rw is (record { holding = refl; number = λ small. sym (eqb-true n lowest e); origin = sym three })
  blank-read three false e h = let z : ◌≡◌ {A = ℕ} 0 1 = cc in absurd (omega arith)

  -- by whether the origin is 0 and whether it is 1
  given-read : held signed (signed_in n) ≡ true → (s t : Bool) → eqb o 0 ≡ s → eqb o 1 ≡ t
      → cond s (Some (Measured (signed_in n))) (cond t (Some (Inferred (signed_in n))) None) ≡ Some f → Read signed n o f
  unfolding holds number_of origin_of
  given-read k true t a b h =
      let is : f ≡ Measured (signed_in n) = cc in
      rw is (record { holding = k; number = signed_back_lem n; origin = sym (eqb-true o 0 a) })
  given-read k false true a b h =
      let is : f ≡ Inferred (signed_in n) = cc in
      rw is (record { holding = k; number = signed_back_lem n; origin = sym (eqb-true o 1 b) })
  given-read k false false a b h = let z : ◌≡◌ {A = ℕ} 0 1 = cc in absurd (omega arith)

  held-read : (t : Bool) → held signed (signed_in n) ≡ t → cond t (given_as o (signed_in n)) None ≡ Some f → Read signed n o f
  unfolding given_as
  held-read true k h = given-read k (eqb o 0) (eqb o 1) refl refl h
  held-read false k h = let z : ◌≡◌ {A = ℕ} 0 1 = cc in absurd (omega arith)

  -- read and written again
  pub field-read : field_in signed n o ≡ Some f → Read signed n o f
  unfolding field_in
  field-read = go (eqb o 3) refl
    where
      go : (t : Bool) → eqb o 3 ≡ t
          → cond t (cond (eqb n lowest) (Some Blank) None) (cond (held signed (signed_in n)) (given_as o (signed_in n)) None) ≡ Some f
          → Read signed n o f
      go true e h = blank-read (eqb-true o 3 e) (eqb n lowest) refl h
      go false e h = held-read (held signed (signed_in n)) refl h
