-- What is read of a line so far, before what the rest of it gives: the thirteen fields, one more at a time. Assumes nothing.
use Prim.Native.Nat.{ℕ, zero, suc, ◌+◌, ◌-◌, ◌≤◌, ◌<◌}
use mathlib.Core.Path.{◌≡◌, refl, sym, ap, ◌∙◌}
use mathlib.Core.Bool.{cond}
use mathlib.Core.Logic.{◌≢◌}
use mathlib.Core.List.{List, [], ◌∷◌, ◌++◌, append_assoc}
use native.Mathlib.Omega.{arith}
use native.Mathlib.Numerals.{add-one}
use borrow.Author.Tests.{eq-eqb, ne_eqb, lt-ltb, le-ltb}
use lib.Dec.{ltb}
use lib.ListN.{length, get_or, take, drop, set, length-set, drop_of_length-le}
use lib.Seq.{set_split, take-suc-set}
use Rattle.std.specs.Prelude.{Option, Some, None}
use Rattle.std.specs.Option.{option_map}
use Rattle.numerals.specs.Render.{space}
use Rattle.request.specs.declared.Field.{Field}
use Rattle.text.specs.Grammar.{longest, field_of, space_at, signed_at, in_front, fields_of, request_of, line_of}

-- the fields xs, and behind them those of r
abbrev pub prepend : List Field → Option (List Field) → Option (List Field)
prepend xs r = option_map (λ ys. xs ++ ys) r

pub prepend-none : (r : Option (List Field)) → prepend [] r ≡ r
prepend-none (Some ys) = refl
prepend-none None = refl

pub prepend-front : (xs : List Field) (f : Field) (r : Option (List Field)) → prepend xs (in_front (Some f) r) ≡ prepend (xs ++ (f ∷ [])) r
unfolding in_front
prepend-front xs f (Some ys) = ap Some (sym (append_assoc xs (f ∷ []) ys))
prepend-front xs f None = refl

pub front-malformed : (r : Option (List Field)) → in_front None r ≡ None
unfolding in_front
front-malformed r = refl

-- ---- the first space
-- where none is one
pub space-none : (s : List ℕ) → ((k : ℕ) → k < length s → get_or s k 0 ≢ space) → space_at s ≡ length s
unfolding space_at
space-none [] h = refl
space-none (c ∷ cs) h = rw (ne_eqb c space (h 0 (omega arith))) (ap suc (space-none cs (λ k l. h (suc k) (omega arith))))

-- where the first stands at i
pub space-first : (s : List ℕ) (i : ℕ) → i < length s → get_or s i 0 ≡ space → ((k : ℕ) → k < i → get_or s k 0 ≢ space) → space_at s ≡ i
unfolding space_at
space-first [] i h e none = absurd (omega arith)
space-first (c ∷ cs) zero h e none = rw (eq-eqb c space e)
space-first (c ∷ cs) (suc i) h e none =
    rw (ne_eqb c space (none 0 (omega arith))) (ap suc (space-first cs i (omega arith) e (λ k l. none (suc k) (omega arith))))

-- ---- the line
pub too_long : (s : List ℕ) → longest < length s → line_of s ≡ None
unfolding line_of
too_long s h = rw (lt-ltb longest (length s) h)

-- field k and all behind it, where `rest` is left
open_one : (k : ℕ) (rest : List ℕ) → k < 12
    → fields_of (12 - k) k rest
    ≡ cond (ltb (space_at rest) (length rest))
    (in_front (field_of (signed_at k) (take (space_at rest) rest)) (fields_of (12 - (k + 1)) (k + 1) (drop (space_at rest + 1) rest)))
    None
unfolding fields_of
open_one k rest few = ap (λ (n : ℕ). fields_of n k rest) fewer
  where
    fewer : 12 - k ≡ suc (12 - (k + 1))
    fewer = omega arith

-- the fields before k, which are read, with those of the rest are the line's
abbrev pub Part : List ℕ → List Field → ℕ → List ℕ → Type 0
Part s got k rest = (length got ≡ 13) × (prepend (take k got) (fields_of (12 - k) k rest) ≡ fields_of 12 0 s)

module _ (s : List ℕ) (short : length s ≤ longest) (got : List Field) where
  -- so the line is malformed if the rest is
  malformed : (k : ℕ) (rest : List ℕ) → Part s got k rest → fields_of (12 - k) k rest ≡ None → line_of s ≡ None
  unfolding line_of
  malformed k rest p e = rw (le-ltb longest (length s) short) (ap (option_map request_of) (sym p.1 ∙ ap (prepend (take k got)) e))

  -- no space is left, or no field stands before the first
  pub no_space : (k : ℕ) (rest : List ℕ) → k < 12 → Part s got k rest → space_at rest ≡ length rest → line_of s ≡ None
  no_space k rest few p h = malformed k rest p (open_one k rest few ∙ rw (le-ltb (space_at rest) (length rest) (omega arith)))

  pub no_field : (k : ℕ) (rest : List ℕ) → k < 12 → Part s got k rest → space_at rest < length rest → None ≡ field_of (signed_at k) (take (space_at rest) rest) → line_of s ≡ None
  unfolding in_front
  no_field k rest few p h e = malformed k rest p (open_one k rest few ∙ rw (lt-ltb (space_at rest) (length rest) h, ← e))

  -- the last takes all the rest
  pub no_last_field : (rest : List ℕ) → Part s got 12 rest → None ≡ field_of (signed_at 12) rest → line_of s ≡ None
  unfolding fields_of in_front
  no_last_field rest p e = malformed 12 rest p (rw (← e))

  pub last_field : (f : Field) (rest : List ℕ) → Part s got 12 rest → Some f ≡ field_of (signed_at 12) rest → line_of s ≡ Some (request_of (set got 12 f))
  unfolding line_of fields_of in_front
  last_field f rest p e =
      rw (le-ltb longest (length s) short)
      (ap (option_map request_of) (sym (rw (← e) at p.1))
      ∙ ap (λ (l : List Field). Some (request_of l))
      (sym (set_split got 12 f (omega arith) ∙ ap (λ (l : List Field). take 12 got ++ f ∷ l) (drop_of_length-le got {i = 13} (omega arith)))))

-- a field that is read
pub field_read : (s : List ℕ) (got : List Field) (k : ℕ) (rest : List ℕ) (f : Field) → k < 12 → Part s got k rest → space_at rest < length rest
    → Some f ≡ field_of (signed_at k) (take (space_at rest) rest) → Part s (set got k f) (k + 1) (drop (space_at rest + 1) rest)
field_read s got k rest f few p h e = (
  length-set got k f ∙ p.0,
  rw taken (sym (prepend-front (take k got) f behind) ∙ ap (prepend (take k got)) (sym (open_one k rest few ∙ rw (lt-ltb (space_at rest) (length rest) h, ← e))) ∙ p.1),
)
  where
    behind : Option (List Field)
    behind = fields_of (12 - (k + 1)) (k + 1) (drop (space_at rest + 1) rest)

    taken : take (k + 1) (set got k f) ≡ take k got ++ (f ∷ [])
    taken = rw (add-one k) (take-suc-set got k f (omega arith))
