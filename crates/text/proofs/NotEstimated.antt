-- No text says that a figure was estimated by us: neither a field nor a line. Assumes nothing.
use Prim.Native.Nat.{ℕ, zero, suc, ◌+◌}
use mathlib.Core.Path.{◌≡◌, refl}
use mathlib.Core.Bool.{Bool, true, false, cond, ◌&&◌}
use mathlib.Core.List.{List, [], ◌∷◌}
use lib.Dec.{eqb, ltb}
use lib.IntN.{ℤ}
use lib.ListN.{length, get_or, take, drop}
use Rattle.std.specs.Prelude.{Option, Some, None}
use Rattle.std.specs.Option.{option_map}
use Rattle.request.specs.declared.Field.{Field}
use Rattle.request.specs.declared.Field.TheVariants.{Measured, Inferred, Blank}
use Rattle.request.specs.declared.Request.{Request}
use Rattle.request.specs.Fields.{is_estimated, marked}
use Rattle.numerals.specs.Render.{minus}
use Rattle.text.specs.Grammar.{tilde, signed_of, field_of, longest, space_at, signed_at, in_front, fields_of, field_at, request_of, line_of}

-- ---- a field
-- a figure has the origin that it is read with
origin_kept : (origin : ℤ → Field) → ((v : ℤ) → is_estimated (origin v) ≡ false) → (w : Option ℤ) (f : Field) → option_map origin w ≡ Some f → is_estimated f ≡ false
origin_kept origin h (Some v) f e = let z : origin v ≡ f = cc in rw (← z) (h v)
origin_kept origin h None f e = cc

pub field_not_estimated : (signed : Bool) (s : List ℕ) (f : Field) → field_of signed s ≡ Some f → is_estimated f ≡ false
unfolding field_of is_estimated
field_not_estimated signed s f e = go (eqb (length s) 1 && eqb (get_or s 0 0) minus) (eqb (get_or s 0 0) tilde) e
  where
    go : (a b : Bool) → cond a (Some Blank) (cond b (option_map Inferred (signed_of signed (drop 1 s))) (option_map Measured (signed_of signed s))) ≡ Some f
        → is_estimated f ≡ false
    go true b g = let z : Blank ≡ f = cc in rw (← z)
    go false true g = origin_kept Inferred (λ v. refl) (signed_of signed (drop 1 s)) f g
    go false false g = origin_kept Measured (λ v. refl) (signed_of signed s) f g

-- ---- a line
-- None of these fields, at whatever place, past the last too
abbrev Given : List Field → Type 0
Given fs = (i : ℕ) → is_estimated (field_at fs i) ≡ false

no_fields : Given []
unfolding is_estimated
no_fields i = refl

one_more : (f : Field) (fs : List Field) → is_estimated f ≡ false → Given fs → Given (f ∷ fs)
one_more f fs h k zero = h
one_more f fs h k (suc i) = k i

in_front_lem : (w : Option Field) (r : Option (List Field)) → ((f : Field) → w ≡ Some f → is_estimated f ≡ false) → ((gs : List Field) → r ≡ Some gs → Given gs)
    → (fs : List Field) → in_front w r ≡ Some fs → Given fs
unfolding in_front
in_front_lem (Some f) (Some gs) h k fs e = let z : f ∷ gs ≡ fs = cc in rw (← z) (one_more f gs (h f refl) (k gs refl))
in_front_lem (Some f) None h k fs e = cc
in_front_lem None r h k fs e = cc

fields_not_estimated : (n k : ℕ) (s : List ℕ) (fs : List Field) → fields_of n k s ≡ Some fs → Given fs
unfolding fields_of
fields_not_estimated zero k s fs e =
    in_front_lem (field_of (signed_at k) s) (Some []) (field_not_estimated (signed_at k) s)
    (λ gs q. let z : ◌≡◌ {A = List Field} [] gs = cc in rw (← z) no_fields) fs e
fields_not_estimated (suc n) k s fs e = go (ltb (space_at s) (length s)) (fields_not_estimated n (k + 1) (drop (space_at s + 1) s)) e
  where
    go : (t : Bool) → ((gs : List Field) → fields_of n (k + 1) (drop (space_at s + 1) s) ≡ Some gs → Given gs)
        → cond t (in_front (field_of (signed_at k) (take (space_at s) s)) (fields_of n (k + 1) (drop (space_at s + 1) s))) None ≡ Some fs → Given fs
    go true ih g =
        in_front_lem (field_of (signed_at k) (take (space_at s) s)) (fields_of n (k + 1) (drop (space_at s + 1) s))
        (field_not_estimated (signed_at k) (take (space_at s) s)) ih fs g
    go false ih g = cc

request_not_marked : (fs : List Field) → Given fs → marked (request_of fs) ≡ false
unfolding marked request_of
request_not_marked fs h = rw (h 0, h 1, h 2, h 3, h 4, h 5, h 6, h 7, h 8, h 9, h 10, h 11, h 12)

pub line_not_marked : (s : List ℕ) (r : Request) → line_of s ≡ Some r → marked r ≡ false
unfolding line_of
line_not_marked s r e = go (ltb longest (length s)) (fields_of 12 0 s) (fields_not_estimated 12 0 s) e
  where
    go : (t : Bool) (o : Option (List Field)) → ((fs : List Field) → o ≡ Some fs → Given fs) → cond t None (option_map request_of o) ≡ Some r → marked r ≡ false
    go true o h g = cc
    go false None h g = cc
    go false (Some fs) h g = let z : request_of fs ≡ r = cc in rw (← z) (request_not_marked fs (h fs refl))
