-- A request is its thirteen fields. Assumes nothing.
use Prim.Native.Nat.{ℕ, suc}
use mathlib.Core.Path.{◌≡◌, refl}
use mathlib.Core.List.{List, [], ◌∷◌}
use native.Mathlib.Omega.{arith}
use lib.ListN.{length}
use Rattle.request.specs.declared.Field.{Field}
use Rattle.request.specs.declared.Request.{Request}
use Rattle.text.specs.Grammar.{request_of}
use Rattle.fields.specs.Held.{fields_in}

-- made of its own fields
pub request-back : (r : Request) → request_of (fields_in r) ≡ r
unfolding request_of fields_in
request-back r = refl

pub thirteen : (r : Request) → length (fields_in r) ≡ 13
unfolding fields_in
thirteen r = refl

-- what holds of a list with an element in front holds of a list that is not empty
peel : (n : ℕ) (P : List Field → Type 0) → ((f : Field) (fs : List Field) → length fs ≡ n → P (f ∷ fs)) → (fs : List Field) → length fs ≡ suc n → P fs
peel n P h [] e = absurd (omega arith)
peel n P h (f ∷ fs) e = h f fs (omega arith)

empty : (P : List Field → Type 0) → P [] → (fs : List Field) → length fs ≡ 0 → P fs
empty P h [] e = h
empty P h (f ∷ fs) e = absurd (omega arith)

abbrev Same : List Field → Type 0
Same fs = fields_in (request_of fs) ≡ fs

-- and thirteen fields are those of the request made of them
pub fields_back : (fs : List Field) → length fs ≡ 13 → Same fs
unfolding request_of fields_in
fields_back =
    peel 12 Same (λ a.
    peel 11 (λ z. Same (a ∷ z)) (λ b.
    peel 10 (λ z. Same (a ∷ b ∷ z)) (λ c.
    peel 9 (λ z. Same (a ∷ b ∷ c ∷ z)) (λ d.
    peel 8 (λ z. Same (a ∷ b ∷ c ∷ d ∷ z)) (λ e.
    peel 7 (λ z. Same (a ∷ b ∷ c ∷ d ∷ e ∷ z)) (λ f.
    peel 6 (λ z. Same (a ∷ b ∷ c ∷ d ∷ e ∷ f ∷ z)) (λ g.
    peel 5 (λ z. Same (a ∷ b ∷ c ∷ d ∷ e ∷ f ∷ g ∷ z)) (λ h.
    peel 4 (λ z. Same (a ∷ b ∷ c ∷ d ∷ e ∷ f ∷ g ∷ h ∷ z)) (λ i.
    peel 3 (λ z. Same (a ∷ b ∷ c ∷ d ∷ e ∷ f ∷ g ∷ h ∷ i ∷ z)) (λ j.
    peel 2 (λ z. Same (a ∷ b ∷ c ∷ d ∷ e ∷ f ∷ g ∷ h ∷ i ∷ j ∷ z)) (λ k.
    peel 1 (λ z. Same (a ∷ b ∷ c ∷ d ∷ e ∷ f ∷ g ∷ h ∷ i ∷ j ∷ k ∷ z)) (λ l.
    peel 0 (λ z. Same (a ∷ b ∷ c ∷ d ∷ e ∷ f ∷ g ∷ h ∷ i ∷ j ∷ k ∷ l ∷ z)) (λ m.
    empty (λ z. Same (a ∷ b ∷ c ∷ d ∷ e ∷ f ∷ g ∷ h ∷ i ∷ j ∷ k ∷ l ∷ m ∷ z)) refl)))))))))))))
