-- A number written in bytes and read again, and bytes read and written again: each gives back what it was made of. Assumes nothing.
use Prim.Native.Nat.{ℕ, zero, suc, ◌+◌, ◌*◌, ◌/◌, ◌%◌, ◌^◌, ◌<◌}
use mathlib.Core.Path.{◌≡◌, refl, sym, ◌∙◌}
use mathlib.Core.Bool.{true, ◌&&◌, and_assoc, and-eq-true_iff}
use mathlib.Core.List.{List, [], ◌∷◌, ◌++◌, append-nil, append_assoc}
use native.Mathlib.Nat.{pow-suc}
use native.Mathlib.Omega.{arith}
use borrow.Author.Tests.{ltb-true}
use lib.Dec.{ltb}
use lib.ListN.{length, length-append}
use Rattle.records.specs.Records.{are_bytes, high_first, number_from}

-- ---- a list by its last element
module _ (P : List ℕ → Type 0) (more : (s : List ℕ) (c : ℕ) → P s → P (s ++ (c ∷ []))) where
  after : (s t : List ℕ) → P s → P (s ++ t)
  after s [] p = rw (append-nil s) p
  after s (c ∷ cs) p = rw append_assoc at (after (s ++ (c ∷ [])) cs (more s c p))

  by_last : P [] → (s : List ℕ) → P s
  by_last p s = after [] s p

-- one byte more behind others
number_last : (n : ℕ) (s : List ℕ) (c : ℕ) → number_from n (s ++ (c ∷ [])) ≡ number_from n s * 256 + c
unfolding number_from
number_last n [] c = refl
number_last n (d ∷ ds) c = number_last (n * 256 + d) ds c

length_last : (s : List ℕ) (c : ℕ) → length (s ++ (c ∷ [])) ≡ suc (length s)
length_last s c = omega (arith, length-append s (c ∷ []))

-- ---- a number's bytes
pub length_high : (size n : ℕ) → length (high_first size n) ≡ size
unfolding high_first
length_high zero n = refl
length_high (suc size) n = omega (arith, length_last (high_first size (n / 256)) (n % 256), length_high size (n / 256))

pub number_back : (size n : ℕ) → n < 256 ^ size → number_from 0 (high_first size n) ≡ n
unfolding high_first number_from
number_back zero n h = omega arith
number_back (suc size) n h =
    number_last 0 (high_first size (n / 256)) (n % 256)
    ∙ omega (arith, number_back size (n / 256) (omega (arith, pow-suc 256 size)))

-- ---- the number of bytes
pub bytes-append : (s t : List ℕ) → are_bytes (s ++ t) ≡ are_bytes s && are_bytes t
unfolding are_bytes
bytes-append [] t = refl
bytes-append (c ∷ cs) t = rw (bytes-append cs t) (sym (and_assoc (ltb c 256) (are_bytes cs) (are_bytes t)))

bytes-last : (s : List ℕ) (c : ℕ) → are_bytes (s ++ (c ∷ [])) ≡ true → (are_bytes s ≡ true) × (c < 256)
unfolding are_bytes
bytes-last s c h =
    let p = (and-eq-true_iff (are_bytes s) (ltb c 256 && true)).0 (sym (bytes-append s (c ∷ [])) ∙ h) in
    (p.0, ltb-true c 256 ((and-eq-true_iff (ltb c 256) true).0 p.1).0)

-- so many bytes make a number below that power of 256
pub number_lt : (s : List ℕ) → are_bytes s ≡ true → number_from 0 s < 256 ^ length s
unfolding number_from
number_lt =
    by_last (λ s. are_bytes s ≡ true → number_from 0 s < 256 ^ length s)
    (λ s c ih h.
    let b = bytes-last s c h in
    rw (length_last s c) (omega (arith, number_last 0 s c, pow-suc 256 (length s), ih b.0, b.1)))
    (λ h. omega arith)

pub bytes_back : (s : List ℕ) → are_bytes s ≡ true → high_first (length s) (number_from 0 s) ≡ s
unfolding high_first
bytes_back =
    by_last (λ s. are_bytes s ≡ true → high_first (length s) (number_from 0 s) ≡ s)
    (λ s c ih h. rw (length_last s c, number_last 0 s c) (one_more s c (bytes-last s c h).1 (ih (bytes-last s c h).0)))
    (λ h. refl)
  where
    one_more : (s : List ℕ) (c : ℕ) → c < 256 → high_first (length s) (number_from 0 s) ≡ s
        → high_first (length s) ((number_from 0 s * 256 + c) / 256) ++ (((number_from 0 s * 256 + c) % 256) ∷ []) ≡ s ++ (c ∷ [])
    one_more s c h e =
        let q : (number_from 0 s * 256 + c) / 256 ≡ number_from 0 s = omega arith in
        let r : (number_from 0 s * 256 + c) % 256 ≡ c = omega arith in
        rw (q, r, e)
