-- A request written as a record and read again, and a record read and written again: each gives back what it was. Assumes nothing.
use Prim.Native.Nat.{ℕ, zero, suc, ◌+◌, ◌*◌, ◌≤◌, ◌<◌}
use mathlib.Core.Path.{◌≡◌, refl, sym, ap, ◌∙◌}
use mathlib.Core.Bool.{true, and-eq-true_iff}
use mathlib.Core.List.{List, [], ◌∷◌, ◌++◌, append_assoc}
use native.Mathlib.Omega.{arith}
use native.Mathlib.Numerals.{add-one}
use lib.ListN.{length, get_or, take, drop, length-append, length-drop, take-append-drop, drop_of_length-le, get_or-append}
use lib.Seq.{take_at, drop-append-add, drop-append-le, get_or-append-add, take-append-le, length-take-le, take_all, take-add, drop-drop, drop-cons}
use Rattle.std.specs.Prelude.{Option, Some, None}
use Rattle.std.specs.Option.{option_map}
use Rattle.request.specs.declared.Field.{Field}
use Rattle.request.specs.declared.Field.TheVariants.{Blank}
use Rattle.request.specs.declared.Request.{Request}
use Rattle.text.specs.Grammar.{signed_at, in_front, request_of}
use Rattle.fields.specs.Held.{fields_in, holds, hold_all, writable}
use Rattle.fields.proofs.FieldsLaws.{request-back, thirteen, fields_back}
use Rattle.records.specs.Records.{are_bytes, high_first, number_from, number_of, origin_of, fields, record_size, numbers_of, origins_of, record_of, field_at, fields_from, record_in}
use Rattle.records.proofs.NumberBack.{number_back, bytes_back, length_high, number_lt, bytes-append}
use Rattle.records.proofs.FieldBack.{Read, field_back, number_small, field-read}

-- ---- how long
pub length_numbers : (fs : List Field) → length (numbers_of fs) ≡ 4 * length fs
unfolding numbers_of
length_numbers [] = refl
length_numbers (f ∷ fs) = omega (arith, length-append (high_first 4 (number_of f)) (numbers_of fs), length_high 4 (number_of f), length_numbers fs)

pub length_origins : (fs : List Field) → length (origins_of fs) ≡ length fs
unfolding origins_of
length_origins [] = refl
length_origins (f ∷ fs) = ap suc (length_origins fs)

pub length_record : (r : Request) → length (record_of r) ≡ record_size
unfolding record_of
length_record r =
    let fs = fields_in r in
    omega (arith, length-append (numbers_of fs) (origins_of fs), length_numbers fs, length_origins fs, thirteen r)

-- ---- a request, written and read again
-- the numbers from field k on
drop_numbers : (k : ℕ) (fs : List Field) (t : List ℕ) → k ≤ length fs → drop (4 * k) (numbers_of fs ++ t) ≡ numbers_of (drop k fs) ++ t
unfolding numbers_of
drop_numbers zero fs t h = refl
drop_numbers (suc k) [] t h = absurd (omega arith)
drop_numbers (suc k) (f ∷ fs) t h =
    let x : List ℕ = high_first 4 (number_of f) in
    let e : 4 * suc k ≡ length x + 4 * k = omega (arith, length_high 4 (number_of f)) in
    rw (e, append_assoc x (numbers_of fs) t) (drop-append-add x (numbers_of fs ++ t) (4 * k) ∙ drop_numbers k fs t (omega arith))

origin_at : (k : ℕ) (fs : List Field) → k < length fs → get_or (origins_of fs) k 0 ≡ origin_of (get_or fs k Blank)
unfolding origins_of
origin_at k [] h = absurd (omega arith)
origin_at zero (f ∷ fs) h = refl
origin_at (suc k) (f ∷ fs) h = origin_at k fs (omega arith)

-- field k
module _ (fs : List Field) (all : length fs ≡ fields) (k : ℕ) (inside : k < fields) where
  number_at : (t : List ℕ) → take 4 (drop (4 * k) (numbers_of fs ++ t)) ≡ high_first 4 (number_of (get_or fs k Blank))
  unfolding numbers_of
  number_at t =
      let x : List ℕ = high_first 4 (number_of (get_or fs k Blank)) in
      ap (take 4)
      (drop_numbers k fs t (omega arith)
      ∙ ap (λ (l : List Field). numbers_of l ++ t) (drop-cons fs k Blank (omega arith))
      ∙ append_assoc x (numbers_of (drop (suc k) fs)) t)
      ∙ take_at x (numbers_of (drop (suc k) fs) ++ t) 4 (length_high 4 (number_of (get_or fs k Blank)))

  origin_behind : get_or (numbers_of fs ++ origins_of fs) (4 * fields + k) 0 ≡ origin_of (get_or fs k Blank)
  origin_behind =
      let e : 4 * fields + k ≡ length (numbers_of fs) + k = omega (arith, length_numbers fs) in
      rw e (get_or-append-add (numbers_of fs) (origins_of fs) k 0 ∙ origin_at k fs (omega arith))

  one-back : holds (signed_at k) (get_or fs k Blank) ≡ true → field_at (numbers_of fs ++ origins_of fs) k ≡ Some (get_or fs k Blank)
  unfolding field_at
  one-back h =
      let f : Field = get_or fs k Blank in
      rw (number_at (origins_of fs), origin_behind, number_back 4 (number_of f) (number_small (signed_at k) f h)) (field_back (signed_at k) f h)

-- all fields from field k on
fields-from : (fs : List Field) → length fs ≡ fields → (n k : ℕ) → n + k ≡ fields → hold_all k (drop k fs) ≡ true
    → fields_from n k (numbers_of fs ++ origins_of fs) ≡ Some (drop k fs)
unfolding fields_from hold_all
fields-from fs all zero k e h = ap Some (sym (drop_of_length-le fs {i = k} (omega arith)))
fields-from fs all (suc n) k e h =
    let cut : drop k fs ≡ get_or fs k Blank ∷ drop (k + 1) fs = rw (add-one k) (drop-cons fs k Blank (omega arith)) in
    let g = (and-eq-true_iff (holds (signed_at k) (get_or fs k Blank)) (hold_all (k + 1) (drop (k + 1) fs))).0 (rw cut at h) in
    rw (cut, one-back fs all k (omega arith) g.0, fields-from fs all n (k + 1) (omega arith) g.1)

pub record_back : (r : Request) → writable r ≡ true → record_in (record_of r) ≡ Some r
unfolding record_of record_in writable
record_back r h = rw (fields-from (fields_in r) (thirteen r) fields 0 refl h) (ap Some (request-back r))

-- ---- a record, read and written again
-- a part of Some bytes
bytes_part : (i j : ℕ) (s : List ℕ) → are_bytes s ≡ true → are_bytes (take i (drop j s)) ≡ true
bytes_part i j s h = (halves i (drop j s) (halves j s h).1).0
  where
    halves : (i : ℕ) (s : List ℕ) → are_bytes s ≡ true → (are_bytes (take i s) ≡ true) × (are_bytes (drop i s) ≡ true)
    halves i s h = (and-eq-true_iff (are_bytes (take i s)) (are_bytes (drop i s))).0 (sym (bytes-append (take i s) (drop i s)) ∙ ap are_bytes (take-append-drop i s) ∙ h)

-- 65 bytes
abbrev Bytes : List ℕ → Type 0
Bytes s = (length s ≡ record_size) × (are_bytes s ≡ true)

-- n fields of s from field k on: text can hold them, and where s is 65 bytes they are written as they stand there
record Part (s : List ℕ) (n k : ℕ) (fs : List Field) : Type 0 where
  many : length fs ≡ n
  holding : hold_all k fs ≡ true
  numbers : Bytes s → numbers_of fs ≡ take (4 * n) (drop (4 * k) s)
  origins : Bytes s → origins_of fs ≡ take n (drop (4 * fields + k) s)

module _ (s : List ℕ) where
  -- field k
  module _ (k : ℕ) (inside : k < fields) where
    four : Bytes s → length (take 4 (drop (4 * k) s)) ≡ 4
    four b = length-take-le 4 (drop (4 * k) s) (omega (arith, b.0, length-drop (4 * k) s))

    one-read : (f : Field) → field_at s k ≡ Some f → Read (signed_at k) (number_from 0 (take 4 (drop (4 * k) s))) (get_or s (4 * fields + k) 0) f
    unfolding field_at
    one-read f h = field-read (signed_at k) (number_from 0 (take 4 (drop (4 * k) s))) (get_or s (4 * fields + k) 0) f h

    -- its number is written as its four bytes
    number_here : (f : Field) → field_at s k ≡ Some f → Bytes s → high_first 4 (number_of f) ≡ take 4 (drop (4 * k) s)
    number_here f h b =
        let x : List ℕ = take 4 (drop (4 * k) s) in
        let are = bytes_part 4 (4 * k) s b.1 in
        rw ((one-read f h).number (rw (four b) at (number_lt x are))) (rw (four b) at (bytes_back x are))

    -- one field more in front
    more : (n : ℕ) (f : Field) (fs : List Field) → field_at s k ≡ Some f → Part s n (k + 1) fs → Part s (suc n) k (f ∷ fs)
    unfolding hold_all numbers_of origins_of
    more n f fs h p =
        let r = one-read f h in
        let e : 4 * suc n ≡ 4 + 4 * n = omega arith in
        let j : 4 * (k + 1) ≡ 4 * k + 4 = omega arith in
        let i : 4 * fields + (k + 1) ≡ suc (4 * fields + k) = omega arith in
        record {
          many = ap suc p.many;
          holding = rw r.holding p.holding;
          numbers = λ b.
              rw (e, take-add 4 (4 * n) (drop (4 * k) s), drop-drop 4 (4 * k) s, p.numbers b, j)
              (ap (λ (l : List ℕ). l ++ take (4 * n) (drop (4 * k + 4) s)) (number_here f h b));
          origins = λ b. rw (drop-cons s (4 * fields + k) 0 (omega (arith, b.0)), r.origin, p.origins b, i);
        }

  -- all fields from field k on
  part_read : (n k : ℕ) (fs : List Field) → n + k ≡ fields → fields_from n k s ≡ Some fs → Part s n k fs
  unfolding fields_from hold_all numbers_of origins_of
  part_read zero k fs e h = let is : fs ≡ [] = cc in rw is (record { many = refl; holding = refl; numbers = λ b. refl; origins = λ b. refl })
  part_read (suc n) k fs e h = go (field_at s k) (fields_from n (k + 1) s) refl (λ gs. part_read n (k + 1) gs (omega arith)) h
    where
      go : (w : Option Field) (o : Option (List Field)) → field_at s k ≡ w → ((gs : List Field) → o ≡ Some gs → Part s n (k + 1) gs) → in_front w o ≡ Some fs
          → Part s (suc n) k fs
      go (Some f) (Some gs) q p g = let is : fs ≡ f ∷ gs = cc in rw is (more k (omega arith) n f gs q (p gs refl))
      go (Some f) None q p g = let z : ◌≡◌ {A = ℕ} 0 1 = cc in absurd (omega arith)
      go None o q p g = let z : ◌≡◌ {A = ℕ} 0 1 = cc in absurd (omega arith)

  -- all thirteen fields are written as the record itself
  whole : (fs : List Field) → Part s fields 0 fs → Bytes s → numbers_of fs ++ origins_of fs ≡ s
  whole fs p b = rw (p.numbers b, p.origins b) (sym (take-add (4 * fields) fields s) ∙ take_all record_size s (omega (arith, b.0)))

  -- and they are those of the request that they make
  again : (r : Request) (o : Option (List Field)) → fields_from fields 0 s ≡ o → option_map request_of o ≡ Some r
      → (hold_all 0 (fields_in r) ≡ true) × (Bytes s → numbers_of (fields_in r) ++ origins_of (fields_in r) ≡ s)
  again r (Some fs) q h =
      let p = part_read fields 0 fs refl q in
      let is : request_of fs ≡ r = cc in
      rw (← is, fields_back fs p.many) (p.holding, whole fs p)
  again r None q h = let z : ◌≡◌ {A = ℕ} 0 1 = cc in absurd (omega arith)

module _ (s : List ℕ) (r : Request) where
  -- text can hold what a record is read as, whatever its bytes
  pub record_writable : record_in s ≡ Some r → writable r ≡ true
  unfolding record_in writable
  record_writable h = (again s r (fields_from fields 0 s) refl h).0

  pub bytes_of_record : length s ≡ record_size → are_bytes s ≡ true → record_in s ≡ Some r → record_of r ≡ s
  unfolding record_in record_of
  bytes_of_record long bytes h = (again s r (fields_from fields 0 s) refl h).1 (long, bytes)

-- ---- only the first 65 bytes are read
module _ (s t : List ℕ) (long : length s ≡ record_size) where
  one-first : (k : ℕ) → k < fields → field_at (s ++ t) k ≡ field_at s k
  unfolding field_at
  one-first k h =
      rw (
        drop-append-le (4 * k) s t (omega arith),
        take-append-le 4 (drop (4 * k) s) t (omega (arith, length-drop (4 * k) s)),
        get_or-append s t 0 (4 * fields + k) (omega arith),
      )

  fields-first : (n k : ℕ) → n + k ≤ fields → fields_from n k (s ++ t) ≡ fields_from n k s
  unfolding fields_from
  fields-first zero k h = refl
  fields-first (suc n) k h = rw (one-first k (omega arith), fields-first n (k + 1) (omega arith))

  pub record_first : record_in (s ++ t) ≡ record_in s
  unfolding record_in
  record_first = ap (option_map request_of) (fields-first fields 0 (omega arith))
