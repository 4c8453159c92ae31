-- Records one after another: those of requests that text can hold are read as they were, and records that are all well-formed are those of
-- their requests. Assumes nothing.
use Prim.Native.Nat.{ℕ, zero, suc, ◌*◌}
use mathlib.Core.Path.{◌≡◌, refl, sym, ap, ◌∙◌}
use mathlib.Core.Bool.{true, and-eq-true_iff}
use mathlib.Core.List.{List, [], ◌∷◌, ◌++◌}
use native.Mathlib.Omega.{arith}
use lib.ListN.{length, take, drop, length-append, length-drop, take-append-drop}
use lib.Seq.{take_at, drop_at, length-take-le}
use Rattle.std.specs.Prelude.{Option, Some, None}
use Rattle.request.specs.declared.Request.{Request}
use Rattle.fields.specs.Held.{writable}
use Rattle.records.specs.Records.{are_bytes, record_size, record_of, record_in}
use Rattle.records.proofs.NumberBack.{bytes-append}
use Rattle.records.proofs.RecordBack.{length_record, record_back, record_writable, bytes_of_record}
use Rattle.list_lines.specs.ListLines.{all_read, requests_in}
use Rattle.site_files.specs.Format.{records_of, records_in}
use Rattle.list_lines.proofs.ListBack.{all_writable, read}

-- ---- written, and read
pub length_records : (rs : List Request) → length (records_of rs) ≡ record_size * length rs
unfolding records_of
length_records [] = refl
length_records (r ∷ rs) = omega (arith, length-append (record_of r) (records_of rs), length_record r, length_records rs)

pub records_read : (rs : List Request) → all_writable rs ≡ true → records_in (length rs) (records_of rs) ≡ read rs
unfolding records_in records_of all_writable read
records_read [] e = refl
records_read (r ∷ rs) e =
    let u = (and-eq-true_iff (writable r) (all_writable rs)).0 e in
    let a : record_in (take record_size (record_of r ++ records_of rs)) ≡ Some r =
    ap record_in (take_at (record_of r) (records_of rs) record_size (length_record r)) ∙ record_back r u.0
    in
    let b : records_in (length rs) (drop record_size (record_of r ++ records_of rs)) ≡ read rs =
    ap (records_in (length rs)) (drop_at (record_of r) (records_of rs) record_size (length_record r)) ∙ records_read rs u.1
    in
    cc

-- ---- read, and written
-- how many there are
pub length-read : (n : ℕ) (s : List ℕ) → length (records_in n s) ≡ n
unfolding records_in
length-read zero s = refl
length-read (suc n) s = ap suc (length-read n (drop record_size s))

-- text can hold the requests of records that are all well-formed
pub records_writable : (n : ℕ) (s : List ℕ) → all_read (records_in n s) ≡ true → all_writable (requests_in (records_in n s)) ≡ true
unfolding records_in all_read requests_in all_writable
records_writable zero s h = refl
records_writable (suc n) s h = go (record_in (take record_size s)) refl h (records_writable n (drop record_size s))
  where
    go : (l : Option Request) → record_in (take record_size s) ≡ l
        → let ls = l ∷ records_in n (drop record_size s) in
        all_read ls ≡ true → (all_read (records_in n (drop record_size s)) ≡ true → all_writable (requests_in (records_in n (drop record_size s))) ≡ true)
        → all_writable (requests_in ls) ≡ true
    go (Some r) e h ih = rw (record_writable (take record_size s) r e) (ih h)
    go None e h ih = let z : ◌≡◌ {A = ℕ} 0 1 = cc in absurd (omega arith)

-- bytes s all of whose records are well-formed are those of their requests
abbrev Bytes : List ℕ → List (Option Request) → Type 0
Bytes s ls = all_read ls ≡ true → records_of (requests_in ls) ≡ s

one_more : (s rest : List ℕ) (l : Option Request) (ls : List (Option Request)) → length s ≡ record_size → are_bytes s ≡ true → record_in s ≡ l → Bytes rest ls → Bytes (s ++ rest) (l ∷ ls)
unfolding all_read requests_in records_of
one_more s rest (Some r) ls k a e t h =
    ap (λ (l : List ℕ). l ++ records_of (requests_in ls)) (bytes_of_record s r k a e) ∙ ap (λ (l : List ℕ). s ++ l) (t h)
one_more s rest None ls k a e t h = let z : ◌≡◌ {A = ℕ} 0 1 = cc in absurd (omega arith)

pub records_bytes : (n : ℕ) (s : List ℕ) → length s ≡ record_size * n → are_bytes s ≡ true → Bytes s (records_in n s)
unfolding records_in all_read requests_in records_of
records_bytes zero [] k a h = refl
records_bytes zero (c ∷ cs) k a h = absurd (omega arith)
records_bytes (suc n) s k a h =
    rw (take-append-drop record_size s) at
    (one_more (take record_size s) (drop record_size s) (record_in (take record_size s)) (records_in n (drop record_size s))
    (length-take-le record_size s (omega arith)) parts.0 refl
    (records_bytes n (drop record_size s) (omega (arith, length-drop record_size s)) parts.1) h)
  where
    parts : (are_bytes (take record_size s) ≡ true) × (are_bytes (drop record_size s) ≡ true)
    parts =
        (and-eq-true_iff (are_bytes (take record_size s)) (are_bytes (drop record_size s))).0
        (sym (bytes-append (take record_size s) (drop record_size s)) ∙ ap are_bytes (take-append-drop record_size s) ∙ a)
