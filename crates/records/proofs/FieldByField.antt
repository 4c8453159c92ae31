-- A record written and read field by field: what stands there so far, with one field more. Assumes nothing.
use Prim.Native.Nat.{ℕ, suc, ◌+◌, ◌-◌, ◌<◌}
use mathlib.Core.Path.{◌≡◌, sym, ap, ◌∙◌}
use mathlib.Core.List.{List, [], ◌∷◌, ◌++◌, append_assoc, append-nil}
use native.Mathlib.Omega.{arith}
use native.Mathlib.Numerals.{add-one}
use lib.ListN.{length, get_or, take, drop, set}
use lib.Seq.{take_all, take-suc-set, drop-cons}
use Rattle.std.specs.Prelude.{Option, Some, None}
use Rattle.std.specs.Option.{option_map}
use Rattle.request.specs.declared.Field.{Field}
use Rattle.request.specs.declared.Request.{Request}
use Rattle.text.specs.Grammar.{in_front, request_of}
use Rattle.text.proofs.FieldLaws.{prepend, prepend-front}
use Rattle.fields.specs.Held.{fields_in}
use Rattle.fields.proofs.FieldsLaws.{thirteen}
use Rattle.records.specs.Records.{high_first, number_of, origin_of, fields, numbers_of, origins_of, record_of, field_at, fields_from, record_in}

-- ---- written
-- what is left to be written from field k on: that of field k, and what is behind it
module _ (d : Field) (fs : List Field) (k : ℕ) (inside : k < length fs) where
  one_and_more : drop k fs ≡ get_or fs k d ∷ drop (k + 1) fs
  one_and_more = rw (add-one k) (drop-cons fs k d inside)

  pub numbers_left : (t : List ℕ) → numbers_of (drop k fs) ++ t ≡ high_first 4 (number_of (get_or fs k d)) ++ (numbers_of (drop (k + 1) fs) ++ t)
  unfolding numbers_of
  numbers_left t = ap (λ (l : List Field). numbers_of l ++ t) one_and_more ∙ append_assoc (high_first 4 (number_of (get_or fs k d))) (numbers_of (drop (k + 1) fs)) t

  pub origins_left : origins_of (drop k fs) ≡ (origin_of (get_or fs k d) ∷ []) ++ origins_of (drop (k + 1) fs)
  unfolding origins_of
  origins_left = ap origins_of one_and_more

-- the fields of a request
module _ (r : Request) (fs : List Field) (is : fs ≡ fields_in r) where
  pub record_is : numbers_of fs ++ origins_of fs ≡ record_of r
  unfolding record_of
  record_is = ap (λ (l : List Field). numbers_of l ++ origins_of l) is

  pub thirteen_fields : length fs ≡ fields
  thirteen_fields = ap length is ∙ thirteen r

-- ---- read
module _ (s : List ℕ) (got : List Field) (k : ℕ) (long : length got ≡ fields) (inside : k < fields)
    (so_far : prepend (take k got) (fields_from (fields - k) k s) ≡ fields_from fields 0 s) where
  -- what the fields from field k on are: field k, and those behind it
  one_and_rest : (o : Option Field) → o ≡ field_at s k → fields_from (fields - k) k s ≡ in_front o (fields_from (fields - (k + 1)) (k + 1) s)
  unfolding fields_from
  one_and_rest o e = ap (λ (n : ℕ). fields_from n k s) fewer ∙ rw e
    where
      fewer : fields - k ≡ suc (fields - (k + 1))
      fewer = omega arith

  -- one field more was read
  pub field_more : (f : Field) → Some f ≡ field_at s k
      → prepend (take (k + 1) (set got k f)) (fields_from (fields - (k + 1)) (k + 1) s) ≡ fields_from fields 0 s
  field_more f e =
      let l : k < length got = omega arith in
      let t : take (k + 1) (set got k f) ≡ take k got ++ (f ∷ []) = rw (add-one k) (take-suc-set got k f l) in
      rw t (sym (prepend-front (take k got) f _) ∙ ap (prepend (take k got)) (sym (one_and_rest (Some f) e)) ∙ so_far)

  -- or it is malformed, and so is the record
  pub record_malformed : None ≡ field_at s k → record_in s ≡ None
  unfolding record_in in_front
  record_malformed e = ap (option_map request_of) (sym so_far ∙ ap (prepend (take k got)) (one_and_rest None e))

-- all were read
pub record_read : (s : List ℕ) (got : List Field) (k : ℕ) → k ≡ fields → length got ≡ fields
    → prepend (take k got) (fields_from (fields - k) k s) ≡ fields_from fields 0 s → record_in s ≡ Some (request_of got)
unfolding record_in fields_from
record_read s got k all long h =
    ap (option_map request_of) (sym h ∙ ap (λ (n : ℕ). prepend (take n got) (fields_from (fields - n) n s)) all)
    ∙ ap (λ (l : List Field). Some (request_of l)) (append-nil (take fields got) ∙ take_all fields got (omega arith))
