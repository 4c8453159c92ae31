-- Of what is left the first number, or the first origin, is written.
use Rattle.std.proofs.Common.{◌≡◌, ℕ, ◌+◌, ◌≤◌, ◌<◌, List, [], ◌∷◌, ◌++◌, length, drop, get_or, pos, ap, arith}
use Rattle.std.proofs.Math.ListN.{drop_of_length-le}
use Rattle.request.specs.declared.Field.{Field}
use Rattle.request.specs.declared.Field.TheVariants.{Measured}
use Rattle.request.specs.declared.Request.{Request}
use Rattle.fields.specs.Held.{fields_in}
use Rattle.lent.specs.Lent.{Written}
use Rattle.lent.proofs.PutLaws.{shorter}
use Rattle.lent.proofs.LeftLaws.{Left, all_left, less-left, nothing_left}
use Rattle.records.specs.Records.{high_first, number_of, origin_of, fields, record_size, numbers_of, origins_of}
use Rattle.records.proofs.NumberBack.{length_high}
use Rattle.records.proofs.RecordBack.{length_record}
use Rattle.records.proofs.FieldByField.{numbers_left, origins_left, record_is, thirteen_fields}
use Rattle.records.proofs.write.put_record.Goals as goal

abbrev default : Field
default = Measured (pos 0)

module _ {b₀ b : List ℕ} {at p : ℕ} {s : List ℕ} (fs : List Field) (all : length fs ≡ fields) (k : ℕ) where
  one_number : k < fields → (t : List ℕ) → Left b₀ at s b p (numbers_of (drop k fs) ++ t)
      → Left b₀ at s b p (high_first 4 (number_of (get_or fs k default)) ++ (numbers_of (drop (k + 1) fs) ++ t))
  one_number h t l = rw (numbers_left default fs k (omega (arith, all, h)) t) at l

  one_origin : k < fields → Left b₀ at s b p (origins_of (drop k fs)) → Left b₀ at s b p ((origin_of (get_or fs k default) ∷ []) ++ origins_of (drop (k + 1) fs))
  one_origin h l = rw (origins_left default fs k (omega (arith, all, h))) at l

  no_number : fields ≤ k → (t : List ℕ) → Left b₀ at s b p (numbers_of (drop k fs) ++ t) → Left b₀ at s b p t
  unfolding numbers_of
  no_number h t l = rw (drop_of_length-le fs {i = k} (omega (arith, all, h))) at l

  no_origin : fields ≤ k → Left b₀ at s b p (origins_of (drop k fs)) → Written b₀ at s p b
  unfolding origins_of
  no_origin h l = nothing_left (rw (drop_of_length-le fs {i = k} (omega (arith, all, h))) at l)

fits : (b : List ℕ) (at : ℕ) (r : Request) (fs : List Field) → fs ≡ fields_in r → at + record_size ≤ length b → at + length (numbers_of fs ++ origins_of fs) ≤ length b
fits b at r fs e h = omega (arith, ap length (record_is r fs e), length_record r, h)

pub loop-field-init : goal.loop-field-init
loop-field-init c = all_left _ _ _ (fits c.args.b.now c.args.at c.args.r c.fields_of-f.result c.fields_of-f.ensures c.requires)

pub put_long-p-requires : goal.put_long-p-requires
put_long-p-requires c =
    let fs = c.fields_of-f.result in
    let all = thirteen_fields c.args.r fs c.fields_of-f.ensures in
    let k = c.loop-field.field-index in
    let n = number_of (get_or fs k default) in
    omega (arith, length_high 4 n, shorter _ (high_first 4 n) _ (one_number fs all k c.loop-field-test.true _ c.loop-field.invariant).room)

pub loop-field-preserved : goal.loop-field-preserved
loop-field-preserved c =
    let fs = c.fields_of-f.result in
    let all = thirteen_fields c.args.r fs c.fields_of-f.ensures in
    less-left _ _ (one_number fs all c.loop-field.field-index c.loop-field-test.true _ c.loop-field.invariant) (rw c.number_of.ensures at c.put_long-p.ensures)

pub loop-field-2-init : goal.loop-field-2-init
loop-field-2-init c =
    let fs = c.fields_of-f.result in
    no_number fs (thirteen_fields c.args.r fs c.fields_of-f.ensures) c.loop-field.field-index c.loop-field-test.false _ c.loop-field.invariant

pub put_byte-p-requires : goal.put_byte-p-requires
put_byte-p-requires c =
    let fs = c.fields_of-f.result in
    let all = thirteen_fields c.args.r fs c.fields_of-f.ensures in
    let k = c.loop-field-2.field-index in
    shorter _ (origin_of (get_or fs k default) ∷ []) _ (one_origin fs all k c.loop-field-2-test.true c.loop-field-2.invariant).room

pub loop-field-2-preserved : goal.loop-field-2-preserved
loop-field-2-preserved c =
    let fs = c.fields_of-f.result in
    let all = thirteen_fields c.args.r fs c.fields_of-f.ensures in
    less-left _ _ (one_origin fs all c.loop-field-2.field-index c.loop-field-2-test.true c.loop-field-2.invariant) (rw c.origin_of.ensures at c.put_byte-p.ensures)

pub returns : goal.returns
returns c =
    let fs = c.fields_of-f.result in
    let all = thirteen_fields c.args.r fs c.fields_of-f.ensures in
    rw (record_is c.args.r fs c.fields_of-f.ensures) at (no_origin fs all c.loop-field-2.field-index c.loop-field-2-test.false c.loop-field-2.invariant)
