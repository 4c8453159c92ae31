-- Field by field.
use Rattle.std.proofs.Common.{sym, ◌∙◌, refl, arith}
use Rattle.std.proofs.Math.ListN.{length-set}
use Rattle.text.proofs.FieldLaws.{prepend-none}
use Rattle.records.proofs.FieldByField.{field_more, record_malformed, record_read}
use Rattle.records.proofs.read.record_in.Goals as goal

pub loop-k-init : goal.loop-k-init
loop-k-init c = (refl, prepend-none _)

pub returns-in_err-got : goal.returns-in_err-got
returns-in_err-got c =
    rw c.from_residual.ensures
    (sym (record_malformed c.args.s.now c.loop-k.got c.loop-k.k c.loop-k.invariant.0 c.loop-k-test.true c.loop-k.invariant.1 c.in_err-got.ensures))

pub loop-k-preserved : goal.loop-k-preserved
loop-k-preserved c = (
  length-set c.loop-k.got c.loop-k.k c.in_ok-got.field-0 ∙ c.loop-k.invariant.0,
  field_more c.args.s.now c.loop-k.got c.loop-k.k c.loop-k.invariant.0 c.loop-k-test.true c.loop-k.invariant.1 c.in_ok-got.field-0 c.in_ok-got.ensures,
)

pub returns : goal.returns
returns c =
    sym
    (record_read c.args.s.now c.loop-k.got c.loop-k.k (omega arith) c.loop-k.invariant.0 c.loop-k.invariant.1
    ∙ rw c.request_of.ensures)
