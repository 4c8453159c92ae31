-- A field with a space after it is read.
use Rattle.std.proofs.Common.{arith}
use Rattle.text.proofs.FieldLaws.{field_read}
use Rattle.text.proofs.read.read_line.Goals as goal

pub loop-k-preserved : goal.loop-k-preserved
loop-k-preserved c =
    let l = c.loop-k in
    let w = c.in_ok-field.ensures in
    rw w.2
    (field_read c.args.s.now l.got l.k l.rest.now c.in_ok-got.field-0 (omega (arith, c.loop-k-test.true)) l.invariant w.0
    (rw (c.signed_at.ensures, w.1) at c.in_ok-got.ensures))
