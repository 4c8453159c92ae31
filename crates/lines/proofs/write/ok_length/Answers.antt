-- Figure by figure. Assumes nothing.
use Rattle.std.proofs.Common.{◌≡◌, ◌+◌, ◌++◌, length, slice_index_or, drop, ap, sym, pos, arith}
use lib.ListN.{length-append}
use Rattle.request.specs.declared.Field.TheVariants.{Measured}
use Rattle.lines.specs.Lines.{spaced}
use Rattle.lines.proofs.LineLaws.{figures, figures_next, figures_end, length_spaced, length-figures}
use Rattle.lines.proofs.write.ok_length.Goals as goal

pub loop-f-init : goal.loop-f-init
loop-f-init c = (c.columns-f-items.ensures, omega arith, rw c.columns-f-items.ensures (sym (length-figures c.args.c)))

pub loop-f-preserved : goal.loop-f-preserved
loop-f-preserved c =
    let fs = c.columns-f-items.result in
    let i = c.loop-f.f-index in
    let f = slice_index_or fs i (Measured (pos 0)) in
    let digits = rw c.size.ensures at c.digits.ensures in (
      c.columns-f-items.ensures,
      omega arith,
      omega (
        arith,
        length_spaced f,
        ap length (figures_next fs i (omega (arith, ap length c.columns-f-items.ensures))),
        length-append (spaced f) (figures (drop (i + 1) fs)),
      ),
    )

pub returns : goal.returns
returns c =
    omega (arith, ap length (figures_end c.columns-f-items.result c.loop-f.f-index (omega (arith, ap length c.columns-f-items.ensures))))
