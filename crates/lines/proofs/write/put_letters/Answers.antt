-- Letter by letter, and the LF behind them. Assumes nothing.
use Rattle.std.proofs.Common.{◌≡◌, ◌+◌, ◌++◌, [], ◌∷◌, List, ℕ, map, length, slice_index_or, drop, ap, pos, subst, arith}
use Rattle.request.specs.declared.Field.TheVariants.{Measured}
use Rattle.lent.proofs.PutLaws.{shorter}
use Rattle.lent.proofs.LeftLaws.{Left, all_left, less-left, none_left}
use Rattle.numerals.specs.Render.{lf}
use Rattle.lines.specs.Lines.{letter_of, columns, letters}
use Rattle.lines.proofs.LineLaws.{open_letters, letter_left, no_letter_left}
use Rattle.lines.proofs.write.put_letters.Goals as goal

pub loop-f-init : goal.loop-f-init
loop-f-init c = (
  c.columns-f-items.ensures,
  rw c.columns-f-items.ensures
      (subst (Left c.args.out.now c.args.at (letters c.args.c) c.args.out.now c.args.at) (open_letters c.args.c)
      (all_left c.args.out.now c.args.at (letters c.args.c) c.requires)),
)

pub put_byte-at-requires : goal.put_byte-at-requires
put_byte-at-requires c =
    let fs = c.columns-f-items.result in
    let i = c.loop-f.f-index in
    shorter c.loop-f.at (letter_of (slice_index_or fs i (Measured (pos 0))) ∷ []) (map letter_of (drop (i + 1) fs) ++ (lf ∷ []))
    (letter_left fs i (lf ∷ []) c.loop-f.invariant.1 (omega (arith, ap length c.columns-f-items.ensures))).room

pub loop-f-preserved : goal.loop-f-preserved
loop-f-preserved c =
    let fs = c.columns-f-items.result in
    let i = c.loop-f.f-index in (
      c.columns-f-items.ensures,
      less-left (letter_of (slice_index_or fs i (Measured (pos 0))) ∷ []) (map letter_of (drop (i + 1) fs) ++ (lf ∷ []))
          (letter_left fs i (lf ∷ []) c.loop-f.invariant.1 (omega (arith, ap length c.columns-f-items.ensures)))
          (rw c.letter_of.ensures at c.put_byte-at.ensures),
    )

pub put_byte-requires : goal.put_byte-requires
put_byte-requires c =
    (no_letter_left c.columns-f-items.result c.loop-f.f-index (lf ∷ []) c.loop-f.invariant.1 (omega (arith, ap length c.columns-f-items.ensures))).room

pub returns : goal.returns
returns c =
    none_left (lf ∷ [])
    (no_letter_left c.columns-f-items.result c.loop-f.f-index (lf ∷ []) c.loop-f.invariant.1 (omega (arith, ap length c.columns-f-items.ensures)))
    c.put_byte.ensures
