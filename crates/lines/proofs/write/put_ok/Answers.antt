-- The word is put, then figure by figure, then the letters. Assumes nothing.
use Rattle.std.proofs.Common.{◌≡◌, ◌≤◌, ◌+◌, ◌++◌, List, length, slice_index_or, drop, ap, pos, subst, ℕ, arith}
use Rattle.request.specs.declared.Field.TheVariants.{Measured}
use Rattle.request.specs.declared.Request.{Request}
use Rattle.lent.proofs.PutLaws.{shorter}
use Rattle.lent.proofs.LeftLaws.{Left, all_left, less-left, none_left}
use Rattle.numerals.specs.Render.{ascii}
use Rattle.lines.specs.Lines.{spaced, columns, letters, ok_line}
use Rattle.lines.proofs.LineLaws.{figures, open_ok, figure_left, rest_left}
use Rattle.lines.proofs.write.put_ok.Goals as goal

-- before anything is written
whole : (c : Request) (b : List ℕ) → length (ok_line c) ≤ length b → Left b 0 (ok_line c) b 0 (ascii "ok " ++ (figures (columns c) ++ letters c))
whole c b h = subst (Left b 0 (ok_line c) b 0) (open_ok c) (all_left b 0 (ok_line c) (omega (arith, h)))

pub put_slice-at-requires : goal.put_slice-at-requires
unfolding ascii
put_slice-at-requires c =
    shorter 0 (ascii "ok ") (figures (columns c.args.c) ++ letters c.args.c) (whole c.args.c c.args.out.now c.requires).room

pub loop-f-init : goal.loop-f-init
unfolding ascii
loop-f-init c = (
  c.columns-f-items.ensures,
  rw c.columns-f-items.ensures
      (less-left (ascii "ok ") (figures (columns c.args.c) ++ letters c.args.c) (whole c.args.c c.args.out.now c.requires) c.put_slice-at.ensures),
)

pub put_figure-at-requires : goal.put_figure-at-requires
put_figure-at-requires c =
    let fs = c.columns-f-items.result in
    let i = c.loop-f.f-index in
    shorter c.loop-f.at (spaced (slice_index_or fs i (Measured (pos 0)))) (figures (drop (i + 1) fs) ++ letters c.args.c)
    (figure_left fs i (letters c.args.c) c.loop-f.invariant.1 (omega (arith, ap length c.columns-f-items.ensures))).room

pub loop-f-preserved : goal.loop-f-preserved
loop-f-preserved c =
    let fs = c.columns-f-items.result in
    let i = c.loop-f.f-index in (
      c.columns-f-items.ensures,
      less-left (spaced (slice_index_or fs i (Measured (pos 0)))) (figures (drop (i + 1) fs) ++ letters c.args.c)
          (figure_left fs i (letters c.args.c) c.loop-f.invariant.1 (omega (arith, ap length c.columns-f-items.ensures)))
          c.put_figure-at.ensures,
    )

pub put_letters-requires : goal.put_letters-requires
put_letters-requires c =
    (rest_left c.columns-f-items.result c.loop-f.f-index (letters c.args.c) c.loop-f.invariant.1 (omega (arith, ap length c.columns-f-items.ensures))).room

pub returns : goal.returns
returns c =
    none_left (letters c.args.c)
    (rest_left c.columns-f-items.result c.loop-f.f-index (letters c.args.c) c.loop-f.invariant.1 (omega (arith, ap length c.columns-f-items.ensures)))
    c.put_letters.ensures
