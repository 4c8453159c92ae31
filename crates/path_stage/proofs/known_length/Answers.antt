-- By whether RRUP is blank; the figures before it are in their ranges. Assumes nothing.
use mathlib.Core.Path.{◌≡◌, sym, ap, ◌∙◌}
use Prim.Native.Nat.{ℕ}
use mir.Syntax.{w64}
use mir.Val.{SFits}
use mir.Facts.{to_z-of_z}
use Rattle.request.specs.Fields.{size_of}
use Rattle.request.specs.declared.Request.{Request}
use Rattle.outcome.specs.declared.Source.{Source}
use Rattle.outcome.specs.Figures.{dip, width, ztor}
use Rattle.outcome.specs.Stages.{source_figures}
use Rattle.outcome.proofs.FigureLaws.{length-given, length-estimated}
use Rattle.outcome.proofs.Ranges.{source_range, source_given_lem, top_range, path_range}
use Rattle.path_stage.proofs.known_length.Goals as goal

dip-is : (r : Request) (s : Source) (d : ℕ) → s ≡ source_figures r → d ≡ size_of s.dip → d ≡ size_of (dip r)
unfolding source_figures
dip-is r s d e h = h ∙ ap (λ (s : Source). size_of s.dip) e

width_is : (r : Request) (s : Source) (d : ℕ) → s ≡ source_figures r → d ≡ size_of s.w → d ≡ size_of (width r)
unfolding source_figures
width_is r s d e h = h ∙ ap (λ (s : Source). size_of s.w) e

top-is : (r : Request) (s : Source) (d : ℕ) → s ≡ source_figures r → d ≡ size_of s.ztor → d ≡ size_of (ztor r)
unfolding source_figures
top-is r s d e h = h ∙ ap (λ (s : Source). size_of s.ztor) e

pub returns-else-is_blank : goal.returns-else-is_blank
returns-else-is_blank c =
    c.size-else-is_blank.ensures ∙ sym (ap size_of (length-given c.args.s.request (sym c.is_blank.ensures ∙ c.if-is_blank.false)))

pub rupture_distance-requires : goal.rupture_distance-requires
rupture_distance-requires c =
    let r = c.args.s.request in
    let s = c.args.s.figures in
    let e = c.args.s.completed in
    let source = source_range r (source_given_lem r c.args.s.silent) in
    let path = path_range r c.requires in
    rw (dip-is r s _ e c.size.ensures, width_is r s _ e c.size-then-is_blank.ensures, top-is r s _ e c.size-then-is_blank-2.ensures, c.size-then-is_blank-3.ensures)
    (record {
      dip-low = source.dip-low;
      dip-high = source.dip-high;
      w_low = source.w_low;
      w_high = source.w_high;
      ztor-high = top_range r c.args.s.silent;
      rjb-high = path.rjb-high;
    })

pub returns-then-is_blank : goal.returns-then-is_blank
returns-then-is_blank c =
    let r = c.args.s.request in
    let s = c.args.s.figures in
    let e = c.args.s.completed in
    let azimuth_fits : SFits w64 c.value.result = record { sfits = c.value.type_inv } in
    (rw (dip-is r s _ e c.size.ensures, width_is r s _ e c.size-then-is_blank.ensures, top-is r s _ e c.size-then-is_blank-2.ensures, c.size-then-is_blank-3.ensures, c.value.ensures)
    at (simp (to_z-of_z azimuth_fits) at c.rupture_distance.ensures))
    ∙ sym (length-estimated r (sym c.is_blank.ensures ∙ c.if-is_blank.true))
