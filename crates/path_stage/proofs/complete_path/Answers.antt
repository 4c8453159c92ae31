-- The stage goes by its rows. Assumes nothing.
use Prim.Native.Nat.{ℕ}
use mathlib.Core.Path.{◌≡◌, refl, sym, ap, ◌∙◌}
use native.Mathlib.Omega.{arith}
use Rattle.std.proofs.lemmas.Result.{err_from_is_err_and}
use Rattle.std.specs.Prelude.{Ok}
use Rattle.request.specs.Fields.{size_of}
use Rattle.request.specs.declared.Request.{Request}
use Rattle.outcome.specs.declared.Source.{Source}
use Rattle.outcome.specs.Figures.{width, ztor}
use Rattle.outcome.specs.Stages.{source_figures}
use Rattle.outcome.proofs.Ranges.{source_range, source_given_lem, top_range, path_range}
use Rattle.outcome.proofs.Staged.{path_refused, path_far, path_short, path_long, path_known}
use Rattle.path_stage.proofs.complete_path.Goals as goal

top-is : (r : Request) (s : Source) (d : ℕ) → s ≡ source_figures r → d ≡ size_of s.ztor → d ≡ size_of (ztor r)
unfolding source_figures
top-is r s d e h = h ∙ ap (λ (s : Source). size_of s.ztor) e

width_is : (r : Request) (s : Source) (d : ℕ) → s ≡ source_figures r → d ≡ size_of s.w → d ≡ size_of (width r)
unfolding source_figures
width_is r s d e h = h ∙ ap (λ (s : Source). size_of s.w) e

pub test_path-requires : goal.test_path-requires
unfolding source_figures
test_path-requires c = c.size.ensures ∙ ap (λ (s : Source). size_of s.dip) c.args.s.completed

pub returns-in_err-test_path : goal.returns-in_err-test_path
returns-in_err-test_path c =
    let p = err_from_is_err_and c.from_residual.result c.from_residual.ensures.1 in
    let e = path_refused c.args.s.request _ (sym c.in_err-test_path.ensures) in
    rw (p.1, p.2) (sym e)

pub returns-then-d-gt200000 : goal.returns-then-d-gt200000
returns-then-d-gt200000 c =
    sym (path_far c.args.s.request (sym c.in_ok-test_path.ensures) (rw c.known_length-d.ensures at c.if-d-gt200000.true))

pub is_too_short-requires : goal.is_too_short-requires
is_too_short-requires c =
    let r = c.args.s.request in
    let path = path_range r (sym c.in_ok-test_path.ensures) in
    rw (top-is r c.args.s.figures _ c.args.s.completed c.size-z.ensures) (refl, top_range r c.args.s.silent, path.rjb-high, path.rrup-given)

pub returns-then-is_too_short : goal.returns-then-is_too_short
returns-then-is_too_short c =
    sym
    (path_short c.args.s.request (sym c.in_ok-test_path.ensures) (rw c.known_length-d.ensures at c.if-d-gt200000.false)
    (sym c.is_too_short.ensures ∙ c.if-is_too_short.true))

pub is_too_far-requires : goal.is_too_far-requires
is_too_far-requires c =
    let r = c.args.s.request in
    let s = c.args.s.figures in
    let w = width_is r s _ c.args.s.completed c.size-2.ensures in
    let z = top-is r s _ c.args.s.completed c.size-z.ensures in
    let path = path_range r (sym c.in_ok-test_path.ensures) in
    let source = source_range r (source_given_lem r c.args.s.silent) in (
      w,
      z,
      omega (arith, w, source.w_high),
      omega (arith, z, top_range r c.args.s.silent),
      path.rjb-high,
      path.rrup-given,
    )

pub returns-then-is_too_far : goal.returns-then-is_too_far
returns-then-is_too_far c =
    sym
    (path_long c.args.s.request (sym c.in_ok-test_path.ensures) (rw c.known_length-d.ensures at c.if-d-gt200000.false)
    (sym c.is_too_short.ensures ∙ c.if-is_too_short.false) (sym c.is_too_far.ensures ∙ c.if-is_too_far.true))

pub returns : goal.returns
returns c =
    ap Ok c.known_path.ensures
    ∙ sym
    (path_known c.args.s.request (sym c.in_ok-test_path.ensures) (rw c.known_length-d.ensures at c.if-d-gt200000.false)
    (sym c.is_too_short.ensures ∙ c.if-is_too_short.false) (sym c.is_too_far.ensures ∙ c.if-is_too_far.false))
