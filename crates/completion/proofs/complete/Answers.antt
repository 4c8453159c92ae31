-- A marked figure refuses; so does a stage, whose refusal is handed on; three that do not give the figures. Assumes nothing.
use mathlib.Core.Path.{◌≡◌, sym, ap, subst, ◌∙◌}
use Rattle.std.proofs.lemmas.Result.{err_from_is_err_and}
use Rattle.std.specs.Prelude.{Ok}
use Rattle.outcome.proofs.ExactlyWhen.{accepted_by}
use Rattle.outcome.proofs.Staged.{marked_tells, unmarked, source_tells, path_says, path_tells, site_says, site_tells, all-silent}
use Rattle.completion.proofs.complete.Goals as goal

pub returns-then-is_marked : goal.returns-then-is_marked
returns-then-is_marked c = sym (marked_tells c.args.r (sym c.is_marked.ensures ∙ c.if-is_marked.true))

-- ---- the source
pub returns-in_err-s : goal.returns-in_err-s
returns-in_err-s c =
    let no_mark = unmarked c.args.r (sym c.is_marked.ensures ∙ c.if-is_marked.false) in
    let p = err_from_is_err_and c.from_residual.result c.from_residual.ensures.1 in
    let e = source_tells c.args.r _ no_mark (sym c.in_err-s.ensures.refused) in
    rw (p.1, p.2) (sym e)

-- ---- the path
pub returns-in_err-rrup : goal.returns-in_err-rrup
returns-in_err-rrup c =
    let s = c.in_ok-s.s in
    let same = c.in_ok-s.ensures.known in
    let no_mark = unmarked c.args.r (sym c.is_marked.ensures ∙ c.if-is_marked.false) in
    let p = err_from_is_err_and c.from_residual-in_err-rrup.result c.from_residual-in_err-rrup.ensures.1 in
    let e = path_tells s.request _ (rw same no_mark) s.silent (sym c.in_err-rrup.ensures) in
    rw (p.1, p.2) (sym (rw same at e))

-- ---- the site
pub returns-in_err-z25 : goal.returns-in_err-z25
returns-in_err-z25 c =
    let s = c.in_ok-s.s in
    let same = c.in_ok-s.ensures.known in
    let no_mark = unmarked c.args.r (sym c.is_marked.ensures ∙ c.if-is_marked.false) in
    let path = path_says s.request _ (sym c.in_ok-rrup.ensures) in
    let p = err_from_is_err_and c.from_residual-in_err-z25.result c.from_residual-in_err-z25.ensures.1 in
    let e = site_tells s.request _ (rw same no_mark) s.silent path.silent (sym c.in_err-z25.ensures) in
    rw (p.1, p.2) (sym (rw same at e))

-- ---- the whole
pub gathered-requires : goal.gathered-requires
gathered-requires c =
    let s = c.in_ok-s.s in
    ((path_says s.request _ (sym c.in_ok-rrup.ensures)).same, (site_says s.request _ (sym c.in_ok-z25.ensures)).same)

pub returns : goal.returns
returns c =
    let s = c.in_ok-s.s in
    let same = c.in_ok-s.ensures.known in
    let no_mark = unmarked c.args.r (sym c.is_marked.ensures ∙ c.if-is_marked.false) in
    let path = path_says s.request _ (sym c.in_ok-rrup.ensures) in
    let site = site_says s.request _ (sym c.in_ok-z25.ensures) in
    let e = accepted_by s.request (all-silent s.request (rw same no_mark) s.silent path.silent site.silent) in
    ap Ok c.gathered.ensures ∙ sym e ∙ rw same
