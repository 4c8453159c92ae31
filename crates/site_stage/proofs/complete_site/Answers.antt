-- The stage goes by its rows. Assumes nothing.
use mathlib.Core.Path.{sym, ap, ◌∙◌}
use Rattle.std.proofs.lemmas.Result.{err_from_is_err_and}
use Rattle.std.specs.Prelude.{Ok}
use Rattle.request.specs.Fields.{size_of}
use Rattle.outcome.proofs.Staged.{site_refused, site_deep, site_known}
use Rattle.site_stage.proofs.complete_site.Goals as goal

pub returns-in_err-test_site : goal.returns-in_err-test_site
returns-in_err-test_site c =
    let p = err_from_is_err_and c.from_residual.result c.from_residual.ensures.1 in
    let e = site_refused c.args.s.request _ (sym c.in_err-test_site.ensures) in
    rw (p.1, p.2) (sym e)

pub known_site-z25-requires : goal.known_site-z25-requires
known_site-z25-requires c = sym c.in_ok-test_site.ensures

pub returns-then-size-gt10000 : goal.returns-then-size-gt10000
returns-then-size-gt10000 c =
    sym
    (site_deep c.args.s.request (sym c.in_ok-test_site.ensures)
    (rw (c.size.ensures ∙ ap size_of c.known_site-z25.ensures) at c.if-size-gt10000.true))

pub returns : goal.returns
returns c =
    ap Ok c.known_site-z25.ensures
    ∙ sym
    (site_known c.args.s.request (sym c.in_ok-test_site.ensures)
    (rw (c.size.ensures ∙ ap size_of c.known_site-z25.ensures) at c.if-size-gt10000.false))
