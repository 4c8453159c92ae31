-- The row's c6 and RRUP are in their ranges. Assumes nothing.
use Rattle.model.proofs.Fair.{fair_of}
use Rattle.terms.proofs.Measure.next.Goals as goal

pub path_of-path-requires : goal.path_of-path-requires
path_of-path-requires c =
    let f = fair_of c.coefficients_at-c.result (record { i = c.args.i; below = c.requires; is = c.coefficients_at-c.ensures }) in
    (f.c6_low, f.c6_high, c.args.self.now.f.now.in_range.rrup-high)
