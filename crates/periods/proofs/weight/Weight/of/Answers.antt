-- The logarithm that divides is at least that of 1.2; the other is not above it. Assumes nothing.
use Rattle.std.proofs.Common.{◌≤◌, ℕ, ◌*◌, ◌/◌, ap₂, sym, subst}
use Rattle.fixed.specs.Fixed.{E9}
use Rattle.between.specs.Fixed.{weight_fixed}
use Rattle.between.proofs.Weight.{weight_fixed-one}
use Rattle.periods.proofs.weight.Weight.of.Goals as goal

pub invariant_of-result : goal.invariant_of-result
unfolding weight_fixed
invariant_of-result c =
    let g = c.requires.0 in
    let e = ap₂ (λ (a b : ℕ). a * E9 / b) c.ln_narrow-a.ensures.0 c.ln_narrow-b.ensures.0 in
    record { at_most_one = subst (λ (w : ℕ). w ≤ E9) (sym e) (weight_fixed-one c.args.t c.args.t1 c.args.t2 g.some c.requires.1 c.requires.2 g.wide g.apart) }
