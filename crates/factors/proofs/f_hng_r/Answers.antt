-- By RJB = 0 or not; where the code's test holds the definition's difference is 0. Assumes nothing.
use Prim.Native.Nat.{ℕ, ◌-◌, ◌*◌, ◌/◌, ◌<◌}
use mathlib.Core.Path.{◌≡◌, sym, ap, ◌∙◌}
use native.Mathlib.Omega.{arith}
use native.Mathlib.Nat.{zero-div}
use borrow.Author.Tests.{eq-eqb, ne_eqb}
use Rattle.fixed.specs.Fixed.{E9}
use Rattle.model.specs.Fixed.{wall_distance_fixed, f_hng_r_fixed}
use Rattle.model.proofs.Sizes.{wall_distance-size}
use Rattle.factors.proofs.f_hng_r.Goals as goal

-- with the distance d that the call gave
factor_is : (z j r d : ℕ) → (j ≡ 0 → ⊥) → d ≡ wall_distance_fixed z j r → (d - j * 10000) * E9 / d ≡ f_hng_r_fixed z j r
unfolding f_hng_r_fixed
factor_is z j r d h e = rw (ne_eqb j 0 h, f_hng_r_fixed, e)

-- 0 where it is below RJB
nothing : (z j r d : ℕ) → (j ≡ 0 → ⊥) → d ≡ wall_distance_fixed z j r → d < j * 10000 → 0 ≡ f_hng_r_fixed z j r
nothing z j r d h e k =
    let none : d - j * 10000 ≡ 0 = omega arith in
    sym (ap (λ (t : ℕ). t * E9 / d) none ∙ zero-div d) ∙ factor_is z j r d h e

pub returns-then-rjb-eq0 : goal.returns-then-rjb-eq0
unfolding f_hng_r_fixed
returns-then-rjb-eq0 c = rw (eq-eqb c.args.rjb 0 c.if-rjb-eq0.true, f_hng_r_fixed)

pub returns-then-d-plan : goal.returns-then-d-plan
returns-then-d-plan c = nothing _ _ _ _ c.if-rjb-eq0.false c.wall_distance-d.ensures c.if-d-plan.true

pub overflow_mul-result : goal.overflow_mul-result
overflow_mul-result c =
    omega (arith, c.wall_distance-d.ensures, wall_distance-size c.args.ztor c.args.rjb c.args.rrup c.requires.0 c.requires.1)

pub returns : goal.returns
returns c = factor_is _ _ _ _ c.if-rjb-eq0.false c.wall_distance-d.ensures
