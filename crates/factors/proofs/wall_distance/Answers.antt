-- Below a kilometre the larger of the two distances. Assumes nothing.
use Rattle.std.proofs.Common.{ℕ, ◌*◌, ◌≡◌, max, ap, ◌∙◌, lt-ltb, le-ltb, arith}
use Rattle.std.proofs.lemmas.Bool.Decides.{nat_tests}
use Rattle.model.specs.Equations.{most}
use Rattle.model.specs.Fixed.{wall_distance_fixed}
use Rattle.factors.proofs.wall_distance.Goals as goal

most_is : (a b : ℕ) → max a b ≡ most a b
most_is a b = grind (arith, nat_tests)

pub returns-then-ztor-lt-KILOMETRE : goal.returns-then-ztor-lt-KILOMETRE
unfolding wall_distance_fixed
returns-then-ztor-lt-KILOMETRE c =
    rw (lt-ltb c.args.ztor 1000 c.if-ztor-lt-KILOMETRE.true, wall_distance_fixed)
    (c.max.ensures ∙ ap (max (c.args.rrup * 10000)) c.whole_root.ensures ∙ most_is _ _)

pub returns : goal.returns
unfolding wall_distance_fixed
returns c = rw (le-ltb c.args.ztor 1000 c.if-ztor-lt-KILOMETRE.false, wall_distance_fixed)
