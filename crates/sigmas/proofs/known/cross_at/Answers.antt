-- Each arm has what its row of Table 3 gives, which is computed. Assumes nothing.
use Rattle.std.proofs.Common.{arith, ◌≡◌}
use Rattle.tables.specs.Tables.{table3, deviations_at}
use Rattle.model.specs.Fixed.{cross_fixed}
use Rattle.sigmas.proofs.known.cross_at.Goals as goal

pub returns-in-0 : goal.returns-in-0
unfolding cross_fixed deviations_at table3
returns-in-0 c = cc

pub returns-in-1 : goal.returns-in-1
unfolding cross_fixed deviations_at table3
returns-in-1 c = cc

pub returns-in-2 : goal.returns-in-2
unfolding cross_fixed deviations_at table3
returns-in-2 c = cc

pub returns-in-3 : goal.returns-in-3
unfolding cross_fixed deviations_at table3
returns-in-3 c = cc

pub returns-in-4 : goal.returns-in-4
unfolding cross_fixed deviations_at table3
returns-in-4 c = cc

pub returns-in-5 : goal.returns-in-5
unfolding cross_fixed deviations_at table3
returns-in-5 c = cc

pub returns-in-6 : goal.returns-in-6
unfolding cross_fixed deviations_at table3
returns-in-6 c = cc

pub returns-in-7 : goal.returns-in-7
unfolding cross_fixed deviations_at table3
returns-in-7 c = cc

pub returns-in-8 : goal.returns-in-8
unfolding cross_fixed deviations_at table3
returns-in-8 c = cc

pub returns-in-9 : goal.returns-in-9
unfolding cross_fixed deviations_at table3
returns-in-9 c = cc

pub returns-in-10 : goal.returns-in-10
unfolding cross_fixed deviations_at table3
returns-in-10 c = cc

pub returns-in-11 : goal.returns-in-11
unfolding cross_fixed deviations_at table3
returns-in-11 c = cc

pub returns-in-12 : goal.returns-in-12
unfolding cross_fixed deviations_at table3
returns-in-12 c = cc

pub returns-in-13 : goal.returns-in-13
unfolding cross_fixed deviations_at table3
returns-in-13 c = cc

pub returns-in-14 : goal.returns-in-14
unfolding cross_fixed deviations_at table3
returns-in-14 c = cc

pub returns-in-15 : goal.returns-in-15
unfolding cross_fixed deviations_at table3
returns-in-15 c = cc

pub returns-in-16 : goal.returns-in-16
unfolding cross_fixed deviations_at table3
returns-in-16 c = cc

pub returns-in-17 : goal.returns-in-17
unfolding cross_fixed deviations_at table3
returns-in-17 c = cc

pub returns-in-18 : goal.returns-in-18
unfolding cross_fixed deviations_at table3
returns-in-18 c = cc

pub returns-in-19 : goal.returns-in-19
unfolding cross_fixed deviations_at table3
returns-in-19 c = cc

pub returns-in-20 : goal.returns-in-20
unfolding cross_fixed deviations_at table3
returns-in-20 c = cc

pub returns-in-21 : goal.returns-in-21
unfolding cross_fixed deviations_at table3
returns-in-21 c = cc

pub returns-in-22 : goal.returns-in-22
unfolding cross_fixed deviations_at table3
returns-in-22 c = cc

pub returns-in_default : goal.returns-in_default
unfolding cross_fixed deviations_at table3
returns-in_default c = let last : c.args.i ≡ 23 = omega arith in cc
