-- Each step fits 64 bits: the difference is at most 32, a quarter of it 8, and 8 · 10^18 is below 2^63. Assumes nothing.
use mir.Facts.{to_z-of_z}
use Rattle.between.specs.Fixed.{on_line_fixed}
use Rattle.periods.proofs.LineFits.{steps}
use Rattle.periods.proofs.weight.Weight.on_line.Goals as goal

pub overflow_add-result : goal.overflow_add-result
unfolding on_line_fixed
overflow_add-result c =
    let f = steps c.args.self.w c.args.a c.args.b c.args.self.at_most_one c.requires.0 c.requires.1 in
    simp (
      c.mul_div.ensures,
      to_z-of_z f.a_fits,
      to_z-of_z f.b_fits,
      to_z-of_z f.difference,
      to_z-of_z f.quarter,
      f.weight,
      to_z-of_z f.part,
    )
    f.line

pub returns : goal.returns
unfolding on_line_fixed
returns c =
    let f = steps c.args.self.w c.args.a c.args.b c.args.self.at_most_one c.requires.0 c.requires.1 in
    simp (
      c.mul_div.ensures,
      to_z-of_z f.a_fits,
      to_z-of_z f.b_fits,
      to_z-of_z f.difference,
      to_z-of_z f.quarter,
      f.weight,
      to_z-of_z f.part,
      to_z-of_z f.line,
    )
