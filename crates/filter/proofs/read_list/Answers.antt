-- From turn to turn: the list so far, and what a turn took.
use native.Mathlib.Omega.{arith}
use Rattle.filter.proofs.TurnLaws.{begun, next-turn}
use Rattle.filter.proofs.read_list.Goals as goal

pub loop-init : goal.loop-init
loop-init g c = (begun c.args.reader.now c.requires.1, c.requires.0)

pub returns-in_err-read_block : goal.returns-in_err-read_block
returns-in_err-read_block g c = next-turn c.loop.invariant.0 c.read_block.ensures

pub returns-then-not-branch : goal.returns-then-not-branch
returns-then-not-branch g c = next-turn c.loop.invariant.0 c.read_block.ensures

pub loop-preserved : goal.loop-preserved
loop-preserved g c = (next-turn c.loop.invariant.0 c.read_block.ensures, omega arith)
