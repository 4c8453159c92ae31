-- By what the reader made of the rest of the block: it took some of it, and wrote no more than there was room for.
use Rattle.std.proofs.Common.{ℕ, ◌+◌, ◌-◌, ◌<◌, ◌≤◌, ◌≡◌, List, length, take, drop, sym, ◌∙◌}
use native.Mathlib.Omega.{arith}
use lib.ListN.{length-drop, drop_of_length-le}
use lib.Seq.{length-take-le, drop-drop}
use Rattle.std.specs.Prelude.{Result, Ok}
use Rattle.refusals.specs.declared.Refusal.{Refusal}
use Rattle.lent.proofs.PartLaws.{rest}
use Rattle.answer.specs.declared.Sheet.{Sheet}
use Rattle.answer.specs.Sheets.{longest_answer}
use Rattle.lists.specs.declared.Reader.{Reader}
use Rattle.lists.specs.declared.Taken.{Taken}
use Rattle.lists.specs.Parts.{PartTaken}
use Rattle.filter.specs.Turns.{reader_after}
use Rattle.filter.proofs.TurnLaws.{part_ok, wrote_within, took_within, took_some, goes_on, answers_stand}
use Rattle.filter.proofs.answer_block.Goals as goal

-- what the reader r made of the rest of the block
part :
    (block : List ℕ) (at : ℕ) {sheet : Sheet} {r r₁ : Reader} {b : List ℕ} {t : Result Taken Refusal} {b₁ : List ℕ}
    → PartTaken sheet r (take (length block - at) (drop at block)) b t r₁ b₁ → PartTaken sheet r (drop at block) b t r₁ b₁
part block at p = rw (rest block at) at p

-- it took some of it
record Made (at took block : ℕ) : Type 0 where
  some : 0 < took
  within : at + took ≤ block

made :
    (block : List ℕ) (at : ℕ) {sheet : Sheet} {r r₁ : Reader} {b : List ℕ} {t : Result Taken Refusal} {b₁ : List ℕ} {taken : Taken}
    → PartTaken sheet r (drop at block) b t r₁ b₁ → longest_answer sheet ≤ length b → t ≡ Ok taken → at < length block → Made at taken.took (length block)
made block at p h e i =
    record {
      some = took_some p h e (omega (arith, length-drop at block));
      within = omega (arith, length-drop at block, took_within p h e);
    }

pub unwrap-taken-requires : goal.unwrap-taken-requires
unwrap-taken-requires g c = part_ok c.take_part.ensures c.loop-at.invariant.enough

pub slice_bounds-put_answers-end-in-loop-at : goal.slice_bounds-put_answers-end-in-loop-at
slice_bounds-put_answers-end-in-loop-at g c =
    omega (arith, wrote_within c.take_part.ensures c.loop-at.invariant.enough c.unwrap-taken.ensures, c.take_part.auto.out)

pub slice_bounds-put_answers-end-in-loop-at-2 : goal.slice_bounds-put_answers-end-in-loop-at-2
slice_bounds-put_answers-end-in-loop-at-2 g c =
    sym
    (length-take-le c.unwrap-taken.result.wrote c.take_part.new.out
    (omega (arith, wrote_within c.take_part.ensures c.loop-at.invariant.enough c.unwrap-taken.ensures, c.take_part.auto.out)))

pub put_answers-requires : goal.put_answers-requires
put_answers-requires g c = answers_stand c.take_part.ensures c.loop-at.invariant.enough c.unwrap-taken.ensures c.take_part.auto.out

pub overflow_add-at : goal.overflow_add-at
overflow_add-at g c =
    omega (arith, made c.args.block.now c.loop-at.at (part c.args.block.now c.loop-at.at c.take_part.ensures) c.loop-at.invariant.enough c.unwrap-taken.ensures c.loop-at-test.true)

pub loop-at-smaller : goal.loop-at-smaller
loop-at-smaller g c =
    omega (arith, made c.args.block.now c.loop-at.at (part c.args.block.now c.loop-at.at c.take_part.ensures) c.loop-at.invariant.enough c.unwrap-taken.ensures c.loop-at-test.true)

pub loop-at-preserved : goal.loop-at-preserved
loop-at-preserved g c =
    let p = part c.args.block.now c.loop-at.at c.take_part.ensures in
    let m = made c.args.block.now c.loop-at.at p c.loop-at.invariant.enough c.unwrap-taken.ensures c.loop-at-test.true in
    record {
      within = omega (arith, m);
      enough = omega arith;
      same = rw (← drop-drop c.unwrap-taken.result.took c.loop-at.at c.args.block.now) (goes_on p c.loop-at.invariant.enough c.unwrap-taken.ensures) ∙ c.loop-at.invariant.same;
    }

-- of a block that was taken whole nothing is left
whole : (r : Reader) (b : List ℕ) (at : ℕ) → length b ≤ at → reader_after r (drop at b) ≡ r
unfolding reader_after
whole r b at h = rw (drop_of_length-le b h)

pub returns : goal.returns
returns g c = sym (whole c.loop-at.now c.args.block.now c.loop-at.at c.loop-at-test.false) ∙ c.loop-at.invariant.same
