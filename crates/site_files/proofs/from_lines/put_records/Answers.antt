-- Line by line.
use Rattle.std.proofs.Common.{◌≡◌, ℕ, ◌+◌, ◌-◌, ◌≤◌, ◌<◌, List, [], ◌∷◌, ◌++◌, length, take, drop, ap, ◌∙◌, arith}
use Rattle.std.specs.Prelude.{Option, Some, None}
use Rattle.request.specs.declared.Request.{Request}
use Rattle.text.specs.Grammar.{line_of}
use Rattle.lent.specs.Lent.{Written}
use Rattle.lent.proofs.PutLaws.{shorter}
use Rattle.lent.proofs.LeftLaws.{Left, all_left, less-left, nothing_left}
use Rattle.records.specs.Records.{record_of}
use Rattle.records.proofs.RecordBack.{length_record}
use Rattle.list_lines.specs.ListLines.{lines_of, requests_in}
use Rattle.list_lines.proofs.LineLaws.{lf_place, unfinished, line-here, no_line_lem}
use Rattle.site_files.specs.Format.{records_of}
use Rattle.site_files.proofs.Pieces.{records_at}
use Rattle.site_files.proofs.from_lines.put_records.Goals as goal
use Rattle.site_files.proofs.from_lines.put_records.Goals.{in-Some, in_default}

module _ {b b₁ : List ℕ} {first p : ℕ} (s : List ℕ) (at : ℕ) (left : Left b first (records_at s) b₁ p (records_at (drop at s))) where
  -- nothing is left once the rest of the list has no line that is well-formed
  ended : records_at (drop at s) ≡ [] → Written b first (records_at s) p b₁
  ended e = nothing_left (rw e at left)

  module _ (e : ℕ) (is : e ≡ at + lf_place (drop at s)) (inside : at < length s) (before : e ≡ length s → ⊥) (within : e ≤ length s) where
    one : (l : Option Request) → l ≡ line_of (take (e - at) (drop at s)) → lines_of (drop at s) ≡ l ∷ lines_of (drop (e + 1) s)
    one l q = line-here s at e is inside before within ∙ rw q

    -- of a line that was read its record is left, and what follows it
    its_record : (r : Request) → Some r ≡ line_of (take (e - at) (drop at s)) → Left b first (records_at s) b₁ p (record_of r ++ records_at (drop (e + 1) s))
    unfolding records_of requests_in
    its_record r q = rw (one (Some r) q) at left

    -- and of another only that
    no_record : None ≡ line_of (take (e - at) (drop at s)) → Left b first (records_at s) b₁ p (records_at (drop (e + 1) s))
    unfolding requests_in
    no_record q = rw (one None q) at left

pub loop-at-init : goal.loop-at-init
loop-at-init c = (omega arith, all_left _ _ _ c.requires)

pub returns-then-e-list : goal.returns-then-e-list
unfolding records_of requests_in
returns-then-e-list c =
    ended c.args.list.now c.loop-at.at c.loop-at.invariant.1
    (ap (λ (ls : List (Option Request)). records_of (requests_in ls))
    (unfinished c.args.list.now c.loop-at.at c.line_end-e.result c.line_end-e.ensures.0 c.loop-at-test.true c.if-e-list.true))

pub put_record-p-requires : goal.put_record-p-requires
put_record-p-requires c =
    let l = its_record c.args.list.now c.loop-at.at c.loop-at.invariant.1 c.line_end-e.result c.line_end-e.ensures.0 c.loop-at-test.true c.if-e-list.false c.line_end-e.ensures.1
    c.in-Some.r c.in-Some.ensures in
    omega (arith, length_record c.in-Some.r, shorter _ (record_of c.in-Some.r) _ l.room)

pub loop-at-preserved : goal.loop-at-preserved
loop-at-preserved c = (
  omega (arith, c.line_end-e.ensures.1, c.if-e-list.false),
  elim c.match-read_line.branch [
    | in-Some w ↦
        rw (w.b-is, w.p-is)
        (less-left _ _
        (its_record c.args.list.now c.loop-at.at c.loop-at.invariant.1 c.line_end-e.result c.line_end-e.ensures.0 c.loop-at-test.true c.if-e-list.false c.line_end-e.ensures.1
        w.in-Some.r w.in-Some.ensures)
        w.put_record-p.ensures)
    | in_default w ↦
        rw (w.b-is, w.p-is)
        (no_record c.args.list.now c.loop-at.at c.loop-at.invariant.1 c.line_end-e.result c.line_end-e.ensures.0 c.loop-at-test.true c.if-e-list.false c.line_end-e.ensures.1
        w.in_default.ensures)
  ],
)

pub returns : goal.returns
unfolding records_of requests_in
returns c =
    ended c.args.list.now c.loop-at.at c.loop-at.invariant.1
    (ap (λ (ls : List (Option Request)). records_of (requests_in ls)) (no_line_lem c.args.list.now c.loop-at.at c.loop-at-test.false))
