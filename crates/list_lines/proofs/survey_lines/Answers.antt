-- Line by line.
use Rattle.std.proofs.Common.{◌≡◌, ℕ, ◌+◌, ◌-◌, ◌≤◌, ◌<◌, false, List, ◌∷◌, length, take, drop, sym, ap, ◌∙◌, arith}
use Rattle.std.specs.Prelude.{Option, Some, None}
use Rattle.request.specs.declared.Request.{Request}
use Rattle.text.specs.Grammar.{line_of}
use Rattle.list_lines.specs.ListLines.{lines_of, all_read, surveyed}
use Rattle.list_lines.proofs.LineLaws.{lf_place, unfinished, line-here, no_line_lem}
use Rattle.list_lines.proofs.survey_lines.Goals as goal

-- a list whose rest is malformed
malformed : (s : List ℕ) (at : ℕ) → all_read (lines_of (drop at s)) ≡ all_read (lines_of s) → all_read (lines_of (drop at s)) ≡ false
    → None ≡ surveyed (lines_of s) (length (lines_of s))
unfolding surveyed
malformed s at i e = rw (sym i ∙ e)

-- the rest of the list is the line that was read, and what is left
one : (s : List ℕ) (at e : ℕ) (l : Option Request) → e ≡ at + lf_place (drop at s) → at < length s → (e ≡ length s → ⊥) → e ≤ length s
    → l ≡ line_of (take (e - at) (drop at s)) → lines_of (drop at s) ≡ l ∷ lines_of (drop (e + 1) s)
one s at e l is inside h k q = line-here s at e is inside h k ∙ rw q

pub returns-then-e-s : goal.returns-then-e-s
unfolding all_read
returns-then-e-s c =
    malformed c.args.s.now c.loop-at.at c.loop-at.invariant.2
    (ap all_read (unfinished c.args.s.now c.loop-at.at c.line_end-e.result c.line_end-e.ensures.0 c.loop-at-test.true c.if-e-s.true))

pub returns-in_err-read_line : goal.returns-in_err-read_line
unfolding all_read
returns-in_err-read_line c =
    rw c.from_residual.ensures
    (malformed c.args.s.now c.loop-at.at c.loop-at.invariant.2
    (ap all_read
    (one c.args.s.now c.loop-at.at c.line_end-e.result None c.line_end-e.ensures.0 c.loop-at-test.true c.if-e-s.false c.line_end-e.ensures.1 c.in_err-read_line.ensures)))

pub loop-at-preserved : goal.loop-at-preserved
unfolding all_read
loop-at-preserved c =
    let s = c.args.s.now in
    let e = one s c.loop-at.at c.line_end-e.result (Some c.in_ok-read_line.field-0) c.line_end-e.ensures.0 c.loop-at-test.true c.if-e-s.false c.line_end-e.ensures.1 c.in_ok-read_line.ensures in (
      omega (arith, c.line_end-e.ensures.1, c.if-e-s.false),
      omega arith,
      sym (ap all_read e) ∙ c.loop-at.invariant.2,
      omega (arith, ap length e),
    )

pub returns : goal.returns
unfolding surveyed all_read
returns c =
    let e = no_line_lem c.args.s.now c.loop-at.at c.loop-at-test.false in
    rw (sym c.loop-at.invariant.2 ∙ ap all_read e) (ap Some (omega (arith, c.loop-at.invariant.3, ap length e)))
