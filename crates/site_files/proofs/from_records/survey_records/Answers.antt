-- Record by record.
use Rattle.std.proofs.Common.{◌≡◌, ◌+◌, false, List, ◌∷◌, length, sym, ap, ◌∙◌, arith}
use Rattle.std.specs.Prelude.{Option, Some, None}
use Rattle.request.specs.declared.Request.{Request}
use Rattle.request_lines.specs.RequestText.{list_text}
use Rattle.list_lines.specs.ListLines.{all_read, requests_in, surveyed}
use Rattle.site_files.proofs.RecordSteps.{left, text_of, none_passed, all_passed, one-long, one_passed, length_more}
use Rattle.site_files.proofs.from_records.survey_records.Goals as goal

pub loop-k-init : goal.loop-k-init
loop-k-init c =
    let e = none_passed c.args.s.now c.args.count in
    (omega arith, ap all_read e, omega (arith, ap (λ (ls : List (Option Request)). length (text_of ls)) e))

pub record_in-requires : goal.record_in-requires
record_in-requires c = one-long c.args.s.now c.args.count c.loop-k.k c.loop-k-test.true c.requires.1

pub returns-in_err-r : goal.returns-in_err-r
unfolding surveyed all_read
returns-in_err-r c =
    let e : all_read (left c.args.count c.args.s.now c.loop-k.k) ≡ false =
    rw (one_passed c.args.s.now c.args.count c.loop-k.k c.loop-k-test.true None c.in_err-r.ensures) in
    rw (c.from_residual.ensures, sym c.loop-k.invariant.1 ∙ e)

pub loop-k-preserved : goal.loop-k-preserved
unfolding all_read
loop-k-preserved c =
    let rest = left c.args.count c.args.s.now (c.loop-k.k + 1) in
    let e : left c.args.count c.args.s.now c.loop-k.k ≡ Some c.in_ok-r.r ∷ rest =
    one_passed c.args.s.now c.args.count c.loop-k.k c.loop-k-test.true (Some c.in_ok-r.r) c.in_ok-r.ensures in (
      omega (arith, c.line_length-size.ensures.1),
      sym (ap all_read e) ∙ c.loop-k.invariant.1,
      omega (arith, c.line_length-size.ensures.0, c.loop-k.invariant.2, ap (λ (ls : List (Option Request)). length (text_of ls)) e, length_more c.in_ok-r.r rest),
    )

pub returns : goal.returns
unfolding surveyed all_read requests_in list_text
returns c =
    let e = all_passed c.args.s.now c.args.count c.loop-k.k c.loop-k-test.false in
    rw (sym c.loop-k.invariant.1 ∙ ap all_read e) (ap Some (omega (arith, c.loop-k.invariant.2, ap (λ (ls : List (Option Request)). length (text_of ls)) e)))
