-- Too few bytes and a number that is no sheet's are misuse; else the record is read, and its request answered.
use Rattle.std.proofs.Common.{◌≡◌, sym, ◌∙◌}
use Rattle.std.specs.Prelude.{Ok, Err}
use Rattle.std.proofs.lemmas.Result.{err_from_is_err_and}
use Rattle.refusals.specs.declared.Refusal.TheVariants as No
use Rattle.site_files.proofs.GivenLaws.{given-error, given_refusal, given_count}
use Rattle.kept.specs.declared.faults.Fault.TheVariants.{Misuse}
use Rattle.kept.specs.Calls.{numbered}
use Rattle.record_answers.proofs.ReplyLaws.{reply_short, reply_none, reply_request, reply_malformed}
use Rattle.record_answers.proofs.answer_in.Goals as goal

pub returns-then-bytes-lt-RECORD : goal.returns-then-bytes-lt-RECORD
returns-then-bytes-lt-RECORD c = given-error c.args.out.now (reply_short c.args.bytes.now (numbered c.args.sheet) c.if-bytes-lt-RECORD.true)

pub returns-in_err-sheet : goal.returns-in_err-sheet
returns-in_err-sheet c =
    let p = err_from_is_err_and c.from_residual.result c.from_residual.ensures.1 in
    let none = c.in_err-sheet.ensures.ok_part in
    let e : Err c.in_err-sheet.field-0.0 ≡ Err Misuse = c.in_err-sheet.ensures.value ∙ rw none in
    let is : c.in_err-sheet.field-0.0 ≡ Misuse = cc in
    rw (p.1, p.2, is) (given-error c.args.out.now (reply_none c.args.bytes.now (sym c.sheet_numbered.ensures ∙ none)))

pub returns-in_err-request : goal.returns-in_err-request
returns-in_err-request c =
    let p = err_from_is_err_and c.from_residual-in_err-request.result c.from_residual-in_err-request.ensures.1 in
    let none = c.in_err-request.ensures.ok_part in
    let e : Err c.in_err-request.field-0.0 ≡ Err No.FileField = c.in_err-request.ensures.value ∙ rw none in
    let is : c.in_err-request.field-0.0 ≡ No.FileField = cc in
    rw (p.1, p.2, is)
    (given-error c.args.out.now
    (reply_malformed c.args.bytes.now c.if-bytes-lt-RECORD.false (sym c.sheet_numbered.ensures ∙ c.in_ok-sheet.ensures.ok_part) (sym c.record_in.ensures ∙ none)))

pub returns-in_err-answer_request : goal.returns-in_err-answer_request
returns-in_err-answer_request c =
    let p = err_from_is_err_and c.from_residual-in_err-answer_request.result c.from_residual-in_err-answer_request.ensures.1 in
    rw (p.1, p.2)
    (given_refusal
    (reply_request c.args.bytes.now c.if-bytes-lt-RECORD.false (sym c.sheet_numbered.ensures ∙ c.in_ok-sheet.ensures.ok_part)
    (sym c.record_in.ensures ∙ c.in_ok-request.ensures.ok_part))
    c.in_err-answer_request.ensures)

pub returns : goal.returns
returns c =
    given_count
    (reply_request c.args.bytes.now c.if-bytes-lt-RECORD.false (sym c.sheet_numbered.ensures ∙ c.in_ok-sheet.ensures.ok_part)
    (sym c.record_in.ensures ∙ c.in_ok-request.ensures.ok_part))
    c.in_ok-answer_request.ensures
