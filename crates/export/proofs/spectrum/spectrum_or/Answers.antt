-- What is malformed is refused, then what the request is refused for, then too little room; else the rows are laid. Assumes nothing.
use Rattle.std.proofs.Common.{◌≡◌, ◌∙◌, Result, Ok, Err, sym, ap, arith}
use Rattle.std.proofs.lemmas.Result.{err_from_is_err_and}
use Rattle.kept.specs.declared.faults.Fault.TheVariants.{Refused}
use Rattle.kept.specs.Faults.{or_fault}
use Rattle.lent.proofs.WroteLaws.{refuses, writes}
use Rattle.export.specs.Given.{numbers_of}
use Rattle.export.proofs.SpectrumLaws.{of_malformed, of_request, spectrum_refused, spectrum_wrote, answer_numbers}
use Rattle.export.proofs.spectrum.spectrum_or.Goals as goal

pub returns-in_err-request : goal.returns-in_err-request
returns-in_err-request c =
    let p = err_from_is_err_and c.from_residual.result c.from_residual.ensures.1 in
    let none = c.in_err-request.ensures.ok_part in
    let value = rw none at c.in_err-request.ensures.value in
    let is : c.in_err-request.field-0.0 ≡ c.args.malformed = cc in
    rw (p.1, p.2, is) (spectrum_refused c.args.rows.now (Refused c.args.malformed) (of_malformed c.args.malformed none))

pub returns-in_err-made : goal.returns-in_err-made
returns-in_err-made c =
    let p = err_from_is_err_and c.from_residual-in_err-made.result c.from_residual-in_err-made.ensures.1 in
    rw (p.1, p.2)
    (spectrum_refused c.args.rows.now (Refused c.in_err-made.field-0.0)
    (of_request c.args.malformed c.in_ok-request.ensures.ok_part ∙ sym (ap or_fault c.in_err-made.ensures)))

pub returns-then-rows-lt-NUMBERS : goal.returns-then-rows-lt-NUMBERS
returns-then-rows-lt-NUMBERS c =
    spectrum_wrote c.args.rows.now (of_request c.args.malformed c.in_ok-request.ensures.ok_part ∙ sym (ap or_fault c.in_ok-made.ensures))
    (refuses c.args.rows.now (numbers_of c.in_ok-made.made)
    (omega (arith, answer_numbers c.in_ok-request.request c.in_ok-made.made (sym c.in_ok-made.ensures), c.if-rows-lt-NUMBERS.true)))

pub put_rows-requires : goal.put_rows-requires
put_rows-requires c =
    omega (arith, answer_numbers c.in_ok-request.request c.in_ok-made.made (sym c.in_ok-made.ensures), c.if-rows-lt-NUMBERS.false)

pub returns : goal.returns
returns c =
    spectrum_wrote c.args.rows.now (of_request c.args.malformed c.in_ok-request.ensures.ok_part ∙ sym (ap or_fault c.in_ok-made.ensures))
    (writes
    (omega (arith, answer_numbers c.in_ok-request.request c.in_ok-made.made (sym c.in_ok-made.ensures), c.if-rows-lt-NUMBERS.false))
    c.put_rows.ensures)
