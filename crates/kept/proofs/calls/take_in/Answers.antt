-- A call that is wrong in itself or refused leaves all as it was; else the bytes of the reader after the part stand first. Assumes nothing.
use Rattle.std.proofs.Common.{◌≡◌, ◌∙◌, sym}
use Rattle.std.proofs.lemmas.Result.{err_from_is_err_and}
use Rattle.kept.specs.declared.faults.Fault.TheVariants.{Misuse}
use Rattle.kept.specs.Calls.{loan, numbered}
use Rattle.kept.proofs.TellLaws.{part_short, part_none, part_refused, part_taken}
use Rattle.kept.proofs.calls.take_in.Goals as goal

pub returns-in_err-check_size : goal.returns-in_err-check_size
returns-in_err-check_size c =
    let p = err_from_is_err_and c.from_residual.result c.from_residual.ensures.1 in
    let short = c.in_err-check_size.ensures in
    rw (p.1, p.2, short.0)
    (part_short (numbered c.args.sheet) c.args.part.now (loan c.args.reader.now c.args.out.now c.args.took.now c.args.wrote.now) short.1)

pub returns-in_err-sheet : goal.returns-in_err-sheet
returns-in_err-sheet c =
    let p = err_from_is_err_and c.from_residual-in_err-sheet.result c.from_residual-in_err-sheet.ensures.1 in
    let none = c.in_err-sheet.ensures.ok_part in
    let value = rw none at c.in_err-sheet.ensures.value in
    let misuse : c.in_err-sheet.field-0.0 ≡ Misuse = cc in
    rw (p.1, p.2, misuse)
    (part_none c.args.part.now (loan c.args.reader.now c.args.out.now c.args.took.now c.args.wrote.now) (sym c.sheet_numbered.ensures ∙ none))

pub returns-in_err-taken : goal.returns-in_err-taken
returns-in_err-taken c =
    let p = err_from_is_err_and c.from_residual-in_err-taken.result c.from_residual-in_err-taken.ensures.1 in
    rw (p.1, p.2)
    (part_refused (loan c.args.reader.now c.args.out.now c.args.took.now c.args.wrote.now)
    (sym c.sheet_numbered.ensures ∙ c.in_ok-sheet.ensures.ok_part) c.in_ok-check_size.ensures c.reader_in-now.ensures c.take_part.ensures
    c.in_err-taken.field-0.0 c.in_err-taken.was)

pub returns : goal.returns
returns c =
    part_taken (loan c.args.reader.now c.args.out.now c.args.took.now c.args.wrote.now)
    (sym c.sheet_numbered.ensures ∙ c.in_ok-sheet.ensures.ok_part) c.in_ok-check_size.ensures c.reader_in-now.ensures c.take_part.ensures
    c.in_ok-taken.taken c.in_ok-taken.was c.put_reader.ensures
