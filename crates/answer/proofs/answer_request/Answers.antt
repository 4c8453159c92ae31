-- By the sheet. Assumes nothing.
use Rattle.answer.specs.Sheets.{sheet_of}
use Rattle.answer.proofs.answer_request.Goals as goal

pub returns-in-Completion : goal.returns-in-Completion
unfolding sheet_of
returns-in-Completion c = rw (c.in-Completion.is, ← c.complete.ensures) c.write_completion.ensures

pub returns-in-Prediction : goal.returns-in-Prediction
unfolding sheet_of
returns-in-Prediction c = rw (c.in-Prediction.is, ← c.predict_shown.ensures) c.write_spectrum.ensures

pub returns-in-Period : goal.returns-in-Period
unfolding sheet_of
returns-in-Period c = rw (c.in-Period.is, ← c.predict_period.ensures) c.write_period.ensures
