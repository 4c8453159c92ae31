-- What `answer_in` answers, told.
use Rattle.std.proofs.Common.{ℕ, ap, ◌∙◌}
use Rattle.std.specs.Prelude.{Result}
use Rattle.site_files.specs.Given.{told}
use Rattle.site_files.proofs.GivenLaws.{told_numbers}
use Rattle.kept.specs.declared.faults.Fault.{Fault}
use Rattle.kept.specs.Faults.{number_of}
use Rattle.record_answers.proofs.answer_record.Goals as goal

pub returns : goal.returns
returns c =
    record {
      answer =
          c.tell.ensures
          ∙ told_numbers number_of c.answer_in.result c.map_err.result c.args.wrote.now c.map_err.ensures.cases
          ∙ ap (λ (r : Result ℕ Fault). told number_of r c.args.wrote.now) c.answer_in.ensures.answer;
      became = c.answer_in.ensures.became;
    }
