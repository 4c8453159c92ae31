-- What `unpack` answers, told.
use Rattle.std.proofs.Common.{ℕ, ap, ◌∙◌}
use Rattle.std.specs.Prelude.{Result}
use Rattle.refusals.specs.declared.Refusal.{Refusal}
use Rattle.refusals.specs.Order.{number_of}
use Rattle.site_files.specs.Given.{told}
use Rattle.site_files.proofs.GivenLaws.{told_numbers}
use Rattle.site_files.proofs.calls.unpack_in.Goals as goal

pub returns : goal.returns
returns c =
    record {
      answer =
          c.tell.ensures
          ∙ told_numbers number_of c.unpack.result c.map_err.result c.args.wrote.now c.map_err.ensures.cases
          ∙ ap (λ (r : Result ℕ Refusal). told number_of r c.args.wrote.now) c.unpack.ensures.answer;
      became = c.unpack.ensures.became;
    }
