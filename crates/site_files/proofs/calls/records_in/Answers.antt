-- The number of records, told.
use Rattle.std.proofs.Common.{ℕ, ap, ◌∙◌}
use Rattle.std.specs.Prelude.{Result}
use Rattle.refusals.specs.declared.Refusal.{Refusal}
use Rattle.refusals.specs.Order.{number_of}
use Rattle.site_files.specs.Given.{told, counted}
use Rattle.site_files.proofs.GivenLaws.{told_numbers}
use Rattle.site_files.proofs.calls.records_in.Goals as goal

pub returns : goal.returns
unfolding counted
returns c =
    c.tell.ensures
    ∙ told_numbers number_of c.record_count.result c.map_err.result c.args.count.now c.map_err.ensures.cases
    ∙ ap (λ (r : Result ℕ Refusal). told number_of r c.args.count.now) c.record_count.ensures
