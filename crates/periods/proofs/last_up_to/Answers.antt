-- The first longer period is looked for among those behind the first. Assumes nothing.
use Rattle.std.proofs.Common.{◌∙◌, refl, rules}
use Rattle.std.proofs.lemmas.Iterator.{YieldsList-from_range}
use Rattle.std.proofs.lemmas.Iterator.Search.{position_from_yields_List}
use Rattle.periods.proofs.Reaching.{longer, first-longer}
use Rattle.periods.proofs.last_up_to.Goals as goal

pub returns : goal.returns
returns c =
    c.unwrap_or.ensures
    ∙ first-longer c.args.t c.position.result c.requires
    (position_from_yields_List (longer c.args.t) _ _ c.position.result c.position.ensures.ran (YieldsList-from_range 1 21 20 refl refl)
    (λ x b q k. search rules))
