-- A completion in three stages, source, path and site, as the functions take them one after the other once no figure is marked as ours: each answers its figures, or the
-- refusal of the first row of its part of `Refusals` that holds. Definitions only.
use Rattle.std.specs.Prelude.{Result}
use Rattle.refusals.specs.declared.Refusal.{Refusal}
use Rattle.refusals.specs.Order.{first, unless}
use Rattle.request.specs.declared.Field.{Field}
use Rattle.request.specs.declared.Request.{Request}
use Rattle.outcome.specs.declared.Source.{Source}
use Rattle.outcome.specs.Figures.{dip, width, zhyp, ztor, rrup, z25}
use Rattle.outcome.specs.Refusals.{path_rows, site_rows}

-- ---- the source
unfoldable pub source_figures : Request → Source
unfolding dip width zhyp ztor
source_figures r = record { dip = dip r; w = width r; zhyp = zhyp r; ztor = ztor r }

-- ---- the path and the site, one figure each
unfoldable pub path_answer_of : Request → Result Field Refusal
unfolding first path_rows rrup
path_answer_of r = unless (first (path_rows r)) (rrup r)

unfoldable pub site_answer_of : Request → Result Field Refusal
unfolding first site_rows z25
site_answer_of r = unless (first (site_rows r)) (z25 r)
