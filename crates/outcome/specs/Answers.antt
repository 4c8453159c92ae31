-- The answer to a request, stage by stage and whole: the completed figures where no row of `Refusals` holds, else the refusal of the
-- first that does. Definitions only.
use Rattle.std.specs.Prelude.{Result, Ok, Err}
use Rattle.request.specs.declared.Field.TheVariants.{Blank}
use Rattle.request.specs.declared.Request.{Request}
use Rattle.refusals.specs.declared.Refusal.{Refusal}
use Rattle.refusals.specs.Order.{unless}
use Rattle.outcome.specs.Figures.{dip, width, zhyp, ztor, rrup, z25}
use Rattle.outcome.specs.Refusals.{refusal}

-- what was blank and has a rule is estimated; a blank Z1.0 or Z1.5 stays blank
unfoldable pub completed : Request → Request
unfolding dip width zhyp ztor rrup z25
completed r =
    record {
      m = r.m;
      rake = r.rake;
      vs30 = r.vs30;
      dip = dip r;
      w = width r;
      zhyp = zhyp r;
      ztor = ztor r;
      rjb = r.rjb;
      azimuth = r.azimuth;
      rrup = rrup r;
      z10 = r.z10;
      z15 = r.z15;
      z25 = z25 r;
    }

unfoldable pub completion_of : Request → Result Request Refusal
unfolding completed refusal
completion_of r = unless (refusal r) (completed r)

-- ---- what an answer says in document 01's terms: its figures, none beside a refusal
unfoldable pub figures_of : Result Request Refusal → Request
figures_of (Ok c) = c
figures_of (Err n) =
    record {
      m = Blank;
      rake = Blank;
      vs30 = Blank;
      dip = Blank;
      w = Blank;
      zhyp = Blank;
      ztor = Blank;
      rjb = Blank;
      azimuth = Blank;
      rrup = Blank;
      z10 = Blank;
      z15 = Blank;
      z25 = Blank;
    }
