-- Where the figures of a request came from, changed or forgotten. Definitions only.
use Rattle.request.specs.declared.Field.{Field}
use Rattle.request.specs.declared.Field.TheVariants.{Measured, Inferred, Estimated, Blank}
use Rattle.request.specs.declared.Request.{Request}

-- the same to each of the thirteen fields
unfoldable pub each : (Field → Field) → Request → Request
each f r =
    record {
      m = f r.m;
      rake = f r.rake;
      vs30 = f r.vs30;
      dip = f r.dip;
      w = f r.w;
      zhyp = f r.zhyp;
      ztor = f r.ztor;
      rjb = f r.rjb;
      azimuth = f r.azimuth;
      rrup = f r.rrup;
      z10 = f r.z10;
      z15 = f r.z15;
      z25 = f r.z25;
    }

-- what the caller inferred, as if it were measured
unfoldable pub as_measured : Field → Field
as_measured (Measured v) = Measured v
as_measured (Inferred v) = Measured v
as_measured (Estimated v) = Estimated v
as_measured Blank = Blank

-- which of the given figures were measured and which inferred, forgotten: two requests that differ only in that are the same here
unfoldable pub forget : Request → Request
unfolding each as_measured
forget r = each as_measured r

-- what we estimated, as if the caller had inferred it
unfoldable pub as_inferred : Field → Field
as_inferred (Measured v) = Measured v
as_inferred (Inferred v) = Inferred v
as_inferred (Estimated v) = Inferred v
as_inferred Blank = Blank
