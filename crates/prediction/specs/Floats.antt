-- Rows as f64 for the drawing program, each field the whole number itself. Definitions only.
use Rattle.std.specs.Prelude.{suc, true, false, List, ℤ, pos, negsuc, Float, Result}
use Rattle.std.specs.Float.{nan, binary64}
use Rattle.std.specs.Float.Ieee.{of_int}
use Rattle.std.specs.Float.Ieee.Exact.{HasValue}
use Rattle.refusals.specs.declared.Refusal.{Refusal}
use Rattle.request.specs.declared.Request.{Request}
use Rattle.model.specs.declared.Row.{Row}
use Rattle.prediction.specs.declared.floats.FloatRow.{FloatRow}
use Rattle.prediction.specs.Spectra.{spectrum_as, figures_as}

-- the float is finite, and is the whole number: nothing is lost
abbrev pub Is : Float → ℤ → Type 0
Is x (pos n) = HasValue x false n 1
Is x (negsuc n) = HasValue x true (suc n) 1

-- each field of the one row is that field of the other
pub record Same (f : FloatRow) (r : Row) : Type 0 where
  pub ln : Is f.ln r.ln
  pub median : Is f.median (pos r.median)
  pub intra : Is f.intra (pos r.intra)
  pub inter : Is f.inter (pos r.inter)
  pub total : Is f.total (pos r.total)
  pub arbitrary : Is f.arbitrary (pos r.arbitrary)

-- a whole number as the nearest f64
abbrev pub float : ℤ → Float
float z = of_int binary64 z

unfoldable pub floats_of : Row → FloatRow
floats_of r =
    record {
      ln = float r.ln;
      median = float (pos r.median);
      intra = float (pos r.intra);
      inter = float (pos r.inter);
      total = float (pos r.total);
      arbitrary = float (pos r.arbitrary);
    }

-- what `get_or` gives past the end
abbrev pub no_floats : FloatRow
no_floats = record { ln = nan; median = nan; intra = nan; inter = nan; total = nan; arbitrary = nan }

unfoldable pub float_spectrum_of : Request → Result (List FloatRow) Refusal
unfolding spectrum_as floats_of
float_spectrum_of r = spectrum_as floats_of r

-- in document 01's terms: 24 rows, of zeros beside a refusal
abbrev pub float_figures_in : Result (List FloatRow) Refusal → List FloatRow
float_figures_in s = figures_as floats_of s
