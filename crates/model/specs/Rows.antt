-- What a sheet shows of a reported row, and the zeros beside a refusal. Definitions only.
use Rattle.std.specs.Prelude.{pos}
use Rattle.model.specs.declared.Row.{Row}
use Rattle.model.specs.declared.Shown.{Shown}

-- of the four sigmas one, the total one
unfoldable pub shown_of : Row → Shown
shown_of r = record { ln = r.ln; median = r.median; sigma = r.total }

-- ---- zeros
abbrev pub no_row : Row
no_row = record { ln = pos 0; median = 0; intra = 0; inter = 0; total = 0; arbitrary = 0 }

abbrev pub no_shown : Shown
no_shown = record { ln = pos 0; median = 0; sigma = 0 }
