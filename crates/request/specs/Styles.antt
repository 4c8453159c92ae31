-- The style of faulting by rake, and the magnitudes it allows. Definitions only.
use Rattle.std.specs.Prelude.{cond, ◌&&◌, ℤ, pos, negsuc}
use Rattle.std.specs.Int.Signed.{lt_z}
use Rattle.request.specs.declared.Style.{Style}
use Rattle.request.specs.declared.Style.TheVariants.{StrikeSlip, Reverse, Normal}

-- Reverse: 30 < rake < 150. Normal: -150 < rake < -30. Otherwise strike-slip (003, the flags F_RV and F_NM of equation 4)
unfoldable pub style_of : ℤ → Style
style_of rake =
    cond (lt_z (pos 30) rake && lt_z rake (pos 150)) Reverse
    (cond (lt_z (negsuc 149) rake && lt_z rake (negsuc 29)) Normal StrikeSlip)

-- the largest magnitude, in hundredths
unfoldable pub top_magnitude : Style → ℤ
top_magnitude StrikeSlip = pos 850
top_magnitude Reverse = pos 800
top_magnitude Normal = pos 750
