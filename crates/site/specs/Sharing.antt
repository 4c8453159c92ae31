-- What is worked out once for a k1. Definitions only.
use Rattle.std.specs.Prelude.{ℕ, ◌+◌, true, false, ltb, pos, ◌-ℤ◌}
use Rattle.fixed.specs.Fixed.{ln_fixed, ln_quotient}
use Rattle.model.specs.declared.Scenario.{Scenario}
use Rattle.site.specs.declared.Soil.{Soil}
use Rattle.model.specs.Equations.{least}
use Rattle.model.specs.Fixed.{rock_pga_fixed, site_c_fixed, share_fixed, curve_fixed}

-- once for a k1
unfoldable pub soil_of : ℕ → Scenario → Soil
unfolding ln_quotient ln_fixed curve_fixed rock_pga_fixed
soil_of k1 x = elim (ltb x.vs30 k1) [
  | true ↦ record {
    ratio = ln_quotient x.vs30 k1;
    gain = ln_fixed (rock_pga_fixed x + curve_fixed x.vs30 k1) -ℤ ln_fixed (rock_pga_fixed x + site_c_fixed);
    swing = pos (share_fixed (rock_pga_fixed x) (curve_fixed x.vs30 k1)) -ℤ pos (share_fixed (rock_pga_fixed x) site_c_fixed);
  }
  | false ↦ record { ratio = ln_quotient (least x.vs30 1100) k1; gain = pos 0; swing = pos 0 }
]
