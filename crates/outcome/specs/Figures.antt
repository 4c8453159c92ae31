-- The completed figures of a request: each is the field as it stands, or the estimate by its one rule where the field is blank. Whether
-- they are reported is decided by the tests of `Refusals`. W, ZTOR, RRUP and the Z2.5 from Vs30 are estimated as they are reckoned, which
-- `EstimatesNear` holds to within 2 m of the rules' exact values. Definitions only.
use Rattle.std.specs.Prelude.{ℕ, ◌*◌, ◌/◌, cond, pos}
use Rattle.request.specs.declared.Field.{Field}
use Rattle.request.specs.declared.Field.TheVariants.{Estimated}
use Rattle.request.specs.declared.Style.{Style}
use Rattle.request.specs.declared.Request.{Request}
use Rattle.request.specs.Fields.{is_given, is_blank, size_of, value_of}
use Rattle.request.specs.Styles.{style_of}
use Rattle.rules.specs.Rules.{dip_of, hypocentre, basin_from_z15, basin_from_z10}
use Rattle.rules.specs.Fixed.{width_fixed, top_fixed, basin_fixed}
use Rattle.geometry.specs.Fixed.{rupture_distance}

-- a figure that we estimate, marked as such
abbrev pub estimated : ℕ → Field
estimated e = Estimated (pos e)

-- a field as it stands, or the estimate where it is blank
unfoldable pub or_estimate : Field → ℕ → Field
unfolding is_blank
or_estimate f e = cond (is_blank f) (estimated e) f

-- ---- the source
unfoldable pub style : Request → Style
unfolding style_of value_of
style r = style_of (value_of r.rake)

-- depends on rake only
unfoldable pub dip : Request → Field
unfolding or_estimate dip_of style
dip r = or_estimate r.dip (dip_of (style r))

-- on M and rake only
unfoldable pub width : Request → Field
unfolding or_estimate width_fixed style size_of
width r = or_estimate r.w (width_fixed (style r) (size_of r.m))

-- on M and rake only: in whole metres, the tenth cut off
unfoldable pub zhyp : Request → Field
unfolding or_estimate hypocentre style size_of
zhyp r = or_estimate r.zhyp (hypocentre (style r) (size_of r.m) / 10)

-- the same to the tenth of a metre, as ZTOR reads it
unfoldable pub tenths_of : Field → Style → ℕ → ℕ
unfolding is_blank hypocentre size_of
tenths_of f s m = cond (is_blank f) (hypocentre s m) (10 * size_of f)

unfoldable pub zhyp_tenths : Request → ℕ
unfolding tenths_of style size_of
zhyp_tenths r = tenths_of r.zhyp (style r) (size_of r.m)

-- on ZHYP, W and dip
unfoldable pub ztor : Request → Field
unfolding or_estimate top_fixed zhyp_tenths width dip
ztor r = or_estimate r.ztor (top_fixed (zhyp_tenths r) (size_of (width r)) (size_of (dip r)))

-- ---- the path
-- on dip, azimuth, W, ZTOR and RJB
unfoldable pub rrup : Request → Field
unfolding or_estimate rupture_distance dip width ztor value_of size_of
rrup r =
    or_estimate r.rrup (rupture_distance (size_of (dip r)) (value_of r.azimuth) (size_of (width r)) (size_of (ztor r)) (size_of r.rjb))

-- ---- the site
-- on Z1.5 if that is given, else on Z1.0 if that is, else on Vs30
unfoldable pub basin_of : Field → Field → ℕ → ℕ
unfolding is_given size_of basin_fixed
basin_of z15 z10 vs30 =
    cond (is_given z15) (basin_from_z15 (size_of z15))
    (cond (is_given z10) (basin_from_z10 (size_of z10))
    (basin_fixed vs30))

unfoldable pub z25 : Request → Field
unfolding or_estimate basin_of size_of
z25 r = or_estimate r.z25 (basin_of r.z15 r.z10 (size_of r.vs30))
