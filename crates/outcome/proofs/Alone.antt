-- An estimate depends on nothing but the figures named in its rule: two requests that agree on them, and leave the field blank, have
-- the same estimate. Assumes nothing.
use Prim.Native.Nat.{ℕ}
use mathlib.Core.Path.{◌≡◌}
use mathlib.Core.Bool.{true}
use Rattle.request.specs.declared.Field.TheVariants.{Blank}
use Rattle.request.specs.declared.Request.{Request}
use Rattle.request.specs.Fields.{is_given, size_of, value_of}
use Rattle.geometry.specs.Fixed.{rupture_distance}
use Rattle.outcome.specs.Figures.{or_estimate, style, dip, width, zhyp, zhyp_tenths, ztor, rrup, basin_of, z25}

module _ (r s : Request) where
  pub dip_alone : r.dip ≡ Blank → s.dip ≡ Blank → r.rake ≡ s.rake → dip r ≡ dip s
  unfolding dip style
  dip_alone a b h = rw (a, b, h)

  pub width_alone : r.w ≡ Blank → s.w ≡ Blank → r.m ≡ s.m → r.rake ≡ s.rake → width r ≡ width s
  unfolding width style
  width_alone a b h k = rw (a, b, h, k)

  pub zhyp_alone : r.zhyp ≡ Blank → s.zhyp ≡ Blank → r.m ≡ s.m → r.rake ≡ s.rake → (zhyp r ≡ zhyp s) × (zhyp_tenths r ≡ zhyp_tenths s)
  unfolding zhyp zhyp_tenths style
  zhyp_alone a b h k = (rw (a, b, h, k), rw (a, b, h, k))

  pub ztor_alone :
      r.ztor ≡ Blank → s.ztor ≡ Blank → zhyp_tenths r ≡ zhyp_tenths s → size_of (width r) ≡ size_of (width s) → size_of (dip r) ≡ size_of (dip s) → ztor r ≡ ztor s
  unfolding ztor
  ztor_alone a b h k l = rw (a, b, h, k, l)

  pub rrup_alone :
      r.rrup ≡ Blank → s.rrup ≡ Blank → size_of (dip r) ≡ size_of (dip s) → r.azimuth ≡ s.azimuth → size_of (width r) ≡ size_of (width s)
      → size_of (ztor r) ≡ size_of (ztor s) → r.rjb ≡ s.rjb → rrup r ≡ rrup s
  unfolding rrup
  rrup_alone a b h k l m n =
      rw (a, b, k, n)
      (same (size_of (dip r)) (size_of (dip s)) (size_of (width r)) (size_of (width s)) (size_of (ztor r)) (size_of (ztor s)) h l m)
    where
      same :
          (d d' w w' z z' : ℕ) → d ≡ d' → w ≡ w' → z ≡ z'
          → or_estimate Blank (rupture_distance d (value_of s.azimuth) w z (size_of s.rjb))
          ≡ or_estimate Blank (rupture_distance d' (value_of s.azimuth) w' z' (size_of s.rjb))
      same d d' w w' z z' h l m = rw (h, l, m)

  -- ---- Z2.5, by the one of its three rules that the request asks for
  pub z25_from_z15_alone : r.z25 ≡ Blank → s.z25 ≡ Blank → is_given r.z15 ≡ true → r.z15 ≡ s.z15 → z25 r ≡ z25 s
  unfolding z25 basin_of
  z25_from_z15_alone a b h k = rw (a, b, ← k, h)

  pub z25_from_z10_alone :
      r.z25 ≡ Blank → s.z25 ≡ Blank → r.z15 ≡ Blank → s.z15 ≡ Blank → is_given r.z10 ≡ true → r.z10 ≡ s.z10 → z25 r ≡ z25 s
  unfolding z25 basin_of is_given
  z25_from_z10_alone a b h k l m = rw (a, b, h, k, ← m, l)

  pub z25_from_vs30_alone :
      r.z25 ≡ Blank → s.z25 ≡ Blank → r.z15 ≡ Blank → s.z15 ≡ Blank → r.z10 ≡ Blank → s.z10 ≡ Blank → r.vs30 ≡ s.vs30
      → z25 r ≡ z25 s
  unfolding z25 basin_of is_given
  z25_from_vs30_alone a b h k l m n = rw (a, b, h, k, l, m, n)
