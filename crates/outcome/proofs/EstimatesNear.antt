-- Each figure that was estimated lies within 2 m of the exact value at the figures completed before it, wherever what its rule reads lies
-- in range: also where the figure leads to a refusal. What a rule reads lies in range wherever no row before it holds. Assumes nothing.
use Prim.Native.Nat.{ℕ, ◌+◌, ◌-◌, ◌*◌, ◌≤◌}
use mathlib.Core.Path.{◌≡◌}
use lib.IntN.{pos}
use Rattle.exact.specs.Near.{NearZ}
use Rattle.exact.specs.Exact.{E30}
use Rattle.refusals.specs.Order.{Silent}
use Rattle.refusals.proofs.Rows.{silent-first}
use Rattle.request.specs.declared.Field.{Field}
use Rattle.request.specs.declared.Field.TheVariants.{Blank}
use Rattle.request.specs.declared.Request.{Request}
use Rattle.request.specs.Fields.{is_given, is_blank, size_of, value_of}
use Rattle.rules.specs.Rules.{width_e, top_e, basin_e}
use Rattle.rules.proofs.WidthNear.{width_fixed-near}
use Rattle.rules.proofs.TopNear.{top_fixed-near}
use Rattle.rules.proofs.BasinNear.{basin_fixed-near}
use Rattle.geometry.specs.Geometry.{rupture_distance_e, RuptureInRange}
use Rattle.geometry.proofs.Reported.{reported_near, reported_above, reported_below}
use Rattle.outcome.specs.Figures.{or_estimate, style, dip, width, zhyp_tenths, ztor, rrup, basin_of, z25}
use Rattle.outcome.specs.Refusals.{source_given, source_rows, path_given}
use Rattle.outcome.proofs.Ranges.{source_range, source_given_lem, top_range, path_range}

-- what a blank field is completed to
estimated-is : (f : Field) (e : ℕ) → f ≡ Blank → size_of (or_estimate f e) ≡ e
unfolding or_estimate is_blank size_of value_of
estimated-is f e h = rw h

module _ (r : Request) where
  -- ---- within 2 m
  -- W reads M
  pub width-near :
      r.w ≡ Blank → 400 ≤ size_of r.m → size_of r.m ≤ 850
      → NearZ E30 2 (pos (size_of (width r))) (pos (width_e (style r) (size_of r.m)))
  unfolding width
  width-near h low high = rw (estimated-is r.w _ h) (width_fixed-near (style r) (size_of r.m) low high).near

  -- ZTOR reads W and the dip; ZHYP may be any number
  pub ztor-near :
      r.ztor ≡ Blank → size_of (width r) ≤ 100000 → size_of (dip r) ≤ 90
      → NearZ E30 2 (pos (size_of (ztor r))) (pos (top_e (zhyp_tenths r) (size_of (width r)) (size_of (dip r))))
  unfolding ztor
  ztor-near h w d = rw (estimated-is r.ztor _ h) (top_fixed-near (zhyp_tenths r) (size_of (width r)) (size_of (dip r)) w d)

  pub rrup-near :
      r.rrup ≡ Blank → RuptureInRange (size_of (dip r)) (size_of (width r)) (size_of (ztor r)) (size_of r.rjb)
      → NearZ E30 2 (pos (size_of (rrup r)))
      (pos (rupture_distance_e (size_of (dip r)) (value_of r.azimuth) (size_of (width r)) (size_of (ztor r)) (size_of r.rjb)))
  unfolding rrup
  rrup-near h ranges =
      rw (estimated-is r.rrup _ h)
      (reported_near (size_of (dip r)) (value_of r.azimuth) (size_of (width r)) (size_of (ztor r)) (size_of r.rjb) ranges)

  -- Z2.5 reads Vs30 where no other depth is given
  pub z25-near :
      r.z25 ≡ Blank → r.z15 ≡ Blank → r.z10 ≡ Blank → 150 ≤ size_of r.vs30 → size_of r.vs30 ≤ 1500
      → NearZ E30 2 (pos (size_of (z25 r))) (pos (basin_e (size_of r.vs30)))
  unfolding z25 basin_of is_given
  z25-near h k l low high = rw (estimated-is r.z25 _ h, k, l) (basin_fixed-near (size_of r.vs30) low high).near

  -- ---- never below the root of RJB² + ZTOR², whatever they are
  pub rrup-above :
      r.rrup ≡ Blank → size_of r.rjb * size_of r.rjb + size_of (ztor r) * size_of (ztor r) ≤ size_of (rrup r) * size_of (rrup r)
  unfolding rrup
  rrup-above h =
      rw (estimated-is r.rrup _ h)
      (reported_above (size_of (dip r)) (value_of r.azimuth) (size_of (width r)) (size_of (ztor r)) (size_of r.rjb))

  -- ---- and a metre less never above that of RJB² + (ZTOR + W)²
  pub rrup-below :
      r.rrup ≡ Blank
      → (size_of (rrup r) - 1) * (size_of (rrup r) - 1)
      ≤ size_of r.rjb * size_of r.rjb + (size_of (ztor r) + size_of (width r)) * (size_of (ztor r) + size_of (width r))
  unfolding rrup
  rrup-below h =
      rw (estimated-is r.rrup _ h)
      (reported_below (size_of (dip r)) (value_of r.azimuth) (size_of (width r)) (size_of (ztor r)) (size_of r.rjb))

  -- ---- what a rule reads, where no row before it holds
  -- before the row of a completed ZTOR
  pub top_reads : Silent (source_given r) → (size_of (width r) ≤ 100000) × (size_of (dip r) ≤ 90)
  top_reads s = let n = source_range r (silent-first (source_given r) s) in (n.w_high, n.dip-high)

  -- before the row of a completed RRUP
  pub distance_reads :
      Silent (source_rows r) → Silent (path_given r) → RuptureInRange (size_of (dip r)) (size_of (width r)) (size_of (ztor r)) (size_of r.rjb)
  distance_reads s t =
      let e = silent-first (source_rows r) s in
      let n = source_range r (source_given_lem r e) in
      record {
        dip-low = n.dip-low;
        dip-high = n.dip-high;
        w_low = n.w_low;
        w_high = n.w_high;
        ztor-high = top_range r e;
        rjb-high = (path_range r (silent-first (path_given r) t)).rjb-high;
      }
