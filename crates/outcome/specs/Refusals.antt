-- The table of a request's refusals, in the order tested: a row is a refusal and whether its condition holds. A refusal stands
-- in several rows where it reads several figures, or a given one and a completed one. Definitions only.
use Rattle.std.specs.Prelude.{ℕ, Option, ◌+◌, ◌-◌, ◌*◌, Bool, not, ◌&&◌, [], ◌∷◌, ◌++◌, leb, ltb, pos, negsuc}
use Rattle.refusals.specs.Order.{Rows, first}
use Rattle.refusals.specs.declared.Refusal.{Refusal}
use Rattle.refusals.specs.declared.Refusal.TheVariants as No
use Rattle.request.specs.declared.Request.{Request}
use Rattle.request.specs.Fields.{is_given, is_blank, size_of, within, allowed, marked}
use Rattle.request.specs.Styles.{top_magnitude}
use Rattle.outcome.specs.Figures.{style, dip, width, ztor, rrup, z25}

-- ---- what comes before all else
-- a figure is already marked as estimated by us
unfoldable pub marked_rows : Request → Rows
unfolding marked
marked_rows r = (No.Marked, marked r) ∷ []

-- ---- the source: the rows that read given figures, then those that read completed ones
unfoldable pub source_given : Request → Rows
unfolding within allowed top_magnitude style
source_given r =
    (No.Rake, not (within r.rake (negsuc 179) (pos 180)))
    ∷ (No.Magnitude, not (within r.m (pos 400) (top_magnitude (style r))))
    ∷ (No.Vs30, not (within r.vs30 (pos 150) (pos 1500)))
    ∷ (No.Dip, not (allowed r.dip (pos 15) (pos 90)))
    ∷ (No.Width, not (allowed r.w (pos 1) (pos 100000)))
    ∷ (No.Hypocentre, not (allowed r.zhyp (pos 0) (pos 30000)))
    ∷ (No.Top, not (allowed r.ztor (pos 0) (pos 15000)))
    ∷ []

abbrev pub source_completed : Request → Rows
source_completed r = (No.Top, ltb 15000 (size_of (ztor r))) ∷ []

unfoldable pub source_rows : Request → Rows
unfolding source_given ztor size_of
source_rows r = source_given r ++ source_completed r

-- ---- the path
-- the site is above the rupture, where no distance follows from RJB
unfoldable pub above_rupture : Request → Bool
unfolding is_blank within dip size_of
above_rupture r =
    is_blank r.rrup && (ltb (size_of (dip r)) 90 && (within r.rjb (pos 0) (pos 0) && within r.azimuth (pos 90) (pos 90)))

unfoldable pub path_given : Request → Rows
unfolding within allowed above_rupture
path_given r =
    (No.Rjb, not (within r.rjb (pos 0) (pos 200000)))
    ∷ (No.Azimuth, not (within r.azimuth (negsuc 179) (pos 180)))
    ∷ (No.Above, above_rupture r)
    ∷ (No.Rrup, not (allowed r.rrup (pos 0) (pos 200000)))
    ∷ []

-- a given RRUP is shorter than any way from the site to the top of the rupture
unfoldable pub too_short : Request → Bool
unfolding is_given size_of ztor
too_short r =
    let d : ℕ = size_of r.rrup + 1 in
    is_given r.rrup && ltb (d * d) (size_of r.rjb * size_of r.rjb + size_of (ztor r) * size_of (ztor r))

-- a given RRUP, at least 1, is longer than any way from the site to the rupture, whose nearest point is no deeper than ZTOR + W
unfoldable pub too_far : Request → Bool
unfolding is_given size_of ztor width
too_far r =
    let d : ℕ = size_of r.rrup - 1 in
    let deepest : ℕ = size_of (ztor r) + size_of (width r) in
    is_given r.rrup
    && (leb 1 (size_of r.rrup) && ltb (size_of r.rjb * size_of r.rjb + deepest * deepest) (d * d))

abbrev pub path_completed : Request → Rows
path_completed r = (No.Rrup, ltb 200000 (size_of (rrup r))) ∷ (No.TooShort, too_short r) ∷ (No.TooFar, too_far r) ∷ []

unfoldable pub path_rows : Request → Rows
unfolding path_given too_short too_far rrup size_of
path_rows r = path_given r ++ path_completed r

-- ---- the site
unfoldable pub site_given : Request → Rows
unfolding allowed
site_given r =
    (No.Basin, not (allowed r.z10 (pos 0) (pos 10000)))
    ∷ (No.Basin, not (allowed r.z15 (pos 0) (pos 10000)))
    ∷ (No.Basin, not (allowed r.z25 (pos 0) (pos 10000)))
    ∷ []

abbrev pub site_completed : Request → Rows
site_completed r = (No.Basin, ltb 10000 (size_of (z25 r))) ∷ []

unfoldable pub site_rows : Request → Rows
unfolding site_given z25 size_of
site_rows r = site_given r ++ site_completed r

-- ---- all of them
unfoldable pub rows : Request → Rows
unfolding marked_rows source_rows path_rows site_rows
rows r = marked_rows r ++ (source_rows r ++ (path_rows r ++ site_rows r))

unfoldable pub refusal : Request → Option Refusal
unfolding first rows
refusal r = first (rows r)
