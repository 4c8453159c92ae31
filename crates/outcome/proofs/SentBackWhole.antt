-- A completed request sent again, what we estimated in it marked as inferred, is accepted with the same numbers and nothing estimated. Each
-- row of the table is silent on it: the figures are in their ranges, which are the same for given and completed ones; a site is refused
-- as above the rupture only where RRUP is blank; and a completed RRUP is not below the root of RJB² + ZTOR², so it is not too short, and a
-- metre less not above that of RJB² + (ZTOR + W)², so it is not too long. Sent again as it stands it is refused for what we estimated;
-- where nothing was, it is the request itself. Assumes nothing.
use Prim.Native.Nat.{ℕ, ◌+◌, ◌-◌, ◌*◌, ◌≤◌}
use mathlib.Core.Path.{◌≡◌, sym, ap, ◌∙◌}
use mathlib.Core.Bool.{true, false, not, ◌&&◌, and-false}
use mathlib.Core.List.{[]}
use mathlib.Core.Logic.{⊎_elim}
use native.Mathlib.Omega.{arith}
use lib.Dec.{leb, ltb}
use lib.IntN.{pos, negsuc}
use borrow.Author.Tests.{le-ltb, ltb-false}
use Rattle.exact.proofs.Root.{square-one}
use Rattle.request.specs.declared.Field.TheVariants.{Blank}
use Rattle.request.specs.declared.Request.{Request}
use Rattle.request.specs.Fields.{is_given, is_estimated, size_of, within, allowed, marked}
use Rattle.request.specs.Styles.{top_magnitude}
use Rattle.request.specs.Origins.{each, as_inferred}
use Rattle.request.proofs.OriginLaws.{value-inferred, size-inferred, none-marked, unmarked-each}
use Rattle.refusals.specs.Order.{first}
use Rattle.std.specs.Prelude.{None, Result, Ok, Err}
use Rattle.refusals.specs.declared.Refusal.{Refusal}
use Rattle.refusals.specs.declared.Refusal.TheVariants as No
use Rattle.refusals.proofs.Rows.{clear, nothing, skip, first-both}
use Rattle.outcome.specs.Figures.{style, dip, width, zhyp, ztor, rrup, z25}
use Rattle.outcome.specs.Refusals.{source_given, source_rows, above_rupture, path_given, too_short, too_far, path_rows, site_given, site_rows, refusal}
use Rattle.outcome.specs.Answers.{completed, completion_of}
use Rattle.outcome.specs.SentBack.{sent_back}
use Rattle.outcome.proofs.FigureLaws.{six, given_stays, given_or_blank, not_estimated, within-back, allowed-back, figure-back, stays-back, not_blank_back}
use Rattle.outcome.proofs.Ranges.{SourceRange, source_range, source_given_lem, top_range}
use Rattle.outcome.proofs.ExactlyWhen.{Stages, stages, accepted-refusal, accepted_by}
use Rattle.outcome.proofs.EstimatesNear.{rrup-above, rrup-below}
use Rattle.outcome.proofs.Staged.{marked_tells, unmarked, all-silent}
use Rattle.outcome.proofs.TooFar.{not_longer}

-- ---- marked as inferred
-- nothing is estimated in what is sent back
pub back-unmarked : (r : Request) → marked (sent_back r) ≡ false
unfolding sent_back
back-unmarked r = none-marked (completed r)

-- its figures are those that were completed
module _ (r : Request) where
  dip-back : dip (sent_back r) ≡ as_inferred (dip r)
  unfolding dip sent_back each completed
  dip-back = stays-back r.dip _ _

  width_back : width (sent_back r) ≡ as_inferred (width r)
  unfolding width sent_back each completed
  width_back = stays-back r.w _ _

  zhyp-back : zhyp (sent_back r) ≡ as_inferred (zhyp r)
  unfolding zhyp sent_back each completed
  zhyp-back = stays-back r.zhyp _ _

  ztor-back : ztor (sent_back r) ≡ as_inferred (ztor r)
  unfolding ztor sent_back each completed
  ztor-back = stays-back r.ztor _ _

  rrup-back : rrup (sent_back r) ≡ as_inferred (rrup r)
  unfolding rrup sent_back each completed
  rrup-back = stays-back r.rrup _ _

  z25-back : z25 (sent_back r) ≡ as_inferred (z25 r)
  unfolding z25 sent_back each completed
  z25-back = stays-back r.z25 _ _

  pub figures_back : completed (sent_back r) ≡ sent_back r
  unfolding completed sent_back each
  figures_back = six (sent_back r) dip-back width_back zhyp-back ztor-back rrup-back z25-back

  style-back : style (sent_back r) ≡ style r
  unfolding style sent_back each completed
  style-back = rw (value-inferred r.rake)

  -- a site is refused as above the rupture only where RRUP is blank
  not_above : above_rupture (sent_back r) ≡ false
  unfolding above_rupture sent_back each completed rrup
  not_above = rw (not_blank_back r.rrup _)

module _ (r : Request) (accepted : refusal r ≡ None) where
  at : Stages r
  at = stages r accepted

  range : SourceRange r
  range = source_range r (source_given_lem r at.source)

  -- the rows that read given figures
  pub record SourceSilent : Type 0 where
    pub rake : not (within r.rake (negsuc 179) (pos 180)) ≡ false
    pub m : not (within r.m (pos 400) (top_magnitude (style r))) ≡ false
    pub vs30 : not (within r.vs30 (pos 150) (pos 1500)) ≡ false
    pub dip : not (allowed r.dip (pos 15) (pos 90)) ≡ false
    pub w : not (allowed r.w (pos 1) (pos 100000)) ≡ false
    pub zhyp : not (allowed r.zhyp (pos 0) (pos 30000)) ≡ false
    pub ztor : not (allowed r.ztor (pos 0) (pos 15000)) ≡ false

  pub silent : SourceSilent
  unfolding source_given
  silent =
      let c1 = clear _ _ (source_given_lem r at.source) in
      let c2 = clear _ _ c1.1 in
      let c3 = clear _ _ c2.1 in
      let c4 = clear _ _ c3.1 in
      let c5 = clear _ _ c4.1 in
      let c6 = clear _ _ c5.1 in
      let c7 = clear _ _ c6.1 in
      record { rake = c1.0; m = c2.0; vs30 = c3.0; dip = c4.0; w = c5.0; zhyp = c6.0; ztor = c7.0 }

  m_within : not (within (as_inferred r.m) (pos 400) (top_magnitude (style (sent_back r)))) ≡ false
  m_within = rw (style-back r) (within-back r.m (pos 400) (top_magnitude (style r)) silent.m)

  dip-allowed : not (allowed (as_inferred (dip r)) (pos 15) (pos 90)) ≡ false
  unfolding dip
  dip-allowed = figure-back r.dip _ 15 90 silent.dip range.dip-low range.dip-high

  width-allowed : not (allowed (as_inferred (width r)) (pos 1) (pos 100000)) ≡ false
  unfolding width
  width-allowed = figure-back r.w _ 1 100000 silent.w range.w_low range.w_high

  zhyp-allowed : not (allowed (as_inferred (zhyp r)) (pos 0) (pos 30000)) ≡ false
  unfolding zhyp
  zhyp-allowed = figure-back r.zhyp _ 0 30000 silent.zhyp (omega arith) range.zhyp-whole

  ztor-allowed : not (allowed (as_inferred (ztor r)) (pos 0) (pos 15000)) ≡ false
  unfolding ztor
  ztor-allowed = figure-back r.ztor _ 0 15000 silent.ztor (omega arith) (top_range r at.source)

  not_deep : ltb 15000 (size_of (ztor (sent_back r))) ≡ false
  not_deep = rw (ztor-back r, size-inferred (ztor r)) (le-ltb 15000 (size_of (ztor r)) (top_range r at.source))

  source_back : first (source_rows (sent_back r)) ≡ None
  unfolding source_rows source_given sent_back each completed
  source_back =
      skip _ _ _ (within-back r.rake (negsuc 179) (pos 180) silent.rake)
      (skip _ _ _ m_within
      (skip _ _ _ (within-back r.vs30 (pos 150) (pos 1500) silent.vs30)
      (skip _ _ _ dip-allowed
      (skip _ _ _ width-allowed
      (skip _ _ _ zhyp-allowed
      (skip _ _ _ ztor-allowed
      (skip _ _ _ not_deep nothing)))))))

  path_rows_lem : (first (path_given r) ≡ None) × (ltb 200000 (size_of (rrup r)) ≡ false) × (too_short r ≡ false) × (too_far r ≡ false)
  unfolding path_rows
  path_rows_lem =
      let t = first-both (path_given r) _ at.path in
      let c11 = clear _ _ t.1 in
      let c12 = clear _ _ c11.1 in
      (t.0, c11.0, c12.0, (clear _ [] c12.1).0)

  pub kept_path :
      (not (within r.rjb (pos 0) (pos 200000)) ≡ false) × (not (within r.azimuth (negsuc 179) (pos 180)) ≡ false)
      × (not (allowed r.rrup (pos 0) (pos 200000)) ≡ false)
  unfolding path_given
  kept_path =
      let c8 = clear _ _ path_rows_lem.0 in
      let c9 = clear _ _ c8.1 in
      let c10 = clear _ _ c9.1 in
      (c8.0, c9.0, (clear _ _ c10.1).0)

  pub rrup-high : size_of (rrup r) ≤ 200000
  rrup-high = ltb-false 200000 (size_of (rrup r)) path_rows_lem.1

  -- one metre longer, the completed RRUP reaches the top of the rupture
  abbrev S : ℕ
  S = size_of r.rjb * size_of r.rjb + size_of (ztor r) * size_of (ztor r)

  tested : is_given r.rrup ≡ true → ltb ((size_of r.rrup + 1) * (size_of r.rrup + 1)) S ≡ false
  unfolding too_short
  tested g = rw g at path_rows_lem.2

  itself : is_given r.rrup ≡ true → rrup r ≡ r.rrup
  unfolding rrup
  itself g = given_stays r.rrup _ g

  given : is_given r.rrup ≡ true → S ≤ (size_of (rrup r) + 1) * (size_of (rrup r) + 1)
  given g = rw (itself g) (ltb-false ((size_of r.rrup + 1) * (size_of r.rrup + 1)) S (tested g))

  blank : r.rrup ≡ Blank → S ≤ (size_of (rrup r) + 1) * (size_of (rrup r) + 1)
  blank e = omega (arith, rrup-above r e, square-one (size_of (rrup r)))

  pub long-enough :
      size_of r.rjb * size_of r.rjb + size_of (ztor r) * size_of (ztor r) ≤ (size_of (rrup r) + 1) * (size_of (rrup r) + 1)
  long-enough = ⊎_elim given blank (given_or_blank r.rrup (pos 0) (pos 200000) kept_path.2)

  rrup_sent : size_of (sent_back r).rrup ≡ size_of (rrup r)
  unfolding sent_back each completed
  rrup_sent = size-inferred (rrup r)

  rjb_sent : size_of (sent_back r).rjb ≡ size_of r.rjb
  unfolding sent_back each completed
  rjb_sent = size-inferred r.rjb

  not_short : too_short (sent_back r) ≡ false
  unfolding too_short
  not_short = rw (rrup_sent, rjb_sent, ztor-back r, size-inferred (ztor r), le-ltb _ _ long-enough) (and-false (is_given (sent_back r).rrup))

  -- one metre shorter, it does not reach beyond the bottom
  abbrev N : ℕ
  N =
      size_of r.rjb * size_of r.rjb + (size_of (ztor r) + size_of (width r)) * (size_of (ztor r) + size_of (width r))

  tested_far : is_given r.rrup ≡ true → leb 1 (size_of r.rrup) && ltb N ((size_of r.rrup - 1) * (size_of r.rrup - 1)) ≡ false
  unfolding too_far
  tested_far g = rw g at path_rows_lem.3

  given_far : is_given r.rrup ≡ true → (size_of (rrup r) - 1) * (size_of (rrup r) - 1) ≤ N
  given_far g = rw (itself g) (not_longer (size_of r.rrup) N (tested_far g))

  pub short-enough :
      (size_of (rrup r) - 1) * (size_of (rrup r) - 1)
      ≤ size_of r.rjb * size_of r.rjb + (size_of (ztor r) + size_of (width r)) * (size_of (ztor r) + size_of (width r))
  short-enough = ⊎_elim given_far (rrup-below r) (given_or_blank r.rrup (pos 0) (pos 200000) kept_path.2)

  not_long : too_far (sent_back r) ≡ false
  unfolding too_far
  not_long =
      rw (rrup_sent, rjb_sent, ztor-back r, size-inferred (ztor r), width_back r, size-inferred (width r), le-ltb _ _ short-enough, and-false (leb 1 (size_of (rrup r))))
      (and-false (is_given (sent_back r).rrup))

  rrup-allowed : not (allowed (as_inferred (rrup r)) (pos 0) (pos 200000)) ≡ false
  unfolding rrup
  rrup-allowed = figure-back r.rrup _ 0 200000 kept_path.2 (omega arith) rrup-high

  not_far : ltb 200000 (size_of (rrup (sent_back r))) ≡ false
  not_far = rw (rrup-back r, size-inferred (rrup r)) (le-ltb 200000 (size_of (rrup r)) rrup-high)

  path_back : first (path_rows (sent_back r)) ≡ None
  unfolding path_rows path_given sent_back each completed
  path_back =
      skip _ _ _ (within-back r.rjb (pos 0) (pos 200000) kept_path.0)
      (skip _ _ _ (within-back r.azimuth (negsuc 179) (pos 180) kept_path.1)
      (skip _ _ _ (not_above r)
      (skip _ _ _ rrup-allowed
      (skip _ _ _ not_far
      (skip _ _ _ not_short
      (skip _ _ _ not_long nothing))))))

  pub site_rows_lem :
      (not (allowed r.z10 (pos 0) (pos 10000)) ≡ false) × (not (allowed r.z15 (pos 0) (pos 10000)) ≡ false)
      × (not (allowed r.z25 (pos 0) (pos 10000)) ≡ false) × (size_of (z25 r) ≤ 10000)
  unfolding site_rows site_given
  site_rows_lem =
      let c1 = clear _ _ at.site in
      let c2 = clear _ _ c1.1 in
      let c3 = clear _ _ c2.1 in
      (c1.0, c2.0, c3.0, ltb-false 10000 (size_of (z25 r)) (clear _ [] c3.1).0)

  z25-allowed : not (allowed (as_inferred (z25 r)) (pos 0) (pos 10000)) ≡ false
  unfolding z25
  z25-allowed = figure-back r.z25 _ 0 10000 site_rows_lem.2 (omega arith) site_rows_lem.3

  shallow : ltb 10000 (size_of (z25 (sent_back r))) ≡ false
  shallow = rw (z25-back r, size-inferred (z25 r)) (le-ltb 10000 (size_of (z25 r)) site_rows_lem.3)

  site_back : first (site_rows (sent_back r)) ≡ None
  unfolding site_rows site_given sent_back each completed
  site_back =
      skip _ _ _ (allowed-back r.z10 (pos 0) (pos 10000) site_rows_lem.0)
      (skip _ _ _ (allowed-back r.z15 (pos 0) (pos 10000) site_rows_lem.1)
      (skip _ _ _ z25-allowed
      (skip _ _ _ shallow nothing)))

  accepted-back : refusal (sent_back r) ≡ None
  accepted-back = all-silent (sent_back r) (unmarked (sent_back r) (back-unmarked r)) source_back path_back site_back

-- accepted, and answered by itself: by the numbers that were completed, none of them estimated
pub sent_back_lem : (r : Request) → completion_of r ≡ Ok (completed r) → completion_of (sent_back r) ≡ Ok (sent_back r)
sent_back_lem r e = accepted_by (sent_back r) (accepted-back r (accepted-refusal r e)) ∙ ap Ok (figures_back r)

-- what is made of an answer, and is the same whatever we estimated, is the same for what is sent back
pub sent_back_unread :
    {A : Type 0} (f : Result Request Refusal → A) → ((c : Request) → f (Ok (each as_inferred c)) ≡ f (Ok c))
    → (r : Request) → completion_of r ≡ Ok (completed r) → f (completion_of (sent_back r)) ≡ f (completion_of r)
unfolding sent_back
sent_back_unread f unread r e = ap f (sent_back_lem r e) ∙ unread (completed r) ∙ sym (ap f e)

-- ---- as it stands
pub returned_refused : (r : Request) → marked (completed r) ≡ true → completion_of (completed r) ≡ Err No.Marked
returned_refused r t = marked_tells (completed r) t

module _ (r : Request) where
  is-dip : is_estimated (dip r) ≡ false → dip r ≡ r.dip
  unfolding dip
  is-dip h = not_estimated r.dip _ h

  is-width : is_estimated (width r) ≡ false → width r ≡ r.w
  unfolding width
  is-width h = not_estimated r.w _ h

  is-zhyp : is_estimated (zhyp r) ≡ false → zhyp r ≡ r.zhyp
  unfolding zhyp
  is-zhyp h = not_estimated r.zhyp _ h

  is-ztor : is_estimated (ztor r) ≡ false → ztor r ≡ r.ztor
  unfolding ztor
  is-ztor h = not_estimated r.ztor _ h

  is-rrup : is_estimated (rrup r) ≡ false → rrup r ≡ r.rrup
  unfolding rrup
  is-rrup h = not_estimated r.rrup _ h

  is-z25 : is_estimated (z25 r) ≡ false → z25 r ≡ r.z25
  unfolding z25
  is-z25 h = not_estimated r.z25 _ h

-- where nothing was estimated, nothing was completed
pub returned_whole : (r : Request) → marked (completed r) ≡ false → completed r ≡ r
unfolding completed
returned_whole r e =
    let u = unmarked-each (completed r) e in
    six r (is-dip r u.dip) (is-width r u.w) (is-zhyp r u.zhyp) (is-ztor r u.ztor) (is-rrup r u.rrup) (is-z25 r u.z25)
