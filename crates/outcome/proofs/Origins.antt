-- Which of the given figures were measured and which inferred changes no number: a request with that forgotten has the answer with that
-- forgotten. So whatever is made of an answer without reading it is the same for two requests that differ in nothing else. Assumes nothing.
use Prim.Native.Nat.{ℕ}
use mathlib.Core.Path.{◌≡◌, refl, sym, ap, ◌∙◌}
use mathlib.Core.Bool.{Bool}
use mathlib.Core.List.{[], ◌∷◌, ◌++◌}
use lib.Dec.{ltb}
use lib.IntN.{pos, negsuc}
use Rattle.request.specs.declared.Request.{Request}
use Rattle.request.specs.Fields.{size_of}
use Rattle.request.specs.Styles.{top_magnitude}
use Rattle.request.specs.Origins.{each, as_measured, forget}
use Rattle.request.proofs.OriginLaws.{given-alike, blank-alike, value-alike, size-alike, within-alike, allowed-alike, marked-alike, measured-twice}
use Rattle.std.specs.Prelude.{Option, Some, None, Result, Ok, Err}
use Rattle.refusals.specs.Order.{Rows, first, unless, number_in}
use Rattle.refusals.specs.declared.Refusal.{Refusal}
use Rattle.refusals.specs.declared.Refusal.TheVariants as No
use Rattle.outcome.specs.Figures.{style, dip, width, zhyp, tenths_of, zhyp_tenths, ztor, rrup, basin_of, z25}
use Rattle.outcome.specs.Refusals.{marked_rows, source_given, source_rows, above_rupture, path_given, too_short, too_far, path_rows, site_given, site_rows, rows, refusal}
use Rattle.outcome.specs.Answers.{completed, completion_of}
use Rattle.outcome.specs.Forgotten.{forgotten}
use Rattle.outcome.proofs.FigureLaws.{six, completed-alike}

joined : {a b c d : Rows} → a ≡ c → b ≡ d → a ++ b ≡ c ++ d
joined h k = rw (h, k)

-- the rows of the path that read completed figures, by what they read
abbrev lengths : ℕ → Bool → Bool → Rows
lengths n short far = (No.Rrup, ltb 200000 n) ∷ (No.TooShort, short) ∷ (No.TooFar, far) ∷ []

lengths-same : {m n : ℕ} {a b c d : Bool} → m ≡ n → a ≡ b → c ≡ d → lengths m a c ≡ lengths n b d
lengths-same h k l = rw (h, k, l)

module _ (r : Request) where
  -- ---- the figures
  style-alike : style (forget r) ≡ style r
  unfolding style forget each
  style-alike = rw (value-alike r.rake)

  dip-alike : dip (forget r) ≡ as_measured (dip r)
  unfolding dip forget each
  dip-alike = rw (style-alike) (completed-alike r.dip _)

  width-alike : width (forget r) ≡ as_measured (width r)
  unfolding width forget each
  width-alike = rw (style-alike, size-alike r.m) (completed-alike r.w _)

  zhyp-alike : zhyp (forget r) ≡ as_measured (zhyp r)
  unfolding zhyp forget each
  zhyp-alike = rw (style-alike, size-alike r.m) (completed-alike r.zhyp _)

  tenths_alike : zhyp_tenths (forget r) ≡ zhyp_tenths r
  unfolding zhyp_tenths tenths_of forget each
  tenths_alike = rw (style-alike, size-alike r.m, blank-alike r.zhyp, size-alike r.zhyp)

  ztor-alike : ztor (forget r) ≡ as_measured (ztor r)
  unfolding ztor forget each
  ztor-alike = rw (tenths_alike, dip-alike, width-alike, size-alike (dip r), size-alike (width r)) (completed-alike r.ztor _)

  rrup-alike : rrup (forget r) ≡ as_measured (rrup r)
  unfolding rrup forget each
  rrup-alike =
      rw (
        ztor-alike,
        width-alike,
        dip-alike,
        size-alike (ztor r),
        size-alike (width r),
        size-alike (dip r),
        size-alike r.rjb,
        value-alike r.azimuth,
      )
      (completed-alike r.rrup _)

  z25-alike : z25 (forget r) ≡ as_measured (z25 r)
  unfolding z25 basin_of forget each
  z25-alike =
      rw (given-alike r.z15, size-alike r.z15, given-alike r.z10, size-alike r.z10, size-alike r.vs30)
      (completed-alike r.z25 _)

  completed_forgets : completed (forget r) ≡ forget (completed r)
  unfolding completed forget each
  completed_forgets = six (forget r) dip-alike width-alike zhyp-alike ztor-alike rrup-alike z25-alike

  -- ---- the rows
  marked-same : marked_rows (forget r) ≡ marked_rows r
  unfolding marked_rows
  marked-same = rw (marked-alike r)

  given-same : source_given (forget r) ≡ source_given r
  unfolding source_given forget each
  given-same =
      rw (
        style-alike,
        within-alike r.rake (negsuc 179) (pos 180),
        within-alike r.m (pos 400) (top_magnitude (style r)),
        within-alike r.vs30 (pos 150) (pos 1500),
        allowed-alike r.dip (pos 15) (pos 90),
        allowed-alike r.w (pos 1) (pos 100000),
        allowed-alike r.zhyp (pos 0) (pos 30000),
        allowed-alike r.ztor (pos 0) (pos 15000),
      )

  source_same : source_rows (forget r) ≡ source_rows r
  unfolding source_rows
  source_same = joined given-same (ap (λ (n : ℕ). (No.Top, ltb 15000 n) ∷ []) (ap size_of ztor-alike ∙ size-alike (ztor r)))

  above_same : above_rupture (forget r) ≡ above_rupture r
  unfolding above_rupture forget each
  above_same =
      rw (
        blank-alike r.rrup,
        dip-alike,
        size-alike (dip r),
        within-alike r.rjb (pos 0) (pos 0),
        within-alike r.azimuth (pos 90) (pos 90),
      )

  path_given_same : path_given (forget r) ≡ path_given r
  unfolding path_given forget each
  path_given_same =
      rw (
        within-alike r.rjb (pos 0) (pos 200000),
        within-alike r.azimuth (negsuc 179) (pos 180),
        above_same,
        allowed-alike r.rrup (pos 0) (pos 200000),
      )

  short-same : too_short (forget r) ≡ too_short r
  unfolding too_short forget each
  short-same =
      rw (given-alike r.rrup, size-alike r.rrup, size-alike r.rjb, ztor-alike, size-alike (ztor r))

  far_same : too_far (forget r) ≡ too_far r
  unfolding too_far forget each
  far_same =
      rw (
        given-alike r.rrup,
        size-alike r.rrup,
        size-alike r.rjb,
        ztor-alike,
        size-alike (ztor r),
        width-alike,
        size-alike (width r),
      )

  path_same : path_rows (forget r) ≡ path_rows r
  unfolding path_rows
  path_same = joined path_given_same (lengths-same (ap size_of rrup-alike ∙ size-alike (rrup r)) short-same far_same)

  site_given_same : site_given (forget r) ≡ site_given r
  unfolding site_given forget each
  site_given_same =
      rw (
        allowed-alike r.z10 (pos 0) (pos 10000),
        allowed-alike r.z15 (pos 0) (pos 10000),
        allowed-alike r.z25 (pos 0) (pos 10000),
      )

  site_same : site_rows (forget r) ≡ site_rows r
  unfolding site_rows
  site_same = joined site_given_same (ap (λ (n : ℕ). (No.Basin, ltb 10000 n) ∷ []) (ap size_of z25-alike ∙ size-alike (z25 r)))

  refusal-same : refusal (forget r) ≡ refusal r
  unfolding refusal rows
  refusal-same = ap first (joined marked-same (joined source_same (joined path_same site_same)))

-- ---- the answer
answer_forgets : (o : Option Refusal) (r : Request) → unless o (completed (forget r)) ≡ forgotten (unless o (completed r))
unfolding forgotten
answer_forgets None r = ap Ok (completed_forgets r)
answer_forgets (Some n) r = refl

pub origins_forgotten : (r : Request) → completion_of (forget r) ≡ forgotten (completion_of r)
unfolding completion_of
origins_forgotten r = ap (λ (o : Option Refusal). unless o (completed (forget r))) (refusal-same r) ∙ answer_forgets (refusal r) r

-- what is made of an answer, and is the same of one that has forgotten, is the same for requests that differ only in what was measured and
-- what inferred
pub origins_unread :
    {A : Type 0} (f : Result Request Refusal → A) → ((c : Result Request Refusal) → f (forgotten c) ≡ f c) → (r s : Request) → forget r ≡ forget s
    → f (completion_of r) ≡ f (completion_of s)
origins_unread f unread r s e = sym (through r) ∙ ap (λ (q : Request). f (completion_of q)) e ∙ through s
  where
    through : (q : Request) → f (completion_of (forget q)) ≡ f (completion_of q)
    through q = ap f (origins_forgotten q) ∙ unread (completion_of q)

-- ---- for the completion itself
forget-twice : (r : Request) → forget (forget r) ≡ forget r
unfolding forget each
forget-twice r =
    rw (
      measured-twice r.m,
      measured-twice r.rake,
      measured-twice r.vs30,
      measured-twice r.dip,
      measured-twice r.w,
      measured-twice r.zhyp,
      measured-twice r.ztor,
      measured-twice r.rjb,
      measured-twice r.azimuth,
      measured-twice r.rrup,
      measured-twice r.z10,
      measured-twice r.z15,
      measured-twice r.z25,
    )

twice : (c : Result Request Refusal) → forgotten (forgotten c) ≡ forgotten c
unfolding forgotten
twice (Ok c) = ap Ok (forget-twice c)
twice (Err n) = refl

-- the number of a refusal
pub same_number : (r s : Request) → forget r ≡ forget s → number_in (completion_of r) ≡ number_in (completion_of s)
unfolding forgotten
same_number = origins_unread number_in unread
  where
    unread : (c : Result Request Refusal) → number_in (forgotten c) ≡ number_in c
    unread (Ok c) = refl
    unread (Err n) = refl

-- and every figure of a completed record, but for its origin
pub same_figures : (r s : Request) → forget r ≡ forget s → forgotten (completion_of r) ≡ forgotten (completion_of s)
same_figures = origins_unread forgotten twice
