-- What a field is completed to: itself where it is given, else the estimate; and what becomes of it when it is sent back. Assumes nothing.
use Prim.Native.Nat.{ℕ, ◌*◌, ◌/◌, ◌≤◌}
use mathlib.Core.Path.{◌≡◌, refl, sym, ap, subst, ◌∙◌}
use mathlib.Core.Bool.{Bool, true, false, not, cond}
use mathlib.Core.Logic.{◌⊎◌, inl, inr}
use lib.Dec.{T}
use lib.IntN.{ℤ, pos}
use borrow.Author.Tests.{le-leb}
use Rattle.request.specs.declared.Field.{Field}
use Rattle.request.specs.declared.Field.TheVariants.{Measured, Inferred, Estimated, Blank}
use Rattle.request.specs.declared.Request.{Request}
use Rattle.request.specs.Fields.{is_given, is_estimated, is_blank, value_of, size_of, within, allowed}
use Rattle.request.specs.Origins.{as_measured, as_inferred}
use Rattle.rules.specs.Rules.{hypocentre}
use Rattle.geometry.specs.Fixed.{rupture_distance}
use Rattle.outcome.specs.Figures.{estimated, or_estimate, style, dip, width, zhyp, tenths_of, zhyp_tenths, ztor, rrup, basin_of, z25}

-- requests that have all but six of their fields in common
pub six :
    (r : Request) {d d' w w' h h' t t' p p' z z' : Field} → d ≡ d' → w ≡ w' → h ≡ h' → t ≡ t' → p ≡ p' → z ≡ z'
    → ◌≡◌ {A = Request}
    (record { m = r.m; rake = r.rake; vs30 = r.vs30; dip = d; w = w; zhyp = h; ztor = t; rjb = r.rjb; azimuth = r.azimuth; rrup = p; z10 = r.z10; z15 = r.z15; z25 = z })
    (record { m = r.m; rake = r.rake; vs30 = r.vs30; dip = d'; w = w'; zhyp = h'; ztor = t'; rjb = r.rjb; azimuth = r.azimuth; rrup = p'; z10 = r.z10; z15 = r.z15; z25 = z' })
six r a b c d e f = rw (a, b, c, d, e, f)

-- ---- completed
pub stays : (f : Field) (e : ℕ) → is_blank f ≡ false → or_estimate f e ≡ f
unfolding or_estimate
stays f e h = rw h

pub fills : (f : Field) (e : ℕ) → is_blank f ≡ true → or_estimate f e ≡ estimated e
unfolding or_estimate
fills f e h = rw h

-- ZHYP by its tenths, which are those of the rule where it is blank
pub by_tenths : (r : Request) → or_estimate r.zhyp (zhyp_tenths r / 10) ≡ zhyp r
unfolding or_estimate zhyp zhyp_tenths tenths_of
by_tenths r = go (is_blank r.zhyp)
  where
    go : (t : Bool)
        → cond t (estimated (cond t (hypocentre (style r) (size_of r.m)) (10 * size_of r.zhyp) / 10)) r.zhyp
        ≡ cond t (estimated (hypocentre (style r) (size_of r.m) / 10)) r.zhyp
    go true = refl
    go false = refl

pub given_stays : (f : Field) (e : ℕ) → is_given f ≡ true → or_estimate f e ≡ f
unfolding or_estimate is_given is_blank
given_stays (Measured v) e h = refl
given_stays (Inferred v) e h = refl
given_stays (Estimated v) e h = refl
given_stays Blank e h = absurd (subst (λ t. T (not t)) h tt)

-- what is allowed is given or blank
pub given_or_blank : (f : Field) (a b : ℤ) → not (allowed f a b) ≡ false → (is_given f ≡ true) ⊎ (f ≡ Blank)
unfolding allowed within is_given is_blank
given_or_blank (Measured v) a b h = inl refl
given_or_blank (Inferred v) a b h = inl refl
given_or_blank (Estimated v) a b h = absurd (subst T h tt)
given_or_blank Blank a b h = inr refl

-- what is completed and not estimated is the field itself
pub not_estimated : (f : Field) (e : ℕ) → is_estimated (or_estimate f e) ≡ false → or_estimate f e ≡ f
unfolding or_estimate is_estimated is_blank
not_estimated (Measured v) e h = refl
not_estimated (Inferred v) e h = refl
not_estimated (Estimated v) e h = refl
not_estimated Blank e h = absurd (subst T h tt)

-- measured or inferred, a field is completed alike
pub completed-alike : (f : Field) (e : ℕ) → or_estimate (as_measured f) e ≡ as_measured (or_estimate f e)
unfolding or_estimate as_measured is_blank
completed-alike (Measured v) e = refl
completed-alike (Inferred v) e = refl
completed-alike (Estimated v) e = refl
completed-alike Blank e = refl

-- Z2.5 of the site
module _ (r : Request) where
  pub basin-given : is_blank r.z25 ≡ false → z25 r ≡ r.z25
  unfolding z25
  basin-given h = stays r.z25 _ h

  pub basin-estimated : is_blank r.z25 ≡ true → z25 r ≡ estimated (basin_of r.z15 r.z10 (size_of r.vs30))
  unfolding z25
  basin-estimated h = fills r.z25 _ h

-- RRUP by its length, which is the estimate where it is blank
module _ (r : Request) where
  pub length-given : is_blank r.rrup ≡ false → rrup r ≡ r.rrup
  unfolding rrup
  length-given h = stays r.rrup _ h

  pub length-estimated :
      is_blank r.rrup ≡ true
      → size_of (rrup r) ≡ rupture_distance (size_of (dip r)) (value_of r.azimuth) (size_of (width r)) (size_of (ztor r)) (size_of r.rjb)
  unfolding rrup size_of value_of
  length-estimated h = ap size_of (fills r.rrup _ h)

  pub by_length : is_blank r.rrup ≡ true → rrup r ≡ estimated (size_of (rrup r))
  unfolding rrup size_of value_of
  by_length h = fills r.rrup _ h ∙ sym (ap (λ (f : Field). estimated (size_of f)) (fills r.rrup _ h))

-- ---- sent back
pub within-back : (f : Field) (a b : ℤ) → not (within f a b) ≡ false → not (within (as_inferred f) a b) ≡ false
unfolding within as_inferred is_given value_of
within-back (Measured v) a b h = h
within-back (Inferred v) a b h = h
within-back (Estimated v) a b h = absurd (subst T h tt)
within-back Blank a b h = h

pub allowed-back : (f : Field) (a b : ℤ) → not (allowed f a b) ≡ false → not (allowed (as_inferred f) a b) ≡ false
unfolding allowed within as_inferred is_blank is_given value_of
allowed-back (Measured v) a b h = h
allowed-back (Inferred v) a b h = h
allowed-back (Estimated v) a b h = absurd (subst T h tt)
allowed-back Blank a b h = h

-- a completed figure in its range
pub figure-back :
    (f : Field) (e a b : ℕ) → not (allowed f (pos a) (pos b)) ≡ false → a ≤ size_of (or_estimate f e) → size_of (or_estimate f e) ≤ b
    → not (allowed (as_inferred (or_estimate f e)) (pos a) (pos b)) ≡ false
unfolding allowed within or_estimate as_inferred is_blank is_given size_of value_of
figure-back (Measured v) e a b t l h = t
figure-back (Inferred v) e a b t l h = t
figure-back (Estimated v) e a b t l h = absurd (subst T t tt)
figure-back Blank e a b t l h = rw (le-leb a e l, le-leb e b h)

-- it is completed to itself
pub stays-back : (f : Field) (e n : ℕ) → or_estimate (as_inferred (or_estimate f e)) n ≡ as_inferred (or_estimate f e)
unfolding or_estimate as_inferred is_blank
stays-back (Measured v) e n = refl
stays-back (Inferred v) e n = refl
stays-back (Estimated v) e n = refl
stays-back Blank e n = refl

pub not_blank_back : (f : Field) (e : ℕ) → is_blank (as_inferred (or_estimate f e)) ≡ false
unfolding or_estimate as_inferred is_blank
not_blank_back (Measured v) e = refl
not_blank_back (Inferred v) e = refl
not_blank_back (Estimated v) e = refl
not_blank_back Blank e = refl
