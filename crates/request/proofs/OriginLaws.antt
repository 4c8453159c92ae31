-- What a test of a field reads does not tell measured from inferred, and no number is changed with its origin. Assumes nothing.
use mathlib.Core.Path.{◌≡◌, refl, subst}
use mathlib.Core.Bool.{Bool, true, false, ◌||◌}
use lib.Dec.{T}
use lib.IntN.{ℤ}
use Rattle.request.specs.declared.Field.{Field}
use Rattle.request.specs.declared.Field.TheVariants.{Measured, Inferred, Estimated, Blank}
use Rattle.request.specs.declared.Request.{Request}
use Rattle.request.specs.Fields.{is_given, is_estimated, is_blank, value_of, size_of, within, allowed, marked}
use Rattle.request.specs.Origins.{each, as_measured, forget, as_inferred}

-- ---- measured or inferred
-- what does not tell the two apart is the same of a field and of one taken as measured
alike : {A : Type 0} (g : Field → A) → ((v : ℤ) → g (Measured v) ≡ g (Inferred v)) → (f : Field) → g (as_measured f) ≡ g f
unfolding as_measured
alike g same (Measured v) = refl
alike g same (Inferred v) = same v
alike g same (Estimated v) = refl
alike g same Blank = refl

pub given-alike : (f : Field) → is_given (as_measured f) ≡ is_given f
unfolding is_given
given-alike = alike is_given (λ v. refl)

pub estimated-alike : (f : Field) → is_estimated (as_measured f) ≡ is_estimated f
unfolding is_estimated
estimated-alike = alike is_estimated (λ v. refl)

pub blank-alike : (f : Field) → is_blank (as_measured f) ≡ is_blank f
unfolding is_blank
blank-alike = alike is_blank (λ v. refl)

pub value-alike : (f : Field) → value_of (as_measured f) ≡ value_of f
unfolding value_of
value-alike = alike value_of (λ v. refl)

pub size-alike : (f : Field) → size_of (as_measured f) ≡ size_of f
unfolding size_of
size-alike f = rw (value-alike f)

pub within-alike : (f : Field) (low high : ℤ) → within (as_measured f) low high ≡ within f low high
unfolding within
within-alike f low high = rw (given-alike f, value-alike f)

pub allowed-alike : (f : Field) (low high : ℤ) → allowed (as_measured f) low high ≡ allowed f low high
unfolding allowed
allowed-alike f low high = rw (blank-alike f, within-alike f low high)

pub marked-alike : (r : Request) → marked (forget r) ≡ marked r
unfolding marked forget each
marked-alike r =
    rw (
      estimated-alike r.m,
      estimated-alike r.rake,
      estimated-alike r.vs30,
      estimated-alike r.dip,
      estimated-alike r.w,
      estimated-alike r.zhyp,
      estimated-alike r.ztor,
      estimated-alike r.rjb,
      estimated-alike r.azimuth,
      estimated-alike r.rrup,
      estimated-alike r.z10,
      estimated-alike r.z15,
      estimated-alike r.z25,
    )

-- once forgotten, nothing is left to forget
pub measured-twice : (f : Field) → as_measured (as_measured f) ≡ as_measured f
unfolding as_measured
measured-twice = alike as_measured (λ v. refl)

-- ---- estimated, marked as inferred
pub value-inferred : (f : Field) → value_of (as_inferred f) ≡ value_of f
unfolding value_of as_inferred
value-inferred (Measured v) = refl
value-inferred (Inferred v) = refl
value-inferred (Estimated v) = refl
value-inferred Blank = refl

pub size-inferred : (f : Field) → size_of (as_inferred f) ≡ size_of f
unfolding size_of
size-inferred f = rw (value-inferred f)

none-estimated : (f : Field) → is_estimated (as_inferred f) ≡ false
unfolding is_estimated as_inferred
none-estimated (Measured v) = refl
none-estimated (Inferred v) = refl
none-estimated (Estimated v) = refl
none-estimated Blank = refl

pub none-marked : (r : Request) → marked (each as_inferred r) ≡ false
unfolding marked each
none-marked r =
    rw (
      none-estimated r.m,
      none-estimated r.rake,
      none-estimated r.vs30,
      none-estimated r.dip,
      none-estimated r.w,
      none-estimated r.zhyp,
      none-estimated r.ztor,
      none-estimated r.rjb,
      none-estimated r.azimuth,
      none-estimated r.rrup,
      none-estimated r.z10,
      none-estimated r.z15,
      none-estimated r.z25,
    )

-- ---- marked by none
either : (a b : Bool) → a || b ≡ false → (a ≡ false) × (b ≡ false)
either true b e = absurd (subst T e tt)
either false b e = (refl, e)

-- where no field is marked, none of the six that have a rule is
pub record Unmarked (r : Request) : Type 0 where
  pub dip : is_estimated r.dip ≡ false
  pub w : is_estimated r.w ≡ false
  pub zhyp : is_estimated r.zhyp ≡ false
  pub ztor : is_estimated r.ztor ≡ false
  pub rrup : is_estimated r.rrup ≡ false
  pub z25 : is_estimated r.z25 ≡ false

pub unmarked-each : (r : Request) → marked r ≡ false → Unmarked r
unfolding marked
unmarked-each r h =
    let p =
    go (is_estimated r.m) (is_estimated r.rake) (is_estimated r.vs30) (is_estimated r.dip) (is_estimated r.w) (is_estimated r.zhyp)
    (is_estimated r.ztor) (is_estimated r.rjb) (is_estimated r.azimuth) (is_estimated r.rrup) (is_estimated r.z10)
    (is_estimated r.z15) (is_estimated r.z25) h in
    record { dip = p.0; w = p.1; zhyp = p.2; ztor = p.3; rrup = p.4; z25 = p.5 }
  where
    go : (a b c d e f g i j k l m n : Bool) → a || b || c || d || e || f || g || i || j || k || l || m || n ≡ false
        → (d ≡ false) × (e ≡ false) × (f ≡ false) × (g ≡ false) × (k ≡ false) × (n ≡ false)
    go a b c d e f g i j k l m n h =
        let p13 = either (a || b || c || d || e || f || g || i || j || k || l || m) n h in
        let p12 = either (a || b || c || d || e || f || g || i || j || k || l) m p13.0 in
        let p11 = either (a || b || c || d || e || f || g || i || j || k) l p12.0 in
        let p10 = either (a || b || c || d || e || f || g || i || j) k p11.0 in
        let p9 = either (a || b || c || d || e || f || g || i) j p10.0 in
        let p8 = either (a || b || c || d || e || f || g) i p9.0 in
        let p7 = either (a || b || c || d || e || f) g p8.0 in
        let p6 = either (a || b || c || d || e) f p7.0 in
        let p5 = either (a || b || c || d) e p6.0 in
        let p4 = either (a || b || c) d p5.0 in
        (p4.1, p5.1, p6.1, p7.1, p10.1, p13.1)
