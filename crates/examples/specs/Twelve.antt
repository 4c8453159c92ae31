-- Document 01's first twelve examples as a single list, in its order. Definitions only.
use Rattle.std.specs.Prelude.{ℕ, ◌*◌, ◌≡◌, List, [], ◌∷◌, pos, negsuc}
use Rattle.request.specs.declared.Field.{Field}
use Rattle.request.specs.declared.Field.TheVariants.{Measured, Blank}
use Rattle.request.specs.declared.Style.TheVariants.{StrikeSlip, Reverse}
use Rattle.request.specs.declared.Request.{Request}
use Rattle.request.specs.Fields.{size_of}
use Rattle.request.specs.Styles.{style_of}
use Rattle.refusals.specs.declared.Refusal.TheVariants as No
use Rattle.refusals.specs.Order.{number_of, number_in}
use Rattle.outcome.specs.Answers.{completion_of, figures_of}
use Rattle.tables.specs.Tables.{PGA, coefficients_at}
use Rattle.model.specs.Equations.{E27, f_mag, f_hng_m}

-- a request with what the examples vary: M, rake, ZTOR, RRUP, Z1.0, Z1.5 and Z2.5; its RJB is 4000
abbrev pub request : ℕ → ℕ → Field → Field → Field → Field → Field → Request
request m rake ztor rrup z10 z15 z25 =
    record {
      m = Measured (pos m);
      rake = Measured (pos rake);
      vs30 = Measured (pos 760);
      dip = Blank;
      w = Measured (pos 10000);
      zhyp = Blank;
      ztor = ztor;
      rjb = Measured (pos 4000);
      azimuth = Measured (pos 30);
      rrup = rrup;
      z10 = z10;
      z15 = z15;
      z25 = z25;
    }

abbrev pub metres : ℕ → Field
metres n = Measured (pos n)

-- its refusal's number, 0 for accepted
abbrev pub refusal_of : Request → ℕ
refusal_of r = number_in (completion_of r)

-- its completed Z2.5
abbrev pub completed_basin : Request → ℕ
completed_basin r = size_of (figures_of (completion_of r)).z25

abbrev pub twelve : List (Type 0)
twelve =
    -- 1. PGA magnitude term: 1.035 at M 5.50
    (f_mag (coefficients_at PGA) 550 ≡ pos (1035 * E27))
    -- 2. 1.005 at 6.50
    ∷ (f_mag (coefficients_at PGA) 650 ≡ pos (1005 * E27))
    -- 3. 0.859 at 7.00
    ∷ (f_mag (coefficients_at PGA) 700 ≡ pos (859 * E27))
    -- 4. Rake 30 strike-slip
    ∷ (style_of (pos 30) ≡ StrikeSlip)
    -- 5. 31 reverse
    ∷ (style_of (pos 31) ≡ Reverse)
    -- 6. -150 strike-slip
    ∷ (style_of (negsuc 149) ≡ StrikeSlip)
    -- 7. Z1.5 of 6045 completes to 9999
    ∷ (completed_basin (request 650 0 (metres 3000) Blank Blank (metres 6045) Blank) ≡ 9999)
    -- 8. 6046 gives refusal 13
    ∷ (refusal_of (request 650 0 (metres 3000) Blank Blank (metres 6046) Blank) ≡ number_of No.Basin)
    -- 9. Z1.0 of 1000 completes to 4114
    ∷ (completed_basin (request 650 0 (metres 3000) Blank (metres 1000) Blank Blank) ≡ 4114)
    -- 10. Reverse, M 800 accepted, 801 refused (2)
    ∷ ((refusal_of (request 800 90 (metres 3000) Blank Blank Blank (metres 2000)) ≡ 0)
    × (refusal_of (request 801 90 (metres 3000) Blank Blank Blank (metres 2000)) ≡ number_of No.Magnitude))
    -- 11. RJB 4000, ZTOR 1000: given RRUP 4123 accepted, 4122 refused (12)
    ∷ ((refusal_of (request 650 0 (metres 1000) (metres 4123) Blank Blank (metres 2000)) ≡ 0)
    × (refusal_of (request 650 0 (metres 1000) (metres 4122) Blank Blank (metres 2000)) ≡ number_of No.TooShort))
    -- 12. Magnitude factor 0.5 at M 6.25
    ∷ (f_hng_m 625 ≡ 50)
    ∷ []

-- every statement of a list
abbrev pub All : List (Type 0) → Type 0
All [] = Unit {0}
All (p ∷ rest) = p × All rest
