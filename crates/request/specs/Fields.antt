-- What a field says, and the tests of one field. Definitions only.
use Rattle.std.specs.Prelude.{ℕ, Bool, true, false, ◌&&◌, ◌||◌, ℤ, pos, nat_abs}
use Rattle.std.specs.Int.Signed.{le_z}
use Rattle.request.specs.declared.Field.{Field}
use Rattle.request.specs.declared.Field.TheVariants.{Measured, Inferred, Estimated, Blank}
use Rattle.request.specs.declared.Request.{Request}

-- ---- where a figure came from
-- what document 01 calls given: measured, or inferred by the caller
unfoldable pub is_given : Field → Bool
is_given (Measured v) = true
is_given (Inferred v) = true
is_given (Estimated v) = false
is_given Blank = false

unfoldable pub is_estimated : Field → Bool
is_estimated (Measured v) = false
is_estimated (Inferred v) = false
is_estimated (Estimated v) = true
is_estimated Blank = false

unfoldable pub is_blank : Field → Bool
is_blank (Measured v) = false
is_blank (Inferred v) = false
is_blank (Estimated v) = false
is_blank Blank = true

-- a field of the request is already marked as estimated by us
unfoldable pub marked : Request → Bool
unfolding is_estimated
marked r =
    is_estimated r.m
    || is_estimated r.rake
    || is_estimated r.vs30
    || is_estimated r.dip
    || is_estimated r.w
    || is_estimated r.zhyp
    || is_estimated r.ztor
    || is_estimated r.rjb
    || is_estimated r.azimuth
    || is_estimated r.rrup
    || is_estimated r.z10
    || is_estimated r.z15
    || is_estimated r.z25

-- ---- its number
-- whatever its origin, or 0
unfoldable pub value_of : Field → ℤ
value_of (Measured v) = v
value_of (Inferred v) = v
value_of (Estimated v) = v
value_of Blank = pos 0

-- its size
unfoldable pub size_of : Field → ℕ
unfolding value_of
size_of f = nat_abs (value_of f)

-- given, and from low to high, both ends included
unfoldable pub within : Field → ℤ → ℤ → Bool
unfolding is_given value_of
within f low high = is_given f && (le_z low (value_of f) && le_z (value_of f) high)

-- blank, or given and from low to high
unfoldable pub allowed : Field → ℤ → ℤ → Bool
unfolding is_blank within
allowed f low high = is_blank f || within f low high
