-- The fields of a request one after the other, and what text can hold in each. Definitions only.
use Rattle.std.specs.Prelude.{ℕ, ◌+◌, Bool, true, false, cond, ◌&&◌, List, [], ◌∷◌, ℤ, pos, negsuc}
use Rattle.std.specs.Int.Signed.{le_z}
use Rattle.request.specs.declared.Field.{Field}
use Rattle.request.specs.declared.Field.TheVariants.{Measured, Inferred, Estimated, Blank}
use Rattle.request.specs.declared.Request.{Request}
use Rattle.text.specs.Grammar.{signed_at}

-- the thirteen fields of a request in document 01's order
unfoldable pub fields_in : Request → List Field
fields_in r =
    r.m
    ∷ r.rake
    ∷ r.vs30
    ∷ r.dip
    ∷ r.w
    ∷ r.zhyp
    ∷ r.ztor
    ∷ r.rjb
    ∷ r.azimuth
    ∷ r.rrup
    ∷ r.z10
    ∷ r.z15
    ∷ r.z25
    ∷ []

-- ---- what a field may hold
-- six digits, after a minus sign where the field may have one
unfoldable pub held : Bool → ℤ → Bool
held signed v = le_z (cond signed (negsuc 999998) (pos 0)) v && le_z v (pos 999999)

-- a figure that was given, or blank; no text says that a figure was estimated
unfoldable pub holds : Bool → Field → Bool
unfolding held
holds signed (Measured v) = held signed v
holds signed (Inferred v) = held signed v
holds signed (Estimated v) = false
holds signed Blank = true

-- each of some fields, the first of which is field k
unfoldable pub hold_all : ℕ → List Field → Bool
unfolding holds signed_at
hold_all k [] = true
hold_all k (f ∷ fs) = holds (signed_at k) f && hold_all (k + 1) fs

-- a request that text can hold
unfoldable pub writable : Request → Bool
unfolding hold_all fields_in
writable r = hold_all 0 (fields_in r)
