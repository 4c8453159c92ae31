-- A given RRUP that is too long for the fault: 0 never is, so that "at least 1" need not be asked; and none is too short as well, so that
-- the order of these two rows shows in no answer. Assumes nothing.
use Prim.Native.Nat.{ℕ, ◌+◌, ◌-◌, ◌*◌, ◌≤◌}
use mathlib.Core.Path.{◌≡◌, refl, subst, ◌∙◌}
use mathlib.Core.Bool.{Bool, true, false, not, ◌&&◌, and-false}
use native.Mathlib.Omega.{arith}
use native.Mathlib.Nat.{mul-le-mul}
use lib.Dec.{T, leb, ltb}
use borrow.Author.Tests.{leb-false, ltb-true, ltb-false, le-ltb}
use Rattle.request.specs.declared.Request.{Request}
use Rattle.request.specs.Fields.{is_given, size_of}
use Rattle.outcome.specs.Figures.{width, ztor}
use Rattle.outcome.specs.Refusals.{too_short, too_far}

pub one_unasked : (n N : ℕ) → ltb N ((n - 1) * (n - 1)) ≡ leb 1 n && ltb N ((n - 1) * (n - 1))
one_unasked n N = go (leb 1 n) refl
  where
    go : (t : Bool) → leb 1 n ≡ t → ltb N ((n - 1) * (n - 1)) ≡ t && ltb N ((n - 1) * (n - 1))
    go true l = refl
    go false l =
        let none : n - 1 ≤ 0 = omega (arith, leb-false 1 n l) in
        le-ltb N ((n - 1) * (n - 1)) (omega (arith, mul-le-mul none none))

-- where it is not, a metre less is not above the root of RJB² + (ZTOR + W)²
pub not_longer : (n N : ℕ) → leb 1 n && ltb N ((n - 1) * (n - 1)) ≡ false → (n - 1) * (n - 1) ≤ N
not_longer n N e = ltb-false N ((n - 1) * (n - 1)) (one_unasked n N ∙ e)

pub not_short_and_far : (r : Request) → too_short r ≡ true → too_far r ≡ false
unfolding too_short too_far
not_short_and_far r e =
    rw (le-ltb _ _ bound, and-false (leb 1 n)) (and-false (is_given r.rrup))
  where
    n : ℕ
    n = size_of r.rrup

    J : ℕ
    J = size_of r.rjb * size_of r.rjb

    z : ℕ
    z = size_of (ztor r)

    w : ℕ
    w = size_of (width r)

    second : (a b : Bool) → a && b ≡ true → b ≡ true
    second true b h = h
    second false b h = absurd (subst (λ (t : Bool). T (not t)) h tt)

    short : (n + 1) * (n + 1) ≤ J + z * z
    short = omega (arith, ltb-true ((n + 1) * (n + 1)) (J + z * z) (second (is_given r.rrup) _ e))

    less : n - 1 ≤ n + 1
    less = omega arith

    bound : (n - 1) * (n - 1) ≤ J + (z + w) * (z + w)
    bound = omega (arith, mul-le-mul less less, short)
