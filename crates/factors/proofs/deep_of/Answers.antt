-- Down to 3 km the definition is e^-0.75 (1 - e^0); below, the exponential of a number that is not positive is at most 1. Assumes
-- nothing.
use Prim.Native.Nat.{ℕ, ◌+◌, ◌-◌, ◌*◌, ◌/◌, ◌^◌, ◌≤◌, ◌<◌}
use mathlib.Core.Path.{◌≡◌, refl, sym, ap, ◌∙◌}
use native.Mathlib.Omega.{arith}
use native.Mathlib.Nat.{le_trans, le_of_lt, mul-le-mul, mod-lt, pow-le-pow_right, div-le_of_le-mul}
use lib.Dec.{lit≤}
use lib.IntN.{pos, neg_ℤ, ◌-ℤ◌}
use mir.Syntax.{w64}
use mir.Val.{SFits, to_z, of_z}
use mir.Facts.{to_z_pos, to_z-of_z}
use Rattle.exact.proofs.Signed.{sfits, same_diff, sub_is, neg-up, neg-dn}
use Rattle.fixed.specs.Fixed.{E9, E10, exp_two, exp_shifted, exp_fixed}
use Rattle.reckon.proofs.ExpTerms.{exp_unit-most}
use Rattle.model.specs.Fixed.{deep_fixed}
use Rattle.factors.proofs.deep_of.Goals as goal

-- at 3 km
at_top : 472366552 * (E9 - exp_fixed (neg_ℤ (pos (0 * 250000))) / 10) / E9 ≡ 0
unfolding exp_fixed
at_top = refl

-- down to 3 km
nothing : (z : ℕ) → z ≤ 3000 → 0 ≡ deep_fixed z
unfolding deep_fixed
nothing z h =
    let e : z - 3000 ≡ 0 = omega arith in
    sym (ap (λ (t : ℕ). 472366552 * (E9 - exp_fixed (neg_ℤ (pos (t * 250000))) / 10) / E9) e ∙ at_top)

-- e^-n, n above 0 and at most 22, is at most 1: at least one of the 32 powers of two is missing
below_one : (n : ℕ) → 0 < n → n ≤ 22000000000 → exp_fixed (neg_ℤ (pos n)) ≤ E10
unfolding exp_fixed exp_shifted
below_one n h k = rw (neg-up (pos n), neg-dn (pos n)) (go (10 * 0 + 32 * exp_two - 10 * n) (omega arith))
  where
    go : (y : ℕ) → y < 32 * exp_two → exp_shifted y ≤ E10
    go y l =
        let few : y / exp_two ≤ 31 = omega arith in
        div-le_of_le-mul (2 ^ 32)
        (le_trans (mul-le-mul (pow-le-pow_right {n = 2} (lit≤ tt) few) (exp_unit-most (le_of_lt (mod-lt y (lit≤ tt))))) (lit≤ tt))

-- what the code calls fall, and its opposite
fall_is : (z : ℕ) → z ≤ 10000 → to_z w64 ((z - 3000) * 250000) ≡ pos ((z - 3000) * 250000)
fall_is z h = to_z_pos w64 (omega arith)

minus : (n : ℕ) → pos 0 -ℤ pos n ≡ neg_ℤ (pos n)
minus n = same_diff (pos 0 -ℤ pos n) (neg_ℤ (pos n)) (omega (arith, sub_is (pos 0) (pos n), neg-up (pos n), neg-dn (pos n)))

fits : (z : ℕ) → z ≤ 10000 → SFits w64 (pos 0 -ℤ pos ((z - 3000) * 250000))
fits z h =
    let n : ℕ = (z - 3000) * 250000 in
    rw (minus n) (sfits (neg_ℤ (pos n)) (omega (arith, neg-up (pos n))) (omega (arith, neg-dn (pos n))))

-- what the exponential is handed
read_is : (z : ℕ) → z ≤ 10000
    → to_z w64 (of_z w64 (pos 0 -ℤ to_z w64 ((z - 3000) * 250000))) ≡ neg_ℤ (pos ((z - 3000) * 250000))
read_is z h = rw (fall_is z h) (to_z-of_z (fits z h) ∙ minus ((z - 3000) * 250000))

-- the exponential that the call gave is at most 1
at_most_one : (z e : ℕ) → 3000 < z → z ≤ 10000 → e ≡ exp_fixed (neg_ℤ (pos ((z - 3000) * 250000))) → e ≤ E10
at_most_one z e h k s =
    let some : 0 < (z - 3000) * 250000 = omega arith in
    let few : (z - 3000) * 250000 ≤ 22000000000 = omega arith in
    omega (arith, below_one ((z - 3000) * 250000) some few)

pub returns-then-z-le3000 : goal.returns-then-z-le3000
returns-then-z-le3000 c = nothing c.args.z c.if-z-le3000.true

pub overflow_sub-result : goal.overflow_sub-result
overflow_sub-result c =
    let z = c.args.z in
    let l = at_most_one z c.exp_fixed.result c.if-z-le3000.false c.requires (c.exp_fixed.ensures ∙ ap exp_fixed (read_is z c.requires)) in
    omega arith

pub returns : goal.returns
unfolding deep_fixed
returns c =
    ap (λ (t : ℕ). 472366552 * (E9 - t / 10) / E9) (c.exp_fixed.ensures ∙ ap exp_fixed (read_is c.args.z c.requires))
