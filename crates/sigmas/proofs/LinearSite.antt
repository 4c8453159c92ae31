-- The steps of the intra-event variance, and a linear site: with alpha 0 nothing is added to s², and its root is s. Assumes nothing.
use Prim.Native.Nat.{ℕ, ◌+◌, ◌*◌, ◌/◌, ◌<◌}
use mathlib.Core.Path.{◌≡◌, refl, sym, ap, ◌∙◌}
use native.Mathlib.Omega.{arith}
use native.Mathlib.Nat.{le_refl, mul-zero, zero-mul, mul-mul-mul_comm, add-mul, mul-add, mul-one, one-mul}
use lib.IntN.{ℤ, pos, nat_abs, ◌+ℤ◌}
use Rattle.exact.specs.Near.{up}
use Rattle.exact.specs.Root.{root}
use Rattle.exact.proofs.Root.{root_unique}
use Rattle.fixed.specs.Fixed.{E9, mul_div}
use Rattle.fixed.proofs.SignedLaws.{mul_div_zero}
use Rattle.tables.specs.declared.Deviations.{Deviations}
use Rattle.tables.specs.Tables.{measures, PGA, table3, deviations_at}
use Rattle.tables.proofs.RowsRead.{of_deviations}
use Rattle.model.specs.Fixed.{squared_fixed, at_base_fixed, cross_fixed, intra_variance_fixed, sigma_of}
use Rattle.model.proofs.Fair.{Spread, spread_of}

-- ---- the steps
-- sigma_lnAB
abbrev pub rock_sigma : ℕ
rock_sigma = at_base_fixed (deviations_at PGA).s

-- the constant of the code
pub rock_is : rock_sigma ≡ 372134384
unfolding at_base_fixed deviations_at table3
rock_is = refl

-- alpha sigma_lnAB
abbrev pub y_of : ℤ → ℤ
y_of a = mul_div (pos rock_sigma) a (pos E9)

-- what is added to s²
abbrev pub added_of : Deviations → ℤ → ℤ
added_of d a = mul_div (y_of a) (y_of a +ℤ pos (cross_fixed d)) (pos E9)

-- nothing is where alpha is 0
pub flat : (d : Deviations) → squared_fixed d.s ≡ up (intra_variance_fixed d (pos 0))
unfolding intra_variance_fixed
flat d =
    let none : y_of (pos 0) ≡ pos 0 = mul_div_zero (pos rock_sigma) (pos 0) (pos E9) (omega (arith, mul-zero rock_sigma)) in
    let more : mul_div (pos 0) (pos 0 +ℤ pos (cross_fixed d)) (pos E9) ≡ pos 0 =
    mul_div_zero (pos 0) (pos 0 +ℤ pos (cross_fixed d)) (pos E9) (omega (arith, zero-mul (nat_abs (pos 0 +ℤ pos (cross_fixed d))))) in
    sym
    (ap (λ (y : ℤ). up (pos (squared_fixed d.s) +ℤ mul_div y (y +ℤ pos (cross_fixed d)) (pos E9))) none
    ∙ ap (λ (z : ℤ). up (pos (squared_fixed d.s) +ℤ z)) more
    ∙ plain (squared_fixed d.s))
  where
    plain : (n : ℕ) → n + 0 ≡ n
    plain n = omega arith

-- ---- the sizes of a measure's row of Table 3
pub spread_row : (i : ℕ) (d : Deviations) → i < measures → d ≡ deviations_at i → Spread d
spread_row i d h e = spread_of d (of_deviations i d h e)

-- ---- the root of a square
own_root : (r : ℕ) → root (r * r) ≡ r
own_root r = sym (root_unique (r * r) r (record { low = le_refl (r * r); high = bigger }))
  where
    bigger : r * r < (r + 1) * (r + 1)
    bigger = simp (add-mul, mul-add, mul-one, one-mul) (omega arith)

square-is : (s : ℕ) → 4000 * (s * s * 1000) ≡ 2000 * s * (2000 * s)
square-is s = omega (arith, mul-mul-mul_comm 2000 s 2000 s)

pub whole_sigma : (s : ℕ) → sigma_of (squared_fixed s) ≡ s * 1000
unfolding sigma_of
whole_sigma s = ap (λ (t : ℕ). (t + 1) / 2) (ap root (square-is s) ∙ own_root (2000 * s)) ∙ omega arith
