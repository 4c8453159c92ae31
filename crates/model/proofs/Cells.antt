-- A number of Table 2 fits in the 16 bits of its cell, and read as 64 bits it is the same number. Assumes nothing.
use Prim.Native.Nat.{◌^◌, ◌<◌}
use mathlib.Core.Path.{◌≡◌, sym, ap, subst, ◌∙◌}
use native.Mathlib.Omega.{arith}
use lib.IntN.{ℤ, pos, negsuc, nat_abs}
use mir.Syntax.{w16, w64}
use mir.Val.{SFits, to_z, of_z}
use mir.Facts.{to_z-of_z}
use Rattle.exact.proofs.Signed.{sfits-abs, abs-parts}
use Rattle.tables.specs.declared.Coefficients.{Coefficients}
use Rattle.tables.specs.OfTables.{OfTable2}
use Rattle.model.proofs.Fair.{fair_of}

-- ---- a cell
pub record Held (n : ℤ) : Type 0 where
  pub cast : SFits w64 (to_z w16 (of_z w16 n))
  pub back : to_z w64 (of_z w64 (to_z w16 (of_z w16 n))) ≡ n

narrow : (n : ℤ) → nat_abs n < 2 ^ 15 → SFits w16 n
narrow (pos n) h = record { sfits = h }
narrow (negsuc n) h = record { sfits = omega (arith, h) }

held : (n : ℤ) → nat_abs n < 2 ^ 15 → Held n
held n h =
    let same : to_z w16 (of_z w16 n) ≡ n = to_z-of_z (narrow n h) in
    let wide : SFits w64 n = sfits-abs n (omega (arith, h)) in
    record { cast = subst (SFits w64) (sym same) wide; back = ap (λ (z : ℤ). to_z w64 (of_z w64 z)) same ∙ to_z-of_z wide }

-- ---- the cells of a row
pub record Cells (c : Coefficients) : Type 0 where
  pub c0 : Held c.c0
  pub c1 : Held c.c1
  pub c2 : Held c.c2
  pub c3 : Held c.c3
  pub c4 : Held c.c4
  pub c5 : Held c.c5
  pub c7 : Held c.c7
  pub c8 : Held c.c8
  pub c9 : Held c.c9
  pub c10 : Held c.c10
  pub c11 : Held c.c11
  pub c12 : Held c.c12
  pub k2 : Held c.k2
  pub k3 : Held c.k3

pub cells : (c : Coefficients) → OfTable2 c → Cells c
cells c o =
    let f = fair_of c o in
    record {
      c0 = held c.c0 (omega (arith, f.magnitude-small));
      c1 = held c.c1 (omega (arith, f.magnitude-small));
      c2 = held c.c2 (omega (arith, f.magnitude-small));
      c3 = held c.c3 (omega (arith, f.magnitude-small));
      c4 =
          held c.c4
          (omega (arith, abs-parts c.c4, abs-parts c.c5, f.c4_sign, f.c5_sign, f.slope-low, f.slope-high));
      c5 =
          held c.c5
          (omega (arith, abs-parts c.c4, abs-parts c.c5, f.c4_sign, f.c5_sign, f.slope-low, f.slope-high));
      c7 = held c.c7 (omega (arith, f.c7_small));
      c8 = held c.c8 (omega (arith, f.c8_small));
      c9 = held c.c9 (omega (arith, f.c9_small));
      c10 = held c.c10 (omega (arith, f.c10_small));
      c11 = held c.c11 (omega (arith, f.c11_small));
      c12 = held c.c12 (omega (arith, f.c12_small));
      k2 = held c.k2 (omega (arith, abs-parts c.k2, f.k2_sign, f.k2_small));
      k3 = held c.k3 (omega (arith, f.k3_small));
    }
