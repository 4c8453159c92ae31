-- Two products and their sum, small by the row's sizes. Assumes nothing.
use Prim.Native.Nat.{◌≤◌}
use native.Mathlib.Omega.{arith}
use lib.IntN.{pos, nat_abs, ◌*ℤ◌}
use mir.Syntax.{w64}
use mir.Val.{SFits}
use mir.Facts.{to_z-of_z}
use Rattle.exact.proofs.Signed.{sfits-abs, abs-parts, mul-abs}
use Rattle.tables.specs.declared.Coefficients.{Coefficients}
use Rattle.model.specs.Equations.{linear}
use Rattle.tables.specs.OfTables.{OfTable2}
use Rattle.model.proofs.Fair.{fair_of}
use Rattle.model.proofs.Cells.{Cells, cells}
use Rattle.terms.proofs.Rows.{of_table}
use Rattle.site.proofs.OnSoil.linear.Goals as goal

record Steps (c : Coefficients) : Type 0 where
  cells : Cells c
  p : SFits w64 (pos 100 *ℤ c.c10)
  q : SFits w64 (pos 118 *ℤ c.k2)
  sum : SFits w64 (linear c)

steps : (c : Coefficients) → OfTable2 c → Steps c
steps c o =
    let f = fair_of c o in
    let k : nat_abs c.k2 ≤ 2670 = omega (arith, abs-parts c.k2, f.k2_sign, f.k2_small) in
    record {
      cells = cells c o;
      p = sfits-abs (pos 100 *ℤ c.c10) (omega (arith, f.c10_small, mul-abs (pos 100) c.c10));
      q = sfits-abs (pos 118 *ℤ c.k2) (omega (arith, k, mul-abs (pos 118) c.k2));
      sum = sfits-abs (linear c) (omega (arith, f.linear-small));
    }

pub returns : goal.returns
returns c =
    let f = steps c.args.self.now.measure.c (of_table c.args.self.now.measure) in
    simp (c.from.ensures, c.from-2.ensures, f.cells.c10.back, f.cells.k2.back, to_z-of_z f.p, to_z-of_z f.q, to_z-of_z f.sum)
