-- A signed quotient rounded toward zero or down is within one of the quotient, so a product of two exact numbers is. Assumes nothing.
use Prim.Native.Nat.{ℕ, suc, ◌+◌, ◌*◌, ◌/◌, ◌<◌}
use mathlib.Core.Path.{◌≡◌, ap, ◌∙◌}
use native.Mathlib.Omega.{arith}
use native.Mathlib.Nat.{mul_comm, mul-add, div-mul-le_self, lt-div-mul-add}
use lib.Dec.{lit≤}
use lib.IntN.{ℤ, pos, negsuc, ◌*ℤ◌}
use lib.Signed.{quot_z, shr_z}
use Rattle.exact.specs.Near.{up, dn}
use Rattle.exact.specs.Laws.{Whole}
use Rattle.exact.specs.Exact.{E30, mul_e}
use Rattle.exact.proofs.Signed.{quot-up, quot-dn}

pub quot-whole : (D : ℕ) (b : ℤ) → 0 < D → Whole D (quot_z b (pos D)) b
quot-whole D b hD =
    let eu : D * up (quot_z b (pos D)) ≡ up b / D * D = ap (λ (t : ℕ). D * t) (quot-up b D) ∙ mul_comm D (up b / D) in
    let ed : D * dn (quot_z b (pos D)) ≡ dn b / D * D = ap (λ (t : ℕ). D * t) (quot-dn b D) ∙ mul_comm D (dn b / D) in
    record {
      low = omega (arith, eu, ed, div-mul-le_self (up b) D, lt-div-mul-add {a = dn b} {b = D} hD);
      high = omega (arith, eu, ed, div-mul-le_self (dn b) D, lt-div-mul-add {a = up b} {b = D} hD);
    }

pub floor_whole : (D : ℕ) (b : ℤ) → 0 < D → Whole D (shr_z b D) b
floor_whole D (pos n) hD =
    record {
      low = omega (arith, mul_comm D (n / D), div-mul-le_self n D);
      high = omega (arith, mul_comm D (n / D), lt-div-mul-add {a = n} {b = D} hD);
    }
floor_whole D (negsuc n) hD =
    let e : D * suc (n / D) ≡ n / D * D + D = next (n / D) in
    record {
      low = omega (arith, e, lt-div-mul-add {a = n} {b = D} hD);
      high = omega (arith, e, div-mul-le_self n D);
    }
  where
    next : (q : ℕ) → D * suc q ≡ q * D + D
    next q = omega (arith, mul-add D q 1, mul_comm D q)

pub mul_e-whole : (a b : ℤ) → Whole E30 (mul_e a b) (a *ℤ b)
unfolding mul_e
mul_e-whole a b = floor_whole E30 (a *ℤ b) (lit≤ tt)
