-- How large a row between two fine ones is: ln median lies where the two do, a sigma is at most 1.55. Assumes nothing.
use Prim.Native.Nat.{ℕ, ◌*◌, ◌≤◌, zero-le}
use native.Mathlib.Omega.{arith}
use native.Mathlib.Nat.{le_of_lt}
use lib.IntN.{pos}
use Rattle.exact.specs.Near.{up}
use Rattle.fixed.specs.Fixed.{E9}
use Rattle.model.specs.declared.Fine.{Fine}
use Rattle.model.specs.Fixed.{FineInRange}
use Rattle.between.specs.Fixed.{on_line_fixed, fine_sigma, sigma_on_line_fixed, drawn_fixed, DrawnInRange}
use Rattle.between.proofs.Line.{line-inside}
use Rattle.between.proofs.Sigma.{fine_sigma-high}

module _ (w : ℕ) (hw : w ≤ E9) where
  plain-high : (a b : ℕ) → a ≤ 1549200000 → b ≤ 1549200000 → up (on_line_fixed w (pos a) (pos b)) ≤ 1549200000
  plain-high a b ha hb = (line-inside w (pos a) (pos b) 1549200000 0 hw ha hb zero-le zero-le).0

  sigma_high : (v u : ℕ) → v ≤ 2400000000 → u ≤ 2400000000 → sigma_on_line_fixed w v u ≤ 1549200000
  sigma_high v u hv hu = plain-high (fine_sigma v) (fine_sigma u) (le_of_lt (fine_sigma-high v hv)) (le_of_lt (fine_sigma-high u hu))

  inter-high : (t : ℕ) → t ≤ 500 → t * 1000000 ≤ 1549200000
  inter-high t h = omega arith

  pub drawn_in_range : (f g : Fine) → FineInRange f → FineInRange g → DrawnInRange (drawn_fixed w f g)
  unfolding drawn_fixed
  drawn_in_range f g p q =
      let l = line-inside w f.ln g.ln 13000000400 15000000400 hw p.ln_high q.ln_high p.ln_low q.ln_low in
      record {
        ln_low = l.1;
        ln_high = l.0;
        intra-high = sigma_high f.intra g.intra p.intra-high q.intra-high;
        inter-high = plain-high (f.t * 1000000) (g.t * 1000000) (inter-high f.t p.t_high) (inter-high g.t q.t_high);
        total-high = sigma_high f.total g.total p.total-high q.total-high;
        arbitrary-high = sigma_high f.arbitrary g.arbitrary p.arbitrary-high q.arbitrary-high;
      }
