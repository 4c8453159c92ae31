-- An array of fine rows that is filled from its start, PGA's row known from the first: a row set, and PGA's passed over. Assumes nothing.
use Prim.Native.Nat.{ℕ, ◌+◌, ◌<◌}
use mathlib.Core.Path.{◌≡◌, sym, ap₂, subst, ◌∙◌}
use mathlib.Core.List.{List}
use native.Mathlib.Omega.{arith}
use lib.ListN.{length, get_or, set, length-set}
use lib.Seq.{get_or-set_same, get_or-set_other}
use borrow.Author.Count.{below_more}
use Rattle.model.specs.declared.Scenario.{Scenario}
use Rattle.model.specs.declared.Fine.{Fine}
use Rattle.tables.specs.Tables.{PGA}
use Rattle.model.specs.Fixed.{own_fixed, fine_fixed, no_fine}

-- the row of a measure at hand, of its number and its figures
pub own_as : (i j : ℕ) (x y : Scenario) (v : Fine) → v ≡ own_fixed j y → j ≡ i → y ≡ x → v ≡ own_fixed i x
own_as i j x y v e p q = e ∙ ap₂ own_fixed p q

pub record Filled (x : Scenario) (rows : List Fine) (k : ℕ) : Type 0 where
  pub whole : length rows ≡ 24
  pub pga : get_or rows PGA no_fine ≡ fine_fixed PGA x
  pub below : (j : ℕ) → j < k → get_or rows j no_fine ≡ fine_fixed j x

pub set_filled :
    (x : Scenario) (rows : List Fine) (k : ℕ) (v : Fine) → k < 24 → (k ≡ PGA → ⊥) → v ≡ fine_fixed k x → Filled x rows k
    → Filled x (set rows k v) (k + 1)
set_filled x rows k v h other e f =
    record {
      whole = length-set rows k v ∙ f.whole;
      pga = get_or-set_other rows k PGA v no_fine (λ p. other (sym p)) ∙ f.pga;
      below =
          below_more (λ (j : ℕ). get_or (set rows k v) j no_fine ≡ fine_fixed j x) k
          (λ j l. get_or-set_other rows k j v no_fine (λ p. absurd (omega (arith, p, l))) ∙ f.below j l)
          (get_or-set_same rows k v no_fine (omega (arith, h, f.whole)) ∙ e);
    }

pub pass_filled : (x : Scenario) (rows : List Fine) (k : ℕ) → k ≡ PGA → Filled x rows k → Filled x rows (k + 1)
pass_filled x rows k e f =
    record {
      whole = f.whole;
      pga = f.pga;
      below =
          below_more (λ (j : ℕ). get_or rows j no_fine ≡ fine_fixed j x) k f.below
          (subst (λ (j : ℕ). get_or rows j no_fine ≡ fine_fixed j x) (sym e) f.pga);
    }
