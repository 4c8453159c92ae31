-- At the short periods of any request neither the reported ln median nor the reported median is below PGA's. Assumes nothing.
use Prim.Native.Nat.{ℕ, ◌≤◌, ◌<◌}
use mathlib.Core.Path.{◌≡◌, sym, subst, subst₂, ◌∙◌}
use mathlib.Core.Bool.{true}
use mathlib.Core.List.{List}
use native.Mathlib.Nat.{le_refl, le_trans}
use lib.Dec.{lit≤, lit<}
use lib.ListN.{get_or}
use lib.Signed.{◌≤ℤ◌, ≤ℤ_refl}
use borrow.Author.Tests.{ltb-true}
use Rattle.std.specs.Prelude.{Result, Ok}
use Rattle.refusals.specs.declared.Refusal.{Refusal}
use Rattle.request.specs.declared.Request.{Request}
use Rattle.tables.specs.Tables.{PGA}
use Rattle.model.specs.declared.Row.{Row}
use Rattle.model.specs.Equations.{is_short}
use Rattle.model.specs.Rows.{no_row}
use Rattle.model.proofs.ShortPeriods.{short_are, row_not_below}
use Rattle.prediction.specs.Spectra.{scenario_of, spectrum_of, figures_as, figures_in}
use Rattle.prediction.proofs.RowLaws.{row_is, spectrum_done, by_completion}
use Rattle.prediction.proofs.DemandThree.{refused-rows}

-- a short period is a measure
short-below : (k : ℕ) → is_short k ≡ true → k < 24
short-below k s = le_trans (ltb-true k 9 (sym (short_are k) ∙ s)) (lit≤ tt)

-- neither figure of the one row is above that of the other
abbrev NotAbove : Row → Row → Type 0
NotAbove p q = (p.ln ≤ℤ q.ln) × (p.median ≤ q.median)

pub not_below_pga_lem :
    (r : Request) (k : ℕ) → is_short k ≡ true
    → ((get_or (figures_in (spectrum_of r)) PGA no_row).ln ≤ℤ (get_or (figures_in (spectrum_of r)) k no_row).ln)
    × ((get_or (figures_in (spectrum_of r)) PGA no_row).median ≤ (get_or (figures_in (spectrum_of r)) k no_row).median)
unfolding figures_as
not_below_pga_lem r k s =
    let h = short-below k s in
    by_completion r
    (λ c e.
    let x = scenario_of c in
    rw (spectrum_done r c e) (subst₂ NotAbove (sym (row_is x PGA (lit< tt))) (sym (row_is x k h)) (row_not_below k x s)))
    (λ n e.
    subst₂ NotAbove (sym (refused-rows r n PGA e (lit< tt))) (sym (refused-rows r n k e h)) (≤ℤ_refl no_row.ln, le_refl 0))

-- and so it is of an answer's rows
pub answer_not_below_pga :
    (r : Request) (rows : List Row) (k : ℕ) → spectrum_of r ≡ Ok rows → is_short k ≡ true
    → ((get_or rows PGA no_row).ln ≤ℤ (get_or rows k no_row).ln) × ((get_or rows PGA no_row).median ≤ (get_or rows k no_row).median)
unfolding figures_as
answer_not_below_pga r rows k e s =
    subst (λ (a : Result (List Row) Refusal). NotAbove (get_or (figures_in a) PGA no_row) (get_or (figures_in a) k no_row)) e
    (not_below_pga_lem r k s)
