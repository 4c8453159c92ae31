-- Demand 3 for a request: every row of an accepted request's spectrum is as near the exact values as `Accurate` says, and so is what a
-- sheet shows of it; a refused one has its refusal, and zeros in all 24 rows where it is seen as figures. So no spectrum given always, no row copied and no row left zero passes. Assumes
-- nothing.
use Prim.Native.Nat.{ℕ, ◌*◌, ◌<◌}
use mathlib.Core.Path.{◌≡◌, refl, sym, subst}
use mathlib.Core.List.{List, map}
use lib.IntN.{pos}
use lib.ListN.{length, get_or, get_or-map, length-replicate, get_or-replicate}
use Rattle.std.specs.Prelude.{Result, Ok, Err}
use Rattle.refusals.specs.declared.Refusal.{Refusal}
use Rattle.refusals.specs.Order.{number_in}
use Rattle.request.specs.declared.Request.{Request}
use Rattle.outcome.specs.Answers.{completion_of}
use Rattle.model.specs.declared.Row.{Row}
use Rattle.model.specs.Rows.{shown_of, no_row, no_shown}
use Rattle.model.specs.Accuracy.{Exact, exact_of, Accurate, ShownAccurate}
use Rattle.model.specs.Equations.{E24}
use Rattle.model.proofs.Demand.{demand_3, inter_exact}
use Rattle.prediction.specs.Spectra.{scenario_of, spectrum_for, spectrum_of, spectrum_as, shown_spectrum_of, map_ok, rows_in, figures_as, figures_in, shown_figures_in}
use Rattle.prediction.specs.Sizes.{Small, ShownSmall}
use Rattle.prediction.proofs.Completed.{in_range}
use Rattle.prediction.proofs.RowLaws.{rows-length, row_is, row_small, zeros_small, spectrum_done, spectrum_refused, spectrum_figures, told_figures, by_completion}

-- ---- accepted
pub accepted-rows :
    (r c : Request) (k : ℕ) → completion_of r ≡ Ok c → k < 24
    → Accurate (exact_of k (scenario_of c)) (get_or (rows_in (spectrum_of r)) k no_row)
accepted-rows r c k e h =
    rw (spectrum_done r c e, row_is (scenario_of c) k h) (demand_3 k (scenario_of c) h (in_range r c e))

-- the inter-event sigma of each is the exact one
pub accepted-inter :
    (r c : Request) (k : ℕ) → completion_of r ≡ Ok c → k < 24
    → (get_or (rows_in (spectrum_of r)) k no_row).inter * E24 ≡ (exact_of k (scenario_of c)).inter
accepted-inter r c k e h = rw (spectrum_done r c e, row_is (scenario_of c) k h) (inter_exact k (scenario_of c))

-- there are 24
pub accepted_count : (r : Request) (rows : List Row) → spectrum_of r ≡ Ok rows → length rows ≡ 24
accepted_count r rows s = let f = spectrum_figures r rows s in rw f.2 (rows-length (scenario_of f.0))

-- ---- refused
pub refused_number : (r : Request) (n : Refusal) → completion_of r ≡ Err n → spectrum_of r ≡ Err n
refused_number r n e = spectrum_refused r n e

pub refused-rows :
    (r : Request) (n : Refusal) (k : ℕ) → completion_of r ≡ Err n → k < 24 → get_or (figures_in (spectrum_of r)) k no_row ≡ no_row
unfolding figures_as
refused-rows r n k e h = rw (spectrum_refused r n e) (get_or-replicate 24 k no_row no_row h)

-- every figure of which is 0
pub refused_figures :
    (r : Request) (n : Refusal) (k : ℕ) → completion_of r ≡ Err n → k < 24
    → let row = get_or (figures_in (spectrum_of r)) k no_row in
    (row.ln ≡ pos 0) × (row.median ≡ 0) × (row.intra ≡ 0) × (row.inter ≡ 0) × (row.total ≡ 0) × (row.arbitrary ≡ 0)
refused_figures r n k e h = rw (refused-rows r n k e h) (refl, refl, refl, refl, refl, refl)

-- ---- any request
-- the refusal's number is the completion's, 0 for none
pub number_handed_on : (r : Request) → number_in (spectrum_of r) ≡ number_in (completion_of r)
unfolding spectrum_of spectrum_for
number_handed_on r = by_completion r (λ c e. rw e) (λ n e. rw e)

pub twenty_four : (r : Request) → length (figures_in (spectrum_of r)) ≡ 24
unfolding figures_as
twenty_four r =
    by_completion r (λ c e. rw (spectrum_done r c e) (rows-length (scenario_of c)))
    (λ n e. rw (spectrum_refused r n e) (length-replicate 24 no_row))

pub rows-small : (r : Request) (k : ℕ) → k < 24 → Small (get_or (figures_in (spectrum_of r)) k no_row)
unfolding figures_as
rows-small r k h =
    by_completion r (λ c e. rw (spectrum_done r c e) (row_small (scenario_of c) k h (in_range r c e)))
    (λ n e. subst Small (sym (refused-rows r n k e h)) zeros_small)

-- the same of the rows alone, of which a refusal has none
pub rows_in-small : (r : Request) (k : ℕ) → k < 24 → Small (get_or (rows_in (spectrum_of r)) k no_row)
rows_in-small r k h =
    by_completion r (λ c e. rw (spectrum_done r c e) (row_small (scenario_of c) k h (in_range r c e)))
    (λ n e. rw (spectrum_refused r n e) zeros_small)

-- ---- what is shown of it
pub shown_number : (r : Request) → number_in (shown_spectrum_of r) ≡ number_in (spectrum_of r)
unfolding shown_spectrum_of spectrum_as
shown_number r = go (spectrum_of r)
  where
    go : (s : Result (List Row) Refusal) → number_in (map_ok (λ rows. map shown_of rows) s) ≡ number_in s
    go (Ok rows) = refl
    go (Err n) = refl

pub shown_at :
    (r : Request) (k : ℕ)
    → get_or (shown_figures_in (shown_spectrum_of r)) k no_shown ≡ shown_of (get_or (figures_in (spectrum_of r)) k no_row)
unfolding shown_spectrum_of shown_of
shown_at r k = rw (told_figures shown_of r) (get_or-map shown_of (figures_in (spectrum_of r)) k no_row)

-- the same of the rows alone
pub rows_in-shown :
    (r : Request) (k : ℕ) → get_or (rows_in (shown_spectrum_of r)) k no_shown ≡ shown_of (get_or (rows_in (spectrum_of r)) k no_row)
unfolding shown_spectrum_of spectrum_as shown_of
rows_in-shown r k = go (spectrum_of r)
  where
    go :
        (s : Result (List Row) Refusal)
        → get_or (rows_in (map_ok (λ rows. map shown_of rows) s)) k no_shown ≡ shown_of (get_or (rows_in s) k no_row)
    go (Ok rows) = get_or-map shown_of rows k no_row
    go (Err n) = refl

-- as near as the rows
pub shown_near : (e : Exact) (r : Row) → Accurate e r → ShownAccurate e (shown_of r)
unfolding shown_of
shown_near e r a = record { ln_near = a.ln_near; median-near = a.median-near; sigma_near = a.total-near }

pub accepted_shown :
    (r c : Request) (k : ℕ) → completion_of r ≡ Ok c → k < 24
    → ShownAccurate (exact_of k (scenario_of c)) (get_or (rows_in (shown_spectrum_of r)) k no_shown)
accepted_shown r c k e h =
    rw (rows_in-shown r k) (shown_near (exact_of k (scenario_of c)) (get_or (rows_in (spectrum_of r)) k no_row) (accepted-rows r c k e h))

pub shown_small : (r : Row) → Small r → ShownSmall (shown_of r)
unfolding shown_of
shown_small r s = record { ln = s.ln; median = s.median; sigma = s.total }

pub shown_rows_small : (r : Request) (k : ℕ) → k < 24 → ShownSmall (get_or (shown_figures_in (shown_spectrum_of r)) k no_shown)
shown_rows_small r k h =
    subst ShownSmall (sym (shown_at r k)) (shown_small (get_or (figures_in (spectrum_of r)) k no_row) (rows-small r k h))

-- the same of the rows alone
pub rows_in-shown_small : (r : Request) (k : ℕ) → k < 24 → ShownSmall (get_or (rows_in (shown_spectrum_of r)) k no_shown)
rows_in-shown_small r k h =
    subst ShownSmall (sym (rows_in-shown r k)) (shown_small (get_or (rows_in (spectrum_of r)) k no_row) (rows_in-small r k h))
