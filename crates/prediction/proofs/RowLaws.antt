-- The rows of a spectrum one by one, how large their figures are, and that what is told at every index is told of the spectrum's rows.
-- Assumes nothing.
use Prim.Native.Nat.{ℕ, zero, suc, ◌+◌, ◌≤◌, ◌<◌}
use mathlib.Core.Path.{◌≡◌, refl, sym, ap, subst, ◌∙◌}
use mathlib.Core.Bool.{Bool, true, false}
use mathlib.Core.List.{List, map}
use native.Mathlib.Omega.{arith}
use lib.Dec.{ltb, lit≤, lit<}
use lib.IntN.{ℤ, pos}
use lib.ListN.{length, get_or, length-map, get_or-map}
use lib.Seq.{ext_get_or}
use Rattle.std.specs.Prelude.{Result, Ok, Err}
use Rattle.std.proofs.lemmas.List.{map-id}
use Rattle.exact.specs.Near.{up}
use Rattle.exact.specs.Series.{exp_terms}
use Rattle.fixed.specs.Fixed.{exp_unit, exp_shifted, exp_fixed}
use Rattle.fixed.proofs.Growing.{exp_fixed_mono}
use Rattle.refusals.specs.declared.Refusal.{Refusal}
use Rattle.request.specs.declared.Request.{Request}
use Rattle.outcome.specs.Answers.{completion_of}
use Rattle.model.specs.declared.Scenario.{Scenario}
use Rattle.model.specs.declared.Fine.{Fine}
use Rattle.model.specs.declared.Row.{Row}
use Rattle.model.specs.Fixed.{fine_fixed, report, row_fixed, FineInRange}
use Rattle.model.specs.Rows.{no_row}
use Rattle.model.specs.Accuracy.{InRange}
use Rattle.model.specs.Equations.{most}
use Rattle.model.proofs.Demand.{fine_in_range}
use Rattle.model.proofs.Sizes.{ln_size, sigma_size}
use Rattle.prediction.specs.Spectra.{scenario_of, rows_from, rows_of, map_ok, spectrum_for, spectrum_of, spectrum_as, figures_as, figures_in}
use Rattle.prediction.specs.Sizes.{Small}

-- ---- the rows
from-length : (n k : ℕ) (x : Scenario) → length (rows_from n k x) ≡ n
unfolding rows_from
from-length zero k x = refl
from-length (suc n) k x = ap suc (from-length n (k + 1) x)

from_at : (n k : ℕ) (x : Scenario) (j : ℕ) → j < n → get_or (rows_from n k x) j no_row ≡ row_fixed (k + j) x
unfolding rows_from
from_at zero k x j h = absurd (omega arith)
from_at (suc n) k x zero h = ap (λ (i : ℕ). row_fixed i x) (same k)
  where
    same : (k : ℕ) → k ≡ k + 0
    same k = omega arith
from_at (suc n) k x (suc j) h = from_at n (k + 1) x j (omega arith) ∙ ap (λ (i : ℕ). row_fixed i x) (same k j)
  where
    same : (k j : ℕ) → k + 1 + j ≡ k + suc j
    same k j = omega arith

pub rows-length : (x : Scenario) → length (rows_of x) ≡ 24
unfolding rows_of
rows-length x = from-length 24 0 x

pub row_is : (x : Scenario) (k : ℕ) → k < 24 → get_or (rows_of x) k no_row ≡ row_fixed k x
unfolding rows_of
row_is x k h = from_at 24 0 x k h ∙ ap (λ (i : ℕ). row_fixed i x) (same k)
  where
    same : (k : ℕ) → 0 + k ≡ k
    same k = omega arith

-- an array that is right at every index is the list
pub rows_are :
    {A : Type 0} (tell : Row → A) (x : Scenario) (told : List A) → length told ≡ 24
    → ((k : ℕ) (d : A) → k < 24 → get_or told k d ≡ tell (row_fixed k x)) → told ≡ map tell (rows_of x)
rows_are tell x told e h =
    let d = tell no_row in
    ext_get_or d told (map tell (rows_of x)) (e ∙ sym (length-map (rows_of x) tell ∙ rows-length x))
    (λ i l.
    let k : i < 24 = omega (arith, e) in
    h i d k ∙ ap tell (sym (row_is x i k)) ∙ sym (get_or-map tell (rows_of x) i no_row))

-- ---- a spectrum by the completion's case
pub spectrum_done : (r c : Request) → completion_of r ≡ Ok c → spectrum_of r ≡ Ok (rows_of (scenario_of c))
unfolding spectrum_of spectrum_for
spectrum_done r c e = rw e

pub spectrum_refused : (r : Request) (n : Refusal) → completion_of r ≡ Err n → spectrum_of r ≡ Err n
unfolding spectrum_of spectrum_for
spectrum_refused r n e = rw e

-- the two cases of any request
pub by_completion :
    {P : Type 0} (r : Request) → ((c : Request) → completion_of r ≡ Ok c → P) → ((n : Refusal) → completion_of r ≡ Err n → P) → P
by_completion {P} r f g = go (completion_of r) refl
  where
    go : (a : Result Request Refusal) → completion_of r ≡ a → P
    go (Ok c) e = f c e
    go (Err n) e = g n e

-- the figures of a request that has a spectrum
pub spectrum_figures :
    (r : Request) (rows : List Row) → spectrum_of r ≡ Ok rows
    → (c : Request) × (completion_of r ≡ Ok c) × (rows ≡ rows_of (scenario_of c))
spectrum_figures r rows s =
    by_completion r (λ c e. let d = spectrum_done r c e in (c, e, cc)) (λ n e. let d = spectrum_refused r n e in absurd cc)

-- ---- what is told of it
module _ {A : Type 0} (tell : Row → A) (r : Request) where
  pub told_done : (c : Request) → completion_of r ≡ Ok c → spectrum_as tell r ≡ Ok (map tell (rows_of (scenario_of c)))
  unfolding spectrum_as
  told_done c e = rw (spectrum_done r c e)

  pub told_refused : (n : Refusal) → completion_of r ≡ Err n → spectrum_as tell r ≡ Err n
  unfolding spectrum_as
  told_refused n e = rw (spectrum_refused r n e)

  -- the rows of which it is told
  pub told_rows : (told : List A) → spectrum_as tell r ≡ Ok told → (rows : List Row) × (spectrum_of r ≡ Ok rows) × (told ≡ map tell rows)
  unfolding spectrum_as
  told_rows told s = go (spectrum_of r) refl s
    where
      go :
          (a : Result (List Row) Refusal) → spectrum_of r ≡ a → map_ok (λ rows. map tell rows) a ≡ Ok told
          → (rows : List Row) × (spectrum_of r ≡ Ok rows) × (told ≡ map tell rows)
      go (Ok rows) e s = (rows, e, cc)
      go (Err n) e s = absurd cc

  -- as figures, of which zeros are told beside a refusal
  pub told_figures : figures_as tell (spectrum_as tell r) ≡ map tell (figures_in (spectrum_of r))
  unfolding spectrum_as figures_as
  told_figures = go (spectrum_of r)
    where
      go : (a : Result (List Row) Refusal) → figures_as tell (map_ok (λ rows. map tell rows) a) ≡ map tell (figures_in a)
      go (Ok rows) = refl
      go (Err n) = refl

-- the rows themselves
pub told_whole : (r : Request) → spectrum_as (λ w. w) r ≡ spectrum_of r
unfolding spectrum_as
told_whole r = go (spectrum_of r)
  where
    go : (s : Result (List Row) Refusal) → map_ok (λ rows. map (λ w. w) rows) s ≡ s
    go (Ok rows) = ap Ok (map-id rows)
    go (Err n) = refl

-- ---- how large
-- the largest median
top_median : exp_fixed (pos 13000000400) < 9007199254740992
unfolding exp_fixed exp_shifted exp_unit exp_terms
top_median = lit< tt

median_small : (x : ℤ) → up x ≤ 13000000400 → most 1 (exp_fixed x) < 9007199254740992
median_small x h = go (ltb 1 (exp_fixed x))
  where
    go : (t : Bool) → elim t [ true ↦ exp_fixed x | false ↦ 1 ] < 9007199254740992
    go true = omega (arith, top_median, exp_fixed_mono x (pos 13000000400) (omega arith))
    go false = lit< tt

pub report_small : (f : Fine) → FineInRange f → Small (report f)
unfolding report
report_small f r =
    record {
      ln = ln_size f.ln r.ln_low r.ln_high;
      median = median_small f.ln r.ln_high;
      intra = sigma_size f.intra r.intra-high;
      inter = omega (arith, r.t_high);
      total = sigma_size f.total r.total-high;
      arbitrary = sigma_size f.arbitrary r.arbitrary-high;
    }

pub fixed_small : (i : ℕ) (x : Scenario) → i < 24 → InRange x → Small (row_fixed i x)
unfolding row_fixed
fixed_small i x h r = report_small (fine_fixed i x) (fine_in_range i x h r)

pub zeros_small : Small no_row
zeros_small =
    record { ln = lit≤ tt; median = lit≤ tt; intra = lit≤ tt; inter = lit≤ tt; total = lit≤ tt; arbitrary = lit≤ tt }

pub row_small : (x : Scenario) (k : ℕ) → k < 24 → InRange x → Small (get_or (rows_of x) k no_row)
row_small x k h r = subst Small (sym (row_is x k h)) (fixed_small k x h r)
