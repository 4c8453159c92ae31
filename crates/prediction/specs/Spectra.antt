-- A request's spectrum: the 24 rows of its completed figures, or the refusal of its completion. Definitions only.
use Rattle.std.specs.Prelude.{ℕ, zero, suc, ◌+◌, List, [], ◌∷◌, map, replicate, Result, Ok, Err}
use Rattle.refusals.specs.declared.Refusal.{Refusal}
use Rattle.request.specs.declared.Request.{Request}
use Rattle.request.specs.Fields.{value_of, size_of}
use Rattle.request.specs.Styles.{style_of}
use Rattle.outcome.specs.Answers.{completion_of}
use Rattle.model.specs.declared.Scenario.{Scenario}
use Rattle.model.specs.declared.Row.{Row}
use Rattle.model.specs.declared.Shown.{Shown}
use Rattle.tables.specs.Tables.{measures}
use Rattle.model.specs.Fixed.{row_fixed}
use Rattle.model.specs.Rows.{shown_of, no_row}

-- what the model reads of a completed request: numbers, whatever their origins
unfoldable pub scenario_of : Request → Scenario
unfolding style_of value_of size_of
scenario_of c =
    record {
      m = size_of c.m;
      style = style_of (value_of c.rake);
      vs30 = size_of c.vs30;
      dip = size_of c.dip;
      ztor = size_of c.ztor;
      rjb = size_of c.rjb;
      rrup = size_of c.rrup;
      z25 = size_of c.z25;
    }

-- n rows from measure k on
unfoldable pub rows_from : ℕ → ℕ → Scenario → List Row
unfolding row_fixed
rows_from zero k x = []
rows_from (suc n) k x = row_fixed k x ∷ rows_from n (k + 1) x

unfoldable pub rows_of : Scenario → List Row
unfolding rows_from
rows_of x = rows_from measures 0 x

-- what is made of an answer; a refusal is handed on
abbrev pub map_ok : {A B : Type 0} → (A → B) → Result A Refusal → Result B Refusal
map_ok f (Ok a) = Ok (f a)
map_ok f (Err n) = Err n

-- by the completion's case
unfoldable pub spectrum_for : Result Request Refusal → Result (List Row) Refusal
unfolding rows_of scenario_of
spectrum_for a = map_ok (λ c. rows_of (scenario_of c)) a

unfoldable pub spectrum_of : Request → Result (List Row) Refusal
unfolding spectrum_for completion_of
spectrum_of r = spectrum_for (completion_of r)

-- what is told of each row of it
unfoldable pub spectrum_as : {A : Type 0} → (Row → A) → Request → Result (List A) Refusal
unfolding spectrum_of
spectrum_as tell r = map_ok (λ rows. map tell rows) (spectrum_of r)

-- what a sheet shows of it
unfoldable pub shown_spectrum_of : Request → Result (List Shown) Refusal
unfolding spectrum_as shown_of
shown_spectrum_of r = spectrum_as shown_of r

-- the rows of a spectrum: a refusal has none
abbrev pub rows_in : {A : Type 0} → Result (List A) Refusal → List A
rows_in (Ok rows) = rows
rows_in (Err n) = []

-- ---- in document 01's terms: 24 rows, of zeros beside a refusal
-- as they are told
unfoldable pub figures_as : {A : Type 0} → (Row → A) → Result (List A) Refusal → List A
figures_as tell (Ok rows) = rows
figures_as tell (Err n) = replicate measures (tell no_row)

-- those of a spectrum
abbrev pub figures_in : Result (List Row) Refusal → List Row
figures_in s = figures_as (λ row. row) s

-- those that a sheet shows of it
abbrev pub shown_figures_in : Result (List Shown) Refusal → List Shown
shown_figures_in s = figures_as shown_of s
