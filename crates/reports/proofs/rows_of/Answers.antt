-- Each call reads the fine rows of the request, which are in range, and leaves them. Assumes nothing.
use Rattle.std.proofs.Common.{rules, ◌≡◌, ◌∙◌, ℕ, ◌<◌, refl, ap, get_or}
use Rattle.std.proofs.lemmas.Fn.{serves_by}
use Rattle.tables.specs.Tables.{measures}
use Rattle.model.specs.declared.Scenario.{Scenario}
use Rattle.model.specs.Fixed.{report, fine_fixed, row_fixed, no_fine, FineInRange}
use Rattle.model.proofs.Demand.{fine_in_range}
use Rattle.reports.proofs.MadeRows.{made-all}
use Rattle.reports.proofs.rows_of.Goals as goal

pub from_fn-requires : goal.from_fn-requires
from_fn-requires g c = (
  g.met.T.Reported.fits,
  serves_by _ (λ xs q. q.0.now ≡ c.fine_rows_of-fine.result) (λ xs q x v e r. search rules) _ _ _ _ refl
      (λ xs t q x u y s e.
      let l : x < measures = rw s.1 s.0 in
      let f : FineInRange (get_or c.fine_rows_of-fine.result x no_fine) = rw (c.fine_rows_of-fine.ensures.1 x l) (fine_in_range x c.args.x l c.requires) in
      (l, rw e f)),
)

row_is : (i : ℕ) (x : Scenario) → report (fine_fixed i x) ≡ row_fixed i x
unfolding row_fixed
row_is i x = refl

pub returns : goal.returns
returns g c = (
  c.from_fn.ensures.items.long,
  λ k d l.
      made-all _ (λ q. q.0.now ≡ c.fine_rows_of-fine.result) (λ i. g.T.Reported.told (report (get_or c.fine_rows_of-fine.result i no_fine)))
      (λ f q i y e r. search rules) 24 _ _ refl c.from_fn.ensures.items.each k d l
      ∙ ap g.T.Reported.told (ap report (c.fine_rows_of-fine.ensures.1 k l) ∙ row_is k c.args.x),
)
