-- The table of refusals stands in document 01's order. A request is refused with n exactly when a row of n holds and no row before it
-- does, and accepted exactly when none holds. Assumes nothing.
use Prim.Native.Nat.{ℕ, ◌≤◌}
use mathlib.Core.Path.{◌≡◌, refl, sym, ap, ◌∙◌}
use mathlib.Core.List.{◌++◌}
use mathlib.Core.Logic.{◌↔◌}
use native.Mathlib.Omega.{arith}
use lib.Dec.{T}
use lib.ListN.{length}
use Rattle.std.specs.Prelude.{Option, Some, None, Result, Ok, Err}
use Rattle.std.specs.Result.{result_err}
use Rattle.refusals.specs.declared.Refusal.{Refusal}
use Rattle.refusals.specs.declared.Refusal.TheVariants as No
use Rattle.refusals.specs.Order.{first, Fires, Silent, InOrder, unless, number_of, number_in}
use Rattle.request.specs.declared.Request.{Request}
use Rattle.outcome.specs.Refusals.{marked_rows, source_given, source_rows, path_given, path_rows, site_given, site_rows, rows, refusal}
use Rattle.outcome.specs.Answers.{completed, completion_of}
use Rattle.refusals.proofs.Numbers.{number-most}
use Rattle.refusals.proofs.Rows.{absent, first_absent, first-both, fires_first, first_fires, silent-first, first-silent}

pub in_order : (r : Request) → InOrder (rows r)
unfolding rows marked_rows source_rows source_given path_rows path_given site_rows site_given
in_order r = tt

-- of as many rows
pub row_count : (r : Request) → length (rows r) ≡ 20
unfolding rows marked_rows source_rows source_given path_rows path_given site_rows site_given
row_count r = refl

-- ---- an answer and its refusal
module _ {A : Type 0} where
  pub refusal_in : (o : Option Refusal) (a : A) → result_err (unless o a) ≡ o
  refusal_in None a = refl
  refusal_in (Some n) a = refl

  -- a refused one has that refusal
  pub refused_with : (o : Option Refusal) (a : A) (n : Refusal) → unless o a ≡ Err n → o ≡ Some n
  refused_with None a n e = absurd cc
  refused_with (Some m) a n e = cc

  -- one that is not has what was asked for
  pub answered_with : (o : Option Refusal) (a b : A) → unless o a ≡ Ok b → (o ≡ None) × (b ≡ a)
  answered_with None a b e = (refl, cc)
  answered_with (Some m) a b e = absurd cc

-- an answer's refusal is that of the table
pub refusal_is : (r : Request) → result_err (completion_of r) ≡ refusal r
unfolding completion_of
refusal_is r = refusal_in (refusal r) (completed r)

pub refused_by : (r : Request) (n : Refusal) → refusal r ≡ Some n → completion_of r ≡ Err n
unfolding completion_of
refused_by r n e = ap (λ (o : Option Refusal). unless o (completed r)) e

pub refused-refusal : (r : Request) (n : Refusal) → completion_of r ≡ Err n → refusal r ≡ Some n
unfolding completion_of
refused-refusal r n e = refused_with (refusal r) (completed r) n e

pub refused_exactly : (r : Request) (n : Refusal) → (completion_of r ≡ Err n) ↔ Fires n (rows r)
unfolding refusal
refused_exactly r n = ((λ e. first_fires n (rows r) (refused-refusal r n e)), (λ f. refused_by r n (fires_first n (rows r) f)))

pub accepted_by : (r : Request) → refusal r ≡ None → completion_of r ≡ Ok (completed r)
unfolding completion_of
accepted_by r e = ap (λ (o : Option Refusal). unless o (completed r)) e

pub accepted-refusal : (r : Request) → completion_of r ≡ Ok (completed r) → refusal r ≡ None
unfolding completion_of
accepted-refusal r e = (answered_with (refusal r) (completed r) (completed r) e).0

-- ---- the numbers
-- none is above that of the first row
pub number_most : (r : Request) → number_in (completion_of r) ≤ number_of No.Marked
number_most r = go (completion_of r)
  where
    go : (c : Result Request Refusal) → number_in c ≤ number_of No.Marked
    go (Ok c) = omega arith
    go (Err n) = number-most n

-- no completion is refused with a number that no row has: for a measure, or for a period
other_unread : (r : Request) (n : Refusal) → T (absent n (rows r)) → completion_of r ≡ Err n → ⊥
unfolding refusal
other_unread r n t e = first_absent n (rows r) t (refused-refusal r n e)

pub measure_unread : (r : Request) → completion_of r ≡ Err No.NoMeasure → ⊥
unfolding rows marked_rows source_rows source_given path_rows path_given site_rows site_given
measure_unread r e = other_unread r No.NoMeasure tt e

pub period_unread : (r : Request) → completion_of r ≡ Err No.NoPeriod → ⊥
unfolding rows marked_rows source_rows source_given path_rows path_given site_rows site_given
period_unread r e = other_unread r No.NoPeriod tt e

pub accepted_exactly : (r : Request) → (completion_of r ≡ Ok (completed r)) ↔ Silent (rows r)
unfolding refusal
accepted_exactly r =
    ((λ e. first-silent (rows r) (accepted-refusal r e)), (λ s. accepted_by r (silent-first (rows r) s)))

-- an accepted request is accepted at each stage
pub record Stages (r : Request) : Type 0 where
  pub unmarked : first (marked_rows r) ≡ None
  pub source : first (source_rows r) ≡ None
  pub path : first (path_rows r) ≡ None
  pub site : first (site_rows r) ≡ None

pub stages : (r : Request) → refusal r ≡ None → Stages r
unfolding refusal rows
stages r e =
    let u = first-both (marked_rows r) (source_rows r ++ (path_rows r ++ site_rows r)) e in
    let a = first-both (source_rows r) (path_rows r ++ site_rows r) u.1 in
    let b = first-both (path_rows r) (site_rows r) a.1 in
    record { unmarked = u.0; source = a.0; path = b.0; site = b.1 }
