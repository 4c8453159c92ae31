-- From the rows of a stage to its answer, and from the three answers to the whole. Assumes nothing.
use Prim.Native.Nat.{ℕ, ◌≤◌, ◌<◌}
use mathlib.Core.Path.{◌≡◌, refl, sym, ap, ◌∙◌}
use mathlib.Core.Bool.{Bool, true, false}
use mathlib.Core.List.{[], ◌∷◌, ◌++◌}
use mathlib.Core.Logic.{◌↔◌}
use lib.Dec.{T}
use borrow.Author.Tests.{lt-ltb, le-ltb}
use Rattle.std.specs.Prelude.{Option, Some, None, Ok, Err}
use Rattle.refusals.specs.declared.Refusal.{Refusal}
use Rattle.refusals.specs.declared.Refusal.TheVariants as No
use Rattle.refusals.specs.Order.{Rows, first, unless}
use Rattle.request.specs.declared.Field.{Field}
use Rattle.request.specs.declared.Request.{Request}
use Rattle.request.specs.Fields.{size_of, marked}
use Rattle.outcome.specs.Figures.{ztor, rrup, z25}
use Rattle.outcome.specs.Refusals.{marked_rows, source_given, source_completed, source_rows, too_short, too_far, path_given, path_completed, path_rows, site_given, site_completed, site_rows, rows, refusal}
use Rattle.outcome.specs.Answers.{completion_of}
use Rattle.outcome.specs.Stages.{path_answer_of, site_answer_of}
use Rattle.refusals.proofs.Rows.{absent, nothing, skip, holds, passes, three, first-after, first_before, first_absent}
use Rattle.outcome.proofs.ExactlyWhen.{refused_with, answered_with, refused_by, refused-refusal}

-- ---- an answer, by its rows
module _ {A : Type 0} (a : A) where
  refused : (o : Option Refusal) (n : Refusal) → o ≡ Some n → unless o a ≡ Err n
  refused o n e = ap (λ (q : Option Refusal). unless q a) e

  known : (o : Option Refusal) → o ≡ None → unless o a ≡ Ok a
  known o e = ap (λ (q : Option Refusal). unless q a) e

-- ---- the source
pub source_refused : (r : Request) (n : Refusal) → first (source_given r) ≡ Some n → first (source_rows r) ≡ Some n
unfolding source_rows
source_refused r n e = first_before (source_given r) (source_completed r) n e

pub source_deep : (r : Request) → first (source_given r) ≡ None → 15000 < size_of (ztor r) → first (source_rows r) ≡ Some No.Top
unfolding source_rows
source_deep r e h = first-after (source_given r) (source_completed r) e ∙ holds _ _ [] (lt-ltb _ _ h)

pub source_clear : (r : Request) → first (source_given r) ≡ None → size_of (ztor r) ≤ 15000 → first (source_rows r) ≡ None
unfolding source_rows
source_clear r e h = first-after (source_given r) (source_completed r) e ∙ skip _ _ [] (le-ltb _ _ h) nothing

-- ---- the path
pub path_refused : (r : Request) (n : Refusal) → first (path_given r) ≡ Some n → path_answer_of r ≡ Err n
unfolding path_answer_of path_rows
path_refused r n e = refused (rrup r) (first (path_rows r)) n (first_before (path_given r) (path_completed r) n e)

-- where the rows that read given figures are silent, those that read completed ones decide
completed_path : (r : Request) → first (path_given r) ≡ None → first (path_rows r) ≡ first (path_completed r)
unfolding path_rows
completed_path r e = first-after (path_given r) (path_completed r) e

-- the rows behind that of a completed RRUP, and behind that of one too short
abbrev path_given_lengths : Request → Rows
path_given_lengths r = (No.TooShort, too_short r) ∷ (No.TooFar, too_far r) ∷ []

abbrev path_last : Request → Rows
path_last r = (No.TooFar, too_far r) ∷ []

pub path_far : (r : Request) → first (path_given r) ≡ None → 200000 < size_of (rrup r) → path_answer_of r ≡ Err No.Rrup
unfolding path_answer_of
path_far r e h = refused (rrup r) (first (path_rows r)) No.Rrup (completed_path r e ∙ holds _ _ (path_given_lengths r) (lt-ltb _ _ h))

pub path_short : (r : Request) → first (path_given r) ≡ None → size_of (rrup r) ≤ 200000 → too_short r ≡ true → path_answer_of r ≡ Err No.TooShort
unfolding path_answer_of
path_short r e h t =
    refused (rrup r) (first (path_rows r)) No.TooShort
    (completed_path r e ∙ passes _ _ (path_given_lengths r) (le-ltb _ _ h) ∙ holds _ _ (path_last r) t)

pub path_long :
    (r : Request) → first (path_given r) ≡ None → size_of (rrup r) ≤ 200000 → too_short r ≡ false → too_far r ≡ true
    → path_answer_of r ≡ Err No.TooFar
unfolding path_answer_of
path_long r e h s t =
    refused (rrup r) (first (path_rows r)) No.TooFar
    (completed_path r e ∙ passes _ _ (path_given_lengths r) (le-ltb _ _ h) ∙ passes No.TooShort _ (path_last r) s ∙ holds _ _ [] t)

pub path_known :
    (r : Request) → first (path_given r) ≡ None → size_of (rrup r) ≤ 200000 → too_short r ≡ false → too_far r ≡ false
    → path_answer_of r ≡ Ok (rrup r)
unfolding path_answer_of
path_known r e h s t =
    known (rrup r) (first (path_rows r))
    (completed_path r e ∙ skip _ _ (path_given_lengths r) (le-ltb _ _ h) (skip No.TooShort _ (path_last r) s (skip No.TooFar _ [] t nothing)))

-- ---- the site
pub site_refused : (r : Request) (n : Refusal) → first (site_given r) ≡ Some n → site_answer_of r ≡ Err n
unfolding site_answer_of site_rows
site_refused r n e = refused (z25 r) (first (site_rows r)) n (first_before (site_given r) (site_completed r) n e)

pub site_deep : (r : Request) → first (site_given r) ≡ None → 10000 < size_of (z25 r) → site_answer_of r ≡ Err No.Basin
unfolding site_answer_of site_rows
site_deep r e h =
    refused (z25 r) (first (site_rows r)) No.Basin (first-after (site_given r) (site_completed r) e ∙ holds _ _ [] (lt-ltb _ _ h))

pub site_known : (r : Request) → first (site_given r) ≡ None → size_of (z25 r) ≤ 10000 → site_answer_of r ≡ Ok (z25 r)
unfolding site_answer_of site_rows
site_known r e h =
    known (z25 r) (first (site_rows r)) (first-after (site_given r) (site_completed r) e ∙ skip _ _ [] (le-ltb _ _ h) nothing)

-- ---- the whole, from the stages' answers
whole : (r : Request) (n : Refusal) → first (rows r) ≡ Some n → completion_of r ≡ Err n
unfolding refusal
whole r n e = refused_by r n e

-- a figure that is already marked as ours, before all else
pub marked_tells : (r : Request) → marked r ≡ true → completion_of r ≡ Err No.Marked
unfolding rows marked_rows
marked_tells r t = whole r No.Marked (holds _ _ _ t)

pub unmarked : (r : Request) → marked r ≡ false → first (marked_rows r) ≡ None
unfolding marked_rows
unmarked r t = skip _ _ [] t nothing

-- where none is, the stages decide
by_stages : (r : Request) → first (marked_rows r) ≡ None → first (rows r) ≡ first (source_rows r ++ (path_rows r ++ site_rows r))
unfolding rows
by_stages r u = first-after (marked_rows r) (source_rows r ++ (path_rows r ++ site_rows r)) u

-- so a request is refused for a marked figure exactly where it has one, whatever else is wrong with it
pub marked_exactly : (r : Request) → (completion_of r ≡ Err No.Marked) ↔ (marked r ≡ true)
unfolding refusal source_rows source_given path_rows path_given site_rows site_given
marked_exactly r = (λ e. go (marked r) refl e, λ t. marked_tells r t)
  where
    go : (t : Bool) → marked r ≡ t → completion_of r ≡ Err No.Marked → marked r ≡ true
    go true u e = u
    go false u e =
        absurd
        (first_absent No.Marked (source_rows r ++ (path_rows r ++ site_rows r)) tt
        (sym (by_stages r (unmarked r u)) ∙ refused-refusal r No.Marked e))

-- what a stage's answer says of its rows
pub record Known {A : Type 0} (rows : Rows) (x y : A) : Type 0 where
  pub silent : first rows ≡ None
  pub same : x ≡ y

said : {A : Type 0} (rows : Rows) (x y : A) → unless (first rows) y ≡ Ok x → Known rows x y
said rows x y e = let k = answered_with (first rows) y x e in record { silent = k.0; same = k.1 }

pub source_tells : (r : Request) (n : Refusal) → first (marked_rows r) ≡ None → first (source_rows r) ≡ Some n → completion_of r ≡ Err n
source_tells r n u e = whole r n (by_stages r u ∙ first_before (source_rows r) (path_rows r ++ site_rows r) n e)

pub path_says : (r : Request) (f : Field) → path_answer_of r ≡ Ok f → Known (path_rows r) f (rrup r)
unfolding path_answer_of
path_says r f k = said (path_rows r) f (rrup r) k

pub site_says : (r : Request) (f : Field) → site_answer_of r ≡ Ok f → Known (site_rows r) f (z25 r)
unfolding site_answer_of
site_says r f k = said (site_rows r) f (z25 r) k

pub path_tells :
    (r : Request) (n : Refusal) → first (marked_rows r) ≡ None → first (source_rows r) ≡ None → path_answer_of r ≡ Err n → completion_of r ≡ Err n
unfolding path_answer_of
path_tells r n u a k =
    whole r n
    (by_stages r u
    ∙ first-after (source_rows r) (path_rows r ++ site_rows r) a
    ∙ first_before (path_rows r) (site_rows r) n (refused_with (first (path_rows r)) (rrup r) n k))

pub site_tells :
    (r : Request) (n : Refusal) → first (marked_rows r) ≡ None → first (source_rows r) ≡ None → first (path_rows r) ≡ None
    → site_answer_of r ≡ Err n → completion_of r ≡ Err n
unfolding site_answer_of
site_tells r n u a b k =
    whole r n
    (by_stages r u
    ∙ first-after (source_rows r) (path_rows r ++ site_rows r) a
    ∙ first-after (path_rows r) (site_rows r) b
    ∙ refused_with (first (site_rows r)) (z25 r) n k)

-- three silent stages accept
pub all-silent :
    (r : Request) → first (marked_rows r) ≡ None → first (source_rows r) ≡ None → first (path_rows r) ≡ None → first (site_rows r) ≡ None
    → refusal r ≡ None
unfolding refusal
all-silent r u a b c = by_stages r u ∙ three (source_rows r) (path_rows r) (site_rows r) a b c
