-- What was written first in lent bytes stands there; what may come of a block, and how a run ends. Assumes nothing.
use Prim.Native.Nat.{ℕ, ◌+◌, ◌≤◌}
use mathlib.Core.Path.{◌≡◌, refl, sym, subst, ap, ◌∙◌}
use mathlib.Core.Bool.{Bool}
use mathlib.Core.List.{List}
use native.Mathlib.Omega.{arith}
use lib.ListN.{length, take}
use Rattle.std.specs.Prelude.{Option, Some, None, Result, Ok, Err}
use Rattle.std.proofs.Common.{inl, inr}
use Rattle.cuts.specs.Cuts.{up_to}
use Rattle.lent.specs.Lent.{Written}
use Rattle.lent.proofs.PutLaws.{length-put, take_put}
use Rattle.numerals.specs.Render.{lf}
use Rattle.file_streams.specs.declared.Failure.{Failure}
use Rattle.file_streams.specs.declared.Failure.TheVariants as F
use Rattle.file_streams.specs.Ends.{lines_so_far, Stepped, StepEnds, ReadTo, Taken, too_long, taken, Closed, ReadEnd, PackEnd, Behind, UnpackEnd}

-- ---- what was written first in lent bytes stands there
module _ {b s : List ℕ} {p : ℕ} {b₁ : List ℕ} (room : length s ≤ length b) (w : Written b 0 s p b₁) where
  pub within : p ≤ length b₁
  within = omega (arith, w.place, ap length w.became, length-put b 0 s (omega arith))

  pub stands : take p b₁ ≡ s
  stands =
      ap (λ (n : ℕ). take n b₁) w.place ∙ ap (take (0 + length s)) w.became ∙ take_put b 0 s (omega arith)

-- ---- what comes of a block
-- what comes of lines is what may
step_ends : (count : ℕ) (lines : List ℕ) (r : Result ℕ Failure) → Stepped count lines r → StepEnds r
unfolding lines_so_far
step_ends count lines (Ok n) h = omega (arith, h.1)
step_ends count lines (Err (F.Refused k)) h = h.1
step_ends count lines (Err F.System) h = tt

pub taken_ends : {count : ℕ} {block held : List ℕ} {r : Result ℕ Failure} → Taken count block held r → StepEnds r
taken_ends (too_long h) = refl
taken_ends {count} {block} (taken {r} h e s) = step_ends count (take (up_to lf block) block) r s

-- ---- how a run ends
pub closed_end : (kept count : ℕ) (r : Result (Unit {0}) Failure) → Closed kept count r → PackEnd r
closed_end kept count (Ok u) h = tt
closed_end kept count (Err (F.Refused k)) h = elim h [ inl a ↦ inl a.1 | inr a ↦ inr a.2 ]
closed_end kept count (Err F.System) h = tt

pub read_end :
    (room kept count : ℕ) (read : Result (Option ℕ) Failure) (r : Result (Unit {0}) Failure) → ReadTo room read → ReadEnd kept count read r → PackEnd r
read_end room kept count (Ok (Some n)) r l h = subst PackEnd (sym h) tt
read_end room kept count (Ok None) r l h = closed_end kept count r h
read_end room kept count (Err f) r l h = subst PackEnd (sym (h ∙ ap (λ (e : Failure). Err e) l)) tt

pub behind_end : (sound : Bool) (r : Result (Unit {0}) Failure) → Behind sound r → UnpackEnd r
behind_end sound (Ok u) h = tt
behind_end sound (Err (F.Refused k)) h = elim h [ inl a ↦ inr (inl a) | inr a ↦ inr (inr a.1) ]
behind_end sound (Err F.System) h = tt
