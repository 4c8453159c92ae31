-- A text written part by part, by what is left of it: when the rest is written too, all of it is. Assumes nothing.
use Prim.Native.Nat.{ℕ, ◌+◌, ◌≤◌}
use mathlib.Core.Path.{◌≡◌, refl, ◌∙◌}
use mathlib.Core.List.{List, [], ◌++◌}
use native.Mathlib.Omega.{arith}
use lib.ListN.{length, length-append}
use Rattle.lent.specs.Lent.{put, Written}
use Rattle.lent.proofs.PutLaws.{shorter, put-nothing, put-put, room_after}

-- t is left to be written at q into b₁: there is room for it, and then all is as if s were written at p into b
pub record Left (b : List ℕ) (p : ℕ) (s : List ℕ) (b₁ : List ℕ) (q : ℕ) (t : List ℕ) : Type 0 where
  pub room : q + length t ≤ length b₁
  pub end : q + length t ≡ p + length s
  pub becomes : put b₁ q t ≡ put b p s

-- before anything is written
pub all_left : (b : List ℕ) (p : ℕ) (s : List ℕ) → p + length s ≤ length b → Left b p s b p s
all_left b p s h = record { room = h; end = refl; becomes = refl }

module _ {b : List ℕ} {p : ℕ} {s : List ℕ} {b₁ : List ℕ} {q : ℕ} {b₂ : List ℕ} {r : ℕ} where
  -- when the first part of what was left is written
  pub less-left : (t u : List ℕ) → Left b p s b₁ q (t ++ u) → Written b₁ q t r b₂ → Left b p s b₂ r u
  less-left t u l w =
      record {
        room = room_after w u l.room;
        end = omega (arith, w.place, l.end, length-append t u);
        becomes = rw (w.became, w.place) (put-put b₁ q t (shorter q t u l.room) u ∙ l.becomes);
      }

  -- when all of it is
  pub none_left : (t : List ℕ) → Left b p s b₁ q t → Written b₁ q t r b₂ → Written b p s r b₂
  none_left t l w = record { place = w.place ∙ l.end; became = w.became ∙ l.becomes }

-- when nothing is left
pub nothing_left : {b : List ℕ} {p : ℕ} {s : List ℕ} {b₁ : List ℕ} {q : ℕ} → Left b p s b₁ q [] → Written b p s q b₁
nothing_left {b₁ = b₁} {q = q} l = none_left [] l (record { place = omega arith; became = put-nothing b₁ q })
