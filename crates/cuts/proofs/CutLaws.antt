-- The bytes up to the last of a kind: by the place of the last, and how many they are. Assumes nothing.
use Prim.Native.Nat.{ℕ, zero, suc, ◌+◌, ◌≤◌, ◌<◌}
use mathlib.Core.Logic.{◌≢◌}
use mathlib.Core.Path.{◌≡◌, refl}
use mathlib.Core.Bool.{Bool, true, false, cond}
use mathlib.Core.List.{List, [], ◌∷◌}
use native.Mathlib.Omega.{arith}
use native.Mathlib.Numerals.{add-one}
use borrow.Author.Tests.{eq-eqb, ne_eqb}
use lib.Dec.{eqb}
use lib.ListN.{length, get_or, take}
use Rattle.cuts.specs.Cuts.{up_to}

module _ (b : ℕ) where
  -- where none is b
  pub up_none : (s : List ℕ) → ((k : ℕ) → k < length s → get_or s k 0 ≢ b) → up_to b s ≡ 0
  unfolding up_to
  up_none [] h = refl
  up_none (c ∷ cs) h = rw (up_none cs (λ k l. h (suc k) (omega arith)), ne_eqb c b (h 0 (omega arith)))

  -- where the last that is b stands at i
  pub up_last : (s : List ℕ) (i : ℕ) → i < length s → get_or s i 0 ≡ b → ((k : ℕ) → i + 1 ≤ k → k < length s → get_or s k 0 ≢ b) → up_to b s ≡ i + 1
  unfolding up_to
  up_last [] i h e none = absurd (omega arith)
  up_last (c ∷ cs) zero h e none = rw (up_none cs (λ k l. none (suc k) (omega arith) (omega arith)), eq-eqb c b e)
  up_last (c ∷ cs) (suc i) h e none =
      let l : up_to b cs ≡ suc i = rw (← add-one i) (up_last cs i (omega arith) e (λ k m n. none (suc k) (omega arith) (omega arith))) in
      rw (l, ne_eqb (suc i) 0 (λ q. omega arith)) (omega arith)

  -- no more than there are
  pub up_le : (s : List ℕ) → up_to b s ≤ length s
  unfolding up_to
  up_le [] = omega arith
  up_le (c ∷ cs) = go (eqb (up_to b cs) 0) (eqb c b) (up_le cs)
    where
      go : (p q : Bool) → up_to b cs ≤ length cs → cond p (cond q 1 0) (suc (up_to b cs)) ≤ suc (length cs)
      go true true h = omega arith
      go true false h = omega arith
      go false q h = omega arith

  -- those are whole lines themselves
  pub up-whole : (s : List ℕ) → up_to b (take (up_to b s) s) ≡ up_to b s
  unfolding up_to
  up-whole [] = refl
  up-whole (c ∷ cs) = go (eqb (up_to b cs) 0) refl (eqb c b) refl (up-whole cs)
    where
      go : (a : Bool) → eqb (up_to b cs) 0 ≡ a → (q : Bool) → eqb c b ≡ q → up_to b (take (up_to b cs) cs) ≡ up_to b cs
          → up_to b (take (cond a (cond q 1 0) (suc (up_to b cs))) (c ∷ cs)) ≡ cond a (cond q 1 0) (suc (up_to b cs))
      go true e true f ih = rw f
      go true e false f ih = refl
      go false e q f ih = rw (ih, e)
