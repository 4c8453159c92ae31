-- What a survey says of the lines. Assumes nothing.
use Prim.Native.Nat.{ℕ}
use mathlib.Core.Path.{◌≡◌, refl}
use mathlib.Core.Bool.{Bool, true, false, cond}
use mathlib.Core.List.{List}
use native.Mathlib.Omega.{arith}
use Rattle.std.specs.Prelude.{Option, Some, None}
use Rattle.request.specs.declared.Request.{Request}
use Rattle.list_lines.specs.ListLines.{all_read, surveyed}

module _ (ls : List (Option Request)) (n : ℕ) where
  pub are_read : (m : ℕ) → Some m ≡ surveyed ls n → (all_read ls ≡ true) × (m ≡ n)
  unfolding surveyed
  are_read m e = go (all_read ls) refl e
    where
      go : (t : Bool) → all_read ls ≡ t → Some m ≡ cond t (Some n) None → (all_read ls ≡ true) × (m ≡ n)
      go true f g = (f, cc)
      go false f g = let z : ◌≡◌ {A = ℕ} 0 1 = cc in absurd (omega arith)

  pub not_read : None ≡ surveyed ls n → all_read ls ≡ false
  unfolding surveyed
  not_read e = go (all_read ls) refl e
    where
      go : (t : Bool) → all_read ls ≡ t → None ≡ cond t (Some n) None → all_read ls ≡ false
      go true f g = let z : ◌≡◌ {A = ℕ} 0 1 = cc in absurd (omega arith)
      go false f g = f
