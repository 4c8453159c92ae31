-- What `array::from_fn` makes of a closure that keeps what it reads. Assumes nothing.
use Prim.Native.Nat.{ℕ, zero, suc, ◌+◌, ◌<◌}
use mathlib.Core.Path.{◌≡◌, ◌∙◌}
use mathlib.Core.List.{List}
use native.Mathlib.Omega.{arith}
use lib.ListN.{get_or}
use denote.Param.Members.{Mut, Called}
use Rattle.std.specs.Array.{IsFromFnResultFrom}

module _ {F B : Type 0} (g : Mut F (ℕ × Unit {0}) B) (Kept : F → Type 0) (want : ℕ → B)
    (step : (f q : F) (i : ℕ) (y : B) → Kept f → Called g f (i, tt) y q → (y ≡ want i) × Kept q) where
  pub made : (n i : ℕ) (f : F) (ys : List B) → Kept f → IsFromFnResultFrom g f ys i n → (k : ℕ) (d : B) → k < n → get_or ys (i + k) d ≡ want (i + k)
  made zero i f ys kept calls k d l = absurd (omega (arith, l))
  made (suc n) i f ys kept (q, y, e, call, rest) zero d l = let p : i + 0 ≡ i = omega arith in rw p (e.1 d ∙ (step f q i y kept call).0)
  made (suc n) i f ys kept (q, y, e, call, rest) (suc k) d l =
      let p : i + suc k ≡ i + 1 + k = omega arith in
      rw p (made n (i + 1) q ys (step f q i y kept call).1 rest k d (omega (arith, l)))

  -- from the first on
  pub made-all : (n : ℕ) (f : F) (ys : List B) → Kept f → IsFromFnResultFrom g f ys 0 n → (k : ℕ) (d : B) → k < n → get_or ys k d ≡ want k
  made-all n f ys kept calls k d l = let p : 0 + k ≡ k = omega arith in rw p at (made n 0 f ys kept calls k d l)
