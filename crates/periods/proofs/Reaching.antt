-- How many of the tabulated periods a period reaches: those before the first that is longer. Assumes nothing.
use Prim.Native.Nat.{ℕ, zero, suc, ◌+◌, ◌-◌, ◌≤◌, ◌<◌}
use mathlib.Core.Path.{◌≡◌, refl, sym, ap, subst, ◌∙◌}
use mathlib.Core.Bool.{Bool, true, false, not, cond}
use mathlib.Core.List.{List}
use native.Mathlib.Omega.{arith}
use lib.Dec.{leb, ltb}
use lib.ListN.{length, get_or, drop}
use lib.Seq.{drop-cons}
use borrow.Author.Tests.{le-leb, lt-leb, ltb-true, ltb-false}
use Rattle.std.proofs.Common.{Option, Some, None}
use Rattle.std.specs.Option.{unwrap_or}
use Rattle.std.specs.List.{position_or_len, range_with_len}
use Rattle.std.proofs.lemmas.List.Sums.{prefix_len-le-length}
use Rattle.tables.specs.Tables.{periods, period_at}
use Rattle.between.specs.Periods.{reached, last_up_to}

-- whether the period of a measure is longer than t
abbrev pub longer : ℕ → ℕ → Bool
longer t k = ltb t (period_at k)

-- from place n on, by the period that stands there
step :
    (ps : List ℕ) (n t : ℕ) → n < length ps
    → reached (drop n ps) t ≡ elim (leb (get_or ps n 0) t) [ true ↦ suc (reached (drop (suc n) ps) t) | false ↦ 0 ]
unfolding reached
step ps n t h = ap (λ (l : List ℕ). reached l t) (drop-cons ps n 0 h)

-- of the m periods from place n on
reached_is : (t m n : ℕ) → n + m ≡ 21 → reached (drop n periods) t ≡ position_or_len (longer t) (range_with_len n m)
unfolding reached
reached_is t zero n e = let p : n ≡ 21 = omega arith in rw p refl
reached_is t (suc m) n e =
    let p : n + 1 ≡ suc n = omega arith in
    by (longer t n) refl (subst (λ (k : ℕ). reached (drop k periods) t ≡ position_or_len (longer t) (range_with_len (n + 1) m)) p (reached_is t m (n + 1) (omega arith)))
  where
    more : (r q : ℕ) → r ≡ q → suc r ≡ 1 + q
    more r q f = omega arith

    by :
        (b : Bool) → longer t n ≡ b → reached (drop (suc n) periods) t ≡ position_or_len (longer t) (range_with_len (n + 1) m)
        → reached (drop n periods) t ≡ position_or_len (longer t) (range_with_len n (suc m))
    by true f rest = step periods n t (omega arith) ∙ rw (lt-leb (period_at n) t (ltb-true t (period_at n) f), f) refl
    by false f rest = step periods n t (omega arith) ∙ rw (le-leb (period_at n) t (ltb-false t (period_at n) f), f) (more _ _ rest)

-- the first is reached, so that of the other 20 those are counted that are
from_second : (t : ℕ) → 10 ≤ t → last_up_to t ≡ position_or_len (longer t) (range_with_len 1 20)
unfolding last_up_to
from_second t h = fin (reached periods t) (reached (drop 1 periods) t) (step periods 0 t (omega arith) ∙ rw (le-leb 10 t h) refl) ∙ reached_is t 20 1 refl
  where
    fin : (a b : ℕ) → a ≡ suc b → a - 1 ≡ b
    fin a b e = omega arith

-- what `position` answers, with the last where it finds none
or_last : (p : ℕ) (r : Option ℕ) → r ≡ cond (ltb p 20) (Some p) None → p ≤ 20 → unwrap_or r 20 ≡ p
or_last p r e h = by (ltb p 20) refl
  where
    by : (b : Bool) → ltb p 20 ≡ b → unwrap_or r 20 ≡ p
    by true f = rw (e, f) refl
    by false f = let l : 20 ≤ p = ltb-false p 20 f in rw (e, f) (omega arith)

pub first-longer :
    (t : ℕ) (r : Option ℕ) → 10 ≤ t
    → r ≡ cond (ltb (position_or_len (longer t) (range_with_len 1 20)) 20) (Some (position_or_len (longer t) (range_with_len 1 20))) None
    → unwrap_or r 20 ≡ last_up_to t
first-longer t r h e =
    or_last (position_or_len (longer t) (range_with_len 1 20)) r e (prefix_len-le-length (λ (k : ℕ). not (longer t k)) (range_with_len 1 20))
    ∙ sym (from_second t h)
