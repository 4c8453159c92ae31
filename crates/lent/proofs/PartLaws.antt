-- A part of what is lent, lent on and given back; all that was written, as one list. Assumes nothing.
use Prim.Native.Nat.{ℕ, ◌+◌, ◌-◌, ◌≤◌}
use mathlib.Core.Path.{◌≡◌, sym, ap, ◌∙◌}
use mathlib.Core.List.{List, [], ◌++◌, append-nil}
use native.Mathlib.Omega.{arith}
use lib.ListN.{length, take, drop, length-drop, drop_of_length-le, take-append-drop}
use lib.Seq.{drop-drop, length-take-le, take_all}
use Rattle.lent.specs.Lent.{put}

-- ---- a part
-- `&s[i..]` is the list from i on
pub rest : {A : Type 0} (s : List A) (i : ℕ) → take (length s - i) (drop i s) ≡ drop i s
rest s i = take_all (length s - i) (drop i s) (omega (arith, length-drop i s))

-- b once its part from w on has become x
abbrev pub given_back : {A : Type 0} → List A → ℕ → List A → List A
given_back b w x = take w b ++ (x ++ drop (length b - w) (drop w b))

-- behind the part, which reaches to the end, nothing stands
no_more : {A : Type 0} (b : List A) (w : ℕ) → drop (length b - w) (drop w b) ≡ []
no_more b w = drop_of_length-le (drop w b) {i = length b - w} (omega (arith, length-drop w b))

back : {A : Type 0} (b : List A) (w : ℕ) (x : List A) → given_back b w x ≡ take w b ++ x
back b w x = rw (no_more b w, append-nil x)

-- as it was
pub back-same : {A : Type 0} (b : List A) (w : ℕ) → given_back b w (drop w b) ≡ b
back-same b w = back b w (drop w b) ∙ take-append-drop w b

-- with a list at its start
pub back-put : {A : Type 0} (b : List A) (w : ℕ) (s : List A) → given_back b w (put (drop w b) 0 s) ≡ put b w s
unfolding put
back-put {A = A} b w s =
    back b w (put (drop w b) 0 s)
    ∙ ap (λ (l : List A). take w b ++ (s ++ l)) (ap (λ (n : ℕ). drop n (drop w b)) zero_more ∙ drop-drop (length s) w b)
  where
    zero_more : 0 + length s ≡ length s
    zero_more = omega arith

-- ---- all that was written, as one list
pub put_front : {A : Type 0} (b b₁ : List A) (w : ℕ) → w ≤ length b₁ → drop w b₁ ≡ drop w b → b₁ ≡ put b 0 (take w b₁)
unfolding put
put_front {A = A} b b₁ w h e =
    sym (take-append-drop w b₁) ∙ ap (λ (l : List A). take w b₁ ++ l) (e ∙ ap (λ (n : ℕ). drop n b) as_long)
  where
    as_long : w ≡ 0 + length (take w b₁)
    as_long = omega (arith, length-take-le w b₁ h)
