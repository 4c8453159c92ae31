-- What is written after something is both written at once; an element set is a list of one written, a part overwritten a list as long as it.
-- Assumes nothing.
use Prim.Native.Nat.{ℕ, ◌+◌, ◌-◌, ◌≤◌, ◌<◌}
use mathlib.Core.Path.{◌≡◌, refl, sym, ap, ◌∙◌}
use mathlib.Core.List.{List, [], ◌∷◌, ◌++◌, append_assoc}
use native.Mathlib.Omega.{arith}
use native.Mathlib.Numerals.{add-one}
use borrow.Rule.Slice.PartMut.{put_mid}
use lib.ListN.{length, take, drop, set, length-append, length-drop, take-append-drop}
use lib.Seq.{set_split, length-take-le, take_at, drop_at, drop-drop, take-append_seam}
use Rattle.lent.specs.Lent.{put, Written}

pub put_one : {A : Type 0} (b : List A) (p : ℕ) (v : A) → p < length b → set b p v ≡ put b p (v ∷ [])
unfolding put
put_one b p v h = set_split b p v h ∙ rw (add-one p)

open_put : {A : Type 0} (b : List A) (p : ℕ) (s : List A) → put b p s ≡ take p b ++ (s ++ drop (p + length s) b)
unfolding put
open_put b p s = refl

module _ {A : Type 0} (b : List A) (p : ℕ) (s : List A) (room : p + length s ≤ length b) where
  head_length : length (take p b ++ s) ≡ p + length s
  head_length = omega (arith, length-append (take p b) s, length-take-le p b (omega arith))

  in_front_lem : put b p s ≡ (take p b ++ s) ++ drop (p + length s) b
  in_front_lem = open_put b p s ∙ sym (append_assoc (take p b) s (drop (p + length s) b))

  pub length-put : length (put b p s) ≡ length b
  length-put =
      ap length in_front_lem
      ∙ omega (arith, length-append (take p b ++ s) (drop (p + length s) b), head_length, length-drop (p + length s) b)

  -- up to its end stands what was there, and what was written
  pub take_put : take (p + length s) (put b p s) ≡ take p b ++ s
  take_put = ap (take (p + length s)) in_front_lem ∙ take_at (take p b ++ s) (drop (p + length s) b) (p + length s) head_length

  -- behind it stands what was there
  pub drop-put : drop (p + length s) (put b p s) ≡ drop (p + length s) b
  drop-put = ap (drop (p + length s)) in_front_lem ∙ drop_at (take p b ++ s) (drop (p + length s) b) (p + length s) head_length

  -- itself, read back from its place
  pub read-put : take (length s) (drop p (put b p s)) ≡ s
  read-put =
      ap (λ (l : List A). take (length s) (drop p l)) (open_put b p s)
      ∙ ap (take (length s)) (drop_at (take p b) (s ++ drop (p + length s) b) p (length-take-le p b (omega arith)))
      ∙ take-append_seam s (drop (p + length s) b)

  -- one list, and another after it
  pub put-put : (t : List A) → put (put b p s) (p + length s) t ≡ put b p (s ++ t)
  put-put t =
      open_put (put b p s) (p + length s) t
      ∙ (rw (take_put, later, append_assoc (take p b) s, ← append_assoc s t (drop (p + length s + length t) b), ends))
      ∙ sym (open_put b p (s ++ t))
    where
      ends : p + length s + length t ≡ p + length (s ++ t)
      ends = omega (arith, length-append s t)

      later : drop (p + length s + length t) (put b p s) ≡ drop (p + length s + length t) b
      later = sym (drop-drop (length t) (p + length s) (put b p s)) ∙ ap (drop (length t)) drop-put ∙ drop-drop (length t) (p + length s) b

-- ---- a part overwritten
-- a part that has become s is s written from its start on
pub written_part : {A : Type 0} (b : List A) (p : ℕ) (s x : List A) → x ≡ s → Written b p s (p + length s) (put_mid p (p + length s - p) b x)
unfolding put
written_part b p s x e = record { place = refl; became = rw (e, drop-drop (p + length s - p) p b, there) }
  where
    there : p + (p + length s - p) ≡ p + length s
    there = omega arith

-- ---- nothing written
pub put-nothing : {A : Type 0} (b : List A) (p : ℕ) → b ≡ put b p []
unfolding put
put-nothing b p =
    let e : p + 0 ≡ p = omega arith in
    sym (ap (λ (n : ℕ). take p b ++ drop n b) e ∙ take-append-drop p b)

-- ---- writers one after another
-- a shorter list fits where a longer one does
pub shorter : {A : Type 0} (p : ℕ) (s t : List A) {n : ℕ} → p + length (s ++ t) ≤ n → p + length s ≤ n
shorter p s t h = omega (arith, length-append s t)

module _ {A : Type 0} {b : List A} {p : ℕ} {s : List A} {q : ℕ} {b₁ : List A} (w : Written b p s q b₁) (t : List A) (room : p + length (s ++ t) ≤ length b) where
  -- the next writer has room
  pub room_after : q + length t ≤ length b₁
  room_after = omega (arith, w.place, ap length w.became, length-put b p s (shorter p s t room), length-append s t)

  -- and the two have written both
  pub then : {r : ℕ} {b₂ : List A} → Written b₁ q t r b₂ → Written b p (s ++ t) r b₂
  then {r} {b₂} v =
      record {
        place = omega (arith, w.place, v.place, length-append s t);
        became = v.became ∙ rw (w.became, w.place) (put-put b p s (shorter p s t room) t);
      }

-- a writer leaves one answer and one state of what is lent
pub written_one : {A : Type 0} {b : List A} {p : ℕ} {s : List A} {q r : ℕ} {b₁ b₂ : List A} → Written b p s q b₁ → Written b p s r b₂ → (q ≡ r) × (b₁ ≡ b₂)
written_one v w = (v.place ∙ sym w.place, v.became ∙ sym w.became)
