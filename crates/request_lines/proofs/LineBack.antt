-- A line that is read is the text of its request, so that no two lines say the same; the text of a request that text can hold is read
-- back. How long such a text is; and no text of a request has an LF in it. Assumes nothing.
use Prim.Native.Nat.{ℕ, zero, suc, ◌+◌, ◌*◌, ◌/◌, ◌%◌, ◌≤◌, ◌<◌}
use mathlib.Core.Path.{◌≡◌, refl, sym, ap, ◌∙◌}
use mathlib.Core.Bool.{Bool, true, false, not, cond, ◌&&◌, and-eq-true_iff}
use mathlib.Core.List.{List, [], ◌∷◌, ◌++◌, append-nil}
use native.Mathlib.Omega.{arith}
use native.Mathlib.Numerals.{add-one}
use borrow.Author.Tests.{lt-ltb, le-ltb, ltb-true, eqb-true, ne_eqb}
use lib.Dec.{ltb, eqb}
use lib.IntN.{ℤ, pos, negsuc}
use lib.ListN.{length, get_or, take, drop, length-append}
use lib.Seq.{split_at, take-append_seam, drop-append-add}
use Rattle.std.specs.Prelude.{Option, Some, None}
use Rattle.std.specs.Option.{option_map}
use Rattle.request.specs.declared.Field.{Field}
use Rattle.request.specs.declared.Field.TheVariants.{Measured, Inferred, Estimated, Blank}
use Rattle.request.specs.declared.Request.{Request}
use Rattle.numerals.specs.Render.{lf, space, digit0, render, render_signed}
use Rattle.numerals.proofs.RenderLaws.{by_tenths, render-one, render-more}
use Rattle.text.specs.Grammar.{longest, field_of, space_at, signed_at, in_front, fields_of, request_of, line_of}
use Rattle.text.proofs.RoundTrip.{space-past}
use Rattle.fields.specs.Held.{fields_in, holds, hold_all, writable}
use Rattle.fields.proofs.FieldsLaws.{request-back, thirteen, fields_back}
use Rattle.request_lines.specs.RequestText.{field_text, more_text, fields_text, line_text}
use Rattle.request_lines.proofs.FieldBack.{field_text_lem, text_field, field_no_space, most, field-length}

-- ---- fields that are read
-- before fields that follow another a space stands
more_text_lem : (n : ℕ) (fs : List Field) → length fs ≡ suc n → more_text fs ≡ space ∷ fields_text fs
unfolding more_text fields_text
more_text_lem n [] e = absurd (omega arith)
more_text_lem n (f ∷ fs) e = refl

-- fields from k on, and the bytes that they were read from
abbrev Text : ℕ → ℕ → List ℕ → List Field → Type 0
Text n k s fs = (hold_all k fs ≡ true) × (fields_text fs ≡ s) × (length fs ≡ suc n)

-- the place of the first space is a space's
space-found : (s : List ℕ) → space_at s < length s → get_or s (space_at s) 0 ≡ space
unfolding space_at
space-found [] h = absurd (omega arith)
space-found (c ∷ cs) h = go (eqb c space) refl (space-found cs) h
  where
    go : (t : Bool) → eqb c space ≡ t → (space_at cs < length cs → get_or cs (space_at cs) 0 ≡ space)
        → cond t 0 (suc (space_at cs)) < suc (length cs) → get_or (c ∷ cs) (cond t 0 (suc (space_at cs))) 0 ≡ space
    go true e ih g = eqb-true c space e
    go false e ih g = ih (omega arith)

-- behind a text with none, it is the one that follows
first-space : (s t : List ℕ) → space_at s ≡ length s → space_at (s ++ (space ∷ t)) ≡ length s
unfolding space_at
first-space s t h = omega (arith, space-past s (space ∷ t) h)

-- a field, its space and the rest
cut : (s : List ℕ) → space_at s < length s → take (space_at s) s ++ (space ∷ drop (space_at s + 1) s) ≡ s
cut s h = rw (add-one (space_at s)) (ap (λ (c : ℕ). take (space_at s) s ++ (c ∷ drop (suc (space_at s)) s)) (sym (space-found s h)) ∙ sym (split_at s (space_at s) 0 h))

-- the last of them, one in front of others, and so all
last_text : (k : ℕ) (s : List ℕ) (fs : List Field) → in_front (field_of (signed_at k) s) (Some []) ≡ Some fs → Text 0 k s fs
unfolding in_front hold_all fields_text
last_text k s fs e = go (field_of (signed_at k) s) refl e
  where
    go : (w : Option Field) → field_of (signed_at k) s ≡ w → in_front w (Some []) ≡ Some fs → Text 0 k s fs
    go (Some f) h g =
        let q : fs ≡ f ∷ [] = cc in
        let t = field_text_lem (signed_at k) s f h in
        rw q (rw t.0, append-nil (field_text f) ∙ t.1, refl)
    go None h g = cc

front_text : (n k : ℕ) (s t : List ℕ) (o : Option (List Field)) → ((gs : List Field) → o ≡ Some gs → Text n (k + 1) t gs) →
    (fs : List Field) → in_front (field_of (signed_at k) s) o ≡ Some fs → Text (suc n) k (s ++ (space ∷ t)) fs
unfolding in_front hold_all fields_text
front_text n k s t o h fs e = go (field_of (signed_at k) s) o refl h e
  where
    go : (w : Option Field) (p : Option (List Field)) → field_of (signed_at k) s ≡ w → ((gs : List Field) → p ≡ Some gs → Text n (k + 1) t gs)
        → in_front w p ≡ Some fs → Text (suc n) k (s ++ (space ∷ t)) fs
    go (Some f) (Some gs) e₁ h₁ g =
        let q : fs ≡ f ∷ gs = cc in
        let a = field_text_lem (signed_at k) s f e₁ in
        let b = h₁ gs refl in
        rw q (rw a.0 b.0, rw (a.1, more_text_lem n gs b.2, b.1), ap suc b.2)
    go (Some f) None e₁ h₁ g = cc
    go None p e₁ h₁ g = cc

fields_text_lem : (n k : ℕ) (s : List ℕ) (fs : List Field) → fields_of n k s ≡ Some fs → Text n k s fs
unfolding fields_of
fields_text_lem zero k s fs e = last_text k s fs e
fields_text_lem (suc n) k s fs e = go (ltb (space_at s) (length s)) refl (fields_text_lem n (k + 1) (drop (space_at s + 1) s)) e
  where
    go : (t : Bool) → ltb (space_at s) (length s) ≡ t → ((gs : List Field) → fields_of n (k + 1) (drop (space_at s + 1) s) ≡ Some gs → Text n (k + 1) (drop (space_at s + 1) s) gs)
        → cond t (in_front (field_of (signed_at k) (take (space_at s) s)) (fields_of n (k + 1) (drop (space_at s + 1) s))) None ≡ Some fs → Text (suc n) k s fs
    go true h ih g =
        rw (cut s (ltb-true (space_at s) (length s) h)) at
        (front_text n k (take (space_at s) s) (drop (space_at s + 1) s) (fields_of n (k + 1) (drop (space_at s + 1) s)) ih fs g)
    go false h ih g = cc

-- ---- fields that are written
-- one in front of others, and so all
front-fields : (n k : ℕ) (f : Field) (s : List ℕ) → holds (signed_at k) f ≡ true
    → fields_of (suc n) k (field_text f ++ (space ∷ s)) ≡ in_front (Some f) (fields_of n (k + 1) s)
unfolding fields_of
front-fields n k f s h =
    rw (
      here,
      lt-ltb (length (field_text f)) (length (field_text f ++ (space ∷ s))) (omega (arith, length-append (field_text f) (space ∷ s))),
      take-append_seam (field_text f) (space ∷ s),
      drop-append-add (field_text f) (space ∷ s) 1,
      text_field (signed_at k) f h,
    )
  where
    here : space_at (field_text f ++ (space ∷ s)) ≡ length (field_text f)
    here = first-space (field_text f) s (field_no_space f)

text_fields : (n k : ℕ) (fs : List Field) → length fs ≡ suc n → hold_all k fs ≡ true → fields_of n k (fields_text fs) ≡ Some fs
unfolding fields_of fields_text hold_all in_front
text_fields zero k [] l e = absurd (omega arith)
text_fields zero k (f ∷ []) l e =
    let h = ((and-eq-true_iff (holds (signed_at k) f) true).0 e).0 in
    rw (append-nil (field_text f), text_field (signed_at k) f h)
text_fields zero k (f ∷ g ∷ gs) l e = absurd (omega arith)
text_fields (suc n) k [] l e = absurd (omega arith)
text_fields (suc n) k (f ∷ fs) l e =
    let h = (and-eq-true_iff (holds (signed_at k) f) (hold_all (k + 1) fs)).0 e in
    let m : length fs ≡ suc n = omega arith in
    rw (more_text_lem n fs m) (front-fields n k f (fields_text fs) h.0 ∙ ap (in_front (Some f)) (text_fields n (k + 1) fs m h.1))

-- ---- how long they are
-- the most bytes of n fields from k on, with a space before each
unfoldable most_from : ℕ → ℕ → ℕ
unfolding signed_at
most_from zero k = 0
most_from (suc n) k = suc (most (signed_at k)) + most_from n (k + 1)

more-length : (n k : ℕ) (fs : List Field) → length fs ≡ n → hold_all k fs ≡ true → (2 * n ≤ length (more_text fs)) × (length (more_text fs) ≤ most_from n k)
unfolding more_text hold_all most_from
more-length zero k [] l e = omega arith
more-length zero k (f ∷ fs) l e = absurd (omega arith)
more-length (suc n) k [] l e = absurd (omega arith)
more-length (suc n) k (f ∷ fs) l e =
    let h = (and-eq-true_iff (holds (signed_at k) f) (hold_all (k + 1) fs)).0 e in
    omega (
      arith,
      field-length (signed_at k) f h.0,
      more-length n (k + 1) fs (omega arith) h.1,
      length-append (field_text f) (more_text fs),
    )

fields-length : (fs : List Field) → length fs ≡ 13 → hold_all 0 fs ≡ true → (25 ≤ length (fields_text fs)) × (length (fields_text fs) ≤ 105)
unfolding most_from
fields-length fs l e = omega (arith, more-length 13 0 fs l e, ap length (more_text_lem 12 fs l))

-- ---- the line
-- what is said of thirteen fields is said of the request made of them
request_text : (fs : List Field) → length fs ≡ 13 → (writable (request_of fs) ≡ hold_all 0 fs) × (line_text (request_of fs) ≡ fields_text fs)
unfolding writable line_text
request_text fs l = (ap (hold_all 0) (fields_back fs l), ap fields_text (fields_back fs l))

pub line_is_text : (s : List ℕ) (r : Request) → line_of s ≡ Some r → (writable r ≡ true) × (line_text r ≡ s)
unfolding line_of
line_is_text s r e = go (ltb longest (length s)) (fields_of 12 0 s) (fields_text_lem 12 0 s) e
  where
    go : (t : Bool) (o : Option (List Field)) → ((fs : List Field) → o ≡ Some fs → Text 12 0 s fs) → cond t None (option_map request_of o) ≡ Some r
        → (writable r ≡ true) × (line_text r ≡ s)
    go true o h g = cc
    go false None h g = cc
    go false (Some fs) h g =
        let q : r ≡ request_of fs = cc in
        let t = h fs refl in
        let u = request_text fs t.2 in
        rw q (u.0 ∙ t.0, u.1 ∙ t.1)

text_line : (fs : List Field) → length fs ≡ 13 → hold_all 0 fs ≡ true → line_of (fields_text fs) ≡ Some (request_of fs)
unfolding line_of
text_line fs l e =
    rw (le-ltb longest (length (fields_text fs)) (omega (arith, fields-length fs l e)))
    (ap (option_map request_of) (text_fields 12 0 fs l e))

module _ (r : Request) (e : writable r ≡ true) where
  pub text_is_line : line_of (line_text r) ≡ Some r
  unfolding writable line_text
  text_is_line = text_line (fields_in r) (thirteen r) e ∙ ap Some (request-back r)

  pub text_length : (25 ≤ length (line_text r)) × (length (line_text r) ≤ 105)
  unfolding writable line_text
  text_length = fields-length (fields_in r) (thirteen r) e

-- ---- one line
-- whether no byte is an LF
unfoldable pub no_lf : List ℕ → Bool
no_lf [] = true
no_lf (c ∷ cs) = not (eqb c lf) && no_lf cs

-- none in two texts, none in both; and so none in a number, in a field, in a line
both_no_lf : (s t : List ℕ) → no_lf s ≡ true → no_lf t ≡ true → no_lf (s ++ t) ≡ true
unfolding no_lf
both_no_lf [] t h k = k
both_no_lf (c ∷ cs) t h k =
    let u = (and-eq-true_iff (not (eqb c lf)) (no_lf cs)).0 h in
    rw u.0 (both_no_lf cs t u.1 k)

digit_no_lf : (n : ℕ) → no_lf ((digit0 + n) ∷ []) ≡ true
unfolding no_lf
digit_no_lf n = rw (ne_eqb (digit0 + n) lf (λ e. omega arith))

number_no_lf : (n : ℕ) → no_lf (render n) ≡ true
number_no_lf =
    by_tenths (λ n. no_lf (render n) ≡ true)
    (λ n h. rw (render-one n h) (digit_no_lf n))
    (λ n h ih. rw (render-more n h) (both_no_lf (render (n / 10)) ((digit0 + n % 10) ∷ []) ih (digit_no_lf (n % 10))))

signed_no_lf : (z : ℤ) → no_lf (render_signed z) ≡ true
unfolding render_signed no_lf
signed_no_lf (pos n) = number_no_lf n
signed_no_lf (negsuc n) = number_no_lf (suc n)

field_no_lf : (f : Field) → no_lf (field_text f) ≡ true
unfolding field_text no_lf
field_no_lf (Measured v) = signed_no_lf v
field_no_lf (Inferred v) = signed_no_lf v
field_no_lf (Estimated v) = refl
field_no_lf Blank = refl

more_no_lf : (fs : List Field) → no_lf (more_text fs) ≡ true
unfolding more_text no_lf
more_no_lf [] = refl
more_no_lf (f ∷ fs) = both_no_lf (field_text f) (more_text fs) (field_no_lf f) (more_no_lf fs)

fields_no_lf : (fs : List Field) → no_lf (fields_text fs) ≡ true
unfolding fields_text no_lf
fields_no_lf [] = refl
fields_no_lf (f ∷ fs) = both_no_lf (field_text f) (more_text fs) (field_no_lf f) (more_no_lf fs)

pub line_no_lf : (r : Request) → no_lf (line_text r) ≡ true
unfolding line_text
line_no_lf r = fields_no_lf (fields_in r)
