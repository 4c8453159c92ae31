-- An answer line, read back, tells the answer that it was made from: the size of each figure stands before its space, each letter at its place, and the
-- number of a refusal before the LF. Assumes nothing.
use Prim.Native.Nat.{ℕ, ◌+◌, ◌-◌}
use mathlib.Core.Path.{◌≡◌, refl, ap, subst, ◌∙◌}
use mathlib.Core.Bool.{Bool, true, false, not, ◌&&◌}
use mathlib.Core.List.{List, [], ◌∷◌, ◌++◌, append_assoc}
use native.Mathlib.Omega.{arith}
use lib.ListN.{length, get_or, take, length-append}
use lib.Seq.{take-append_seam, drop_at, take_at}
use lib.Dec.{T}
use lib.IntN.{ℤ, pos, negsuc, nat_abs}
use lib.Signed.{le_z}
use Rattle.std.specs.Prelude.{Result, Ok, Err, None, Some, unwrap_or}
use Rattle.refusals.specs.declared.Refusal.{Refusal}
use Rattle.refusals.specs.Order as Order
use Rattle.request.specs.declared.Field.{Field}
use Rattle.request.specs.declared.Field.TheVariants.{Measured, Inferred, Estimated, Blank}
use Rattle.request.specs.declared.Request.{Request}
use Rattle.request.specs.Fields.{is_given, is_blank, value_of, size_of, within, allowed}
use Rattle.outcome.specs.Figures.{or_estimate, dip, width, ztor, rrup, z25}
use Rattle.outcome.specs.Refusals.{refusal}
use Rattle.outcome.specs.Answers.{completed, completion_of}
use Rattle.outcome.proofs.ExactlyWhen.{accepted-refusal}
use Rattle.outcome.proofs.SentBackWhole.{silent, kept_path, site_rows_lem}
use Rattle.lent.specs.Lent.{put, LentWritten}
use Rattle.lent.proofs.PutLaws.{read-put}
use Rattle.lent.proofs.WroteLaws.{to_fits, after-fits}
use Rattle.numerals.specs.Render.{lf, space, ascii, render, ended}
use Rattle.text.specs.Grammar.{space_at, digits_of}
use Rattle.text.proofs.RoundTrip.{digits_back, space-past, number_no_space}
use Rattle.lines.specs.Lines.{letter_of, spaced, letters, ok_line, number_line, completion_line}
use Rattle.lines.specs.ReadBack.{figures, number, told, report_of, plain, number_in, behind, figure_in, figures_in, read_back}

-- ---- a figure and what stands behind it
module _ (f : Field) (s : List ℕ) where
  open_spaced : spaced f ++ s ≡ render (size_of f) ++ space ∷ s
  unfolding spaced ended
  open_spaced = append_assoc (render (size_of f)) (space ∷ []) s

  space-first : space_at (render (size_of f) ++ space ∷ s) ≡ length (render (size_of f))
  unfolding space_at
  space-first = space-past (render (size_of f)) (space ∷ s) (number_no_space (size_of f)) ∙ omega arith

  pub number_first : number_in (spaced f ++ s) ≡ size_of f
  unfolding number_in
  number_first =
      rw (open_spaced, space-first, take-append_seam (render (size_of f)) (space ∷ s), digits_back (size_of f))

  pub behind-first : behind (spaced f ++ s) ≡ s
  unfolding behind
  behind-first =
      rw (open_spaced, space-first, ← append_assoc (render (size_of f)) (space ∷ []) s)
      (drop_at (render (size_of f) ++ (space ∷ [])) s (length (render (size_of f)) + 1) (length-append (render (size_of f)) (space ∷ [])))

pub figure-back : (f : Field) → figure_in (size_of f) (letter_of f) ≡ told f
unfolding figure_in letter_of told
figure-back (Measured v) = refl
figure-back (Inferred v) = refl
figure-back (Estimated v) = refl
figure-back Blank = refl

-- ---- the lines
-- five figures, and behind them their letters
five :
    (a b c d e : Field) (l : List ℕ)
    → figures_in (spaced a ++ (spaced b ++ (spaced c ++ (spaced d ++ (spaced e ++ l)))))
    ≡ figures
    (figure_in (size_of a) (get_or l 0 0))
    (figure_in (size_of b) (get_or l 1 0))
    (figure_in (size_of c) (get_or l 2 0))
    (figure_in (size_of d) (get_or l 3 0))
    (figure_in (size_of e) (get_or l 4 0))
unfolding figures_in
five a b c d e l =
    let s₄ : List ℕ = spaced e ++ l in
    let s₃ : List ℕ = spaced d ++ s₄ in
    let s₂ : List ℕ = spaced c ++ s₃ in
    let s₁ : List ℕ = spaced b ++ s₂ in
    rw (
      behind-first a s₁,
      behind-first b s₂,
      behind-first c s₃,
      behind-first d s₄,
      behind-first e l,
      number_first a s₁,
      number_first b s₂,
      number_first c s₃,
      number_first d s₄,
      number_first e l,
    )

open_ok :
    (c : Request)
    → ok_line c
    ≡ ascii "ok " ++ (spaced c.dip ++ (spaced c.w ++ (spaced c.ztor ++ (spaced c.rrup ++ (spaced c.z25 ++ letters c)))))
unfolding ok_line
open_ok c = simp append_assoc

ok_back : (c : Request) → read_back (ok_line c) ≡ figures (told c.dip) (told c.w) (told c.ztor) (told c.rrup) (told c.z25)
unfolding read_back ascii letters
ok_back c =
    ap read_back (open_ok c)
    ∙ five c.dip c.w c.ztor c.rrup c.z25 (letters c)
    ∙ rw (figure-back c.dip, figure-back c.w, figure-back c.ztor, figure-back c.rrup, figure-back c.z25)

no_back : (n : ℕ) → read_back (number_line n) ≡ number n
unfolding read_back number_line ended
no_back n =
    let digits = render n in
    ap (λ (s : List ℕ). number (plain s))
    (take_at digits (lf ∷ []) (length (digits ++ (lf ∷ [])) - 1) (omega (arith, length-append digits (lf ∷ []))))
    ∙ rw (digits_back n)

-- whatever stands in a completion's place, and any number of it
pub line-back : {E : Type 0} (number_of : E → ℕ) (a : Result Request E) → read_back (completion_line number_of a) ≡ report_of number_of a
unfolding completion_line report_of
line-back number_of (Ok c) = ok_back c
line-back number_of (Err n) = no_back (number_of n)

-- ---- of an accepted request, whose figures are not negative, the line tells the figures themselves
told_number : (v : ℤ) (a : ℕ) → le_z (pos a) v ≡ true → pos (nat_abs v) ≡ v
told_number (pos n) a h = refl
told_number (negsuc n) a h = absurd (subst (λ t. T (not t)) h tt)

first-half : (a b : Bool) → not (a && b) ≡ false → a ≡ true
first-half true b h = refl
first-half false b h = absurd (subst T h tt)

told-figure : (f : Field) (e a b : ℕ) → not (allowed f (pos a) (pos b)) ≡ false → told (or_estimate f e) ≡ or_estimate f e
unfolding told or_estimate allowed within is_given is_blank size_of value_of
told-figure (Measured v) e a b h = ap Measured (told_number v a (first-half (le_z (pos a) v) (le_z v (pos b)) h))
told-figure (Inferred v) e a b h = ap Inferred (told_number v a (first-half (le_z (pos a) v) (le_z v (pos b)) h))
told-figure (Estimated v) e a b h = absurd (subst T h tt)
told-figure Blank e a b h = refl

module _ (r : Request) (accepted : refusal r ≡ None) where
  told-dip : told (dip r) ≡ dip r
  unfolding dip
  told-dip = told-figure r.dip _ 15 90 (silent r accepted).dip

  told-width : told (width r) ≡ width r
  unfolding width
  told-width = told-figure r.w _ 1 100000 (silent r accepted).w

  told-ztor : told (ztor r) ≡ ztor r
  unfolding ztor
  told-ztor = told-figure r.ztor _ 0 15000 (silent r accepted).ztor

  told-rrup : told (rrup r) ≡ rrup r
  unfolding rrup
  told-rrup = told-figure r.rrup _ 0 200000 (kept_path r accepted).2

  told-z25 : told (z25 r) ≡ z25 r
  unfolding z25
  told-z25 = told-figure r.z25 _ 0 10000 (site_rows_lem r accepted).2

five-alike :
    {a b c d e a' b' c' d' e' : Field} → a ≡ a' → b ≡ b' → c ≡ c' → d ≡ d' → e ≡ e' → figures a b c d e ≡ figures a' b' c' d' e'
five-alike p q s t u = rw (p, q, s, t, u)

pub accepted-told :
    (r : Request) → completion_of r ≡ Ok (completed r)
    → read_back (completion_line Order.number_of (completion_of r)) ≡ figures (dip r) (width r) (ztor r) (rrup r) (z25 r)
unfolding report_of completed
accepted-told r e =
    let h = accepted-refusal r e in
    ap (λ (a : Result Request Refusal). read_back (completion_line Order.number_of a)) e
    ∙ line-back Order.number_of (Ok (completed r))
    ∙ five-alike (told-dip r h) (told-width r h) (told-ztor r h) (told-rrup r h) (told-z25 r h)

-- what a writer left in the lent bytes, read back from them
pub written_back :
    {E : Type 0} (number_of : E → ℕ) (a : Result Request E) {b b₁ : List ℕ} (n : ℕ) → LentWritten b (completion_line number_of a) (Ok n) b₁
    → read_back (take n b₁) ≡ report_of number_of a
written_back number_of a {b} {b₁} n w =
    let s = completion_line number_of a in
    let f = to_fits (length b) s n w.answer in
    ap (λ (l : List ℕ). read_back (take n l)) (w.became ∙ after-fits b s f.0)
    ∙ ap (λ (k : ℕ). read_back (take k (put b 0 s))) f.1
    ∙ ap read_back (read-put b 0 s (omega (arith, f.0)))
    ∙ line-back number_of a
