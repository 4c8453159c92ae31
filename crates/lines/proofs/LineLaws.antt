-- How long the lines are, and that of a completed request as its figures one after the other. Assumes nothing.
use Prim.Native.Nat.{ℕ, ◌+◌, ◌≤◌, ◌<◌}
use mathlib.Core.Path.{◌≡◌, refl, ap, subst, ◌∙◌}
use mathlib.Core.List.{List, [], ◌∷◌, ◌++◌, map, append_assoc}
use native.Mathlib.Omega.{arith}
use native.Mathlib.Numerals.{add-one}
use lib.IntN.{pos}
use lib.ListN.{length, get_or, drop, length-append, drop_of_length-le}
use lib.Seq.{drop-cons}
use Rattle.request.specs.declared.Field.{Field}
use Rattle.request.specs.declared.Field.TheVariants.{Measured}
use Rattle.request.specs.declared.Request.{Request}
use Rattle.request.specs.Fields.{size_of}
use Rattle.lent.proofs.LeftLaws.{Left}
use Rattle.numerals.specs.Render.{lf, space, ascii, render}
use Rattle.numerals.proofs.RenderLaws.{length-ended}
use Rattle.lines.specs.Lines.{letter_of, spaced, columns, letters, ok_line, number_line}

pub length_spaced : (f : Field) → length (spaced f) ≡ length (render (size_of f)) + 1
unfolding spaced
length_spaced f = length-ended (size_of f) space

-- figures one after the other, each with its space
unfoldable pub figures : List Field → List ℕ
unfolding spaced
figures [] = []
figures (f ∷ fs) = spaced f ++ figures fs

-- the line is its word, the figures of its columns, and their letters
pub open_ok : (c : Request) → ok_line c ≡ ascii "ok " ++ (figures (columns c) ++ letters c)
unfolding ok_line figures
open_ok c = simp append_assoc

-- ---- figure by figure
module _ (fs : List Field) (i : ℕ) where
  pub figures_next : i < length fs → figures (drop i fs) ≡ spaced (get_or fs i (Measured (pos 0))) ++ figures (drop (i + 1) fs)
  unfolding figures
  figures_next h = rw (drop-cons fs i (Measured (pos 0)) h, add-one i)

  pub figures_end : length fs ≤ i → figures (drop i fs) ≡ []
  unfolding figures
  figures_end h = rw (drop_of_length-le fs h)

  -- the next one is the first of what is left to be written
  module _ {b s out : List ℕ} {at : ℕ} (rest : List ℕ) (l : Left b 0 s out at (figures (drop i fs) ++ rest)) where
    pub figure_left :
        i < length fs → Left b 0 s out at (spaced (get_or fs i (Measured (pos 0))) ++ (figures (drop (i + 1) fs) ++ rest))
    figure_left h =
        subst (Left b 0 s out at)
        (ap (λ (t : List ℕ). t ++ rest) (figures_next h)
        ∙ append_assoc (spaced (get_or fs i (Measured (pos 0)))) (figures (drop (i + 1) fs)) rest)
        l

    pub rest_left : length fs ≤ i → Left b 0 s out at rest
    rest_left h = subst (λ (t : List ℕ). Left b 0 s out at (t ++ rest)) (figures_end h) l

-- ---- letter by letter
-- the letters are those of the columns, and the LF
pub open_letters : (c : Request) → letters c ≡ map letter_of (columns c) ++ (lf ∷ [])
unfolding letters
open_letters c = refl

module _ (fs : List Field) (i : ℕ) where
  letters_next : i < length fs → map letter_of (drop i fs) ≡ (letter_of (get_or fs i (Measured (pos 0))) ∷ []) ++ map letter_of (drop (i + 1) fs)
  letters_next h = rw (drop-cons fs i (Measured (pos 0)) h, add-one i)

  module _ {b s out : List ℕ} {p at : ℕ} (rest : List ℕ) (l : Left b p s out at (map letter_of (drop i fs) ++ rest)) where
    pub letter_left :
        i < length fs → Left b p s out at ((letter_of (get_or fs i (Measured (pos 0))) ∷ []) ++ (map letter_of (drop (i + 1) fs) ++ rest))
    letter_left h =
        subst (λ (t : List ℕ). Left b p s out at (t ++ rest)) (letters_next h) l

    pub no_letter_left : length fs ≤ i → Left b p s out at rest
    no_letter_left h = subst (λ (t : List Field). Left b p s out at (map letter_of t ++ rest)) (drop_of_length-le fs h) l

-- ---- how long
pub length-figures : (c : Request) → length (ok_line c) ≡ 9 + length (figures (columns c))
unfolding ascii letters
length-figures c = ap length (open_ok c) ∙ simp length-append (omega arith)

pub length_ok :
    (c : Request)
    → length (ok_line c)
    ≡ length (render (size_of c.dip)) + length (render (size_of c.w)) + length (render (size_of c.ztor)) + length (render (size_of c.rrup))
    + length (render (size_of c.z25))
    + 14
unfolding ok_line ascii letters
length_ok c =
    simp length-append
    (omega (
      arith,
      length_spaced c.dip,
      length_spaced c.w,
      length_spaced c.ztor,
      length_spaced c.rrup,
      length_spaced c.z25,
    ))

pub length_no : (n : ℕ) → length (number_line n) ≡ length (render n) + 4
unfolding number_line ascii
length_no n = simp length-append (omega (arith, length-ended n lf))
