-- An answer line read back: the five figures with their letters, or the refusal's number. Definitions only.
use Rattle.std.specs.Prelude.{ℕ, ◌+◌, ◌-◌, cond, List, eqb, length, get_or, take, drop, pos, unwrap_or, Result, Ok, Err}
use Rattle.request.specs.declared.Field.{Field}
use Rattle.request.specs.declared.Field.TheVariants.{Measured, Inferred, Estimated, Blank}
use Rattle.request.specs.declared.Request.{Request}
use Rattle.request.specs.Fields.{size_of}
use Rattle.text.specs.Grammar.{space_at, digits_of}
use Rattle.lines.specs.Lines.{letter_m, letter_i, letter_e}

-- what an answer line tells: dip, W, ZTOR, RRUP and Z2.5, or a number
pub data Report : Type 0 where
  figures : Field → Field → Field → Field → Field → Report
  number : ℕ → Report

-- what a line tells of a figure: its size, and where it came from
unfoldable pub told : Field → Field
unfolding size_of
told (Measured v) = Measured (pos (size_of (Measured v)))
told (Inferred v) = Inferred (pos (size_of (Inferred v)))
told (Estimated v) = Estimated (pos (size_of (Estimated v)))
told Blank = Blank

-- what an answer says that a line tells
unfoldable pub report_of : {E : Type 0} → (E → ℕ) → Result Request E → Report
unfolding told
report_of number_of (Ok c) = figures (told c.dip) (told c.w) (told c.ztor) (told c.rrup) (told c.z25)
report_of number_of (Err n) = number (number_of n)

-- the number that digits stand for, 0 where a byte is no digit
abbrev pub plain : List ℕ → ℕ
plain s = unwrap_or (digits_of 0 s) 0

-- the number before the first space
unfoldable pub number_in : List ℕ → ℕ
unfolding space_at
number_in s = plain (take (space_at s) s)

-- what stands behind the first space
unfoldable pub behind : List ℕ → List ℕ
unfolding space_at
behind s = drop (space_at s + 1) s

-- a figure of its number and its letter
unfoldable pub figure_in : ℕ → ℕ → Field
figure_in n letter =
    cond (eqb letter letter_m) (Measured (pos n))
    (cond (eqb letter letter_i) (Inferred (pos n))
    (cond (eqb letter letter_e) (Estimated (pos n))
    Blank))

-- the five figures, from the first of them on
unfoldable pub figures_in : List ℕ → Report
unfolding number_in behind figure_in
figures_in s =
    let s₁ : List ℕ = behind s in
    let s₂ : List ℕ = behind s₁ in
    let s₃ : List ℕ = behind s₂ in
    let s₄ : List ℕ = behind s₃ in
    let l : List ℕ = behind s₄ in
    figures
    (figure_in (number_in s) (get_or l 0 0))
    (figure_in (number_in s₁) (get_or l 1 0))
    (figure_in (number_in s₂) (get_or l 2 0))
    (figure_in (number_in s₃) (get_or l 3 0))
    (figure_in (number_in s₄) (get_or l 4 0))

-- a line, its LF among its bytes: "o" begins "ok", and any other byte "no"
unfoldable pub read_back : List ℕ → Report
unfolding figures_in behind
read_back s =
    cond (eqb (get_or s 0 0) 111) (figures_in (behind s)) (number (plain (take (length (behind s) - 1) (behind s))))
