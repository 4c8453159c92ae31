-- The refusals by name and number, the order in which they are tested, and what it means that one of them is the first. Document 01's table, from
-- the top; no other file of the specs has their numbers. Definitions only.
use Rattle.std.specs.Prelude.{ℕ, ◌≡◌, Bool, true, false, not, cond, ◌&&◌, List, [], ◌∷◌, map, T, leb, eqb, Option, Some, None, Result, Ok, Err}
use Rattle.refusals.specs.declared.Refusal.{Refusal}
use Rattle.refusals.specs.declared.Refusal.TheVariants as No

-- ---- by number
abbrev pub number_of : Refusal → ℕ
-- the line cannot be read
number_of No.Malformed = 14
-- a figure is already marked as estimated by us
number_of No.Marked = 26
-- the file has another mark or version
number_of No.NoFile = 19
-- the file is longer or shorter than its count says, or has too many records
number_of No.FileLength = 20
-- a field of a file's record
number_of No.FileField = 21
number_of No.Rake = 1
-- by the style of fault
number_of No.Magnitude = 2
number_of No.Vs30 = 3
number_of No.Dip = 4
number_of No.Width = 5
number_of No.Hypocentre = 6
-- ZTOR, given or completed
number_of No.Top = 7
number_of No.Rjb = 8
number_of No.Azimuth = 9
-- the site is above the rupture, and RRUP is blank
number_of No.Above = 10
-- given or completed
number_of No.Rrup = 11
-- a given RRUP that is too short
number_of No.TooShort = 12
-- a given RRUP that is too long for the fault
number_of No.TooFar = 18
-- Z1.0, Z1.5 or Z2.5, the last given or completed
number_of No.Basin = 13
-- there is no such measure
number_of No.NoMeasure = 15
-- the period is not from the shortest to the longest that is tabulated
number_of No.NoPeriod = 17
-- the answer is longer than what is lent for it
number_of No.TooLong = 16

-- what a refusal's number is, as a conversion says it
abbrev pub IsNumberOf : Refusal → ℕ → Type 0
IsNumberOf refusal n = n ≡ number_of refusal

-- ---- the order in which they are tested
abbrev pub order : List Refusal
order =
    No.Malformed
    ∷ No.Marked
    ∷ No.NoFile
    ∷ No.FileLength
    ∷ No.FileField
    ∷ No.Rake
    ∷ No.Magnitude
    ∷ No.Vs30
    ∷ No.Dip
    ∷ No.Width
    ∷ No.Hypocentre
    ∷ No.Top
    ∷ No.Rjb
    ∷ No.Azimuth
    ∷ No.Above
    ∷ No.Rrup
    ∷ No.TooShort
    ∷ No.TooFar
    ∷ No.Basin
    ∷ No.NoMeasure
    ∷ No.NoPeriod
    ∷ No.TooLong
    ∷ []

-- what is left of a list from n on, nothing where n is not in it
abbrev pub from : ℕ → List ℕ → List ℕ
from n [] = []
from n (m ∷ rest) = cond (eqb n m) (m ∷ rest) (from n rest)

-- whether a list has a number
abbrev pub some : List ℕ → Bool
some [] = false
some (n ∷ rest) = true

-- whether no number stands in a list twice
abbrev pub apart : List ℕ → Bool
apart [] = true
apart (n ∷ rest) = not (some (from n rest)) && apart rest

-- whether each lies from 1 to `most`
abbrev pub up_to : ℕ → List ℕ → Bool
up_to most [] = true
up_to most (n ∷ rest) = leb 1 n && (leb n most && up_to most rest)

-- the numbers of a list of refusals
abbrev pub numbers : List Refusal → List ℕ
numbers refusals = map number_of refusals

-- ---- the first that applies
-- a row is a refusal, and whether its condition holds
abbrev pub Rows : Type 0
Rows = List (Refusal × Bool)

-- the refusal of the first row whose condition holds, none where none does
unfoldable pub first : Rows → Option Refusal
first [] = None
first (row ∷ rows) = cond row.1 (Some row.0) (first rows)

-- n is the refusal of a row whose condition holds, and that of no row before it does
pub data Fires (n : Refusal) : Rows → Type 0 where
  here : {rest : Rows} → Fires n ((n, true) ∷ rest)
  later : {m : Refusal} {rest : Rows} → Fires n rest → Fires n ((m, false) ∷ rest)

-- no row's condition holds
pub data Silent : Rows → Type 0 where
  empty : Silent []
  quiet : {m : Refusal} {rest : Rows} → Silent rest → Silent ((m, false) ∷ rest)

-- an answer: what is asked for, unless it is refused
abbrev pub unless : {A : Type 0} → Option Refusal → A → Result A Refusal
unless None a = Ok a
unless (Some n) a = Err n

-- what an answer says in document 01's terms: its refusal's number, 0 for none
abbrev pub number_in : {A : Type 0} → Result A Refusal → ℕ
number_in (Ok a) = 0
number_in (Err n) = number_of n

-- ---- a table in the order
-- each row's number stands in the list, not before that of the row above it
abbrev pub follows : List ℕ → Rows → Bool
follows list [] = true
follows list (row ∷ rows) = some (from (number_of row.0) list) && follows (from (number_of row.0) list) rows

-- a table's rows stand in the order in which they are tested, where a refusal may have several
abbrev pub InOrder : Rows → Type 0
InOrder rows = T (follows (numbers order) rows)
