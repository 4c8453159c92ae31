-- How a list or a file that is read in blocks is taken, block by block, and how a run ends. Definitions only.
use Rattle.std.specs.Prelude.{ℕ, ◌+◌, ◌-◌, ◌≤◌, ◌<◌, min, ◌≡◌, Bool, true, false, ◌⊎◌, Option, Some, None, Result, Ok, Err, List, length, take, drop}
use Rattle.cuts.specs.Cuts.{up_to}
use Rattle.numerals.specs.Render.{lf}
use Rattle.refusals.specs.declared.Refusal.TheVariants as No
use Rattle.text.specs.Grammar.{longest}
use Rattle.list_lines.specs.ListLines.{lines_of, all_read}
use Rattle.site_files.specs.Format.{most_records, records_in}
use Rattle.file_streams.specs.declared.Failure.{Failure}
use Rattle.file_streams.specs.declared.Failure.TheVariants as F
use Rattle.file_streams.specs.declared.held.Held.{Held}

-- ---- the writer
-- the most bytes of a list that are taken at once: their records fit the room for these
abbrev pub block_size : ℕ
block_size = 16384

abbrev pub room_size : ℕ
room_size = 65536

-- the bytes held of a line that is not finished
abbrev pub held_by : Held → List ℕ
held_by h = take h.count h.bytes

-- a read into so much room leaves no more bytes, finds the end, or fails by the system
abbrev pub ReadTo : ℕ → Result (Option ℕ) Failure → Type 0
ReadTo room (Ok (Some n)) = n ≤ room
ReadTo room (Ok None) = Unit {0}
ReadTo room (Err f) = f ≡ F.System

-- so many lines, up to one more than a file has
unfoldable pub lines_so_far : ℕ → List ℕ → ℕ
lines_so_far count lines = min (count + length (lines_of lines)) (most_records + 1)

-- some whole lines after so many others: counted and written, malformed, or not written by the system
abbrev pub Stepped : ℕ → List ℕ → Result ℕ Failure → Type 0
Stepped count lines (Ok n) = (all_read (lines_of lines) ≡ true) × (n ≡ lines_so_far count lines)
Stepped count lines (Err (F.Refused k)) = (all_read (lines_of lines) ≡ false) × (k ≡ No.Malformed)
Stepped count lines (Err F.System) = Unit {0}

-- what may come of lines: so many, up to one more than a file has; malformed; or not written by the system
abbrev pub StepEnds : Result ℕ Failure → Type 0
StepEnds (Ok n) = n ≤ most_records + 1
StepEnds (Err (F.Refused k)) = k ≡ No.Malformed
StepEnds (Err F.System) = Unit {0}

-- a block taken after so many lines, and what is held then: what is behind its last LF is held and what is before that packed, or it is too long for a line
pub data Taken (count : ℕ) (block held : List ℕ) : Result ℕ Failure → Type 0 where
  too_long : longest < length block - up_to lf block → Taken count block held (Err (F.Refused No.Malformed))
  taken : {r : Result ℕ Failure} → length held ≤ longest → held ≡ drop (up_to lf block) block → Stepped count (take (up_to lf block) block) r → Taken count block held r

-- the end of a list, of whose last line so many bytes are held, after so many lines: unfinished, too many, whole, or not written by the system
abbrev pub Closed : ℕ → ℕ → Result (Unit {0}) Failure → Type 0
Closed kept count (Ok u) = (kept ≤ 0) × (count ≤ most_records)
Closed kept count (Err (F.Refused k)) = ((0 < kept) × (k ≡ No.Malformed)) ⊎ ((kept ≤ 0) × (most_records < count) × (k ≡ No.FileLength))
Closed kept count (Err F.System) = Unit {0}

-- where nothing more is read: the end of the list, or a failure
abbrev pub ReadEnd : ℕ → ℕ → Result (Option ℕ) Failure → Result (Unit {0}) Failure → Type 0
ReadEnd kept count (Ok (Some n)) e = e ≡ Err F.System
ReadEnd kept count (Ok None) e = Closed kept count e
ReadEnd kept count (Err f) e = e ≡ Err f

-- a run: whole, refused with a number of the writer's, or failed by the system
abbrev pub PackEnd : Result (Unit {0}) Failure → Type 0
PackEnd (Ok u) = Unit {0}
PackEnd (Err (F.Refused k)) = (k ≡ No.Malformed) ⊎ (k ≡ No.FileLength)
PackEnd (Err F.System) = Unit {0}

-- ---- the reader
-- the most records that are taken at once: their lines fit the room for these
abbrev pub some_records : ℕ
some_records = 600

-- so many records: written as lines, malformed, or not written by the system
abbrev pub Unblocked : ℕ → List ℕ → Result Bool Failure → Type 0
Unblocked count records (Ok sound) = all_read (records_in count records) ≡ sound
Unblocked count records (Err f) = f ≡ F.System

-- so many records after others: none is written after one that is malformed
abbrev pub Continued : Bool → ℕ → List ℕ → Result Bool Failure → Type 0
Continued true count records r = Unblocked count records r
Continued false count records r = r ≡ Ok false

-- the end of a file whose records were all well-formed, or not: nothing may follow them
abbrev pub Behind : Bool → Result (Unit {0}) Failure → Type 0
Behind sound (Ok u) = sound ≡ true
Behind sound (Err (F.Refused k)) = (k ≡ No.FileLength) ⊎ ((sound ≡ false) × (k ≡ No.FileField))
Behind sound (Err F.System) = Unit {0}

-- a run: whole, refused with a number of the reader's, or failed by the system
abbrev pub UnpackEnd : Result (Unit {0}) Failure → Type 0
UnpackEnd (Ok u) = Unit {0}
UnpackEnd (Err (F.Refused k)) = (k ≡ No.NoFile) ⊎ ((k ≡ No.FileLength) ⊎ (k ≡ No.FileField))
UnpackEnd (Err F.System) = Unit {0}
