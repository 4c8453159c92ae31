-- A file for site lists, 02 K8: the mark `GMQ`, a 16-bit version, a 16-bit count of records, all numbers high byte first, then the records;
-- what its writer makes of a list of lines, and its reader of a file, and what each turns away. Definitions only.
use Rattle.std.specs.Prelude.{ℕ, zero, suc, ◌+◌, ◌*◌, Bool, cond, List, [], ◌∷◌, ◌++◌, eqb, ltb, length, take, drop, Option, Result, Ok, Err}
use Rattle.std.specs.List.{starts_with}
use Rattle.refusals.specs.declared.Refusal.{Refusal}
use Rattle.refusals.specs.declared.Refusal.TheVariants as No
use Rattle.request.specs.declared.Request.{Request}
use Rattle.numerals.specs.Render.{ascii}
use Rattle.request_lines.specs.RequestText.{list_text}
use Rattle.records.specs.Records.{high_first, number_from, record_size, record_of, record_in}
use Rattle.list_lines.specs.ListLines.{lines_from, lines_of, all_read, requests_in}

-- ---- the file
abbrev pub version : ℕ
version = 1

-- the most records that a count of 16 bits has
abbrev pub most_records : ℕ
most_records = 65535

-- the bytes before the records: the mark, the version and the count
abbrev pub head_size : ℕ
head_size = 7

-- the mark and the version
unfoldable pub beginning : List ℕ
unfolding ascii high_first
beginning = ascii "GMQ" ++ high_first 2 version

unfoldable pub head_of : ℕ → List ℕ
unfolding beginning high_first
head_of count = beginning ++ high_first 2 count

unfoldable pub records_of : List Request → List ℕ
unfolding record_of
records_of [] = []
records_of (r ∷ rs) = record_of r ++ records_of rs

-- a list of requests, written
unfoldable pub file_of : List Request → List ℕ
unfolding head_of records_of
file_of rs = head_of (length rs) ++ records_of rs

-- ---- a file, read
-- whether the mark and the version are these
unfoldable pub is_marked : List ℕ → Bool
unfolding beginning
is_marked s = starts_with eqb s beginning

-- the count of records
unfoldable pub count_in : List ℕ → ℕ
unfolding number_from
count_in s = number_from 0 (take 2 (drop 5 s))

-- whether the file is as long as its count says
unfoldable pub is_measured : List ℕ → Bool
unfolding count_in
is_measured s = eqb (length s) (head_size + record_size * count_in s)

-- so many records, each read
unfoldable pub records_in : ℕ → List ℕ → List (Option Request)
unfolding record_in
records_in zero s = []
records_in (suc n) s = record_in (take record_size s) ∷ records_in n (drop record_size s)

-- all that a file's count says
unfoldable pub lines_in : List ℕ → List (Option Request)
unfolding records_in count_in
lines_in s = records_in (count_in s) (drop head_size s)

-- ---- writer and reader
-- a file of a list: refused if a line is malformed, then if there are too many
unfoldable pub pack_of : List ℕ → Result (List ℕ) Refusal
unfolding all_read lines_from file_of requests_in
pack_of list =
    cond (all_read (lines_of list))
    (cond (ltb most_records (length (lines_of list))) (Err No.FileLength) (Ok (file_of (requests_in (lines_of list)))))
    (Err No.Malformed)

-- a list of a file: refused by its mark or version, then by its length, then by a field
unfoldable pub unpack_of : List ℕ → Result (List ℕ) Refusal
unfolding is_marked is_measured all_read lines_in list_text requests_in
unpack_of file =
    cond (is_marked file)
    (cond (is_measured file)
    (cond (all_read (lines_in file)) (Ok (list_text (requests_in (lines_in file)))) (Err No.FileField))
    (Err No.FileLength))
    (Err No.NoFile)
