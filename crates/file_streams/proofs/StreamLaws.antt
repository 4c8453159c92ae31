-- Blocks one after another are the whole; what is written of one has room; and how lines are counted. Assumes nothing.
use Prim.Native.Nat.{ℕ, ◌+◌, ◌*◌, ◌≤◌, ◌<◌}
use mathlib.Core.Path.{◌≡◌, refl, sym, ap, ◌∙◌}
use mathlib.Core.Bool.{true}
use mathlib.Core.List.{List, [], ◌++◌, append_assoc}
use native.Mathlib.Omega.{arith}
use lib.ListN.{length, take, drop, take-append-drop}
use lib.Seq.{length-take-le}
use Rattle.cuts.specs.Cuts.{up_to}
use Rattle.cuts.proofs.CutLaws.{up_le, up-whole}
use Rattle.numerals.specs.Render.{lf}
use Rattle.request_lines.specs.RequestText.{list_text}
use Rattle.records.specs.Records.{record_size}
use Rattle.list_lines.specs.ListLines.{lines_of, all_read, requests_in}
use Rattle.list_lines.proofs.LineLaws.{lines-append}
use Rattle.list_lines.proofs.ListBack.{as_many, text_of_lines, text_long}
use Rattle.site_files.specs.Format.{most_records, records_of, records_in}
use Rattle.site_files.proofs.Pieces.{records_append, text_append}
use Rattle.site_files.proofs.RecordsBack.{length_records}
use Rattle.site_files.proofs.RecordSteps.{records_join_in}
use Rattle.file_streams.specs.Ends.{lines_so_far}

-- ---- blocks
-- the records of whole lines, and of what follows them, are those of all
pub blocks_whole :
    (a b : List ℕ) → up_to lf a ≡ length a
    → records_of (requests_in (lines_of (a ++ b))) ≡ records_of (requests_in (lines_of a)) ++ records_of (requests_in (lines_of b))
blocks_whole a b e = ap (λ ls. records_of (requests_in ls)) (lines-append [] a b e (λ z. refl)) ∙ records_append (lines_of a) (lines_of b)

-- so a block, cut behind its last LF, gives its records before those of what is left of it and of all that follows
pub block_taken :
    (s t : List ℕ)
    → records_of (requests_in (lines_of (s ++ t)))
    ≡ records_of (requests_in (lines_of (take (up_to lf s) s))) ++ records_of (requests_in (lines_of (drop (up_to lf s) s ++ t)))
block_taken s t =
    ap (λ (l : List ℕ). records_of (requests_in (lines_of l)))
    (ap (λ (l : List ℕ). l ++ t) (sym (take-append-drop (up_to lf s) s)) ∙ append_assoc (take (up_to lf s) s) (drop (up_to lf s) s) t)
    ∙ blocks_whole (take (up_to lf s) s) (drop (up_to lf s) s ++ t) (up-whole lf s ∙ sym (length-take-le (up_to lf s) s (up_le lf s)))

-- the lines of some records, and of those that follow them, are those of all
pub records_whole :
    (m n : ℕ) (s : List ℕ)
    → list_text (requests_in (records_in (m + n) s))
    ≡ list_text (requests_in (records_in m s)) ++ list_text (requests_in (records_in n (drop (record_size * m) s)))
records_whole m n s =
    ap (λ ls. list_text (requests_in ls)) (records_join_in m n s) ∙ text_append (records_in m s) (records_in n (drop (record_size * m) s))

-- ---- their room
-- a line has 26 bytes at least, its LF counted
pub few-lines : (s : List ℕ) → all_read (lines_of s) ≡ true → 26 * length (lines_of s) ≤ length s
few-lines s e =
    let t = text_of_lines s e in
    omega (arith, (text_long (requests_in (lines_of s)) t.0).0, ap length t.1, as_many (lines_of s) e)

pub records_long : (s : List ℕ) → all_read (lines_of s) ≡ true → length (records_of (requests_in (lines_of s))) ≡ record_size * length (lines_of s)
records_long s e = omega (arith, length_records (requests_in (lines_of s)), as_many (lines_of s) e)

-- ---- how many lines
module _ (count : ℕ) (lines : List ℕ) where
  pub so_many : count + length (lines_of lines) ≤ most_records → lines_so_far count lines ≡ count + length (lines_of lines)
  unfolding lines_so_far
  so_many h = omega arith

  pub more : most_records < count + length (lines_of lines) → lines_so_far count lines ≡ most_records + 1
  unfolding lines_so_far
  more h = omega arith
