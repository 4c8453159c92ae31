-- A file that the reader takes, answered record by record: each of its records has the request of one line of its list, and so the answer to
-- that line. Assumes nothing.
use Prim.Native.Nat.{ℕ, zero, suc, ◌+◌, ◌*◌, ◌≤◌, ◌<◌}
use mathlib.Core.Path.{◌≡◌, refl, sym, ap, ◌∙◌}
use mathlib.Core.Bool.{true}
use mathlib.Core.List.{List, [], ◌∷◌}
use native.Mathlib.Omega.{arith}
use lib.ListN.{length, get_or, take, drop, length-drop}
use lib.Seq.{drop-drop}
use Rattle.std.specs.Prelude.{Option, Some, None, Result, Ok}
use Rattle.request.specs.declared.Request.{Request}
use Rattle.records.specs.Records.{record_size, record_in}
use Rattle.list_lines.specs.ListLines.{lines_of, all_read, requests_in}
use Rattle.list_lines.proofs.ListBack.{read, lines_of_text}
use Rattle.site_files.specs.Format.{head_size, count_in, records_in, lines_in, unpack_of}
use Rattle.site_files.proofs.RecordsBack.{length-read, records_writable}
use Rattle.site_files.proofs.Inverse.{Unpacked, unpacked, as_long}
use Rattle.answer.specs.declared.Sheet.{Sheet}
use Rattle.answer.specs.Sheets.{sheet_of, reply_of}
use Rattle.kept.specs.declared.faults.Fault.{Fault}
use Rattle.record_answers.specs.RecordAnswers.{record_reply}
use Rattle.record_answers.proofs.ReplyLaws.{reply_request}

-- ---- record by record
-- record k where it stands
record_at : (n k : ℕ) (s : List ℕ) → k < n → get_or (records_in n s) k None ≡ record_in (take record_size (drop (record_size * k) s))
unfolding records_in
record_at zero k s h = absurd (omega arith)
record_at (suc n) zero s h = refl
record_at (suc n) (suc k) s h =
    let e : record_size + record_size * k ≡ record_size * suc k = omega arith in
    record_at n k (drop record_size s) (omega arith)
    ∙ ap (λ (t : List ℕ). record_in (take record_size t)) (drop-drop (record_size * k) record_size s ∙ ap (λ (i : ℕ). drop i s) e)

-- ---- line by line
-- a line of those that are all well-formed has a request
record Requested (l : Option Request) : Type 0 where
  pub request : Request
  pub is : l ≡ Some request

requested : (ls : List (Option Request)) (k : ℕ) → all_read ls ≡ true → k < length ls → Requested (get_or ls k None)
unfolding all_read
requested [] k e h = absurd (omega arith)
requested (Some r ∷ ls) zero e h = record { request = r; is = refl }
requested (Some r ∷ ls) (suc k) e h = requested ls k e (omega arith)
requested (None ∷ ls) k e h = let z : ◌≡◌ {A = ℕ} 0 1 = cc in absurd (omega arith)

-- and all are those of their requests
read_again : (ls : List (Option Request)) → all_read ls ≡ true → read (requests_in ls) ≡ ls
unfolding all_read requests_in read
read_again [] e = refl
read_again (Some r ∷ ls) e = ap (λ (k : List (Option Request)). Some r ∷ k) (read_again ls e)
read_again (None ∷ ls) e = let z : ◌≡◌ {A = ℕ} 0 1 = cc in absurd (omega arith)

-- ---- the file and its list
-- the record at the start of some bytes, and line k of the list, have this request
pub record Alike (s list : List ℕ) (k : ℕ) : Type 0 where
  pub request : Request
  pub long : record_size ≤ length s
  pub of_record : record_in (take record_size s) ≡ Some request
  pub of_line : get_or (lines_of list) k None ≡ Some request

module _ (file list : List ℕ) (e : unpack_of file ≡ Ok list) where
  u : Unpacked file list
  u = unpacked file list e

  same_lines : lines_of list ≡ lines_in file
  unfolding lines_in
  same_lines =
      ap lines_of (sym u.made)
      ∙ lines_of_text (requests_in (lines_in file)) (records_writable (count_in file) (drop head_size file) u.all)
      ∙ read_again (lines_in file) u.all

  module _ (k : ℕ) (h : k < count_in file) where
    -- the file from record k on
    abbrev from : List ℕ
    from = drop (head_size + record_size * k) file

    same_record : get_or (lines_in file) k None ≡ record_in (take record_size from)
    unfolding lines_in
    same_record =
        record_at (count_in file) k (drop head_size file) h
        ∙ ap (λ (t : List ℕ). record_in (take record_size t)) (drop-drop (record_size * k) head_size file)

    pub alike : Alike from list k
    unfolding lines_in
    alike =
        let r = requested (lines_in file) k u.all (omega (arith, h, length-read (count_in file) (drop head_size file))) in
        record {
          request = r.request;
          long = omega (arith, h, as_long file u.measured, length-drop (head_size + record_size * k) file);
          of_record = sym same_record ∙ r.is;
          of_line = ap (λ (ls : List (Option Request)). get_or ls k None) same_lines ∙ r.is;
        }

    -- on every sheet
    pub record_answered : (sheet : Sheet) → record_reply (Some sheet) from ≡ Ok (reply_of sheet (get_or (lines_of list) k None))
    unfolding reply_of
    record_answered sheet =
        let r : ◌≡◌ {A = Result (List ℕ) Fault} (Ok (sheet_of sheet alike.request)) (Ok (reply_of sheet (get_or (lines_of list) k None))) = rw alike.of_line in
        reply_request from alike.long refl alike.of_record ∙ r
