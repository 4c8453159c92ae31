-- Writer and reader are inverse on what they accept: a list that is written and read back is the same list, and a file that is read and
-- written again is the same bytes. Assumes nothing.
use Prim.Native.Nat.{ℕ, ◌+◌, ◌*◌, ◌≤◌}
use mathlib.Core.Path.{◌≡◌, refl, sym, ap, ◌∙◌}
use mathlib.Core.Bool.{Bool, true, false, cond}
use mathlib.Core.List.{List}
use native.Mathlib.Omega.{arith}
use borrow.Author.Tests.{le-ltb, ltb-false, eq-eqb, eqb-true}
use lib.Dec.{ltb}
use lib.ListN.{length, drop, length-append, length-drop}
use Rattle.std.specs.Prelude.{Result, Ok, Err}
use Rattle.refusals.specs.declared.Refusal.{Refusal}
use Rattle.refusals.specs.declared.Refusal.TheVariants as No
use Rattle.request.specs.declared.Request.{Request}
use Rattle.request_lines.specs.RequestText.{list_text}
use Rattle.records.specs.Records.{are_bytes, record_size}
use Rattle.list_lines.specs.ListLines.{lines_of, all_read, requests_in}
use Rattle.site_files.specs.Format.{most_records, head_size, head_of, records_of, file_of, is_marked, count_in, is_measured, lines_in, pack_of, unpack_of}
use Rattle.list_lines.proofs.ListBack.{all_writable, read, all_read_lem, requests-read, as_many, lines_of_text, text_of_lines}
use Rattle.site_files.proofs.RecordsBack.{length_records, records_read, length-read, records_writable, records_bytes}
use Rattle.site_files.proofs.HeadBack.{head_marked, head_count, head_past, length_head, head_back, past_bytes, count-le}

-- ---- requests in a file
pub length-file : (rs : List Request) → length (file_of rs) ≡ head_size + record_size * length rs
unfolding file_of
length-file rs = omega (arith, length-append (head_of (length rs)) (records_of rs), length_head (length rs), length_records rs)

module _ (rs : List Request) (few : length rs ≤ most_records) where
  file-measured : is_measured (file_of rs) ≡ true
  unfolding is_measured file_of
  file-measured = rw (head_count (length rs) (records_of rs) few) (eq-eqb _ _ (length-file rs))

  file-marked : is_marked (file_of rs) ≡ true
  unfolding file_of
  file-marked = head_marked (length rs) (records_of rs)

  file-lines : all_writable rs ≡ true → lines_in (file_of rs) ≡ read rs
  unfolding lines_in file_of
  file-lines e = rw (head_count (length rs) (records_of rs) few, head_past (length rs) (records_of rs)) (records_read rs e)

  file-unpacked : all_writable rs ≡ true → unpack_of (file_of rs) ≡ Ok (list_text rs)
  unfolding unpack_of
  file-unpacked e = rw (file-marked, file-measured, file-lines e, all_read_lem rs, requests-read rs)

  text_packed : all_writable rs ≡ true → pack_of (list_text rs) ≡ Ok (file_of rs)
  unfolding pack_of
  text_packed e = rw (lines_of_text rs e, all_read_lem rs, requests-read rs, le-ltb most_records (length (read rs)) (omega (arith, as_many (read rs) (all_read_lem rs), ap length (requests-read rs))))

-- ---- what was accepted
bytes_same : (s t : List ℕ) → ◌≡◌ {A = Result (List ℕ) Refusal} (Ok s) (Ok t) → s ≡ t
bytes_same s t e = cc

no_refusal : (k : Refusal) (s : List ℕ) → Err k ≡ Ok s → ⊥
no_refusal k s e = let z : ◌≡◌ {A = ℕ} 0 1 = cc in omega arith

record Packed (list file : List ℕ) : Type 0 where
  pub all : all_read (lines_of list) ≡ true
  pub few : length (lines_of list) ≤ most_records
  pub made : file_of (requests_in (lines_of list)) ≡ file

packed : (list file : List ℕ) → pack_of list ≡ Ok file → Packed list file
unfolding pack_of
packed list file e = go (all_read (lines_of list)) refl (ltb most_records (length (lines_of list))) refl e
  where
    go : (a : Bool) → all_read (lines_of list) ≡ a → (b : Bool) → ltb most_records (length (lines_of list)) ≡ b
        → cond a (cond b (Err No.FileLength) (Ok (file_of (requests_in (lines_of list))))) (Err No.Malformed) ≡ Ok file → Packed list file
    go true f false g h = record { all = f; few = ltb-false most_records (length (lines_of list)) g; made = bytes_same _ _ h }
    go true f true g h = absurd (no_refusal _ _ h)
    go false f b g h = absurd (no_refusal _ _ h)

pub record Unpacked (file list : List ℕ) : Type 0 where
  pub marked : is_marked file ≡ true
  pub measured : is_measured file ≡ true
  pub all : all_read (lines_in file) ≡ true
  pub made : list_text (requests_in (lines_in file)) ≡ list

pub unpacked : (file list : List ℕ) → unpack_of file ≡ Ok list → Unpacked file list
unfolding unpack_of
unpacked file list e = go (is_marked file) refl (is_measured file) refl (all_read (lines_in file)) refl e
  where
    go : (a : Bool) → is_marked file ≡ a → (b : Bool) → is_measured file ≡ b → (d : Bool) → all_read (lines_in file) ≡ d
        → cond a (cond b (cond d (Ok (list_text (requests_in (lines_in file)))) (Err No.FileField)) (Err No.FileLength)) (Err No.NoFile) ≡ Ok list
        → Unpacked file list
    go true f true g true k h = record { marked = f; measured = g; all = k; made = bytes_same _ _ h }
    go true f true g false k h = absurd (no_refusal _ _ h)
    go true f false g d k h = absurd (no_refusal _ _ h)
    go false f b g d k h = absurd (no_refusal _ _ h)

-- as long as its count says
pub as_long : (file : List ℕ) → is_measured file ≡ true → length file ≡ head_size + record_size * count_in file
unfolding is_measured
as_long file e = eqb-true (length file) (head_size + record_size * count_in file) e

-- ---- a list written and read back
pub list_back : (list file : List ℕ) → pack_of list ≡ Ok file → unpack_of file ≡ Ok list
list_back list file e =
    let p = packed list file e in
    let t = text_of_lines list p.all in
    rw (← p.made)
    (file-unpacked (requests_in (lines_of list)) (omega (arith, p.few, as_many (lines_of list) p.all)) t.0 ∙ ap Ok t.1)

-- ---- a file read and written again
module _ (file list : List ℕ) (are : are_bytes file ≡ true) (e : unpack_of file ≡ Ok list) where
  u : Unpacked file list
  u = unpacked file list e

  long : length file ≡ head_size + record_size * count_in file
  long = as_long file u.measured

  many : length (requests_in (lines_in file)) ≡ count_in file
  unfolding lines_in
  many = as_many (lines_in file) u.all ∙ length-read (count_in file) (drop head_size file)

  all-writable : all_writable (requests_in (lines_in file)) ≡ true
  unfolding lines_in
  all-writable = records_writable (count_in file) (drop head_size file) u.all

  same : records_of (requests_in (lines_in file)) ≡ drop head_size file
  unfolding lines_in
  same =
      records_bytes (count_in file) (drop head_size file) (omega (arith, long, length-drop head_size file)) (past_bytes file u.marked (omega (arith, long)) are) u.all

  file-same : file_of (requests_in (lines_in file)) ≡ file
  unfolding file_of
  file-same = rw (many, same) (head_back file u.marked (omega (arith, long)) are)

  pub file-back : pack_of list ≡ Ok file
  file-back =
      ap pack_of (sym u.made)
      ∙ text_packed (requests_in (lines_in file)) (omega (arith, many, count-le file u.marked (omega (arith, long)) are)) all-writable
      ∙ ap Ok file-same
