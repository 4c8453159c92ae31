-- All lines are read first; then there are too many, or the file is too long, or head and records are written.
use Rattle.std.proofs.Common.{◌≡◌, ℕ, ◌+◌, ◌*◌, ◌≤◌, true, List, ◌++◌, length, sym, subst, ◌∙◌, arith, length-append}
use Rattle.std.specs.Prelude.{Some, Ok, Err}
use Rattle.std.proofs.lemmas.Result.{err_from_is_err_and}
use Rattle.refusals.specs.declared.Refusal.TheVariants as No
use Rattle.request.specs.declared.Request.{Request}
use Rattle.lent.specs.Lent.{Written}
use Rattle.lent.proofs.PutLaws.{room_after, then}
use Rattle.records.specs.Records.{record_size}
use Rattle.list_lines.specs.ListLines.{lines_of, all_read, requests_in, surveyed}
use Rattle.list_lines.proofs.SurveyLaws.{are_read, not_read}
use Rattle.list_lines.proofs.ListBack.{as_many}
use Rattle.site_files.specs.Format.{most_records, head_size, head_of, records_of, file_of, pack_of}
use Rattle.site_files.proofs.RecordsBack.{length_records}
use Rattle.site_files.proofs.HeadBack.{length_head}
use Rattle.site_files.proofs.Inverse.{length-file}
use Rattle.site_files.proofs.GivenLaws.{pack_malformed, pack_many, pack_made, given-error, given-short, given-bytes}
use Rattle.site_files.proofs.files.pack.Goals as goal

-- the requests of a list
abbrev requests : List ℕ → List Request
requests list = requests_in (lines_of list)

-- a list of which so many lines were counted
module _ (list : List ℕ) (n : ℕ) (e : Some n ≡ surveyed (lines_of list) (length (lines_of list))) where
  counted : (all_read (lines_of list) ≡ true) × (n ≡ length (lines_of list))
  counted = are_read (lines_of list) (length (lines_of list)) n e

  many : n ≡ length (requests list)
  many = counted.1 ∙ sym (as_many (lines_of list) counted.0)

  -- its file
  file-long : length (file_of (requests list)) ≡ head_size + record_size * n
  file-long = omega (arith, length-file (requests list), many)

  made : n ≤ most_records → pack_of list ≡ Ok (file_of (requests list))
  made h = pack_made list counted.0 (omega (arith, counted.1, h))

  module _ (file : List ℕ) (long : head_size + record_size * n ≤ length file) where
    -- head and records have room
    room : 0 + length (head_of n ++ records_of (requests list)) ≤ length file
    room = omega (arith, length-append (head_of n) (records_of (requests list)), length_head n, length_records (requests list), many, long)

    -- and are the file
    both : {p r : ℕ} {b₁ b₂ : List ℕ} → Written file 0 (head_of n) p b₁ → Written b₁ p (records_of (requests list)) r b₂ → Written file 0 (file_of (requests list)) r b₂
    unfolding file_of
    both {p} {r} {b₁} {b₂} v w =
        subst (λ (k : ℕ). Written file 0 (head_of k ++ records_of (requests list)) r b₂) many (then v (records_of (requests list)) room w)

pub returns-in_err-n : goal.returns-in_err-n
returns-in_err-n c =
    let p = err_from_is_err_and c.from_residual.result c.from_residual.ensures.1 in
    let none = c.in_err-n.ensures.ok_part in
    let e : Err c.in_err-n.field-0.0 ≡ Err No.Malformed = c.in_err-n.ensures.value ∙ rw none in
    let is : c.in_err-n.field-0.0 ≡ No.Malformed = cc in
    rw (p.1, p.2, is) (given-error c.args.file.now (pack_malformed c.args.list.now (not_read _ _ (sym none ∙ c.survey_lines.ensures))))

pub returns-then-n-gt-MOST : goal.returns-then-n-gt-MOST
returns-then-n-gt-MOST c =
    let u = counted c.args.list.now c.in_ok-n.n (sym c.in_ok-n.ensures.ok_part ∙ c.survey_lines.ensures) in
    given-error c.args.file.now (pack_many c.args.list.now u.0 (omega (arith, u.1, c.if-n-gt-MOST.true)))

pub returns-then-file-n : goal.returns-then-file-n
returns-then-file-n c =
    given-short c.args.file.now (file_of (requests c.args.list.now)) (made c.args.list.now c.in_ok-n.n (sym c.in_ok-n.ensures.ok_part ∙ c.survey_lines.ensures) c.if-n-gt-MOST.false)
    (omega (arith, file-long c.args.list.now c.in_ok-n.n (sym c.in_ok-n.ensures.ok_part ∙ c.survey_lines.ensures), c.if-file-n.true))

pub put_records-requires : goal.put_records-requires
put_records-requires c =
    room_after c.put_head-p.ensures (records_of (requests c.args.list.now)) (room c.args.list.now c.in_ok-n.n (sym c.in_ok-n.ensures.ok_part ∙ c.survey_lines.ensures) c.args.file.now c.if-file-n.false)

pub returns : goal.returns
returns c =
    given-bytes c.args.file.now (file_of (requests c.args.list.now)) (made c.args.list.now c.in_ok-n.n (sym c.in_ok-n.ensures.ok_part ∙ c.survey_lines.ensures) c.if-n-gt-MOST.false)
    (omega (arith, file-long c.args.list.now c.in_ok-n.n (sym c.in_ok-n.ensures.ok_part ∙ c.survey_lines.ensures), c.if-file-n.false))
    (both c.args.list.now c.in_ok-n.n (sym c.in_ok-n.ensures.ok_part ∙ c.survey_lines.ensures) c.args.file.now c.if-file-n.false c.put_head-p.ensures c.put_records.ensures)
