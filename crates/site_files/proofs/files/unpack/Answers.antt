-- A file that was looked through has lines, which are written where there is room, or is refused.
use Rattle.std.proofs.Common.{◌≡◌, ℕ, ◌+◌, ◌-◌, ◌*◌, ◌≤◌, List, length, take, drop, subst, ap, ◌∙◌, arith, length-drop}
use Rattle.std.specs.Prelude.{Ok}
use Rattle.std.proofs.lemmas.Result.{err_from_is_err_and}
use Rattle.lent.specs.Lent.{Written}
use Rattle.lent.proofs.PartLaws.{rest}
use Rattle.request_lines.specs.RequestText.{list_text}
use Rattle.records.specs.Records.{record_size}
use Rattle.list_lines.specs.ListLines.{requests_in}
use Rattle.site_files.specs.Format.{head_size, count_in, records_in, lines_in, unpack_of}
use Rattle.site_files.specs.Given.{found}
use Rattle.site_files.proofs.Inverse.{Unpacked, unpacked, as_long}
use Rattle.site_files.proofs.GivenLaws.{Lines, found-lines, found-refusal, given-error, given-short, given-bytes}
use Rattle.site_files.proofs.files.unpack.Goals as goal

-- a file that was found to have lines
module _ (file : List ℕ) (size : ℕ) (e : Ok size ≡ found (unpack_of file)) where
  lines : Lines (unpack_of file) size
  lines = found-lines (unpack_of file) e

  was : Unpacked file lines.text
  was = unpacked file lines.text lines.made

  long : length file ≡ head_size + record_size * count_in file
  long = as_long file was.measured

  module _ (n : ℕ) (is : n ≡ count_in file) where
    -- the lines of what follows the head are those of the file
    same_text : list_text (requests_in (records_in n (take (length file - head_size) (drop head_size file)))) ≡ lines.text
    unfolding lines_in
    same_text =
        ap (λ (l : List ℕ). list_text (requests_in (records_in n l))) (rest file head_size)
        ∙ ap (λ (k : ℕ). list_text (requests_in (records_in k (drop head_size file)))) is
        ∙ was.made

    enough : (m : ℕ) → size ≤ m → (record_size * n ≤ length (take (length file - head_size) (drop head_size file)))
        × (length (list_text (requests_in (records_in n (take (length file - head_size) (drop head_size file))))) ≤ m)
    enough m h = (
      omega (arith, ap length (rest file head_size), length-drop head_size file, long, is),
      omega (arith, ap length same_text, lines.long, h),
    )

pub returns-then-list-size : goal.returns-then-list-size
returns-then-list-size c =
    let l = lines c.args.file.now c.in_ok-size.size c.in_ok-size.ensures in
    given-short c.args.list.now l.text l.made (omega (arith, l.long, c.if-list-size.true))

pub slice_bounds-put_lines-count : goal.slice_bounds-put_lines-count
slice_bounds-put_lines-count c = omega (arith, long c.args.file.now c.in_ok-size.size c.in_ok-size.ensures)

pub slice_bounds-put_lines-start : goal.slice_bounds-put_lines-start
slice_bounds-put_lines-start c = omega (arith, long c.args.file.now c.in_ok-size.size c.in_ok-size.ensures)

pub count_in-requires : goal.count_in-requires
count_in-requires c = omega (arith, long c.args.file.now c.in_ok-size.size c.in_ok-size.ensures)

pub put_lines-requires : goal.put_lines-requires
put_lines-requires c = enough c.args.file.now c.in_ok-size.size c.in_ok-size.ensures c.count_in.result c.count_in.ensures.0 (length c.args.list.now) c.if-list-size.false

pub returns : goal.returns
returns c =
    let l = lines c.args.file.now c.in_ok-size.size c.in_ok-size.ensures in
    given-bytes c.args.list.now l.text l.made (omega (arith, l.long, c.if-list-size.false))
    (subst (λ (t : List ℕ). Written c.args.list.now 0 t c.put_lines.result c.put_lines.new.b)
    (same_text c.args.file.now c.in_ok-size.size c.in_ok-size.ensures c.count_in.result c.count_in.ensures.0) c.put_lines.ensures)

pub returns-in_err-size : goal.returns-in_err-size
returns-in_err-size c =
    let p = err_from_is_err_and c.from_residual.result c.from_residual.ensures.1 in
    rw (p.1, p.2) (given-error c.args.list.now (found-refusal (unpack_of c.args.file.now) c.in_err-size.ensures))
