-- The count of a file that has lines, or the refusal.
use Rattle.std.proofs.Common.{◌≡◌, ℕ, ◌≤◌, List, length, ap, arith}
use Rattle.std.specs.Prelude.{Ok}
use Rattle.std.proofs.lemmas.Result.{err_from_is_err_and}
use Rattle.site_files.specs.Format.{unpack_of}
use Rattle.site_files.specs.Given.{found, records_found}
use Rattle.site_files.proofs.Inverse.{unpacked, as_long}
use Rattle.site_files.proofs.GivenLaws.{found-lines, found-refusal}
use Rattle.site_files.proofs.calls.record_count.Goals as goal

-- a file that was found to have lines has a head
headed : (file : List ℕ) (size : ℕ) → Ok size ≡ found (unpack_of file) → 7 ≤ length file
headed file size e =
    let l = found-lines (unpack_of file) e in
    omega (arith, as_long file (unpacked file l.text l.made).measured)

pub returns-in_err-look_through : goal.returns-in_err-look_through
unfolding records_found
returns-in_err-look_through c =
    let p = err_from_is_err_and c.from_residual.result c.from_residual.ensures.1 in
    rw (p.1, p.2, found-refusal (unpack_of c.args.file.now) c.in_err-look_through.ensures)

pub count_in-requires : goal.count_in-requires
count_in-requires c = headed c.args.file.now c.in_ok-look_through.field-0 c.in_ok-look_through.ensures

pub returns : goal.returns
unfolding records_found
returns c = rw (found-lines (unpack_of c.args.file.now) c.in_ok-look_through.ensures).made (ap Ok c.count_in.ensures.0)
