-- One test after another, as the definition has them.
use Rattle.std.proofs.Common.{◌≡◌, ℕ, ◌-◌, List, length, take, drop, sym, ap, ◌∙◌, arith}
use Rattle.std.specs.Prelude.{Option}
use Rattle.lent.proofs.PartLaws.{rest}
use Rattle.request_lines.specs.RequestText.{list_text}
use Rattle.list_lines.specs.ListLines.{requests_in, surveyed}
use Rattle.site_files.specs.Format.{head_size, count_in, records_in, lines_in}
use Rattle.site_files.specs.Given.{found}
use Rattle.site_files.proofs.GivenLaws.{no_mark, other_length, looked}
use Rattle.site_files.proofs.files.look_through.Goals as goal

-- the records behind the head were surveyed
surveyed_all : (file : List ℕ) (n : ℕ) (v : Option ℕ) → n ≡ count_in file
    → (let rs = records_in n (take (length file - head_size) (drop head_size file)) in v ≡ surveyed rs (length (list_text (requests_in rs))))
    → v ≡ surveyed (lines_in file) (length (list_text (requests_in (lines_in file))))
unfolding lines_in
surveyed_all file n v e h =
    h
    ∙ ap (λ (l : List ℕ). surveyed (records_in n l) (length (list_text (requests_in (records_in n l))))) (rest file head_size)
    ∙ ap (λ (k : ℕ). surveyed (records_in k (drop head_size file)) (length (list_text (requests_in (records_in k (drop head_size file)))))) e

pub returns-then-not-is_marked : goal.returns-then-not-is_marked
unfolding found
returns-then-not-is_marked c = rw (no_mark c.args.file.now (sym c.if-not-is_marked.ensures))

pub returns-then-file-lt-HEAD : goal.returns-then-file-lt-HEAD
unfolding found
returns-then-file-lt-HEAD c =
    rw (other_length c.args.file.now (sym c.if-not-is_marked.ensures) (λ q. omega (arith, c.if-file-lt-HEAD.true)))

pub returns-then-file-n : goal.returns-then-file-n
unfolding found
returns-then-file-n c =
    rw (other_length c.args.file.now (sym c.if-not-is_marked.ensures) (λ q. c.if-file-n.true (omega (arith, q, c.count_in-n.ensures.0))))

pub returns : goal.returns
returns c =
    c.ok_or.ensures.value
    ∙ rw (surveyed_all c.args.file.now c.count_in-n.result c.survey_records.result c.count_in-n.ensures.0 c.survey_records.ensures)
    (looked c.args.file.now (sym c.if-not-is_marked.ensures) (omega (arith, c.if-file-n.false, c.count_in-n.ensures.0)))
