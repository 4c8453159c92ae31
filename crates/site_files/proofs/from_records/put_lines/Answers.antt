-- Record by record.
use Rattle.std.proofs.Common.{◌≡◌, ℕ, ◌+◌, ◌-◌, ◌*◌, ◌<◌, List, [], ◌∷◌, ◌++◌, take, drop, ap, ◌∙◌, arith}
use Rattle.std.specs.Prelude.{Some, None}
use Rattle.request.specs.declared.Request.{Request}
use Rattle.numerals.specs.Render.{lf}
use Rattle.lent.proofs.PutLaws.{shorter}
use Rattle.lent.proofs.LeftLaws.{Left, all_left, less-left, nothing_left}
use Rattle.request_lines.specs.RequestText.{line_text, list_text}
use Rattle.records.specs.Records.{record_size, record_in}
use Rattle.list_lines.specs.ListLines.{requests_in}
use Rattle.site_files.specs.Format.{records_in}
use Rattle.site_files.proofs.RecordSteps.{left, text_of, text_more, none_passed, all_passed, one-long, one_passed}
use Rattle.site_files.proofs.from_records.put_lines.Goals as goal
use Rattle.site_files.proofs.from_records.put_lines.Goals.{in-Some, in_default}

module _ {b b₁ : List ℕ} {p : ℕ} (s : List ℕ) (count k : ℕ) (inside : k < count)
    (so_far : Left b 0 (text_of (records_in count s)) b₁ p (text_of (left count s k))) where
  -- of a record that was read its line is left, and what follows it
  its_line : (r : Request) → Some r ≡ record_in (take (record_size * k + record_size - record_size * k) (drop (record_size * k) s))
      → Left b 0 (text_of (records_in count s)) b₁ p ((line_text r ++ (lf ∷ [])) ++ text_of (left count s (k + 1)))
  its_line r e = rw (ap text_of (one_passed s count k inside (Some r) e) ∙ text_more r (left count s (k + 1))) at so_far

  -- and of another only that
  no_line : None ≡ record_in (take (record_size * k + record_size - record_size * k) (drop (record_size * k) s))
      → Left b 0 (text_of (records_in count s)) b₁ p (text_of (left count s (k + 1)))
  unfolding requests_in
  no_line e = rw (one_passed s count k inside None e) at so_far

pub loop-k-init : goal.loop-k-init
loop-k-init c = rw (none_passed c.args.s.now c.args.count) (all_left _ _ _ (omega (arith, c.requires.1)))

pub record_in-requires : goal.record_in-requires
record_in-requires c = one-long c.args.s.now c.args.count c.loop-k.k c.loop-k-test.true c.requires.0

pub put_line-p-requires : goal.put_line-p-requires
put_line-p-requires c =
    shorter c.loop-k.p (line_text c.in-Some.r ++ (lf ∷ [])) _
    (its_line c.args.s.now c.args.count c.loop-k.k c.loop-k-test.true c.loop-k.invariant c.in-Some.r c.in-Some.ensures).room

pub loop-k-preserved : goal.loop-k-preserved
loop-k-preserved c =
    elim c.match-record_in.branch [
      | in-Some w ↦
          rw (w.b-is, w.p-is)
          (less-left _ _ (its_line c.args.s.now c.args.count c.loop-k.k c.loop-k-test.true c.loop-k.invariant w.in-Some.r w.in-Some.ensures) w.put_line-p.ensures)
      | in_default w ↦
          rw (w.b-is, w.p-is) (no_line c.args.s.now c.args.count c.loop-k.k c.loop-k-test.true c.loop-k.invariant w.in_default.ensures)
    ]

pub returns : goal.returns
unfolding list_text requests_in
returns c = nothing_left (rw (all_passed c.args.s.now c.args.count c.loop-k.k c.loop-k-test.false) at c.loop-k.invariant)
