-- The mark is put, the version, and the count.
use Rattle.std.proofs.Common.{ℕ, ◌+◌, ◌≤◌, List, ◌++◌, length, arith}
use Rattle.lent.specs.Lent.{Written}
use Rattle.lent.proofs.PutLaws.{shorter, room_after, then}
use Rattle.numerals.specs.Render.{ascii}
use Rattle.records.specs.Records.{high_first}
use Rattle.site_files.specs.Format.{version, beginning, head_of}
use Rattle.site_files.proofs.HeadBack.{length_head}
use Rattle.site_files.proofs.head.put_head.Goals as goal

module _ (b : List ℕ) (count : ℕ) (long : 7 ≤ length b) where
  -- the head fits
  room : 0 + length (beginning ++ high_first 2 count) ≤ length b
  unfolding head_of
  room = omega (arith, long, length_head count)

  -- the mark and the version are written
  marked : {p q : ℕ} {b₁ b₂ : List ℕ} → Written b 0 (ascii "GMQ") p b₁ → Written b₁ p (high_first 2 version) q b₂ → Written b 0 beginning q b₂
  unfolding beginning
  marked v w = then v (high_first 2 version) (shorter 0 beginning (high_first 2 count) room) w

pub put_short-requires : goal.put_short-requires
unfolding high_first ascii
put_short-requires c =
    room_after (marked c.args.b.now c.args.count c.requires c.put_slice-p.ensures c.put_short-q.ensures) (high_first 2 c.args.count) (room c.args.b.now c.args.count c.requires)

pub returns : goal.returns
unfolding head_of ascii
returns c =
    then (marked c.args.b.now c.args.count c.requires c.put_slice-p.ensures c.put_short-q.ensures) (high_first 2 c.args.count) (room c.args.b.now c.args.count c.requires)
    c.put_short.ensures
