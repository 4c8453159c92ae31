-- A head without its count, then the list. Of the system it is assumed that each call returns.
use Prim.Native.Nat.{ℕ, ◌≤◌}
use mathlib.Core.Path.{sym}
use native.Mathlib.Omega.{arith}
use lib.ListN.{length, replicate, length-replicate}
use lib.Seq.{length-take-le}
use Rattle.site_files.specs.Format.{head_of}
use Rattle.site_files.proofs.HeadBack.{length_head}
use Rattle.file_streams.specs.Ends.{room_size}
use Rattle.file_streams.proofs.EndLaws.{within, stands}
use Rattle.file_streams.proofs.pack.pack_stream.Goals as goal

-- the head has room
fits : length (head_of 0) ≤ length {A = ℕ} (replicate room_size 0)
fits = omega (arith, length_head 0, length-replicate {A = ℕ} room_size 0)

pub slice_bounds-out-end : goal.slice_bounds-out-end
slice_bounds-out-end g c = within fits c.put_head-p.ensures

pub slice_bounds-put_first-end : goal.slice_bounds-put_first-end
slice_bounds-put_first-end g c = sym (length-take-le c.put_head-p.result c.put_head-p.new.b (within fits c.put_head-p.ensures))

pub put_first-requires : goal.put_first-requires
put_first-requires g c = stands fits c.put_head-p.ensures
