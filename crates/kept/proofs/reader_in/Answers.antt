-- The bytes of the line over an array of zeros, and the count behind them. Assumes nothing.
use Rattle.std.proofs.Common.{ℕ, ◌≡◌, ◌≤◌, List, length, take, refl, sym, arith}
use lib.Seq.{length-take-le}
use Rattle.text.specs.Grammar.{longest}
use Rattle.kept.specs.Kept.{reader_size, reader_in}
use Rattle.kept.proofs.KeptLaws.{same_reader}
use Rattle.kept.proofs.reader_in.Goals as goal

-- there are enough
first : (b : List ℕ) → reader_size ≤ length b → longest ≡ length (take longest b)
first b h = sym (length-take-le longest b (omega (arith, h)))

pub slice_bounds-copy_from_slice-end-2 : goal.slice_bounds-copy_from_slice-end-2
slice_bounds-copy_from_slice-end-2 c = first c.args.b.now c.requires

pub copy_from_slice-requires : goal.copy_from_slice-requires
copy_from_slice-requires c = first c.args.b.now c.requires

pub returns : goal.returns
unfolding reader_in
returns c = same_reader c.copy_from_slice.ensures.after refl
