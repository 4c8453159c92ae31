-- What was written fits the lent bytes, and is what the reader is owed.
use Rattle.std.proofs.Common.{sym}
use native.Mathlib.Omega.{arith}
use lib.Seq.{length-take-le}
use Rattle.filter.proofs.TurnLaws.{closing_ok, closing_stands, closing-within}
use Rattle.filter.proofs.end_list.Goals as goal

pub unwrap-wrote-requires : goal.unwrap-wrote-requires
unwrap-wrote-requires g c = closing_ok c.close_list.ensures c.requires

pub slice_bounds-put_closing-end : goal.slice_bounds-put_closing-end
slice_bounds-put_closing-end g c =
    omega (arith, closing-within c.close_list.ensures c.requires c.unwrap-wrote.ensures, c.close_list.auto.out)

pub slice_bounds-put_closing-end-2 : goal.slice_bounds-put_closing-end-2
slice_bounds-put_closing-end-2 g c =
    sym
    (length-take-le c.unwrap-wrote.result c.close_list.new.out
    (omega (arith, closing-within c.close_list.ensures c.requires c.unwrap-wrote.ensures, c.close_list.auto.out)))

pub put_closing-requires : goal.put_closing-requires
put_closing-requires g c = closing_stands c.close_list.ensures c.requires c.unwrap-wrote.ensures
