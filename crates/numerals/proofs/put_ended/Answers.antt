-- The number is put, and then the byte.
use Rattle.std.proofs.Common.{[], ◌∷◌}
use Rattle.numerals.specs.Render.{render, ended}
use Rattle.lent.proofs.PutLaws.{shorter, room_after, then}
use Rattle.numerals.proofs.put_ended.Goals as goal

pub put_number-p-requires : goal.put_number-p-requires
unfolding ended
put_number-p-requires c = shorter c.args.at (render c.args.n) (c.args.end ∷ []) c.requires

pub put_byte-requires : goal.put_byte-requires
unfolding ended
put_byte-requires c = room_after c.put_number-p.ensures (c.args.end ∷ []) c.requires

pub returns : goal.returns
unfolding ended
returns c = then c.put_number-p.ensures (c.args.end ∷ []) c.requires c.put_byte.ensures
