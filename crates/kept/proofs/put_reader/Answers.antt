-- The bytes of the line, and the count behind them. Assumes nothing.
use Rattle.std.proofs.Common.{rules, ◌≡◌, length, [], ◌∷◌, arith}
use lib.ListN.{length-append}
use Rattle.lent.proofs.PutLaws.{then}
use Rattle.text.specs.Grammar.{longest}
use Rattle.kept.specs.Kept.{reader_bytes}
use Rattle.kept.proofs.put_reader.Goals as goal

pub returns : goal.returns
unfolding reader_bytes
returns c =
    let full : length c.args.r.held ≡ longest = search rules in
    then c.put_slice-at.ensures (c.args.r.count ∷ []) (omega (arith, c.requires, full, length-append c.args.r.held (c.args.r.count ∷ [])))
    c.put_byte.ensures
