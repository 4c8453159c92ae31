-- Before each turn the rows below k and PGA's are the definition's, and the measure at hand is one of the request.
use Rattle.std.proofs.Common.{◌≡◌}
use Rattle.measures.proofs.FilledRows.{Filled}
use Rattle.measures.proofs.fine_rows_of.Given as goal

abbrev pub invariant-loop-k : goal.invariant-loop-k
invariant-loop-k l = record { filled : Filled l.fn.x l.rows l.k; same : l.m.measure.f.now.x ≡ l.fn.x }

abbrev pub invariant-loop-k-2 : goal.invariant-loop-k-2
invariant-loop-k-2 l = record { filled : Filled l.fn.x l.rows l.k; same : l.m.measure.f.now.x ≡ l.fn.x }
