use Rattle.reckon.proofs.sine.+alternate.Given as goal

abbrev pub decreases-alternate : goal.decreases-alternate
decreases-alternate l = l.n
