use Rattle.reckon.proofs.root.+whole_root.Given as goal

abbrev pub decreases-whole_root : goal.decreases-whole_root
decreases-whole_root l = l.n
