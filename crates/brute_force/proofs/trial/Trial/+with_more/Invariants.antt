use Rattle.brute_force.proofs.trial.Trial.+with_more.Given as goal

-- As many products may still be added: one less at each call.
abbrev pub decreases-with_more : goal.decreases-with_more
decreases-with_more l = l.most
