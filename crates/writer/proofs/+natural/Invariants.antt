use Rattle.writer.proofs.+natural.Given as goal

abbrev pub decreases-natural : goal.decreases-natural
decreases-natural l = l.number
