use Rattle.subcommands.proofs.example.ContrastDisplay.fmt.Goals as goal

pub returns-clause-writes : goal.returns-clause-writes
returns-clause-writes g c = rw (← c.conclusion.ensures) c.write.ensures.writes
