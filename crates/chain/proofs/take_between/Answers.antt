use Rattle.std.proofs.Common.{rules}
use Rattle.chain.proofs.Edits.{removes}
use Rattle.chain.proofs.take_between.Goals as goal

pub returns-clause-chain : goal.returns-clause-chain
returns-clause-chain g c = removes {place = g.N.Key.Key.place} g.met.N.Key.Key.apart g.N.LinkedNode.links _ c.args.ends c.args.key c.args.prev c.args.next _ _ (search rules) (search rules)
