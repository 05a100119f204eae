use Rattle.std.proofs.Common.{rules}
use Rattle.chain.proofs.Edits.{cuts}
use Rattle.chain.proofs.cut_between.Goals as goal

pub returns-clause-chain : goal.returns-clause-chain
returns-clause-chain g c = cuts g.met.N.Key.Key.apart g.N.LinkedNode.links _ c.args.key c.args.prev _ c.requires.ahead (search rules)
