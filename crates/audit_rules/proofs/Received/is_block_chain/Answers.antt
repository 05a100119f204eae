use Rattle.audit_rules.proofs.Lists.{chain_met, marks_met, no_chain}
use Rattle.audit_rules.proofs.Nexts.{block_nexts}
use Rattle.audit_rules.specs.Tables.{tables}
use Rattle.audit_rules.proofs.Received.is_block_chain.Goals as goal

pub walk-requires-clause-nexts : goal.walk-requires-clause-nexts
walk-requires-clause-nexts c = block_nexts (tables c.args.self) c.requires.in_table

pub returns-clause-chain : goal.returns-clause-chain
returns-clause-chain c e =
    let t = tables c.args.self in
    let met = c.walk.ensures.met e in
    (chain_met t met, marks_met t met c.requires.blank)

pub returns-clause-none : goal.returns-clause-none
returns-clause-none c e = no_chain (tables c.args.self) (c.walk.ensures.unmet e) c.requires.blank
