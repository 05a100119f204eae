use Rattle.std.proofs.Common.{length, subst, sym, ◌∙◌}
use Rattle.std.proofs.lemmas.Bool.{true≢false}
use Rattle.chain.specs.Table.{Within}
use Rattle.chain.specs.declared.Ends.{Ends}
use Rattle.entities.specs.Nodes.{inst_place}
use Rattle.entities.specs.declared.Inst.{Inst}
use Rattle.audit_rules.proofs.Lists.{filled, filled_all, marks_filled}
use Rattle.audit_rules.proofs.Nexts.{first_inside, inst_nexts}
use Rattle.audit_rules.specs.Tables.{tables}
use Rattle.audit_rules.proofs.Received.is_inst_chain.Goals as goal

pub walk-requires-clause-nexts : goal.walk-requires-clause-nexts
walk-requires-clause-nexts c = inst_nexts (tables c.args.self) c.requires.in_table

pub walk-requires-clause-first : goal.walk-requires-clause-first
walk-requires-clause-first c = subst (λ (e : Ends Inst). Within inst_place (length c.args.self.insts.now) e.first) (sym c.inst_ends-ends.ensures) (first_inside (tables c.args.self) c.requires.in_table c.args.block)

pub returns-then-walk-clause-chain : goal.returns-then-walk-clause-chain
returns-then-walk-clause-chain c e =
    let t = tables c.args.self in
    let met = c.walk.ensures.met c.if-walk.true in
    (filled t c.args.block c.inst_ends-ends.ensures met (c.name_all.ensures.0 e), marks_filled t c.args.block c.inst_ends-ends.ensures met)

pub returns-then-walk-clause-none : goal.returns-then-walk-clause-none
returns-then-walk-clause-none c e f u = true≢false (sym (c.name_all.ensures.1 (filled_all (tables c.args.self) c.args.block c.inst_ends-ends.ensures f)) ∙ e)
