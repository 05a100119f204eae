use Rattle.std.proofs.Common.{ap, nat_lt, of_calls, rules, sym, ◌∙◌}
use Rattle.chain.specs.Chain.{walk}
use Rattle.chain.specs.Table.{read_at}
use Rattle.entities.specs.Nodes.{inst_links}
use Rattle.audit_walks.proofs.Runs.{behind_run, whole_run}
use Rattle.audit_walks.specs.declared.Keys.{Keys}
use Rattle.entities.specs.declared.Inst.{Inst}
use Rattle.entities.specs.declared.nodes.InstNode.{InstNode}
use Rattle.audit_rules.proofs.Climbing.{seq, sorted}
use Rattle.audit_rules.proofs.rising.rise.Goals as goal

pub returns : goal.returns
returns c =
    let left = λ (s : Keys InstNode Inst). walk (λ k. read_at inst_links.next_of s.nodes.now k.0) s.left s.next in
    let run = c.is_sorted_by.ensures.runs in
    let all = ap left run.1 ∙ c.new.ensures in
    let items = behind_run left run.0 in
    sorted c.args.insts.now items.0 run.0.whole c.is_sorted_by.result (sym all ∙ items.1) (λ w. whole_run left run.0 w ∙ all) run.2.0 (run.2.1 (λ a b. nat_lt (seq c.args.insts.now a) (seq c.args.insts.now b)) (search (of_calls, rules))).0
