use Rattle.std.proofs.Common.{ap, false, replicate, sym, ◌∙◌}
use Rattle.chain.specs.Chain.{walk}
use Rattle.chain.specs.Table.{read_at}
use Rattle.entities.specs.Nodes.{block_links, inst_place}
use Rattle.entities.specs.Program.{insts_in, insts_of}
use Rattle.entities.specs.declared.Block.{Block}
use Rattle.entities.specs.declared.nodes.BlockNode.{BlockNode}
use Rattle.listing.specs.Lawful.{Filled, line_of}
use Rattle.audit_walks.specs.declared.Keys.{Keys}
use Rattle.audit_walks.specs.Marks.{marked}
use Rattle.audit_rules.proofs.Turns.{all_listed, block_in_table, earliest, every_more, fresh, lines, listed_is, marks_on, parts_at, parts_end, parts_on}
use Rattle.audit_rules.specs.Tables.{tables}
use Rattle.audit_rules.proofs.Received.first_unchained.Goals as goal

pub loop-block-init : goal.loop-block-init
loop-block-init c =
    let left = λ (s : Keys BlockNode Block). walk (λ k. read_at block_links.next_of s.nodes.now k.0) s.left s.next in
    record {
      parts = sym (ap left c.into_iter-block-iterator.ensures.into_iter_gives ∙ c.new-block-items.ensures);
      filled = tt;
      marks = c.requires.blank;
    }

pub is_inst_chain-requires-clause-block : goal.is_inst_chain-requires-clause-block
is_inst_chain-requires-clause-block c = block_in_table (tables c.args.self) c.requires.block_chain c.loop-block.yielded _ c.in-Some.block (parts_at c.loop-block.yielded c.loop-block.invariant.parts c.in-Some.ensures.steps)

pub returns-then-not-is_inst_chain : goal.returns-then-not-is_inst_chain
returns-then-not-is_inst_chain c =
    let t = tables c.args.self in
    let i = c.loop-block.invariant in
    let parts = parts_at c.loop-block.yielded i.parts c.in-Some.ensures.steps in
    earliest t (Filled t) c.loop-block.yielded _ parts i.filled (λ f. c.is_inst_chain.ensures.none c.if-not-is_inst_chain.true f (fresh t c.requires.block_chain c.loop-block.yielded _ c.in-Some.block parts i.filled i.marks f))

pub loop-block-preserved : goal.loop-block-preserved
loop-block-preserved c =
    let t = tables c.args.self in
    let i = c.loop-block.invariant in
    let chain = c.is_inst_chain.ensures.chain c.if-not-is_inst_chain.false in
    record {
      parts = parts_on c.loop-block.yielded i.parts c.in-Some.ensures.steps;
      filled = every_more t (Filled t) c.loop-block.yielded c.in-Some.block i.filled chain.0;
      marks = chain.1 ∙ ap (λ m. marked inst_place (insts_in (line_of t c.in-Some.block).slots) m) i.marks ∙ marks_on t c.loop-block.yielded c.in-Some.block (replicate 1024 false);
    }

pub returns : goal.returns
returns c =
    let t = tables c.args.self in
    let i = c.loop-block.invariant in
    let all = parts_end c.loop-block.yielded i.parts c.in-None.ensures.steps.0 in
    (all_listed t (Filled t) all i.filled, i.marks ∙ ap (λ ls. marked inst_place (insts_of ls) (replicate 1024 false)) (sym (listed_is t ∙ ap (lines t) all)))
