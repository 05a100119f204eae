use Rattle.std.proofs.Common.{arith, rules}
use Rattle.audit_walks.proofs.Going.{going_start, in_table, unmet_marked, unmet_unmirrored, walking_on}
use Rattle.audit_walks.proofs.Marking.{left_less, none_more, one_more}
use Rattle.audit_walks.proofs.walk.Goals as goal

pub bounds-met-place : goal.bounds-met-place
bounds-met-place g c = omega (arith, in_table g.N.Key.Key.place c.in-Some.is c.loop-at.invariant.within)

pub loop-at-init : goal.loop-at-init
loop-at-init g c = record {
  within = c.requires.first;
  going = going_start _ _ _ _ _ _;
  more = none_more _ _;
}

pub loop-at-smaller : goal.loop-at-smaller
loop-at-smaller g c = left_less c.loop-at.met c.index-place.result (omega (arith, in_table g.N.Key.Key.place c.in-Some.is c.loop-at.invariant.within)) c.if-met-place.false

pub loop-at-preserved : goal.loop-at-preserved
loop-at-preserved g c = record {
  within = search rules;
  going = walking_on g.N.LinkedNode.links c.args.nodes.now c.loop-at.invariant.going c.in-Some.is (omega (arith, in_table g.N.Key.Key.place c.in-Some.is c.loop-at.invariant.within)) c.index-place.ensures c.if-met-place.false c.prev_of.ensures (search rules) c.next_of-at.ensures;
  more = one_more _ _ _ c.loop-at.invariant.more c.index-place.ensures;
}

pub returns-then-met-place-clause-unmet : goal.returns-then-met-place-clause-unmet
returns-then-met-place-clause-unmet g c _ =
    unmet_marked g.met.N.Key.Key.apart c.requires.room c.loop-at.invariant.going c.in-Some.is c.index-place.ensures c.if-met-place.true

pub returns-then-not-is_same-clause-unmet : goal.returns-then-not-is_same-clause-unmet
returns-then-not-is_same-clause-unmet g c _ =
    unmet_unmirrored g.met.N.Key.Key.apart c.requires.room c.loop-at.invariant.going c.in-Some.is c.prev_of.ensures (search rules)
