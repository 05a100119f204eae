use Rattle.std.proofs.Common.{length}
use Rattle.chain.specs.Table.{Within}
use Rattle.audit_walks.specs.Marks.{MoreMarked}
use Rattle.audit_walks.proofs.Going.{Walking}
use Rattle.audit_walks.proofs.Marking.{left}
use Rattle.audit_walks.proofs.walk.Given as goal

abbrev pub invariant-loop-at : goal.invariant-loop-at
invariant-loop-at g l = record {
  within : Within g.N.Key.Key.place (length l.nodes) l.at;
  going : Walking g.N.Key.Key.place g.N.LinkedNode.links l.nodes l.ends l.initial.met l.met l.ahead l.at;
  more : MoreMarked g.N.Key.Key.place l.initial.met l.met;
}

abbrev pub decreases-loop-at : goal.decreases-loop-at
decreases-loop-at g l = left l.met
