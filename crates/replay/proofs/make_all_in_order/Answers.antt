use Rattle.std.proofs.Common.{length, take, subst}
use Rattle.replay.specs.Runs.{InTurn}
use Rattle.replay.proofs.Turns.{joins, whole}
use Rattle.replay.proofs.make_all_in_order.Goals as goal

pub returns-clause-one_order : goal.returns-clause-one_order
returns-clause-one_order g c = λ start h reached. whole g.C.Cursor.pos c.args.calls.now (take (length c.args.calls.now) c.make_all.new.answers) start h c.args.layout.now c.make_all.new.layout c.args.cursors.now c.make_all.new.cursors reached c.make_all.ensures.turns

pub returns-clause-join : goal.returns-clause-join
returns-clause-join g c = λ xs ys e. joins g.C.Cursor.pos xs ys (take (length c.args.calls.now) c.make_all.new.answers) c.args.layout.now c.make_all.new.layout c.args.cursors.now c.make_all.new.cursors (subst (λ q. InTurn g.C.Cursor.pos q (take (length c.args.calls.now) c.make_all.new.answers) c.args.layout.now c.args.cursors.now c.make_all.new.layout c.make_all.new.cursors) e c.make_all.ensures.turns)
