use Rattle.std.proofs.Common.{◌≡◌, length, take, drop}
use Rattle.replay.specs.Runs.{InTurn}
use Rattle.replay.proofs.make_all.Given as goal

abbrev pub invariant-loop-i : goal.invariant-loop-i
invariant-loop-i g l = record {
  turns : InTurn g.C.Cursor.pos (take l.i l.calls) (take l.i l.answers) l.fn.layout l.fn.cursors l.layout l.cursors;
  rest : drop (length l.calls) l.answers ≡ drop (length l.calls) l.fn.answers;
}
