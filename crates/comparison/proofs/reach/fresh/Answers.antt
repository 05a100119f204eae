use Rattle.std.proofs.Common.{OnOk, subst, sym, ◌∙◌}
use Rattle.session.specs.Sessions.{AddsCursor}
use Rattle.comparison.specs.Reached.{IsFresh, kind_of}
use Rattle.comparison.proofs.Made.{one_more, none_more, none_of, cursor_more}
use Rattle.comparison.proofs.reach.fresh.Goals as goal
use Rattle.comparison.proofs.reach.fresh.Goals.{in-Some+in_ok-add_cursor, in_default}

pub loop-command-preserved : goal.loop-command-preserved
loop-command-preserved c =
    elim c.match-kind.branch [
      | in-Some+in_ok-add_cursor w ↦
          let e = one_more kind_of c.args.commands.now c.loop-command.command-index _ w.in-Some.kind c.loop-command-test.true (sym c.kind.ensures ∙ w.in-Some.is) in
          let added = subst (λ r. OnOk r (AddsCursor w.in-Some.kind c.loop-command.session w.add_cursor.new.self)) w.in_ok-add_cursor.was w.add_cursor.ensures.ok in
          subst (IsFresh _) (sym w.session-is) (cursor_more _ _ _ _ _ e c.loop-command.invariant added)
      | in_default w ↦
          let e = none_more kind_of c.args.commands.now c.loop-command.command-index _ c.loop-command-test.true (sym c.kind.ensures ∙ none_of _ w.in_default.not-Some) in
          subst (IsFresh _) (sym w.session-is) (subst (λ kinds. IsFresh kinds c.loop-command.session) (sym e) c.loop-command.invariant)
    ]
