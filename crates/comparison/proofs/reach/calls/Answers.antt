use Rattle.std.proofs.Common.{◌≡◌, [], ◌∷◌, ◌++◌, if◌then◌else◌, is_ok, sym, subst, ap, ◌∙◌}
use Rattle.comparison.specs.Reached.{call_of}
use Rattle.comparison.proofs.Made.{one_more, none_more, none_of}
use Rattle.comparison.proofs.reach.calls.Goals as goal
use Rattle.comparison.proofs.reach.calls.Goals.{in-Some+in_ok-push, in_default}

pub loop-command-preserved : goal.loop-command-preserved
loop-command-preserved c =
    elim c.match-call.branch [
      | in-Some+in_ok-push w ↦
          let pushed = subst (λ r. w.push.new.self.items ≡ (if is_ok r then (c.loop-command.calls.items ++ w.in-Some.call ∷ []) else c.loop-command.calls.items)) w.in_ok-push.was w.push.ensures.items in
          ap (λ v. v.items) w.calls-is ∙ pushed ∙ ap (λ xs. xs ++ (w.in-Some.call ∷ [])) c.loop-command.invariant
          ∙ sym (one_more call_of c.args.commands.now c.loop-command.command-index _ w.in-Some.call c.loop-command-test.true (sym c.call.ensures ∙ w.in-Some.is))
      | in_default w ↦
          ap (λ v. v.items) w.calls-is ∙ c.loop-command.invariant ∙ sym (none_more call_of c.args.commands.now c.loop-command.command-index _ c.loop-command-test.true (sym c.call.ensures ∙ none_of _ w.in_default.not-Some))
    ]
