use Rattle.std.proofs.Common.{[], arith, refl, sym, subst}
use Rattle.layout.specs.Program.{program}
use Rattle.comparison.specs.Reached.{Runs}
use Rattle.comparison.proofs.Made.{runs}
use Rattle.comparison.proofs.reach.run.Goals as goal

pub returns : goal.returns
returns c =
    let run = runs c.args.session c.replay-made.new.self c.args.calls.now _ c.replay-made.result (omega (arith, c.in_ok-answers.ensures.len, c.deref_mut.ensures.len)) c.replay-made.ensures.made (λ e. (c.replay-made.ensures.one_order e (program c.args.session.layout) [] refl).reached) in
    subst (Runs c.args.session c.args.calls.now) (sym c.then_some.ensures) run
