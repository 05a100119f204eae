use Rattle.std.proofs.Common.{ap, refl, subst, sym}
use Rattle.std.proofs.lemmas.Bool.{eq-eqb}
use Rattle.parting.specs.Parts.{Parts}
use Rattle.parting.specs.Points.{points_left}
use Rattle.parting.proofs.Parted.{all_given, apart, parted}
use Rattle.parting.proofs.part.Goals as goal

pub returns-then-ne : goal.returns-then-ne
returns-then-ne c =
    let differ = apart _ (λ i. eq-eqb i.0 i.0 refl) (λ b. eq-eqb b.0 b.0 refl) c.in-Some.first c.next-second.result (sym c.if-ne.ensures) in
    parted _ _ _ _ c.loop-first.yielded _ _ _ _ _ (ap points_left c.into_iter-first-iterator.ensures.into_iter_gives) c.loop-first.yielded_by c.loop-first.invariant c.next.ensures.steps c.next-second.ensures _ _ c.in-Some.is refl differ

pub returns-in_err-second : goal.returns-in_err-second
returns-in_err-second c =
    let same = all_given _ _ _ _ c.loop-first.yielded _ _ _ _ _ (ap points_left c.into_iter-first-iterator.ensures.into_iter_gives) c.loop-first.yielded_by c.loop-first.invariant c.next.ensures.steps c.next-2.ensures c.in-None.is c.in_err-second.was in
    subst (λ r. Parts r (points_left c.args.firsts) (points_left c.args.seconds)) (sym c.from_residual.ensures) same

pub returns : goal.returns
returns c =
    parted _ _ _ _ c.loop-first.yielded _ _ _ _ _ (ap points_left c.into_iter-first-iterator.ensures.into_iter_gives) c.loop-first.yielded_by c.loop-first.invariant c.next.ensures.steps c.next-2.ensures _ _ c.in-None.is c.in_ok-second.was (λ e. cc)
