use Rattle.std.proofs.Common.{◌∙◌, List, Some, None, ap, subst}
use Rattle.entities.specs.Reading.{inst_seq}
use Rattle.entities.specs.declared.Inst.{Inst}
use Rattle.layout.specs.Program.{program}
use Rattle.order.proofs.Comparing.{steps_by}
use Rattle.walks.specs.Walks.{insts_left}
use Rattle.walks.specs.declared.Insts.{Insts}
use Rattle.transcript.proofs.Slots.{told_all, told_next}
use Rattle.transcript.proofs.rows.slots_forward.Goals as goal

abbrev left : Insts → List Inst
left s = insts_left s.listing.now s.block s.left

pub loop-inst-preserved : goal.loop-inst-preserved
loop-inst-preserved c =
    let gives : steps_by left c.loop-inst.inst-iterator (Some c.in-Some.inst) c.next.new.self = subst (λ o. steps_by left c.loop-inst.inst-iterator o c.next.new.self) c.in-Some.is c.next.ensures.steps in
    let told = told_next c.args.layout.now c.args.block left _ c.loop-inst.inst-iterator c.next.new.self c.loop-inst.yielded (ap left c.into_iter-inst-iterator.ensures.into_iter_gives ∙ c.block_insts-inst-items.ensures.all) c.in-Some.inst c.loop-inst.yielded_by gives in
    absurd (c.in_default.not-Some (inst_seq c.in-Some.inst (program c.args.layout.now)) (c.inst_seq.ensures ∙ told))

pub returns : goal.returns
returns c =
    let gives : steps_by left c.loop-inst.inst-iterator None c.next.new.self = subst (λ o. steps_by left c.loop-inst.inst-iterator o c.next.new.self) c.in-None.is c.next.ensures.steps in
    c.loop-inst.invariant ∙ told_all c.args.layout.now c.args.block left _ c.loop-inst.inst-iterator c.next.new.self c.loop-inst.yielded (ap left c.into_iter-inst-iterator.ensures.into_iter_gives ∙ c.block_insts-inst-items.ensures.all) c.loop-inst.yielded_by gives
