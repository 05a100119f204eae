use Rattle.std.proofs.Common.{◌∙◌, List, Some, None, ap, subst}
use Rattle.entities.specs.Reading.{inst_seq}
use Rattle.entities.specs.declared.Inst.{Inst}
use Rattle.layout.specs.Program.{program}
use Rattle.walks.specs.Walks.{insts_left}
use Rattle.std.specs.declared.iter.Rev.{Rev}
use Rattle.walks.specs.declared.Insts.{Insts}
use Rattle.transcript.proofs.Slots.{steps_back_by, told_all_back, told_next_back}
use Rattle.transcript.proofs.rows.slots_backward.Goals as goal

abbrev left_forward : Insts → List Inst
left_forward s = insts_left s.listing.now s.block s.left

abbrev left : Rev Insts → List Inst
left s = left_forward s.iter

pub loop-inst-preserved : goal.loop-inst-preserved
loop-inst-preserved c =
    let gives : steps_back_by left c.loop-inst.inst-iterator (Some c.in-Some.inst) c.next.new.self = subst (λ o. steps_back_by left c.loop-inst.inst-iterator o c.next.new.self) c.in-Some.is c.next.ensures.steps in
    let told = told_next_back c.args.layout.now c.args.block left _ c.loop-inst.inst-iterator c.next.new.self c.loop-inst.yielded (ap left c.into_iter-inst-iterator.ensures.into_iter_gives ∙ ap left_forward c.rev-inst-items.ensures.source ∙ c.block_insts.ensures.all) c.in-Some.inst c.loop-inst.yielded_by gives in
    absurd (c.in_default.not-Some (inst_seq c.in-Some.inst (program c.args.layout.now)) (c.inst_seq.ensures ∙ told))

pub returns : goal.returns
returns c =
    let gives : steps_back_by left c.loop-inst.inst-iterator None c.next.new.self = subst (λ o. steps_back_by left c.loop-inst.inst-iterator o c.next.new.self) c.in-None.is c.next.ensures.steps in
    c.loop-inst.invariant ∙ told_all_back c.args.layout.now c.args.block left _ c.loop-inst.inst-iterator c.next.new.self c.loop-inst.yielded (ap left c.into_iter-inst-iterator.ensures.into_iter_gives ∙ ap left_forward c.rev-inst-items.ensures.source ∙ c.block_insts.ensures.all) c.loop-inst.yielded_by gives
