use Rattle.std.proofs.Common.{◌≡◌, [], ◌∷◌, ◌++◌, if◌then◌else◌, is_ok, sym, subst, ap, ◌∙◌}
use Rattle.std.proofs.lemmas.List.{take_all}
use Rattle.std.specs.List.{filter_map}
use Rattle.entities.specs.declared.Inst.{Inst}
use Rattle.layout.specs.Program.{program}
use Rattle.comparison.specs.Numbering.{difference}
use Rattle.comparison.proofs.Made.{one_more, none_more, none_of}
use Rattle.comparison.proofs.seqs.differing.Goals as goal
use Rattle.comparison.proofs.seqs.differing.Goals.{in-Some+in_ok-push, in_default}

pub loop-inst-preserved : goal.loop-inst-preserved
loop-inst-preserved c =
    let gives = λ (i : Inst). difference i (program c.args.first.now) (program c.args.second.now) in
    elim c.match-difference.branch [
      | in-Some+in_ok-push w ↦
          let pushed = subst (λ r. w.push.new.self.items ≡ (if is_ok r then (c.loop-inst.differing.items ++ w.in-Some.numbers ∷ []) else c.loop-inst.differing.items)) w.in_ok-push.was w.push.ensures.items in
          ap (λ v. v.items) w.differing-is ∙ pushed ∙ ap (λ xs. xs ++ (w.in-Some.numbers ∷ [])) c.loop-inst.invariant
          ∙ sym (one_more gives c.args.insts.now c.loop-inst.inst-index _ w.in-Some.numbers c.loop-inst-test.true (sym c.difference.ensures ∙ w.in-Some.is))
      | in_default w ↦
          ap (λ v. v.items) w.differing-is ∙ c.loop-inst.invariant ∙ sym (none_more gives c.args.insts.now c.loop-inst.inst-index _ c.loop-inst-test.true (sym c.difference.ensures ∙ none_of _ w.in_default.not-Some))
    ]

pub returns : goal.returns
returns c = c.loop-inst.invariant ∙ ap (filter_map (λ (i : Inst). difference i (program c.args.first.now) (program c.args.second.now))) (take_all c.loop-inst.inst-index c.args.insts.now c.loop-inst-test.false)
