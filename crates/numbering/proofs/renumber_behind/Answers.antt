use Rattle.std.proofs.Common.{◌≡◌, Err, arith, rules}
use Rattle.numbering.proofs.Pushes.{all_done, behind_anew, caught_up, in_table, pushes_on, pushes_start, standing, unfinished, went_past}
use Rattle.numbering.proofs.renumber_behind.Goals as goal

pub loop-next_inst-init : goal.loop-next_inst-init
loop-next_inst-init c = pushes_start c.args.limit c.args.seq

pub bounds-insts-index-in-Some : goal.bounds-insts-index-in-Some
bounds-insts-index-in-Some c = omega (arith, in_table c.loop-next_inst.invariant c.index.ensures c.in-Some.is c.requires.followed.followed)

pub returns-in_err-has_caught_up : goal.returns-in_err-has_caught_up
returns-in_err-has_caught_up c =
    let same : c.from_residual.result ≡ Err c.in_err-has_caught_up.field-0.0 = search rules in
    behind_anew (λ ss f. went_past (standing c.loop-next_inst.invariant c.index.ensures c.in-Some.is f) c.index-in-Some.ensures c.has_caught_up.ensures c.in_err-has_caught_up.was same)

pub returns-then-branch : goal.returns-then-branch
returns-then-branch c =
    behind_anew (λ ss f. caught_up (standing c.loop-next_inst.invariant c.index.ensures c.in-Some.is f) c.index-in-Some.ensures c.has_caught_up.ensures c.in_ok-has_caught_up.was c.if-branch.true)

pub set_seq-requires : goal.set_seq-requires
set_seq-requires c = in_table c.loop-next_inst.invariant c.index.ensures c.in-Some.is c.requires.followed.followed

pub overflow_add-count : goal.overflow_add-count
overflow_add-count c = omega (arith, unfinished c.loop-next_inst.invariant c.index.ensures c.in-Some.is c.requires.followed.followed)

pub bounds-insts-index-in-Some-2 : goal.bounds-insts-index-in-Some-2
bounds-insts-index-in-Some-2 c = omega (arith, in_table c.loop-next_inst.invariant c.index.ensures c.in-Some.is c.requires.followed.followed, c.set_seq.auto.insts)

pub loop-next_inst-smaller : goal.loop-next_inst-smaller
loop-next_inst-smaller c = omega (arith, unfinished c.loop-next_inst.invariant c.index.ensures c.in-Some.is c.requires.followed.followed)

pub loop-next_inst-preserved : goal.loop-next_inst-preserved
loop-next_inst-preserved c =
    pushes_on c.loop-next_inst.invariant c.in-Some.is c.index-in-Some.ensures c.has_caught_up.ensures c.in_ok-has_caught_up.was c.if-branch.false c.set_seq.ensures.stored c.index-in-Some-2.ensures

pub returns : goal.returns
returns c = behind_anew (λ ss f. all_done c.loop-next_inst.invariant c.index.ensures c.in_default.is f)
