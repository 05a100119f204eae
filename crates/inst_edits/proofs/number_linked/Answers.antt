use Rattle.std.proofs.Common.{ap}
use Rattle.chain.specs.declared.Ends.{Ends}
use Rattle.entities.specs.declared.Inst.{Inst}
use Rattle.listing.proofs.Linking.{linked_low}
use Rattle.inst_edits.proofs.Numbering.{put_in, some_placed}
use Rattle.inst_edits.proofs.number_linked.Goals as goal

pub inst_ends-first-requires : goal.inst_ends-first-requires
inst_ends-first-requires c = linked_low c.args.tables.now c.args.inst c.args.block _ _ c.requires.linked

pub assign_inst_seq-requires : goal.assign_inst_seq-requires
assign_inst_seq-requires c = some_placed c.args.tables.now c.args.inst c.args.block _ (ap (λ (e : Ends Inst). e.first) c.inst_ends-first.ensures) _ _ c.requires.linked

pub returns : goal.returns
returns c =
    let first = ap (λ (e : Ends Inst). e.first) c.inst_ends-first.ensures in
    let put = put_in c.args.tables.now c.args.inst c.args.block _ first _ _ c.assign_inst_seq.ensures in
    record {
      sound = (put _ _ c.requires.linked).0;
      last = λ t l. let r = put _ _ l.linked in record { count = r.1; program = r.2 };
      before = λ t before l. let r = put _ _ l.linked in record { count = r.1; program = r.2 };
    }
