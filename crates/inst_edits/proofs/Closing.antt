-- An instruction removed, from what is written once it is taken out of its chain. Assumes nothing.
use Rattle.std.proofs.Common.{◌≡◌, List, None, Option, sym, ap, ◌∙◌, subst}
use Rattle.chain.specs.declared.Ends.{Ends}
use Rattle.chain.specs.Table.{alter}
use Rattle.entities.specs.declared.Block.{Block}
use Rattle.entities.specs.declared.Inst.{Inst}
use Rattle.entities.specs.declared.nodes.BlockNode.{BlockNode}
use Rattle.entities.specs.declared.nodes.InstNode.{InstNode}
use Rattle.entities.specs.declared.nodes.Tables.{Tables}
use Rattle.entities.specs.Program.{remove_inst}
use Rattle.listing.specs.Edits.{Becomes, with_block, with_inst_ends}
use Rattle.listing.specs.Lawful.{listed}
use Rattle.listing.proofs.InstLaws.{taken}
use Rattle.inst_edits.specs.Removal.{LeftOut}

pub closed : (t u : Tables) (i : Inst) (b : Block) (new : Ends Inst) (o : Option Block) (bs : List BlockNode) (js : List InstNode) → LeftOut t u i b new → o ≡ None → bs ≡ alter u.blocks b.0 (λ n. with_inst_ends n new) → js ≡ alter u.insts i.0 (λ n. with_block n o) → Becomes t (record { blocks = bs; insts = js; ends = u.ends }) (remove_inst i (listed t))
closed t u i b new o bs js k none wrote named =
    subst (λ (x : Tables). Becomes t (record { blocks = bs; insts = js; ends = x.ends }) (remove_inst i (listed t))) (sym k.rest)
    (taken t i b k.sound k.stands k.old new u.insts js bs k.ends k.table k.chain
    (wrote ∙ ap (λ (x : Tables). alter x.blocks b.0 (λ n. with_inst_ends n new)) k.rest)
    (named ∙ ap (λ (q : Option Block). alter u.insts i.0 (λ n. with_block n q)) none))
