-- A word that is none of the four keywords is an argument just where it names a block or an instruction. Assumes nothing.
use Rattle.std.proofs.Common.{◌≡◌, ◌≢◌, ◌↔◌, ℕ, List, Option, Some, None, codes, ap}
use Rattle.std.specs.Option.{option_map}
use Rattle.entities.specs.declared.Block.{Block as TheBlock}
use Rattle.entities.specs.declared.Inst.{Inst as TheInst}
use Rattle.faults.specs.declared.Entity.{Entity}
use Rattle.faults.specs.declared.Entity.TheVariants.{Block as the_block, Inst as the_inst}
use Rattle.faults.specs.Text.{entity_text}
use Rattle.words.specs.Entities.{FitsEntity}
use Rattle.forms.specs.declared.Arg.{Arg}
use Rattle.forms.specs.declared.Arg.TheVariants.{Block, Inst, Nowhere, At, Before, After}
use Rattle.forms.specs.Args.{arg_text, FitsArg, entity_arg}

of_block : (o : Option Entity) (b : TheBlock) → option_map entity_arg o ≡ Some (Block b) → o ≡ Some (the_block b)
of_block None b e = cc
of_block (Some (the_block c)) b e = cc
of_block (Some (the_inst c)) b e = cc

of_inst : (o : Option Entity) (i : TheInst) → option_map entity_arg o ≡ Some (Inst i) → o ≡ Some (the_inst i)
of_inst None i e = cc
of_inst (Some (the_block c)) i e = cc
of_inst (Some (the_inst c)) i e = cc

no_keyword : (o : Option Entity) → (option_map entity_arg o ≢ Some Nowhere) × (option_map entity_arg o ≢ Some At) × (option_map entity_arg o ≢ Some Before) × (option_map entity_arg o ≢ Some After)
no_keyword None = (λ e. cc, λ e. cc, λ e. cc, λ e. cc)
no_keyword (Some (the_block b)) = (λ e. cc, λ e. cc, λ e. cc, λ e. cc)
no_keyword (Some (the_inst i)) = (λ e. cc, λ e. cc, λ e. cc, λ e. cc)

module _ (word : List ℕ) (not_nowhere : word ≢ codes "nowhere") (not_at : word ≢ codes "at") (not_before : word ≢ codes "before") (not_after : word ≢ codes "after") where
  pub named : (o : Option Entity) → ((e : Entity) → o ≡ Some e ↔ (word ≡ entity_text e) × FitsEntity e) → (a : Arg) → option_map entity_arg o ≡ Some a ↔ (word ≡ arg_text a) × FitsArg a
  named o read (Block b) = (λ e. (read (the_block b)).0 (of_block o b e), λ is. ap (option_map entity_arg) ((read (the_block b)).1 is))
  named o read (Inst i) = (λ e. (read (the_inst i)).0 (of_inst o i e), λ is. ap (option_map entity_arg) ((read (the_inst i)).1 is))
  named o read Nowhere = (λ e. absurd ((no_keyword o).0 e), λ (is, fits). absurd (not_nowhere is))
  named o read At = (λ e. absurd ((no_keyword o).1 e), λ (is, fits). absurd (not_at is))
  named o read Before = (λ e. absurd ((no_keyword o).2 e), λ (is, fits). absurd (not_before is))
  named o read After = (λ e. absurd ((no_keyword o).3 e), λ (is, fits). absurd (not_after is))
