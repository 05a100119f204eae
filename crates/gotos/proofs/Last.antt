-- A block has a last instruction exactly where it has one at all. Assumes nothing.
use Rattle.std.proofs.Common.{◌≡◌, true, false, List, [], ◌∷◌, Some, None, sym, refl}
use Rattle.std.proofs.lemmas.Option.{none-some}
use Rattle.chain.specs.Chain.{last_or}
use Rattle.entities.specs.Program.{Program, Slot, insts_in}
use Rattle.entities.specs.Reading.{empty, last_inst, slots_of}
use Rattle.entities.specs.declared.Block.{Block}
use Rattle.entities.specs.declared.Inst.{Inst}

some_last : (i : Inst) (is : List Inst) → last_or (Some i) is ≡ None → ⊥
some_last i [] e = none-some i (sym e)
some_last i (k ∷ is) e = some_last k is e

none_in : (ss : List Slot) → last_or None (insts_in ss) ≡ None → empty ss ≡ true
none_in [] e = refl
none_in (s ∷ ss) e = absurd (some_last s.inst (insts_in ss) e)

some_in : (ss : List Slot) (i : Inst) → last_or None (insts_in ss) ≡ Some i → empty ss ≡ false
some_in [] i e = absurd (none-some i e)
some_in (s ∷ ss) i e = refl

pub no_last : (b : Block) (p : Program) → last_inst b p ≡ None → empty (slots_of b p) ≡ true
no_last b p e = none_in (slots_of b p) e

pub has_last : (b : Block) (p : Program) (i : Inst) → last_inst b p ≡ Some i → empty (slots_of b p) ≡ false
has_last b p i e = some_in (slots_of b p) i e
