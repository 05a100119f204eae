-- What a walk gave, once it is over. Assumes nothing.
use Rattle.std.proofs.Common.{◌≡◌, List, ◌++◌, None, Option, append-nil, ap, subst, sym, ◌∙◌}
use Rattle.std.specs.Iterator.{Yields}
use Rattle.entities.specs.declared.Block.{Block}
use Rattle.entities.specs.declared.Inst.{Inst}
use Rattle.order.proofs.Comparing.{steps_by, yielded}
use Rattle.walks.specs.Walks.{GivesFirst, blocks_left, insts_left}
use Rattle.walks.specs.declared.Blocks.{Blocks}
use Rattle.walks.specs.declared.Insts.{Insts}

over : {S K : Type 0} (left : S → List K) (s t : S) (after given all : List K) (next : Option K) → left s ≡ all → Yields (steps_by left) s given t → GivesFirst next (left t) after → next ≡ None → given ≡ all
over left s t after given all next e came gives none =
    sym (append-nil given)
    ∙ ap (λ rest. given ++ rest) (sym (subst (λ o. GivesFirst o (left t) after) none gives).0)
    ∙ sym (yielded left s given t came)
    ∙ e

abbrev pub to_come : Blocks → List Block
to_come s = blocks_left s.listing.now s.next

abbrev pub insts_to_come : Insts → List Inst
insts_to_come s = insts_left s.listing.now s.block s.left

pub blocks_over : (s t : Blocks) (after given all : List Block) (next : Option Block) → to_come s ≡ all → Yields (steps_by to_come) s given t → GivesFirst next (to_come t) after → next ≡ None → given ≡ all
blocks_over = over to_come

pub insts_over : (s t : Insts) (after given all : List Inst) (next : Option Inst) → insts_to_come s ≡ all → Yields (steps_by insts_to_come) s given t → GivesFirst next (insts_to_come t) after → next ≡ None → given ≡ all
insts_over = over insts_to_come
