-- The questions that each call must pass: a list that is read top to bottom, and the first no refuses. Assumes nothing.
use Rattle.std.specs.Prelude.{◌≡◌, Bool, true, false, cond, not, List, [], ◌∷◌, Some, None, Ok, Err, Option, Result, ◌==◌, nat_lt}
use Rattle.entities.specs.declared.Block.{Block}
use Rattle.entities.specs.declared.Inst.{Inst}
use Rattle.entities.specs.declared.progpoint.ProgramPoint.{ProgramPoint}
use Rattle.entities.specs.declared.progpoint.ProgramPoint.TheVariants.{Inst as inst_point, Block as block_point}
use Rattle.faults.specs.declared.Entity.TheVariants.{Block as the_block, Inst as the_inst}
use Rattle.faults.specs.declared.LayoutFault.{LayoutFault}
use Rattle.faults.specs.declared.LayoutFault.TheVariants.{OutOfRange, NotInserted, AlreadyInserted, NotEmpty, DifferentBlocks}
use Rattle.entities.specs.Program.{Program}
use Rattle.entities.specs.Reading.{inserted_block, inserted_inst, inserted_point, point_block, slots_of, empty}
use Rattle.faults.specs.Refusals.{Refusal, refusal_of, entity_at}

-- a question, and the refusal of its no
pub record Question : Type 0 where
  pub yes : Bool
  pub no : Refusal

abbrev pub ask : Bool → LayoutFault → Question
ask q f = record { yes = q; no = refusal_of f }

abbrev pub first_no : List Question → Option Refusal
first_no [] = None
first_no (q ∷ qs) = cond q.yes (first_no qs) (Some q.no)

-- a fault is that of the first no; without one every question has its yes, and `Found` holds of what the call gives
abbrev pub FirstNo : {A : Type 0} → List Question → Result A LayoutFault → (A → Type 0) → Type 0
FirstNo qs (Err f) Found = first_no qs ≡ Some (refusal_of f)
FirstNo qs (Ok a) Found = (first_no qs ≡ None) × Found a

-- one question put: its yes lets the call go on, and `Found` holds of what it gives; its no refuses the call with the fault f
abbrev pub Asked : {A F : Type 0} → Bool → F → Result A F → (A → Type 0) → Type 0
Asked q f (Ok a) Found = (q ≡ true) × Found a
Asked q f (Err g) Found = (q ≡ false) × (g ≡ f)

-- ---- the questions

abbrev pub in_range_block : Block → Bool
in_range_block b = nat_lt b.0 256

abbrev pub in_range_inst : Inst → Bool
in_range_inst i = nat_lt i.0 1024

abbrev pub in_range : ProgramPoint → Bool
in_range (inst_point i) = in_range_inst i
in_range (block_point b) = in_range_block b

abbrev pub same_option : Option Block → Option Block → Bool
same_option None None = true
same_option None (Some b) = false
same_option (Some a) None = false
same_option (Some a) (Some b) = a.0 == b.0

abbrev pub same_block : ProgramPoint → ProgramPoint → Program → Bool
same_block a b p = same_option (point_block a p) (point_block b p)

-- ---- the calls

abbrev pub append_block_asked : Block → Program → List Question
append_block_asked b p =
    ask (in_range_block b) (OutOfRange (the_block b))
    ∷ ask (not (inserted_block b p)) (AlreadyInserted (the_block b))
    ∷ []

abbrev pub insert_block_asked : Block → (before : Block) → Program → List Question
insert_block_asked b before p =
    ask (in_range_block b) (OutOfRange (the_block b))
    ∷ ask (in_range_block before) (OutOfRange (the_block before))
    ∷ ask (inserted_block before p) (NotInserted (the_block before))
    ∷ ask (not (inserted_block b p)) (AlreadyInserted (the_block b))
    ∷ []

-- behind a block, the same questions are put as ahead of it
abbrev pub insert_block_after_asked : Block → (after : Block) → Program → List Question
insert_block_after_asked b after p = insert_block_asked b after p

abbrev pub remove_block_asked : Block → Program → List Question
remove_block_asked b p =
    ask (in_range_block b) (OutOfRange (the_block b))
    ∷ ask (inserted_block b p) (NotInserted (the_block b))
    ∷ ask (empty (slots_of b p)) (NotEmpty (the_block b))
    ∷ []

abbrev pub remove_block_and_insts_asked : Block → Program → List Question
remove_block_and_insts_asked b p =
    ask (in_range_block b) (OutOfRange (the_block b))
    ∷ ask (inserted_block b p) (NotInserted (the_block b))
    ∷ []

abbrev pub append_inst_asked : Inst → Block → Program → List Question
append_inst_asked i b p =
    ask (in_range_inst i) (OutOfRange (the_inst i))
    ∷ ask (in_range_block b) (OutOfRange (the_block b))
    ∷ ask (inserted_block b p) (NotInserted (the_block b))
    ∷ ask (not (inserted_inst i p)) (AlreadyInserted (the_inst i))
    ∷ []

abbrev pub insert_inst_asked : Inst → (before : Inst) → Program → List Question
insert_inst_asked i before p =
    ask (in_range_inst i) (OutOfRange (the_inst i))
    ∷ ask (in_range_inst before) (OutOfRange (the_inst before))
    ∷ ask (inserted_inst before p) (NotInserted (the_inst before))
    ∷ ask (not (inserted_inst i p)) (AlreadyInserted (the_inst i))
    ∷ []

abbrev pub remove_inst_asked : Inst → Program → List Question
remove_inst_asked i p =
    ask (in_range_inst i) (OutOfRange (the_inst i))
    ∷ ask (inserted_inst i p) (NotInserted (the_inst i))
    ∷ []

abbrev pub split_block_asked : Block → (before : Inst) → Program → List Question
split_block_asked b before p =
    ask (in_range_block b) (OutOfRange (the_block b))
    ∷ ask (in_range_inst before) (OutOfRange (the_inst before))
    ∷ ask (inserted_inst before p) (NotInserted (the_inst before))
    ∷ ask (not (inserted_block b p)) (AlreadyInserted (the_block b))
    ∷ []

abbrev pub set_cold_asked : Block → List Question
set_cold_asked b = ask (in_range_block b) (OutOfRange (the_block b)) ∷ []

abbrev pub pp_block_asked : ProgramPoint → Program → List Question
pp_block_asked a p =
    ask (in_range a) (OutOfRange (entity_at a))
    ∷ ask (inserted_point a p) (NotInserted (entity_at a))
    ∷ []

abbrev pub pp_cmp_asked : ProgramPoint → ProgramPoint → Program → List Question
pp_cmp_asked a b p =
    ask (in_range a) (OutOfRange (entity_at a))
    ∷ ask (in_range b) (OutOfRange (entity_at b))
    ∷ ask (inserted_point a p) (NotInserted (entity_at a))
    ∷ ask (inserted_point b p) (NotInserted (entity_at b))
    ∷ ask (same_block a b p) (DifferentBlocks (entity_at b))
    ∷ []
