-- How a call is refused: the one place where the numbers of the questions stand. Assumes nothing.
use Rattle.std.specs.Prelude.{◌≡◌, ℕ, Some, Ok, Err, Option, Result}
use Rattle.entities.specs.declared.progpoint.ProgramPoint.{ProgramPoint}
use Rattle.entities.specs.declared.progpoint.ProgramPoint.TheVariants.{Inst as inst_point, Block as block_point}
use Rattle.faults.specs.declared.Layer.{Layer}
use Rattle.faults.specs.declared.Layer.TheVariants.{Layout as by_layout}
use Rattle.faults.specs.declared.Entity.{Entity}
use Rattle.faults.specs.declared.Entity.TheVariants.{Block as the_block, Inst as the_inst}
use Rattle.faults.specs.declared.LayoutFault.{LayoutFault}
use Rattle.faults.specs.declared.LayoutFault.TheVariants.{OutOfRange, NotInserted, AlreadyInserted, NotEmpty, DifferentBlocks}

-- the question's number, who asked it, and what is at fault
pub record Refusal : Type 0 where
  pub number : ℕ
  pub layer : Layer
  pub entity : Option Entity

abbrev pub refusal_of : LayoutFault → Refusal
refusal_of (OutOfRange e) = record { number = 2; layer = by_layout; entity = Some e }
refusal_of (NotInserted e) = record { number = 5; layer = by_layout; entity = Some e }
refusal_of (AlreadyInserted e) = record { number = 6; layer = by_layout; entity = Some e }
refusal_of (NotEmpty e) = record { number = 7; layer = by_layout; entity = Some e }
refusal_of (DifferentBlocks e) = record { number = 9; layer = by_layout; entity = Some e }

-- a point as the thing at fault
abbrev pub entity_at : ProgramPoint → Entity
entity_at (inst_point i) = the_inst i
entity_at (block_point b) = the_block b

-- what a call tells: what it answers, or how it is refused
pub data Told (A : Type 0) : Type 0 where
  accepted : A → Told A
  refused : Refusal → Told A

abbrev pub told : {A : Type 0} → Result A LayoutFault → Told A
told (Ok a) = accepted a
told (Err f) = refused (refusal_of f)

-- the same where the answer is one that is looked for
abbrev pub told_found : {A : Type 0} → Result A LayoutFault → Told (Option A)
told_found (Ok a) = accepted (Some a)
told_found (Err f) = refused (refusal_of f)

-- what holds of the answer, where the call is accepted
abbrev pub IfAccepted : {A : Type 0} → Result A LayoutFault → (A → Type 0) → Type 0
IfAccepted (Ok a) P = P a
IfAccepted (Err f) P = Unit {0}

-- a refusal, by a fault of any layer, leaves the very same value
abbrev pub SameIfRefused : {A F X : Type 0} → Result A F → X → X → Type 0
SameIfRefused (Ok a) before after = Unit {0}
SameIfRefused (Err f) before after = after ≡ before
