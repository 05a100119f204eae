-- Walk and numbers of a layout in one order, read from the layout's own answers. Assumes nothing.
use Rattle.std.specs.Prelude.{◌≡◌, ◌⊎◌, true, List, [], ◌∷◌, ◌++◌, reverse, Some, None, Option}
use Rattle.std.specs.List.{AllByRecursion}
use Rattle.chain.specs.Chain.{Distinct, Gives, Misses}
use Rattle.entities.specs.declared.Block.{Block}
use Rattle.entities.specs.declared.Inst.{Inst}
use Rattle.entities.specs.declared.progpoint.ProgramPoint.{ProgramPoint}
use Rattle.std.specs.declared.cmp.Ordering.{Ordering}
use Rattle.entities.specs.Nodes.{block_place}
use Rattle.entities.specs.Lists.{holds}
use Rattle.entities.specs.Program.{Line, Program, insts_in, blocks_of, insts_of}
use Rattle.entities.specs.Reading.{inserted_block, inst_block, block_insts, last_block, prev_block, shown_seq, walk_of, Stands}
use Rattle.faults.specs.Refusals.{accepted}
use Rattle.faults.specs.Rules.{pp_cmp_rule}
use Rattle.walks.specs.Walks.{GivesFirst, GivesLast}
use Rattle.layout.specs.declared.Layout.{Layout}
use Rattle.layout.specs.Program.{program}

-- ---- asking again and again

-- rs are answers, one after the other, of a walk that has `left` to give; `Gives` is what the walk promises of one answer
abbrev pub Answered : {K : Type 0} → (Gives : Option K → List K → List K → Type 0) → List K → List (Option K) → Type 0
Answered Gives left [] = Unit {0}
Answered Gives left (r ∷ rs) = (rest : List _) × Gives r left rest × Answered Gives rest rs

-- they are xs, and then none
abbrev pub ThenNone : {K : Type 0} → List K → List (Option K) → Type 0
ThenNone xs [] = Unit {0}
ThenNone [] (r ∷ rs) = (r ≡ None) × ThenNone [] rs
ThenNone (x ∷ xs) (r ∷ rs) = (r ≡ Some x) × ThenNone xs rs

-- asked again and again, a walk that has `left` to give gives xs, and then none
abbrev pub GivesAll : {K : Type 0} → (Gives : Option K → List K → List K → Type 0) → (left xs : List K) → Type 0
GivesAll Gives left xs = (rs : List (Option _)) → Answered Gives left rs → ThenNone xs rs

-- ---- where an instruction stands: in the line of block b, and nowhere else in the list
pub record StandsOnce (i : Inst) (b : Block) (ls : List Line) : Type 0 where
  pub lines_ahead : List Line
  pub line : Line
  pub lines_behind : List Line
  pub insts_ahead : List Inst
  pub insts_behind : List Inst
  pub list : ls ≡ lines_ahead ++ (line ∷ lines_behind)
  pub block : line.block ≡ b
  pub insts : insts_in line.slots ≡ insts_ahead ++ (i ∷ insts_behind)
  pub once : Misses (Some i) (insts_of lines_ahead ++ (insts_ahead ++ (insts_behind ++ insts_of lines_behind)))

-- x is one of xs
abbrev pub OneOf : {A : Type 0} → A → List A → Type 0
OneOf x [] = ⊥
OneOf x (y ∷ ys) = (x ≡ y) ⊎ OneOf x ys

-- ---- the layout's own answers, in the order of the list of p

-- `blocks` gives the listed blocks, each once, and of each `block_insts` gives its instructions, whose numbers are the list's
pub record WalkIsTheList (l : Layout) (p : Program) : Type 0 where
  pub blocks : GivesAll GivesFirst (blocks_of (program l).lines) (blocks_of p.lines)
  pub once : Distinct (blocks_of p.lines)
  pub inserted : (b : Block) → inserted_block b (program l) ≡ holds block_place b (blocks_of p.lines)
  pub insts : AllByRecursion (λ line. GivesAll GivesFirst (block_insts line.block (program l)) (insts_in line.slots)) p.lines
  pub numbers : AllByRecursion (λ line. AllByRecursion (λ s. shown_seq s.inst (program l) ≡ Some s.seq) line.slots) p.lines
  pub marks : (program l).cold ≡ p.cold

-- an instruction names a block exactly when it stands in that block's walk, and then it stands there once and nowhere else
pub record Names (l : Layout) (p : Program) : Type 0 where
  pub named_stands : (i : Inst) (b : Block) → inst_block i (program l) ≡ Some b → StandsOnce i b p.lines
  pub standing_named : (i : Inst) (b : Block) → OneOf i (block_insts b p) → inst_block i (program l) ≡ Some b

-- backward, from the last block by the block ahead, everything comes reversed, and ends
pub record Mirror (l : Layout) (p : Program) : Type 0 where
  pub blocks : Gives (λ b. prev_block b (program l)) (last_block (program l)) (reverse (blocks_of p.lines))
  pub insts : AllByRecursion (λ line. GivesAll GivesLast (block_insts line.block (program l)) (reverse (insts_in line.slots))) p.lines

-- of any two points of one inserted block, `pp_cmp` says Less, Equal or Greater exactly when the first is ahead of, the same as or behind
-- the second in that block's walk; and one of these it says
pub record Ranks (l : Layout) (p : Program) : Type 0 where
  pub accepts : (b : Block) (x y : ProgramPoint) → inserted_block b (program l) ≡ true → OneOf x (walk_of b p) → OneOf y (walk_of b p) → (o : Ordering) × (pp_cmp_rule x y (program l) ≡ accepted o)
  pub says : (b : Block) (x y : ProgramPoint) (o : Ordering) → inserted_block b (program l) ≡ true → OneOf x (walk_of b p) → OneOf y (walk_of b p) → pp_cmp_rule x y (program l) ≡ accepted o → Stands o x y (walk_of b p)
  pub stands : (b : Block) (x y : ProgramPoint) (o : Ordering) → inserted_block b (program l) ≡ true → OneOf x (walk_of b p) → OneOf y (walk_of b p) → Stands o x y (walk_of b p) → pp_cmp_rule x y (program l) ≡ accepted o

-- walk and numbers of l stand in one order, that of the list of p
pub record OneOrder (l : Layout) (p : Program) : Type 0 where
  pub walk : WalkIsTheList l p
  pub names : Names l p
  pub mirror : Mirror l p
  pub ranks : Ranks l p

-- ---- two programs that rank alike

abbrev pub RankAlike : Program → Program → Type 0
RankAlike p q = (x y : ProgramPoint) → pp_cmp_rule x y p ≡ pp_cmp_rule x y q
