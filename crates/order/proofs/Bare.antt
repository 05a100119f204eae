-- What the walk through a program says of it: all but its numbers. Assumes nothing.
use Rattle.std.proofs.Common.{◌≡◌, Bool, true, false, cond, List, [], ◌∷◌, ◌++◌, map, Some, None, sym, refl, ap, ◌∙◌}
use Rattle.std.proofs.lemmas.List.{append-nil}
use Rattle.entities.specs.Laws.{walk}
use Rattle.entities.specs.Lists.{holds}
use Rattle.entities.specs.Nodes.{inst_place}
use Rattle.entities.specs.Program.{Line, Program, Slot, blocks_of, insts_in, insts_of, is_block, slot}
use Rattle.entities.specs.Reading.{block_insts, inserted_inst, inserted_point, inst_block, of_block, of_inst, point_block, walk_of}
use Rattle.entities.specs.declared.Block.{Block}
use Rattle.entities.specs.declared.Inst.{Inst}
use Rattle.entities.specs.declared.progpoint.ProgramPoint.{ProgramPoint}
use Rattle.entities.specs.declared.progpoint.ProgramPoint.TheVariants.{Inst as inst_point, Block as block_point}

-- ---- the lines, read off the walk: each number is 0

abbrev bare_line : Block → List Inst → Line
bare_line b is = record { block = b; slots = map (λ i. slot i 0) is }

abbrev bare : List Line → List Line
bare ls = map (λ l. bare_line l.block (insts_in l.slots)) ls

-- the instructions ahead of the first block of a walk, and the lines from there on
record Read : Type 0 where
  insts : List Inst
  lines : List Line

abbrev with_point : ProgramPoint → Read → Read
with_point (inst_point i) r = record { insts = i ∷ r.insts; lines = r.lines }
with_point (block_point b) r = record { insts = []; lines = bare_line b r.insts ∷ r.lines }

abbrev read : List ProgramPoint → Read
read [] = record { insts = []; lines = [] }
read (x ∷ xs) = with_point x (read xs)

read_insts : (is : List Inst) (xs : List ProgramPoint) → read (map inst_point is ++ xs) ≡ record { insts = is ++ (read xs).insts; lines = (read xs).lines }
read_insts [] xs = refl
read_insts (i ∷ is) xs = ap (with_point (inst_point i)) (read_insts is xs)

read_walk : (ls : List Line) → read (walk ls) ≡ record { insts = []; lines = bare ls }
read_walk [] = refl
read_walk (l ∷ ls) =
    ap (with_point (block_point l.block)) (read_insts (insts_in l.slots) (walk ls))
    ∙ ap (λ (r : Read). record { insts = []; lines = bare_line l.block (insts_in l.slots ++ r.insts) ∷ r.lines }) (read_walk ls)
    ∙ ap (λ is. record { insts = []; lines = bare_line l.block is ∷ bare ls }) (append-nil (insts_in l.slots))

same_bare : (ls ms : List Line) → walk ls ≡ walk ms → bare ls ≡ bare ms
same_bare ls ms e = ap (λ (r : Read). r.lines) (sym (read_walk ls) ∙ ap read e ∙ read_walk ms)

-- ---- what is read of them

bare_insts : (is : List Inst) → insts_in (map (λ i. slot i 0) is) ≡ is
bare_insts [] = refl
bare_insts (i ∷ is) = ap (λ r. i ∷ r) (bare_insts is)

bare_blocks : (ls : List Line) → blocks_of (bare ls) ≡ blocks_of ls
bare_blocks [] = refl
bare_blocks (l ∷ ls) = ap (λ r. l.block ∷ r) (bare_blocks ls)

bare_all_insts : (ls : List Line) → insts_of (bare ls) ≡ insts_of ls
bare_all_insts [] = refl
bare_all_insts (l ∷ ls) = ap (λ r. r ++ insts_of (bare ls)) (bare_insts (insts_in l.slots)) ∙ ap (λ r. insts_in l.slots ++ r) (bare_all_insts ls)

chosen_insts : (c : Bool) (is js : List Slot) → insts_in (cond c is js) ≡ cond c (insts_in is) (insts_in js)
chosen_insts true is js = refl
chosen_insts false is js = refl

bare_of_block : (b : Block) (ls : List Line) → insts_in (of_block b (λ l. l.slots) [] (bare ls)) ≡ insts_in (of_block b (λ l. l.slots) [] ls)
bare_of_block b [] = refl
bare_of_block b (l ∷ ls) =
    let here : Bool = is_block b l in
    let there = of_block b (λ m. m.slots) [] in
    chosen_insts here (bare_line l.block (insts_in l.slots)).slots (there (bare ls))
    ∙ ap (λ is. cond here is (insts_in (there (bare ls)))) (bare_insts (insts_in l.slots))
    ∙ ap (λ is. cond here (insts_in l.slots) is) (bare_of_block b ls)
    ∙ sym (chosen_insts here l.slots (there ls))

bare_of_inst : (i : Inst) (ls : List Line) → of_inst i (λ l. Some l.block) None (bare ls) ≡ of_inst i (λ l. Some l.block) None ls
bare_of_inst i [] = refl
bare_of_inst i (l ∷ ls) =
    ap (λ is. cond (holds inst_place i is) (Some l.block) (of_inst i (λ m. Some m.block) None (bare ls))) (bare_insts (insts_in l.slots))
    ∙ ap (λ o. cond (holds inst_place i (insts_in l.slots)) (Some l.block) o) (bare_of_inst i ls)

-- ---- two programs of one walk: they have the same blocks, each with the same instructions, and the same points

module _ (p q : Program) (e : walk p.lines ≡ walk q.lines) where
  same : bare p.lines ≡ bare q.lines
  same = same_bare p.lines q.lines e

  pub same_blocks : blocks_of p.lines ≡ blocks_of q.lines
  same_blocks = sym (bare_blocks p.lines) ∙ ap blocks_of same ∙ bare_blocks q.lines

  pub same_block_insts : (b : Block) → block_insts b p ≡ block_insts b q
  same_block_insts b = sym (bare_of_block b p.lines) ∙ ap (λ ls. insts_in (of_block b (λ l. l.slots) [] ls)) same ∙ bare_of_block b q.lines

  same_inst_block : (i : Inst) → inst_block i p ≡ inst_block i q
  same_inst_block i = sym (bare_of_inst i p.lines) ∙ ap (of_inst i (λ l. Some l.block) None) same ∙ bare_of_inst i q.lines

  same_inserted_inst : (i : Inst) → inserted_inst i p ≡ inserted_inst i q
  same_inserted_inst i = ap (holds inst_place i) (sym (bare_all_insts p.lines) ∙ ap insts_of same ∙ bare_all_insts q.lines)

  pub same_walk_of : (b : Block) → walk_of b p ≡ walk_of b q
  same_walk_of b = ap (λ is. block_point b ∷ map inst_point is) (same_block_insts b)

  pub same_point_block : (x : ProgramPoint) → point_block x p ≡ point_block x q
  same_point_block (block_point b) = refl
  same_point_block (inst_point i) = same_inst_block i

  pub same_inserted_point : (x : ProgramPoint) → inserted_point x p ≡ inserted_point x q
  same_inserted_point (block_point b) = refl
  same_inserted_point (inst_point i) = same_inserted_inst i
