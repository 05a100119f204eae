-- The words of a line are those of no other. Assumes nothing.
use Rattle.std.proofs.Common.{◌≡◌, ℕ, ◌<◌, ◌^◌, Bool, true, false, List, [], ◌∷◌, ◌++◌, map, get_or, Option, Some, None, decimal, refl, ap, arith}
use Rattle.std.specs.List.{All}
use Rattle.std.proofs.lemmas.Fmt.{decimal_injective}
use Rattle.std.proofs.lemmas.List.Elements.{All-head, All-tail}
use Rattle.chain.specs.declared.Ends.{Ends}
use Rattle.entities.specs.declared.Block.{Block}
use Rattle.entities.specs.declared.Inst.{Inst}
use Rattle.entities.specs.declared.nodes.BlockNode.{BlockNode}
use Rattle.entities.specs.declared.nodes.InstNode.{InstNode}
use Rattle.dump.specs.declared.lines.Line.{Line}
use Rattle.dump.specs.declared.lines.Line.TheVariants as line
use Rattle.words.specs.Entities.{block_text, inst_text}
use Rattle.dump.specs.Lines.{mark_words, ends_words, block_words, inst_words, line_words, FitsBlock, FitsInst, FitsEnds, FitsBlockNode, FitsInstNode, FitsLine, Says}

same_number : (m n : ℕ) → m < 2 ^ 32 → n < 2 ^ 32 → decimal m ≡ decimal n → m ≡ n
same_number m n fits fit e = decimal_injective m n (omega arith) (omega arith) e

same_block : (a b : Option Block) → FitsBlock a → FitsBlock b → block_text a ≡ block_text b → a ≡ b
same_block None None fits fit e = refl
same_block None (Some b) fits fit e = cc
same_block (Some a) None fits fit e = cc
same_block (Some a) (Some b) fits fit e = ap (λ (n : ℕ). Some (record { 0 = n })) (same_number a.0 b.0 fits fit cc)

same_inst : (a b : Option Inst) → FitsInst a → FitsInst b → inst_text a ≡ inst_text b → a ≡ b
same_inst None None fits fit e = refl
same_inst None (Some b) fits fit e = let first : ◌≡◌ {A = ℕ} 110 105 = ap (λ (w : List ℕ). get_or w 0 0) e in absurd (omega arith)
same_inst (Some a) None fits fit e = let first : ◌≡◌ {A = ℕ} 105 110 = ap (λ (w : List ℕ). get_or w 0 0) e in absurd (omega arith)
same_inst (Some a) (Some b) fits fit e = ap (λ (n : ℕ). Some (record { 0 = n })) (same_number a.0 b.0 fits fit cc)

same_mark : (a b : Bool) → mark_words a ≡ mark_words b → a ≡ b
same_mark true true e = refl
same_mark true false e = cc
same_mark false true e = cc
same_mark false false e = refl

same_ends : (d e : Ends Block) → FitsEnds d → FitsEnds e → ends_words d ≡ ends_words e → d ≡ e
same_ends d e (f1, f2) (g1, g2) w =
    let first = same_block d.first e.first f1 g1 cc in
    let last = same_block d.last e.last f2 g2 cc in
    rw (first, last) refl

same_block_node : (m n : BlockNode) → FitsBlockNode m → FitsBlockNode n → block_words m ≡ block_words n → m ≡ n
same_block_node m n (f1, f2, f3, f4) (g1, g2, g3, g4) w =
    let prev = same_block m.prev n.prev f1 g1 cc in
    let next = same_block m.next n.next f2 g2 cc in
    let first = same_inst m.first_inst n.first_inst f3 g3 cc in
    let last = same_inst m.last_inst n.last_inst f4 g4 cc in
    let cold = same_mark m.cold n.cold cc in
    rw (prev, next, first, last, cold) refl

same_inst_node : (m n : InstNode) → FitsInstNode m → FitsInstNode n → inst_words m ≡ inst_words n → m ≡ n
same_inst_node m n (f1, f2, f3, f4) (g1, g2, g3, g4) w =
    let block = same_block m.block n.block f1 g1 cc in
    let prev = same_inst m.prev n.prev f2 g2 cc in
    let next = same_inst m.next n.next f3 g3 cc in
    let seq = same_number m.seq n.seq f4 g4 cc in
    rw (block, prev, next, seq) refl

pub same_line : (k l : Line) → FitsLine k → FitsLine l → line_words k ≡ line_words l → k ≡ l
same_line (line.Ends d) (line.Ends e) fits fit w = ap line.Ends (same_ends d e fits fit cc)
same_line (line.Ends d) (line.Block b n) fits fit w = cc
same_line (line.Ends d) (line.Inst i n) fits fit w = cc
same_line (line.Block a m) (line.Ends e) fits fit w = cc
same_line (line.Block a m) (line.Block b n) (small, fits) (little, fit) w =
    let number = same_number a.0 b.0 small little cc in
    let node = same_block_node m n fits fit cc in
    rw (number, node) refl
same_line (line.Block a m) (line.Inst i n) fits fit w = let first : ◌≡◌ {A = ℕ} 98 105 = ap (λ (ws : List (List ℕ)). get_or (get_or ws 0 []) 0 0) w in absurd (omega arith)
same_line (line.Inst a m) (line.Ends e) fits fit w = cc
same_line (line.Inst a m) (line.Block b n) fits fit w = let first : ◌≡◌ {A = ℕ} 105 98 = ap (λ (ws : List (List ℕ)). get_or (get_or ws 0 []) 0 0) w in absurd (omega arith)
same_line (line.Inst a m) (line.Inst i n) (small, fits) (little, fit) w =
    let number = same_number a.0 i.0 small little cc in
    let node = same_inst_node m n fits fit cc in
    rw (number, node) refl

-- ---- lines by their words

abbrev words : List Line → List (List (List ℕ))
words ls = map line_words ls

-- where the words of lines begin with the words of others, the lines begin with the others
pub lines_begin : (ks ls : List Line) (more : List (List (List ℕ))) → All FitsLine ks → All FitsLine ls → words ks ++ more ≡ words ls → (rest : List Line) × (ks ++ rest ≡ ls)
lines_begin [] ls more fits fit e = (ls, refl)
lines_begin (k ∷ ks) [] more fits fit e = cc
lines_begin (k ∷ ks) (l ∷ ls) more fits fit e =
    let same = same_line k l (All-head FitsLine k ks fits) (All-head FitsLine l ls fit) cc in
    let (rest, others) = lines_begin ks ls more (All-tail FitsLine k ks fits) (All-tail FitsLine l ls fit) cc in
    (rest, cc)

-- words among them are those of a line
pub line_there : (rows : List (List (List ℕ))) (row : List (List ℕ)) (more : List (List (List ℕ))) (ls : List Line) → All FitsLine ls → rows ++ (row ∷ more) ≡ words ls → (l : Line) × Says row l
line_there [] row more [] fits e = cc
line_there [] row more (l ∷ ls) fits e = (l, record { written = cc; fits = All-head FitsLine l ls fits })
line_there (r ∷ rows) row more [] fits e = cc
line_there (r ∷ rows) row more (l ∷ ls) fits e = line_there rows row more ls (All-tail FitsLine l ls fits) cc
