-- What was added so far is the beginning of a dump, and what is no next line leads to none. Assumes nothing.
use Rattle.std.proofs.Common.{◌≡◌, ◌≢◌, ℕ, ◌+◌, ◌<◌, true, false, ◌==◌, List, [], ◌∷◌, ◌++◌, length, map, take, get_or, Option, Some, None, refl, sym, ◌∙◌, ap, subst, arith, zero-add, append_assoc, append-nil}
use Rattle.std.specs.List.{All}
use Rattle.std.proofs.Math.Seq.{take-length}
use Rattle.std.proofs.lemmas.Bool.Decides.{nat_tests}
use Rattle.std.proofs.lemmas.Bool.{and_parts}
use Rattle.std.proofs.lemmas.List.{map-append, take_more, nil_from_length}
use Rattle.std.proofs.lemmas.List.Elements.{filter-append, All-nil, All-cons, All-push}
use Rattle.chain.specs.declared.Ends.{Ends}
use Rattle.entities.specs.declared.Block.{Block}
use Rattle.entities.specs.declared.Inst.{Inst}
use Rattle.entities.specs.declared.nodes.BlockNode.{BlockNode}
use Rattle.entities.specs.declared.nodes.InstNode.{InstNode}
use Rattle.entities.specs.declared.nodes.Tables.{Tables}
use Rattle.words.specs.Words.{has_some}
use Rattle.dump.specs.declared.lines.Line.{Line}
use Rattle.dump.specs.declared.lines.Line.TheVariants as line
use Rattle.dump.specs.declared.texts.What.{What}
use Rattle.dump.specs.declared.texts.What.TheVariants.{NotALine, NumberTooLarge, OutOfOrder, NoEnds, OutOfMemory}
use Rattle.dump.specs.declared.texts.DumpFault.{DumpFault}
use Rattle.dump.specs.Lines.{Says, FitsLine, line_words}
use Rattle.dump.specs.Dumps.{block_lines, inst_lines, dump_lines, IsDump, Begins, Breaks, spoken, IsWrong, IsFault}
use Rattle.dump.specs.Parts.{Part, nothing, is_next, with_line, Adds, AddsRow, AddsRows, IsWrongRow, Stops}
use Rattle.dump.proofs.Injective.{lines_begin, line_there}
use Rattle.dump.proofs.Rows.{has_words}

-- ---- one node more

pub blocks_push : (k : ℕ) (nodes : List BlockNode) (n : BlockNode) (b : Block) → b.0 ≡ k + length nodes → block_lines k (nodes ++ (n ∷ [])) ≡ block_lines k nodes ++ (line.Block b n ∷ [])
blocks_push k [] n b e = let same : k ≡ b.0 = omega arith in rw same refl
blocks_push k (m ∷ nodes) n b e = ap (λ ls. line.Block (record { 0 = k }) m ∷ ls) (blocks_push (k + 1) nodes n b (omega arith))

pub insts_push : (k : ℕ) (nodes : List InstNode) (n : InstNode) (i : Inst) → i.0 ≡ k + length nodes → inst_lines k (nodes ++ (n ∷ [])) ≡ inst_lines k nodes ++ (line.Inst i n ∷ [])
insts_push k [] n i e = let same : k ≡ i.0 = omega arith in rw same refl
insts_push k (m ∷ nodes) n i e = ap (λ ls. line.Inst (record { 0 = k }) m ∷ ls) (insts_push (k + 1) nodes n i (omega arith))

-- ---- the lines of what was read so far

abbrev ends_lines : Option (Ends Block) → List Line
ends_lines None = []
ends_lines (Some e) = line.Ends e ∷ []

abbrev part_lines : Part → List Line
part_lines p = ends_lines p.ends ++ (block_lines 0 p.blocks ++ inst_lines 0 p.insts)

-- without ends there are no nodes
abbrev Bare : Option (Ends Block) → List BlockNode → List InstNode → Type 0
Bare None blocks insts = (blocks ≡ []) × (insts ≡ [])
Bare (Some e) blocks insts = Unit {0}

is_zero : (n m : ℕ) → (n == m) ≡ true → n ≡ m
is_zero n m e = grind (arith, nat_tests)

module _ (blocks : List BlockNode) (insts : List InstNode) where
  abbrev with_ends : Option (Ends Block) → Part
  with_ends o = record { ends = o; blocks = blocks; insts = insts }

  -- the next line is the last of one more
  lines_more : (o : Option (Ends Block)) (l : Line) → is_next (with_ends o) l ≡ true → Bare o blocks insts → part_lines (with_line (with_ends o) l) ≡ part_lines (with_ends o) ++ (l ∷ [])
  lines_more None (line.Ends e) next (b, i) = rw (b, i) refl
  lines_more (Some d) (line.Ends e) next bare = cc
  lines_more None (line.Block b n) next bare = cc
  lines_more (Some d) (line.Block b n) next bare =
      let (bare, here) = and_parts (length insts == 0) (b.0 == length blocks) next in
      let none : insts ≡ [] = nil_from_length insts (is_zero _ _ bare) in
      let place : b.0 ≡ 0 + length blocks = is_zero _ _ here ∙ sym (zero-add (length blocks)) in
      rw (none, blocks_push 0 blocks n b place, append-nil (block_lines 0 blocks ++ (line.Block b n ∷ [])), append-nil (block_lines 0 blocks)) refl
  lines_more None (line.Inst i n) next bare = cc
  lines_more (Some d) (line.Inst i n) next bare =
      let place : i.0 ≡ 0 + length insts = is_zero _ _ next ∙ sym (zero-add (length insts)) in
      rw (insts_push 0 insts n i place, append_assoc (block_lines 0 blocks) (inst_lines 0 insts) (line.Inst i n ∷ [])) refl

  bare_still : (o : Option (Ends Block)) (l : Line) → is_next (with_ends o) l ≡ true → let p = with_line (with_ends o) l in Bare p.ends p.blocks p.insts
  bare_still o (line.Ends e) next = tt
  bare_still None (line.Block b n) next = cc
  bare_still (Some d) (line.Block b n) next = tt
  bare_still None (line.Inst i n) next = cc
  bare_still (Some d) (line.Inst i n) next = tt

-- ---- a line that stands in a dump behind those is the next

insts_next : (k : ℕ) (nodes all : List InstNode) (l : Line) (rest : List Line) → inst_lines k nodes ++ (l ∷ rest) ≡ inst_lines k all → (i : Inst) × (n : InstNode) × (i.0 ≡ k + length nodes) × (l ≡ line.Inst i n)
insts_next k [] [] l rest e = cc
insts_next k [] (n ∷ all) l rest e = (record { 0 = k }, n, omega arith, cc)
insts_next k (m ∷ nodes) [] l rest e = cc
insts_next k (m ∷ nodes) (n ∷ all) l rest e =
    let (i, node, place, is) = insts_next (k + 1) nodes all l rest cc in
    (i, node, omega arith, is)

abbrev NextNode : (blocks : ℕ) → List InstNode → Line → Type 0
NextNode blocks insts (line.Ends e) = ⊥
NextNode blocks insts (line.Block b n) = (insts ≡ []) × (b.0 ≡ blocks)
NextNode blocks insts (line.Inst i n) = i.0 ≡ length insts

head_is : (k l : Line) (ks ls : List Line) → k ∷ ks ≡ l ∷ ls → l ≡ k
head_is k l ks ls e = cc

tail_is : (k l : Line) (ks ls : List Line) → k ∷ ks ≡ l ∷ ls → ks ≡ ls
tail_is k l ks ls e = cc

pub no_block_there : (k : ℕ) (m : BlockNode) (ls : List Line) (insts : List InstNode) → line.Block (record { 0 = k }) m ∷ ls ≢ inst_lines 0 insts
no_block_there k m ls [] e = cc
no_block_there k m ls (n ∷ insts) e = cc

blocks_next : (k : ℕ) (nodes all : List BlockNode) (insts others : List InstNode) (l : Line) (rest : List Line) → block_lines k nodes ++ (inst_lines 0 insts ++ (l ∷ rest)) ≡ block_lines k all ++ inst_lines 0 others → NextNode (k + length nodes) insts l
blocks_next k [] [] insts others l rest e =
    let (i, n, place, is) = insts_next 0 insts others l rest e in
    subst (NextNode (k + 0) insts) (sym is) (omega arith)
blocks_next k [] (n ∷ all) [] others l rest e = subst (NextNode (k + 0) []) (head_is l _ rest _ e) (refl, omega arith)
blocks_next k [] (n ∷ all) (i ∷ insts) others l rest e = cc
blocks_next k (m ∷ nodes) [] insts others l rest e = absurd (no_block_there k m _ others e)
blocks_next k (m ∷ nodes) (n ∷ all) insts others l rest e =
    let same : (k + 1) + length nodes ≡ k + length (m ∷ nodes) = omega arith in
    subst (λ b. NextNode b insts l) same (blocks_next (k + 1) nodes all insts others l rest (tail_is _ _ _ _ e))

module _ (blocks : List BlockNode) (insts : List InstNode) where
  node_next : (d : Ends Block) (l : Line) → NextNode (0 + length blocks) insts l → is_next (with_ends blocks insts (Some d)) l ≡ true
  node_next d (line.Ends e) next = absurd next
  node_next d (line.Block b n) (none, place) = let len : length insts ≡ 0 = rw none refl in grind (arith, nat_tests)
  node_next d (line.Inst i n) place = grind (arith, nat_tests)

  next_is : (o : Option (Ends Block)) (t : Tables) (l : Line) (rest : List Line) → Bare o blocks insts → part_lines (with_ends blocks insts o) ++ (l ∷ rest) ≡ dump_lines t → is_next (with_ends blocks insts o) l ≡ true
  next_is None t l rest (b, i) e =
      let first : l ∷ rest ≡ dump_lines t = rw (b, i) at e in
      subst (λ (k : Line). is_next (with_ends blocks insts None) k ≡ true) (head_is l (line.Ends t.ends) rest _ first) refl
  next_is (Some d) t l rest bare e =
      let others : (block_lines 0 blocks ++ inst_lines 0 insts) ++ (l ∷ rest) ≡ block_lines 0 t.blocks ++ inst_lines 0 t.insts = tail_is _ _ _ _ e in
      node_next d l (blocks_next 0 blocks t.blocks insts t.insts l rest (sym (append_assoc (block_lines 0 blocks) (inst_lines 0 insts) (l ∷ rest)) ∙ others))

-- ---- rows

-- the rows with words so far are these, and they are lines
pub record Holds (p : Part) (words : List (List (List ℕ))) : Type 0 where
  pub bare : Bare p.ends p.blocks p.insts
  pub same : map line_words (part_lines p) ≡ words
  pub fits : All FitsLine (part_lines p)

pub some_row : (row : List (List ℕ)) → row ≢ [] → has_some row ≡ true
some_row [] some = absurd (some refl)
some_row (w ∷ ws) some = grind (arith, nat_tests)

added : (old new : Part) (l : Line) (words : List (List (List ℕ))) (row : List (List ℕ)) → Says row l → Adds old l new → Holds old words → Holds new (words ++ (row ∷ []))
added old new l words row says adds holds =
    let more = lines_more old.blocks old.insts old.ends l adds.next holds.bare in
    subst (λ (p : Part). Holds p (words ++ (row ∷ []))) (sym adds.new_is)
    (record {
      bare = bare_still old.blocks old.insts old.ends l adds.next;
      same = rw (more, map-append line_words (part_lines old) (l ∷ []), holds.same, says.written) refl;
      fits = subst (All FitsLine) (sym more) (All-push FitsLine (part_lines old) l holds.fits says.fits);
    })

row_holds : (row : List (List ℕ)) (old new : Part) (words : List (List (List ℕ))) → AddsRow row old new → Holds old words → Holds new (words ++ spoken (row ∷ []))
row_holds [] old new words adds holds = rw (adds, append-nil words) holds
row_holds (w ∷ ws) old new words (l, says, adds) holds = rw (some_row (w ∷ ws) (λ none. cc)) (added old new l words (w ∷ ws) says adds holds)

rows_hold : (all : List (List (List ℕ))) (old new : Part) (words : List (List (List ℕ))) → AddsRows all old new → Holds old words → Holds new (words ++ spoken all)
rows_hold [] old new words adds holds = rw (adds, append-nil words) holds
rows_hold (row ∷ rest) old new words (mid, adds, others) holds =
    let here = rows_hold rest mid new (words ++ spoken (row ∷ [])) others (row_holds row old mid words adds holds) in
    rw (filter-append has_some (row ∷ []) rest, ← append_assoc) here

pub hold : (all : List (List (List ℕ))) (new : Part) → AddsRows all nothing new → Holds new (spoken all)
hold all new adds = rows_hold all nothing new [] adds (record { bare = (refl, refl); same = refl; fits = All-nil FitsLine })

-- ---- the beginning of a dump

abbrev no_tables : Tables
no_tables = record { blocks = []; insts = []; ends = record { first = None; last = None } }

no_tables_fit : All FitsLine (dump_lines no_tables)
no_tables_fit = All-cons FitsLine (line.Ends no_tables.ends) [] (tt, tt) (All-nil FitsLine)

begun : (o : Option (Ends Block)) (blocks : List BlockNode) (insts : List InstNode) (all : List (List (List ℕ))) → Holds (record { ends = o; blocks = blocks; insts = insts }) (spoken all) → Begins all
begun None blocks insts all holds =
    let (b, i) = holds.bare in
    let none : spoken all ≡ [] = sym holds.same ∙ (rw (b, i) refl) in
    record { tables = no_tables; more = map line_words (dump_lines no_tables); is = record { written = rw none refl; fits = no_tables_fit } }
begun (Some e) blocks insts all holds = record {
  tables = record { blocks = blocks; insts = insts; ends = e };
  more = [];
  is = record { written = append-nil (spoken all) ∙ sym holds.same; fits = holds.fits };
}

begins : (all : List (List (List ℕ))) (p : Part) → AddsRows all nothing p → Begins all
begins all p adds = begun p.ends p.blocks p.insts all (hold all p adds)

-- ---- what is wrong

module _ (all : List (List (List ℕ))) (n : ℕ) (inside : n < length all) where
  abbrev row : List (List ℕ)
  row = get_or all n []

  one_more : row ≢ [] → spoken (take (n + 1) all) ≡ spoken (take n all) ++ (row ∷ [])
  one_more some = rw (take_more all n [] inside, filter-append has_some (take n all) (get_or all n [] ∷ []), some_row (get_or all n []) some) refl

  breaks_unread : row ≢ [] → ((l : Line) → ¬ Says row l) → Breaks all n
  breaks_unread some silent b =
      let e : spoken (take n all) ++ (row ∷ b.more) ≡ map line_words (dump_lines b.tables) = sym (append_assoc (spoken (take n all)) (row ∷ []) b.more) ∙ (ap (λ r. r ++ b.more) (sym (one_more some)) ∙ b.is.written) in
      let (l, says) = line_there (spoken (take n all)) row b.more (dump_lines b.tables) b.is.fits e in
      silent l says

  breaks_order : (p : Part) → AddsRows (take n all) nothing p → (l : Line) → Says row l → is_next p l ≡ false → Breaks all n
  breaks_order p adds l says other b =
      let holds = hold (take n all) p adds in
      let some : row ≢ [] = λ none. has_words l (sym none ∙ says.written) in
      let lines : map line_words (part_lines p ++ (l ∷ [])) ≡ spoken (take (n + 1) all) = map-append line_words (part_lines p) (l ∷ []) ∙ (rw (holds.same, ← says.written) (sym (one_more some))) in
      let e : map line_words (part_lines p ++ (l ∷ [])) ++ b.more ≡ map line_words (dump_lines b.tables) = ap (λ r. r ++ b.more) lines ∙ b.is.written in
      let (rest, there) = lines_begin (part_lines p ++ (l ∷ [])) (dump_lines b.tables) b.more (All-push FitsLine (part_lines p) l holds.fits says.fits) b.is.fits e in
      let next : is_next p l ≡ true = next_is p.blocks p.insts p.ends b.tables l rest holds.bare (sym (append_assoc (part_lines p) (l ∷ []) rest) ∙ there) in
      cc

  wrong_here : (p : Part) → AddsRows (take n all) nothing p → (w : What) → IsWrongRow p row w → IsWrong all n w
  wrong_here p adds NotALine (some, unread) = (breaks_unread some unread.says_nothing, unread)
  wrong_here p adds NumberTooLarge (some, unread) = (breaks_unread some unread.says_nothing, unread)
  wrong_here p adds OutOfOrder (l, says, other) = (breaks_order p adds l says other, (l, says))
  wrong_here p adds NoEnds wrong = absurd wrong
  wrong_here p adds OutOfMemory wrong = inside

pub fault : (all : List (List (List ℕ))) (f : DumpFault) → Stops all nothing f → IsFault all f
fault all f stops = record {
  ahead = stops.ahead;
  line = stops.line;
  begins = begins (take stops.ahead all) stops.mid stops.adds;
  wrong = wrong_here all stops.ahead stops.inside stops.mid stops.adds f.what stops.wrong;
}

no_rows : (o : Option (Ends Block)) (blocks : List BlockNode) (insts : List InstNode) (words : List (List (List ℕ))) → o ≡ None → Holds (record { ends = o; blocks = blocks; insts = insts }) words → words ≡ []
no_rows None blocks insts words e holds = let (b, i) = holds.bare in sym holds.same ∙ (rw (b, i) refl)
no_rows (Some d) blocks insts words e holds = cc

pub no_ends : (all : List (List (List ℕ))) (p : Part) → AddsRows all nothing p → p.ends ≡ None → (lines : ℕ) → lines ≡ length all → IsFault all (record { line = lines + 1; what = NoEnds })
no_ends all p adds bare lines last =
    let ahead : take lines all ≡ all = rw last (take-length all) in
    record {
      ahead = lines;
      line = refl;
      begins = rw ahead (begins all p adds);
      wrong = (no_rows p.ends p.blocks p.insts (spoken all) bare (hold all p adds), last);
    }

dumped : (o : Option (Ends Block)) (blocks : List BlockNode) (insts : List InstNode) (words : List (List (List ℕ))) (e : Ends Block) → o ≡ Some e → Holds (record { ends = o; blocks = blocks; insts = insts }) words → IsDump words (record { blocks = blocks; insts = insts; ends = e })
dumped None blocks insts words e is holds = cc
dumped (Some d) blocks insts words e is holds =
    let same : d ≡ e = cc in
    subst (λ (f : Ends Block). IsDump words (record { blocks = blocks; insts = insts; ends = f })) same (record { written = sym holds.same; fits = holds.fits })

pub is_dump : (all : List (List (List ℕ))) (p : Part) → AddsRows all nothing p → (e : Ends Block) → p.ends ≡ Some e → IsDump (spoken all) (record { blocks = p.blocks; insts = p.insts; ends = e })
is_dump all p adds e ends = dumped p.ends p.blocks p.insts (spoken all) e ends (hold all p adds)
