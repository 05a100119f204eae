-- The words of a text's lines are the words of the lines that were printed. Assumes nothing.
use Rattle.std.proofs.Common.{◌≡◌, ℕ, ◌+◌, ◌-◌, ◌<◌, ◌^◌, Bool, true, false, ◌||◌, ◌==◌, List, [], ◌∷◌, ◌++◌, length, map, get_or, take, codes, decimal, length-append, length-take, Option, Some, None, refl, sym, ◌∙◌, ap, arith, append_assoc, append-nil}
use Rattle.std.specs.Char.{is_ascii_digit, is_ascii_alphanumeric, is_ascii_whitespace}
use Rattle.std.specs.List.{All, list_all, flat_map, slice_split, position_or_len}
use Rattle.std.specs.Str.Lines.{lines, lines_of_parts, strip_carriage_return}
use Rattle.std.proofs.Math.Seq.{take-length}
use Rattle.std.proofs.lemmas.Bool.{and_parts}
use Rattle.std.proofs.lemmas.Bool.Decides.{nat_tests}
use Rattle.std.proofs.lemmas.Fmt.{decimal_nonempty}
use Rattle.std.proofs.lemmas.List.{take_more}
use Rattle.std.proofs.lemmas.List.Concat.{flat_map-append}
use Rattle.std.proofs.lemmas.List.Elements.{All-nil, All-cons, All-head, All-tail, All-append, All-weaker, All-get_or}
use Rattle.std.proofs.lemmas.List.Splits.{slice_split_at, length-slice_split}
use Rattle.std.proofs.lemmas.List.Sums.{AllPass-from_list_all, position_or_len_is}
use Rattle.faults.specs.declared.Entity.TheVariants.{Block as the_block, Inst as the_inst}
use Rattle.faults.specs.Text.{entity_text}
use Rattle.words.specs.Numbers.{begins_well}
use Rattle.words.specs.Words.{code_of, words_in, words_of, rows, unwords}
use Rattle.words.proofs.Numerals.{decimal_numeral}
use Rattle.words.proofs.Splits.{word_first, word_last}
use Rattle.entities.specs.declared.Block.{Block}
use Rattle.entities.specs.declared.Inst.{Inst}
use Rattle.entities.specs.declared.nodes.BlockNode.{BlockNode}
use Rattle.entities.specs.declared.nodes.InstNode.{InstNode}
use Rattle.entities.specs.Nodes.{no_block, no_inst}
use Rattle.dump.specs.declared.lines.Line.{Line}
use Rattle.dump.specs.declared.lines.Line.TheVariants as line
use Rattle.words.specs.Entities.{block_text, inst_text}
use Rattle.dump.specs.Lines.{mark_words, block_words, inst_words, line_words, FitsBlock, FitsInst, FitsLine}
use Rattle.dump.specs.Dumps.{block_lines, inst_lines, line_text}
use Rattle.dump.proofs.Begun.{blocks_push, insts_push}

-- ---- the words of a line are of letters and digits

abbrev Plain : List ℕ → Type 0
Plain bs = All (λ b. is_ascii_alphanumeric b ≡ true) bs

record IsWord (w : List ℕ) : Type 0 where
  some : 0 < length w
  plain : Plain w

abbrev AreWords : List (List ℕ) → Type 0
AreWords [] = Unit {0}
AreWords (w ∷ ws) = IsWord w × AreWords ws

-- these letters
spelled : (w : List ℕ) → list_all is_ascii_alphanumeric w ≡ true → 0 < length w → IsWord w
spelled w all some = record { some = some; plain = AllPass-from_list_all is_ascii_alphanumeric w all }

-- a number behind these letters
numbered : (w ds : List ℕ) → list_all is_ascii_alphanumeric w ≡ true → 0 < length w → Plain ds → IsWord (w ++ ds)
numbered w ds all some plain = record {
  some = omega (arith, length-append w ds);
  plain = All-append (λ c. is_ascii_alphanumeric c ≡ true) w ds (AllPass-from_list_all is_ascii_alphanumeric w all) plain;
}

digits_plain : (ds : List ℕ) → list_all is_ascii_digit ds ≡ true → Plain ds
digits_plain [] all = All-nil (λ c. is_ascii_alphanumeric c ≡ true)
digits_plain (d ∷ ds) all =
    let (here, others) = and_parts (is_ascii_digit d) (list_all is_ascii_digit ds) all in
    let is : is_ascii_alphanumeric d ≡ true = grind (arith, nat_tests) in
    All-cons (λ c. is_ascii_alphanumeric c ≡ true) d ds is (digits_plain ds others)

number_plain : (n : ℕ) → n < 2 ^ 32 → Plain (decimal n)
number_plain n small =
    digits_plain (decimal n) (and_parts (begins_well (decimal n)) (list_all is_ascii_digit (decimal n)) (decimal_numeral n (omega arith))).1

number_word : (n : ℕ) → n < 2 ^ 32 → IsWord (decimal n)
number_word n small = record { some = decimal_nonempty n (omega arith); plain = number_plain n small }

block_word : (b : Block) → b.0 < 2 ^ 32 → IsWord (entity_text (the_block b))
block_word b small = numbered (codes "block") (decimal b.0) refl (omega arith) (number_plain b.0 small)

inst_word : (i : Inst) → i.0 < 2 ^ 32 → IsWord (entity_text (the_inst i))
inst_word i small = numbered (codes "inst") (decimal i.0) refl (omega arith) (number_plain i.0 small)

block_link_word : (o : Option Block) → FitsBlock o → IsWord (block_text o)
block_link_word None fits = spelled (codes "none") refl (omega arith)
block_link_word (Some b) fits = block_word b fits

inst_link_word : (o : Option Inst) → FitsInst o → IsWord (inst_text o)
inst_link_word None fits = spelled (codes "none") refl (omega arith)
inst_link_word (Some i) fits = inst_word i fits

mark_word : (cold : Bool) → AreWords (mark_words cold)
mark_word true = (spelled (codes "cold") refl (omega arith), tt)
mark_word false = tt

line_are_words : (l : Line) → FitsLine l → AreWords (line_words l)
line_are_words (line.Ends e) (f, g) = (spelled (codes "ends") refl (omega arith), (block_link_word e.first f, (block_link_word e.last g, tt)))
line_are_words (line.Block b n) (small, (f, g, h, i)) =
    (block_word b small, (block_link_word n.prev f, (block_link_word n.next g, (inst_link_word n.first_inst h, (inst_link_word n.last_inst i, mark_word n.cold)))))
line_are_words (line.Inst i n) (small, (f, g, h, k)) =
    (inst_word i small, (block_link_word n.block f, (inst_link_word n.prev g, (inst_link_word n.next h, (number_word n.seq k, tt)))))

-- ---- with spaces between them they are a line

-- a letter, a digit or a space
abbrev is_written : ℕ → Bool
is_written b = is_ascii_alphanumeric b || b == 32

abbrev Written : List ℕ → Type 0
Written bs = All (λ b. is_written b ≡ true) bs

word_written : (w : List ℕ) → Plain w → Written w
word_written w plain = All-weaker (λ b. is_ascii_alphanumeric b ≡ true) (λ b. is_written b ≡ true) (λ b is. rw is refl) w plain

line_written : (ws : List (List ℕ)) → AreWords ws → Written (unwords ws)
line_written [] are = All-nil (λ b. is_written b ≡ true)
line_written (w ∷ []) (is, are) = word_written w is.plain
line_written (w ∷ v ∷ ws) (is, are) = All-append (λ b. is_written b ≡ true) w (32 ∷ unwords (v ∷ ws)) (word_written w is.plain) (All-cons (λ b. is_written b ≡ true) 32 (unwords (v ∷ ws)) refl (line_written (v ∷ ws) are))

no_blank : (w : List ℕ) → Plain w → All (λ b. is_ascii_whitespace b ≡ false) w
no_blank w plain = All-weaker (λ b. is_ascii_alphanumeric b ≡ true) (λ b. is_ascii_whitespace b ≡ false) (λ b is. grind (arith, nat_tests)) w plain

line_split : (ws : List (List ℕ)) → AreWords ws → words_in (unwords ws) ≡ ws
line_split [] are = refl
line_split (w ∷ []) (is, are) = word_last w (no_blank w is.plain) is.some
line_split (w ∷ v ∷ ws) (is, are) = word_first w 32 (unwords (v ∷ ws)) (no_blank w is.plain) is.some refl ∙ ap (λ r. w ∷ r) (line_split (v ∷ ws) are)

-- no byte of it begins a comment
no_comment : (bs : List ℕ) → Written bs → code_of bs ≡ bs
no_comment bs written =
    let none : position_or_len (λ b. b == 35) bs ≡ length bs = position_or_len_is (λ b. b == 35) bs (length bs) 0 (omega arith) (λ k inside. let is = All-get_or (λ b. is_written b ≡ true) bs k 0 inside written in grind (arith, nat_tests)) (λ past. absurd (omega arith)) in
    rw none (take-length bs)

line_read : (ws : List (List ℕ)) → AreWords ws → words_of (unwords ws) ≡ ws
line_read ws are = ap words_in (no_comment (unwords ws) (line_written ws are)) ∙ line_split ws are

-- ---- lines with a newline behind each

no_return : (bs : List ℕ) → Written bs → strip_carriage_return bs ≡ bs
no_return [] written = refl
no_return (b ∷ bs) written =
    let inside : length (b ∷ bs) - 1 < length (b ∷ bs) = omega arith in
    let is = All-get_or (λ c. is_written c ≡ true) (b ∷ bs) (length (b ∷ bs) - 1) 0 inside written in
    let other : (get_or (b ∷ bs) (length (b ∷ bs) - 1) 0 == 13) ≡ false = grind (arith, nat_tests) in
    rw other refl

parts_more : (x : List ℕ) (parts : List (List ℕ)) → 0 < length parts → lines_of_parts (x ∷ parts) ≡ strip_carriage_return x ∷ lines_of_parts parts
parts_more x [] some = absurd (omega arith)
parts_more x (y ∷ parts) some = refl

line_first : (bs rest : List ℕ) → Written bs → lines (bs ++ (10 ∷ rest)) ≡ bs ∷ lines rest
line_first bs rest written =
    let clear : All (λ b. (b == 10) ≡ false) bs = All-weaker (λ b. is_written b ≡ true) (λ b. (b == 10) ≡ false) (λ b is. grind (arith, nat_tests)) bs written in
    let some : 0 < length (slice_split (λ b. b == 10) rest) = omega (arith, length-slice_split (λ b. b == 10) rest) in
    rw (slice_split_at (λ b. b == 10) bs 10 rest clear refl, parts_more bs (slice_split (λ b. b == 10) rest) some, no_return bs written) refl

pub rows_printed : (ls : List Line) → All FitsLine ls → rows (flat_map line_text ls) ≡ map line_words ls
rows_printed [] fits = refl
rows_printed (l ∷ ls) fits =
    let are = line_are_words l (All-head FitsLine l ls fits) in
    let others = rows_printed ls (All-tail FitsLine l ls fits) in
    let first = line_first (unwords (line_words l)) (flat_map line_text ls) (line_written (line_words l) are) in
    rw (append_assoc (unwords (line_words l)) (10 ∷ []) (flat_map line_text ls), first, line_read (line_words l) are, others) refl

-- ---- the text of nodes, and of one more

-- what is written of a numbered node: a word, the number, the other words and the end of the line
abbrev numbered_line : (prefix : List ℕ) → ℕ → List (List ℕ) → List ℕ
numbered_line prefix n ws = prefix ++ (decimal n ++ (32 ∷ (unwords ws ++ (10 ∷ []))))

module _ (nodes : List BlockNode) (i : ℕ) (inside : i < length nodes) where
  abbrev block_here : Line
  block_here = line.Block (record { 0 = i }) (get_or nodes i no_block)

  abbrev block_text_so_far : List ℕ
  block_text_so_far = flat_map line_text (block_lines 0 (take i nodes))

  pub blocks_more : block_text_so_far ++ numbered_line (codes "block") i (block_words (get_or nodes i no_block)) ≡ flat_map line_text (block_lines 0 (take (i + 1) nodes))
  blocks_more =
      let place : i ≡ 0 + length (take i nodes) = omega (arith, length-take i nodes) in
      let more : block_lines 0 (take (i + 1) nodes) ≡ block_lines 0 (take i nodes) ++ (block_here ∷ []) =
      ap (block_lines 0) (take_more nodes i no_block inside) ∙ blocks_push 0 (take i nodes) (get_or nodes i no_block) (record { 0 = i }) place in
      let text : numbered_line (codes "block") i (block_words (get_or nodes i no_block)) ≡ line_text block_here ++ [] =
      ap (λ t. codes "block" ++ t) (sym (append_assoc (decimal i) (32 ∷ unwords (block_words (get_or nodes i no_block))) (10 ∷ []))) ∙ sym (append-nil (line_text block_here)) in
      ap (λ t. block_text_so_far ++ t) text ∙ (sym (flat_map-append line_text (block_lines 0 (take i nodes)) (block_here ∷ [])) ∙ ap (flat_map line_text) (sym more))

module _ (nodes : List InstNode) (i : ℕ) (inside : i < length nodes) where
  abbrev inst_here : Line
  inst_here = line.Inst (record { 0 = i }) (get_or nodes i no_inst)

  abbrev inst_text_so_far : List ℕ
  inst_text_so_far = flat_map line_text (inst_lines 0 (take i nodes))

  pub insts_more : inst_text_so_far ++ numbered_line (codes "inst") i (inst_words (get_or nodes i no_inst)) ≡ flat_map line_text (inst_lines 0 (take (i + 1) nodes))
  insts_more =
      let place : i ≡ 0 + length (take i nodes) = omega (arith, length-take i nodes) in
      let more : inst_lines 0 (take (i + 1) nodes) ≡ inst_lines 0 (take i nodes) ++ (inst_here ∷ []) =
      ap (inst_lines 0) (take_more nodes i no_inst inside) ∙ insts_push 0 (take i nodes) (get_or nodes i no_inst) (record { 0 = i }) place in
      let text : numbered_line (codes "inst") i (inst_words (get_or nodes i no_inst)) ≡ line_text inst_here ++ [] =
      ap (λ t. codes "inst" ++ t) (sym (append_assoc (decimal i) (32 ∷ unwords (inst_words (get_or nodes i no_inst))) (10 ∷ []))) ∙ sym (append-nil (line_text inst_here)) in
      ap (λ t. inst_text_so_far ++ t) text ∙ (sym (flat_map-append line_text (inst_lines 0 (take i nodes)) (inst_here ∷ [])) ∙ ap (flat_map line_text) (sym more))
