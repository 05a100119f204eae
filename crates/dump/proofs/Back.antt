-- What was printed is read as the very same tables. Assumes nothing.
use Rattle.std.proofs.Common.{◌≡◌, ℕ, ◌+◌, List, [], ◌∷◌, ◌++◌, map, take, drop, Result, Ok, Err, IsErrAnd, refl, sym, ◌∙◌, ap, subst}
use Rattle.std.specs.List.{All}
use Rattle.std.proofs.lemmas.List.Elements.{filter-append, All-head, All-tail}
use lib.ListN.{take-append-drop}
use Rattle.entities.specs.declared.nodes.BlockNode.{BlockNode}
use Rattle.entities.specs.declared.nodes.InstNode.{InstNode}
use Rattle.entities.specs.declared.nodes.Tables.{Tables}
use Rattle.words.specs.Words.{has_some, rows}
use Rattle.dump.specs.declared.lines.Line.{Line}
use Rattle.dump.specs.declared.texts.What.{What}
use Rattle.dump.specs.declared.texts.What.TheVariants.{NotALine, NumberTooLarge, OutOfOrder, NoEnds, OutOfMemory}
use Rattle.dump.specs.declared.texts.DumpFault.{DumpFault}
use Rattle.dump.specs.Lines.{FitsLine, line_words}
use Rattle.dump.specs.Dumps.{block_lines, inst_lines, dump_lines, dump_text, spoken, IsDump, Begins, IsWrong, IsFault}
use Rattle.dump.proofs.Injective.{same_line}
use Rattle.dump.specs.declared.texts.Partial.{Partial}
use Rattle.dump.specs.Parts.{Stops, FaultTold, TextTold, nothing}
use Rattle.dump.proofs.Begun.{some_row, no_block_there, fault}
use Rattle.dump.proofs.Rows.{has_words}
use Rattle.dump.proofs.Spelled.{rows_printed}

-- ---- tables of the same lines

same_lines : (ks ls : List Line) → All FitsLine ks → All FitsLine ls → map line_words ks ≡ map line_words ls → ks ≡ ls
same_lines [] [] fits fit e = refl
same_lines [] (l ∷ ls) fits fit e = cc
same_lines (k ∷ ks) [] fits fit e = cc
same_lines (k ∷ ks) (l ∷ ls) fits fit e =
    let same = same_line k l (All-head FitsLine k ks fits) (All-head FitsLine l ls fit) cc in
    let others = same_lines ks ls (All-tail FitsLine k ks fits) (All-tail FitsLine l ls fit) cc in
    cc

same_insts : (k : ℕ) (ms ns : List InstNode) → inst_lines k ms ≡ inst_lines k ns → ms ≡ ns
same_insts k [] [] e = refl
same_insts k [] (n ∷ ns) e = cc
same_insts k (m ∷ ms) [] e = cc
same_insts k (m ∷ ms) (n ∷ ns) e = let others = same_insts (k + 1) ms ns cc in cc

same_nodes : (k : ℕ) (blocks others : List BlockNode) (ms ns : List InstNode) → block_lines k blocks ++ inst_lines 0 ms ≡ block_lines k others ++ inst_lines 0 ns → (blocks ≡ others) × (ms ≡ ns)
same_nodes k [] [] ms ns e = (refl, same_insts 0 ms ns e)
same_nodes k [] (b ∷ others) ms ns e = absurd (no_block_there k b _ ms (sym e))
same_nodes k (a ∷ blocks) [] ms ns e = absurd (no_block_there k a _ ns e)
same_nodes k (a ∷ blocks) (b ∷ others) ms ns e = let (rest, insts) = same_nodes (k + 1) blocks others ms ns cc in (cc, insts)

same_tables : (t u : Tables) → dump_lines t ≡ dump_lines u → t ≡ u
same_tables t u e =
    let ends : t.ends ≡ u.ends = cc in
    let (blocks, insts) = same_nodes 0 t.blocks u.blocks t.insts u.insts cc in
    rw (ends, blocks, insts) refl

-- ---- each line has words

spoken_lines : (ls : List Line) → spoken (map line_words ls) ≡ map line_words ls
spoken_lines [] = refl
spoken_lines (l ∷ ls) = rw (some_row (line_words l) (λ none. has_words l (sym none)), spoken_lines ls) refl

module _ (text : List ℕ) (t : Tables) (fits : All FitsLine (dump_lines t)) (printed : text ≡ dump_text t) where
  all_rows : rows text ≡ map line_words (dump_lines t)
  all_rows = rw printed (rows_printed (dump_lines t) fits)

  all_spoken : spoken (rows text) ≡ map line_words (dump_lines t)
  all_spoken = ap spoken all_rows ∙ spoken_lines (dump_lines t)

  pub read_back : (u : Tables) → IsDump (spoken (rows text)) u → u ≡ t
  read_back u is = same_tables u t (same_lines (dump_lines u) (dump_lines t) is.fits fits (sym is.written ∙ all_spoken))

  any_begins : (n : ℕ) → Begins (take n (rows text))
  any_begins n = record {
    tables = t;
    more = spoken (drop n (rows text));
    is = record { written = sym (filter-append has_some (take n (rows text)) (drop n (rows text))) ∙ (ap spoken (take-append-drop n (rows text)) ∙ all_spoken); fits = fits };
  }

  no_fault : (ahead : ℕ) (w : What) → IsWrong (rows text) ahead w → w ≡ OutOfMemory
  no_fault ahead NotALine wrong = absurd (wrong.0 (any_begins (ahead + 1)))
  no_fault ahead NumberTooLarge wrong = absurd (wrong.0 (any_begins (ahead + 1)))
  no_fault ahead OutOfOrder wrong = absurd (wrong.0 (any_begins (ahead + 1)))
  no_fault ahead NoEnds (none, last) = let e = sym none ∙ all_spoken in cc
  no_fault ahead OutOfMemory wrong = refl

  pub only_memory : (f : DumpFault) → IsFault (rows text) f → f.what ≡ OutOfMemory
  only_memory f is = no_fault is.ahead f.what is.wrong

pub text_told : (text : List ℕ) (r : Result Partial DumpFault) (f : DumpFault) → IsErrAnd r (λ g. g ≡ f) → Stops (rows text) nothing f → TextTold text r
text_told text (Ok p) f is stops = absurd is
text_told text (Err g) f is stops =
    let fault_is = fault (rows text) f stops in
    subst (FaultTold text) (sym is) (record { fault_is = fault_is; not_printed = λ t fits printed. only_memory text t fits printed f fault_is })
