-- A loop along the blocks: those that are done, the one at hand, and those behind it. Assumes nothing.
use Rattle.std.proofs.Common.{◌≡◌, ℕ, ◌<◌, Bool, false, List, [], ◌∷◌, ◌++◌, map, length, replicate, Some, None, Option, sym, refl, ap, ◌∙◌, subst, append_assoc}
use Rattle.std.proofs.lemmas.List.{append-nil, map-append}
use Rattle.std.specs.List.{All}
use Rattle.std.specs.Option.{MatchOption}
use Rattle.std.proofs.lemmas.Option.{same_Some}
use Rattle.chain.proofs.Keys.{distinct_across, disjoint_head, misses_both, within_right}
use Rattle.chain.specs.Chain.{AllWithin, Distinct, Misses}
use Rattle.chain.specs.Table.{read_at}
use Rattle.entities.specs.Nodes.{block_named, block_place, inst_place}
use Rattle.entities.specs.Program.{Line, insts_in, insts_of}
use Rattle.entities.specs.declared.Block.{Block}
use Rattle.entities.specs.declared.Inst.{Inst}
use Rattle.entities.specs.declared.nodes.Tables.{Tables}
use Rattle.listing.proofs.Found.{inst_apart, insts_in-append}
use Rattle.listing.specs.Lawful.{Filled, line_of, listed}
use Rattle.audit_walks.proofs.Marking.{misses_unmarked, unmarked_blank}
use Rattle.audit_walks.specs.Marks.{AllUnmarked, marked}
use Rattle.audit_rules.proofs.Finding.{Found}
use Rattle.audit_rules.proofs.Lists.{Every, Named, block_keys, blocks_listed, every_all, filled_named, inst_keys, insts_listed}
use Rattle.audit_rules.specs.Breaches.{Earliest}
use Rattle.audit_rules.specs.Rules.{BlockChain}

pub marked-append : {K : Type 0} (place : K → ℕ) (xs ys : List K) (m : List Bool) → marked place (xs ++ ys) m ≡ marked place ys (marked place xs m)
marked-append place [] ys m = refl
marked-append place (x ∷ xs) ys m = marked-append place xs ys _

-- one more is done
pub parts_on : {A : Type 0} {all : List A} (ys : List A) {rest behind : List A} {x : A} → all ≡ ys ++ rest → rest ≡ x ∷ behind → all ≡ (ys ++ (x ∷ [])) ++ behind
parts_on ys {rest} {behind} {x} p e = p ∙ ap (λ r. ys ++ r) e ∙ sym (append_assoc ys (x ∷ []) behind)

pub parts_at : {A : Type 0} {all : List A} (ys : List A) {rest behind : List A} {x : A} → all ≡ ys ++ rest → rest ≡ x ∷ behind → all ≡ ys ++ (x ∷ behind)
parts_at ys p e = p ∙ ap (λ r. ys ++ r) e

pub parts_end : {A : Type 0} {all : List A} (ys : List A) {rest : List A} → all ≡ ys ++ rest → rest ≡ [] → all ≡ ys
parts_end ys p e = p ∙ ap (λ r. ys ++ r) e ∙ append-nil ys

module _ (t : Tables) where
  abbrev pub lines : List Block → List Line
  lines ks = map (line_of t) ks

  pub listed_is : listed t ≡ lines (block_keys t)
  unfolding listed
  listed_is = refl

  pub every_more : (P : Line → Type 0) (ks : List Block) (b : Block) → Every P (lines ks) → P (line_of t b) → Every P (lines (ks ++ (b ∷ [])))
  every_more P [] b a p = (p, tt)
  every_more P (k ∷ ks) b a p = (a.0, every_more P ks b a.1 p)

  -- all are done
  pub all_listed : (P : Line → Type 0) {ks : List Block} → block_keys t ≡ ks → Every P (lines ks) → All P (listed t)
  all_listed P {ks} e a = subst (λ ls. All P ls) (sym (listed_is ∙ ap lines e)) (every_all P (lines ks) a)

  -- the one at hand is the earliest at fault
  pub earliest : (P : Line → Type 0) (done behind : List Block) {b : Block} → block_keys t ≡ done ++ (b ∷ behind) → Every P (lines done) → (P (line_of t b) → ⊥) → Earliest P (listed t) b
  earliest P done behind {b} e a f = record {
    ahead = lines done;
    it = line_of t b;
    behind = lines behind;
    is = listed_is ∙ ap lines e ∙ map-append (line_of t) done (b ∷ behind);
    block = refl;
    spared = every_all P (lines done) a;
    fault = f;
  }

  every_lines : (P : Line → Type 0) (ks : List Block) → Every (λ b. P (line_of t b)) ks → Every P (lines ks)
  every_lines P [] a = tt
  every_lines P (k ∷ ks) a = (a.0, every_lines P ks a.1)

  -- what a search of all blocks gives
  pub earliest_found : (P : Line → Type 0) (r : Option Block) {ks : List Block} → ks ≡ block_keys t → MatchOption r (Every (λ b. P (line_of t b)) ks) (Found (λ b. P (line_of t b)) ks) → MatchOption r (All P (listed t)) (Earliest P (listed t))
  earliest_found P None {ks} e f = all_listed P (sym e) (every_lines P ks f)
  earliest_found P (Some b) e f = earliest P f.ahead f.behind (sym e ∙ f.is) (every_lines P f.ahead f.spared) f.fault

  -- the marks once one more block's instructions are met
  pub marks_on : (done : List Block) (b : Block) (m : List Bool) → marked inst_place (insts_in (line_of t b).slots) (marked inst_place (insts_of (lines done)) m) ≡ marked inst_place (insts_of (lines (done ++ (b ∷ [])))) m
  marks_on done b m =
      let all : insts_of (lines (done ++ (b ∷ []))) ≡ insts_of (lines done) ++ insts_in (line_of t b).slots =
      ap insts_of (map-append (line_of t) done (b ∷ [])) ∙ insts_in-append (lines done) (line_of t b ∷ []) ∙ ap (λ r. insts_of (lines done) ++ r) (append-nil (insts_in (line_of t b).slots)) in
      sym (ap (λ ks. marked inst_place ks m) all ∙ marked-append inst_place (insts_of (lines done)) (insts_in (line_of t b).slots) m)

  -- an instruction that names block b is none that names another
  others : (i : Inst) (b x : Block) (is : List Inst) → Named t b i → (Some b ≡ Some x → ⊥) → Every (Named t x) is → Misses (Some i) is
  others i b x [] n ne a = tt
  others i b x (j ∷ js) n ne a =
      (λ q. ne (sym n ∙ ap (λ (k : Inst). read_at block_named t.insts k.0) (same_Some i j q) ∙ a.0), others i b x js n ne a.1)

  none_of : (i : Inst) (b : Block) (done : List Block) → Named t b i → Misses (Some b) done → Every (Filled t) (lines done) → Misses (Some i) (insts_of (lines done))
  none_of i b [] n m a = tt
  none_of i b (x ∷ xs) n m a =
      misses_both (Some i) (insts_in (line_of t x).slots) (insts_of (lines xs)) (subst (λ ks. Misses (Some i) ks) (sym (insts_listed t x)) (others i b x (inst_keys t x) n m.0 (filled_named t x a.0))) (none_of i b xs n m.1 a.1)

  unmarked_all : (b : Block) (done : List Block) (is : List Inst) → Misses (Some b) done → Every (Filled t) (lines done) → Every (Named t b) is → AllUnmarked inst_place (marked inst_place (insts_of (lines done)) (replicate 1024 false)) is
  unmarked_all b done [] m a n = tt
  unmarked_all b done (i ∷ is) m a n = (misses_unmarked inst_place inst_apart (insts_of (lines done)) (replicate 1024 false) i (none_of i b done n.0 m a) (unmarked_blank 1024 i.0), unmarked_all b done is m a n.1)

  module _ (chain : BlockChain t) (done behind : List Block) (b : Block) (parts : block_keys t ≡ done ++ (b ∷ behind)) where
    pub block_in_table : b.0 < length t.blocks
    block_in_table = (within_right block_place (length t.blocks) done (b ∷ behind) (subst (λ ks. AllWithin block_place (length t.blocks) ks) (blocks_listed t ∙ parts) chain.within)).0

    not_done : Misses (Some b) done
    not_done = disjoint_head done b behind (distinct_across done (b ∷ behind) (subst (λ ks. Distinct ks) (blocks_listed t ∙ parts) chain.distinct))

    -- its instructions are unmarked until it is its turn
    pub fresh : {m : List Bool} → Every (Filled t) (lines done) → m ≡ marked inst_place (insts_of (lines done)) (replicate 1024 false) → Filled t (line_of t b) → AllUnmarked inst_place m (insts_in (line_of t b).slots)
    fresh a e f =
        subst (λ q. AllUnmarked inst_place q (insts_in (line_of t b).slots)) (sym e)
        (subst (λ is. AllUnmarked inst_place (marked inst_place (insts_of (lines done)) (replicate 1024 false)) is) (sym (insts_listed t b)) (unmarked_all b done (inst_keys t b) not_done a (filled_named t b f)))
