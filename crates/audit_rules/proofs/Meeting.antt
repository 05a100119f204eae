-- From marks to what was met. Assumes nothing.
use Rattle.std.proofs.Common.{◌≡◌, ℕ, ◌≤◌, Bool, false, List, [], ◌∷◌, length, replicate, slice_index_or, Some, None, Option, sym, refl, ap, ◌∙◌, subst}
use Rattle.std.proofs.lemmas.List.{length-replicate}
use Rattle.std.specs.Option.{MatchOption}
use Rattle.chain.proofs.Keys.{within_both}
use Rattle.chain.specs.Chain.{AllWithin, Misses}
use Rattle.entities.specs.Nodes.{block_links, block_named, block_place, first_of, inst_links, inst_place, last_of, no_block, no_inst}
use Rattle.entities.specs.Program.{Line, blocks_of, insts_in, insts_of}
use Rattle.entities.specs.declared.Block.{Block}
use Rattle.entities.specs.declared.Inst.{Inst}
use Rattle.entities.specs.declared.nodes.BlockNode.{BlockNode}
use Rattle.entities.specs.declared.nodes.InstNode.{InstNode}
use Rattle.entities.specs.declared.nodes.Tables.{Tables}
use Rattle.listing.proofs.Found.{block_apart, inst_apart}
use Rattle.listing.specs.Lawful.{BareBlock, BareInst, Filled, listed}
use Rattle.audit_walks.proofs.Marking.{length-marked, misses_unmarked, unmarked_blank, unmarked_misses, within_more}
use Rattle.audit_walks.specs.Marks.{Unmarked, marked}
use Rattle.audit_rules.proofs.Lists.{Every, all_every}
use Rattle.audit_rules.proofs.Nexts.{read_or}
use Rattle.audit_rules.specs.Breaches.{Lowest}
use Rattle.audit_rules.specs.Rules.{BlockChain, InstChains, UnmetBlockBare, UnmetInstBare}
use Rattle.audit_rules.specs.Tables.{BareBlockNode, BareInstNode}

-- ---- marks of ks in a table of n places that had none

module _ {K : Type 0} (place : K → ℕ) (apart : (a b : K) → place a ≡ place b → a ≡ b) (n : ℕ) (ks : List K) {m : List Bool} (e : m ≡ marked place ks (replicate n false)) (k : K) where
  unmarked_unmet : AllWithin place n ks → Unmarked place m k → Misses (Some k) ks
  unmarked_unmet w u = (unmarked_misses place ks (replicate n false) k (subst (λ l. AllWithin place l ks) (sym (length-replicate n false)) w) (subst (λ q. Unmarked place q k) e u)).0

  unmet_unmarked : Misses (Some k) ks → Unmarked place m k
  unmet_unmarked s = subst (λ q. Unmarked place q k) (sym e) (misses_unmarked place apart ks (replicate n false) k s (unmarked_blank n (place k)))

lowest_as : {K : Type 0} {place : K → ℕ} {P Q : K → Type 0} {x : K} → ((k : K) → P k → Q k) → ((k : K) → Q k → P k) → Lowest place P x → Lowest place Q x
lowest_as {x = x} f g l = record { fault = λ q. l.fault (g x q); spared = λ k h. f k (l.spared k h) }

-- ---- bare, as read at a place and as the node there

module _ (bs : List BlockNode) (b : Block) where
  to_bare_block : BareBlockNode (slice_index_or bs b.0 no_block) → BareBlock bs b
  to_bare_block n = record {
    prev = read_or block_links.prev_of bs b.0 no_block refl ∙ n.prev;
    next = read_or block_links.next_of bs b.0 no_block refl ∙ n.next;
    first = read_or first_of bs b.0 no_block refl ∙ n.first;
    last = read_or last_of bs b.0 no_block refl ∙ n.last;
  }

  of_bare_block : BareBlock bs b → BareBlockNode (slice_index_or bs b.0 no_block)
  of_bare_block n = record {
    prev = sym (read_or block_links.prev_of bs b.0 no_block refl) ∙ n.prev;
    next = sym (read_or block_links.next_of bs b.0 no_block refl) ∙ n.next;
    first = sym (read_or first_of bs b.0 no_block refl) ∙ n.first;
    last = sym (read_or last_of bs b.0 no_block refl) ∙ n.last;
  }

module _ (is : List InstNode) (i : Inst) where
  to_bare_inst : BareInstNode (slice_index_or is i.0 no_inst) → BareInst is i
  to_bare_inst n = record {
    block = read_or block_named is i.0 no_inst refl ∙ n.block;
    prev = read_or inst_links.prev_of is i.0 no_inst refl ∙ n.prev;
    next = read_or inst_links.next_of is i.0 no_inst refl ∙ n.next;
  }

  of_bare_inst : BareInst is i → BareInstNode (slice_index_or is i.0 no_inst)
  of_bare_inst n = record {
    block = sym (read_or block_named is i.0 no_inst refl) ∙ n.block;
    prev = sym (read_or inst_links.prev_of is i.0 no_inst refl) ∙ n.prev;
    next = sym (read_or inst_links.next_of is i.0 no_inst refl) ∙ n.next;
  }

-- ---- blocks

module _ (t : Tables) (few : length t.blocks ≤ 256) (chain : BlockChain t) {m : List Bool} (e : m ≡ marked block_place (blocks_of (listed t)) (replicate 256 false)) where
  to_block : (b : Block) → (Unmarked block_place m b → BareBlockNode (slice_index_or t.blocks b.0 no_block)) → UnmetBlockBare t b
  to_block b f s = to_bare_block t.blocks b (f (unmet_unmarked block_place block_apart 256 (blocks_of (listed t)) e b s))

  of_block : (b : Block) → UnmetBlockBare t b → Unmarked block_place m b → BareBlockNode (slice_index_or t.blocks b.0 no_block)
  of_block b f u =
      of_bare_block t.blocks b (f (unmarked_unmet block_place block_apart 256 (blocks_of (listed t)) e b (within_more block_place (length t.blocks) 256 (blocks_of (listed t)) few chain.within) u))

  pub blocks_told : (r : Option Block) → MatchOption r ((b : Block) → Unmarked block_place m b → BareBlockNode (slice_index_or t.blocks b.0 no_block)) (Lowest block_place (λ b. Unmarked block_place m b → BareBlockNode (slice_index_or t.blocks b.0 no_block))) → MatchOption r ((b : Block) → UnmetBlockBare t b) (Lowest block_place (UnmetBlockBare t))
  blocks_told None f = λ b. to_block b (f b)
  blocks_told (Some b) l = lowest_as to_block of_block l

-- ---- instructions

insts_within : (t : Tables) (ls : List Line) → Every (Filled t) ls → AllWithin inst_place (length t.insts) (insts_of ls)
insts_within t [] a = tt
insts_within t (l ∷ ls) a = within_both inst_place (length t.insts) (insts_in l.slots) (insts_of ls) a.0.chain.within (insts_within t ls a.1)

module _ (t : Tables) (few : length t.insts ≤ 1024) (chains : InstChains t) {m : List Bool} (e : m ≡ marked inst_place (insts_of (listed t)) (replicate 1024 false)) where
  to_inst : (i : Inst) → (Unmarked inst_place m i → BareInstNode (slice_index_or t.insts i.0 no_inst)) → UnmetInstBare t i
  to_inst i f s = to_bare_inst t.insts i (f (unmet_unmarked inst_place inst_apart 1024 (insts_of (listed t)) e i s))

  of_inst : (i : Inst) → UnmetInstBare t i → Unmarked inst_place m i → BareInstNode (slice_index_or t.insts i.0 no_inst)
  of_inst i f u =
      of_bare_inst t.insts i (f (unmarked_unmet inst_place inst_apart 1024 (insts_of (listed t)) e i (within_more inst_place (length t.insts) 1024 (insts_of (listed t)) few (insts_within t (listed t) (all_every (Filled t) (listed t) chains))) u))

  pub insts_told : (r : Option Inst) → MatchOption r ((i : Inst) → Unmarked inst_place m i → BareInstNode (slice_index_or t.insts i.0 no_inst)) (Lowest inst_place (λ i. Unmarked inst_place m i → BareInstNode (slice_index_or t.insts i.0 no_inst))) → MatchOption r ((i : Inst) → UnmetInstBare t i) (Lowest inst_place (UnmetInstBare t))
  insts_told None f = λ i. to_inst i (f i)
  insts_told (Some i) l = lowest_as to_inst of_inst l

pub length_met : {K : Type 0} (place : K → ℕ) (ks : List K) (n : ℕ) {m : List Bool} → m ≡ marked place ks (replicate n false) → length m ≡ n
length_met place ks n e = ap length e ∙ length-marked place ks (replicate n false) ∙ length-replicate n false
