-- The lists that are read off tables of any content, and what a walk says of them. Assumes nothing.
use Rattle.std.proofs.Common.{◌≡◌, zero, suc, Bool, false, List, [], ◌∷◌, map, length, get_or, replicate, Some, sym, refl, ap, ◌∙◌, subst, arith}
use Rattle.std.specs.List.{All}
use Rattle.chain.proofs.Walks.{chain_keys}
use Rattle.chain.proofs.Writes.{read_is}
use Rattle.chain.specs.Chain.{AllWithin, Chain, keys_from}
use Rattle.chain.specs.Table.{read_at}
use Rattle.chain.specs.declared.Ends.{Ends}
use Rattle.entities.specs.Nodes.{block_links, block_named, block_place, ends_of, inst_links, inst_place, no_inst, number_of}
use Rattle.entities.specs.Program.{blocks_of, insts_in}
use Rattle.entities.specs.declared.Block.{Block}
use Rattle.entities.specs.declared.Inst.{Inst}
use Rattle.entities.specs.declared.nodes.InstNode.{InstNode}
use Rattle.entities.specs.declared.nodes.Tables.{Tables}
use Rattle.listing.proofs.Found.{block_apart, inst_apart}
use Rattle.listing.specs.Lawful.{Filled, Held, line_of, listed, or_zero, slot_of}
use Rattle.audit_walks.proofs.Marking.{all_unmarked_blank}
use Rattle.audit_walks.specs.Marks.{AllUnmarked, marked}
use Rattle.audit_walks.specs.Met.{Met, Unmet}
use Rattle.audit_rules.specs.Rules.{BlockChain}

-- ---- what holds of each in a list, one after another

abbrev pub Every : {A : Type 0} → (A → Type 0) → List A → Type 0
Every P [] = Unit {0}
Every P (x ∷ xs) = P x × Every P xs

module _ {A : Type 0} (P : A → Type 0) where
  pub all_every : (xs : List A) → All P xs → Every P xs
  all_every [] a = tt
  all_every (x ∷ xs) a = (a 0 x (omega arith), all_every xs (λ k d h. a (suc k) d (omega arith)))

  pub every_all : (xs : List A) → Every P xs → All P xs
  every_all [] e k d h = absurd (omega arith)
  every_all (x ∷ xs) e zero d h = e.0
  every_all (x ∷ xs) e (suc k) d h = every_all xs e.1 k d (omega arith)

-- ---- the list by its keys

blocks_back : (t : Tables) (ks : List Block) → blocks_of (map (line_of t) ks) ≡ ks
blocks_back t [] = refl
blocks_back t (k ∷ ks) = ap (λ r. k ∷ r) (blocks_back t ks)

pub insts_back : (t : List InstNode) (ks : List Inst) → insts_in (map (slot_of t) ks) ≡ ks
insts_back t [] = refl
insts_back t (k ∷ ks) = ap (λ r. k ∷ r) (insts_back t ks)

abbrev pub block_keys : Tables → List Block
block_keys t = keys_from block_place block_links t.blocks t.ends.first

abbrev pub inst_keys : Tables → Block → List Inst
inst_keys t b = keys_from inst_place inst_links t.insts (ends_of t.blocks b).first

pub blocks_listed : (t : Tables) → blocks_of (listed t) ≡ block_keys t
unfolding listed
blocks_listed t = blocks_back t (block_keys t)

pub insts_listed : (t : Tables) (b : Block) → insts_in (line_of t b).slots ≡ inst_keys t b
insts_listed t b = insts_back t.insts (inst_keys t b)

-- ---- the walk along the blocks

module _ (t : Tables) {m m' : List Bool} where
  pub chain_met : Met block_place block_links t.blocks t.ends m m' → BlockChain t
  chain_met w = subst (λ ks. Chain block_place block_links t.blocks t.ends ks) (sym (blocks_listed t ∙ chain_keys block_apart w.chain)) w.chain

  pub marks_met : Met block_place block_links t.blocks t.ends m m' → m ≡ replicate 256 false → m' ≡ marked block_place (blocks_of (listed t)) (replicate 256 false)
  marks_met w e = w.marks ∙ ap (λ q. marked block_place w.keys q) e ∙ ap (λ ks. marked block_place ks (replicate 256 false)) (sym (blocks_listed t ∙ chain_keys block_apart w.chain))

pub no_chain : (t : Tables) {m : List Bool} → Unmet block_place block_links t.blocks t.ends m → m ≡ replicate 256 false → BlockChain t → ⊥
no_chain t {m} w e c = w.none (blocks_of (listed t)) c (subst (λ q. AllUnmarked block_place q (blocks_of (listed t))) (sym e) (all_unmarked_blank block_place 256 (blocks_of (listed t))))

-- ---- the walk along the instructions of a block

module _ (t : Tables) (b : Block) where
  abbrev pub Named : Inst → Type 0
  Named i = read_at block_named t.insts i.0 ≡ Some b

  held : (ks : List Inst) → AllWithin inst_place (length t.insts) ks → Every Named ks → Held t.insts b (map (slot_of t.insts) ks)
  held [] w n = tt
  held (k ∷ ks) w n =
      let e : read_at number_of t.insts k.0 ≡ Some (get_or t.insts k.0 no_inst).seq = read_is number_of t.insts k.0 no_inst w.0 in
      (n.0, e ∙ ap (λ o. Some (or_zero o)) (sym e), held ks w.1 n.1)

  named : (ks : List Inst) → Held t.insts b (map (slot_of t.insts) ks) → Every Named ks
  named [] h = tt
  named (k ∷ ks) h = (h.0, named ks h.2)

  -- the ends of the block, and what the walk between them says
  module _ {e : Ends Inst} (is : e ≡ ends_of t.blocks b) where
    keys_met : {m m' : List Bool} (w : Met inst_place inst_links t.insts e m m') → inst_keys t b ≡ w.keys
    keys_met w = ap (λ (d : Ends Inst). keys_from inst_place inst_links t.insts d.first) (sym is) ∙ chain_keys inst_apart w.chain

    chain_listed : {m m' : List Bool} → Met inst_place inst_links t.insts e m m' → Chain inst_place inst_links t.insts (ends_of t.blocks b) (inst_keys t b)
    chain_listed w = subst (λ d. Chain inst_place inst_links t.insts d (inst_keys t b)) is (subst (λ ks. Chain inst_place inst_links t.insts e ks) (sym (keys_met w)) w.chain)

    pub filled : {m m' : List Bool} → Met inst_place inst_links t.insts e m m' → All Named (keys_from inst_place inst_links t.insts e.first) → Filled t (line_of t b)
    filled w n =
        let c = chain_listed w in
        let all : All Named (inst_keys t b) = subst (λ (d : Ends Inst). All Named (keys_from inst_place inst_links t.insts d.first)) is n in
        record {
          chain = subst (λ ks. Chain inst_place inst_links t.insts (ends_of t.blocks b) ks) (sym (insts_listed t b)) c;
          held = held (inst_keys t b) c.within (all_every Named (inst_keys t b) all);
        }

    pub marks_filled : {m m' : List Bool} → Met inst_place inst_links t.insts e m m' → m' ≡ marked inst_place (insts_in (line_of t b).slots) m
    marks_filled {m} w = w.marks ∙ ap (λ ks. marked inst_place ks m) (sym (insts_listed t b ∙ keys_met w))

    pub filled_all : Filled t (line_of t b) → All Named (keys_from inst_place inst_links t.insts e.first)
    filled_all f = subst (λ (d : Ends Inst). All Named (keys_from inst_place inst_links t.insts d.first)) (sym is) (every_all Named (inst_keys t b) (named (inst_keys t b) f.held))

    pub not_filled : {m : List Bool} → Unmet inst_place inst_links t.insts e m → Filled t (line_of t b) → AllUnmarked inst_place m (insts_in (line_of t b).slots) → ⊥
    not_filled w f u = w.none (insts_in (line_of t b).slots) (subst (λ d. Chain inst_place inst_links t.insts d (insts_in (line_of t b).slots)) (sym is) f.chain) u

  pub filled_named : Filled t (line_of t b) → Every Named (inst_keys t b)
  filled_named f = named (inst_keys t b) f.held
