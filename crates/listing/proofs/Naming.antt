-- The loop that names a block in each instruction of a chain. Assumes nothing.
use Rattle.std.proofs.Common.{◌≡◌, ℕ, ◌+◌, ◌-◌, ◌<◌, ◌≤◌, List, [], ◌∷◌, length, get_or, Some, None, Option, sym, refl, ap, ◌∙◌, subst, arith}
use Rattle.std.proofs.lemmas.Option.{none-some, same_Some}
use Rattle.chain.proofs.Chained.{frame}
use Rattle.chain.proofs.Edits.{length-alter, read_here, read_kept, read_other}
use Rattle.chain.proofs.Keys.{none_misses}
use Rattle.chain.proofs.Walks.{chain_keys, walk_few, walk_next}
use Rattle.chain.specs.Chain.{AllWithin, Chain, Distinct, Linked, Misses, head_or, keys_from, walk}
use Rattle.chain.specs.Table.{alter, read_at}
use Rattle.chain.specs.declared.Ends.{Ends}
use Rattle.entities.specs.Nodes.{block_named, inst_links, inst_place, number_of}
use Rattle.entities.specs.Program.{Slot, insts_in}
use Rattle.entities.specs.declared.Block.{Block}
use Rattle.entities.specs.declared.Inst.{Inst}
use Rattle.entities.specs.declared.nodes.InstNode.{InstNode}
use Rattle.listing.proofs.Found.{inst_apart}
use Rattle.listing.proofs.InstEdits.{held_kept, unlinked}
use Rattle.listing.proofs.Parts.{node_reads}
use Rattle.listing.specs.Edits.{named, with_block}
use Rattle.listing.specs.Lawful.{Held}
use Rattle.listing.specs.Numbers.{SomeRun}

-- ---- the loop

-- the keys still to be named, and that naming them gives `goal`
pub record Going (t : List InstNode) (at : Option Inst) (b : Block) (goal : List InstNode) : Type 0 where
  pub before : Option Inst
  pub keys : List Inst
  pub here : at ≡ head_or keys None
  pub linked : Linked (λ k. read_at inst_links.prev_of t (inst_place k)) (λ k. read_at inst_links.next_of t (inst_place k)) before keys None
  pub within : AllWithin inst_place (length t) keys
  pub todo : named t keys b ≡ goal
  pub few : length keys ≤ length t

-- one key named, and the rest
pub record Turn (t : List InstNode) (i : Inst) (b : Block) (goal : List InstNode) (left : ℕ) : Type 0 where
  pub in_table : i.0 < length t
  pub rest : Going (alter t i.0 (λ n. with_block n (Some b))) (read_at inst_links.next_of t i.0) b goal
  pub less : length rest.keys < left

-- what is left to walk is as long as the keys
pub count : {t : List InstNode} {at : Option Inst} {b : Block} {goal : List InstNode} → (g : Going t at b goal) → length (keys_from inst_place inst_links t at) ≡ length g.keys
count {t} {at} {b} {goal} g =
    let prv : Inst → Option Inst = λ k. read_at inst_links.prev_of t (inst_place k) in
    let nxt : Inst → Option Inst = λ k. read_at inst_links.next_of t (inst_place k) in
    let ks : List Inst = g.keys in
    let few : length ks ≤ length t = g.few in
    let sum : length t ≡ length ks + (length t - length ks) = omega arith in
    ap length (ap (λ o. walk nxt (length t) o) g.here ∙ ap (λ n. walk nxt n (head_or ks None)) sum ∙ walk_next prv nxt g.before ks (length t - length ks) g.linked)

turn_by : (t : List InstNode) (b : Block) (goal : List InstNode) (i : Inst) (before : Option Inst) (keys : List Inst) → Some i ≡ head_or keys None → Linked (λ k. read_at inst_links.prev_of t (inst_place k)) (λ k. read_at inst_links.next_of t (inst_place k)) before keys None → AllWithin inst_place (length t) keys → named t keys b ≡ goal → length keys ≤ length t → Turn t i b goal (length keys)
turn_by t b goal i before [] h l w e r = absurd (none-some i (sym h))
turn_by t b goal i before (x ∷ xs) h l w e r =
    let f : InstNode → InstNode = λ n. with_block n (Some b) in
    let same : length (alter t x.0 f) ≡ length t = length-alter f t x.0 in
    subst (λ q. Turn t q b goal (length (x ∷ xs))) (same_Some x i (sym h)) (record {
      in_table = w.0;
      rest = record {
        before = Some x;
        keys = xs;
        here = l.1;
        linked = frame None (Some x) xs None (λ k _. read_kept f inst_links.prev_of (λ n. refl) t x.0 k.0) (λ k _. read_kept f inst_links.next_of (λ n. refl) t x.0 k.0) (none_misses xs) l.2;
        within = subst (λ n. AllWithin inst_place n xs) (sym same) w.1;
        todo = e;
        few = omega (arith, same);
      };
      less = omega arith;
    })

pub going_turn : {t : List InstNode} {at : Option Inst} {b : Block} {goal : List InstNode} {i : Inst} → at ≡ Some i → (g : Going t at b goal) → Turn t i b goal (length g.keys)
going_turn {t} {at} {b} {goal} {i} e a = turn_by t b goal i a.before a.keys (sym e ∙ a.here) a.linked a.within a.todo a.few

pub turned : {t u : List InstNode} {i : Inst} {b : Block} {goal : List InstNode} {o : Option Inst} {left : ℕ} → (r : Turn t i b goal left) → u ≡ alter t i.0 (λ n. with_block n (Some b)) → o ≡ read_at inst_links.next_of t i.0 → (g : Going u o b goal) × (length g.keys < left)
turned {t} {u} {i} {b} {goal} {o} {left} r a e = subst (λ q. (g : Going q o b goal) × (length g.keys < left)) (sym a) (subst (λ q. (g : Going (alter t i.0 (λ n. with_block n (Some b))) q b goal) × (length g.keys < left)) (sym e) (r.rest, r.less))

pub step_less : {t u : List InstNode} {at o : Option Inst} {b : Block} {goal : List InstNode} → (g : Going t at b goal) (h : Going u o b goal) → length h.keys < length g.keys → length (keys_from inst_place inst_links u o) < length (keys_from inst_place inst_links t at)
step_less {t} {u} {at} {o} g h less = subst (λ n. n < length (keys_from inst_place inst_links t at)) (sym (count h)) (subst (λ n. length h.keys < n) (sym (count g)) less)

-- the link read behind the write
pub read_on : (t u : List InstNode) (i j : ℕ) (b : Block) (d : InstNode) → u ≡ alter t j (λ n. with_block n (Some b)) → i ≡ j → j < length t → (get_or u i d).next ≡ read_at inst_links.next_of t j
read_on t u i j b d w e h =
    let f : InstNode → InstNode = λ n. with_block n (Some b) in
    let size : length u ≡ length t = ap length w ∙ length-alter f t j in
    node_reads inst_links.next_of u j i d e (subst (λ n. j < n) (sym size) h) ∙ ap (λ q. read_at inst_links.next_of q j) w ∙ read_kept f inst_links.next_of (λ n. refl) t j j

pub going_start : (t : List InstNode) (first : Option Inst) (b : Block) → SomeRun t first → Going t first b (named t (keys_from inst_place inst_links t first) b)
going_start t first b some =
    let c = some.run.chain in
    let keys : keys_from inst_place inst_links t first ≡ some.insts = chain_keys inst_apart c in
    record {
      before = None;
      keys = some.insts;
      here = c.first;
      linked = c.linked;
      within = c.within;
      todo = ap (λ ks. named t ks b) (sym keys);
      few = subst (λ ks. length ks ≤ length t) keys (walk_few (λ k. read_at inst_links.next_of t (inst_place k)) (length t) first);
    }

-- ---- what naming leaves

pub length_named : (t : List InstNode) (ks : List Inst) (b : Block) → length (named t ks b) ≡ length t
length_named t [] b = refl
length_named t (k ∷ ks) b = length_named (alter t k.0 (λ n. with_block n (Some b))) ks b ∙ length-alter (λ n. with_block n (Some b)) t k.0

pub named_away : {A : Type 0} (link : InstNode → Option A) (t : List InstNode) (ks : List Inst) (b : Block) (i : Inst) → Misses (Some i) ks → read_at link (named t ks b) i.0 ≡ read_at link t i.0
named_away link t [] b i m = refl
named_away link t (k ∷ ks) b i m = named_away link (alter t k.0 (λ n. with_block n (Some b))) ks b i m.1 ∙ read_other (λ n. with_block n (Some b)) link t k.0 i.0 (λ e. m.0 (ap Some (sym (inst_apart k i e))))

pub named_keeps : {A : Type 0} (link : InstNode → Option A) → ((n : InstNode) (o : Option Block) → link (with_block n o) ≡ link n) → (t : List InstNode) (ks : List Inst) (b : Block) (j : ℕ) → read_at link (named t ks b) j ≡ read_at link t j
named_keeps link h t [] b j = refl
named_keeps link h t (k ∷ ks) b j = named_keeps link h (alter t k.0 (λ n. with_block n (Some b))) ks b j ∙ read_kept (λ n. with_block n (Some b)) link (λ n. h n (Some b)) t k.0 j

pub named_chain : (t : List InstNode) (is : List Inst) (b : Block) (e : Ends Inst) (ks : List Inst) → Chain inst_place inst_links t e ks → Chain inst_place inst_links (named t is b) e ks
named_chain t [] b e ks c = c
named_chain t (i ∷ is) b e ks c = named_chain (alter t i.0 (λ n. with_block n (Some b))) is b e ks (unlinked (λ n. with_block n (Some b)) (λ n. refl) (λ n. refl) t i.0 e ks c)

-- each of them names the block, and keeps its number
pub named_held : (t : List InstNode) (b a : Block) (ss : List Slot) → Distinct (insts_in ss) → AllWithin inst_place (length t) (insts_in ss) → Held t a ss → Held (named t (insts_in ss) b) b ss
named_held t b a [] d w h = tt
named_held t b a (s ∷ ss) d w h =
    let f : InstNode → InstNode = λ n. with_block n (Some b) in
    let at : ℕ = s.inst.0 in
    let u : List InstNode = alter t at f in
    let rest : Held u a ss = held_kept t u a s.inst (λ i ne. read_other f block_named t at i.0 (λ e. ne (ap Some (inst_apart s.inst i e)))) (λ i _. read_kept f number_of (λ n. refl) t at i.0) ss d.0 h.2 in (
      named_away block_named u (insts_in ss) b s.inst d.0 ∙ read_here f block_named (Some b) (λ n. refl) t at w.0,
      named_keeps number_of (λ n o. refl) u (insts_in ss) b at ∙ read_kept f number_of (λ n. refl) t at at ∙ h.1,
      named_held u b a ss d.1 (subst (λ n. AllWithin inst_place n (insts_in ss)) (sym (length-alter f t at)) w.1) rest,
    )
