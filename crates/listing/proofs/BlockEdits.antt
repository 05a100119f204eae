-- Edits of the block chain. Assumes nothing.
use Rattle.std.proofs.Common.{◌≡◌, ℕ, ◌<◌, List, [], ◌∷◌, ◌++◌, length, Some, None, Option, sym, refl, ap, ◌∙◌, subst, inl, inr, append-nil}
use Rattle.std.proofs.lemmas.Option.{none-some, same_Some}
use Rattle.std.proofs.lemmas.List.{map-append}
use lib.Seq.{append_snoc}
use Rattle.std.proofs.lemmas.Bool.{cases_eq}
use Rattle.chain.proofs.Chained.{split_right}
use Rattle.chain.proofs.Keys.{distinct_right, head_not, head_within, last_or-append, last_not, last_within, misses_both, misses_left, misses_right, within_left, within_right}
use Rattle.chain.proofs.Members.{inserted_away, inserted_keeps, inserted_map, length_inserted, length_removed, removed_away, removed_keeps, removed_map}
use Rattle.chain.proofs.Walks.{last_in}
use Rattle.chain.specs.Chain.{Chain, Inserts, Misses, Removes, head_or, last_or}
use Rattle.chain.specs.Links.{Links}
use Rattle.chain.specs.Table.{Within, inserted_table, read_at, removed_table}
use Rattle.chain.specs.declared.Ends.{Ends}
use Rattle.entities.specs.Nodes.{block_links, block_place, first_of, last_of, marks}
use Rattle.entities.specs.Program.{Line, append_block, blocks_of, empty_line, insert_block, insert_block_after, instead_where, insts_in, insts_of, is_block, remove_block}
use Rattle.entities.specs.declared.Block.{Block}
use Rattle.entities.specs.declared.Inst.{Inst}
use Rattle.entities.specs.declared.nodes.BlockNode.{BlockNode}
use Rattle.entities.specs.declared.nodes.Tables.{Tables}
use Rattle.listing.proofs.Found.{block_apart, block_instead, insts_in-append, locate}
use Rattle.listing.proofs.Frames.{blocks_edited, filled_both, filled_left, filled_right}
use Rattle.listing.proofs.Unique.{program_is, sound_from}
use Rattle.listing.specs.Edits.{BlockIn, BlockOut, Edited, after_blocks}
use Rattle.listing.specs.Lawful.{BareBlock, Filled, Represents, Wired, listed}

-- ---- where a key of a chain stands, its links lead into the table

module _ {N K : Type 0} (place : K → ℕ) (links : Links N K) (t : List N) (e : Ends K) (xs : List K) (k : K) (ys : List K) (c : Chain place links t e (xs ++ (k ∷ ys))) where
  pub prev_is : read_at links.prev_of t (place k) ≡ last_or None xs
  prev_is = (split_right (λ q. read_at links.prev_of t (place q)) (λ q. read_at links.next_of t (place q)) None xs (k ∷ ys) None c.linked).0

  pub next_is : read_at links.next_of t (place k) ≡ head_or ys None
  next_is = (split_right (λ q. read_at links.prev_of t (place q)) (λ q. read_at links.next_of t (place q)) None xs (k ∷ ys) None c.linked).1

  pub here_within : place k < length t
  here_within = (within_right place (length t) xs (k ∷ ys) c.within).0

  pub prev_within : Within place (length t) (read_at links.prev_of t (place k))
  prev_within = subst (λ o. Within place (length t) o) (sym prev_is) (last_within place (length t) xs (within_left place (length t) xs (k ∷ ys) c.within))

  pub next_within : Within place (length t) (read_at links.next_of t (place k))
  next_within = subst (λ o. Within place (length t) o) (sym next_is) (head_within place (length t) ys (within_right place (length t) xs (k ∷ ys) c.within).1)

  pub none_behind : Misses (Some k) ys
  none_behind = (distinct_right xs (k ∷ ys) c.distinct).0

abbrev pub pair : Option Inst → Option Inst → Ends Inst
pair a b = record { first = a; last = b }

-- ---- from a list to the contract

pub finish : (t u : Tables) (q : List Line) → length u.blocks ≡ 256 → length u.insts ≡ 1024 → marks u.blocks ≡ marks t.blocks → Represents u q → Edited t u q
finish t u q nb ni cold r = record { wired = record { blocks_size = nb; insts_size = ni; sound = sound_from r }; list = program_is r; cold = cold }

-- the line of an inserted block
pub record At (t : Tables) (b : Block) : Type 0 where
  pub ahead : List Line
  pub it : Line
  pub behind : List Line
  pub is : listed t ≡ ahead ++ (it ∷ behind)
  pub here : it.block ≡ b
  pub clear : Misses (Some b) (blocks_of ahead)
  pub rep : Represents t (ahead ++ (it ∷ behind))
  pub chain : Chain block_place block_links t.blocks t.ends (blocks_of ahead ++ (b ∷ blocks_of behind))

pub block_at : (t : Tables) (b : Block) → Wired t → BlockIn b t → At t b
block_at t b law h =
    elim (locate block_place block_apart (λ l. l.block) b (listed t)) [
      | inl m ↦ absurd (h m)
      | inr f ↦
          let r : Represents t (f.ahead ++ (f.it ∷ f.behind)) = subst (λ q. Represents t q) f.is law.sound in
          record {
            ahead = f.ahead;
            it = f.it;
            behind = f.behind;
            is = f.is;
            here = f.here;
            clear = f.clear;
            rep = r;
            chain = subst (λ ks. Chain block_place block_links t.blocks t.ends ks) (map-append (λ l. l.block) f.ahead (f.it ∷ f.behind) ∙ ap (λ x. blocks_of f.ahead ++ (x ∷ blocks_of f.behind)) f.here) r.blocks;
          }
    ]

-- in place of its line, what f makes of it
pub found_instead : (t : Tables) (b : Block) (a : At t b) (f : Line → List Line) → instead_where (is_block b) f (listed t) ≡ a.ahead ++ (f a.it ++ a.behind)
found_instead t b a f =
    ap (instead_where (is_block b) f) a.is ∙ block_instead b f a.ahead a.it a.behind a.clear a.here (none_behind block_place block_links t.blocks t.ends (blocks_of a.ahead) b (blocks_of a.behind) a.chain)

-- ---- a block put between xs and ys, either of which may be empty

module _ (t u : Tables) (k : Block) (xs ys : List Line) (p n : Option Block) (law : Wired t) (r : Represents t (xs ++ ys)) (fresh : Misses (Some k) (blocks_of (xs ++ ys))) (ep : p ≡ last_or None (blocks_of xs)) (en : n ≡ head_or (blocks_of ys) None) (blocks : u.blocks ≡ inserted_table block_place block_links t.blocks p n k) (insts : u.insts ≡ t.insts) (chain : Chain block_place block_links u.blocks u.ends (blocks_of xs ++ (k ∷ blocks_of ys))) where
  pub put_block : Edited t u (xs ++ (empty_line k ∷ ys))
  put_block =
      let v : Tables = t in
      let w : Tables = u in
      let bx : List Block = blocks_of xs in
      let by : List Block = blocks_of ys in
      let q : List Line = xs ++ (empty_line k ∷ ys) in
      let names : blocks_of q ≡ bx ++ (k ∷ by) = map-append (λ l. l.block) xs (empty_line k ∷ ys) in
      let bare = r.bare_blocks k fresh in
      let keep : (link : BlockNode → Option Inst) → ((m : BlockNode) (l : Option Block) → link (block_links.with_prev m l) ≡ link m) → ((m : BlockNode) (l : Option Block) → link (block_links.with_next m l) ≡ link m) → (b : Block) → read_at link u.blocks b.0 ≡ read_at link t.blocks b.0 = λ link f g b. ap (λ bs. read_at link bs b.0) blocks ∙ inserted_keeps block_place block_links link f g t.blocks p n k b.0 in
      let first : (b : Block) → read_at first_of u.blocks b.0 ≡ read_at first_of t.blocks b.0 = keep first_of (λ m l. refl) (λ m l. refl) in
      let last : (b : Block) → read_at last_of u.blocks b.0 ≡ read_at last_of t.blocks b.0 = keep last_of (λ m l. refl) (λ m l. refl) in
      let none : Filled v (empty_line k) = record { chain = record { first = bare.first; last = bare.last; linked = tt; distinct = tt; within = tt }; held = tt } in
      let rep : Represents w q = blocks_edited v w (xs ++ ys) q r insts (subst (λ ks. Chain block_place block_links u.blocks u.ends ks) (sym names) chain)
      (λ b. ap (λ o. pair o (read_at last_of u.blocks b.0)) (first b) ∙ ap (λ o. pair (read_at first_of t.blocks b.0) o) (last b))
      (filled_both v xs (empty_line k ∷ ys) (filled_left v xs ys r.lines) (none, filled_right v xs ys r.lines))
      (insts_in-append xs (empty_line k ∷ ys) ∙ sym (insts_in-append xs ys))
      (λ b m.
      let m0 = subst (λ ks. Misses (Some b) ks) names m in
      let mx = misses_left (Some b) bx (k ∷ by) m0 in
      let mk = misses_right (Some b) bx (k ∷ by) m0 in
      let old = r.bare_blocks b (subst (λ ks. Misses (Some b) ks) (sym (map-append (λ l. l.block) xs ys)) (misses_both (Some b) bx by mx mk.1)) in
      let hp : p ≡ Some b → ⊥ = λ e. last_not b None bx (none-some b) mx (sym ep ∙ e) in
      let hn : n ≡ Some b → ⊥ = λ e. head_not b by mk.1 (sym en ∙ e) in
      let hk : Some k ≡ Some b → ⊥ = λ e. mk.0 (sym e) in
      record {
        prev = ap (λ bs. read_at block_links.prev_of bs b.0) blocks ∙ inserted_away block_apart block_links block_links.prev_of t.blocks p n k b hp hn hk ∙ old.prev;
        next = ap (λ bs. read_at block_links.next_of bs b.0) blocks ∙ inserted_away block_apart block_links block_links.next_of t.blocks p n k b hp hn hk ∙ old.next;
        first = first b ∙ old.first;
        last = last b ∙ old.last;
      }) in
      finish t u q (ap length blocks ∙ length_inserted block_place block_links t.blocks p n k ∙ law.blocks_size) (ap length insts ∙ law.insts_size) (ap marks blocks ∙ inserted_map block_place block_links (λ m. m.cold) (λ m l. refl) (λ m l. refl) t.blocks p n k) rep

-- ---- an empty block taken out from between xs and ys

module _ (t u : Tables) (k : Block) (xs : List Line) (l : Line) (ys : List Line) (p n : Option Block) (law : Wired t) (r : Represents t (xs ++ (l ∷ ys))) (here : l.block ≡ k) (empty : l.slots ≡ []) (ep : p ≡ last_or None (blocks_of xs)) (en : n ≡ head_or (blocks_of ys) None) (blocks : u.blocks ≡ removed_table block_place block_links t.blocks p n k) (insts : u.insts ≡ t.insts) (chain : Chain block_place block_links u.blocks u.ends (blocks_of xs ++ blocks_of ys)) (no_prev : read_at block_links.prev_of u.blocks k.0 ≡ None) (no_next : read_at block_links.next_of u.blocks k.0 ≡ None) where
  take_block : Edited t u (xs ++ ys)
  take_block =
      let bx : List Block = blocks_of xs in
      let by : List Block = blocks_of ys in
      let q : List Line = xs ++ ys in
      let names : blocks_of q ≡ bx ++ by = map-append (λ l. l.block) xs ys in
      let keep : (link : BlockNode → Option Inst) → ((m : BlockNode) (l : Option Block) → link (block_links.with_prev m l) ≡ link m) → ((m : BlockNode) (l : Option Block) → link (block_links.with_next m l) ≡ link m) → (b : Block) → read_at link u.blocks b.0 ≡ read_at link t.blocks b.0 = λ link f g b. ap (λ bs. read_at link bs b.0) blocks ∙ removed_keeps block_place block_links link f g t.blocks p n k b.0 in
      let first : (b : Block) → read_at first_of u.blocks b.0 ≡ read_at first_of t.blocks b.0 = keep first_of (λ m l. refl) (λ m l. refl) in
      let last : (b : Block) → read_at last_of u.blocks b.0 ≡ read_at last_of t.blocks b.0 = keep last_of (λ m l. refl) (λ m l. refl) in
      let fl : Filled t l = (filled_right t xs (l ∷ ys) r.lines).0 in
      let no_insts : insts_in l.slots ≡ [] = ap insts_in empty in
      let rep : Represents u q = blocks_edited t u (xs ++ (l ∷ ys)) q r insts (subst (λ ks. Chain block_place block_links u.blocks u.ends ks) (sym names) chain)
      (λ b. ap (λ o. pair o (read_at last_of u.blocks b.0)) (first b) ∙ ap (λ o. pair (read_at first_of t.blocks b.0) o) (last b))
      (filled_both t xs ys (filled_left t xs (l ∷ ys) r.lines) (filled_right t xs (l ∷ ys) r.lines).1)
      (insts_in-append xs ys ∙ ap (λ is. insts_of xs ++ (is ++ insts_of ys)) (sym no_insts) ∙ sym (insts_in-append xs (l ∷ ys)))
      (λ b m.
      let m0 = subst (λ ks. Misses (Some b) ks) names m in
      let mx = misses_left (Some b) bx by m0 in
      let my = misses_right (Some b) bx by m0 in
      elim (cases_eq b.0 k.0) [
        | inl e ↦
            subst (λ x. BareBlock u.blocks x) (sym (block_apart b k e)) (record {
              prev = no_prev;
              next = no_next;
              first = first k ∙ ap (λ (x : Block). read_at first_of t.blocks x.0) (sym here) ∙ fl.chain.first ∙ ap (λ is. head_or is None) no_insts;
              last = last k ∙ ap (λ (x : Block). read_at last_of t.blocks x.0) (sym here) ∙ fl.chain.last ∙ ap (λ is. last_or None is) no_insts;
            })
        | inr ne ↦
            let hk : Some k ≡ Some b → ⊥ = λ e. ne (ap block_place (sym (same_Some k b e))) in
            let old = r.bare_blocks b (subst (λ ks. Misses (Some b) ks) (sym (map-append (λ l. l.block) xs (l ∷ ys))) (misses_both (Some b) bx (l.block ∷ by) mx (λ e. hk (sym (e ∙ ap Some here)), my))) in
            let hp : p ≡ Some b → ⊥ = λ e. last_not b None bx (none-some b) mx (sym ep ∙ e) in
            let hn : n ≡ Some b → ⊥ = λ e. head_not b by my (sym en ∙ e) in
            record {
              prev = ap (λ bs. read_at block_links.prev_of bs b.0) blocks ∙ removed_away block_apart block_links block_links.prev_of t.blocks p n k b hp hn hk ∙ old.prev;
              next = ap (λ bs. read_at block_links.next_of bs b.0) blocks ∙ removed_away block_apart block_links block_links.next_of t.blocks p n k b hp hn hk ∙ old.next;
              first = first b ∙ old.first;
              last = last b ∙ old.last;
            }
      ]) in
      finish t u q (ap length blocks ∙ length_removed block_place block_links t.blocks p n k ∙ law.blocks_size) (ap length insts ∙ law.insts_size) (ap marks blocks ∙ removed_map block_place block_links (λ m. m.cold) (λ m l. refl) (λ m l. refl) t.blocks p n k) rep

-- ---- links that lead into the table

-- an inserted block is in the table, and its links lead into it
pub record InTable (t : Tables) (b : Block) : Type 0 where
  pub here : b.0 < length t.blocks
  pub prev : Within block_place (length t.blocks) (read_at block_links.prev_of t.blocks b.0)
  pub next : Within block_place (length t.blocks) (read_at block_links.next_of t.blocks b.0)

pub in_table : (t : Tables) (b : Block) → Wired t → BlockIn b t → InTable t b
in_table t b law h =
    let a = block_at t b law h in
    let bx = blocks_of a.ahead in
    let by = blocks_of a.behind in
    record {
      here = here_within block_place block_links t.blocks t.ends bx b by a.chain;
      prev = prev_within block_place block_links t.blocks t.ends bx b by a.chain;
      next = next_within block_place block_links t.blocks t.ends bx b by a.chain;
    }

pub fits : (t : Tables) (b : Block) → Wired t → b.0 < 256 → b.0 < length t.blocks
fits t b law h = subst (λ n. b.0 < n) (sym law.blocks_size) h

pub last_fits : (t : Tables) → Wired t → Within block_place (length t.blocks) t.ends.last
last_fits t law = last_in law.sound.blocks

-- ---- the edits, at the line that is found; `old` are the ends from which the chain was edited

-- an empty block between the lines xs and ys
put_between : (t : Tables) (k : Block) (xs ys : List Line) (p n : Option Block) (old : Ends Block) (bs : List BlockNode) (e : Ends Block) → Wired t → BlockOut k t → listed t ≡ xs ++ ys → old ≡ t.ends → p ≡ last_or None (blocks_of xs) → n ≡ head_or (blocks_of ys) None → bs ≡ inserted_table block_place block_links t.blocks p n k → Inserts block_place block_links t.blocks old k p n bs e → Edited t (after_blocks t bs e) (xs ++ (empty_line k ∷ ys))
put_between t k xs ys p n old bs e law fresh is eo ep en table chains =
    let r : Represents t (xs ++ ys) = subst (λ q. Represents t q) is law.sound in
    let m : Misses (Some k) (blocks_of (xs ++ ys)) = subst (λ q. Misses (Some k) (blocks_of q)) is fresh in
    let names : blocks_of (xs ++ ys) ≡ blocks_of xs ++ blocks_of ys = map-append (λ l. l.block) xs ys in
    let c : Chain block_place block_links t.blocks old (blocks_of xs ++ blocks_of ys) = subst (λ ks. Chain block_place block_links t.blocks old ks) names (subst (λ o. Chain block_place block_links t.blocks o (blocks_of (xs ++ ys))) (sym eo) r.blocks) in
    put_block t (after_blocks t bs e) k xs ys p n law r m ep en table refl (chains (blocks_of xs) (blocks_of ys) ep en c (subst (λ ks. Misses (Some k) ks) names m)).chain

pub appended : (t : Tables) (k : Block) (old : Ends Block) (bs : List BlockNode) (e : Ends Block) → Wired t → BlockOut k t → old ≡ t.ends → bs ≡ inserted_table block_place block_links t.blocks old.last None k → Inserts block_place block_links t.blocks old k old.last None bs e → Edited t (after_blocks t bs e) (append_block k (listed t))
appended t k old bs e law fresh eo table chains =
    put_between t k (listed t) [] old.last None old bs e law fresh (sym (append-nil (listed t))) eo (ap (λ (o : Ends Block). o.last) eo ∙ law.sound.blocks.last) refl table chains

module _ (t : Tables) (k b : Block) (old : Ends Block) (bs : List BlockNode) (e : Ends Block) (law : Wired t) (fresh : BlockOut k t) (stands : BlockIn b t) (eo : old ≡ t.ends) where
  -- b's line
  found : At t b
  found = block_at t b law stands

  instead_of_it : (f : Line → List Line) → instead_where (is_block b) f (listed t) ≡ found.ahead ++ (f found.it ++ found.behind)
  instead_of_it f = found_instead t b found f

  pub inserted_ahead : bs ≡ inserted_table block_place block_links t.blocks (read_at block_links.prev_of t.blocks b.0) (Some b) k → Inserts block_place block_links t.blocks old k (read_at block_links.prev_of t.blocks b.0) (Some b) bs e → Edited t (after_blocks t bs e) (insert_block k b (listed t))
  inserted_ahead table chains =
      subst (λ q. Edited t (after_blocks t bs e) q) (sym (instead_of_it (λ l. empty_line k ∷ l ∷ [])))
      (put_between t k found.ahead (found.it ∷ found.behind) (read_at block_links.prev_of t.blocks b.0) (Some b) old bs e law fresh found.is eo
      (prev_is block_place block_links t.blocks t.ends (blocks_of found.ahead) b (blocks_of found.behind) found.chain) (ap Some (sym found.here)) table chains)

  pub inserted_behind : bs ≡ inserted_table block_place block_links t.blocks (Some b) (read_at block_links.next_of t.blocks b.0) k → Inserts block_place block_links t.blocks old k (Some b) (read_at block_links.next_of t.blocks b.0) bs e → Edited t (after_blocks t bs e) (insert_block_after k b (listed t))
  inserted_behind table chains =
      let xs : List Line = found.ahead ++ (found.it ∷ []) in
      let bx : List Block = blocks_of found.ahead in
      let upto : blocks_of xs ≡ bx ++ (b ∷ []) = map-append (λ l. l.block) found.ahead (found.it ∷ []) ∙ ap (λ x. bx ++ (x ∷ [])) found.here in
      subst (λ q. Edited t (after_blocks t bs e) q) (append_snoc found.ahead found.it (empty_line k ∷ found.behind) ∙ sym (instead_of_it (λ l. l ∷ empty_line k ∷ [])))
      (put_between t k xs found.behind (Some b) (read_at block_links.next_of t.blocks b.0) old bs e law fresh (found.is ∙ sym (append_snoc found.ahead found.it found.behind)) eo
      (sym (ap (last_or None) upto ∙ last_or-append None bx (b ∷ []))) (next_is block_place block_links t.blocks t.ends bx b (blocks_of found.behind) found.chain) table chains)

pub removed : (t : Tables) (k : Block) (old : Ends Block) (bs : List BlockNode) (e : Ends Block) → Wired t → (a : At t k) → a.it.slots ≡ [] → old ≡ t.ends → bs ≡ removed_table block_place block_links t.blocks (read_at block_links.prev_of t.blocks k.0) (read_at block_links.next_of t.blocks k.0) k → Removes block_place block_links t.blocks old k (read_at block_links.prev_of t.blocks k.0) (read_at block_links.next_of t.blocks k.0) bs e → Edited t (after_blocks t bs e) (remove_block k (listed t))
removed t k old bs e law a empty eo table chains =
    let bx : List Block = blocks_of a.ahead in
    let by : List Block = blocks_of a.behind in
    let ep = prev_is block_place block_links t.blocks t.ends bx k by a.chain in
    let en = next_is block_place block_links t.blocks t.ends bx k by a.chain in
    let made = chains bx by ep en (subst (λ o. Chain block_place block_links t.blocks o (bx ++ (k ∷ by))) (sym eo) a.chain) in
    subst (λ q. Edited t (after_blocks t bs e) q) (sym (found_instead t k a (λ l. [])))
    (take_block t (after_blocks t bs e) k a.ahead a.it a.behind (read_at block_links.prev_of t.blocks k.0) (read_at block_links.next_of t.blocks k.0) law a.rep a.here empty ep en table refl made.0.chain made.1 made.2)
