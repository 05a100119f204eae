-- What each edit does to the walk through the whole program, and that the numbers of each block rise and fit. Assumes nothing.
use Rattle.std.proofs.Common.{◌≡◌, ℕ, true, List, [], ◌∷◌, ◌++◌, map, Some, sym, refl, ap, ◌∙◌, subst, inl, inr, append_assoc, append-nil, arith}
use Rattle.std.proofs.lemmas.List.{map-append}
use lib.Seq.{append_snoc}
use Rattle.chain.proofs.Keys.{misses_both, misses_left, misses_right}
use Rattle.chain.specs.Chain.{Misses}
use Rattle.entities.specs.Laws.{PutAhead, PutBehind, PutLast, TakenOut, walk, walk_along}
use Rattle.entities.specs.Lists.{ahead_of, from_on}
use Rattle.entities.specs.Nodes.{block_links, block_place, inst_place}
use Rattle.entities.specs.Numbering.{appended_inst, inserted_before, numbered, numbered_before}
use Rattle.entities.specs.Program.{append_block, in_block, Line, Slot, blocks_of, chosen, empty_line, has_inst, insert_block, insert_block_after, insts_in, insts_of, instead_where, is_inst, remove_block, remove_inst, split_block, with_lines, with_slots}
use Rattle.entities.specs.Reading.{of_block, slots_of, walk_of}
use Rattle.entities.specs.declared.Block.{Block}
use Rattle.entities.specs.declared.Inst.{Inst}
use Rattle.entities.specs.declared.nodes.Tables.{Tables}
use Rattle.entities.specs.declared.progpoint.ProgramPoint.{ProgramPoint}
use Rattle.entities.specs.declared.progpoint.ProgramPoint.TheVariants.{Inst as inst_point, Block as block_point}
use Rattle.listing.proofs.BlockEdits.{At, none_behind}
use Rattle.listing.proofs.Found.{block_apart, block_instead, in_block_at, inst_apart, instead_where_at, instead_where_none, insts_in-append, locate, no_line_with, other_insts, this_inst}
use Rattle.listing.proofs.InstEdits.{InstAt, insts_cut, other_ahead}
use Rattle.listing.proofs.Numbered.{numbered_insts}
use Rattle.listing.proofs.Props.{sound_out}
use Rattle.listing.proofs.Questions.{of_block_at, of_block_none}
use Rattle.listing.proofs.Rises.{rising_at}
use Rattle.listing.proofs.Standing.{its_line_instead, slots_ahead, slots_from, slots_without}
use Rattle.listing.proofs.Stretches.{holds_in}
use Rattle.listing.specs.Edits.{BlockOut, InstOut}
use Rattle.listing.specs.Lawful.{AllWellNumbered, Sound, WellNumbered, listed, program_of}

abbrev points : List Inst → List ProgramPoint
points is = map inst_point is

walk_append : (xs ys : List Line) → walk (xs ++ ys) ≡ walk xs ++ walk ys
walk_append [] ys = refl
walk_append (x ∷ xs) ys = ap (λ r. walk_along x ++ r) (walk_append xs ys) ∙ sym (append_assoc (walk_along x) (walk xs) (walk ys))

-- the walk, from an instruction that stands in a line on
walk_at : (xs : List Line) (l : Line) (ys : List Line) (ia : List Inst) (k : Inst) (ib : List Inst) → insts_in l.slots ≡ ia ++ (k ∷ ib) → walk (xs ++ (l ∷ ys)) ≡ (walk xs ++ (block_point l.block ∷ points ia)) ++ (inst_point k ∷ (points ib ++ walk ys))
walk_at xs l ys ia k ib e =
    walk_append xs (l ∷ ys)
    ∙ ap (λ is. walk xs ++ ((block_point l.block ∷ points is) ++ walk ys)) e
    ∙ ap (λ r. walk xs ++ ((block_point l.block ∷ r) ++ walk ys)) (map-append inst_point ia (k ∷ ib))
    ∙ ap (λ r. walk xs ++ r) (append_assoc (block_point l.block ∷ points ia) (points (k ∷ ib)) (walk ys))
    ∙ sym (append_assoc (walk xs) (block_point l.block ∷ points ia) (points (k ∷ ib) ++ walk ys))

-- ---- one taken out of slots in which it stands once

without : (i : Inst) (ss : List Slot) (ia ib : List Inst) → insts_in ss ≡ ia ++ (i ∷ ib) → Misses (Some i) ia → Misses (Some i) ib → insts_in (instead_where (is_inst i) (λ s. []) ss) ≡ ia ++ ib
without i [] [] ib e ma mb = absurd (let z : ◌≡◌ {A = ℕ} 0 1 = cc in omega arith)
without i [] (a ∷ ia) ib e ma mb = absurd (let z : ◌≡◌ {A = ℕ} 0 1 = cc in omega arith)
without i (s ∷ ss) [] ib e ma mb =
    let here : s.inst ≡ i = cc in
    let rest : insts_in ss ≡ ib = cc in
    ap (λ c. insts_in (chosen c [] s (instead_where (is_inst i) (λ x. []) ss))) (this_inst i s here)
    ∙ ap insts_in (instead_where_none (is_inst i) (λ x. []) ss (other_insts i ss (subst (λ ks. Misses (Some i) ks) (sym rest) mb)))
    ∙ rest
without i (s ∷ ss) (a ∷ ia) ib e ma mb =
    let here : s.inst ≡ a = cc in
    let rest : insts_in ss ≡ ia ++ (i ∷ ib) = cc in
    let other : Misses (Some i) (insts_in (s ∷ [])) = (λ q. ma.0 (q ∙ ap Some here), tt) in
    ap (λ c. insts_in (chosen c [] s (instead_where (is_inst i) (λ x. []) ss))) (other_insts i (s ∷ []) other).0
    ∙ ap (λ r. s.inst ∷ r) (without i ss ia ib rest ma.1 mb)
    ∙ ap (λ x. x ∷ (ia ++ ib)) here

-- a line with other slots of the same instructions
same_walk : (xs : List Line) (l : Line) (ys : List Line) (ss : List Slot) → insts_in ss ≡ insts_in l.slots → walk (xs ++ (with_slots l ss ∷ ys)) ≡ walk (xs ++ (l ∷ ys))
same_walk xs l ys ss e =
    walk_append xs (with_slots l ss ∷ ys) ∙ ap (λ is. walk xs ++ ((block_point l.block ∷ points is) ++ walk ys)) e ∙ sym (walk_append xs (l ∷ ys))

-- i was put into a line, whose slots may have got new numbers: taken out again, the walk is as it was
put_back : (t : Tables) (i : Inst) (xs : List Line) (l : Line) (ys : List Line) (ia ib : List Inst) (new : List Slot) → InstOut i t → listed t ≡ xs ++ (l ∷ ys) → insts_in l.slots ≡ ia ++ ib → insts_in new ≡ ia ++ (i ∷ ib) → walk (remove_inst i (xs ++ (with_slots l new ∷ ys))) ≡ walk (listed t)
put_back t i xs l ys ia ib new fresh is was put =
    let all = subst (λ ks. Misses (Some i) ks) (ap insts_of is ∙ insts_in-append xs (l ∷ ys)) fresh in
    let mx = misses_left (Some i) (insts_of xs) (insts_in l.slots ++ insts_of ys) all in
    let rest = misses_right (Some i) (insts_of xs) (insts_in l.slots ++ insts_of ys) all in
    let my = misses_right (Some i) (insts_in l.slots) (insts_of ys) rest in
    let mine = subst (λ ks. Misses (Some i) ks) was (misses_left (Some i) (insts_in l.slots) (insts_of ys) rest) in
    let left = instead_where (is_inst i) (λ s. []) new in
    let stands : has_inst i (with_slots l new) ≡ true = holds_in inst_place inst_apart i (insts_in new) (λ m. (misses_right (Some i) ia (i ∷ ib) (subst (λ ks. Misses (Some i) ks) put m)).0 refl) in
    let f : Line → List Line = λ m. with_slots m (instead_where (is_inst i) (λ s. []) m.slots) ∷ [] in
    let insts : insts_in left ≡ insts_in l.slots = without i new ia ib put (misses_left (Some i) ia ib mine) (misses_right (Some i) ia ib mine) ∙ sym was in
    ap walk (instead_where_at (has_inst i) f xs (with_slots l new) ys (no_line_with i xs mx) stands (no_line_with i ys my))
    ∙ same_walk xs l ys left insts
    ∙ ap walk (sym is)

-- ---- an instruction put in directly ahead of another

module _ (t : Tables) (before : Inst) (a : InstAt t before) (i : Inst) where
  abbrev after : List Line
  after = (inserted_before i before (program_of t)).lines

  abbrev new : Line
  new = with_slots a.it (numbered_before i before a.it.slots).slots

  after_is : after ≡ a.ahead ++ (new ∷ a.behind)
  after_is = its_line_instead t before a (λ l. with_slots l (numbered_before i before l.slots).slots ∷ [])

  old_insts : insts_in a.it.slots ≡ insts_in a.sa ++ (before ∷ insts_in a.sb)
  old_insts = ap insts_in a.cut ∙ insts_cut a.sa (a.slot ∷ a.sb) ∙ ap (λ x. insts_in a.sa ++ (x ∷ insts_in a.sb)) a.here

  new_insts : insts_in new.slots ≡ insts_in a.sa ++ (i ∷ before ∷ insts_in a.sb)
  new_insts =
      numbered_insts (ahead_of (is_inst before) a.it.slots) i (from_on (is_inst before) a.it.slots)
      ∙ ap (λ ss. insts_in ss ++ (i ∷ insts_in (from_on (is_inst before) a.it.slots))) (slots_ahead t before a)
      ∙ ap (λ ss. insts_in a.sa ++ (i ∷ insts_in ss)) (slots_from t before a)
      ∙ ap (λ x. insts_in a.sa ++ (i ∷ x ∷ insts_in a.sb)) a.here

  pub inst_put_ahead : PutAhead (inst_point i) (inst_point before) (program_of t) (inserted_before i before (program_of t))
  inst_put_ahead = record {
    ahead = walk a.ahead ++ (block_point a.it.block ∷ points (insts_in a.sa));
    behind = points (insts_in a.sb) ++ walk a.behind;
    was = ap walk a.is ∙ walk_at a.ahead a.it a.behind (insts_in a.sa) before (insts_in a.sb) old_insts;
    is = ap walk after_is ∙ walk_at a.ahead new a.behind (insts_in a.sa) i (before ∷ insts_in a.sb) new_insts;
  }

  pub inst_ahead_back : InstOut i t → walk (remove_inst i after) ≡ walk (listed t)
  inst_ahead_back fresh =
      ap (λ ls. walk (remove_inst i ls)) after_is
      ∙ put_back t i a.ahead a.it a.behind (insts_in a.sa) (before ∷ insts_in a.sb) new.slots fresh a.is old_insts new_insts

-- ---- an instruction taken out

pub inst_taken : (t : Tables) (i : Inst) (a : InstAt t i) → TakenOut (inst_point i ∷ []) (program_of t) (with_lines (program_of t) (remove_inst i (listed t)))
inst_taken t i a =
    let left : Line = with_slots a.it (a.sa ++ a.sb) in
    let list : remove_inst i (listed t) ≡ a.ahead ++ (left ∷ a.behind) = its_line_instead t i a (λ l. with_slots l (instead_where (is_inst i) (λ s. []) l.slots) ∷ []) ∙ ap (λ ss. a.ahead ++ (with_slots a.it ss ∷ a.behind)) (slots_without t i a) in
    let old : insts_in a.it.slots ≡ insts_in a.sa ++ (i ∷ insts_in a.sb) = ap insts_in a.cut ∙ insts_cut a.sa (a.slot ∷ a.sb) ∙ ap (λ x. insts_in a.sa ++ (x ∷ insts_in a.sb)) a.here in
    record {
      ahead = walk a.ahead ++ (block_point a.it.block ∷ points (insts_in a.sa));
      behind = points (insts_in a.sb) ++ walk a.behind;
      was = ap walk a.is ∙ walk_at a.ahead a.it a.behind (insts_in a.sa) i (insts_in a.sb) old;
      is =
          ap walk list
          ∙ walk_append a.ahead (left ∷ a.behind)
          ∙ ap (λ is. walk a.ahead ++ ((block_point a.it.block ∷ points is) ++ walk a.behind)) (insts_cut a.sa a.sb)
          ∙ ap (λ r. walk a.ahead ++ ((block_point a.it.block ∷ r) ++ walk a.behind)) (map-append inst_point (insts_in a.sa) (insts_in a.sb))
          ∙ ap (λ r. walk a.ahead ++ r) (append_assoc (block_point a.it.block ∷ points (insts_in a.sa)) (points (insts_in a.sb)) (walk a.behind))
          ∙ sym (append_assoc (walk a.ahead) (block_point a.it.block ∷ points (insts_in a.sa)) (points (insts_in a.sb) ++ walk a.behind));
    }

-- ---- a block cut in two ahead of an instruction

module _ (t : Tables) (before : Inst) (a : InstAt t before) (b : Block) where
  abbrev cut_lines : List Line
  cut_lines = split_block b before (listed t)

  abbrev left : Line
  left = with_slots a.it a.sa

  abbrev right : Line
  right = record { block = b; slots = a.slot ∷ a.sb }

  cut_is : cut_lines ≡ a.ahead ++ (left ∷ right ∷ a.behind)
  cut_is =
      its_line_instead t before a (λ l. with_slots l (ahead_of (is_inst before) l.slots) ∷ record { block = b; slots = from_on (is_inst before) l.slots } ∷ [])
      ∙ ap (λ ss. a.ahead ++ (with_slots a.it ss ∷ record { block = b; slots = from_on (is_inst before) a.it.slots } ∷ a.behind)) (slots_ahead t before a)
      ∙ ap (λ ss. a.ahead ++ (left ∷ record { block = b; slots = ss } ∷ a.behind)) (slots_from t before a)

  whole : insts_in a.it.slots ≡ insts_in a.sa ++ (before ∷ insts_in a.sb)
  whole = ap insts_in a.cut ∙ insts_cut a.sa (a.slot ∷ a.sb) ∙ ap (λ x. insts_in a.sa ++ (x ∷ insts_in a.sb)) a.here

  -- the new block stands directly ahead of the instruction, and all else as it was
  pub cut_put_ahead : PutAhead (block_point b) (inst_point before) (program_of t) (with_lines (program_of t) cut_lines)
  cut_put_ahead = record {
    ahead = walk a.ahead ++ walk_along left;
    behind = points (insts_in a.sb) ++ walk a.behind;
    was = ap walk a.is ∙ walk_at a.ahead a.it a.behind (insts_in a.sa) before (insts_in a.sb) whole;
    is = ap walk cut_is ∙ walk_append a.ahead (left ∷ right ∷ a.behind) ∙ sym (append_assoc (walk a.ahead) (walk_along left) (walk_along right ++ walk a.behind)) ∙ ap (λ x. (walk a.ahead ++ walk_along left) ++ (block_point b ∷ inst_point x ∷ (points (insts_in a.sb) ++ walk a.behind))) a.here;
  }

  -- the two blocks together have the slots that the one had, numbers and all
  pub cut_slots : BlockOut b t → slots_of a.it.block (with_lines (program_of t) cut_lines) ++ slots_of b (with_lines (program_of t) cut_lines) ≡ slots_of a.it.block (program_of t)
  cut_slots fresh =
      let old : Block = a.it.block in
      let clear : Misses (Some old) (blocks_of a.ahead) = other_ahead t a.ahead a.it a.behind a.rep in
      let all : Misses (Some b) (blocks_of a.ahead ++ (old ∷ blocks_of a.behind)) = subst (λ ks. Misses (Some b) ks) (ap blocks_of a.is ∙ map-append (λ l. l.block) a.ahead (a.it ∷ a.behind)) fresh in
      let mx = misses_left (Some b) (blocks_of a.ahead) (old ∷ blocks_of a.behind) all in
      let mr = misses_right (Some b) (blocks_of a.ahead) (old ∷ blocks_of a.behind) all in
      let upto : Misses (Some b) (blocks_of (a.ahead ++ (left ∷ []))) = subst (λ ks. Misses (Some b) ks) (sym (map-append (λ l. l.block) a.ahead (left ∷ []))) (misses_both (Some b) (blocks_of a.ahead) (old ∷ []) mx (mr.0, tt)) in
      let kept : of_block old (λ l. l.slots) [] cut_lines ≡ a.sa = ap (of_block old (λ l. l.slots) []) cut_is ∙ of_block_at old (λ l. l.slots) [] a.ahead left (right ∷ a.behind) clear refl in
      let moved : of_block b (λ l. l.slots) [] cut_lines ≡ a.slot ∷ a.sb = ap (of_block b (λ l. l.slots) []) (cut_is ∙ sym (append_snoc a.ahead left (right ∷ a.behind))) ∙ of_block_at b (λ l. l.slots) [] (a.ahead ++ (left ∷ [])) right a.behind upto refl in
      let was : slots_of old (program_of t) ≡ a.sa ++ (a.slot ∷ a.sb) = ap (of_block old (λ l. l.slots) []) a.is ∙ of_block_at old (λ l. l.slots) [] a.ahead a.it a.behind clear refl ∙ a.cut in
      ap (λ ss. ss ++ of_block b (λ l. l.slots) [] cut_lines) kept ∙ ap (λ ss. a.sa ++ ss) moved ∙ sym was

-- ---- a block or an instruction put in at a block

module _ (t : Tables) (b : Block) (a : At t b) where
  not_behind : Misses (Some b) (blocks_of a.behind)
  not_behind = none_behind block_place block_links t.blocks t.ends (blocks_of a.ahead) b (blocks_of a.behind) a.chain

  walk_here : walk (listed t) ≡ walk a.ahead ++ (walk_along a.it ++ walk a.behind)
  walk_here = ap walk a.is ∙ walk_append a.ahead (a.it ∷ a.behind)

  its_walk : walk_along a.it ≡ walk_of b (program_of t)
  its_walk =
      ap (λ x. block_point x ∷ points (insts_in a.it.slots)) a.here
      ∙ ap (λ ss. block_point b ∷ points (insts_in ss)) (sym (ap (of_block b (λ l. l.slots) []) a.is ∙ of_block_at b (λ l. l.slots) [] a.ahead a.it a.behind a.clear a.here))

  pub block_put_ahead : (k : Block) → PutAhead (block_point k) (block_point b) (program_of t) (with_lines (program_of t) (insert_block k b (listed t)))
  block_put_ahead k = record {
    ahead = walk a.ahead;
    behind = points (insts_in a.it.slots) ++ walk a.behind;
    was = walk_here ∙ ap (λ x. walk a.ahead ++ (block_point x ∷ (points (insts_in a.it.slots) ++ walk a.behind))) a.here;
    is =
        ap (λ ls. walk (insert_block k b ls)) a.is
        ∙ ap walk (block_instead b (λ l. empty_line k ∷ l ∷ []) a.ahead a.it a.behind a.clear a.here not_behind)
        ∙ walk_append a.ahead (empty_line k ∷ a.it ∷ a.behind)
        ∙ ap (λ x. walk a.ahead ++ (block_point k ∷ block_point x ∷ (points (insts_in a.it.slots) ++ walk a.behind))) a.here;
  }

  pub block_put_behind : (k : Block) → PutBehind (block_point k) b (program_of t) (with_lines (program_of t) (insert_block_after k b (listed t)))
  block_put_behind k = record {
    ahead = walk a.ahead;
    behind = walk a.behind;
    was = walk_here ∙ ap (λ r. walk a.ahead ++ (r ++ walk a.behind)) its_walk;
    is =
        ap (λ ls. walk (insert_block_after k b ls)) a.is
        ∙ ap walk (block_instead b (λ l. l ∷ empty_line k ∷ []) a.ahead a.it a.behind a.clear a.here not_behind)
        ∙ walk_append a.ahead (a.it ∷ empty_line k ∷ a.behind)
        ∙ ap (λ r. walk a.ahead ++ (r ++ (block_point k ∷ walk a.behind))) its_walk;
  }

  -- its line gets the new one
  appended_is : (i : Inst) → (appended_inst i b (program_of t)).lines ≡ a.ahead ++ (with_slots a.it (numbered a.it.slots i []).slots ∷ a.behind)
  appended_is i =
      ap (in_block b (λ ss. (numbered ss i []).slots)) a.is
      ∙ in_block_at b (λ ss. (numbered ss i []).slots) a.ahead a.it a.behind a.clear a.here not_behind

  pub inst_put_last : (i : Inst) → PutBehind (inst_point i) b (program_of t) (appended_inst i b (program_of t))
  inst_put_last i =
      let new : Line = with_slots a.it (numbered a.it.slots i []).slots in
      let insts : insts_in new.slots ≡ insts_in a.it.slots ++ (i ∷ []) = numbered_insts a.it.slots i [] in
      record {
        ahead = walk a.ahead;
        behind = walk a.behind;
        was = walk_here ∙ ap (λ r. walk a.ahead ++ (r ++ walk a.behind)) its_walk;
        is =
            ap walk (appended_is i)
            ∙ walk_append a.ahead (new ∷ a.behind)
            ∙ ap (λ is. walk a.ahead ++ ((block_point a.it.block ∷ points is) ++ walk a.behind)) insts
            ∙ ap (λ r. walk a.ahead ++ ((block_point a.it.block ∷ r) ++ walk a.behind)) (map-append inst_point (insts_in a.it.slots) (i ∷ []))
            ∙ ap (λ r. walk a.ahead ++ r) (append_snoc (walk_along a.it) (inst_point i) (walk a.behind))
            ∙ ap (λ r. walk a.ahead ++ (r ++ (inst_point i ∷ walk a.behind))) its_walk;
      }

  pub inst_last_back : (i : Inst) → InstOut i t → walk (remove_inst i (appended_inst i b (program_of t)).lines) ≡ walk (listed t)
  inst_last_back i fresh =
      ap (λ ls. walk (remove_inst i ls)) (appended_is i)
      ∙ put_back t i a.ahead a.it a.behind (insts_in a.it.slots) [] (numbered a.it.slots i []).slots fresh a.is (sym (append-nil (insts_in a.it.slots))) (numbered_insts a.it.slots i [])

  -- the block taken out, with all that stands in it
  pub block_taken : TakenOut (walk_of b (program_of t)) (program_of t) (with_lines (program_of t) (remove_block b (listed t)))
  block_taken = record {
    ahead = walk a.ahead;
    behind = walk a.behind;
    was = walk_here ∙ ap (λ r. walk a.ahead ++ (r ++ walk a.behind)) its_walk;
    is =
        ap (λ ls. walk (remove_block b ls)) a.is
        ∙ ap walk (block_instead b (λ l. []) a.ahead a.it a.behind a.clear a.here not_behind)
        ∙ walk_append a.ahead a.behind;
  }

  -- a block that was put in and is taken out again leaves the lines as they were
  pub block_ahead_back : (k : Block) → BlockOut k t → remove_block k (insert_block k b (listed t)) ≡ listed t
  block_ahead_back k fresh =
      let all : Misses (Some k) (blocks_of (a.ahead ++ (a.it ∷ a.behind))) = subst (λ q. Misses (Some k) (blocks_of q)) a.is fresh in
      let parts = subst (λ ks. Misses (Some k) ks) (map-append (λ l. l.block) a.ahead (a.it ∷ a.behind)) all in
      ap (λ ls. remove_block k (insert_block k b ls)) a.is
      ∙ ap (remove_block k) (block_instead b (λ l. empty_line k ∷ l ∷ []) a.ahead a.it a.behind a.clear a.here not_behind)
      ∙ block_instead k (λ l. []) a.ahead (empty_line k) (a.it ∷ a.behind) (misses_left (Some k) (blocks_of a.ahead) (blocks_of (a.it ∷ a.behind)) parts) refl (misses_right (Some k) (blocks_of a.ahead) (blocks_of (a.it ∷ a.behind)) parts)
      ∙ sym a.is

  pub block_behind_back : (k : Block) → BlockOut k t → remove_block k (insert_block_after k b (listed t)) ≡ listed t
  block_behind_back k fresh =
      let all : Misses (Some k) (blocks_of (a.ahead ++ (a.it ∷ a.behind))) = subst (λ q. Misses (Some k) (blocks_of q)) a.is fresh in
      let parts = subst (λ ks. Misses (Some k) ks) (map-append (λ l. l.block) a.ahead (a.it ∷ a.behind)) all in
      let mx = misses_left (Some k) (blocks_of a.ahead) (blocks_of (a.it ∷ a.behind)) parts in
      let mr = misses_right (Some k) (blocks_of a.ahead) (blocks_of (a.it ∷ a.behind)) parts in
      let upto : Misses (Some k) (blocks_of (a.ahead ++ (a.it ∷ []))) = subst (λ ks. Misses (Some k) ks) (sym (map-append (λ l. l.block) a.ahead (a.it ∷ []))) (misses_both (Some k) (blocks_of a.ahead) (a.it.block ∷ []) mx (mr.0, tt)) in
      ap (λ ls. remove_block k (insert_block_after k b ls)) a.is
      ∙ ap (remove_block k) (block_instead b (λ l. l ∷ empty_line k ∷ []) a.ahead a.it a.behind a.clear a.here not_behind ∙ sym (append_snoc a.ahead a.it (empty_line k ∷ a.behind)))
      ∙ block_instead k (λ l. []) (a.ahead ++ (a.it ∷ [])) (empty_line k) a.behind upto refl mr.1
      ∙ append_snoc a.ahead a.it a.behind
      ∙ sym a.is

-- ---- a block put in as the last

pub block_put_last : (t : Tables) (k : Block) → PutLast (block_point k) (program_of t) (with_lines (program_of t) (append_block k (listed t)))
block_put_last t k = walk_append (listed t) (empty_line k ∷ [])

pub block_last_back : (t : Tables) (k : Block) → BlockOut k t → remove_block k (append_block k (listed t)) ≡ listed t
block_last_back t k fresh = block_instead k (λ l. []) (listed t) (empty_line k) [] fresh refl tt ∙ append-nil (listed t)

-- ---- the numbers of a block

pub slots_numbered : (t : Tables) (b : Block) → Sound t → WellNumbered (slots_of b (program_of t))
slots_numbered t b h =
    elim (locate block_place block_apart (λ l. l.block) b (listed t)) [
      | inl m ↦ subst (λ ss. WellNumbered ss) (sym (of_block_none b (λ l. l.slots) [] (listed t) m)) (record { rising = tt; fit = tt })
      | inr f ↦
          let slots : slots_of b (program_of t) ≡ f.it.slots = ap (of_block b (λ l. l.slots) []) f.is ∙ of_block_at b (λ l. l.slots) [] f.ahead f.it f.behind f.clear f.here in
          subst (λ ss. WellNumbered ss) (sym slots) (rising_at f.ahead f.it f.behind (subst (λ ls. AllWellNumbered ls) f.is (sound_out h).numbers))
    ]
