-- The instructions of a block with their numbers, as the layout answers them one by one. Assumes nothing.
use Rattle.std.proofs.Common.{◌≡◌, ℕ, Bool, true, false, cond, List, [], ◌∷◌, ◌++◌, map, nat_eq, reverse, Some, None, Option, sym, refl, ap, ◌∙◌, subst, arith}
use Rattle.std.proofs.lemmas.Option.{same_Some}
use Rattle.std.proofs.lemmas.List.{append-nil, append_assoc, map-append, reverse-append, reverse-reverse}
use Rattle.std.specs.Iterator.{Yields}
use Rattle.std.specs.List.{AllByRecursion}
use Rattle.entities.specs.Program.{Line, Program, Slot, insts_in}
use Rattle.entities.specs.Reading.{block_insts, inserted_inst, inst_seq, of_block, shown_seq, slots_of}
use Rattle.entities.specs.declared.Block.{Block}
use Rattle.entities.specs.declared.Inst.{Inst}
use Rattle.layout.specs.Program.{program}
use Rattle.layout.specs.declared.Layout.{Layout}
use Rattle.order.proofs.Comparing.{steps_by, yielded}
use Rattle.order.proofs.OneOrder.{in_order_of}
use Rattle.walks.specs.Walks.{GivesLast}
use Rattle.transcript.specs.Walks.{slot_at}

-- an instruction with the number that the program gives it
abbrev pub numbered : Program → Inst → Inst × ℕ
numbered p i = (i, inst_seq i p)

-- the layout answers the number of each of these
abbrev pub Shown : Program → List Slot → Type 0
Shown p ss = AllByRecursion (λ s. shown_seq s.inst p ≡ Some s.seq) ss

abbrev slots_in : Bool → Line → List Slot → List Slot
slots_in here l rest = cond here l.slots rest

shown_here : (p : Program) (here : Bool) (l : Line) (rest : List Slot) → Shown p l.slots → Shown p rest → Shown p (slots_in here l rest)
shown_here p true l rest a b = a
shown_here p false l rest a b = b

-- what is told is the number that the program gives
told_number : (p : Program) (i : Inst) (n : ℕ) → shown_seq i p ≡ Some n → n ≡ inst_seq i p
told_number p i n e = at (inserted_inst i p) e
  where
    at : (on : Bool) → cond on (Some (inst_seq i p)) None ≡ Some n → n ≡ inst_seq i p
    at true f = sym (same_Some (inst_seq i p) n f)
    at false f = absurd (let z : ◌≡◌ {A = ℕ} 0 1 = cc in omega arith)

slots_numbered : (p : Program) (ss : List Slot) → Shown p ss → map (numbered p) (insts_in ss) ≡ map slot_at ss
slots_numbered p [] a = refl
slots_numbered p (s ∷ ss) a = ap (λ n. (s.inst, n) ∷ map (numbered p) (insts_in ss)) (sym (told_number p s.inst s.seq a.0)) ∙ ap (λ r. slot_at s ∷ r) (slots_numbered p ss a.1)

is_told : (p : Program) (ss : List Slot) → Shown p ss → (xs : List Inst) (i : Inst) (ys : List Inst) → insts_in ss ≡ xs ++ (i ∷ ys) → shown_seq i p ≡ Some (inst_seq i p)
is_told p [] a [] i ys e = absurd (let z : ◌≡◌ {A = ℕ} 0 1 = cc in omega arith)
is_told p [] a (x ∷ xs) i ys e = absurd (let z : ◌≡◌ {A = ℕ} 0 1 = cc in omega arith)
is_told p (s ∷ ss) a [] i ys e =
    let here : s.inst ≡ i = cc in
    subst (λ k. shown_seq k p ≡ Some (inst_seq k p)) here (a.0 ∙ ap Some (told_number p s.inst s.seq a.0))
is_told p (s ∷ ss) a (x ∷ xs) i ys e =
    let rest : insts_in ss ≡ xs ++ (i ∷ ys) = cc in
    is_told p ss a.1 xs i ys rest

-- the line of a block is one of the lines
on_lines : (p : Program) (b : Block) (ls : List Line) → AllByRecursion (λ line. Shown p line.slots) ls → Shown p (of_block b (λ l. l.slots) [] ls)
on_lines p b [] a = tt
on_lines p b (l ∷ ls) a = shown_here p (nat_eq l.block.0 b.0) l (of_block b (λ l. l.slots) [] ls) a.0 (on_lines p b ls a.1)

map_reversed : {A B : Type 0} (f : A → B) (xs : List A) → map f (reverse xs) ≡ reverse (map f xs)
map_reversed f [] = refl
map_reversed f (x ∷ xs) = ap (map f) (reverse-append (x ∷ []) xs) ∙ map-append f (reverse xs) (x ∷ []) ∙ ap (λ r. r ++ (f x ∷ [])) (map_reversed f xs) ∙ sym (reverse-append (f x ∷ []) (map f xs))

-- the steps of a walk from the back, by what it has left to give
abbrev pub steps_back_by : {S K : Type 0} → (S → List K) → S → Option K → S → Type 0
steps_back_by left s r t = GivesLast r (left s) (left t)

-- calls give the end of what was left
yielded_back : {S K : Type 0} (left : S → List K) (s : S) (xs : List K) (t : S) → Yields (steps_back_by left) s xs t → left s ≡ left t ++ reverse xs
yielded_back left s [] t y = ap left y ∙ sym (append-nil (left t))
yielded_back left s (x ∷ xs) t y =
    y.1
    ∙ ap (λ r. r ++ (x ∷ [])) (yielded_back left y.0 xs t y.2)
    ∙ append_assoc (left t) (reverse xs) (x ∷ [])
    ∙ ap (λ r. left t ++ r) (sym (reverse-append (x ∷ []) xs))

module _ (l : Layout) (b : Block) where
  abbrev p : Program
  p = program l

  shown : Shown p (slots_of b p)
  shown = on_lines p b p.lines (in_order_of l p refl).walk.numbers

  -- each with its number
  all_numbered : map (numbered p) (block_insts b p) ≡ map slot_at (slots_of b p)
  all_numbered = slots_numbered p (slots_of b p) shown

  -- each has a number
  has_number : (xs : List Inst) (i : Inst) (ys : List Inst) → block_insts b p ≡ xs ++ (i ∷ ys) → shown_seq i p ≡ Some (inst_seq i p)
  has_number = is_told p (slots_of b p) shown

  module _ {S : Type 0} (left : S → List Inst) (s t u : S) (xs : List Inst) (all : left s ≡ block_insts b p) where
    pub told_next : (i : Inst) → Yields (steps_by left) s xs t → steps_by left t (Some i) u → shown_seq i p ≡ Some (inst_seq i p)
    told_next i came gives = has_number xs i (left u) (sym all ∙ yielded left s xs t came ∙ ap (λ r. xs ++ r) gives)

    pub told_all : Yields (steps_by left) s xs t → steps_by left t None u → map (numbered p) xs ≡ map slot_at (slots_of b p)
    told_all came gives = ap (map (numbered p)) (sym (sym all ∙ yielded left s xs t came ∙ ap (λ r. xs ++ r) gives.0 ∙ append-nil xs)) ∙ all_numbered

    pub told_next_back : (i : Inst) → Yields (steps_back_by left) s xs t → steps_back_by left t (Some i) u → shown_seq i p ≡ Some (inst_seq i p)
    told_next_back i came gives = has_number (left u) i (reverse xs) (sym all ∙ yielded_back left s xs t came ∙ ap (λ r. r ++ reverse xs) gives ∙ append_assoc (left u) (i ∷ []) (reverse xs))

    pub told_all_back : Yields (steps_back_by left) s xs t → steps_back_by left t None u → map (numbered p) xs ≡ reverse (map slot_at (slots_of b p))
    told_all_back came gives =
        let whole : block_insts b p ≡ reverse xs = sym all ∙ yielded_back left s xs t came ∙ ap (λ r. r ++ reverse xs) gives.0 in
        ap (map (numbered p)) (sym (ap reverse whole ∙ reverse-reverse xs)) ∙ map_reversed (numbered p) (block_insts b p) ∙ ap reverse all_numbered
