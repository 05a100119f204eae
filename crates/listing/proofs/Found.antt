-- Where a key stands in a list, and what `instead_where` makes there. Assumes nothing.
use Rattle.std.proofs.Common.{◌≡◌, ℕ, Bool, true, false, cond, ◌⊎◌, List, [], ◌∷◌, ◌++◌, map, Some, sym, refl, ap, ◌∙◌, inl, inr}
use Rattle.std.proofs.lemmas.Option.{same_Some}
use Rattle.std.proofs.lemmas.Bool.{cases_eq, eq-eqb, ne_eqb}
use Rattle.chain.proofs.Keys.{misses_left, misses_right}
use Rattle.chain.specs.Chain.{Misses}
use Rattle.entities.specs.Nodes.{block_place, inst_place}
use Rattle.entities.specs.Lists.{ahead_of, from_on}
use Rattle.entities.specs.Program.{Line, Slot, chosen, has_inst, in_block, instead_where, insts_in, insts_of, is_block, is_inst, with_slots}
use Rattle.entities.specs.declared.Block.{Block}
use Rattle.entities.specs.declared.Inst.{Inst}
use Rattle.listing.proofs.Stretches.{holds_not}

abbrev block_from : ℕ → Block
block_from n = record { 0 = n }

abbrev inst_from : ℕ → Inst
inst_from n = record { 0 = n }

pub block_apart : (a b : Block) → block_place a ≡ block_place b → a ≡ b
block_apart a b e = ap block_from e

pub inst_apart : (a b : Inst) → inst_place a ≡ inst_place b → a ≡ b
inst_apart a b e = ap inst_from e

-- the first of the list whose key is k
pub record Located {A K : Type 0} (key : A → K) (k : K) (xs : List A) : Type 0 where
  pub ahead : List A
  pub it : A
  pub behind : List A
  pub is : xs ≡ ahead ++ (it ∷ behind)
  pub here : key it ≡ k
  pub clear : Misses (Some k) (map key ahead)

module _ {A K : Type 0} (place : K → ℕ) (apart : (a b : K) → place a ≡ place b → a ≡ b) (key : A → K) (k : K) where
  pub locate : (xs : List A) → Misses (Some k) (map key xs) ⊎ Located key k xs
  locate [] = inl tt
  locate (x ∷ xs) =
      elim (cases_eq (place (key x)) (place k)) [
        | inl e ↦ inr (record { ahead = []; it = x; behind = xs; is = refl; here = apart (key x) k e; clear = tt })
        | inr h ↦
            let ne : Some k ≡ Some (key x) → ⊥ = λ q. h (ap place (sym (same_Some k (key x) q))) in
            elim (locate xs) [
              | inl m ↦ inl (ne, m)
              | inr f ↦ inr (record { ahead = x ∷ f.ahead; it = f.it; behind = f.behind; is = ap (λ r. x ∷ r) f.is; here = f.here; clear = (ne, f.clear) })
            ]
      ]

pub insts_in-append : (xs ys : List Line) → insts_of (xs ++ ys) ≡ insts_of xs ++ insts_of ys
insts_in-append [] ys = refl
insts_in-append (x ∷ xs) ys = ap (λ r. insts_in x.slots ++ r) (insts_in-append xs ys) ∙ assoc (insts_in x.slots) (insts_of xs) (insts_of ys)
  where
    assoc : {A : Type 0} (us bs cs : List A) → us ++ (bs ++ cs) ≡ (us ++ bs) ++ cs
    assoc [] bs cs = refl
    assoc (a ∷ rest) bs cs = ap (λ r. a ∷ r) (assoc rest bs cs)

-- ---- what passes a test in a list

-- none of the list passes
abbrev pub NonePass : {A : Type 0} → (A → Bool) → List A → Type 0
NonePass test [] = Unit {0}
NonePass test (x ∷ xs) = (test x ≡ false) × NonePass test xs

module _ {A : Type 0} (test : A → Bool) where
  -- where none passes, all stays
  pub instead_where_none : (f : A → List A) (xs : List A) → NonePass test xs → instead_where test f xs ≡ xs
  instead_where_none f [] m = refl
  instead_where_none f (x ∷ xs) m = ap (λ c. chosen c (f x) x (instead_where test f xs)) m.0 ∙ ap (λ r. x ∷ r) (instead_where_none f xs m.1)

  -- in place of the one that passes, f's list
  pub instead_where_at : (f : A → List A) (xs : List A) (x : A) (ys : List A) → NonePass test xs → test x ≡ true → NonePass test ys → instead_where test f (xs ++ (x ∷ ys)) ≡ xs ++ (f x ++ ys)
  instead_where_at f [] x ys mx e my = ap (λ c. chosen c (f x) x (instead_where test f ys)) e ∙ ap (λ r. f x ++ r) (instead_where_none f ys my)
  instead_where_at f (z ∷ zs) x ys mx e my = ap (λ c. chosen c (f z) z (instead_where test f (zs ++ (x ∷ ys)))) mx.0 ∙ ap (λ r. z ∷ r) (instead_where_at f zs x ys mx.1 e my)

  pub ahead_of_at : (xs : List A) (x : A) (ys : List A) → NonePass test xs → test x ≡ true → ahead_of test (xs ++ (x ∷ ys)) ≡ xs
  ahead_of_at [] x ys m e = ap (λ c. cond c [] (x ∷ ahead_of test ys)) e
  ahead_of_at (z ∷ zs) x ys m e = ap (λ c. cond c [] (z ∷ ahead_of test (zs ++ (x ∷ ys)))) m.0 ∙ ap (λ r. z ∷ r) (ahead_of_at zs x ys m.1 e)

  pub from_on_at : (xs : List A) (x : A) (ys : List A) → NonePass test xs → test x ≡ true → from_on test (xs ++ (x ∷ ys)) ≡ x ∷ ys
  from_on_at [] x ys m e = ap (λ c. cond c (x ∷ ys) (from_on test ys)) e
  from_on_at (z ∷ zs) x ys m e = ap (λ c. cond c (z ∷ (zs ++ (x ∷ ys))) (from_on test (zs ++ (x ∷ ys)))) m.0 ∙ from_on_at zs x ys m.1 e

-- ---- the tests of lines and slots

pub this_block : (b : Block) (l : Line) → l.block ≡ b → is_block b l ≡ true
this_block b l e = eq-eqb l.block.0 b.0 (ap block_place e)

pub other_blocks : (b : Block) (ls : List Line) → Misses (Some b) (map (λ l. l.block) ls) → NonePass (is_block b) ls
other_blocks b [] m = tt
other_blocks b (l ∷ ls) m = (ne_eqb l.block.0 b.0 (λ e. m.0 (ap Some (sym (block_apart l.block b e)))), other_blocks b ls m.1)

pub this_inst : (i : Inst) (s : Slot) → s.inst ≡ i → is_inst i s ≡ true
this_inst i s e = eq-eqb s.inst.0 i.0 (ap inst_place e)

pub other_insts : (i : Inst) (ss : List Slot) → Misses (Some i) (insts_in ss) → NonePass (is_inst i) ss
other_insts i [] m = tt
other_insts i (s ∷ ss) m = (ne_eqb s.inst.0 i.0 (λ e. m.0 (ap Some (sym (inst_apart s.inst i e)))), other_insts i ss m.1)

pub no_line_with : (i : Inst) (ls : List Line) → Misses (Some i) (insts_of ls) → NonePass (has_inst i) ls
no_line_with i [] m = tt
no_line_with i (l ∷ ls) m = (holds_not inst_place inst_apart i (insts_in l.slots) (misses_left (Some i) (insts_in l.slots) (insts_of ls) m), no_line_with i ls (misses_right (Some i) (insts_in l.slots) (insts_of ls) m))

-- the line of block b
pub block_instead : (b : Block) (f : Line → List Line) (xs : List Line) (l : Line) (ys : List Line) → Misses (Some b) (map (λ m. m.block) xs) → l.block ≡ b → Misses (Some b) (map (λ m. m.block) ys) → instead_where (is_block b) f (xs ++ (l ∷ ys)) ≡ xs ++ (f l ++ ys)
block_instead b f xs l ys mx e my = instead_where_at (is_block b) f xs l ys (other_blocks b xs mx) (this_block b l e) (other_blocks b ys my)

pub in_block_at : (b : Block) (f : List Slot → List Slot) (xs : List Line) (l : Line) (ys : List Line) → Misses (Some b) (map (λ m. m.block) xs) → l.block ≡ b → Misses (Some b) (map (λ m. m.block) ys) → in_block b f (xs ++ (l ∷ ys)) ≡ xs ++ (with_slots l (f l.slots) ∷ ys)
in_block_at b f = block_instead b (λ l. with_slots l (f l.slots) ∷ [])
