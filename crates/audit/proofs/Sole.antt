-- The rules give one verdict. Assumes nothing.
use Rattle.std.proofs.Common.{◌≡◌, ℕ, zero, suc, ◌<◌, List, [], ◌∷◌, ◌++◌, Some, None, sym, refl, ap, ◌∙◌, subst, inl, inr, not-suc-le-zero, le_of_suc-le-suc, eq-or-lt_of_le}
use Rattle.std.proofs.lemmas.Bool.{cases_order}
use Rattle.std.specs.List.{All}
use Rattle.entities.specs.Nodes.{block_place, inst_place}
use Rattle.entities.specs.Program.{Line}
use Rattle.entities.specs.declared.Block.{Block}
use Rattle.entities.specs.declared.Inst.{Inst}
use Rattle.entities.specs.declared.nodes.Tables.{Tables}
use Rattle.faults.specs.declared.Entity.TheVariants.{Block as the_block, Inst as the_inst}
use Rattle.listing.specs.Lawful.{Filled, listed}
use Rattle.verdicts.specs.declared.Breach.{Breach}
use Rattle.verdicts.specs.declared.Breach.TheVariants.{InTable as in_table, BlockChain as block_chain, InstChains as inst_chains, UnmetBare as unmet_bare, RisingNumbers as rising_numbers}
use Rattle.verdicts.specs.declared.Verdict.{Verdict}
use Rattle.verdicts.specs.declared.Verdict.TheVariants.{Lawful, Broken}
use Rattle.audit_rules.proofs.Lists.{Every, all_every}
use Rattle.audit_rules.specs.Breaches.{Earliest, FirstBroken, Lowest}
use Rattle.audit_rules.specs.Rules.{AllRules, BlockChain, BlockInside, EndsInside, InTable, InstChains, InstInside, Rises, RisingNumbers, UnmetBlockBare, UnmetInstBare}
use Rattle.audit.specs.Audited.{IsVerdict, OnlyVerdict}

-- ---- the first at fault is one

lowest_one : {K : Type 0} (place : K → ℕ) (P : K → Type 0) (x y : K) → Lowest place P x → Lowest place P y → place x ≡ place y
lowest_one place P x y a b =
    elim (cases_order (place x) (place y)) [
      | inl e ↦ e
      | inr o ↦ elim o [ inl h ↦ absurd (a.fault (b.spared x h)) | inr h ↦ absurd (b.fault (a.spared y h)) ]
    ]

module _ (P : Line → Type 0) where
  fails_in : (xs : List Line) (x : Line) (ys : List Line) → (P x → ⊥) → Every P (xs ++ (x ∷ ys)) → ⊥
  fails_in [] x ys f a = f a.0
  fails_in (z ∷ zs) x ys f a = fails_in zs x ys f a.1

  first_one : (xs ys : List Line) (x y : Line) (us vs : List Line) → xs ++ (x ∷ us) ≡ ys ++ (y ∷ vs) → Every P xs → Every P ys → (P x → ⊥) → (P y → ⊥) → x ≡ y
  first_one [] [] x y us vs e a b f g = cc
  first_one [] (z ∷ zs) x y us vs e a b f g = let q : z ≡ x = cc in absurd (f (subst P q b.0))
  first_one (z ∷ zs) [] x y us vs e a b f g = let q : z ≡ y = cc in absurd (g (subst P q a.0))
  first_one (z ∷ zs) (w ∷ ws) x y us vs e a b f g = let q : zs ++ (x ∷ us) ≡ ws ++ (y ∷ vs) = cc in first_one zs ws x y us vs q a.1 b.1 f g

  earliest_one : (ls : List Line) (b c : Block) → Earliest P ls b → Earliest P ls c → b ≡ c
  earliest_one ls b c x y =
      let one : x.it ≡ y.it = first_one x.ahead y.ahead x.it y.it x.behind y.behind (sym x.is ∙ y.is) (all_every P x.ahead x.spared) (all_every P y.ahead y.spared) x.fault y.fault in
      sym x.block ∙ ap (λ (l : Line). l.block) one ∙ y.block

  earliest_fails : (ls : List Line) (b : Block) → Earliest P ls b → All P ls → ⊥
  earliest_fails ls b x a = fails_in x.ahead x.it x.behind x.fault (subst (λ q. Every P q) x.is (all_every P ls a))

-- ---- the questions behind the verdicts, by number, in their order

abbrev block_at : ℕ → Block
block_at n = record { 0 = n }

abbrev inst_at : ℕ → Inst
inst_at n = record { 0 = n }

rank : Verdict → ℕ
rank (Broken (in_table None)) = 0
rank (Broken (in_table (Some (the_block b)))) = 1
rank (Broken (in_table (Some (the_inst i)))) = 2
rank (Broken block_chain) = 3
rank (Broken (inst_chains b)) = 4
rank (Broken (unmet_bare (the_block b))) = 5
rank (Broken (unmet_bare (the_inst i))) = 6
rank (Broken (rising_numbers b)) = 7
rank Lawful = 8

entity : Verdict → ℕ
entity (Broken (in_table None)) = 0
entity (Broken (in_table (Some (the_block b)))) = b.0
entity (Broken (in_table (Some (the_inst i)))) = i.0
entity (Broken block_chain) = 0
entity (Broken (inst_chains b)) = b.0
entity (Broken (unmet_bare (the_block b))) = b.0
entity (Broken (unmet_bare (the_inst i))) = i.0
entity (Broken (rising_numbers b)) = b.0
entity Lawful = 0

make : ℕ → ℕ → Verdict
make zero x = Broken (in_table None)
make (suc zero) x = Broken (in_table (Some (the_block (block_at x))))
make (suc (suc zero)) x = Broken (in_table (Some (the_inst (inst_at x))))
make (suc (suc (suc zero))) x = Broken block_chain
make (suc (suc (suc (suc zero)))) x = Broken (inst_chains (block_at x))
make (suc (suc (suc (suc (suc zero))))) x = Broken (unmet_bare (the_block (block_at x)))
make (suc (suc (suc (suc (suc (suc zero)))))) x = Broken (unmet_bare (the_inst (inst_at x)))
make (suc (suc (suc (suc (suc (suc (suc zero))))))) x = Broken (rising_numbers (block_at x))
make (suc (suc (suc (suc (suc (suc (suc (suc n)))))))) x = Lawful

made : (v : Verdict) → v ≡ make (rank v) (entity v)
unfolding rank entity make
made (Broken (in_table None)) = refl
made (Broken (in_table (Some (the_block b)))) = refl
made (Broken (in_table (Some (the_inst i)))) = refl
made (Broken block_chain) = refl
made (Broken (inst_chains b)) = refl
made (Broken (unmet_bare (the_block b))) = refl
made (Broken (unmet_bare (the_inst i))) = refl
made (Broken (rising_numbers b)) = refl
made Lawful = refl

module _ (t : Tables) where
  -- question n is answered yes
  abbrev Holds : ℕ → Type 0
  Holds zero = EndsInside t.blocks t.ends
  Holds (suc zero) = (b : Block) → BlockInside t.blocks t.insts b
  Holds (suc (suc zero)) = (i : Inst) → InstInside t.blocks t.insts i
  Holds (suc (suc (suc zero))) = BlockChain t
  Holds (suc (suc (suc (suc zero)))) = InstChains t
  Holds (suc (suc (suc (suc (suc zero))))) = (b : Block) → UnmetBlockBare t b
  Holds (suc (suc (suc (suc (suc (suc zero)))))) = (i : Inst) → UnmetInstBare t i
  Holds (suc (suc (suc (suc (suc (suc (suc zero))))))) = RisingNumbers t
  Holds (suc (suc (suc (suc (suc (suc (suc (suc n)))))))) = ⊥

  abbrev Passed : ℕ → Type 0
  Passed zero = Unit {0}
  Passed (suc n) = Passed n × Holds n

  passed_at : (m n : ℕ) → n < m → Passed m → Holds n
  passed_at zero n h p = absurd (not-suc-le-zero h)
  passed_at (suc m) n h p = elim (eq-or-lt_of_le (le_of_suc-le-suc h)) [ inl e ↦ subst (λ k. Holds k) (sym e) p.1 | inr l ↦ passed_at m n l p.0 ]

  inside : InTable t → Passed 3
  inside a = (((tt, a.ends), a.blocks), a.insts)

  passed : (v : Verdict) → IsVerdict t v → Passed (rank v)
  unfolding rank
  passed (Broken (in_table None)) g = tt
  passed (Broken (in_table (Some (the_block b)))) g = (tt, g.1.0)
  passed (Broken (in_table (Some (the_inst i)))) g = ((tt, g.1.0), g.1.1)
  passed (Broken block_chain) g = inside g.0
  passed (Broken (inst_chains b)) g = (inside g.0.0, g.0.1)
  passed (Broken (unmet_bare (the_block b))) g = ((inside g.0.0, g.0.1), g.0.2)
  passed (Broken (unmet_bare (the_inst i))) g = (((inside g.0.0, g.0.1), g.0.2), g.1.0)
  passed (Broken (rising_numbers b)) g = ((((inside g.0.0, g.0.1), g.0.2), g.0.3.blocks), g.0.3.insts)
  passed Lawful g = (((((inside g.in_table, g.block_chain), g.inst_chains), g.unmet_bare.blocks), g.unmet_bare.insts), g.rising_numbers)

  fails : (v : Verdict) → IsVerdict t v → Holds (rank v) → ⊥
  unfolding rank
  fails (Broken (in_table None)) g h = g.1 h
  fails (Broken (in_table (Some (the_block b)))) g h = g.1.1.fault (h b)
  fails (Broken (in_table (Some (the_inst i)))) g h = g.1.2.fault (h i)
  fails (Broken block_chain) g h = g.1 h
  fails (Broken (inst_chains b)) g h = earliest_fails (Filled t) (listed t) b g.1 h
  fails (Broken (unmet_bare (the_block b))) g h = g.1.fault (h b)
  fails (Broken (unmet_bare (the_inst i))) g h = g.1.1.fault (h i)
  fails (Broken (rising_numbers b)) g h = earliest_fails Rises (listed t) b g.1 h
  fails Lawful g h = h

  same_rank : (v w : Verdict) → IsVerdict t v → IsVerdict t w → rank v ≡ rank w
  same_rank v w a b =
      elim (cases_order (rank v) (rank w)) [
        | inl e ↦ e
        | inr o ↦ elim o [
          | inl h ↦ absurd (fails v a (passed_at (rank w) (rank v) h (passed w b)))
          | inr h ↦ absurd (fails w b (passed_at (rank v) (rank w) h (passed v a)))
        ]
      ]

  -- x is the first at fault by question n
  abbrev At : ℕ → ℕ → Type 0
  At zero x = x ≡ 0
  At (suc zero) x = Lowest block_place (BlockInside t.blocks t.insts) (block_at x)
  At (suc (suc zero)) x = Lowest inst_place (InstInside t.blocks t.insts) (inst_at x)
  At (suc (suc (suc zero))) x = x ≡ 0
  At (suc (suc (suc (suc zero)))) x = Earliest (Filled t) (listed t) (block_at x)
  At (suc (suc (suc (suc (suc zero))))) x = Lowest block_place (UnmetBlockBare t) (block_at x)
  At (suc (suc (suc (suc (suc (suc zero)))))) x = Lowest inst_place (UnmetInstBare t) (inst_at x)
  At (suc (suc (suc (suc (suc (suc (suc zero))))))) x = Earliest Rises (listed t) (block_at x)
  At (suc (suc (suc (suc (suc (suc (suc (suc n)))))))) x = x ≡ 0

  at : (v : Verdict) → IsVerdict t v → At (rank v) (entity v)
  unfolding rank entity
  at (Broken (in_table None)) g = refl
  at (Broken (in_table (Some (the_block b)))) g = g.1.1
  at (Broken (in_table (Some (the_inst i)))) g = g.1.2
  at (Broken block_chain) g = refl
  at (Broken (inst_chains b)) g = g.1
  at (Broken (unmet_bare (the_block b))) g = g.1
  at (Broken (unmet_bare (the_inst i))) g = g.1.1
  at (Broken (rising_numbers b)) g = g.1
  at Lawful g = refl

  at_one : (n x y : ℕ) → At n x → At n y → x ≡ y
  at_one zero x y a b = a ∙ sym b
  at_one (suc zero) x y a b = lowest_one block_place (BlockInside t.blocks t.insts) (block_at x) (block_at y) a b
  at_one (suc (suc zero)) x y a b = lowest_one inst_place (InstInside t.blocks t.insts) (inst_at x) (inst_at y) a b
  at_one (suc (suc (suc zero))) x y a b = a ∙ sym b
  at_one (suc (suc (suc (suc zero)))) x y a b = ap block_place (earliest_one (Filled t) (listed t) (block_at x) (block_at y) a b)
  at_one (suc (suc (suc (suc (suc zero))))) x y a b = lowest_one block_place (UnmetBlockBare t) (block_at x) (block_at y) a b
  at_one (suc (suc (suc (suc (suc (suc zero)))))) x y a b = lowest_one inst_place (UnmetInstBare t) (inst_at x) (inst_at y) a b
  at_one (suc (suc (suc (suc (suc (suc (suc zero))))))) x y a b = ap block_place (earliest_one Rises (listed t) (block_at x) (block_at y) a b)
  at_one (suc (suc (suc (suc (suc (suc (suc (suc n)))))))) x y a b = a ∙ sym b

  sole : (v w : Verdict) → IsVerdict t v → IsVerdict t w → w ≡ v
  sole v w a b =
      let r : rank w ≡ rank v = same_rank w v b a in
      let e : entity w ≡ entity v = at_one (rank v) (entity w) (entity v) (subst (λ n. At n (entity w)) r (at w b)) (at v a) in
      made w ∙ ap (λ n. make n (entity w)) r ∙ ap (λ x. make (rank v) x) e ∙ sym (made v)

  pub only_lawful : AllRules t → OnlyVerdict t Lawful
  only_lawful a = record { given = a; only = λ w g. sole Lawful w a g }

  pub only_broken : (x : Breach) → FirstBroken t x → OnlyVerdict t (Broken x)
  only_broken x a = record { given = a; only = λ w g. sole (Broken x) w a g }

pub ruleset only_verdicts = (only_lawful, only_broken)
