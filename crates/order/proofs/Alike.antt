-- Two sound tables whose programs have one walk rank alike. Assumes nothing.
use Rattle.std.proofs.Common.{◌≡◌, ℕ, Bool, true, false, cond, List, [], ◌∷◌, is_some, Some, None, Option, sym, refl, ap, ◌∙◌, subst, arith, Ordering, nat_cmp}
use Rattle.std.proofs.lemmas.Bool.{eqb-true}
use Rattle.std.proofs.lemmas.Option.{same_Some}
use Rattle.std.specs.List.{AllByRecursion}
use Rattle.entities.specs.Laws.{walk}
use Rattle.entities.specs.Program.{Program}
use Rattle.entities.specs.Reading.{Stands, inserted_point, inst_block, point_block, point_seq, walk_of}
use Rattle.entities.specs.declared.Block.{Block}
use Rattle.entities.specs.declared.nodes.Tables.{Tables}
use Rattle.entities.specs.declared.progpoint.ProgramPoint.{ProgramPoint}
use Rattle.entities.specs.declared.progpoint.ProgramPoint.TheVariants.{Inst as inst_point, Block as block_point}
use Rattle.faults.specs.Questions.{Question, first_no, pp_cmp_asked, same_option}
use Rattle.faults.specs.Refusals.{Refusal}
use Rattle.faults.specs.Rules.{answered}
use Rattle.listing.proofs.Found.{block_apart}
use Rattle.listing.proofs.Props.{sound_out}
use Rattle.listing.proofs.Questions.{inst_reads}
use Rattle.listing.proofs.Ranks.{ranked}
use Rattle.listing.specs.Lawful.{Sound, listed, program_of}
use Rattle.order.proofs.Bare.{same_inserted_point, same_point_block, same_walk_of}
use Rattle.order.specs.Order.{RankAlike}

-- ---- where no question refuses

first_yes : (q : Bool) (r : Refusal) (rest : Option Refusal) → cond q rest (Some r) ≡ None → (q ≡ true) × (rest ≡ None)
first_yes true r rest e = (refl, e)
first_yes false r rest e = absurd (let z : ◌≡◌ {A = ℕ} 0 1 = cc in omega arith)

each_yes : (qs : List Question) → first_no qs ≡ None → AllByRecursion (λ q. q.yes ≡ true) qs
each_yes [] e = tt
each_yes (q ∷ qs) e = let a = first_yes q.yes q.no (first_no qs) e in (a.0, each_yes qs a.1)

same_block_is : (b : Block) (o : Option Block) → same_option (Some b) o ≡ true → o ≡ Some b
same_block_is b None e = absurd (let z : ◌≡◌ {A = ℕ} 0 1 = cc in omega arith)
same_block_is b (Some c) e = ap Some (sym (block_apart b c (eqb-true b.0 c.0 e)))

some_of : {A : Type 0} (o : Option A) → is_some o ≡ true → (a : A) × (o ≡ Some a)
some_of None e = absurd (let z : ◌≡◌ {A = ℕ} 0 1 = cc in omega arith)
some_of (Some a) e = (a, refl)

-- a point that is there to be compared has a block
block_of : (t : Tables) → Sound t → (x : ProgramPoint) → inserted_point x (program_of t) ≡ true → (b : Block) × (point_block x (program_of t) ≡ Some b)
block_of t h (block_point b) on = (b, refl)
block_of t h (inst_point i) on =
    let r = inst_reads t i (sound_out h).wired in
    some_of (inst_block i (program_of t)) (sym (ap is_some r.block) ∙ r.inserted ∙ on)

-- two points that are compared are of one block
one_block : (t : Tables) → Sound t → (x y : ProgramPoint) → first_no (pp_cmp_asked x y (program_of t)) ≡ None → (b : Block) × (point_block x (program_of t) ≡ Some b) × (point_block y (program_of t) ≡ Some b)
one_block t h x y e =
    let p = program_of t in
    let yes = each_yes (pp_cmp_asked x y p) e in
    let bx = block_of t h x yes.1.1.0 in
    (bx.0, bx.1, same_block_is bx.0 (point_block y p) (subst (λ o. same_option o (point_block y p) ≡ true) bx.1 yes.1.1.1.1.0))

-- ---- numbers apart, the walk says how two points rank

module _ (t u : Tables) (ht : Sound t) (hu : Sound u) (e : walk (listed t) ≡ walk (listed u)) (x y : ProgramPoint) where
  abbrev p : Program
  p = program_of t

  abbrev q : Program
  q = program_of u

  ranked_same : (b : Block) → point_block x p ≡ Some b → point_block y p ≡ Some b → nat_cmp (point_seq x p) (point_seq y p) ≡ nat_cmp (point_seq x q) (point_seq y q)
  ranked_same b ex ey =
      let fx = sym (same_point_block p q e x) ∙ ex in
      let rp = ranked t ht x y b ex ey in
      let rq = ranked u hu x y b fx (sym (same_point_block p q e y) ∙ ey) in
      let one : rp.block ≡ rq.block = same_Some rp.block rq.block (sym rp.of_a ∙ ex ∙ sym fx ∙ rq.of_a) in
      rq.only (nat_cmp (point_seq x p) (point_seq y p))
      (subst (λ c. Stands (nat_cmp (point_seq x p) (point_seq y p)) x y (walk_of c q)) one (subst (λ w. Stands (nat_cmp (point_seq x p) (point_seq y p)) x y w) (same_walk_of p q e rp.block) rp.stands))

  same_asked : first_no (pp_cmp_asked x y p) ≡ first_no (pp_cmp_asked x y q)
  same_asked = simp (same_inserted_point p q e, same_point_block p q e)

answered_same : (f g : Option Refusal) (m n : Ordering) → f ≡ g → (f ≡ None → m ≡ n) → answered f m ≡ answered g n
answered_same f g m n e h = subst (λ o. answered f m ≡ answered o n) e (at f h)
  where
    at : (o : Option Refusal) → (o ≡ None → m ≡ n) → answered o m ≡ answered o n
    at None k = ap (answered None) (k refl)
    at (Some r) k = refl

pub rank_alike : (t u : Tables) → Sound t → Sound u → walk (listed t) ≡ walk (listed u) → RankAlike (program_of t) (program_of u)
rank_alike t u ht hu e x y =
    let p = program_of t in
    let q = program_of u in
    answered_same (first_no (pp_cmp_asked x y p)) (first_no (pp_cmp_asked x y q)) (nat_cmp (point_seq x p) (point_seq y p)) (nat_cmp (point_seq x q) (point_seq y q)) (same_asked t u ht hu e x y)
    (λ none. let b = one_block t ht x y none in ranked_same t u ht hu e x y b.0 b.1 b.2)
