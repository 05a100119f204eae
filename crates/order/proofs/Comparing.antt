-- What std's calls say of walks: `eq` whether two have the same left to give, and a run to the end that it gives all that was left.
-- Assumes nothing.
use Rattle.std.proofs.Common.{◌≡◌, ◌==◌, ℕ, Bool, true, false, List, [], ◌∷◌, ◌++◌, Some, None, Option, sym, refl, ap, ◌∙◌, arith}
use Rattle.std.proofs.lemmas.Bool.{true≢false}
use Rattle.std.proofs.lemmas.Bool.Decides.{Decides-eqb, Decides-like}
use Rattle.std.proofs.lemmas.List.{append-nil, append_cancel_left}
use Rattle.std.specs.Bool.{Decides}
use Rattle.std.specs.Iterator.{ComparesItemsByEq, Yields}
use Rattle.std.specs.Iterator.Runs.{Run, YieldsRun}
use Rattle.std.specs.List.{AllZip}
use Rattle.std.specs.Option.{IfSome, MatchOption}
use Rattle.entities.specs.Nodes.{block_place, inst_place}
use Rattle.entities.specs.declared.Block.{Block}
use Rattle.entities.specs.declared.Inst.{Inst}
use Rattle.listing.proofs.Found.{block_apart, inst_apart}
use Rattle.walks.specs.Walks.{GivesFirst, blocks_left}
use Rattle.walks.specs.declared.Blocks.{Blocks}

-- the steps of a walk, by what it has left to give
abbrev pub steps_by : {S K : Type 0} → (S → List K) → S → Option K → S → Type 0
steps_by left s r t = GivesFirst r (left s) (left t)

-- calls give the front of what was left
pub yielded : {S K : Type 0} (left : S → List K) (s : S) (xs : List K) (t : S) → Yields (steps_by left) s xs t → left s ≡ xs ++ left t
yielded left s [] t y = ap left y
yielded left s (x ∷ xs) t y = y.1 ∙ ap (λ r. x ∷ r) (yielded left y.0 xs t y.2)

nil≢cons : {K : Type 0} {k : K} {ks : List K} → [] ≡ k ∷ ks → ⊥
nil≢cons e = absurd (let z : ◌≡◌ {A = ℕ} 0 1 = cc in omega arith)

-- a run to the end gives all that was left
ended : {S K : Type 0} (left : S → List K) (p : Run (steps_by left)) → p.whole ≡ true → p.items ≡ left p.from
unfolding YieldsRun
ended left p w =
    let calls = p.gave.0 in
    sym (yielded left p.from p.items calls.0 calls.1 ∙ ap (λ r. p.items ++ r) (calls.2 w).1.0 ∙ append-nil p.items)

pub blocks_ended : (p : Run (steps_by (λ (s : Blocks). blocks_left s.listing.now s.next))) → p.whole ≡ true → p.items ≡ blocks_left p.from.listing.now p.from.next
blocks_ended p w = ended (λ (s : Blocks). blocks_left s.listing.now s.next) p w

-- ---- `eq`

module _ {K : Type 0} (eq : K → K → Bool) (is : (x y : K) → Decides (eq x y) (x ≡ y)) where
  zipped : (xs ys : List K) → AllZip (λ x y. eq x y ≡ true) xs ys → xs ≡ ys
  zipped [] [] z = refl
  zipped [] (y ∷ ys) z = absurd z
  zipped (x ∷ xs) [] z = absurd z
  zipped (x ∷ xs) (y ∷ ys) z = ap (λ k. k ∷ xs) ((is x y).0 z.0) ∙ ap (λ r. y ∷ r) (zipped xs ys z.1)

  -- by what comes of each where the comparison stops
  stopped : (o p : Option K) (ks ls ms ns : List K) (r : Bool) → GivesFirst o ks ms → GivesFirst p ls ns → MatchOption o (MatchOption p (r ≡ true) (λ _. r ≡ false)) (λ x. (r ≡ false) × IfSome p (λ y. eq x y ≡ false)) → Decides r (ks ≡ ls)
  stopped None None ks ls ms ns r f g m = (λ _. f.0 ∙ sym g.0, λ _. m)
  stopped None (Some y) ks ls ms ns r f g m = (λ h. absurd (true≢false (sym h ∙ m)), λ e. absurd (nil≢cons (sym f.0 ∙ e ∙ g)))
  stopped (Some x) None ks ls ms ns r f g m = (λ h. absurd (true≢false (sym h ∙ m.0)), λ e. absurd (nil≢cons (sym g.0 ∙ sym e ∙ f)))
  stopped (Some x) (Some y) ks ls ms ns r f g m = (
    λ h. absurd (true≢false (sym h ∙ m.0)),
    λ e.
        let all : x ∷ ms ≡ y ∷ ns = sym f ∙ e ∙ g in
        let one : x ≡ y = cc in
        absurd (true≢false (sym ((is x y).1 one) ∙ m.1)),
  )

  compared : {S T : Type 0} (left : S → List K) (right : T → List K) (s : S) (t : T) (r : Bool) (xs ys : List K) → left s ≡ xs → right t ≡ ys → ComparesItemsByEq (steps_by left) (λ x y. y ≡ x) (steps_by right) s t eq r → Decides r (xs ≡ ys)
  compared left right s t r xs ys ex ey c =
      let one : xs ≡ c.1 ++ left c.8.0 = sym ex ∙ yielded left s c.1 c.8.0 c.8.1 in
      let two : ys ≡ c.2 ++ right c.9.0 = sym ey ∙ ap right (sym c.7) ∙ yielded right c.0 c.2 c.9.0 c.9.1 in
      let same : c.1 ++ left c.8.0 ≡ c.2 ++ left c.8.0 = ap (λ k. k ++ left c.8.0) (zipped c.1 c.2 c.10) in
      let end = stopped c.3 c.4 (left c.8.0) (right c.9.0) (left c.5) (right c.6) r c.8.2 c.9.2 c.11 in (
        λ h. one ∙ same ∙ ap (λ k. c.2 ++ k) (end.0 h) ∙ sym two,
        λ e. end.1 (append_cancel_left c.2 (left c.8.0) (right c.9.0) (sym same ∙ sym one ∙ e ∙ two)),
      )

-- of blocks and of instructions, which `==` tells apart by their numbers

pub blocks_compared : {S T : Type 0} (left : S → List Block) (right : T → List Block) (s : S) (t : T) (r : Bool) (xs ys : List Block) → left s ≡ xs → right t ≡ ys → ComparesItemsByEq (steps_by left) (λ x y. y ≡ x) (steps_by right) s t (λ x y. x.0 == y.0) r → Decides r (xs ≡ ys)
blocks_compared = compared (λ x y. x.0 == y.0) (λ x y. Decides-like (x.0 == y.0) (block_apart x y) (ap block_place) (Decides-eqb x.0 y.0))

pub insts_compared : {S T : Type 0} (left : S → List Inst) (right : T → List Inst) (s : S) (t : T) (r : Bool) (xs ys : List Inst) → left s ≡ xs → right t ≡ ys → ComparesItemsByEq (steps_by left) (λ x y. y ≡ x) (steps_by right) s t (λ x y. x.0 == y.0) r → Decides r (xs ≡ ys)
insts_compared = compared (λ x y. x.0 == y.0) (λ x y. Decides-like (x.0 == y.0) (inst_apart x y) (ap inst_place) (Decides-eqb x.0 y.0))
