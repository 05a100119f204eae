-- Numbers that rise along a list of instructions, told from neighbours. Assumes nothing.
use Rattle.std.proofs.Common.{◌≡◌, ℕ, zero, suc, ◌+◌, ◌<◌, nat_lt, Bool, true, false, List, [], ◌∷◌, ◌++◌, map, length, get_or, sym, refl, ◌∙◌, subst, arith}
use Rattle.std.proofs.lemmas.Bool.{true≢false}
use Rattle.std.proofs.lemmas.Bool.Decides.{Decides-ltb}
use Rattle.std.specs.Bool.{OnTrue}
use Rattle.std.specs.List.{IsAllAdjacentAnswer}
use Rattle.chain.specs.Table.{read_at}
use Rattle.entities.specs.Nodes.{number_of}
use Rattle.entities.specs.declared.Inst.{Inst}
use Rattle.entities.specs.declared.nodes.InstNode.{InstNode}
use Rattle.listing.specs.Lawful.{Rising, or_zero, slot_of}
use Rattle.audit_rules.specs.Rules.{SlotsRise}

module _ (t : List InstNode) where
  abbrev pub seq : Inst → ℕ
  seq i = or_zero (read_at number_of t i.0)

  climbs : (x : Inst) (ks : List Inst) → ((k : ℕ) (d : Inst) → k + 1 < length (x ∷ ks) → nat_lt (seq (get_or (x ∷ ks) k d)) (seq (get_or (x ∷ ks) (k + 1) d)) ≡ true) → Rising (seq x) (map (slot_of t) ks)
  climbs x [] h = tt
  climbs x (y ∷ ys) h =
      let below : nat_lt (seq x) (seq y) ≡ true = h 0 x (omega arith) in (
        (Decides-ltb (seq x) (seq y)).0 below,
        climbs y ys (λ k d l.
            let e : suc k + 1 ≡ suc (k + 1) = omega arith in
            subst (λ n. nat_lt (seq (get_or (y ∷ ys) k d)) (seq (get_or (x ∷ y ∷ ys) n d)) ≡ true) e (h (suc k) d (omega arith))),
      )

  climb : (x : Inst) (ks : List Inst) → Rising (seq x) (map (slot_of t) ks) → (k : ℕ) (d : Inst) → k + 1 < length (x ∷ ks) → nat_lt (seq (get_or (x ∷ ks) k d)) (seq (get_or (x ∷ ks) (k + 1) d)) ≡ true
  climb x [] r k d l = absurd (omega arith)
  climb x (y ∷ ys) r zero d l = (Decides-ltb (seq x) (seq y)).1 r.0
  climb x (y ∷ ys) r (suc k) d l =
      let e : suc (k + 1) ≡ suc k + 1 = omega arith in
      subst (λ n. nat_lt (seq (get_or (y ∷ ys) k d)) (seq (get_or (x ∷ y ∷ ys) n d)) ≡ true) e (climb y ys r.1 k d (omega arith))

  front : (n : ℕ) (xs ys : List Inst) → Rising n (map (slot_of t) (xs ++ ys)) → Rising n (map (slot_of t) xs)
  front n [] ys r = tt
  front n (x ∷ xs) ys r = (r.0, front (seq x) xs ys r.1)

  rise_front : (xs ys : List Inst) → SlotsRise (map (slot_of t) (xs ++ ys)) → SlotsRise (map (slot_of t) xs)
  rise_front [] ys r = tt
  rise_front (x ∷ xs) ys r = front (seq x) xs ys r

  all_rise : (ks : List Inst) → ((k : ℕ) (d : Inst) → k + 1 < length ks → nat_lt (seq (get_or ks k d)) (seq (get_or ks (k + 1) d)) ≡ true) → SlotsRise (map (slot_of t) ks)
  all_rise [] h = tt
  all_rise (x ∷ xs) h = climbs x xs h

  rise_all : (ks : List Inst) → SlotsRise (map (slot_of t) ks) → (k : ℕ) (d : Inst) → k + 1 < length ks → nat_lt (seq (get_or ks k d)) (seq (get_or ks (k + 1) d)) ≡ true
  rise_all [] r k d l = absurd (omega arith)
  rise_all (x ∷ xs) r k d l = climb x xs r k d l

  -- what `is_sorted_by` says of the items that it took, which are the front of ks, and all of it where it went to the end
  pub sorted : {ks items : List Inst} (behind : List Inst) (whole r : Bool) → ks ≡ items ++ behind → (whole ≡ true → items ≡ ks) → OnTrue r (whole ≡ true) → IsAllAdjacentAnswer (λ x y b. nat_lt (seq x) (seq y) ≡ b) items r → (r ≡ true → SlotsRise (map (slot_of t) ks)) × (SlotsRise (map (slot_of t) ks) → r ≡ true)
  sorted {ks} {items} behind whole true p w o a = (λ _. subst (λ q. SlotsRise (map (slot_of t) q)) (w o) (all_rise items a), λ _. refl)
  sorted {ks} {items} behind whole false p w o a = (
    λ e. absurd (true≢false (sym e)),
    λ r. absurd (true≢false (sym (rise_all items (rise_front items behind (subst (λ q. SlotsRise (map (slot_of t) q)) p r)) a.0 (record { 0 = 0 }) a.1) ∙ a.2 (record { 0 = 0 }))),
  )
