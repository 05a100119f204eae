-- The loop that numbers a block anew, turn by turn. Assumes nothing.
use Rattle.std.proofs.Common.{◌≡◌, ℕ, ◌+◌, ◌*◌, ◌<◌, ◌≤◌, List, [], ◌∷◌, length, get_or, Some, None, Option, sym, ◌∙◌, subst, arith}
use Rattle.listing.proofs.Numbered.{insts_tens}
use Rattle.std.proofs.lemmas.Option.{none-some}
use Rattle.chain.specs.Chain.{Misses}
use Rattle.entities.specs.Nodes.{inst_links, no_inst}
use Rattle.entities.specs.Numbering.{tens}
use Rattle.entities.specs.Program.{slot, insts_in}
use Rattle.entities.specs.declared.Inst.{Inst}
use Rattle.entities.specs.declared.nodes.InstNode.{InstNode}
use Rattle.listing.proofs.Parts.{node_reads}
use Rattle.listing.specs.Numbers.{Renumbered, Run}
use Rattle.numbering.specs.Assigned.{AnewFrom, Stored, with_number}
use Rattle.numbering.specs.Local.{Tail}
use Rattle.numbering.proofs.Renumbering.{both, put, unchanged}
use Rattle.numbering.proofs.Tails.{few, headed, run_tail, tail_on, tail_stays}

-- `count` of the block's instructions ks₀ are done, and ks are left, to be numbered from `seq` on: whatever table finishes them has the
-- whole block numbered from `start` on
pub record Left (t₀ t : List InstNode) (ks₀ ks : List Inst) (at : Option Inst) (start seq count : ℕ) : Type 0 where
  pub tail : Tail t at ks
  pub counted : count + length ks ≡ length ks₀
  pub number : seq ≡ start + 10 * count
  pub whole : (u : List InstNode) → Renumbered t u (tens seq ks) → Renumbered t₀ u (tens start ks₀)

left_start : {t : List InstNode} {first : Option Inst} {ks : List Inst} (n : ℕ) → Run t first ks → Left t t ks ks first n n 0
left_start n r = record { tail = run_tail r; counted = omega arith; number = omega arith; whole = λ u h. h }

-- at an instruction: it is the first of those that are left
met : {t₀ t : List InstNode} {ks₀ ks : List Inst} {at : Option Inst} {start seq count : ℕ} (i : Inst) → at ≡ Some i → Left t₀ t ks₀ ks at start seq count → (tail : List Inst) × Left t₀ t ks₀ (i ∷ tail) at start seq count
met {t₀} {t} {ks₀} {ks} {at} {start} {seq} {count} i e l =
    let m = headed i ks (sym e ∙ l.tail.here) in
    (m.0, subst (λ q. Left t₀ t ks₀ q at start seq count) m.1 l)

-- it gets its number, and its link leads on
turn : {t₀ t u : List InstNode} {ks₀ ks : List Inst} {at : Option Inst} {start seq count j : ℕ} {i : Inst} → u ≡ with_number t i seq → j ≡ i.0 → Left t₀ t ks₀ (i ∷ ks) at start seq count → Left t₀ u ks₀ ks (get_or u j no_inst).next start (seq + 10) (count + 1)
turn {t₀} {t} {u} {ks₀} {ks} {at} {start} {seq} {count} {j} {i} e z l =
    let w : Renumbered t u (slot i seq ∷ []) = subst (λ v. Renumbered t v (slot i seq ∷ [])) (sym e) (put t i seq l.tail.within.0) in
    let apart : Misses (Some i) (insts_in (tens (seq + 10) ks)) = subst (λ q. Misses (Some i) q) (sym (insts_tens (seq + 10) ks)) l.tail.distinct.0 in
    let there = tail_stays w.spares l.tail in
    record {
      tail = tail_on (node_reads inst_links.next_of u i.0 j no_inst z there.within.0) there;
      counted = omega (arith, l.counted);
      number = omega (arith, l.number);
      whole = λ v h. l.whole v (both t u v (slot i seq ∷ []) (tens (seq + 10) ks) (apart, tt) w h);
    }

-- at none: all is done
done : {t₀ t : List InstNode} {ks₀ : List Inst} {at : Option Inst} {start seq count : ℕ} (ks : List Inst) → at ≡ None → Left t₀ t ks₀ ks at start seq count → Stored t₀ t (record { slots = tens start ks₀; writes = length ks₀ }) count
done {t₀} {t} [] e l = record { table = l.whole t (unchanged t [] tt); count = omega (arith, l.counted) }
done (k ∷ ks) e l = absurd (none-some k (sym e ∙ l.tail.here))

-- ---- the loop, whatever instructions the block has

-- so far from t₀ to t, `count` numbers from `start` on: what is left stands at `at`, to be numbered from `seq` on
pub record Turns (t₀ t : List InstNode) (first at : Option Inst) (start seq count : ℕ) : Type 0 where
  pub left : (ks : List Inst) → Run t₀ first ks → (rest : List Inst) × Left t₀ t ks rest at start seq count

pub turns_start : {t : List InstNode} {first : Option Inst} (n : ℕ) → Turns t t first first n n 0
turns_start n = record { left = λ ks r. (ks, left_start n r) }

pub turns_on : {t₀ t u : List InstNode} {first at : Option Inst} {start seq count j : ℕ} {i : Inst} → Turns t₀ t first at start seq count → at ≡ Some i → u ≡ with_number t i seq → j ≡ i.0 → Turns t₀ u first (get_or u j no_inst).next start (seq + 10) (count + 1)
turns_on {i = i} p a e z = record { left = λ ks r. let m = met i a (p.left ks r).1 in (m.0, turn e z m.1) }

pub turns_done : {t₀ t : List InstNode} {first at : Option Inst} {start seq count : ℕ} → at ≡ None → Turns t₀ t first at start seq count → AnewFrom t₀ t first start count
turns_done e p ks r = done (p.left ks r).0 e (p.left ks r).1

module _ {t₀ t : List InstNode} {first at : Option Inst} {ks : List Inst} {start seq count : ℕ} {i : Inst} (p : Turns t₀ t first at start seq count) (a : at ≡ Some i) (r : Run t₀ first ks) where
  pub in_table : i.0 < length t
  in_table = (met i a (p.left ks r).1).1.tail.within.0

  -- no more numbers than the table has places
  pub unfinished : count < 1024
  unfinished = omega (arith, (met i a (p.left ks r).1).1.counted, few (run_tail r))

  -- so the next number fits
  pub room : seq + 10 ≤ start + 10 * 1024
  room = omega (arith, unfinished, (p.left ks r).1.number)
