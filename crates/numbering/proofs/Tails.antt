-- The instructions from one on to the end of their block. Assumes nothing.
use Rattle.std.proofs.Common.{◌≡◌, ◌≤◌, List, [], ◌∷◌, ◌++◌, length, Some, None, Option, sym, refl, ap, ◌∙◌, subst, arith}
use Rattle.std.proofs.lemmas.Option.{none-some, same_Some}
use Rattle.chain.proofs.Chained.{frame, split_right}
use Rattle.chain.proofs.Counting.{no_more}
use Rattle.chain.proofs.Keys.{distinct_right, none_misses, within_right}
use Rattle.chain.specs.Chain.{AllWithin, head_or}
use Rattle.chain.specs.Table.{read_at}
use Rattle.entities.specs.Nodes.{inst_links, inst_place}
use Rattle.entities.specs.declared.Inst.{Inst}
use Rattle.entities.specs.declared.nodes.InstNode.{InstNode}
use Rattle.listing.proofs.Found.{inst_apart}
use Rattle.listing.specs.Numbers.{Renumbers, Run}
use Rattle.numbering.specs.Local.{Tail}

pub run_tail : {t : List InstNode} {first : Option Inst} {ks : List Inst} → Run t first ks → Tail t first ks
run_tail r = record { before = None; here = r.chain.first; linked = r.chain.linked; distinct = r.chain.distinct; within = r.chain.within; size = r.size }

pub tail_from : {t : List InstNode} {first : Option Inst} (xs : List Inst) (i : Inst) (ys : List Inst) → Run t first (xs ++ (i ∷ ys)) → Tail t (Some i) (i ∷ ys)
tail_from {t} xs i ys r = record {
  before = _;
  here = refl;
  linked = split_right (λ k. read_at inst_links.prev_of t (inst_place k)) (λ k. read_at inst_links.next_of t (inst_place k)) None xs (i ∷ ys) None r.chain.linked;
  distinct = distinct_right xs (i ∷ ys) r.chain.distinct;
  within = within_right inst_place (length t) xs (i ∷ ys) r.chain.within;
  size = r.size;
}

-- no more than the table has places
pub few : {t : List InstNode} {at : Option Inst} {ks : List Inst} → Tail t at ks → length ks ≤ 1024
few {t} {at} {ks} r = omega (arith, no_more inst_place inst_apart (length t) ks r.distinct r.within, r.size)

-- numbers were written: it is still there
pub tail_stays : {t u : List InstNode} {at : Option Inst} {ks ls : List Inst} → Renumbers t u ls → Tail t at ks → Tail u at ks
tail_stays {t} {u} {at} {ks} w r = record {
  before = r.before;
  here = r.here;
  linked = frame None r.before ks None (λ x _. w.prev x) (λ x _. w.next x) (none_misses ks) r.linked;
  distinct = r.distinct;
  within = subst (λ n. AllWithin inst_place n ks) (sym w.size) r.within;
  size = subst (λ n. n ≤ 1024) (sym w.size) r.size;
}

-- the link of its first instruction leads on
pub tail_on : {t : List InstNode} {at on : Option Inst} {i : Inst} {ks : List Inst} → on ≡ read_at inst_links.next_of t i.0 → Tail t at (i ∷ ks) → Tail t on ks
tail_on {i = i} o r = record { before = Some i; here = o ∙ r.linked.1; linked = r.linked.2; distinct = r.distinct.1; within = r.within.1; size = r.size }

-- a link to an instruction: it is the first
pub headed : (i : Inst) (ks : List Inst) → Some i ≡ head_or ks None → (tail : List Inst) × (ks ≡ i ∷ tail)
headed i [] e = absurd (none-some i (sym e))
headed i (k ∷ ks) e = (ks, ap (λ q. q ∷ ks) (sym (same_Some i k e)))
