-- A walk along the links of a chain gives its keys. Assumes nothing.
use Rattle.std.proofs.Common.{◌≡◌, ℕ, zero, suc, ◌+◌, ◌-◌, ◌≤◌, List, [], ◌∷◌, ◌++◌, reverse, length, Some, None, Option, sym, refl, ap, ◌∙◌, subst, append-nil, suc-add, arith}
use mathlib.Core.List.{reverse-cons}
use lib.Seq.{append_snoc}
use Rattle.chain.specs.Chain.{head_or, last_or, Linked, walk, Gives, Chain, Walked, keys_from}
use Rattle.chain.proofs.Keys.{last_within}
use Rattle.chain.specs.Table.{read_at, Within}
use Rattle.chain.specs.declared.Ends.{Ends}
use Rattle.chain.specs.Links.{Links}
use Rattle.chain.proofs.Counting.{no_more}

module _ {K : Type 0} (prv nxt : K → Option K) where
  walk_none : (link : K → Option K) (m : ℕ) → walk link m None ≡ []
  walk_none link zero = refl
  walk_none link (suc m) = refl

  pub walk_next : (p : Option K) (ks : List K) (m : ℕ) → Linked prv nxt p ks None → walk nxt (length ks + m) (head_or ks None) ≡ ks
  walk_next p [] m l = walk_none nxt (0 + m)
  walk_next p (k ∷ ks) m l =
      ap (λ n. walk nxt n (Some k)) (suc-add (length ks) m) ∙ ap (λ o. k ∷ walk nxt (length ks + m) o) l.1 ∙ ap (λ r. k ∷ r) (walk_next (Some k) ks m l.2)

-- a chain's keys are those that a walk gives
pub chain_keys : {N K : Type 0} {place : K → ℕ} (apart : (a b : K) → place a ≡ place b → a ≡ b) {links : Links N K} {t : List N} {e : Ends K} {ks : List K} → Chain place links t e ks → keys_from place links t e.first ≡ ks
chain_keys {N} {K} {place} apart {links} {t} {e} {ks} c =
    let prv : K → Option K = λ k. read_at links.prev_of t (place k) in
    let nxt : K → Option K = λ k. read_at links.next_of t (place k) in
    let few : length ks ≤ length t = no_more place apart (length t) ks c.distinct c.within in
    let sum : length t ≡ length ks + (length t - length ks) = omega arith in
    ap (λ o. walk nxt (length t) o) c.first ∙ ap (λ n. walk nxt n (head_or ks None)) sum ∙ walk_next prv nxt None ks (length t - length ks) c.linked

-- ---- asking again and again

module _ {K : Type 0} (prv nxt : K → Option K) where
  gives_next : (p : Option K) (ks : List K) → Linked prv nxt p ks None → Gives nxt (head_or ks None) ks
  gives_next p [] l = refl
  gives_next p (k ∷ ks) l = (refl, subst (λ o. Gives nxt o ks) (sym l.1) (gives_next (Some k) ks l.2))

  gives_back : (p : Option K) (ks : List K) (s : Option K) (acc : List K) → Linked prv nxt p ks s → Gives prv p acc → Gives prv (last_or p ks) (reverse ks ++ acc)
  gives_back p [] s acc l g = g
  gives_back p (k ∷ ks) s acc l g =
      subst (λ q. Gives prv (last_or (Some k) ks) q) (sym (append_snoc (reverse ks) k acc) ∙ ap (λ r. r ++ acc) (sym (reverse-cons k ks)))
      (gives_back (Some k) ks s (k ∷ acc) l.2 (refl, subst (λ o. Gives prv o acc) (sym l.0) g))

  gives_prev : (ks : List K) (s : Option K) → Linked prv nxt None ks s → Gives prv (last_or None ks) (reverse ks)
  gives_prev ks s l = subst (λ q. Gives prv (last_or None ks) q) (append-nil (reverse ks)) (gives_back None ks s [] l refl)

-- a chain can be walked both ways
pub chain_walked : {N K : Type 0} {place : K → ℕ} {links : Links N K} {t : List N} {e : Ends K} {ks : List K} → Chain place links t e ks → Walked place links t e ks
chain_walked {N} {K} {place} {links} {t} {e} {ks} c =
    let prv : K → Option K = λ k. read_at links.prev_of t (place k) in
    let nxt : K → Option K = λ k. read_at links.next_of t (place k) in
    record {
      forward = subst (λ o. Gives nxt o ks) (sym c.first) (gives_next prv nxt None ks c.linked);
      backward = subst (λ o. Gives prv o (reverse ks)) (sym c.last) (gives_prev prv nxt ks None c.linked);
    }

pub walk_few : {K : Type 0} (link : K → Option K) (n : ℕ) (o : Option K) → length (walk link n o) ≤ n
walk_few link zero o = omega arith
walk_few link (suc n) None = omega arith
walk_few link (suc n) (Some k) = let h : length (walk link n (link k)) ≤ n = walk_few link n (link k) in omega arith

-- the last key of a chain is in the table
pub last_in : {N K : Type 0} {place : K → ℕ} {links : Links N K} {t : List N} {e : Ends K} {ks : List K} → Chain place links t e ks → Within place (length t) e.last
last_in {N} {K} {place} {links} {t} {e} {ks} c = subst (λ o. Within place (length t) o) (sym c.last) (last_within place (length t) ks c.within)
