-- Where a key stands in a list: what the words for its neighbours, for a walk on from it, and for a part between two ends say there. Assumes nothing.
use Rattle.std.proofs.Common.{◌≡◌, ℕ, true, false, cond, eqb, List, [], ◌∷◌, ◌++◌, Some, None, Option, sym, refl, ap, ◌∙◌, inl, inr, append_assoc}
use Rattle.std.proofs.lemmas.Option.{none-some, same_Some}
use Rattle.std.proofs.lemmas.Bool.{cases_eq, cases_Bool, eq-eqb, ne_eqb, true≢false, false≢true, both_ways}
use Rattle.chain.proofs.Keys.{disjoint_head, distinct_across, distinct_right, head_or-append, last_or-append, misses_right}
use Rattle.chain.specs.Chain.{Distinct, Misses, head_or, last_or}
use Rattle.entities.specs.Lists.{ahead, ahead_from, behind, from_key, holds, spans, stretch, upto_key, walks_on}

-- a list by the first place where k stands in it
data Stands {K : Type 0} (k : K) : List K → Type 0 where
  at : (xs ys : List K) → Misses (Some k) xs → Stands k (xs ++ (k ∷ ys))

-- a list by its last key
data Tip {K : Type 0} : List K → Type 0 where
  none : Tip []
  tip : (xs : List K) (k : K) → Tip (xs ++ (k ∷ []))

-- a list by a part of it, with the part's first key and last: nothing, or xs and then k
data Part {K : Type 0} : Option K → Option K → List K → Type 0 where
  empty : (xs : List K) → Part None None xs
  upto : (ws xs : List K) (k : K) (ys : List K) → Part (head_or xs (Some k)) (Some k) (ws ++ (xs ++ (k ∷ ys)))

module _ {K : Type 0} where
  later : (k x : K) {xs : List K} → (Some k ≡ Some x → ⊥) → Stands k xs → Stands k (x ∷ xs)
  later k x ne (at xs ys m) = at (x ∷ xs) ys (ne, m)

  tip_more : (x : K) {xs : List K} → Tip xs → Tip (x ∷ xs)
  tip_more x none = tip [] x
  tip_more x (tip xs k) = tip (x ∷ xs) k

  tip_of : (xs : List K) → Tip xs
  tip_of [] = none
  tip_of (x ∷ xs) = tip_more x (tip_of xs)

  fore : (xs : List K) (k : K) (ys : List K) → Distinct (xs ++ (k ∷ ys)) → Misses (Some k) xs
  fore xs k ys d = disjoint_head xs k ys (distinct_across xs (k ∷ ys) d)

module _ {K : Type 0} (place : K → ℕ) (apart : (a b : K) → place a ≡ place b → a ≡ b) where
  same : (k : K) → eqb (place k) (place k) ≡ true
  same k = eq-eqb (place k) (place k) refl

  other : (x k : K) → (Some k ≡ Some x → ⊥) → eqb (place x) (place k) ≡ false
  other x k ne = ne_eqb (place x) (place k) (λ e. ne (ap Some (sym (apart x k e))))

  pub holds_not : (k : K) (xs : List K) → Misses (Some k) xs → holds place k xs ≡ false
  holds_not k [] m = refl
  holds_not k (x ∷ xs) m = rw (other x k m.0) (holds_not k xs m.1)

  pub not_holds : (k : K) (xs : List K) → holds place k xs ≡ false → Misses (Some k) xs
  not_holds k [] h = tt
  not_holds k (x ∷ xs) h =
      elim (cases_eq (place x) (place k)) [
        | inl e ↦ absurd (true≢false (rw (eq-eqb (place x) (place k) e) at h))
        | inr n ↦ (λ q. n (ap place (sym (same_Some k x q))), not_holds k xs (rw (ne_eqb (place x) (place k) n) at h))
      ]

  pub holds_in : (k : K) (xs : List K) → (Misses (Some k) xs → ⊥) → holds place k xs ≡ true
  holds_in k xs f = elim (cases_Bool (holds place k xs)) [ inl h ↦ h | inr h ↦ absurd (f (not_holds k xs h)) ]

  pub in_holds : (k : K) (xs : List K) → holds place k xs ≡ true → Misses (Some k) xs → ⊥
  in_holds k xs h m = both_ways (holds place k xs) (holds_not k xs m) h

  pub holds-append : (k : K) (xs ys : List K) → holds place k (xs ++ ys) ≡ cond (holds place k xs) true (holds place k ys)
  holds-append k [] ys = refl
  holds-append k (x ∷ xs) ys =
      elim (eqb (place x) (place k)) as (λ c. cond c true (holds place k (xs ++ ys)) ≡ cond (cond c true (holds place k xs)) true (holds place k ys)) [
        | true ↦ refl
        | false ↦ holds-append k xs ys
      ]

  -- k is held where it stands, and it stands where it is held
  holds_at : (xs : List K) (k : K) (ys : List K) → holds place k (xs ++ (k ∷ ys)) ≡ true
  holds_at xs k ys = holds_in k (xs ++ (k ∷ ys)) (λ m. (misses_right (Some k) xs (k ∷ ys) m).0 refl)

  stands : (k : K) (xs : List K) → holds place k xs ≡ true → Stands k xs
  stands k [] h = absurd (false≢true h)
  stands k (x ∷ xs) h =
      elim (cases_eq (place x) (place k)) [
        | inl e ↦ rw (apart x k e) (at [] xs tt)
        | inr n ↦ later k x (λ q. n (ap place (sym (same_Some k x q)))) (stands k xs (rw (ne_eqb (place x) (place k) n) at h))
      ]

  -- what is read at the first place where k stands
  behind_first : (xs : List K) (k : K) (ys : List K) → Misses (Some k) xs → behind place k (xs ++ (k ∷ ys)) ≡ head_or ys None
  behind_first [] k ys m = rw (same k)
  behind_first (x ∷ xs) k ys m = rw (other x k m.0) (behind_first xs k ys m.1)

  ahead_first : (o : Option K) (xs : List K) (k : K) (ys : List K) → Misses (Some k) xs → ahead_from place k o (xs ++ (k ∷ ys)) ≡ last_or o xs
  ahead_first o [] k ys m = rw (same k)
  ahead_first o (x ∷ xs) k ys m = rw (other x k m.0) (ahead_first (Some x) xs k ys m.1)

  from_first : (xs : List K) (k : K) (ys : List K) → Misses (Some k) xs → from_key place (Some k) (xs ++ (k ∷ ys)) ≡ k ∷ ys
  from_first [] k ys m = rw (same k)
  from_first (x ∷ xs) k ys m = rw (other x k m.0) (from_first xs k ys m.1)

  upto_first : (xs : List K) (k : K) (ys : List K) → Misses (Some k) xs → upto_key place (Some k) (xs ++ (k ∷ ys)) ≡ xs ++ (k ∷ [])
  upto_first [] k ys m = rw (same k)
  upto_first (x ∷ xs) k ys m = rw (other x k m.0) (ap (λ r. x ∷ r) (upto_first xs k ys m.1))

  pub behind_at : (xs : List K) (k : K) (ys : List K) → Distinct (xs ++ (k ∷ ys)) → behind place k (xs ++ (k ∷ ys)) ≡ head_or ys None
  behind_at xs k ys d = behind_first xs k ys (fore xs k ys d)

  pub ahead_at : (xs : List K) (k : K) (ys : List K) → Distinct (xs ++ (k ∷ ys)) → ahead place k (xs ++ (k ∷ ys)) ≡ last_or None xs
  ahead_at xs k ys d = ahead_first None xs k ys (fore xs k ys d)

  pub behind_none : (k : K) (xs : List K) → Misses (Some k) xs → behind place k xs ≡ None
  behind_none k [] m = refl
  behind_none k (x ∷ xs) m = rw (other x k m.0) (behind_none k xs m.1)

  ahead_from_none : (k : K) (o : Option K) (xs : List K) → Misses (Some k) xs → ahead_from place k o xs ≡ None
  ahead_from_none k o [] m = refl
  ahead_from_none k o (x ∷ xs) m = rw (other x k m.0) (ahead_from_none k (Some x) xs m.1)

  pub ahead_none : (k : K) (xs : List K) → Misses (Some k) xs → ahead place k xs ≡ None
  ahead_none k xs m = ahead_from_none k None xs m

  -- from its first key on, the later part of a list
  from_later : (xs ys : List K) → Distinct (xs ++ ys) → from_key place (head_or ys None) (xs ++ ys) ≡ ys
  from_later xs [] d = refl
  from_later xs (y ∷ ys) d = from_first xs y ys (fore xs y ys d)

  walks_later : (xs ys : List K) → walks_on place (head_or ys None) (xs ++ ys) ≡ true
  walks_later xs [] = refl
  walks_later xs (y ∷ ys) = holds_at xs y ys

  pub walk_start : (xs : List K) → (walks_on place (head_or xs None) xs ≡ true) × (from_key place (head_or xs None) xs ≡ xs)
  walk_start [] = (refl, refl)
  walk_start (x ∷ xs) = (holds_at [] x xs, from_first [] x xs tt)

  pub walk_step : (k : K) (xs : List K) → Distinct xs → holds place k xs ≡ true → (from_key place (Some k) xs ≡ k ∷ from_key place (behind place k xs) xs) × (walks_on place (behind place k xs) xs ≡ true)
  walk_step k xs d h = step (stands k xs h) d
    where
      step : {us : List K} → Stands k us → Distinct us → (from_key place (Some k) us ≡ k ∷ from_key place (behind place k us) us) × (walks_on place (behind place k us) us ≡ true)
      step (at us ys m) e =
          let f : from_key place (head_or ys None) (us ++ (k ∷ ys)) ≡ ys = rw append_assoc at (from_later (us ++ (k ∷ [])) ys (rw append_assoc e)) in
          rw (behind_first us k ys m) (from_first us k ys m ∙ ap (λ r. k ∷ r) (sym f), rw append_assoc at (walks_later (us ++ (k ∷ [])) ys))

  -- h and t span, and zs is what lies between them
  abbrev Covers : Option K → Option K → List K → List K → Type 0
  Covers h t zs xs = (stretch place h t xs ≡ zs) × (spans place h t xs ≡ true)

  spans_from : (h : Option K) (k : K) (xs : List K) → holds place k (from_key place h xs) ≡ true → spans place h (Some k) xs ≡ true
  spans_from None k xs e = e
  spans_from (Some h) k xs e = e

  -- the ends of a part span it
  covers : (ws xs : List K) (k : K) (ys : List K) → Distinct (ws ++ (xs ++ (k ∷ ys))) → Covers (head_or xs (Some k)) (Some k) (xs ++ (k ∷ [])) (ws ++ (xs ++ (k ∷ ys)))
  covers ws xs k ys d =
      let f : from_key place (head_or xs (Some k)) (ws ++ (xs ++ (k ∷ ys))) ≡ xs ++ (k ∷ ys) = rw (← head_or-append xs (k ∷ ys) None) (from_later ws (xs ++ (k ∷ ys)) d) in (
        rw f (upto_first xs k ys (fore xs k ys (distinct_right ws (xs ++ (k ∷ ys)) d))),
        spans_from (head_or xs (Some k)) k (ws ++ (xs ++ (k ∷ ys))) (rw f (holds_at xs k ys)),
      )

  -- a list that from a on holds some key holds a
  from_in : (a b : K) (xs : List K) → holds place b (from_key place (Some a) xs) ≡ true → holds place a xs ≡ true
  from_in a b [] = λ h. h
  from_in a b (x ∷ xs) =
      elim (eqb (place x) (place a)) as (λ c. holds place b (cond c (x ∷ xs) (from_key place (Some a) xs)) ≡ true → cond c true (holds place a xs) ≡ true) [
        | true ↦ λ h. refl
        | false ↦ from_in a b xs
      ]

  -- ends that span are those of a part
  part_to : (ws : List K) (k : K) {xs : List K} → Stands k xs → Part (head_or xs None) (Some k) (ws ++ xs)
  part_to ws k (at xs ys m) = rw (head_or-append xs (k ∷ ys) None) (upto ws xs k ys)

  part_from : (h k : K) {xs : List K} → Stands h xs → holds place k (from_key place (Some h) xs) ≡ true → Part (Some h) (Some k) xs
  part_from h k (at ws xs m) s = part_to ws k (stands k (h ∷ xs) (rw (from_first ws h xs m) at s))

  part : (h t : Option K) (xs : List K) → spans place h t xs ≡ true → Part h t xs
  part None None xs s = empty xs
  part None (Some t) xs s = absurd (false≢true s)
  part (Some h) None xs s = absurd (false≢true s)
  part (Some h) (Some t) xs s = part_from h t (stands h xs (from_in h t xs s)) s

  -- both ends are keys of the list
  pub spans_first : (h t : Option K) (xs : List K) (k : K) → spans place h t xs ≡ true → h ≡ Some k → holds place k xs ≡ true
  spans_first None t xs k s e = absurd (none-some k e)
  spans_first (Some h) None xs k s e = absurd (false≢true s)
  spans_first (Some h) (Some t) xs k s e = rw (← same_Some h k e) (from_in h t xs s)

  pub spans_last : (h t : Option K) (xs : List K) (k : K) → spans place h t xs ≡ true → t ≡ Some k → holds place k xs ≡ true
  spans_last h t xs k s e = final (part h t xs s) e
    where
      final : {o p : Option K} {us : List K} → Part o p us → p ≡ Some k → holds place k us ≡ true
      final (empty us) q = absurd (none-some k q)
      final (upto ws us b ys) q = rw (← same_Some b k q) (rw append_assoc at (holds_at (ws ++ us) b ys))

  pub span_start : (xs : List K) → Distinct xs → (spans place (head_or xs None) (last_or None xs) xs ≡ true) × (stretch place (head_or xs None) (last_or None xs) xs ≡ xs)
  span_start xs d = let c = start (tip_of xs) d in (c.1, c.0)
    where
      start : {us : List K} → Tip us → Distinct us → Covers (head_or us None) (last_or None us) us us
      start none e = (refl, refl)
      start (tip us k) e = rw (head_or-append us (k ∷ []) None, last_or-append None us (k ∷ [])) (covers [] us k [] e)

  pub span_one : (h t : Option K) (xs : List K) (k : K) → Distinct xs → spans place h t xs ≡ true → h ≡ Some k → h ≡ t → stretch place h t xs ≡ k ∷ []
  span_one h t xs k d s e q = rw (← q, e) (one (stands k xs (spans_first h t xs k s e)))
    where
      one : {us : List K} → Stands k us → stretch place (Some k) (Some k) us ≡ k ∷ []
      one (at us ys m) = rw (from_first us k ys m) (upto_first [] k ys tt)

  pub span_front : (h t : Option K) (xs : List K) (k : K) → Distinct xs → spans place h t xs ≡ true → h ≡ Some k → (h ≡ t → ⊥) → (stretch place h t xs ≡ k ∷ stretch place (behind place k xs) t xs) × (spans place (behind place k xs) t xs ≡ true) × (holds place k xs ≡ true)
  span_front h t xs k d s e ne = let f = front (part h t xs s) d e ne in (f.0, f.1, spans_first h t xs k s e)
    where
      front : {o p : Option K} {us : List K} → Part o p us → Distinct us → o ≡ Some k → (o ≡ p → ⊥) → (stretch place o p us ≡ k ∷ stretch place (behind place k us) p us) × (spans place (behind place k us) p us ≡ true)
      front (empty us) m q two = absurd (two refl)
      front (upto ws [] b ys) m q two = absurd (two refl)
      front (upto ws (x ∷ us) b ys) m q two =
          let c : Covers (head_or us (Some b)) (Some b) (us ++ (b ∷ [])) (ws ++ (x ∷ (us ++ (b ∷ ys)))) = rw append_assoc at (covers (ws ++ (x ∷ [])) us b ys (rw append_assoc m)) in
          rw (← same_Some x k q, behind_at ws x (us ++ (b ∷ ys)) m, head_or-append us (b ∷ ys) None) ((covers ws (x ∷ us) b ys m).0 ∙ ap (λ r. x ∷ r) (sym c.0), c.1)

  pub span_back : (h t : Option K) (xs : List K) (k : K) → Distinct xs → spans place h t xs ≡ true → t ≡ Some k → (h ≡ t → ⊥) → (stretch place h t xs ≡ stretch place h (ahead place k xs) xs ++ (k ∷ [])) × (spans place h (ahead place k xs) xs ≡ true) × (holds place k xs ≡ true)
  span_back h t xs k d s e ne = let b = back (part h t xs s) d e ne in (b.0, b.1, spans_last h t xs k s e)
    where
      cut : {us : List K} → Tip us → (ws : List K) (b : K) (ys : List K) → Distinct (ws ++ (us ++ (b ∷ ys))) → (head_or us (Some b) ≡ Some b → ⊥) → Covers (head_or us (Some b)) (ahead place b (ws ++ (us ++ (b ∷ ys)))) us (ws ++ (us ++ (b ∷ ys)))
      cut none ws b ys m two = absurd (two refl)
      cut (tip us c) ws b ys m two =
          let a : ahead place b (ws ++ ((us ++ (c ∷ [])) ++ (b ∷ ys))) ≡ Some c = rw append_assoc at (ahead_at (ws ++ (us ++ (c ∷ []))) b ys (rw append_assoc m)) ∙ last_or-append None ws (us ++ (c ∷ [])) ∙ last_or-append (last_or None ws) us (c ∷ []) in
          rw (a, head_or-append us (c ∷ []) (Some b), append_assoc us (c ∷ []) (b ∷ ys)) (covers ws us c (b ∷ ys) (rw append_assoc at m))

      back : {o p : Option K} {us : List K} → Part o p us → Distinct us → p ≡ Some k → (o ≡ p → ⊥) → (stretch place o p us ≡ stretch place o (ahead place k us) us ++ (k ∷ [])) × (spans place o (ahead place k us) us ≡ true)
      back (empty us) m q two = absurd (two refl)
      back (upto ws us b ys) m q two = let c = cut (tip_of us) ws b ys m two in rw (← same_Some b k q) ((covers ws us b ys m).0 ∙ ap (λ r. r ++ (b ∷ [])) (sym c.0), c.1)
