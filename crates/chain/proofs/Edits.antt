-- What an edit of the table does to the chains in it. Assumes nothing.
use Rattle.std.proofs.Common.{◌≡◌, ℕ, zero, suc, ◌<◌, List, [], ◌∷◌, ◌++◌, length, Some, None, Option, sym, refl, ap, ◌∙◌, subst, le_of_suc-le-suc, not-suc-le-zero}
use Rattle.std.proofs.lemmas.Option.{none-some, same_Some}
use Rattle.chain.specs.declared.Ends.{Ends}
use Rattle.chain.specs.Links.{Links}
use Rattle.chain.specs.Table.{alter, alter_at, read_at, Within, if_none, inserted_table, inserted_ends, removed_table, removed_ends, cut_table}
use Rattle.chain.specs.Chain.{head_or, last_or, Misses, AllWithin, Chain, Parted, Inserts, Removes, Cuts}
use Rattle.chain.proofs.Keys.{last_or-append, misses_left, misses_right, distinct_left, distinct_right, distinct_across, distinct_both, disjoint_cons, disjoint_left, disjoint_right, last_misses, head_misses, disjoint_tail, disjoint_head, within_left, within_right, within_both, last_within, head_within}
use Rattle.chain.proofs.Walks.{chain_walked}
use Rattle.chain.proofs.Chained.{Put, Puts, frame, insert_linked, remove_linked, split_left, split_right, spare_next, spare_prev, relast, rehead}

-- ---- one node changed

module _ {N : Type 0} (f : N → N) where
  pub length-alter : (t : List N) (i : ℕ) → length (alter t i f) ≡ length t
  length-alter [] i = refl
  length-alter (n ∷ ns) zero = refl
  length-alter (n ∷ ns) (suc i) = ap suc (length-alter ns i)

  module _ {K : Type 0} (link : N → Option K) where
    pub read_other : (t : List N) (i j : ℕ) → (i ≡ j → ⊥) → read_at link (alter t i f) j ≡ read_at link t j
    read_other [] i j h = refl
    read_other (n ∷ ns) zero zero h = absurd (h refl)
    read_other (n ∷ ns) zero (suc j) h = refl
    read_other (n ∷ ns) (suc i) zero h = refl
    read_other (n ∷ ns) (suc i) (suc j) h = read_other ns i j (λ e. h (ap suc e))

    pub read_kept : ((n : N) → link (f n) ≡ link n) → (t : List N) (i j : ℕ) → read_at link (alter t i f) j ≡ read_at link t j
    read_kept k [] i j = refl
    read_kept k (n ∷ ns) zero zero = k n
    read_kept k (n ∷ ns) zero (suc j) = refl
    read_kept k (n ∷ ns) (suc i) zero = refl
    read_kept k (n ∷ ns) (suc i) (suc j) = read_kept k ns i j

    pub read_here : (l : Option K) → ((n : N) → link (f n) ≡ l) → (t : List N) (i : ℕ) → i < length t → read_at link (alter t i f) i ≡ l
    read_here l k [] i h = absurd (not-suc-le-zero h)
    read_here l k (n ∷ ns) zero h = k n
    read_here l k (n ∷ ns) (suc i) h = read_here l k ns i (le_of_suc-le-suc h)

module _ {N K : Type 0} (place : K → ℕ) (f : N → N) where
  pub length-alter_at : (t : List N) (o : Option K) → length (alter_at place t o f) ≡ length t
  length-alter_at t None = refl
  length-alter_at t (Some k) = length-alter f t (place k)

  pub within_after : (t : List N) (o q : Option K) → Within place (length t) q → Within place (length (alter_at place t o f)) q
  within_after t o q w = subst (λ n. Within place n q) (sym (length-alter_at t o)) w

  pub all_within_after : (t : List N) (o : Option K) (ks : List K) → AllWithin place (length t) ks → AllWithin place (length (alter_at place t o f)) ks
  all_within_after t o ks w = subst (λ n. AllWithin place n ks) (sym (length-alter_at t o)) w

module _ {N K : Type 0} {place : K → ℕ} (apart : (a b : K) → place a ≡ place b → a ≡ b) where
  pub link_spared : {A : Type 0} (link : N → Option A) (f : N → N) (t : List N) (o : Option K) (x : K) → (o ≡ Some x → ⊥) → read_at link (alter_at place t o f) (place x) ≡ read_at link t (place x)
  link_spared link f t None x h = refl
  link_spared link f t (Some k) x h = read_other f link t (place k) (place x) (λ e. h (ap Some (apart k x e)))

  -- whatever is done to a node, a chain that misses it stays
  pub spared : (links : Links N K) (f : N → N) (t : List N) (o : Option K) (e : Ends K) (ks : List K) → Misses o ks → Chain place links t e ks → Chain place links (alter_at place t o f) e ks
  spared links f t o e ks m c = record {
    first = c.first;
    last = c.last;
    linked = frame o None ks None (link_spared links.prev_of f t o) (link_spared links.next_of f t o) m c.linked;
    distinct = c.distinct;
    within = all_within_after place f t o ks c.within;
  }

  -- one kind of link is set, the other kept
  put : (kept_of set_of : N → Option K) (f : N → N) (l : Option K) → ((n : N) → kept_of (f n) ≡ kept_of n) → ((n : N) → set_of (f n) ≡ l) → (t : List N) (o : Option K) → Within place (length t) o → Put (λ k. read_at kept_of t (place k)) (λ k. read_at set_of t (place k)) (λ k. read_at kept_of (alter_at place t o f) (place k)) (λ k. read_at set_of (alter_at place t o f) (place k)) o l
  put kept_of set_of f l k s t None w = record { kept = λ x. refl; other = λ x h. refl; here = λ x e. absurd (none-some x e) }
  put kept_of set_of f l k s t (Some y) w = record {
    kept = λ x. read_kept f kept_of k t (place y) (place x);
    other = λ x h. link_spared set_of f t (Some y) x h;
    here = λ x e. subst (λ z. read_at set_of (alter t (place y) f) (place z) ≡ l) (same_Some y x e) (read_here f set_of l s t (place y) w);
  }

-- ---- ends

if_last : {K : Type 0} (x : K) (xs : List K) (a b : Option K) → if_none (last_or (Some x) xs) a b ≡ b
if_last x [] a b = refl
if_last x (y ∷ ys) a b = if_last y ys a b

module _ {K : Type 0} (e : Ends K) (k : K) where
  inserted_first : (xs ys : List K) → e.first ≡ head_or (xs ++ ys) None → if_none (last_or None xs) (Some k) e.first ≡ head_or (xs ++ (k ∷ ys)) None
  inserted_first [] ys h = refl
  inserted_first (x ∷ xs) ys h = if_last x xs (Some k) e.first ∙ h

  inserted_last : (xs ys : List K) → e.last ≡ last_or None (xs ++ ys) → if_none (head_or ys None) (Some k) e.last ≡ last_or None (xs ++ (k ∷ ys))
  inserted_last xs [] h = sym (last_or-append None xs (k ∷ []))
  inserted_last xs (y ∷ ys) h = h ∙ last_or-append None xs (y ∷ ys) ∙ sym (last_or-append None xs (k ∷ y ∷ ys))

  removed_first : (xs ys : List K) → e.first ≡ head_or (xs ++ (k ∷ ys)) None → if_none (last_or None xs) (head_or ys None) e.first ≡ head_or (xs ++ ys) None
  removed_first [] ys h = refl
  removed_first (x ∷ xs) ys h = if_last x xs (head_or ys None) e.first ∙ h

  removed_last : (xs ys : List K) → e.last ≡ last_or None (xs ++ (k ∷ ys)) → if_none (head_or ys None) (last_or None xs) e.last ≡ last_or None (xs ++ ys)
  removed_last xs [] h = sym (last_or-append None xs [])
  removed_last xs (y ∷ ys) h = h ∙ last_or-append None xs (k ∷ y ∷ ys) ∙ sym (last_or-append None xs (y ∷ ys))

-- ---- insertion and removal

module _ {N K : Type 0} {place : K → ℕ} (apart : (a b : K) → place a ≡ place b → a ≡ b) (links : Links N K) where
  put_prev : (t : List N) (o l : Option K) → Within place (length t) o → Put (λ k. read_at links.next_of t (place k)) (λ k. read_at links.prev_of t (place k)) (λ k. read_at links.next_of (alter_at place t o (λ n. links.with_prev n l)) (place k)) (λ k. read_at links.prev_of (alter_at place t o (λ n. links.with_prev n l)) (place k)) o l
  put_prev t o l h = put apart links.next_of links.prev_of (λ n. links.with_prev n l) l (λ n. links.next_kept n l) (λ n. links.prev_set n l) t o h

  put_next : (t : List N) (o l : Option K) → Within place (length t) o → Put (λ k. read_at links.prev_of t (place k)) (λ k. read_at links.next_of t (place k)) (λ k. read_at links.prev_of (alter_at place t o (λ n. links.with_next n l)) (place k)) (λ k. read_at links.next_of (alter_at place t o (λ n. links.with_next n l)) (place k)) o l
  put_next t o l h = put apart links.prev_of links.next_of (λ n. links.with_next n l) l (λ n. links.prev_kept n l) (λ n. links.next_set n l) t o h

  -- both links of key k set, then the next of p and the previous of n: an insertion and a removal are both of this form
  abbrev relinked : List N → K → (p n a b c d : Option K) → List N
  relinked t k p n a b c d =
      let t1 = alter_at place t (Some k) (λ m. links.with_prev m a) in
      let t2 = alter_at place t1 (Some k) (λ m. links.with_next m b) in
      let t3 = alter_at place t2 p (λ m. links.with_next m c) in
      alter_at place t3 n (λ m. links.with_prev m d)

  module _ (t : List N) (k : K) (p n a b c d : Option K) where
    puts : place k < length t → Within place (length t) p → Within place (length t) n → Puts (λ q. read_at links.prev_of t (place q)) (λ q. read_at links.next_of t (place q)) (λ q. read_at links.prev_of (relinked t k p n a b c d) (place q)) (λ q. read_at links.next_of (relinked t k p n a b c d) (place q)) k p n a b c d
    puts hk hp hn =
        let t1 : List N = alter_at place t (Some k) (λ m. links.with_prev m a) in
        let t2 : List N = alter_at place t1 (Some k) (λ m. links.with_next m b) in
        let t3 : List N = alter_at place t2 p (λ m. links.with_next m c) in
        let in1 = within_after place (λ m. links.with_prev m a) t (Some k) in
        let in2 = within_after place (λ m. links.with_next m b) t1 (Some k) in
        let in3 = within_after place (λ m. links.with_next m c) t2 p in
        record {
          prv1 = _;
          nxt1 = _;
          prv2 = _;
          nxt2 = _;
          prv3 = _;
          nxt3 = _;
          put1 = put_prev t (Some k) a hk;
          put2 = put_next t1 (Some k) b (in1 (Some k) hk);
          put3 = put_next t2 p c (in2 p (in1 p hp));
          put4 = put_prev t3 n d (in3 n (in2 n (in1 n hn)));
        }

    relinked_within : (ks : List K) → AllWithin place (length t) ks → AllWithin place (length (relinked t k p n a b c d)) ks
    relinked_within ks w =
        let keep = all_within_after place in
        keep _ _ n ks (keep _ _ p ks (keep _ _ (Some k) ks (keep _ t (Some k) ks w)))

    -- another chain stays, if it has none of the keys at hand
    relinked_spares : (e : Ends K) (ls : List K) → Misses (Some k) ls → Misses p ls → Misses n ls → Chain place links t e ls → Chain place links (relinked t k p n a b c d) e ls
    relinked_spares e ls mk mp mn h =
        let go = spared apart links in
        go _ _ n e ls mn (go _ _ p e ls mp (go _ _ (Some k) e ls mk (go _ t (Some k) e ls mk h)))

  inserted_chain : (t : List N) (e : Ends K) (k : K) (xs ys : List K) → place k < length t → Misses (Some k) (xs ++ ys) → Chain place links t e (xs ++ ys) → Chain place links (inserted_table place links t (last_or None xs) (head_or ys None) k) (inserted_ends e (last_or None xs) (head_or ys None) k) (xs ++ (k ∷ ys))
  inserted_chain t e k xs ys h m c =
      let p : Option K = last_or None xs in
      let n : Option K = head_or ys None in
      let ax = within_left place (length t) xs ys c.within in
      let ay = within_right place (length t) xs ys c.within in
      let u = puts t k p n p n (Some k) (Some k) h (last_within place (length t) xs ax) (head_within place (length t) ys ay) in
      record {
        first = inserted_first e k xs ys c.first;
        last = inserted_last e k xs ys c.last;
        linked = insert_linked k xs ys u c.distinct m c.linked;
        distinct = distinct_both xs (k ∷ ys) (distinct_left xs ys c.distinct) (misses_right (Some k) xs ys m, distinct_right xs ys c.distinct) (disjoint_cons xs k ys (misses_left (Some k) xs ys m) (distinct_across xs ys c.distinct));
        within = relinked_within t k p n p n (Some k) (Some k) (xs ++ (k ∷ ys)) (within_both place (length t) xs (k ∷ ys) ax (h, ay));
      }

  -- the chain without k, and k with neither link
  removed_chain : (t : List N) (e : Ends K) (k : K) (xs ys : List K) → Chain place links t e (xs ++ (k ∷ ys)) → let u : List N = removed_table place links t (last_or None xs) (head_or ys None) k in Chain place links u (removed_ends e (last_or None xs) (head_or ys None)) (xs ++ ys) × (read_at links.prev_of u (place k) ≡ None) × (read_at links.next_of u (place k) ≡ None)
  removed_chain t e k xs ys c =
      let p : Option K = last_or None xs in
      let n : Option K = head_or ys None in
      let ax = within_left place (length t) xs (k ∷ ys) c.within in
      let aky = within_right place (length t) xs (k ∷ ys) c.within in
      let u = puts t k p n None None n p aky.0 (last_within place (length t) xs ax) (head_within place (length t) ys aky.1) in
      let dky = distinct_right xs (k ∷ ys) c.distinct in
      let done = remove_linked k xs ys u c.distinct c.linked in (
        record {
          first = removed_first e k xs ys c.first;
          last = removed_last e k xs ys c.last;
          linked = done.0;
          distinct = distinct_both xs ys (distinct_left xs (k ∷ ys) c.distinct) dky.1 (disjoint_tail xs k ys (distinct_across xs (k ∷ ys) c.distinct));
          within = relinked_within t k p n None None n p (xs ++ ys) (within_both place (length t) xs ys ax aky.1);
        },
        done.1,
        done.2,
      )

  pub inserts : (t : List N) (e : Ends K) (k : K) (p n : Option K) (t' : List N) (e' : Ends K) → place k < length t → t' ≡ inserted_table place links t p n k → e' ≡ inserted_ends e p n k → Inserts place links t e k p n t' e'
  inserts t e k p n t' e' h a b xs ys ep en c m =
      let made = inserted_chain t e k xs ys h m c in
      rw (a, b, ep, en) (record {
        chain = made;
        walked = chain_walked made;
        others = λ d ls other far mk. relinked_spares t k _ _ _ _ _ _ d ls mk (last_misses xs ls (disjoint_left xs ys ls far)) (head_misses ys ls (disjoint_right xs ys ls far)) other;
      })

  pub removes : (t : List N) (e : Ends K) (k : K) (p n : Option K) (t' : List N) (e' : Ends K) → t' ≡ removed_table place links t p n k → e' ≡ removed_ends e p n → Removes place links t e k p n t' e'
  removes t e k p n t' e' a b xs ys ep en c =
      let done = removed_chain t e k xs ys c in
      rw (a, b, ep, en) (
        record {
          chain = done.0;
          walked = chain_walked done.0;
          others = λ d ls other far mk. relinked_spares t k _ _ _ _ _ _ d ls mk (last_misses xs ls (disjoint_left xs (k ∷ ys) ls far)) (head_misses ys ls (disjoint_right xs (k ∷ ys) ls far).1) other;
        },
        done.1,
        done.2,
      )

  -- ---- a cut

  cut_spares : (t : List N) (p : Option K) (k : K) (e : Ends K) (ls : List K) → Misses (Some k) ls → Misses p ls → Chain place links t e ls → Chain place links (cut_table place links t p k) e ls
  cut_spares t p k e ls mk mp c =
      let go = spared apart links in
      go _ _ (Some k) e ls mk (go _ _ p e ls mp c)

  cut_chains : (t : List N) (k : K) (e : Ends K) (xs ys : List K) → Chain place links t e (xs ++ (k ∷ ys)) → Parted place links t xs k ys e.last (cut_table place links t (last_or None xs) k)
  cut_chains t k e xs ys c =
      let p : Option K = last_or None xs in
      let on : N → N = λ m. links.with_next m None in
      let back : N → N = λ m. links.with_prev m None in
      let t1 : List N = alter_at place t p on in
      let t2 : List N = cut_table place links t p k in
      let ax = within_left place (length t) xs (k ∷ ys) c.within in
      let aky = within_right place (length t) xs (k ∷ ys) c.within in
      let u1 = put_next t p None (last_within place (length t) xs ax) in
      let u2 = put_prev t1 (Some k) None (within_after place on t p (Some k) aky.0) in
      let prv : K → Option K = λ q. read_at links.prev_of t (place q) in
      let nxt : K → Option K = λ q. read_at links.next_of t (place q) in
      let across = distinct_across xs (k ∷ ys) c.distinct in
      let dky = distinct_right xs (k ∷ ys) c.distinct in
      let keep = all_within_after place in
      let one : Chain place links t2 (record { first = head_or xs None; last = p }) xs = record {
        first = refl;
        last = refl;
        linked = spare_prev u2 None xs None (disjoint_head xs k ys across) (relast None xs (Some k) None u1 (distinct_left xs (k ∷ ys) c.distinct) (split_left prv nxt None xs (k ∷ ys) None c.linked));
        distinct = distinct_left xs (k ∷ ys) c.distinct;
        within = keep back t1 (Some k) xs (keep on t p xs ax);
      } in
      let two : Chain place links t2 (record { first = Some k; last = e.last }) (k ∷ ys) = record {
        first = refl;
        last = c.last ∙ last_or-append None xs (k ∷ ys);
        linked = rehead p (k ∷ ys) None None u2 dky (spare_next u1 p (k ∷ ys) None (last_misses xs (k ∷ ys) across) (split_right prv nxt None xs (k ∷ ys) None c.linked));
        distinct = dky;
        within = keep back t1 (Some k) (k ∷ ys) (keep on t p (k ∷ ys) aky);
      } in
      record {
        ahead = one;
        behind = two;
        ahead_walked = chain_walked one;
        behind_walked = chain_walked two;
        others = λ d ls other far. cut_spares t p k d ls (disjoint_right xs (k ∷ ys) ls far).0 (last_misses xs ls (disjoint_left xs (k ∷ ys) ls far)) other;
      }

  pub cuts : (t : List N) (k : K) (p : Option K) (t' : List N) → p ≡ read_at links.prev_of t (place k) → t' ≡ cut_table place links t p k → Cuts place links t k t'
  cuts t k p t' ep a e xs ys c =
      let at = (split_right (λ q. read_at links.prev_of t (place q)) (λ q. read_at links.next_of t (place q)) None xs (k ∷ ys) None c.linked).0 in
      rw (a, ep, at) (cut_chains t k e xs ys c)
