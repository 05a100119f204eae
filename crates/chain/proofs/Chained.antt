-- What one changed link, and then an insertion or a removal, does to linked keys; over links as functions of keys, with no table.
-- Assumes nothing.
use Rattle.std.proofs.Common.{◌≡◌, List, [], ◌∷◌, ◌++◌, Some, None, Option, sym, refl, ◌∙◌}
use Rattle.std.proofs.lemmas.Option.{none-some}
use Rattle.chain.specs.Chain.{head_or, last_or, Misses, Distinct, Disjoint, Linked}
use Rattle.chain.proofs.Keys.{head_or-append, misses_left, misses_right, distinct_left, distinct_right, distinct_across, disjoint_sym, disjoint_tail, disjoint_head, last_misses, head_misses, last_not, head_not}

-- the links a are kept, and the links b are changed at o alone, to l
pub record Put {K : Type 0} (a b a' b' : K → Option K) (o l : Option K) : Type 0 where
  pub kept : (x : K) → a' x ≡ a x
  pub other : (x : K) → (o ≡ Some x → ⊥) → b' x ≡ b x
  pub here : (x : K) → o ≡ Some x → b' x ≡ l

module _ {K : Type 0} where
  pub split_left : (prv nxt : K → Option K) (p : Option K) (xs ys : List K) (s : Option K) → Linked prv nxt p (xs ++ ys) s → Linked prv nxt p xs (head_or ys s)
  split_left prv nxt p [] ys s l = tt
  split_left prv nxt p (x ∷ xs) ys s l = (l.0, l.1 ∙ head_or-append xs ys s, split_left prv nxt (Some x) xs ys s l.2)

  pub split_right : (prv nxt : K → Option K) (p : Option K) (xs ys : List K) (s : Option K) → Linked prv nxt p (xs ++ ys) s → Linked prv nxt (last_or p xs) ys s
  split_right prv nxt p [] ys s l = l
  split_right prv nxt p (x ∷ xs) ys s l = split_right prv nxt (Some x) xs ys s l.2

  pub joined : (prv nxt : K → Option K) (p : Option K) (xs ys : List K) (s : Option K) → Linked prv nxt p xs (head_or ys s) → Linked prv nxt (last_or p xs) ys s → Linked prv nxt p (xs ++ ys) s
  joined prv nxt p [] ys s a b = b
  joined prv nxt p (x ∷ xs) ys s a b = (a.0, a.1 ∙ sym (head_or-append xs ys s), joined prv nxt (Some x) xs ys s a.2 b)

module _ {K : Type 0} {prv nxt prv' nxt' : K → Option K} where
  pub frame : (o : Option K) (p : Option K) (xs : List K) (s : Option K) → ((x : K) → (o ≡ Some x → ⊥) → prv' x ≡ prv x) → ((x : K) → (o ≡ Some x → ⊥) → nxt' x ≡ nxt x) → Misses o xs → Linked prv nxt p xs s → Linked prv' nxt' p xs s
  frame o p [] s f h m l = tt
  frame o p (x ∷ xs) s f h m l = (f x m.0 ∙ l.0, h x m.0 ∙ l.1, frame o (Some x) xs s f h m.1 l.2)

  -- a changed link spares keys that it misses
  pub spare_next : {o to : Option K} → Put prv nxt prv' nxt' o to → (p : Option K) (xs : List K) (s : Option K) → Misses o xs → Linked prv nxt p xs s → Linked prv' nxt' p xs s
  spare_next {o} u p xs s m l = frame o p xs s (λ x _. u.kept x) u.other m l

  pub spare_prev : {o to : Option K} → Put nxt prv nxt' prv' o to → (p : Option K) (xs : List K) (s : Option K) → Misses o xs → Linked prv nxt p xs s → Linked prv' nxt' p xs s
  spare_prev {o} u p xs s m l = frame o p xs s u.other (λ x _. u.kept x) m l

  -- the last key led on elsewhere
  pub relast : (p : Option K) (xs : List K) (s to : Option K) → Put prv nxt prv' nxt' (last_or None xs) to → Distinct xs → Linked prv nxt p xs s → Linked prv' nxt' p xs to
  relast p [] s to u d l = tt
  relast p (x ∷ []) s to u d l = (u.kept x ∙ l.0, u.here x refl, tt)
  relast p (x ∷ y ∷ ys) s to u d l =
      (u.kept x ∙ l.0, u.other x (last_not x (Some y) ys (λ e. d.0.0 (sym e)) d.0.1) ∙ l.1, relast (Some x) (y ∷ ys) s to u d.1 l.2)

  -- the first key led back elsewhere
  pub rehead : (p : Option K) (xs : List K) (s to : Option K) → Put nxt prv nxt' prv' (head_or xs None) to → Distinct xs → Linked prv nxt p xs s → Linked prv' nxt' to xs s
  rehead p [] s to u d l = tt
  rehead p (x ∷ xs) s to u d l = (u.here x refl, u.kept x ∙ l.1, spare_prev u (Some x) xs s d.0 l.2)

-- four links set in turn: both of key k, to a and b, then the next of p, to c, and the previous of n, to d
pub record Puts {K : Type 0} (prv nxt prv' nxt' : K → Option K) (k : K) (p n a b c d : Option K) : Type 0 where
  pub prv1 : K → Option K
  pub nxt1 : K → Option K
  pub prv2 : K → Option K
  pub nxt2 : K → Option K
  pub prv3 : K → Option K
  pub nxt3 : K → Option K
  pub put1 : Put nxt prv nxt1 prv1 (Some k) a
  pub put2 : Put prv1 nxt1 prv2 nxt2 (Some k) b
  pub put3 : Put prv2 nxt2 prv3 nxt3 p c
  pub put4 : Put nxt3 prv3 nxt' prv' n d

-- at the end of xs and the head of ys, between which k is put in or taken out
module _ {K : Type 0} {prv nxt prv' nxt' : K → Option K} (k : K) (xs ys : List K) where
  own : {a b c d : Option K} → Puts prv nxt prv' nxt' k (last_or None xs) (head_or ys None) a b c d → Misses (Some k) xs → Misses (Some k) ys → (prv' k ≡ a) × (nxt' k ≡ b)
  own u mx my = (
    u.put4.other k (head_not k ys my) ∙ u.put3.kept k ∙ u.put2.kept k ∙ u.put1.here k refl,
    u.put4.kept k ∙ u.put3.other k (last_not k None xs (none-some k) mx) ∙ u.put2.here k refl,
  )

  parts : {a b c d : Option K} → Puts prv nxt prv' nxt' k (last_or None xs) (head_or ys None) a b c d → (s o : Option K) → Misses (Some k) xs → Misses (Some k) ys → Distinct xs → Distinct ys → Disjoint xs ys → Linked prv nxt None xs s → Linked prv nxt o ys None → Linked prv' nxt' None xs c × Linked prv' nxt' d ys None
  parts {c = c} {d = d} u s o mx my dx dy dj lx ly =
      let lx2 = spare_next u.put2 None xs s mx (spare_prev u.put1 None xs s mx lx) in
      let ly2 = spare_next u.put2 o ys None my (spare_prev u.put1 o ys None my ly) in
      let lx3 = relast None xs s c u.put3 dx lx2 in
      let ly3 = spare_next u.put3 o ys None (last_misses xs ys dj) ly2 in
      (spare_prev u.put4 None xs c (head_misses ys xs (disjoint_sym xs ys dj)) lx3, rehead o ys None d u.put4 dy ly3)

  pub insert_linked : Puts prv nxt prv' nxt' k (last_or None xs) (head_or ys None) (last_or None xs) (head_or ys None) (Some k) (Some k) → Distinct (xs ++ ys) → Misses (Some k) (xs ++ ys) → Linked prv nxt None (xs ++ ys) None → Linked prv' nxt' None (xs ++ (k ∷ ys)) None
  insert_linked u d m l =
      let mx = misses_left (Some k) xs ys m in
      let my = misses_right (Some k) xs ys m in
      let both = parts u _ _ mx my (distinct_left xs ys d) (distinct_right xs ys d) (distinct_across xs ys d) (split_left prv nxt None xs ys None l) (split_right prv nxt None xs ys None l) in
      let at = own u mx my in
      joined prv' nxt' None xs (k ∷ ys) None both.0 (at.0, at.1, both.1)

  -- k is left with neither link
  pub remove_linked : Puts prv nxt prv' nxt' k (last_or None xs) (head_or ys None) None None (head_or ys None) (last_or None xs) → Distinct (xs ++ (k ∷ ys)) → Linked prv nxt None (xs ++ (k ∷ ys)) None → Linked prv' nxt' None (xs ++ ys) None × (prv' k ≡ None) × (nxt' k ≡ None)
  remove_linked u d l =
      let across = distinct_across xs (k ∷ ys) d in
      let mx = disjoint_head xs k ys across in
      let dky = distinct_right xs (k ∷ ys) d in
      let both = parts u _ _ mx dky.0 (distinct_left xs (k ∷ ys) d) dky.1 (disjoint_tail xs k ys across) (split_left prv nxt None xs (k ∷ ys) None l) (split_right prv nxt None xs (k ∷ ys) None l).2 in
      let at = own u mx dky.0 in
      (joined prv' nxt' None xs ys None both.0 both.1, at.0, at.1)
