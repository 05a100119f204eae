-- Marks set one after another: what stays unmarked, and how many are left. Assumes nothing.
use Rattle.std.proofs.Common.{◌≡◌, ℕ, zero, suc, ◌<◌, ◌≤◌, ◌≢◌, Bool, true, false, List, [], ◌∷◌, ◌++◌, length, set, get_or, replicate, Some, sym, refl, ap, ◌∙◌, subst, le_of_suc-le-suc, not-suc-le-zero, arith, get_or-set_same, get_or-set_other, length-set}
use Rattle.std.proofs.lemmas.Bool.{true≢false}
use Rattle.std.proofs.lemmas.Option.{same_Some}
use Rattle.chain.specs.Chain.{Misses, AllWithin}
use Rattle.audit_walks.specs.Marks.{Unmarked, AllUnmarked, marked, MoreMarked}

-- how many places are not marked
unfoldable pub left : List Bool → ℕ
left [] = 0
left (true ∷ m) = left m
left (false ∷ m) = suc (left m)

pub left_less : (m : List Bool) (i : ℕ) → i < length m → get_or m i false ≡ false → left (set m i true) < left m
unfolding left
left_less [] i h e = absurd (not-suc-le-zero h)
left_less (true ∷ m) zero h e = absurd (true≢false e)
left_less (false ∷ m) zero h e = omega arith
left_less (true ∷ m) (suc i) h e = left_less m i (le_of_suc-le-suc h) e
left_less (false ∷ m) (suc i) h e = let r : left (set m i true) < left m = left_less m i (le_of_suc-le-suc h) e in omega arith

-- what is unmarked after a mark was unmarked before, and is another place
unset : (m : List Bool) (i j : ℕ) → i < length m → get_or (set m i true) j false ≡ false → (j ≢ i) × (get_or m j false ≡ false)
unset m i j h e =
    let other : j ≢ i = λ q. true≢false (sym (get_or-set_same m i true false h) ∙ ap (λ x. get_or (set m i true) x false) (sym q) ∙ e) in
    (other, sym (get_or-set_other m i j true false other) ∙ e)

pub unmarked_blank : (n i : ℕ) → get_or (replicate n false) i false ≡ false
unmarked_blank zero i = refl
unmarked_blank (suc n) zero = refl
unmarked_blank (suc n) (suc i) = unmarked_blank n i

module _ {K : Type 0} (place : K → ℕ) where
  pub all_unmarked_blank : (n : ℕ) (ks : List K) → AllUnmarked place (replicate n false) ks
  all_unmarked_blank n [] = tt
  all_unmarked_blank n (k ∷ ks) = (unmarked_blank n (place k), all_unmarked_blank n ks)

  pub unset_all : (m : List Bool) (k : K) (ks : List K) → place k < length m → AllUnmarked place (set m (place k) true) ks → Misses (Some k) ks × AllUnmarked place m ks
  unset_all m k [] h a = (tt, tt)
  unset_all m k (x ∷ xs) h a =
      let one = unset m (place k) (place x) h a.0 in
      let rest = unset_all m k xs h a.1 in
      ((λ q. one.0 (ap place (sym (same_Some k x q))), rest.0), (one.1, rest.1))

  pub within_set : (m : List Bool) (i : ℕ) (ks : List K) → AllWithin place (length m) ks → AllWithin place (length (set m i true)) ks
  within_set m i ks a = subst (λ q. AllWithin place q ks) (sym (length-set m i true)) a

  pub within_more : (n m : ℕ) (ks : List K) → n ≤ m → AllWithin place n ks → AllWithin place m ks
  within_more n m [] h a = tt
  within_more n m (k ∷ ks) h a = let lt : place k < n = a.0 in (omega arith, within_more n m ks h a.1)

  -- what is unmarked after ks were marked was unmarked before, and is none of ks
  pub unmarked_misses : (ks : List K) (m : List Bool) (i : K) → AllWithin place (length m) ks → Unmarked place (marked place ks m) i → Misses (Some i) ks × Unmarked place m i
  unmarked_misses [] m i h e = (tt, e)
  unmarked_misses (k ∷ ks) m i h e =
      let rest = unmarked_misses ks (set m (place k) true) i (within_set m (place k) ks h.1) e in
      let one = unset m (place k) (place i) h.0 rest.1 in
      ((λ q. one.0 (ap place (same_Some i k q)), rest.0), one.1)

  pub length-marked : (ks : List K) (m : List Bool) → length (marked place ks m) ≡ length m
  length-marked [] m = refl
  length-marked (k ∷ ks) m = length-marked ks (set m (place k) true) ∙ length-set m (place k) true

  module _ (apart : (a b : K) → place a ≡ place b → a ≡ b) where
    pub set_all : (m : List Bool) (k : K) (ks : List K) → Misses (Some k) ks → AllUnmarked place m ks → AllUnmarked place (set m (place k) true) ks
    set_all m k [] d a = tt
    set_all m k (x ∷ xs) d a =
        let other : place x ≢ place k = λ q. d.0 (ap Some (sym (apart x k q))) in
        (get_or-set_other m (place k) (place x) true false other ∙ a.0, set_all m k xs d.1 a.1)

    -- what was unmarked and is none of ks stays unmarked
    pub misses_unmarked : (ks : List K) (m : List Bool) (i : K) → Misses (Some i) ks → Unmarked place m i → Unmarked place (marked place ks m) i
    misses_unmarked [] m i d e = e
    misses_unmarked (k ∷ ks) m i d e =
        let other : place i ≢ place k = λ q. d.0 (ap Some (apart i k q)) in
        misses_unmarked ks (set m (place k) true) i d.1 (get_or-set_other m (place k) (place i) true false other ∙ e)

marked_last : {K : Type 0} (place : K → ℕ) (ks : List K) (k : K) (m : List Bool) → set (marked place ks m) (place k) true ≡ marked place (ks ++ (k ∷ [])) m
marked_last place [] k m = refl
marked_last place (q ∷ qs) k m = marked_last place qs k (set m (place q) true)

pub none_more : {K : Type 0} (place : K → ℕ) (m : List Bool) → MoreMarked place m m
unfolding MoreMarked
none_more place m = ([], refl)

-- one key more, at place i
pub one_more : {K : Type 0} (place : K → ℕ) (m m' : List Bool) {k : K} {i : ℕ} → MoreMarked place m m' → i ≡ place k → MoreMarked place m (set m' i true)
unfolding MoreMarked
one_more place m m' {k} {i} so_far is =
    (so_far.0 ++ (k ∷ []), ap (λ j. set m' j true) is ∙ ap (λ n. set n (place k) true) so_far.1 ∙ marked_last place so_far.0 k m)
