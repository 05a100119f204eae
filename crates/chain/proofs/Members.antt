-- Which keys a chain has, told from the links. Assumes nothing.
use Rattle.std.proofs.Common.{◌≡◌, ℕ, zero, suc, List, [], ◌∷◌, map, length, Some, None, Option, sym, refl, ap, ◌∙◌}
use Rattle.std.proofs.lemmas.Option.{none-some, same_Some}
use Rattle.chain.specs.Links.{Links}
use Rattle.chain.specs.declared.Ends.{Ends}
use Rattle.chain.specs.Table.{alter, alter_at, read_at, inserted_table, removed_table, cut_table}
use Rattle.chain.specs.Chain.{head_or, Misses, Linked, Chain}
use Rattle.chain.proofs.Edits.{link_spared, read_kept, length-alter_at}

-- behind another key each has a link back
behind : {K : Type 0} (prv nxt : K → Option K) (k p : K) (ks : List K) (s : Option K) → prv k ≡ None → Linked prv nxt (Some p) ks s → Misses (Some k) ks
behind prv nxt k p [] s h l = tt
behind prv nxt k p (x ∷ xs) s h l =
    (λ e. none-some p (sym h ∙ ap prv (same_Some k x e) ∙ l.0), behind prv nxt k x xs s h l.2)

misses_by : {K : Type 0} (prv nxt : K → Option K) (k : K) (ks : List K) → (head_or ks None ≡ Some k → ⊥) → prv k ≡ None → Linked prv nxt None ks None → Misses (Some k) ks
misses_by prv nxt k [] f h l = tt
misses_by prv nxt k (x ∷ xs) f h l = (λ e. f (sym e), behind prv nxt k x xs None h l.2)

pub map-alter : {N A : Type 0} (f : N → N) (field : N → A) → ((n : N) → field (f n) ≡ field n) → (t : List N) (i : ℕ) → map field (alter t i f) ≡ map field t
map-alter f field h [] i = refl
map-alter f field h (n ∷ ns) zero = ap (λ a. a ∷ map field ns) (h n)
map-alter f field h (n ∷ ns) (suc i) = ap (λ rest. field n ∷ rest) (map-alter f field h ns i)

module _ {N K : Type 0} {place : K → ℕ} {links : Links N K} {t : List N} {e : Ends K} {ks : List K} (c : Chain place links t e ks) (k : K) where
  pub not_in : (e.first ≡ Some k → ⊥) → read_at links.prev_of t (place k) ≡ None → Misses (Some k) ks
  not_in f h = misses_by (λ q. read_at links.prev_of t (place q)) (λ q. read_at links.next_of t (place q)) k ks (λ q. f (c.first ∙ q)) h c.linked

-- a reading of a node that is none of those at hand stays
module _ {N K : Type 0} {place : K → ℕ} (apart : (a b : K) → place a ≡ place b → a ≡ b) (links : Links N K) {A : Type 0} (link : N → Option A) (t : List N) (p n : Option K) (k x : K) (hp : p ≡ Some x → ⊥) (hn : n ≡ Some x → ⊥) (hk : Some k ≡ Some x → ⊥) where
  pub inserted_away : read_at link (inserted_table place links t p n k) (place x) ≡ read_at link t (place x)
  inserted_away =
      link_spared apart link _ _ n x hn ∙ link_spared apart link _ _ p x hp ∙ link_spared apart link _ _ (Some k) x hk ∙ link_spared apart link _ t (Some k) x hk

  pub removed_away : read_at link (removed_table place links t p n k) (place x) ≡ read_at link t (place x)
  removed_away =
      link_spared apart link _ _ n x hn ∙ link_spared apart link _ _ p x hp ∙ link_spared apart link _ _ (Some k) x hk ∙ link_spared apart link _ t (Some k) x hk

pub cut_away : {N K : Type 0} {place : K → ℕ} (apart : (a b : K) → place a ≡ place b → a ≡ b) (links : Links N K) {A : Type 0} (link : N → Option A) (t : List N) (p : Option K) (k x : K) → (p ≡ Some x → ⊥) → (Some k ≡ Some x → ⊥) → read_at link (cut_table place links t p k) (place x) ≡ read_at link t (place x)
cut_away apart links link t p k x hp hk = link_spared apart link _ _ (Some k) x hk ∙ link_spared apart link _ t p x hp

-- a reading that neither link changes stays at every node
module _ {N K : Type 0} (place : K → ℕ) (links : Links N K) {A : Type 0} (link : N → Option A) (a : (n : N) (l : Option K) → link (links.with_prev n l) ≡ link n) (b : (n : N) (l : Option K) → link (links.with_next n l) ≡ link n) where
  kept_at : (f : N → N) → ((n : N) → link (f n) ≡ link n) → (t : List N) (o : Option K) (j : ℕ) → read_at link (alter_at place t o f) j ≡ read_at link t j
  kept_at f h t None j = refl
  kept_at f h t (Some k) j = read_kept f link h t (place k) j

  pub inserted_keeps : (t : List N) (p n : Option K) (k : K) (j : ℕ) → read_at link (inserted_table place links t p n k) j ≡ read_at link t j
  inserted_keeps t p n k j =
      kept_at _ (λ m. a m (Some k)) _ n j ∙ kept_at _ (λ m. b m (Some k)) _ p j ∙ kept_at _ (λ m. b m n) _ (Some k) j ∙ kept_at _ (λ m. a m p) t (Some k) j

  pub removed_keeps : (t : List N) (p n : Option K) (k : K) (j : ℕ) → read_at link (removed_table place links t p n k) j ≡ read_at link t j
  removed_keeps t p n k j =
      kept_at _ (λ m. a m p) _ n j ∙ kept_at _ (λ m. b m n) _ p j ∙ kept_at _ (λ m. b m None) _ (Some k) j ∙ kept_at _ (λ m. a m None) t (Some k) j

  pub cut_keeps : (t : List N) (p : Option K) (k : K) (j : ℕ) → read_at link (cut_table place links t p k) j ≡ read_at link t j
  cut_keeps t p k j = kept_at _ (λ m. a m None) _ (Some k) j ∙ kept_at _ (λ m. b m None) t p j

-- the same of a field, over the whole table
module _ {N K A : Type 0} (place : K → ℕ) (links : Links N K) (field : N → A) (a : (n : N) (l : Option K) → field (links.with_prev n l) ≡ field n) (b : (n : N) (l : Option K) → field (links.with_next n l) ≡ field n) where
  map_at : (f : N → N) → ((n : N) → field (f n) ≡ field n) → (t : List N) (o : Option K) → map field (alter_at place t o f) ≡ map field t
  map_at f h t None = refl
  map_at f h t (Some k) = map-alter f field h t (place k)

  pub inserted_map : (t : List N) (p n : Option K) (k : K) → map field (inserted_table place links t p n k) ≡ map field t
  inserted_map t p n k =
      map_at _ (λ m. a m (Some k)) _ n ∙ map_at _ (λ m. b m (Some k)) _ p ∙ map_at _ (λ m. b m n) _ (Some k) ∙ map_at _ (λ m. a m p) t (Some k)

  pub removed_map : (t : List N) (p n : Option K) (k : K) → map field (removed_table place links t p n k) ≡ map field t
  removed_map t p n k =
      map_at _ (λ m. a m p) _ n ∙ map_at _ (λ m. b m n) _ p ∙ map_at _ (λ m. b m None) _ (Some k) ∙ map_at _ (λ m. a m None) t (Some k)

module _ {N K : Type 0} (place : K → ℕ) (links : Links N K) (t : List N) (p n : Option K) (k : K) where
  pub length_inserted : length (inserted_table place links t p n k) ≡ length t
  length_inserted = length-alter_at place _ _ n ∙ length-alter_at place _ _ p ∙ length-alter_at place _ _ (Some k) ∙ length-alter_at place _ t (Some k)

  pub length_removed : length (removed_table place links t p n k) ≡ length t
  length_removed = length-alter_at place _ _ n ∙ length-alter_at place _ _ p ∙ length-alter_at place _ _ (Some k) ∙ length-alter_at place _ t (Some k)

pub length_cut : {N K : Type 0} (place : K → ℕ) (links : Links N K) (t : List N) (p : Option K) (k : K) → length (cut_table place links t p k) ≡ length t
length_cut place links t p k = length-alter_at place _ _ (Some k) ∙ length-alter_at place _ t p
