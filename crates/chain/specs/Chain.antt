-- A chain of keys: what its links are, and that an edit keeps them. Assumes nothing.
use Rattle.std.specs.Prelude.{◌≡◌, ℕ, zero, suc, ◌<◌, List, [], ◌∷◌, ◌++◌, reverse, length, Some, None, Option, ◌≢◌}
use Rattle.chain.specs.declared.Ends.{Ends}
use Rattle.chain.specs.Links.{Links}
use Rattle.chain.specs.Table.{read_at}

-- the first of ks, or o where there is none
abbrev pub head_or : {K : Type 0} → List K → Option K → Option K
head_or [] o = o
head_or (k ∷ ks) o = Some k

-- the last of ks, or o where there is none
abbrev pub last_or : {K : Type 0} → Option K → List K → Option K
last_or o [] = o
last_or o (k ∷ ks) = last_or (Some k) ks

-- o is none of ks
abbrev pub Misses : {K : Type 0} → Option K → List K → Type 0
Misses o [] = Unit {0}
Misses o (k ∷ ks) = (o ≢ Some k) × Misses o ks

-- no key of ks stands in it twice
abbrev pub Distinct : {K : Type 0} → List K → Type 0
Distinct [] = Unit {0}
Distinct (k ∷ ks) = Misses (Some k) ks × Distinct ks

-- no key of ks is one of ls
abbrev pub Disjoint : {K : Type 0} → List K → List K → Type 0
Disjoint [] ls = Unit {0}
Disjoint (k ∷ ks) ls = Misses (Some k) ls × Disjoint ks ls

-- each of ks names a place below n
abbrev pub AllWithin : {K : Type 0} → (K → ℕ) → ℕ → List K → Type 0
AllWithin place n [] = Unit {0}
AllWithin place n (k ∷ ks) = (place k < n) × AllWithin place n ks

-- each of ks has its neighbours for its links, with p ahead of them and s behind
abbrev pub Linked : {K : Type 0} → (K → Option K) → (K → Option K) → Option K → List K → Option K → Type 0
Linked prv nxt p [] s = Unit {0}
Linked prv nxt p (k ∷ ks) s = (prv k ≡ p) × (nxt k ≡ head_or ks s) × Linked prv nxt (Some k) ks s

-- the keys that come by following a link, n of them at most
abbrev pub walk : {K : Type 0} → (K → Option K) → ℕ → Option K → List K
walk link zero o = []
walk link (suc n) None = []
walk link (suc n) (Some k) = k ∷ walk link n (link k)

-- asking again and again, from o on, gives ks and then none
abbrev pub Gives : {K : Type 0} → (K → Option K) → Option K → List K → Type 0
Gives ask o [] = o ≡ None
Gives ask o (k ∷ ks) = (o ≡ Some k) × Gives ask (ask k) ks

-- between the ends e, the table t has the chain of the keys ks
pub record Chain {N K : Type 0} (place : K → ℕ) (links : Links N K) (t : List N) (e : Ends K) (ks : List K) : Type 0 where
  pub first : e.first ≡ head_or ks None
  pub last : e.last ≡ last_or None ks
  pub linked : Linked (λ k. read_at links.prev_of t (place k)) (λ k. read_at links.next_of t (place k)) None ks None
  pub distinct : Distinct ks
  pub within : AllWithin place (length t) ks

-- by next links the chain gives its keys, by previous links the same in reverse
pub record Walked {N K : Type 0} (place : K → ℕ) (links : Links N K) (t : List N) (e : Ends K) (ks : List K) : Type 0 where
  pub forward : Gives (λ k. read_at links.next_of t (place k)) e.first ks
  pub backward : Gives (λ k. read_at links.prev_of t (place k)) e.last (reverse ks)

-- an edit at key k made the chain ks into ks', which can be walked both ways, and left every chain that has neither k nor a key of ks
pub record Relinked {N K : Type 0} (place : K → ℕ) (links : Links N K) (t : List N) (ks : List K) (k : K) (t' : List N) (e' : Ends K) (ks' : List K) : Type 0 where
  pub chain : Chain place links t' e' ks'
  pub walked : Walked place links t' e' ks'
  pub others : (d : Ends K) (ls : List K) → Chain place links t d ls → Disjoint ks ls → Misses (Some k) ls → Chain place links t' d ls

module _ {N K : Type 0} (place : K → ℕ) (links : Links N K) (t : List N) (e : Ends K) (k : K) (p s : Option K) where
  -- k is put in with p directly ahead of it and s directly behind: xs are the keys up to p, ys those from s on
  abbrev pub Inserts : List N → Ends K → Type 0
  Inserts t' e' =
      (xs ys : List K) → p ≡ last_or None xs → s ≡ head_or ys None → Chain place links t e (xs ++ ys) → Misses (Some k) (xs ++ ys) → Relinked place links t (xs ++ ys) k t' e' (xs ++ (k ∷ ys))

  -- k is taken out from between p and s, and left with neither link
  abbrev pub Removes : List N → Ends K → Type 0
  Removes t' e' =
      (xs ys : List K) → p ≡ last_or None xs → s ≡ head_or ys None → Chain place links t e (xs ++ (k ∷ ys)) → Relinked place links t (xs ++ (k ∷ ys)) k t' e' (xs ++ ys) × (read_at links.prev_of t' (place k) ≡ None) × (read_at links.next_of t' (place k) ≡ None)

-- the chain xs ++ (k ∷ ys), whose last key is `last`, is parted ahead of k into two chains, which can be walked both ways; every chain
-- that has no key of it is left
pub record Parted {N K : Type 0} (place : K → ℕ) (links : Links N K) (t : List N) (xs : List K) (k : K) (ys : List K) (last : Option K) (t' : List N) : Type 0 where
  pub ahead : Chain place links t' (record { first = head_or xs None; last = last_or None xs }) xs
  pub behind : Chain place links t' (record { first = Some k; last = last }) (k ∷ ys)
  pub ahead_walked : Walked place links t' (record { first = head_or xs None; last = last_or None xs }) xs
  pub behind_walked : Walked place links t' (record { first = Some k; last = last }) (k ∷ ys)
  pub others : (d : Ends K) (ls : List K) → Chain place links t d ls → Disjoint (xs ++ (k ∷ ys)) ls → Chain place links t' d ls

-- whatever chain k stands in is parted ahead of k
abbrev pub Cuts : {N K : Type 0} → (K → ℕ) → Links N K → List N → K → List N → Type 0
Cuts {N} {K} place links t k t' =
    (e : Ends K) (xs ys : List K) → Chain place links t e (xs ++ (k ∷ ys)) → Parted place links t xs k ys e.last t'

-- the keys that come from `first` on, by the links of the table to the next: no more than it has places
abbrev pub keys_from : {N K : Type 0} → (K → ℕ) → Links N K → List N → Option K → List K
keys_from place links t first = walk (λ k. read_at links.next_of t (place k)) (length t) first
