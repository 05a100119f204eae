-- Edits of a table of linked nodes, over what a node's links are. Assumes nothing.
use Rattle.std.specs.Prelude.{ℕ, zero, suc, ◌<◌, List, [], ◌∷◌, Some, None, Option}
use Rattle.chain.specs.declared.Ends.{Ends}
use Rattle.chain.specs.Links.{Links}

-- the table with the node at place i changed by f, and no other
abbrev pub alter : {N : Type 0} → List N → ℕ → (N → N) → List N
alter [] i f = []
alter (n ∷ ns) zero f = f n ∷ ns
alter (n ∷ ns) (suc i) f = n ∷ alter ns i f

-- the same at a key that may be absent
abbrev pub alter_at : {N K : Type 0} → (K → ℕ) → List N → Option K → (N → N) → List N
alter_at place t None f = t
alter_at place t (Some k) f = alter t (place k) f

-- a link of the node at place i; none past the table
abbrev pub read_at : {N K : Type 0} → (N → Option K) → List N → ℕ → Option K
read_at link [] i = None
read_at link (n ∷ ns) zero = link n
read_at link (n ∷ ns) (suc i) = read_at link ns i

-- a link that is there leads into the table
abbrev pub Within : {K : Type 0} → (K → ℕ) → ℕ → Option K → Type 0
Within place n None = Unit {0}
Within place n (Some k) = place k < n

abbrev pub if_none : {K : Type 0} → Option K → Option K → Option K → Option K
if_none None a b = a
if_none (Some k) a b = b

-- key k put between p and n, of which either may be absent
abbrev pub inserted_table : {N K : Type 0} → (K → ℕ) → Links N K → List N → Option K → Option K → K → List N
inserted_table place links t p n k =
    let t1 = alter_at place t (Some k) (λ m. links.with_prev m p) in
    let t2 = alter_at place t1 (Some k) (λ m. links.with_next m n) in
    let t3 = alter_at place t2 p (λ m. links.with_next m (Some k)) in
    alter_at place t3 n (λ m. links.with_prev m (Some k))

abbrev pub inserted_ends : {K : Type 0} → Ends K → Option K → Option K → K → Ends K
inserted_ends e p n k = record { first = if_none p (Some k) e.first; last = if_none n (Some k) e.last }

-- key k taken out from between p and n
abbrev pub removed_table : {N K : Type 0} → (K → ℕ) → Links N K → List N → Option K → Option K → K → List N
removed_table place links t p n k =
    let t1 = alter_at place t (Some k) (λ m. links.with_prev m None) in
    let t2 = alter_at place t1 (Some k) (λ m. links.with_next m None) in
    let t3 = alter_at place t2 p (λ m. links.with_next m n) in
    alter_at place t3 n (λ m. links.with_prev m p)

abbrev pub removed_ends : {K : Type 0} → Ends K → Option K → Option K → Ends K
removed_ends e p n = record { first = if_none p n e.first; last = if_none n p e.last }

-- the chain parted ahead of key k, which p is directly ahead of
abbrev pub cut_table : {N K : Type 0} → (K → ℕ) → Links N K → List N → Option K → K → List N
cut_table place links t p k =
    let t1 = alter_at place t p (λ m. links.with_next m None) in
    alter_at place t1 (Some k) (λ m. links.with_prev m None)
