-- Marks of the nodes of a table, one for each place. Assumes nothing.
use Rattle.std.specs.Prelude.{◌≡◌, ℕ, Bool, true, false, List, [], ◌∷◌, set, slice_index_or}

-- k is not marked
abbrev pub Unmarked : {K : Type 0} → (K → ℕ) → List Bool → K → Type 0
Unmarked place m k = slice_index_or m (place k) false ≡ false

-- none of ks is marked
abbrev pub AllUnmarked : {K : Type 0} → (K → ℕ) → List Bool → List K → Type 0
AllUnmarked place m [] = Unit {0}
AllUnmarked place m (k ∷ ks) = Unmarked place m k × AllUnmarked place m ks

-- the marks with each of ks marked
abbrev pub marked : {K : Type 0} → (K → ℕ) → List K → List Bool → List Bool
marked place [] m = m
marked place (k ∷ ks) m = marked place ks (set m (place k) true)

-- m' is m with some keys marked, and no mark taken away
unfoldable pub MoreMarked : {K : Type 0} → (K → ℕ) → (m m' : List Bool) → Type 0
MoreMarked {K} place m m' = (ks : List K) × (m' ≡ marked place ks m)
