-- Words for lists whose keys have places of their own. Assumes nothing.
use Rattle.std.specs.Prelude.{ℕ, Bool, true, false, cond, List, [], ◌∷◌, Some, None, Option, ◌==◌}
use Rattle.chain.specs.Chain.{head_or}

-- what f reads off the first that passes the test; o where none does
abbrev pub of_first : {A B : Type 0} → (A → Bool) → (A → B) → B → List A → B
of_first test f o [] = o
of_first test f o (x ∷ xs) = cond (test x) (f x) (of_first test f o xs)

-- what stands ahead of the first that passes the test; all where none does
abbrev pub ahead_of : {A : Type 0} → (A → Bool) → List A → List A
ahead_of test [] = []
ahead_of test (x ∷ xs) = cond (test x) [] (x ∷ ahead_of test xs)

-- what stands from the first that passes the test on; nothing where none does
abbrev pub from_on : {A : Type 0} → (A → Bool) → List A → List A
from_on test [] = []
from_on test (x ∷ xs) = cond (test x) (x ∷ xs) (from_on test xs)

-- does k stand in the list?
abbrev pub holds : {K : Type 0} → (K → ℕ) → K → List K → Bool
holds place k [] = false
holds place k (x ∷ xs) = cond (place x == place k) true (holds place k xs)

-- the key directly behind k; none behind the last, and none for a k that does not stand there
abbrev pub behind : {K : Type 0} → (K → ℕ) → K → List K → Option K
behind place k [] = None
behind place k (x ∷ xs) = cond (place x == place k) (head_or xs None) (behind place k xs)

-- the key directly ahead of k, where p stands ahead of the whole list
abbrev pub ahead_from : {K : Type 0} → (K → ℕ) → K → Option K → List K → Option K
ahead_from place k p [] = None
ahead_from place k p (x ∷ xs) = cond (place x == place k) p (ahead_from place k (Some x) xs)

-- the key directly ahead of k; none ahead of the first, and none for a k that does not stand there
abbrev pub ahead : {K : Type 0} → (K → ℕ) → K → List K → Option K
ahead place k xs = ahead_from place k None xs

-- the list from k on; nothing from none
abbrev pub from_key : {K : Type 0} → (K → ℕ) → Option K → List K → List K
from_key place None xs = []
from_key place (Some k) [] = []
from_key place (Some k) (x ∷ xs) = cond (place x == place k) (x ∷ xs) (from_key place (Some k) xs)

-- the list up to k, with it; all of it where k does not stand there, and nothing up to none
abbrev pub upto_key : {K : Type 0} → (K → ℕ) → Option K → List K → List K
upto_key place None xs = []
upto_key place (Some k) [] = []
upto_key place (Some k) (x ∷ xs) = x ∷ cond (place x == place k) [] (upto_key place (Some k) xs)

-- the part of the list that begins at h and ends with t
abbrev pub stretch : {K : Type 0} → (K → ℕ) → Option K → Option K → List K → List K
stretch place h t xs = upto_key place t (from_key place h xs)

-- are h and t the ends of such a part? Both are absent, or t stands in the list from h on
abbrev pub spans : {K : Type 0} → (K → ℕ) → Option K → Option K → List K → Bool
spans place None None xs = true
spans place None (Some t) xs = false
spans place (Some h) None xs = false
spans place (Some h) (Some t) xs = holds place t (from_key place (Some h) xs)

-- may a walk of the list go on at o? It has ended, or o stands in the list
abbrev pub walks_on : {K : Type 0} → (K → ℕ) → Option K → List K → Bool
walks_on place None xs = true
walks_on place (Some k) xs = holds place k xs
