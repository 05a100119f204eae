-- What is read of a list of keys stands in it, and what is put in place of some of a list. Assumes nothing.
use Rattle.std.proofs.Common.{◌≡◌, ℕ, Bool, true, false, cond, eqb, List, [], ◌∷◌, ◌++◌, Some, None, Option, sym, refl, ap, ◌∙◌, subst}
use Rattle.std.proofs.lemmas.Bool.{eq-eqb, false≢true}
use Rattle.std.proofs.lemmas.Option.{none-some}
use Rattle.chain.proofs.Keys.{head_not, last_not}
use Rattle.chain.specs.Chain.{Misses, head_or, last_or}
use Rattle.entities.specs.Lists.{ahead, ahead_from, behind, holds, of_first}
use Rattle.entities.specs.Program.{chosen, instead_where}
use Rattle.listing.proofs.Stretches.{holds_in}

-- ---- which keys are held

module _ {K : Type 0} (place : K → ℕ) where
  pub holds_first : (k : K) (xs : List K) → holds place k (k ∷ xs) ≡ true
  holds_first k xs = ap (λ c. cond c true (holds place k xs)) (eq-eqb (place k) (place k) refl)

  pub holds_left : (k : K) (xs ys : List K) → holds place k xs ≡ true → holds place k (xs ++ ys) ≡ true
  holds_left k [] ys = λ h. absurd (false≢true h)
  holds_left k (x ∷ xs) ys =
      elim (eqb (place x) (place k)) as (λ c. cond c true (holds place k xs) ≡ true → cond c true (holds place k (xs ++ ys)) ≡ true) [ true ↦ λ h. refl | false ↦ holds_left k xs ys ]

  pub holds_right : (k : K) (xs ys : List K) → holds place k ys ≡ true → holds place k (xs ++ ys) ≡ true
  holds_right k [] ys h = h
  holds_right k (x ∷ xs) ys h =
      elim (eqb (place x) (place k)) as (λ c. cond c true (holds place k (xs ++ ys)) ≡ true) [ true ↦ refl | false ↦ holds_right k xs ys h ]

-- ---- the ends and the neighbours

module _ {K : Type 0} (place : K → ℕ) where
  pub behind_not : (n k : K) (xs : List K) → Misses (Some n) xs → behind place k xs ≡ Some n → ⊥
  behind_not n k [] m = none-some n
  behind_not n k (x ∷ xs) m =
      elim (eqb (place x) (place k)) as (λ c. cond c (head_or xs None) (behind place k xs) ≡ Some n → ⊥) [ true ↦ head_not n xs m.1 | false ↦ behind_not n k xs m.1 ]

  ahead_from_not : (n k : K) (o : Option K) (xs : List K) → (o ≡ Some n → ⊥) → Misses (Some n) xs → ahead_from place k o xs ≡ Some n → ⊥
  ahead_from_not n k o [] f m = none-some n
  ahead_from_not n k o (x ∷ xs) f m =
      elim (eqb (place x) (place k)) as (λ c. cond c o (ahead_from place k (Some x) xs) ≡ Some n → ⊥) [ true ↦ f | false ↦ ahead_from_not n k (Some x) xs (λ e. m.0 (sym e)) m.1 ]

  pub ahead_not : (n k : K) (xs : List K) → Misses (Some n) xs → ahead place k xs ≡ Some n → ⊥
  ahead_not n k xs m = ahead_from_not n k None xs (none-some n) m

module _ {K : Type 0} (place : K → ℕ) (apart : (a b : K) → place a ≡ place b → a ≡ b) (n : K) (xs : List K) where
  pub first_held : head_or xs None ≡ Some n → holds place n xs ≡ true
  first_held e = holds_in place apart n xs (λ m. head_not n xs m e)

  pub last_held : last_or None xs ≡ Some n → holds place n xs ≡ true
  last_held e = holds_in place apart n xs (λ m. last_not n None xs (none-some n) m e)

  pub behind_held : (k : K) → behind place k xs ≡ Some n → holds place n xs ≡ true
  behind_held k e = holds_in place apart n xs (λ m. behind_not place n k xs m e)

  pub ahead_held : (k : K) → ahead place k xs ≡ Some n → holds place n xs ≡ true
  ahead_held k e = holds_in place apart n xs (λ m. ahead_not place n k xs m e)

-- ---- where one of a list passes a test, a key that f's list for each such one holds is in the list that has those lists instead

-- does one pass?
abbrev pub one_passes : {A : Type 0} → (A → Bool) → List A → Bool
one_passes test xs = of_first test (λ x. true) false xs

module _ {A K : Type 0} (place : K → ℕ) (keys : List A → List K) (join : (xs ys : List A) → keys (xs ++ ys) ≡ keys xs ++ keys ys) (test : A → Bool) (f : A → List A) (k : K) (puts : (x : A) → test x ≡ true → holds place k (keys (f x)) ≡ true) where
  chosen_holds : (c : Bool) (x : A) (rest : List A) → (c ≡ true → holds place k (keys (f x)) ≡ true) → (c ≡ false → holds place k (keys rest) ≡ true) → holds place k (keys (chosen c (f x) x rest)) ≡ true
  chosen_holds true x rest put later = ap (holds place k) (join (f x) rest) ∙ holds_left place k (keys (f x)) (keys rest) (put refl)
  chosen_holds false x rest put later = ap (holds place k) (join (x ∷ []) rest) ∙ holds_right place k (keys (x ∷ [])) (keys rest) (later refl)

  pub instead_holds : (xs : List A) → one_passes test xs ≡ true → holds place k (keys (instead_where test f xs)) ≡ true
  instead_holds [] h = absurd (false≢true h)
  instead_holds (x ∷ xs) h = chosen_holds (test x) x (instead_where test f xs) (puts x) (λ e. instead_holds xs (subst (λ c. cond c true (one_passes test xs) ≡ true) e h))
