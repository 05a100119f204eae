-- Lists of keys: ends, and which keys they miss. Assumes nothing.
use Rattle.std.proofs.Common.{◌≡◌, ℕ, List, [], ◌∷◌, ◌++◌, Some, None, Option, sym, refl}
use Rattle.std.proofs.lemmas.Option.{none-some}
use Rattle.chain.specs.Table.{Within}
use Rattle.chain.specs.Chain.{head_or, last_or, Misses, Distinct, Disjoint, AllWithin}

module _ {K : Type 0} where
  pub head_or-append : (xs ys : List K) (s : Option K) → head_or (xs ++ ys) s ≡ head_or xs (head_or ys s)
  head_or-append [] ys s = refl
  head_or-append (x ∷ xs) ys s = refl

  pub last_or-append : (p : Option K) (xs ys : List K) → last_or p (xs ++ ys) ≡ last_or (last_or p xs) ys
  last_or-append p [] ys = refl
  last_or-append p (x ∷ xs) ys = last_or-append (Some x) xs ys

  pub misses_left : (o : Option K) (xs ys : List K) → Misses o (xs ++ ys) → Misses o xs
  misses_left o [] ys m = tt
  misses_left o (x ∷ xs) ys m = (m.0, misses_left o xs ys m.1)

  pub misses_right : (o : Option K) (xs ys : List K) → Misses o (xs ++ ys) → Misses o ys
  misses_right o [] ys m = m
  misses_right o (x ∷ xs) ys m = misses_right o xs ys m.1

  pub misses_both : (o : Option K) (xs ys : List K) → Misses o xs → Misses o ys → Misses o (xs ++ ys)
  misses_both o [] ys a b = b
  misses_both o (x ∷ xs) ys a b = (a.0, misses_both o xs ys a.1 b)

  pub none_misses : (ys : List K) → Misses None ys
  none_misses [] = tt
  none_misses (y ∷ ys) = (none-some y, none_misses ys)

  pub distinct_left : (xs ys : List K) → Distinct (xs ++ ys) → Distinct xs
  distinct_left [] ys d = tt
  distinct_left (x ∷ xs) ys d = (misses_left (Some x) xs ys d.0, distinct_left xs ys d.1)

  pub distinct_right : (xs ys : List K) → Distinct (xs ++ ys) → Distinct ys
  distinct_right [] ys d = d
  distinct_right (x ∷ xs) ys d = distinct_right xs ys d.1

  pub distinct_across : (xs ys : List K) → Distinct (xs ++ ys) → Disjoint xs ys
  distinct_across [] ys d = tt
  distinct_across (x ∷ xs) ys d = (misses_right (Some x) xs ys d.0, distinct_across xs ys d.1)

  pub distinct_both : (xs ys : List K) → Distinct xs → Distinct ys → Disjoint xs ys → Distinct (xs ++ ys)
  distinct_both [] ys a b c = b
  distinct_both (x ∷ xs) ys a b c = (misses_both (Some x) xs ys a.0 c.0, distinct_both xs ys a.1 b c.1)

  pub disjoint_nil : (xs : List K) → Disjoint xs []
  disjoint_nil [] = tt
  disjoint_nil (x ∷ xs) = (tt, disjoint_nil xs)

  -- one more key on the right
  pub disjoint_cons : (xs : List K) (y : K) (ys : List K) → Misses (Some y) xs → Disjoint xs ys → Disjoint xs (y ∷ ys)
  disjoint_cons [] y ys m d = tt
  disjoint_cons (x ∷ xs) y ys m d = ((λ e. m.0 (sym e), d.0), disjoint_cons xs y ys m.1 d.1)

  pub disjoint_sym : (xs ys : List K) → Disjoint xs ys → Disjoint ys xs
  disjoint_sym [] ys d = disjoint_nil ys
  disjoint_sym (x ∷ xs) ys d = disjoint_cons ys x xs d.0 (disjoint_sym xs ys d.1)

  pub disjoint_tail : (xs : List K) (y : K) (ys : List K) → Disjoint xs (y ∷ ys) → Disjoint xs ys
  disjoint_tail [] y ys d = tt
  disjoint_tail (x ∷ xs) y ys d = (d.0.1, disjoint_tail xs y ys d.1)

  pub disjoint_head : (xs : List K) (y : K) (ys : List K) → Disjoint xs (y ∷ ys) → Misses (Some y) xs
  disjoint_head [] y ys d = tt
  disjoint_head (x ∷ xs) y ys d = (λ e. d.0.0 (sym e), disjoint_head xs y ys d.1)

  pub disjoint_left : (xs ys zs : List K) → Disjoint (xs ++ ys) zs → Disjoint xs zs
  disjoint_left [] ys zs d = tt
  disjoint_left (x ∷ xs) ys zs d = (d.0, disjoint_left xs ys zs d.1)

  pub disjoint_right : (xs ys zs : List K) → Disjoint (xs ++ ys) zs → Disjoint ys zs
  disjoint_right [] ys zs d = d
  disjoint_right (x ∷ xs) ys zs d = disjoint_right xs ys zs d.1

  -- the ends of xs miss what all of xs misses
  last_misses_or : (o : Option K) (xs ys : List K) → Misses o ys → Disjoint xs ys → Misses (last_or o xs) ys
  last_misses_or o [] ys m d = m
  last_misses_or o (x ∷ xs) ys m d = last_misses_or (Some x) xs ys d.0 d.1

  pub last_misses : (xs ys : List K) → Disjoint xs ys → Misses (last_or None xs) ys
  last_misses xs ys d = last_misses_or None xs ys (none_misses ys) d

  pub head_misses : (xs ys : List K) → Disjoint xs ys → Misses (head_or xs None) ys
  head_misses [] ys d = none_misses ys
  head_misses (x ∷ xs) ys d = d.0

  pub last_not : (k : K) (o : Option K) (xs : List K) → (o ≡ Some k → ⊥) → Misses (Some k) xs → last_or o xs ≡ Some k → ⊥
  last_not k o [] h m = h
  last_not k o (x ∷ xs) h m = last_not k (Some x) xs (λ e. m.0 (sym e)) m.1

  pub head_not : (k : K) (xs : List K) → Misses (Some k) xs → head_or xs None ≡ Some k → ⊥
  head_not k [] m = none-some k
  head_not k (x ∷ xs) m = λ e. m.0 (sym e)

  module _ (place : K → ℕ) (n : ℕ) where
    pub within_left : (xs ys : List K) → AllWithin place n (xs ++ ys) → AllWithin place n xs
    within_left [] ys a = tt
    within_left (x ∷ xs) ys a = (a.0, within_left xs ys a.1)

    pub within_right : (xs ys : List K) → AllWithin place n (xs ++ ys) → AllWithin place n ys
    within_right [] ys a = a
    within_right (x ∷ xs) ys a = within_right xs ys a.1

    pub within_both : (xs ys : List K) → AllWithin place n xs → AllWithin place n ys → AllWithin place n (xs ++ ys)
    within_both [] ys a b = b
    within_both (x ∷ xs) ys a b = (a.0, within_both xs ys a.1 b)

    last_within_or : (o : Option K) (xs : List K) → Within place n o → AllWithin place n xs → Within place n (last_or o xs)
    last_within_or o [] w a = w
    last_within_or o (x ∷ xs) w a = last_within_or (Some x) xs a.0 a.1

    pub last_within : (xs : List K) → AllWithin place n xs → Within place n (last_or None xs)
    last_within xs a = last_within_or None xs tt a

    pub head_within : (xs : List K) → AllWithin place n xs → Within place n (head_or xs None)
    head_within [] a = tt
    head_within (x ∷ xs) a = a.0
