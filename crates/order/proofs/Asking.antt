-- What a walk gives, asked again and again, and what holds of each of a list. Assumes nothing.
use Rattle.std.proofs.Common.{◌≡◌, ℕ, List, [], ◌∷◌, ◌++◌, reverse, Some, None, Option, sym, refl, ap, ◌∙◌, subst, arith}
use Rattle.std.proofs.lemmas.List.{reverse-append}
use Rattle.std.specs.List.{AllByRecursion}
use lib.Seq.{append_snoc}
use Rattle.chain.specs.Chain.{Gives}
use Rattle.order.specs.Order.{Answered, GivesAll, ThenNone}
use Rattle.walks.specs.Walks.{GivesFirst, GivesLast}

-- ---- from the front

first_all : {K : Type 0} (left : List K) (rs : List (Option K)) → Answered GivesFirst left rs → ThenNone left rs
first_all left [] a = tt
first_all [] (None ∷ rs) a = (refl, first_all [] rs (subst (λ q. Answered GivesFirst q rs) a.1.1 a.2))
first_all [] (Some k ∷ rs) a = absurd (let e = a.1 in let z : ◌≡◌ {A = ℕ} 0 1 = cc in omega arith)
first_all (x ∷ xs) (None ∷ rs) a = absurd (let e = a.1.0 in let z : ◌≡◌ {A = ℕ} 0 1 = cc in omega arith)
first_all (x ∷ xs) (Some k ∷ rs) a =
    let e : x ∷ xs ≡ k ∷ a.0 = a.1 in
    let here : k ≡ x = cc in
    let rest : a.0 ≡ xs = cc in
    (ap Some here, first_all xs rs (subst (λ q. Answered GivesFirst q rs) rest a.2))

pub gives_first : {K : Type 0} (left xs : List K) → left ≡ xs → GivesAll GivesFirst left xs
gives_first left xs e = subst (λ q. GivesAll GivesFirst left q) e (first_all left)

-- ---- from the back: as the reverse from the front

mirrored : {K : Type 0} (r : Option K) (before after : List K) → GivesLast r before after → GivesFirst r (reverse before) (reverse after)
mirrored None before after g = (ap reverse g.0, ap reverse g.1)
mirrored (Some k) before after g = ap reverse g ∙ reverse-append after (k ∷ [])

from_back : {K : Type 0} (left : List K) (rs : List (Option K)) → Answered GivesLast left rs → Answered GivesFirst (reverse left) rs
from_back left [] a = tt
from_back left (r ∷ rs) a = (reverse a.0, mirrored r left a.0 a.1, from_back a.0 rs a.2)

pub gives_last : {K : Type 0} (left xs : List K) → left ≡ xs → GivesAll GivesLast left (reverse xs)
gives_last left xs e = subst (λ q. GivesAll GivesLast left (reverse q)) e (λ rs a. first_all (reverse left) rs (from_back left rs a))

-- ---- by what was given last

pub leads : {K : Type 0} (link next : K → Option K) → ((k : K) → link k ≡ next k) → (o : Option K) (xs : List K) → Gives link o xs → Gives next o xs
leads link next e o [] g = g
leads link next e o (x ∷ xs) g = (g.0, leads link next e (next x) xs (subst (λ q. Gives link q xs) (e x) g.1))

-- ---- of each

each_on : {A : Type 0} (P : A → Type 0) (all : List A) → ((xs : List A) (x : A) (ys : List A) → all ≡ xs ++ (x ∷ ys) → P x) → (ahead ls : List A) → all ≡ ahead ++ ls → AllByRecursion P ls
each_on P all f ahead [] e = tt
each_on P all f ahead (l ∷ ls) e = (f ahead l ls e, each_on P all f (ahead ++ (l ∷ [])) ls (e ∙ sym (append_snoc ahead l ls)))

-- what holds of each, wherever it stands, holds of each
pub each : {A : Type 0} (P : A → Type 0) (all : List A) → ((xs : List A) (x : A) (ys : List A) → all ≡ xs ++ (x ∷ ys) → P x) → AllByRecursion P all
each P all f = each_on P all f [] all refl
