-- What a read and a write of one node are to the table. Assumes nothing.
use Rattle.std.proofs.Common.{◌≡◌, ℕ, zero, suc, ◌<◌, List, [], ◌∷◌, length, get_or, set, Option, refl, ap, ◌∙◌, le_of_suc-le-suc, not-suc-le-zero}
use Rattle.chain.specs.Table.{alter, read_at}

set_is : {N : Type 0} (t : List N) (i : ℕ) (d y : N) (f : N → N) → y ≡ f (get_or t i d) → set t i y ≡ alter t i f
set_is [] i d y f e = refl
set_is (n ∷ ns) zero d y f e = ap (λ m. m ∷ ns) e
set_is (n ∷ ns) (suc i) d y f e = ap (λ ms. n ∷ ms) (set_is ns i d y f e)

-- a store at i, over a table that is known to be u
pub written : {N : Type 0} (t u : List N) (i j : ℕ) (d y : N) (f : N → N) → t ≡ u → i ≡ j → y ≡ f (get_or t i d) → set t i y ≡ alter u j f
written t u i j d y f a b e = set_is t i d y f e ∙ ap (λ s. alter s i f) a ∙ ap (λ m. alter u m f) b

pub read_is : {N K : Type 0} (link : N → Option K) (t : List N) (i : ℕ) (d : N) → i < length t → read_at link t i ≡ link (get_or t i d)
read_is link [] i d h = absurd (not-suc-le-zero h)
read_is link (n ∷ ns) zero d h = refl
read_is link (n ∷ ns) (suc i) d h = read_is link ns i d (le_of_suc-le-suc h)
