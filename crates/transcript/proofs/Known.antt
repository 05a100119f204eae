-- Known bytes that grow, piece by piece. Assumes nothing.
use Rattle.std.proofs.Common.{◌≡◌, ◌≢◌, ℕ, ◌+◌, ◌<◌, List, [], ◌∷◌, ◌++◌, get_or, length, take, Some, None, Option, sym, refl, ap, ◌∙◌, subst}
use Rattle.std.proofs.lemmas.Grind.{flat_map-append}
use Rattle.std.proofs.lemmas.List.{append-nil, append_assoc, take_more}
use Rattle.std.specs.Io.KnownBytes.{Appends}
use Rattle.std.specs.List.{flat_map}
use Rattle.entities.specs.Program.{Program}
use Rattle.entities.specs.declared.Block.{Block}
use Rattle.transcript.specs.Walks.{block_row, rows}
use Rattle.transcript.specs.declared.rows.Direction.{Direction}

pub appends_nothing : (u : Option (List ℕ)) → Appends u u []
appends_nothing None = tt
appends_nothing (Some xs) = sym (append-nil xs)

-- one piece and then another
pub appends_both : (u v w : Option (List ℕ)) (a b : List ℕ) → Appends u v a → Appends v w b → Appends u w (a ++ b)
appends_both None v w a b x y = tt
appends_both (Some xs) None w a b x y = absurd x
appends_both (Some xs) (Some ys) None a b x y = absurd y
appends_both (Some xs) (Some ys) (Some zs) a b x y = y ∙ ap (λ t. t ++ b) x ∙ append_assoc xs a b

-- the pieces of the first i, and that of the next
pub next_piece : {X : Type 0} (f : X → List ℕ) (u v w : Option (List ℕ)) (xs : List X) (i : ℕ) (d : X) → Appends u v (flat_map f (take i xs)) → i < length xs → Appends v w (f (get_or xs i d)) → Appends u w (flat_map f (take (i + 1) xs))
next_piece f u v w xs i d x more y =
    let x1 = get_or xs i d in
    let whole : flat_map f (take (i + 1) xs) ≡ flat_map f (take i xs) ++ f x1 = ap (flat_map f) (take_more xs i d more) ∙ flat_map-append f (take i xs) (x1 ∷ []) ∙ ap (λ r. flat_map f (take i xs) ++ r) (append-nil (f x1)) in
    subst (λ t. Appends u w t) (sym whole) (appends_both u v w (flat_map f (take i xs)) (f x1) x y)

-- where there are blocks, their rows are all
pub some_rows : (way : Direction) (p : Program) (bs : List Block) → bs ≢ [] → flat_map (block_row way p) bs ≡ rows way p bs
some_rows way p [] some = absurd (some refl)
some_rows way p (b ∷ bs) some = refl

pub ruleset known_rows = (appends_nothing, next_piece, some_rows)
