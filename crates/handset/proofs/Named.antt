-- Two or three words, by what the first and the last are.
use Rattle.std.proofs.Common.{◌≡◌, ◌∙◌, ◌≤◌, ◌<◌, ℕ, List, [], ◌∷◌, length, get_or, ap, arith, Bor}
use Rattle.words.specs.Words.{texts}

pub two_texts : (ws : List (Bor (List ℕ))) (d : Bor (List ℕ)) (v : List ℕ) → 2 ≤ length ws → length ws < 3 → (get_or ws 0 d).now ≡ v → texts ws ≡ v ∷ (get_or ws 1 d).now ∷ []
two_texts [] d v most least first = absurd (omega arith)
two_texts (p ∷ []) d v most least first = absurd (omega arith)
two_texts (p ∷ q ∷ []) d v most least first = ap (λ (u : List ℕ). u ∷ q.now ∷ []) first
two_texts (p ∷ q ∷ r ∷ more) d v most least first = absurd (omega arith)

pub first_of_three : (ws : List (Bor (List ℕ))) (d : Bor (List ℕ)) (v : List ℕ) → 3 ≤ length ws → length ws < 4 → (get_or ws 0 d).now ≡ v → texts ws ≡ v ∷ (get_or ws 1 d).now ∷ (get_or ws 2 d).now ∷ []
first_of_three [] d v most least first = absurd (omega arith)
first_of_three (p ∷ []) d v most least first = absurd (omega arith)
first_of_three (p ∷ q ∷ []) d v most least first = absurd (omega arith)
first_of_three (p ∷ q ∷ r ∷ []) d v most least first = ap (λ (u : List ℕ). u ∷ q.now ∷ r.now ∷ []) first
first_of_three (p ∷ q ∷ r ∷ s ∷ more) d v most least first = absurd (omega arith)

pub three_texts : (ws : List (Bor (List ℕ))) (d : Bor (List ℕ)) (v w : List ℕ) → 3 ≤ length ws → length ws < 4 → (get_or ws 0 d).now ≡ v → (get_or ws 2 d).now ≡ w → texts ws ≡ v ∷ (get_or ws 1 d).now ∷ w ∷ []
three_texts ws d v w most least first last = first_of_three ws d v most least first ∙ ap (λ (u : List ℕ). v ∷ (get_or ws 1 d).now ∷ u ∷ []) last
