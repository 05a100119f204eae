-- The rows of a text, one by one. Assumes nothing.
use Rattle.std.proofs.Common.{◌≡◌, ◌≢◌, ℕ, ◌<◌, Bool, false, ◌||◌, ◌==◌, List, [], ◌∷◌, length, get_or, Bor, refl, sym, ◌∙◌, ap, zero-add, arith}
use Rattle.std.specs.List.{list_any, enumerate_from}
use Rattle.std.specs.Str.Lines.{lines}
use Rattle.std.proofs.lemmas.Bool.Decides.{nat_tests}
use Rattle.std.proofs.lemmas.List.{get_or-map, length-map}
use Rattle.std.proofs.lemmas.List.FromFn.{length-enumerate_from, get_or-enumerate_from}
use Rattle.words.specs.Words.{texts, words_of, rows}

pub any_texts : (t : List ℕ → Bool) (words : List (Bor (List ℕ))) → list_any t (texts words) ≡ list_any (λ (w : Bor (List ℕ)). t w.now) words
any_texts t [] = refl
any_texts t (w ∷ words) = ap (λ b. t w.now || b) (any_texts t words)

-- what is known of the line that comes behind n others
pub record IsLine (text : List ℕ) (n i : ℕ) (line : List ℕ) : Type 0 where
  pub inside : n < length (rows text)
  pub index : i ≡ n
  pub row : get_or (rows text) n [] ≡ words_of line

pub is_line : (text : List ℕ) (n i : ℕ) (line : List ℕ) → (n < length (enumerate_from 0 (lines text))) × ((i, line) ≡ get_or (enumerate_from 0 (lines text)) n (i, line)) → IsLine text n i line
is_line text n i line (within, is) =
    let inside : n < length (lines text) = omega (arith, length-enumerate_from 0 (lines text)) in
    let e = is ∙ get_or-enumerate_from 0 (lines text) n (i, line) inside in
    record {
      inside = omega (arith, length-map (lines text) words_of);
      index = ap (λ (p : ℕ × List ℕ). p.0) e ∙ zero-add n;
      row = get_or-map words_of (lines text) n line [] inside ∙ ap words_of (sym (ap (λ (p : ℕ × List ℕ). p.1) e));
    }

-- where there are words, their texts are a row that has some
pub some_texts : (words : List (Bor (List ℕ))) (row : List (List ℕ)) (n : ℕ) → texts words ≡ row → n ≡ length words → (n == 0) ≡ false → row ≢ []
some_texts [] row n same len some none = grind (arith, nat_tests)
some_texts (w ∷ words) row n same len some none = cc
