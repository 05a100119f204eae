-- What `split_ascii_whitespace` gives is what stands between white space. Assumes nothing.
use Rattle.std.proofs.Common.{◌≡◌, ℕ, ◌<◌, true, false, ◌==◌, List, [], ◌∷◌, ◌++◌, length, get_or, filter, All, refl, sym, ◌∙◌, ap, arith, inl, inr, append-nil}
use Rattle.std.specs.Char.{is_ascii_whitespace}
use Rattle.std.specs.List.{AllPass}
use Rattle.std.specs.Str.{NoCharPasses, NonePass}
use Rattle.std.specs.Str.Iter.{split_ascii_whitespace_steps, split_ascii_whitespace_text, IsAsciiSeparator}
use Rattle.std.proofs.lemmas.Bool.{cases_Bool, ne_eqb}
use Rattle.std.proofs.lemmas.Bool.Decides.{nat_tests}
use Rattle.std.proofs.lemmas.List.{nil_from_length, get_or_default}
use Rattle.std.proofs.lemmas.List.Elements.{All-head, All-tail}
use Rattle.std.proofs.lemmas.List.Splits.{slice_split_none, slice_split_at, slice_split-cons_yes}
use Rattle.std.proofs.lemmas.Iterator.{YieldsList}
use Rattle.std.proofs.lemmas.Iterator.Consumers.{YieldsList-from_shown}
use Rattle.std.proofs.lemmas.Str.Pattern.{NoCharPasses-char}
use Rattle.words.specs.Words.{has_some, words_in}

some_word : (w : List ℕ) → 0 < length w → has_some w ≡ true
some_word w some = grind (arith, nat_tests)

-- white space ahead is passed over
gap_over : (gap rest : List ℕ) → AllPass is_ascii_whitespace gap → words_in (gap ++ rest) ≡ words_in rest
gap_over [] rest blank = refl
gap_over (c ∷ gap) rest blank =
    let here : is_ascii_whitespace c ≡ true = All-head (λ b. is_ascii_whitespace b ≡ true) c gap blank in
    ap (filter has_some) (slice_split-cons_yes is_ascii_whitespace c (gap ++ rest) here) ∙ gap_over gap rest (All-tail (λ b. is_ascii_whitespace b ≡ true) c gap blank)

no_words : (bs : List ℕ) → AllPass is_ascii_whitespace bs → words_in bs ≡ []
no_words bs blank = ap words_in (sym (append-nil bs)) ∙ gap_over bs [] blank

-- a word ends at white space, or at the end
pub word_first : (w : List ℕ) (c : ℕ) (rest : List ℕ) → All (λ b. is_ascii_whitespace b ≡ false) w → 0 < length w → is_ascii_whitespace c ≡ true → words_in (w ++ (c ∷ rest)) ≡ w ∷ words_in rest
word_first w c rest clear some blank = rw (slice_split_at is_ascii_whitespace w c rest clear blank, some_word w some) refl

pub word_last : (w : List ℕ) → All (λ b. is_ascii_whitespace b ≡ false) w → 0 < length w → words_in w ≡ w ∷ []
word_last w clear some = rw (slice_split_none is_ascii_whitespace w clear, some_word w some) refl

-- ---- no byte of a word is white space

small : (b : ℕ) → is_ascii_whitespace b ≡ true → b < 128
small b is = grind (arith, nat_tests)

none_weaker : (c : ℕ) → is_ascii_whitespace c ≡ true → (cs : List ℕ) → NonePass is_ascii_whitespace cs → NonePass (λ d. d == c) cs
none_weaker c is [] none = tt
none_weaker c is (d ∷ cs) (isnt, none) = (ne_eqb d c (λ same. let yes : is_ascii_whitespace d ≡ true = rw same is in cc), none_weaker c is cs none)

clear_word : (w : List ℕ) → NoCharPasses is_ascii_whitespace w → All (λ b. is_ascii_whitespace b ≡ false) w
clear_word w (cs, text, none) k d inside =
    elim (cases_Bool (is_ascii_whitespace (get_or w k d))) [
      | inl is ↦
          let c : ℕ = get_or w k d in
          absurd (NoCharPasses-char c w k (cs, text, none_weaker c is cs none) (small c is) inside (get_or_default w k 0 d inside))
      | inr isnt ↦ isnt
    ]

-- ---- one word after the other

cut : (w sep rest : List ℕ) → All (λ b. is_ascii_whitespace b ≡ false) w → 0 < length w → IsAsciiSeparator sep rest → words_in (w ++ (sep ++ rest)) ≡ w ∷ words_in rest
cut w [] rest clear some (blank, short, over) =
    let none : rest ≡ [] = nil_from_length rest (over refl) in
    rw (none, append-nil w) (word_last w clear some)
cut w (c ∷ []) rest clear some (blank, short, over) = word_first w c rest clear some (All-head (λ b. is_ascii_whitespace b ≡ true) c [] blank)
cut w (c ∷ d ∷ more) rest clear some (blank, short, over) = absurd (omega arith)

pub road : {s : _} (bs : List ℕ) → split_ascii_whitespace_text s ≡ bs → YieldsList split_ascii_whitespace_steps (λ x. x.now) s (words_in bs)
road {s} bs from =
    rw (← from)
    (YieldsList-from_shown split_ascii_whitespace_steps (λ x. x.now) (λ t. words_in (split_ascii_whitespace_text t))
    (λ t u step. ap length (no_words (split_ascii_whitespace_text t) step.0))
    (λ t x u step.
    let (some, clear, fits, (gap, sep, split, blank, separates)) = step in
    ap words_in split ∙ (gap_over gap (x.now ++ (sep ++ split_ascii_whitespace_text u)) blank ∙ cut x.now sep (split_ascii_whitespace_text u) (clear_word x.now clear) some separates))
    s)
