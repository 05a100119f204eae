-- The words of a line of text. Assumes nothing.
use Rattle.std.specs.Prelude.{ℕ, Bool, not, ◌==◌, List, length, map, filter}
use Rattle.std.specs.Borrow.{Bor}
use Rattle.std.specs.List.{slice_split, before_first, join_with_byte}
use Rattle.std.specs.Char.{is_ascii_whitespace}
use Rattle.std.specs.Str.Lines.{lines}

-- the words, by their texts
abbrev pub texts : List (Bor (List ℕ)) → List (List ℕ)
texts words = map (λ w. w.now) words

-- a line ahead of its comment
abbrev pub code_of : List ℕ → List ℕ
code_of line = before_first (λ b. b == 35) line

abbrev pub has_some : {A : Type 0} → List A → Bool
has_some xs = not (length xs == 0)

-- what stands between white space
abbrev pub words_in : List ℕ → List (List ℕ)
words_in bs = filter has_some (slice_split is_ascii_whitespace bs)

abbrev pub words_of : (line : List ℕ) → List (List ℕ)
words_of line = words_in (code_of line)

-- the words of every line
abbrev pub rows : (text : List ℕ) → List (List (List ℕ))
rows text = map words_of (lines text)

-- words with a space between each two
abbrev pub unwords : List (List ℕ) → List ℕ
unwords ws = join_with_byte 32 ws
