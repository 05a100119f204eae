-- What the words of lines say, one line behind the other. Assumes nothing.
use Rattle.std.proofs.Common.{◌≡◌, ◌≢◌, ◌↔◌, ℕ, ◌+◌, List, [], ◌∷◌, ◌++◌, length, take, get_or, Option, Some, None, Result, Ok, Err, IsErrAnd, refl, sym, ap, subst, arith, rules}
use Rattle.std.specs.List.{enumerate_from}
use Rattle.std.specs.Str.Lines.{lines}
use Rattle.std.proofs.Math.Seq.{take-length}
use Rattle.std.proofs.lemmas.List.{take_more, length-map}
use Rattle.std.proofs.lemmas.List.FromFn.{length-enumerate_from}
use Rattle.words.specs.Words.{words_of, rows}
use Rattle.words.proofs.Rows.{IsLine}
use Rattle.lines.specs.Lines.{Said, Says, said_words}
use Rattle.script.specs.declared.texts.What.{What}
use Rattle.script.specs.declared.texts.What.TheVariants.{NotACall, NumberTooLarge, UnknownCursor, NameTaken, OutOfMemory}
use Rattle.script.specs.Scripts.{SaysNothing, Content, Adds, ReadsRow, ReadsRows, IsRefused, IsWrong, IsFault, LineTold, RowTold}

pub says_nothing : (words : List (List ℕ)) → ((l : Said) → ◌≡◌ {A = Option Said} None (Some l) ↔ Says words l) → SaysNothing words
says_nothing words read l says = let found = (read l).1 says in cc

-- ---- a line that is read, and one that is not

has_words : (l : Said) → ◌≢◌ {A = List (List ℕ)} [] (said_words l)
has_words l = search rules

row_added : (row : List (List ℕ)) (old new : Content) (l : Said) → Says row l → Adds old l new → ReadsRow row old new
row_added [] old new l says adds = absurd (has_words l says.written)
row_added (w ∷ ws) old new l says adds = (l, says, adds)

row_refused : (row : List (List ℕ)) (names : List (List ℕ)) (l : Said) (w : What) → Says row l → IsRefused names l w → IsWrong names row w
row_refused row names l NotACall says refused = absurd refused
row_refused row names l NumberTooLarge says refused = absurd refused
row_refused row names l UnknownCursor says refused = (l, says, refused)
row_refused row names l NameTaken says refused = (l, says, refused)
row_refused row names l OutOfMemory says refused = tt

pub pushed : (row : List (List ℕ)) (old new : Content) (l : Said) → Says row l → (r : Result (Unit {0}) What) → LineTold l old r new → RowTold row old r new
pushed row old new l says (Ok u) told = row_added row old new l says told
pushed row old new l says (Err w) told = row_refused row old.names l w says told

pub wrong_words : (row : List (List ℕ)) (old new : Content) (r : Result (Unit {0}) What) (w : What) → IsErrAnd r (λ v. v ≡ w) → IsWrong old.names row w → RowTold row old r new
wrong_words row old new (Ok u) w is wrong = absurd is
wrong_words row old new (Err v) w is wrong = subst (IsWrong old.names row) (sym is) wrong

-- ---- one line behind the other

rows_push : (all : List (List (List ℕ))) (row : List (List ℕ)) (old mid new : Content) → ReadsRows all old mid → ReadsRow row mid new → ReadsRows (all ++ (row ∷ [])) old new
rows_push [] row old mid new reads more = (new, subst (λ (s : Content). ReadsRow row s new) reads more, refl)
rows_push (first ∷ rest) row old mid new (next, reads, others) more = (next, reads, rows_push rest row next mid new others more)

pub rows_more : (text : List ℕ) (n i : ℕ) (line : List ℕ) → IsLine text n i line → (old mid new : Content) → ReadsRows (take n (rows text)) old mid → ReadsRow (words_of line) mid new → ReadsRows (take (n + 1) (rows text)) old new
rows_more text n i line is old mid new reads more =
    let all : take (n + 1) (rows text) ≡ take n (rows text) ++ (get_or (rows text) n [] ∷ []) = take_more (rows text) n [] is.inside in
    rw all (rows_push (take n (rows text)) (get_or (rows text) n []) old mid new reads (rw is.row more))

pub rows_all : (text : List ℕ) (n : ℕ) → n ≡ length (enumerate_from 0 (lines text)) → (old new : Content) → ReadsRows (take n (rows text)) old new → ReadsRows (rows text) old new
rows_all text n last old new reads =
    let whole : n ≡ length (rows text) = omega (arith, length-enumerate_from 0 (lines text), length-map (lines text) words_of) in
    let all : take n (rows text) ≡ rows text = rw whole (take-length (rows text)) in
    rw all at reads

pub fault_here : (text : List ℕ) (n i : ℕ) (line : List ℕ) → IsLine text n i line → (old mid : Content) → ReadsRows (take n (rows text)) old mid → (w : What) → IsWrong mid.names (words_of line) w → IsFault (rows text) old (record { line = i + 1; what = w })
fault_here text n i line is old mid reads w wrong = record {
  ahead = n;
  inside = is.inside;
  line = ap (λ k. k + 1) is.index;
  mid = mid;
  reads = reads;
  wrong = rw is.row wrong;
}
