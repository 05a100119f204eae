-- What the words of lines add, one line behind the other. Assumes nothing.
use Rattle.std.proofs.Common.{◌≡◌, ◌≢◌, ◌↔◌, ℕ, ◌+◌, Bool, List, [], ◌∷◌, ◌++◌, length, take, get_or, Option, Some, None, Result, Ok, Err, IsErrAnd, refl, sym, ap, subst, arith}
use Rattle.std.specs.List.{list_any, enumerate_from}
use Rattle.std.specs.Str.Lines.{lines}
use Rattle.std.proofs.Math.Seq.{take-length}
use Rattle.std.proofs.lemmas.List.{take_more, length-map}
use Rattle.std.proofs.lemmas.List.FromFn.{length-enumerate_from}
use Rattle.words.specs.Words.{words_of, rows}
use Rattle.words.proofs.Rows.{IsLine}
use Rattle.dump.specs.declared.lines.Line.{Line}
use Rattle.dump.specs.declared.lines.Line.TheVariants as line
use Rattle.dump.specs.declared.texts.What.{What}
use Rattle.dump.specs.declared.texts.What.TheVariants.{NotALine, NumberTooLarge, OutOfOrder, NoEnds, OutOfMemory}
use Rattle.dump.specs.Lines.{Says, line_words}
use Rattle.dump.specs.Dumps.{Unreadable, names_too_large}
use Rattle.dump.specs.Parts.{Part, Adds, AddsRow, AddsRows, IsRefused, IsUnread, IsWrongRow, Stops, LineTold, RowTold}

pub unreadable : (words : List (List ℕ)) (large : Bool) → ((l : Line) → ◌≡◌ {A = Option Line} None (Some l) ↔ Says words l) → list_any names_too_large words ≡ large → Unreadable words large
unreadable words large read is = record { says_nothing = λ l says. let found = (read l).1 says in cc; large_is = is }

-- ---- a line that is read, and one that is not

pub has_words : (l : Line) → ◌≢◌ {A = List (List ℕ)} [] (line_words l)
has_words (line.Ends e) r = cc
has_words (line.Block b n) r = cc
has_words (line.Inst i n) r = cc

row_added : (row : List (List ℕ)) (old new : Part) (l : Line) → Says row l → Adds old l new → AddsRow row old new
row_added [] old new l says adds = absurd (has_words l says.written)
row_added (w ∷ ws) old new l says adds = (l, says, adds)

row_refused : (row : List (List ℕ)) (p : Part) (l : Line) (w : What) → Says row l → IsRefused p l w → IsWrongRow p row w
row_refused row p l NotALine says refused = absurd refused
row_refused row p l NumberTooLarge says refused = absurd refused
row_refused row p l OutOfOrder says refused = (l, says, refused)
row_refused row p l NoEnds says refused = absurd refused
row_refused row p l OutOfMemory says refused = tt

pub pushed : (row : List (List ℕ)) (old new : Part) (l : Line) → Says row l → (r : Result (Unit {0}) What) → LineTold l old r new → RowTold row old r new
pushed row old new l says (Ok u) told = row_added row old new l says told
pushed row old new l says (Err w) told = row_refused row old l w says told

row_unread : (row : List (List ℕ)) (p : Part) (w : What) → row ≢ [] → IsUnread row w → IsWrongRow p row w
row_unread row p NotALine some wrong = (some, wrong)
row_unread row p NumberTooLarge some wrong = (some, wrong)
row_unread row p OutOfOrder some wrong = absurd wrong
row_unread row p NoEnds some wrong = absurd wrong
row_unread row p OutOfMemory some wrong = absurd wrong

pub unread : (row : List (List ℕ)) (old new : Part) (r : Result (Unit {0}) What) (w : What) → row ≢ [] → IsErrAnd r (λ v. v ≡ w) → IsUnread row w → RowTold row old r new
unread row old new (Ok u) w some is wrong = absurd is
unread row old new (Err v) w some is wrong = subst (IsWrongRow old row) (sym is) (row_unread row old w some wrong)

-- ---- one line behind the other

rows_push : (all : List (List (List ℕ))) (row : List (List ℕ)) (old mid new : Part) → AddsRows all old mid → AddsRow row mid new → AddsRows (all ++ (row ∷ [])) old new
rows_push [] row old mid new adds more = (new, subst (λ (p : Part). AddsRow row p new) adds more, refl)
rows_push (first ∷ rest) row old mid new (next, adds, others) more = (next, adds, rows_push rest row next mid new others more)

pub rows_more : (text : List ℕ) (n i : ℕ) (line : List ℕ) → IsLine text n i line → (old mid new : Part) → AddsRows (take n (rows text)) old mid → AddsRow (words_of line) mid new → AddsRows (take (n + 1) (rows text)) old new
rows_more text n i line is old mid new adds more =
    let all : take (n + 1) (rows text) ≡ take n (rows text) ++ (get_or (rows text) n [] ∷ []) = take_more (rows text) n [] is.inside in
    rw all (rows_push (take n (rows text)) (get_or (rows text) n []) old mid new adds (rw is.row more))

pub rows_all : (text : List ℕ) (n : ℕ) → n ≡ length (enumerate_from 0 (lines text)) → (old new : Part) → AddsRows (take n (rows text)) old new → AddsRows (rows text) old new
rows_all text n last old new adds =
    let whole : n ≡ length (rows text) = omega (arith, length-enumerate_from 0 (lines text), length-map (lines text) words_of) in
    let all : take n (rows text) ≡ rows text = rw whole (take-length (rows text)) in
    rw all at adds

pub stops_here : (text : List ℕ) (n i : ℕ) (line : List ℕ) → IsLine text n i line → (old mid : Part) → AddsRows (take n (rows text)) old mid → (w : What) → IsWrongRow mid (words_of line) w → Stops (rows text) old (record { line = i + 1; what = w })
stops_here text n i line is old mid adds w wrong = record {
  ahead = n;
  inside = is.inside;
  line = ap (λ k. k + 1) is.index;
  mid = mid;
  adds = adds;
  wrong = rw is.row wrong;
}
