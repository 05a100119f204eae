-- What was read is written as it stood. Assumes nothing.
use Rattle.std.proofs.Common.{◌≡◌, ℕ, ◌<◌, true, List, [], ◌∷◌, ◌++◌, length, map, filter, get_or, Option, Some, None, Ok, refl, sym, ◌∙◌, ap, subst, arith, append_assoc, append-nil, length-append}
use Rattle.std.specs.Str.{bytes_eq}
use Rattle.std.specs.Cmp.Lexicographic.{bytes_decides}
use Rattle.std.proofs.Math.Seq.{get_or-append_seam}
use Rattle.std.proofs.lemmas.List.{map-append, get_or_append_left}
use Rattle.std.proofs.lemmas.Bool.Decides.{nat_tests}
use Rattle.std.proofs.lemmas.List.Elements.{filter-append}
use Rattle.std.proofs.lemmas.List.Quantifiers.{position-Some}
use Rattle.script.specs.declared.Command.{Command}
use Rattle.script.specs.declared.Command.TheVariants as command
use Rattle.commands.specs.declared.CursorKind.{CursorKind}
use Rattle.commands.specs.declared.CursorCommand.{CursorCommand}
use Rattle.lines.specs.Lines.{Said, layout, new_cursor, cursor, said_words}
use Rattle.script.specs.Names.{place_of, made, called, command_of, names_after, line_of}
use Rattle.words.specs.Words.{has_some}
use Rattle.script.specs.Scripts.{Content, Adds, ReadsRow, ReadsRows, written, nothing}

-- the cursor of the command has a name among these
abbrev Known : List (List ℕ) → Command → Type 0
Known names (command.Layout c) = Unit {0}
Known names (command.NewCursor k kind) = k < length names
Known names (command.Cursor k c) = k < length names

abbrev AllKnown : List (List ℕ) → List Command → Type 0
AllKnown names [] = Unit {0}
AllKnown names (c ∷ cs) = Known names c × AllKnown names cs

-- the words of a command
command_words : List (List ℕ) → Command → List (List ℕ)
command_words names c = said_words (line_of names c)

-- ---- more names change nothing

longer : (names more : List (List ℕ)) (k : ℕ) → k < length names → k < length (names ++ more)
longer names more k h = omega (arith, length-append names more)

known_stays : (names more : List (List ℕ)) (c : Command) → Known names c → Known (names ++ more) c
known_stays names more (command.Layout c) h = tt
known_stays names more (command.NewCursor k kind) h = longer names more k h
known_stays names more (command.Cursor k c) h = longer names more k h

line_stays : (names more : List (List ℕ)) (c : Command) → Known names c → line_of (names ++ more) c ≡ line_of names c
line_stays names more (command.Layout c) h = refl
line_stays names more (command.NewCursor k kind) h = ap (λ n. new_cursor n kind) (get_or_append_left names more [] k h)
line_stays names more (command.Cursor k c) h = ap (λ n. cursor n c) (get_or_append_left names more [] k h)

all_stay : (names more : List (List ℕ)) (cs : List Command) → AllKnown names cs → AllKnown (names ++ more) cs × (map (command_words (names ++ more)) cs ≡ map (command_words names) cs)
unfolding command_words
all_stay names more [] h = (tt, refl)
all_stay names more (c ∷ cs) (h, hs) =
    let (known, same) = all_stay names more cs hs in
    ((known_stays names more c h, known), rw (line_stays names more c h, same) refl)

all_push : (names : List (List ℕ)) (cs : List Command) (c : Command) → AllKnown names cs → Known names c → AllKnown names (cs ++ (c ∷ []))
all_push names [] c hs h = (h, tt)
all_push names (d ∷ cs) c (g, hs) h = (g, all_push names cs c hs h)

more_names : (names : List (List ℕ)) (l : Said) → (more : List (List ℕ)) × (names_after names l ≡ names ++ more)
more_names names (layout c) = ([], sym (append-nil names))
more_names names (new_cursor n k) = (n ∷ [], refl)
more_names names (cursor n c) = ([], sym (append-nil names))

-- ---- the command of a line is written as the line

record Back (names : List (List ℕ)) (l : Said) (c : Command) : Type 0 where
  line : line_of (names_after names l) c ≡ l
  known : Known (names_after names l) c

back_made : (names : List (List ℕ)) (n : List ℕ) (kind : CursorKind) (c : Command) (o : Option ℕ) → made o (length names) kind ≡ Ok c → Back names (new_cursor n kind) c
back_made names n kind c None e =
    let same : command.NewCursor (length names) kind ≡ c = cc in
    subst (Back names (new_cursor n kind)) same (record {
      line = ap (λ m. new_cursor m kind) (get_or-append_seam names n [] []);
      known = omega (arith, length-append names (n ∷ []));
    })
back_made names n kind c (Some k) e = cc

back_called : (names : List (List ℕ)) (n : List ℕ) (d : CursorCommand) (c : Command) (o : Option ℕ) → place_of n names ≡ o → called o d ≡ Ok c → Back names (cursor n d) c
back_called names n d c None place e = cc
back_called names n d c (Some k) place e =
    let same : command.Cursor k d ≡ c = cc in
    let (inside, here, first) = position-Some (bytes_eq n) names k [] place in
    subst (Back names (cursor n d)) same (record {
      line = ap (λ m. cursor m d) (sym ((bytes_decides n (get_or names k [])).0 here));
      known = inside;
    })

back : (names : List (List ℕ)) (l : Said) (c : Command) → command_of names l ≡ Ok c → Back names l c
back names (layout d) c e = let same : command.Layout d ≡ c = cc in subst (Back names (layout d)) same (record { line = refl; known = tt })
back names (new_cursor n kind) c e = back_made names n kind c (place_of n names) e
back names (cursor n d) c e = back_called names n d c (place_of n names) refl e

-- ---- a row, and all of them

-- every cursor is known, and what was read so far is written so
record Holds (s : Content) (words : List (List (List ℕ))) : Type 0 where
  known : AllKnown s.names s.commands
  same : map (command_words s.names) s.commands ≡ words

added : (old new : Content) (l : Said) (words : List (List (List ℕ))) → Adds old l new → Holds old words → Holds new (words ++ (said_words l ∷ []))
unfolding command_words
added old new l words adds holds =
    let (more, after) = more_names old.names l in
    let b = back old.names l adds.command adds.gives in
    let (known, same) = all_stay old.names more old.commands holds.known in
    let others : AllKnown (names_after old.names l) old.commands = rw after known in
    let before : map (command_words (names_after old.names l)) old.commands ≡ words = rw after (same ∙ holds.same) in
    record {
      known = rw (adds.commands, adds.names) (all_push (names_after old.names l) old.commands adds.command others b.known);
      same = rw (adds.commands, adds.names, map-append (command_words (names_after old.names l)) old.commands (adds.command ∷ []), before, b.line) refl;
    }

some_words : (w : List ℕ) (ws : List (List ℕ)) → has_some (w ∷ ws) ≡ true
some_words w ws = grind (arith, nat_tests)

row_written : (row : List (List ℕ)) (old new : Content) (words : List (List (List ℕ))) → ReadsRow row old new → Holds old words → Holds new (words ++ filter has_some (row ∷ []))
row_written [] old new words reads holds = rw (reads, append-nil words) holds
row_written (w ∷ ws) old new words (l, says, adds) holds = rw (some_words w ws, says.written) (added old new l words adds holds)

rows_written : (rows : List (List (List ℕ))) (old new : Content) (words : List (List (List ℕ))) → ReadsRows rows old new → Holds old words → Holds new (words ++ filter has_some rows)
rows_written [] old new words reads holds = rw (reads, append-nil words) holds
rows_written (row ∷ rest) old new words (mid, reads, others) holds =
    let all = rows_written rest mid new (words ++ filter has_some (row ∷ [])) others (row_written row old mid words reads holds) in
    rw (filter-append has_some (row ∷ []) rest, ← append_assoc) all

pub written_again : (rows : List (List (List ℕ))) (new : Content) → ReadsRows rows nothing new → written new ≡ filter has_some rows
unfolding command_words
written_again rows new reads = (rows_written rows nothing new [] reads (record { known = tt; same = refl })).same
