-- A script makes every cursor that it calls. Assumes nothing.
use Rattle.std.proofs.Common.{◌≡◌, ℕ, ◌+◌, ◌<◌, Bool, true, false, cond, Some, None, Option, Ok, Err, Result, MatchResult, List, [], ◌∷◌, ◌++◌, length, refl, sym, ap, subst, ◌∙◌, arith, bytes_eq, IsSome, lt-ltb, ltb-true, length-append}
use Rattle.std.proofs.lemmas.Bool.{false≢true}
use Rattle.std.proofs.lemmas.List.Elements.{filter_map-append}
use Rattle.std.proofs.lemmas.List.Quantifiers.{position-Some}
use Rattle.calls.specs.declared.Call.{Call}
use Rattle.calls.specs.declared.Call.TheVariants as call
use Rattle.commands.specs.declared.CursorKind.{CursorKind}
use Rattle.commands.specs.declared.CursorCommand.{CursorCommand}
use Rattle.commands.specs.declared.CursorCommand.TheVariants as cursor_command
use Rattle.commands.specs.declared.LayoutCommand.{LayoutCommand}
use Rattle.commands.specs.declared.LayoutCommand.TheVariants as layout_command
use Rattle.lines.specs.Lines.{Said, layout, new_cursor, cursor}
use Rattle.replay.specs.Histories.{fits}
use Rattle.replay.specs.Runs.{all_fit}
use Rattle.script.specs.declared.Command.{Command}
use Rattle.script.specs.declared.Command.TheVariants as command
use Rattle.script.specs.Names.{called, command_of, made, names_after, place_of}
use Rattle.script.specs.Scripts.{Adds, Content, Parses, ReadsRow, ReadsRows, content, nothing}
use Rattle.script.specs.declared.texts.Script.{Script}
use Rattle.script.specs.declared.texts.ScriptFault.{ScriptFault}
use Rattle.words.specs.Words.{rows}
use Rattle.comparison.specs.declared.Comparison.{Comparison}
use Rattle.comparison.specs.Compared.{Compares}
use Rattle.comparison.specs.Scripts.{ScriptsCompared}
use Rattle.comparison.specs.Reached.{call_of, calls_of, cursors_made, kind_of, kinds_of, program_of}
use Rattle.parting.specs.Parts.{Parts}
use Rattle.entities.specs.Laws.{walk}

-- as many cursors are made as have names, and each that is called is one of them
record Sound (c : Content) : Type 0 where
  cursors : length (kinds_of c.commands) ≡ length c.names
  fit : all_fit (length c.names) (calls_of c.commands) ≡ true

-- what one command more does to that
record Extends (command : Command) (names more : List (List ℕ)) : Type 0 where
  cursors : length names + length (kinds_of (command ∷ [])) ≡ length more
  fit : all_fit (length more) (calls_of (command ∷ [])) ≡ true
  grows : length names < length more + 1

fits_more : (n m : ℕ) → n < m + 1 → (c : Call) → fits n c ≡ true → fits m c ≡ true
fits_more n m h (call.Layout e) f = refl
fits_more n m h (call.Cursor k c) f = let lt : k < n = ltb-true k n f in lt-ltb k m (omega arith)

all_more : (n m : ℕ) → n < m + 1 → (cs ds : List Call) → all_fit n cs ≡ true → all_fit m ds ≡ true → all_fit m (cs ++ ds) ≡ true
all_more n m h [] ds f g = g
all_more n m h (c ∷ cs) ds f g = go (fits n c) refl (λ fit. all_more n m h cs ds fit g)
  where
    go : (r : Bool) → fits n c ≡ r → (all_fit n cs ≡ true → all_fit m (cs ++ ds) ≡ true) → cond (fits m c) (all_fit m (cs ++ ds)) false ≡ true
    go true e rest =
        ap (λ b. cond b (all_fit m (cs ++ ds)) false) (fits_more n m h c e)
        ∙ rest (ap (λ b. cond b (all_fit n cs) false) (sym e) ∙ f)
    go false e rest = absurd (false≢true (ap (λ b. cond b (all_fit n cs) false) (sym e) ∙ f))

layout_extends : (c : LayoutCommand) (names : List (List ℕ)) → Extends (command.Layout c) names names
layout_extends (layout_command.Edit e) names = record { cursors = omega arith; fit = refl; grows = omega arith }
layout_extends (layout_command.Ask q) names = record { cursors = omega arith; fit = refl; grows = omega arith }
layout_extends layout_command.Walk names = record { cursors = omega arith; fit = refl; grows = omega arith }
layout_extends layout_command.WalkBack names = record { cursors = omega arith; fit = refl; grows = omega arith }

cursor_extends : (k : ℕ) (c : CursorCommand) (names : List (List ℕ)) → k < length names → Extends (command.Cursor k c) names names
cursor_extends k (cursor_command.Call c) names h = record { cursors = omega arith; fit = ap (λ b. cond b true false) (lt-ltb k (length names) h); grows = omega arith }
cursor_extends k (cursor_command.Ask q) names h = record { cursors = omega arith; fit = refl; grows = omega arith }

made_is : (found : Option ℕ) (n : ℕ) (k : CursorKind) (c : Command) → made found n k ≡ Ok c → command.NewCursor n k ≡ c
made_is None n k c e = cc
made_is (Some i) n k c e = cc

called_is : (found : Option ℕ) (cc′ : CursorCommand) (c : Command) → called found cc′ ≡ Ok c → (i : ℕ) × (found ≡ Some i) × (command.Cursor i cc′ ≡ c)
called_is None d c e = absurd (let z : ◌≡◌ {A = ℕ} 0 1 = cc in omega arith)
called_is (Some i) d c e = (i, refl, cc)

extends : (l : Said) (names : List (List ℕ)) (c : Command) → command_of names l ≡ Ok c → Extends c names (names_after names l)
extends (layout d) names c e = let same : command.Layout d ≡ c = cc in subst (λ x. Extends x names names) same (layout_extends d names)
extends (new_cursor name k) names c e =
    let count = length-append names (name ∷ []) in
    subst (λ x. Extends x names (names ++ (name ∷ []))) (made_is (place_of name names) (length names) k c e) (record { cursors = sym count; fit = refl; grows = omega (arith, count) })
extends (cursor name d) names c e =
    let found = called_is (place_of name names) d c e in
    subst (λ x. Extends x names names) found.2 (cursor_extends found.0 d names (position-Some (bytes_eq name) names found.0 [] found.1).0)

added : (old new : Content) (l : Said) → Adds old l new → Sound old → Sound new
added old new l a s =
    let more = extends l old.names a.command a.gives in
    let kinds = ap kinds_of a.commands ∙ filter_map-append kind_of old.commands (a.command ∷ []) in
    let calls = ap calls_of a.commands ∙ filter_map-append call_of old.commands (a.command ∷ []) in
    let names = ap length a.names in
    record {
      cursors = ap length kinds ∙ length-append (kinds_of old.commands) (kinds_of (a.command ∷ [])) ∙ ap (λ n. n + length (kinds_of (a.command ∷ []))) s.cursors ∙ more.cursors ∙ sym names;
      fit =
          ap (all_fit (length new.names)) calls
          ∙ ap (λ n. all_fit n (calls_of old.commands ++ calls_of (a.command ∷ []))) names
          ∙ all_more (length old.names) (length (names_after old.names l)) more.grows (calls_of old.commands) (calls_of (a.command ∷ [])) s.fit more.fit;
    }

row_added : (row : List (List ℕ)) (old new : Content) → ReadsRow row old new → Sound old → Sound new
row_added [] old new e s = subst Sound (sym e) s
row_added (w ∷ ws) old new r s = added old new r.0 r.2 s

rows_added : (rows : List (List (List ℕ))) (old new : Content) → ReadsRows rows old new → Sound old → Sound new
rows_added [] old new e s = subst Sound (sym e) s
rows_added (row ∷ rest) old new r s = rows_added rest r.0 new r.2 (row_added row old r.0 r.1 s)

-- a script makes every cursor that it calls
pub script_makes : (rows : List (List (List ℕ))) (c : Content) → ReadsRows rows nothing c → cursors_made c.commands ≡ true
script_makes rows c r =
    let s = rows_added rows nothing c r (record { cursors = refl; fit = refl }) in
    ap (λ n. all_fit n (calls_of c.commands)) s.cursors ∙ s.fit

pub script_is_made : (text : List ℕ) (s : Script) → Parses text (Ok s) → cursors_made s.commands.items ≡ true
script_is_made text s p = script_makes (rows text) (content s) p

-- what was read, where only the fault was wrapped
pub read_is : (F : Type 0) (text : List ℕ) (r : Result Script ScriptFault) (s : Script) → MatchResult r (λ x. ◌≡◌ {A = Result Script F} (Ok s) (Ok x)) (λ e. ⊥) → Parses text r → Parses text (Ok s)
read_is F text (Ok x) s m p = let e : x ≡ s = cc in subst (λ y. Parses text (Ok y)) e p
read_is F text (Err f) s m p = absurd m

-- two scripts are compared
pub is_compared : (a b : List ℕ) (s t : Script) (firsts seconds : List Command) (o : Option Comparison) → Parses a (Ok s) → Parses b (Ok t) → firsts ≡ s.commands.items → seconds ≡ t.commands.items → Compares firsts seconds o → IsSome o
is_compared a b s t firsts seconds None p q e d c =
    let first_made : cursors_made firsts ≡ true = ap cursors_made e ∙ script_is_made a s p in
    let second_made : cursors_made seconds ≡ true = ap cursors_made d ∙ script_is_made b t q in
    absurd (false≢true (sym c ∙ ap (λ r. cond r (cursors_made seconds) false) first_made ∙ second_made))
is_compared a b s t firsts seconds (Some o) p q e d c = refl

pub scripts_compared : (a b : List ℕ) (s t : Script) (firsts seconds : List Command) (o : Option Comparison) (c : Comparison) → Parses a (Ok s) → Parses b (Ok t) → firsts ≡ s.commands.items → seconds ≡ t.commands.items → Compares firsts seconds o → o ≡ Some c → ScriptsCompared a b c
scripts_compared a b s t firsts seconds o c p q e d r is =
    let compared = subst (Compares firsts seconds) is r in
    record {
      one = content s;
      other = content t;
      reads_first = p;
      reads_second = q;
      parts = subst (λ cs. Parts c.0 (walk (program_of cs).lines) (walk (program_of t.commands.items).lines)) e (subst (λ cs. Parts c.0 (walk (program_of firsts).lines) (walk (program_of cs).lines)) d compared.parts);
    }
