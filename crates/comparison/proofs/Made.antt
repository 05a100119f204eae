-- The calls and the cursors of commands, one command more; and the run of all their calls.
use Rattle.std.proofs.Common.{◌≡◌, ℕ, ◌+◌, ◌<◌, Bool, true, false, cond, Some, None, Option, List, [], ◌∷◌, ◌++◌, map, length, take, get_or, refl, sym, ap, ◌∙◌, append-nil, append_assoc, arith, le-leb}
use Rattle.std.specs.Bool.{then_some}
use Rattle.std.specs.List.{filter_map, cons_option}
use Rattle.std.proofs.lemmas.List.{take_more, map-append, length-map}
use Rattle.std.proofs.lemmas.List.Elements.{filter_map-append}
use Rattle.entities.specs.Program.{no_program}
use Rattle.layout.specs.declared.Layout.{Layout}
use Rattle.layout.specs.Program.{program}
use Rattle.calls.specs.declared.Call.{Call}
use Rattle.replay.specs.Histories.{Reached, listed, moves}
use Rattle.cursor.specs.Kinds.{any_position}
use Rattle.commands.specs.declared.CursorKind.{CursorKind}
use Rattle.script.specs.declared.Command.{Command}
use Rattle.session.specs.declared.Session.{Session}
use Rattle.session.specs.Sessions.{AddsCursor}
use Rattle.replay.specs.Runs.{can_replay, all_fit}
use Rattle.comparison.specs.Reached.{IsFresh, Reaches, Runs, calls_of, cursors_made, first_places, kinds_of}

module _ {X Y : Type 0} (h : X → Option Y) (xs : List X) (i : ℕ) (d : X) where
  more : i < length xs → filter_map h (take (i + 1) xs) ≡ filter_map h (take i xs) ++ cons_option (h (get_or xs i d)) []
  more lt = ap (filter_map h) (take_more xs i d lt) ∙ filter_map-append h (take i xs) (get_or xs i d ∷ [])

  -- one that gives y
  pub one_more : (y : Y) → i < length xs → h (get_or xs i d) ≡ Some y → filter_map h (take (i + 1) xs) ≡ filter_map h (take i xs) ++ (y ∷ [])
  one_more y lt e = more lt ∙ ap (λ o. filter_map h (take i xs) ++ cons_option o []) e

  -- one that gives none
  pub none_more : i < length xs → h (get_or xs i d) ≡ None → filter_map h (take (i + 1) xs) ≡ filter_map h (take i xs)
  none_more lt e = more lt ∙ ap (λ o. filter_map h (take i xs) ++ cons_option o []) e ∙ append-nil (filter_map h (take i xs))

-- what is no Some is None
pub none_of : {Y : Type 0} → (o : Option Y) → ((y : Y) → o ≡ Some y → ⊥) → o ≡ None
none_of None f = refl
none_of (Some y) f = absurd (f y refl)

-- one cursor more
pub cursor_more : (kinds more : List CursorKind) (kind : CursorKind) (s t : Session) → more ≡ kinds ++ (kind ∷ []) → IsFresh kinds s → AddsCursor kind s t → IsFresh more t
cursor_more kinds more kind s t e f a = record {
  layout = ap program a.layout ∙ f.layout;
  cursors = ap (map any_position) a.cursors ∙ map-append any_position s.cursors.items (a.cursor ∷ []) ∙ ap (λ ps. ps ++ (any_position a.cursor ∷ [])) f.cursors ∙ ap (λ p. first_places kinds ++ (p ∷ [])) a.is_new.nowhere ∙ sym (ap first_places e ∙ map-append _ kinds (kind ∷ []));
}

-- a run of calls
pub runs : (s t : Session) (calls : List Call) (answers : ℕ) (b : Bool) → answers ≡ length calls → b ≡ can_replay calls (length s.cursors.items) answers
    → (b ≡ true → Reached (program s.layout) (moves calls (program s.layout) (map any_position s.cursors.items)) t.layout) → Runs s calls (then_some b t.layout)
runs s t calls answers b room made reached = go b refl
  where
    fits : b ≡ all_fit (length s.cursors.items) calls
    fits = made ∙ ap (λ r. cond r (all_fit (length s.cursors.items) calls) false) (le-leb (length calls) answers (omega arith))

    go : (r : Bool) → b ≡ r → Runs s calls (then_some r t.layout)
    go true e = record { fit = sym fits ∙ e; list = reached e }
    go false e = sym fits ∙ e

-- the run of all calls of commands, on a fresh session
pub run_reaches : (commands : List Command) (o : Option Layout) (s : Session) (calls : List Call) → IsFresh (kinds_of commands) s → calls ≡ calls_of commands → Runs s calls o → Reaches commands o
run_reaches commands o s calls f e r = go o r
  where
    fits : all_fit (length s.cursors.items) calls ≡ cursors_made commands
    fits =
        ap (λ n. all_fit n calls) (sym (length-map s.cursors.items any_position) ∙ ap length f.cursors ∙ length-map (kinds_of commands) _)
        ∙ ap (all_fit (length (kinds_of commands))) e

    go : (q : Option Layout) → Runs s calls q → Reaches commands q
    go None fails = sym fits ∙ fails
    go (Some l) run = record {
      made = sym fits ∙ run.fit;
      list =
          run.list
          ∙ ap (λ p. listed p (moves calls p (map any_position s.cursors.items))) f.layout
          ∙ ap (λ ps. listed no_program (moves calls no_program ps)) f.cursors
          ∙ ap (λ cs. listed no_program (moves cs no_program (first_places (kinds_of commands)))) e;
    }

-- one more of each, where what the one gives is what the other gives
pub one_each : {X Y Z : Type 0} (f : X → Z) (h : Y → Z) (old now new : List X) (xs : List Y) (i : ℕ) (d : Y) (x : X) → i < length xs → map f now ≡ map f old ++ map h (take i xs) → new ≡ now ++ (x ∷ []) → f x ≡ h (get_or xs i d) → map f new ≡ map f old ++ map h (take (i + 1) xs)
one_each f h old now new xs i d x lt so_far pushed same =
    let next = h (get_or xs i d) in
    ap (map f) pushed
    ∙ map-append f now (x ∷ [])
    ∙ ap (λ z. map f now ++ (z ∷ [])) same
    ∙ ap (λ zs. zs ++ (next ∷ [])) so_far
    ∙ append_assoc (map f old) (map h (take i xs)) (next ∷ [])
    ∙ ap (λ zs. map f old ++ zs) (sym (ap (map h) (take_more xs i d lt) ∙ map-append h (take i xs) (get_or xs i d ∷ [])))
