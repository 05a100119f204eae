-- One call made, and a list of calls made in turn, with cursors of any kind; `pos` is the position that a cursor means. Assumes nothing.
use Rattle.std.specs.Prelude.{◌≡◌, ℕ, Bool, true, false, cond, List, [], ◌∷◌, ◌++◌, map, length, nat_le, slice_set, Some, None, Option, Ok, Err, Result}
use Rattle.entities.specs.Program.{Program}
use Rattle.faults.specs.Refusals.{SameIfRefused}
use Rattle.cursor.specs.declared.CursorPosition.{CursorPosition}
use Rattle.cursor.specs.Positions.{standing}
use Rattle.layout.specs.declared.Layout.{Layout}
use Rattle.layout.specs.Program.{program}
use Rattle.calls.specs.declared.Answer.{Answer}
use Rattle.calls.specs.declared.Call.{Call}
use Rattle.calls.specs.declared.Call.TheVariants.{Layout as of_layout, Cursor as of_cursor}
use Rattle.calls.specs.declared.CallFault.{CallFault}
use Rattle.calls.specs.declared.CallFault.TheVariants.{Layout as by_layout, Cursor as by_cursor}
use Rattle.calls.specs.Replies.{call_told}
use Rattle.calls.specs.Calls.{LayoutStays, CursorStays}
use Rattle.leading.specs.Leading.{leads}
use Rattle.order.specs.Order.{OneOrder}
use Rattle.replay.specs.Histories.{Move, Reached, fits, listed, made, move_of, moves, place_of}

abbrev pub Outcome : Type 0
Outcome = Result Answer CallFault

-- ---- one call

-- an edit is refused by the layout, a cursor call by its cursor, which carries what the layout refused
abbrev pub RefusedBy : Call → Outcome → Type 0
RefusedBy c (Ok a) = Unit {0}
RefusedBy (of_layout e) (Err (by_layout f)) = Unit {0}
RefusedBy (of_layout e) (Err (by_cursor f)) = ⊥
RefusedBy (of_cursor k c) (Err (by_layout f)) = ⊥
RefusedBy (of_cursor k c) (Err (by_cursor f)) = Unit {0}

-- an edit of the layout leaves every cursor, a cursor call every other one, the very same value
abbrev pub OthersStay : {C : Type 0} → Call → (before after : List C) → Type 0
OthersStay (of_layout e) before after = after ≡ before
OthersStay {C} (of_cursor k c) before after = (cursor : C) × (after ≡ slice_set before k cursor)

-- a cursor call that is no edit leaves the layout the very same value
abbrev pub Untouched : Call → (before after : Layout) → Type 0
Untouched (of_layout e) before after = Unit {0}
Untouched (of_cursor k c) before after = LayoutStays c before after

-- a position question leaves its cursor the very same value
abbrev pub CursorsStay : {C : Type 0} → Call → (before after : C) → Type 0
CursorsStay (of_layout e) before after = Unit {0}
CursorsStay (of_cursor k c) before after = CursorStays c before after

-- after an accepted goto, step or cursor edit the cursor is Nowhere or on something inserted
abbrev pub StandsThen : Call → Outcome → List CursorPosition → Program → Type 0
StandsThen c (Err f) places p = Unit {0}
StandsThen (of_layout e) (Ok a) places p = Unit {0}
StandsThen (of_cursor k c) (Ok a) places p = leads c ≡ true → standing (place_of k places) p ≡ true

-- call c answered r, on layout l and cursors cs, and left l′ and cs′
pub record Applied {C : Type 0} (pos : C → CursorPosition) (c : Call) (r : Outcome) (l l′ : Layout) (cs cs′ : List C) : Type 0 where
  -- answered or refused as the questions and rules say
  pub answer : call_told r ≡ (made c (program l) (map pos cs)).answer
  pub refused_by : RefusedBy c r
  pub list : program l′ ≡ (made c (program l) (map pos cs)).after
  pub places : map pos cs′ ≡ (made c (program l) (map pos cs)).places
  pub others : OthersStay c cs cs′
  pub untouched : Untouched c l l′
  pub cursors_stay : CursorsStay c cs cs′
  pub led : StandsThen c r (map pos cs′) (program l′)
  -- a refusal changes nothing
  pub same_layout : SameIfRefused r l l′
  pub same_cursors : SameIfRefused r cs cs′

-- ---- a list of calls

-- the calls are made in turn, and rs are their answers: each works on what the one before it left
abbrev pub InTurn : {C : Type 0} → (C → CursorPosition) → List Call → List Outcome → (l : Layout) → (cs : List C) → (l′ : Layout) → (cs′ : List C) → Type 0
InTurn pos [] [] l cs l′ cs′ = (l′ ≡ l) × (cs′ ≡ cs)
InTurn pos [] (r ∷ rs) l cs l′ cs′ = ⊥
InTurn pos (c ∷ calls) [] l cs l′ cs′ = ⊥
InTurn {C} pos (c ∷ calls) (r ∷ rs) l cs l″ cs″ = (l′ : Layout) × (cs′ : List C) × Applied pos c r l l′ cs cs′ × InTurn pos calls rs l′ cs′ l″ cs″

-- the history h from `start` led to l, and walk and numbers of l stand in one order, that of the list which the history makes
pub record InOrder (start : Program) (h : List Move) (l : Layout) : Type 0 where
  pub reached : Reached start h l
  pub order : OneOrder l (listed start h)

-- the calls are made in turn, and ahead of the first and after each one walk and numbers stand in one order, that of the list which the
-- history so far makes
abbrev pub InTurnAndOrder : {C : Type 0} → (C → CursorPosition) → (start : Program) → List Move → List Call → List Outcome → (l : Layout) → (cs : List C) → (l′ : Layout) → (cs′ : List C) → Type 0
InTurnAndOrder pos start h [] [] l cs l′ cs′ = (l′ ≡ l) × (cs′ ≡ cs) × InOrder start h l
InTurnAndOrder pos start h [] (r ∷ rs) l cs l′ cs′ = ⊥
InTurnAndOrder pos start h (c ∷ calls) [] l cs l′ cs′ = ⊥
InTurnAndOrder {C} pos start h (c ∷ calls) (r ∷ rs) l cs l″ cs″ = InOrder start h l × ((l′ : Layout) × (cs′ : List C) × Applied pos c r l l′ cs cs′ × InTurnAndOrder pos start (h ++ (move_of c (map pos cs) ∷ [])) calls rs l′ cs′ l″ cs″)

-- the main theorem: whatever history led to l, after these calls walk and numbers stand in one order
pub record WalkAndNumbersInOneOrder {C : Type 0} (pos : C → CursorPosition) (start : Program) (h : List Move) (calls : List Call) (rs : List Outcome) (l : Layout) (cs : List C) (l′ : Layout) (cs′ : List C) : Type 0 where
  -- every call of the run: its answer, where it led, and that its refusal changed nothing; and the order at every moment
  pub each : InTurnAndOrder pos start h calls rs l cs l′ cs′
  -- the layout at the end holds the list that all calls so far make
  pub reached : Reached start (h ++ moves calls (program l) (map pos cs)) l′
  -- walk is the list, names, mirror and ranks
  pub order : OneOrder l′ (listed start (h ++ moves calls (program l) (map pos cs)))

-- the same for one call; nothing is made where there is no such cursor
abbrev pub OneCallInOrder : {C : Type 0} → (C → CursorPosition) → (start : Program) → List Move → Call → Option Outcome → (l : Layout) → (cs : List C) → (l′ : Layout) → (cs′ : List C) → Type 0
OneCallInOrder pos start h c None l cs l′ cs′ = Unit {0}
OneCallInOrder pos start h c (Some r) l cs l′ cs′ = WalkAndNumbersInOneOrder pos start h (c ∷ []) (r ∷ []) l cs l′ cs′

-- a run of xs and then ys is a run of the one and then of the other
abbrev pub RunsJoin : {C : Type 0} → (C → CursorPosition) → List Call → List Outcome → (l : Layout) → (cs : List C) → (l′ : Layout) → (cs′ : List C) → Type 0
RunsJoin {C} pos calls rs l cs l″ cs″ =
    (xs ys : List Call) → calls ≡ xs ++ ys →
    (l′ : Layout) × (cs′ : List C) × (ra : List Outcome) × (rb : List Outcome) × (rs ≡ ra ++ rb) × InTurn pos xs ra l cs l′ cs′ × InTurn pos ys rb l′ cs′ l″ cs″

-- ---- when a list of calls is made: there is room for every answer, and each call's cursor is there

abbrev pub all_fit : (cursors : ℕ) → List Call → Bool
all_fit n [] = true
all_fit n (c ∷ cs) = cond (fits n c) (all_fit n cs) false

abbrev pub can_replay : List Call → (cursors answers : ℕ) → Bool
can_replay calls n m = cond (nat_le (length calls) m) (all_fit n calls) false
