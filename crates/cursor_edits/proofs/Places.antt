-- What a cursor stands on is in range; and the first no of some questions stays the first with more behind them. Assumes nothing.
use Rattle.std.proofs.Common.{◌≡◌, ◌++◌, Bool, List, Option, Some, [], ◌∷◌, cond, true, false, refl}
use Rattle.std.proofs.lemmas.Option.{none-some}
use Rattle.cursor.specs.Positions.{standing}
use Rattle.cursor.specs.declared.CursorPosition.{CursorPosition}
use Rattle.cursor.specs.declared.CursorPosition.TheVariants.{Nowhere, At, Before, After}
use Rattle.cursor_edits.specs.Places.{place_in_range, put_asked}
use Rattle.cursor_faults.specs.Questions.{standing_asked}
use Rattle.entities.specs.Program.{Program}
use Rattle.entities.specs.declared.progpoint.ProgramPoint.{ProgramPoint}
use Rattle.entities.specs.declared.progpoint.ProgramPoint.TheVariants.{Block as block_point, Inst as inst_point}
use Rattle.faults.specs.Questions.{Question, first_no, in_range}
use Rattle.faults.specs.Refusals.{Refusal}
use Rattle.layout.proofs.Ranges.{block_in_range, inst_in_range}
use Rattle.layout.specs.Program.{program}
use Rattle.layout.specs.declared.Layout.{Layout}

pub standing_in_range : (l : Layout) (at : CursorPosition) → standing at (program l) ≡ true → place_in_range at ≡ true
standing_in_range l Nowhere h = refl
standing_in_range l (At i) h = inst_in_range l i h
standing_in_range l (Before b) h = block_in_range l b h
standing_in_range l (After b) h = block_in_range l b h

still_first : (b : Bool) (a c : Option Refusal) (n r : Refusal) → (a ≡ Some r → c ≡ Some r) → cond b a (Some n) ≡ Some r → cond b c (Some n) ≡ Some r
still_first true a c n r more h = more h
still_first false a c n r more h = h

first_stays : (qs more : List Question) (r : Refusal) → first_no qs ≡ Some r → first_no (qs ++ more) ≡ Some r
first_stays [] more r h = absurd (none-some r h)
first_stays (q ∷ qs) more r h = still_first q.yes (first_no qs) (first_no (qs ++ more)) q.no r (first_stays qs more r) h

-- in range, but on something that is not inserted
pub stale_refused : (pp : ProgramPoint) (at : CursorPosition) (p : Program) (r : Refusal) → in_range pp ≡ true → first_no (standing_asked at p) ≡ Some r → first_no (put_asked pp at p) ≡ Some r
stale_refused (inst_point i) at p r ranged h = rw ranged (first_stays (standing_asked at p) _ r h)
stale_refused (block_point b) at p r ranged h = rw ranged (first_stays (standing_asked at p) _ r h)
