-- An accepted call of one cursor, among all of them. Assumes nothing.
use Rattle.std.proofs.Common.{◌≡◌, ℕ, ◌<◌, true, List, map, length, get_or, slice_set, Ok, sym, refl, ap, ◌∙◌, subst}
use Rattle.std.proofs.lemmas.Bool.{ltb-true}
use Rattle.std.proofs.lemmas.List.{get_or-map, get_or-set_same, length-map, map-set, set-get_or}
use Rattle.cursor.specs.declared.CursorPosition.{CursorPosition}
use Rattle.cursor.specs.declared.CursorPosition.TheVariants.{Nowhere}
use Rattle.cursor.specs.Positions.{standing}
use Rattle.calls.specs.declared.Answer.{Answer}
use Rattle.calls.specs.declared.Call.TheVariants.{Cursor as of_cursor}
use Rattle.calls.specs.declared.CursorCall.{CursorCall}
use Rattle.calls.specs.declared.CursorCall.TheVariants as call
use Rattle.calls.specs.Calls.{cursor_rule, CursorStays, LayoutStays}
use Rattle.calls.specs.Replies.{WorkedBy, reply_of}
use Rattle.layout.specs.declared.Layout.{Layout}
use Rattle.layout.specs.Program.{program}
use Rattle.leading.proofs.Led.{led}
use Rattle.replay.specs.Histories.{fits, place_of}
use Rattle.replay.specs.Runs.{Applied, CursorsStay}

-- a call fits where its cursor is there
pub cursor_there : (n k : ℕ) (c : CursorCall) → fits n (of_cursor k c) ≡ true → k < n
cursor_there n k c e = ltb-true k n e

module _ {C : Type 0} (pos : C → CursorPosition) (cs : List C) (k : ℕ) (z : C) (there : k < length cs) where
  is_at : place_of k (map pos cs) ≡ pos (get_or cs k z)
  is_at = get_or-map pos cs k z Nowhere there

  is_then_at : (x : C) → place_of k (map pos (slice_set cs k x)) ≡ pos x
  is_then_at x = ap (place_of k) (map-set pos cs k x) ∙ get_or-set_same (map pos cs) k (pos x) Nowhere (subst (λ n. k < n) (sym (length-map cs pos)) there)

  -- the cursor that stays, put back, leaves all as they were
  all_stay : (d : CursorCall) (x : C) → CursorStays d (get_or cs k z) x → CursorsStay (of_cursor k d) cs (slice_set cs k x)
  all_stay (call.Goto g) x s = tt
  all_stay (call.At g) x s = tt
  all_stay (call.Step m) x s = tt
  all_stay (call.Position q) x s = ap (slice_set cs k) s ∙ set-get_or cs k z
  all_stay (call.Edit e) x s = tt
  all_stay (call.SetPosition to) x s = tt
  all_stay (call.AtPosition to) x s = tt

  pub cursor_applied : (d : CursorCall) (a : Answer) (l l1 : Layout) (x : C) → WorkedBy (cursor_rule d (pos (get_or cs k z)) (program l)) (Ok a) (program l1) (pos x) → LayoutStays d l l1 → CursorStays d (get_or cs k z) x → Applied pos (of_cursor k d) (Ok a) l l1 cs (slice_set cs k x)
  cursor_applied d a l l1 x w untouched stays =
      let at : CursorPosition = pos (get_or cs k z) in
      record {
        answer = w.answer ∙ ap (λ q. (cursor_rule d q (program l)).answer) (sym is_at);
        refused_by = tt;
        list = w.program ∙ ap (λ q. (cursor_rule d q (program l)).after) (sym is_at);
        places = map-set pos cs k x ∙ ap (λ q. slice_set (map pos cs) k q) (w.place ∙ ap (λ q. (cursor_rule d q (program l)).place) (sym is_at));
        others = (x, refl);
        untouched = untouched;
        cursors_stay = all_stay d x stays;
        led = λ h. ap (λ q. standing q (program l1)) (is_then_at x ∙ w.place) ∙ ap (standing (cursor_rule d at (program l)).place) w.program ∙ led l d at h (reply_of a) (sym w.answer);
        same_layout = tt;
        same_cursors = tt;
      }
