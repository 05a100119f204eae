-- Once an instruction is taken out, the cursor stands where a step leads, and what may replace it can be put in there. Assumes nothing.
use Rattle.std.proofs.Common.{◌≡◌, Bool, true, false, cond, not, is_some, Some, None, Option, sym, refl, ap, ◌∙◌, subst, inl, inr}
use Rattle.std.proofs.lemmas.Bool.{cases_eq, false≢true, ne_eqb, not-true}
use Rattle.std.proofs.lemmas.Option.{none-some}
use Rattle.cursor.specs.Positions.{standing}
use Rattle.cursor.specs.declared.CursorPosition.{CursorPosition}
use Rattle.cursor.specs.declared.CursorPosition.TheVariants.{Nowhere, At, Before, After}
use Rattle.cursor_edits.specs.Replaced.{put_then_asked}
use Rattle.cursor_faults.specs.Moves.{after_block, at_inst, before_block, next_inst_position, or_else, or_this, prev_inst_position}
use Rattle.cursor_faults.specs.Questions.{may_replace, put_inst_asked, replace_inst_asked, takes_inst}
use Rattle.entities.specs.Program.{Program}
use Rattle.entities.specs.Reading.{inserted_block, inserted_inst, inst_block, next_inst, prev_inst}
use Rattle.entities.specs.declared.Block.{Block}
use Rattle.entities.specs.declared.Inst.{Inst}
use Rattle.faults.specs.Questions.{first_no, in_range_inst}
use Rattle.faults.specs.Refusals.{Refusal}
use Rattle.layout.proofs.Removal.{inst_has_block, its_block_kept, next_kept, prev_kept, still_out, taken_out, without}
use Rattle.layout.specs.Program.{program}
use Rattle.layout.specs.declared.Layout.{Layout}
use Rattle.listing.proofs.Found.{inst_apart}

-- ---- where a removal leads: at the neighbour, or else beside the block

module _ (i : Inst) (q : Program) where
  forward_takes : (n : Option Inst) (b : Option Block) → is_some b ≡ true → takes_inst (or_this (or_else (at_inst n) (after_block b)) (At i)) ≡ true
  forward_takes (Some m) b s = refl
  forward_takes None (Some c) s = refl
  forward_takes None None s = absurd (false≢true s)

  forward_stands : (n : Option Inst) (b : Option Block) → ((m : Inst) → n ≡ Some m → inserted_inst m q ≡ true) → ((c : Block) → b ≡ Some c → inserted_block c q ≡ true) → is_some b ≡ true → standing (or_this (or_else (at_inst n) (after_block b)) (At i)) q ≡ true
  forward_stands (Some m) b hn hb s = hn m refl
  forward_stands None (Some c) hn hb s = hb c refl
  forward_stands None None hn hb s = absurd (false≢true s)

  backward_stands : (n : Option Inst) (b : Option Block) → ((m : Inst) → n ≡ Some m → inserted_inst m q ≡ true) → ((c : Block) → b ≡ Some c → inserted_block c q ≡ true) → is_some b ≡ true → standing (or_this (or_else (at_inst n) (before_block b)) (At i)) q ≡ true
  backward_stands (Some m) b hn hb s = hn m refl
  backward_stands None (Some c) hn hb s = hb c refl
  backward_stands None None hn hb s = absurd (false≢true s)

module _ (l : Layout) (i : Inst) (h : inserted_inst i (program l) ≡ true) where
  pub next_takes : takes_inst (or_this (next_inst_position (At i) (program l)) (At i)) ≡ true
  next_takes = forward_takes i (program l) (next_inst i (program l)) (inst_block i (program l)) (inst_has_block l i ∙ h)

  pub next_stands : standing (or_this (next_inst_position (At i) (program l)) (At i)) (without i (program l)) ≡ true
  next_stands = forward_stands i (without i (program l)) (next_inst i (program l)) (inst_block i (program l)) (next_kept l i) (its_block_kept l i) (inst_has_block l i ∙ h)

  pub prev_stands : standing (or_this (prev_inst_position (At i) (program l)) (At i)) (without i (program l)) ≡ true
  prev_stands = backward_stands i (without i (program l)) (prev_inst i (program l)) (inst_block i (program l)) (prev_kept l i) (its_block_kept l i) (inst_has_block l i ∙ h)

-- ---- three questions

module _ (x y z : Refusal) where
  all_yes : (a b c : Bool) → cond a (cond b (cond c None (Some x)) (Some y)) (Some z) ≡ None → (a ≡ true) × (b ≡ true) × (c ≡ true)
  all_yes true true true h = (refl, refl, refl)
  all_yes true true false h = absurd (none-some x (sym h))
  all_yes true false c h = absurd (none-some y (sym h))
  all_yes false b c h = absurd (none-some z (sym h))

  no_first : (a b c : Bool) → a ≡ true → b ≡ true → c ≡ true → cond a (cond b (cond c None (Some x)) (Some y)) (Some z) ≡ None
  no_first a b c ea eb ec = rw (ea, eb, ec)

  -- with a third that is no
  never : (a b : Bool) → cond a (cond b (Some x) (Some y)) (Some z) ≡ None → ⊥
  never true true h = none-some x (sym h)
  never true false h = none-some y (sym h)
  never false b h = none-some z (sym h)

-- ---- what is asked once the old instruction is out

-- one in range that is not inserted, where the cursor stands and takes one
put_allowed : (k : Inst) (to : CursorPosition) (q : Program) → in_range_inst k ≡ true → takes_inst to ≡ true → standing to q ≡ true → inserted_inst k q ≡ false → first_no (put_inst_asked k to q) ≡ None
put_allowed k Nowhere q r t s out = absurd (false≢true t)
put_allowed k (At i) q r t s out = no_first _ _ _ (in_range_inst k) (inserted_inst i q) (not (inserted_inst k q)) r s (ap not out)
put_allowed k (Before b) q r t s out = absurd (false≢true t)
put_allowed k (After b) q r t s out = no_first _ _ _ (in_range_inst k) (inserted_block b q) (not (inserted_inst k q)) r s (ap not out)

-- the very one that was taken out, or one that was not inserted
out_then : (l : Layout) (k i : Inst) → may_replace k (At i) (program l) ≡ true → inserted_inst k (without i (program l)) ≡ false
out_then l k i h =
    elim (cases_eq k.0 i.0) [
      | inl e ↦ subst (λ x. inserted_inst x (without i (program l)) ≡ false) (sym (inst_apart k i e)) (taken_out l i)
      | inr ne ↦ still_out l i k (not-true (inserted_inst k (program l)) (sym (ap (λ c. cond c true (not (inserted_inst k (program l)))) (ne_eqb k.0 i.0 ne)) ∙ h))
    ]

-- what was asked whole leaves nothing that could have a no
pub put_open : (l : Layout) (k : Inst) (at : CursorPosition) → first_no (replace_inst_asked k at (program l)) ≡ None → first_no (put_then_asked k at (program l)) ≡ None
put_open l k Nowhere h = h
put_open l k (At i) h =
    let yes = all_yes _ _ _ (in_range_inst k) (inserted_inst i (program l)) (may_replace k (At i) (program l)) h in
    put_allowed k (or_this (next_inst_position (At i) (program l)) (At i)) (without i (program l)) yes.0 (next_takes l i yes.1) (next_stands l i yes.1) (out_then l k i yes.2)
put_open l k (Before b) h = absurd (never _ _ _ (in_range_inst k) (inserted_block b (program l)) h)
put_open l k (After b) h = absurd (never _ _ _ (in_range_inst k) (inserted_block b (program l)) h)
