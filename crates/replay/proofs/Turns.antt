-- Calls made in turn, one more, in two parts, and with the order at every moment. Assumes nothing.
use Rattle.std.proofs.Common.{◌≡◌, ℕ, zero, suc, ◌+◌, ◌<◌, true, false, cond, List, [], ◌∷◌, ◌++◌, map, length, take, get_or, slice_set, inl, inr, sym, refl, ap, ◌∙◌, subst, arith}
use Rattle.std.proofs.lemmas.Bool.{cases_Bool, false≢true}
use Rattle.std.proofs.lemmas.List.{drop-set-lt, take_more, take_more_set}
use lib.Seq.{append_snoc}
use Rattle.entities.specs.Program.{Program}
use Rattle.cursor.specs.declared.CursorPosition.{CursorPosition}
use Rattle.calls.specs.declared.Call.{Call}
use Rattle.calls.specs.declared.Call.TheVariants.{Layout as of_layout, Cursor as of_cursor}
use Rattle.calls.specs.declared.Edit.TheVariants.{Clear}
use Rattle.layout.specs.declared.Layout.{Layout}
use Rattle.layout.specs.Program.{program}
use Rattle.order.proofs.OneOrder.{in_order_of}
use Rattle.replay.specs.Histories.{Move, Reached, after_move, fits, listed, made, move_of, moves}
use Rattle.replay.specs.Runs.{Applied, all_fit, InOrder, InTurn, InTurnAndOrder, Outcome, WalkAndNumbersInOneOrder}

module _ {C : Type 0} (pos : C → CursorPosition) where
  -- one call more
  pub one_more : (xs : List Call) (ra : List Outcome) (c : Call) (r : Outcome) (l l1 l2 : Layout) (cs cs1 cs2 : List C) → InTurn pos xs ra l cs l1 cs1 → Applied pos c r l1 l2 cs1 cs2 → InTurn pos (xs ++ (c ∷ [])) (ra ++ (r ∷ [])) l cs l2 cs2
  one_more [] [] c r l l1 l2 cs cs1 cs2 t a = (l2, cs2, subst (λ k. Applied pos c r l l2 k cs2) t.1 (subst (λ k. Applied pos c r k l2 cs1 cs2) t.0 a), (refl, refl))
  one_more [] (r1 ∷ ra) c r l l1 l2 cs cs1 cs2 t a = absurd t
  one_more (x ∷ xs) [] c r l l1 l2 cs cs1 cs2 t a = absurd t
  one_more (x ∷ xs) (r1 ∷ ra) c r l l1 l2 cs cs1 cs2 t a = (t.0, t.1, t.2, one_more xs ra c r t.0 l1 l2 t.1 cs1 cs2 t.3 a)

  -- in two parts
  pub joins : (xs ys : List Call) (rs : List Outcome) (l l2 : Layout) (cs cs2 : List C) → InTurn pos (xs ++ ys) rs l cs l2 cs2 → (l1 : Layout) × (cs1 : List C) × (ra : List Outcome) × (rb : List Outcome) × (rs ≡ ra ++ rb) × InTurn pos xs ra l cs l1 cs1 × InTurn pos ys rb l1 cs1 l2 cs2
  joins [] ys rs l l2 cs cs2 t = (l, cs, [], rs, refl, (refl, refl), t)
  joins (x ∷ xs) ys [] l l2 cs cs2 t = absurd t
  joins (x ∷ xs) ys (r ∷ rs) l l2 cs cs2 t =
      let j = joins xs ys rs t.0 l2 t.1 cs2 t.3 in
      (j.0, j.1, r ∷ j.2, j.3, ap (λ q. r ∷ q) j.4, (t.0, t.1, t.2, j.5), j.6)

-- ---- histories

module _ {C : Type 0} (pos : C → CursorPosition) where
  listed_more : (p : Program) (h : List Move) (m : Move) → listed p (h ++ (m ∷ [])) ≡ after_move m (listed p h)
  listed_more p [] m = refl
  listed_more p (k ∷ h) m = listed_more (after_move k p) h m

  made_after : (c : Call) (p : Program) (ps : List CursorPosition) → (made c p ps).after ≡ after_move (move_of c ps) p
  made_after (of_layout e) p ps = refl
  made_after (of_cursor k c) p ps = refl

  -- the history goes on by a call that is made
  goes_on : (start : Program) (h : List Move) (c : Call) (r : Outcome) (l l1 : Layout) (cs cs1 : List C) → Reached start h l → Applied pos c r l l1 cs cs1 → Reached start (h ++ (move_of c (map pos cs) ∷ [])) l1
  goes_on start h c r l l1 cs cs1 reached a = a.list ∙ made_after c (program l) (map pos cs) ∙ ap (after_move (move_of c (map pos cs))) reached ∙ sym (listed_more start h (move_of c (map pos cs)))

  pub in_order_at : (start : Program) (h : List Move) (l : Layout) → Reached start h l → InOrder start h l
  in_order_at start h l reached = record { reached = reached; order = in_order_of l (listed start h) reached }

  each : (calls : List Call) (rs : List Outcome) (start : Program) (h : List Move) (l l2 : Layout) (cs cs2 : List C) → Reached start h l → InTurn pos calls rs l cs l2 cs2 → InTurnAndOrder pos start h calls rs l cs l2 cs2
  each [] [] start h l l2 cs cs2 reached t = (t.0, t.1, in_order_at start h l reached)
  each [] (r ∷ rs) start h l l2 cs cs2 reached t = absurd t
  each (c ∷ calls) [] start h l l2 cs cs2 reached t = absurd t
  each (c ∷ calls) (r ∷ rs) start h l l2 cs cs2 reached t = (in_order_at start h l reached, (t.0, t.1, t.2, each calls rs start (h ++ (move_of c (map pos cs) ∷ [])) t.0 l2 t.1 cs2 (goes_on start h c r l t.0 cs t.1 reached t.2) t.3))

  all_reached : (calls : List Call) (rs : List Outcome) (start : Program) (h : List Move) (l l2 : Layout) (cs cs2 : List C) → Reached start h l → InTurn pos calls rs l cs l2 cs2 → Reached start (h ++ moves calls (program l) (map pos cs)) l2
  all_reached [] [] start h l l2 cs cs2 reached t = ap program t.0 ∙ reached ∙ ap (listed start) (sym (no_more h))
    where
      no_more : (g : List Move) → g ++ [] ≡ g
      no_more [] = refl
      no_more (m ∷ g) = ap (λ q. m ∷ q) (no_more g)
  all_reached [] (r ∷ rs) start h l l2 cs cs2 reached t = absurd t
  all_reached (c ∷ calls) [] start h l l2 cs cs2 reached t = absurd t
  all_reached (c ∷ calls) (r ∷ rs) start h l l2 cs cs2 reached t =
      let m : Move = move_of c (map pos cs) in
      let rest = all_reached calls rs start (h ++ (m ∷ [])) t.0 l2 t.1 cs2 (goes_on start h c r l t.0 cs t.1 reached t.2) t.3 in
      rest
      ∙ ap (λ q. listed start ((h ++ (m ∷ [])) ++ moves calls q (map pos t.1))) t.2.list
      ∙ ap (λ q. listed start ((h ++ (m ∷ [])) ++ moves calls (made c (program l) (map pos cs)).after q)) t.2.places
      ∙ ap (listed start) (append_snoc h m (moves calls (made c (program l) (map pos cs)).after (made c (program l) (map pos cs)).places))

  pub whole : (calls : List Call) (rs : List Outcome) (start : Program) (h : List Move) (l l2 : Layout) (cs cs2 : List C) → Reached start h l → InTurn pos calls rs l cs l2 cs2 → WalkAndNumbersInOneOrder pos start h calls rs l cs l2 cs2
  whole calls rs start h l l2 cs cs2 reached t =
      let to = all_reached calls rs start h l l2 cs cs2 reached t in
      record { each = each calls rs start h l l2 cs cs2 reached t; reached = to; order = in_order_of l2 (listed start (h ++ moves calls (program l) (map pos cs))) to }

-- ---- the loop: the first i of the calls are made, and their answers stored

-- the call at i has its cursor, where all have
first_fits : (n : ℕ) (c : Call) (cs : List Call) → all_fit n (c ∷ cs) ≡ true → (fits n c ≡ true) × (all_fit n cs ≡ true)
first_fits n c cs e =
    elim (cases_Bool (fits n c)) [
      | inl yes′ ↦ (yes′, sym (ap (λ q. cond q (all_fit n cs) false) yes′) ∙ e)
      | inr no′ ↦ absurd (false≢true (sym (ap (λ q. cond q (all_fit n cs) false) no′) ∙ e))
    ]

pub fit_at : (n : ℕ) (calls : List Call) (i : ℕ) (d : Call) → i < length calls → all_fit n calls ≡ true → fits n (get_or calls i d) ≡ true
fit_at n [] i d lt e = absurd (omega (arith, lt))
fit_at n (c ∷ calls) zero d lt e = (first_fits n c calls e).0
fit_at n (c ∷ calls) (suc i) d lt e = fit_at n calls i d (omega (arith, lt)) (first_fits n c calls e).1

-- then the next one is made, and its answer stored
pub next_made : {C : Type 0} (pos : C → CursorPosition) (calls : List Call) (i : ℕ) (rs : List Outcome) (r : Outcome) (l l1 l2 : Layout) (cs cs1 cs2 : List C) → InTurn pos (take i calls) (take i rs) l cs l1 cs1 → i < length calls → i < length rs → Applied pos (get_or calls i (of_layout Clear)) r l1 l2 cs1 cs2 → InTurn pos (take (i + 1) calls) (take (i + 1) (slice_set rs i r)) l cs l2 cs2
next_made pos calls i rs r l l1 l2 cs cs1 cs2 t more room a =
    let c : Call = get_or calls i (of_layout Clear) in
    let on = one_more pos (take i calls) (take i rs) c r l l1 l2 cs cs1 cs2 t a in
    subst (λ q. InTurn pos q (take (i + 1) (slice_set rs i r)) l cs l2 cs2) (sym (take_more calls i (of_layout Clear) more)) (subst (λ q. InTurn pos (take i calls ++ (c ∷ [])) q l cs l2 cs2) (sym (take_more_set rs i r room)) on)

-- and the answers behind all calls stay
pub ruleset next_turn = (fit_at, next_made, drop-set-lt)
