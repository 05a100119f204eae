-- Commands carried out in turn, one more. Assumes nothing.
use Rattle.std.proofs.Common.{◌≡◌, ℕ, ◌+◌, ◌<◌, List, [], ◌∷◌, ◌++◌, get_or, length, take, Option, Ok, Err, Result, OnOk, inr, sym, refl, ap, ◌∙◌, subst, arith}
use Rattle.std.proofs.lemmas.List.{append-nil, append_assoc, take_more}
use Rattle.std.specs.Io.KnownBytes.{Appends}
use Rattle.script.specs.declared.Command.{Command}
use Rattle.session.specs.declared.Session.{Session}
use Rattle.transcript.specs.Carried.{CarriedInTurn, CarriedOut, CarriesInTurn, CarryTold}
use Rattle.transcript.proofs.Known.{appends_both, appends_nothing}

module _ (names : List (List ℕ)) where
  one_more : (cs : List Command) (c : Command) (s t u : Session) (text more : List ℕ) → CarriedInTurn names cs s t text → CarriedOut names c t u more → CarriedInTurn names (cs ++ (c ∷ [])) s u (text ++ more)
  one_more [] c s t u text more done next = (u, more, [], subst (λ q. CarriedOut names c q u more) done.0 next, (refl, refl), ap (λ r. r ++ more) done.1 ∙ sym (append-nil more))
  one_more (d ∷ cs) c s t u text more done next = (done.0, done.1, done.2 ++ more, done.3, one_more cs c done.0 t u done.2 more done.4 next, ap (λ r. r ++ more) done.5 ∙ append_assoc done.1 done.2 more)

  -- the first i of the commands, and the next
  pub next_carried : {E : Type 0} (r : Result (Unit {0}) E) (cs : List Command) (i : ℕ) (d : Command) (s t u : Session) (a b c : Option (List ℕ)) → CarriesInTurn names (take i cs) s t a b → i < length cs → CarryTold r names (get_or cs i d) t u b c → r ≡ Ok tt → CarriesInTurn names (take (i + 1) cs) s u a c
  next_carried (Ok e) cs i d s t u a b c so_far more told ok = record {
    text = so_far.text ++ told.0;
    in_turn = subst (λ q. CarriedInTurn names q s u (so_far.text ++ told.0)) (sym (take_more cs i d more)) (one_more (take i cs) (get_or cs i d) s t u so_far.text told.0 so_far.in_turn told.1);
    printed = appends_both a b c so_far.text told.0 so_far.printed told.2;
  }
  next_carried (Err e) cs i d s t u a b c so_far more told ok = absurd (let z : ◌≡◌ {A = ℕ} 0 1 = cc in omega arith)

  pub none_carried : (s : Session) (a : Option (List ℕ)) → CarriesInTurn names [] s s a a
  none_carried s a = record { text = []; in_turn = (refl, refl); printed = appends_nothing a }

-- what was carried out and printed is told, and what was carried out and could not be printed
pub carry_told : {E : Type 0} (r : Result (Unit {0}) E) (names : List (List ℕ)) (c : Command) (s t : Session) (a b : Option (List ℕ)) (text : List ℕ) → CarriedOut names c s t text → OnOk r (Appends a b text) → CarryTold r names c s t a b
carry_told (Ok u) names c s t a b text done printed = (text, done, printed)
carry_told (Err e) names c s t a b text done printed = inr (text, done)
