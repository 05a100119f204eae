-- What std's calls say of an iterator that shows the list of what is left: the items that came are the front of that list, and all of it where
-- none was left. Assumes nothing.
use Rattle.std.proofs.Common.{◌≡◌, true, List, [], ◌∷◌, ◌++◌, sym, ap, ◌∙◌}
use Rattle.std.proofs.lemmas.List.{append-nil}
use Rattle.std.specs.Iterator.{Yields, YieldsFirst}
use Rattle.std.specs.Iterator.Runs.{Run, YieldsRun}

module _ {S A : Type 0} (rest : S → List A) where
  pub yielded : (s : S) (xs : List A) (t : S) → Yields (YieldsFirst rest) s xs t → rest s ≡ xs ++ rest t
  yielded s [] t y = ap rest y
  yielded s (x ∷ xs) t y = y.1 ∙ ap (λ r. x ∷ r) (yielded y.0 xs t y.2)

  -- what was left behind the items of a run
  pub behind_run : (p : Run (YieldsFirst rest)) → (ys : List A) × (rest p.from ≡ p.items ++ ys)
  unfolding YieldsRun
  behind_run p = let calls = p.gave.0 in (rest calls.0, yielded p.from p.items calls.0 calls.1)

  pub whole_run : (p : Run (YieldsFirst rest)) → p.whole ≡ true → p.items ≡ rest p.from
  unfolding YieldsRun
  whole_run p w =
      let calls = p.gave.0 in
      sym (yielded p.from p.items calls.0 calls.1 ∙ ap (λ r. p.items ++ r) (calls.2 w).1.0 ∙ append-nil p.items)
