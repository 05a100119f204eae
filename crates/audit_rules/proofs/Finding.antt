-- What `find` gives of an iterator that shows the list of what is left. Assumes nothing.
use Rattle.std.proofs.Common.{◌≡◌, Bool, true, false, List, [], ◌∷◌, ◌++◌, Some, None, Option, ap, ◌∙◌, sym, subst}
use Rattle.std.proofs.lemmas.List.{append-nil}
use Rattle.std.specs.Fn.{CalledAt}
use Rattle.std.specs.Iterator.{FindsItem, YieldsFirst}
use Rattle.std.specs.List.{FoldsTo}
use Rattle.std.specs.Option.{MatchOption}
use denote.Param.Members.{Mut}
use denote.Ref.{Bor}
use Rattle.audit_walks.proofs.Runs.{yielded}
use Rattle.audit_rules.proofs.Lists.{Every}

-- x stands in the list, P holds of each ahead of it, and not of x
pub record Found {A : Type 0} (P : A → Type 0) (all : List A) (x : A) : Type 0 where
  pub ahead : List A
  pub behind : List A
  pub is : all ≡ ahead ++ (x ∷ behind)
  pub spared : Every P ahead
  pub fault : P x → ⊥

module _ {S A F : Type 0} (rest : S → List A) (g : Mut F (Bor A × Unit {0}) Bool) (P : A → Type 0) where
  passed : (f : F) → ((x : A) (q : F) → CalledAt g f x false q → (q ≡ f) × P x) → (xs : List A) (q : F) → FoldsTo (λ p x r. CalledAt g p x false r) f xs q → (q ≡ f) × Every P xs
  passed f no' [] q e = (sym e, tt)
  passed f no' (x ∷ xs) q e =
      let one = no' x e.0 e.1 in
      let more = passed f no' xs q (subst (λ p. FoldsTo (λ p x r. CalledAt g p x false r) p xs q) one.0 e.2) in
      (more.0, (one.1, more.1))

  -- f answers true where P fails, and false where it holds
  pub found : (s u : S) (f : F) (r : Option A) → FindsItem (YieldsFirst rest) g s f r u → ((x : A) (q : F) → CalledAt g f x true q → P x → ⊥) → ((x : A) (q : F) → CalledAt g f x false q → (q ≡ f) × P x) → MatchOption r (Every P (rest s)) (Found P (rest s))
  found s u f None d yes' no' =
      let all : rest s ≡ d.0 = yielded rest s d.0 d.2.0 d.2.1 ∙ ap (λ q. d.0 ++ q) d.2.2.0 ∙ append-nil d.0 in
      subst (λ q. Every P q) (sym all) (passed f no' d.0 d.1 d.3).1
  found s u f (Some x) d yes' no' =
      let past = passed f no' d.0 d.1 d.3 in
      record {
        ahead = d.0;
        behind = rest u;
        is = yielded rest s d.0 d.2.0 d.2.1 ∙ ap (λ q. d.0 ++ q) d.2.2;
        spared = past.1;
        fault = yes' x d.4.0 (subst (λ p. CalledAt g p x true d.4.0) past.0 d.4.1);
      }
