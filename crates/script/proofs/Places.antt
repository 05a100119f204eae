-- Where names stand once one more is made. Assumes nothing.
use Rattle.std.proofs.Common.{◌≡◌, ℕ, ◌+◌, ◌≤◌, Bool, true, false, cond, ◌==◌, List, [], ◌∷◌, ◌++◌, length, Some, None, Bor, refl, sym, ◌∙◌, arith, inl, inr, length-append}
use Rattle.std.specs.HashMap.{HashMap, get_by, UpdatesBy}
use Rattle.std.specs.Str.{bytes_eq}
use Rattle.std.specs.List.{position_or_len}
use Rattle.std.specs.Cmp.Lexicographic.{bytes_decides, nat_list_eq_equiv}
use Rattle.std.proofs.lemmas.Bool.{cases_Bool}
use Rattle.std.proofs.lemmas.Bool.Decides.{nat_tests}
use Rattle.std.proofs.lemmas.List.{map-append, length-map}
use Rattle.std.proofs.lemmas.List.Folds.{position_or_len_push}
use Rattle.std.proofs.lemmas.List.Sums.{prefix_len-le-length}
use Rattle.std.proofs.lemmas.Map.Text.{hash_map_updates_str}
use Rattle.words.specs.Words.{texts}
use Rattle.script.specs.Names.{place_of}

module _ (names : List (List ℕ)) (name : List ℕ) (free : place_of name names ≡ None) where
  first_place : (b : Bool) (q : List ℕ) → b ≡ bytes_eq q name → position_or_len (bytes_eq q) (names ++ (name ∷ [])) ≡ cond (position_or_len (bytes_eq q) names == length names) (length names + cond b 0 1) (position_or_len (bytes_eq q) names)
  first_place b q e = rw e (position_or_len_push (bytes_eq q) names name)

  -- where it is that name, and where it is another
  here : place_of name (names ++ (name ∷ [])) ≡ Some (length names)
  here =
      let first = first_place true name (sym ((bytes_decides name name).1 refl)) in
      let more : length (names ++ (name ∷ [])) ≡ length names + 1 = length-append names (name ∷ []) in
      let most : position_or_len (bytes_eq name) names ≤ length names = prefix_len-le-length _ names in
      grind (arith, nat_tests)

  there : (q : List ℕ) → bytes_eq q name ≡ false → place_of q (names ++ (name ∷ [])) ≡ place_of q names
  there q other =
      let first = first_place false q (sym other) in
      let more : length (names ++ (name ∷ [])) ≡ length names + 1 = length-append names (name ∷ []) in
      let most : position_or_len (bytes_eq q) names ≤ length names = prefix_len-le-length _ names in
      grind (arith, nat_tests)

  pub place_push : (q : List ℕ) → place_of q (names ++ (name ∷ [])) ≡ cond (bytes_eq name q) (Some (length names)) (place_of q names)
  place_push q = elim (cases_Bool (bytes_eq name q)) [
    | inl same ↦ rw (same, ← ((bytes_decides name q).0 same)) here
    | inr other ↦ rw other (there q (rw (nat_list_eq_equiv.symm q name) other))
  ]

  -- so the map that gets it at the end still finds each name where it stands
  pub indexed : {S : Type 0} (old new : HashMap (Bor (List ℕ)) ℕ S) (k : ℕ) → k ≡ length names → UpdatesBy (λ x y. bytes_eq x.now y.now) (λ n. bytes_eq name n.now) old new (Some k) → ((q : List ℕ) → get_by (λ n. bytes_eq q n.now) old ≡ place_of q names) → (q : List ℕ) → get_by (λ n. bytes_eq q n.now) new ≡ place_of q (names ++ (name ∷ []))
  indexed old new k last updates was q = hash_map_updates_str name old new _ updates q ∙ (rw (was q, last) (sym (place_push q)))

pub texts_push : (order : List (Bor (List ℕ))) (name : Bor (List ℕ)) → texts (order ++ (name ∷ [])) ≡ texts order ++ (name.now ∷ [])
texts_push order name = map-append _ order (name ∷ [])

pub length-texts : (order : List (Bor (List ℕ))) → length (texts order) ≡ length order
length-texts order = length-map order _
