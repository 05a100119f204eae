-- A dot ends the name of a cursor, and stands in no other first word. Assumes nothing.
use Rattle.std.proofs.Common.{◌≡◌, ◌≢◌, ◌↔◌, ℕ, ◌<◌, true, false, not, ◌==◌, List, [], ◌∷◌, ◌++◌, length, get_or, refl, sym, ap, arith, zero, suc, rules, Option, Some, None, Bor, lit<}
use Rattle.std.specs.List.{list_all}
use Rattle.std.specs.Option.{option_map}
use Rattle.std.proofs.lemmas.Str.Pattern.{IsSplitOnceResult, split_after, split_parts}
use Rattle.std.proofs.lemmas.Bool.{and_parts}
use Rattle.commands.specs.declared.LayoutCommand.{LayoutCommand}
use Rattle.commands.specs.declared.CursorCommand.{CursorCommand}
use Rattle.commands.specs.declared.CursorKind.{CursorKind}
use Rattle.forms.specs.declared.Args.{Args}
use Rattle.forms.specs.Forms.{Form}
use Rattle.call_names.specs.Forms.{layout_form, cursor_form}
use Rattle.lines.specs.Lines.{Said, layout, new_cursor, cursor, IsCall, is_name, is_name_byte}

no_dot_byte : (b : ℕ) → is_name_byte b ≡ true → b ≢ 46
no_dot_byte b is e = let no : is_name_byte 46 ≡ true = rw e at is in cc

no_dot_in : (n : List ℕ) → list_all is_name_byte n ≡ true → (i : ℕ) → i < length n → get_or n i 0 ≢ 46
no_dot_in [] all i inside = absurd (omega arith)
no_dot_in (b ∷ n) all zero inside = no_dot_byte b (and_parts (is_name_byte b) (list_all is_name_byte n) all).0
no_dot_in (b ∷ n) all (suc i) inside = no_dot_in n (and_parts (is_name_byte b) (list_all is_name_byte n) all).1 i (omega arith)

-- no byte of a name is a dot
pub no_dot : (n : List ℕ) → is_name n ≡ true → (i : ℕ) → i < length n → get_or n i 0 ≢ 46
no_dot n is = no_dot_in n (and_parts (not (length n == 0)) (list_all is_name_byte n) is).1

dot_at : (n m : List ℕ) → (length n < length (n ++ (46 ∷ m))) × (get_or (n ++ (46 ∷ m)) (length n) 0 ≡ 46)
dot_at [] m = (omega arith, refl)
dot_at (b ∷ n) m = let (inside, here) = dot_at n m in (omega arith, here)

-- so a name is not two words around a dot
pub no_dotted : (w n m : List ℕ) → is_name w ≡ true → w ≢ n ++ (46 ∷ m)
no_dotted w n m is e = let (inside, here) = dot_at n m in no_dot w is (length n) (rw e inside) (rw e here)

-- the calls of a layout are named so
pub named : (c : LayoutCommand) → is_name (layout_form c).name ≡ true
named c = search rules

-- ---- a first word, cut at its first dot or without one

of_layout_inside : (o : Option LayoutCommand) (c : LayoutCommand) → option_map layout o ≡ Some (layout c) → o ≡ Some c
of_layout_inside None c e = cc
of_layout_inside (Some d) c e = cc

no_cursor : (o : Option LayoutCommand) (n : List ℕ) (c : CursorCommand) → option_map layout o ≢ Some (cursor n c)
no_cursor None n c e = cc
no_cursor (Some d) n c e = cc

no_new : (o : Option LayoutCommand) (n : List ℕ) (k : CursorKind) → option_map layout o ≢ Some (new_cursor n k)
no_new None n k e = cc
no_new (Some d) n k e = cc

of_cursor_inside : (p : List ℕ) (o : Option CursorCommand) (n : List ℕ) (c : CursorCommand) → option_map (cursor p) o ≡ Some (cursor n c) → (p ≡ n) × (o ≡ Some c)
of_cursor_inside p None n c e = cc
of_cursor_inside p (Some d) n c e = (cc, cc)

no_layout : (p : List ℕ) (o : Option CursorCommand) (c : LayoutCommand) → option_map (cursor p) o ≢ Some (layout c)
no_layout p None c e = cc
no_layout p (Some d) c e = cc

no_other_new : (p : List ℕ) (o : Option CursorCommand) (n : List ℕ) (k : CursorKind) → option_map (cursor p) o ≢ Some (new_cursor n k)
no_other_new p None n k e = cc
no_other_new p (Some d) n k e = cc

-- o is the call that the name and the arguments give
abbrev pub Found : {A : Type 0} → (A → Form) → List ℕ → Args → Option A → Type 0
Found {A} form name a o = (c : A) → o ≡ Some c ↔ form c ≡ record { name = name; args = a }

module _ (word : List ℕ) (a : Args) where
  -- with no dot it is a call of the layout
  pub undotted : IsSplitOnceResult 46 word None → (o : Option LayoutCommand) → Found layout_form word a o → (l : Said) → option_map layout o ≡ Some l ↔ IsCall word a l
  undotted split o found (layout c) = (λ e. (found c).0 (of_layout_inside o c e), λ f. ap (option_map layout) ((found c).1 f))
  undotted split o found (new_cursor n k) = (λ e. absurd (no_new o n k e), λ f. absurd f)
  undotted split o found (cursor n c) = (
    λ e. absurd (no_cursor o n c e),
    λ (is, f). absurd (split_after 46 word n (cursor_form c).name None split (lit< tt) (sym (ap (λ (g : Form). g.name) f)) (no_dot n is)),
  )

  module _ (x : Bor (List ℕ) × Bor (List ℕ)) (split : IsSplitOnceResult 46 word (Some x)) where
    whole : word ≡ x.0.now ++ (46 ∷ x.1.now)
    whole = (split_parts 46 word (Some x) split (lit< tt)).0

    cut_at : (n m : List ℕ) → is_name n ≡ true → n ++ (46 ∷ m) ≡ word → (x.0.now ≡ n) × (x.1.now ≡ m)
    cut_at n m is e = split_after 46 word n m (Some x) split (lit< tt) (sym e) (no_dot n is)

    of_no_layout : (c : LayoutCommand) → layout_form c ≢ record { name = word; args = a }
    of_no_layout c f =
        let is : is_name word ≡ true = rw (sym (ap (λ (g : Form). g.name) f)) (named c) in
        no_dotted word x.0.now x.1.now is whole

    -- ahead of a dot it is the name of a cursor
    pub dotted : is_name x.0.now ≡ true → (o : Option CursorCommand) → Found cursor_form x.1.now a o → (l : Said) → option_map (cursor x.0.now) o ≡ Some l ↔ IsCall word a l
    dotted is o found (layout c) = (λ e. absurd (no_layout x.0.now o c e), λ f. absurd (of_no_layout c f))
    dotted is o found (new_cursor n k) = (λ e. absurd (no_other_new x.0.now o n k e), λ f. absurd f)
    dotted is o found (cursor n c) = (
      λ e. let (name, inside) = of_cursor_inside x.0.now o n c e in let f = (found c).0 inside in (rw (← name) is, rw (f, ← name) (ap (λ (w : List ℕ). record { name = w; args = a }) (sym whole))),
      λ (named, f). let (name, call) = cut_at n (cursor_form c).name named (ap (λ (g : Form). g.name) f) in
          let same : cursor_form c ≡ record { name = x.1.now; args = a } = rw (call, ← (ap (λ (g : Form). g.args) f)) refl in
          rw ((found c).1 same, name) refl,
    )

    -- or of none
    pub unnamed : is_name x.0.now ≡ false → (l : Said) → ◌≡◌ {A = Option Said} None (Some l) ↔ IsCall word a l
    unnamed isnt (layout c) = (λ e. cc, λ f. absurd (of_no_layout c f))
    unnamed isnt (new_cursor n k) = (λ e. cc, λ f. absurd f)
    unnamed isnt (cursor n c) = (λ e. cc, λ (is, f). let (name, call) = cut_at n (cursor_form c).name is (ap (λ (g : Form). g.name) f) in cc)
