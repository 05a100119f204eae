-- The first word tells what a line can say. Assumes nothing.
use Rattle.std.proofs.Common.{◌≡◌, ◌≢◌, ◌↔◌, ℕ, List, ◌∷◌, Option, Some, codes, refl, sym, ◌∙◌, ap, subst, rules}
use Rattle.commands.specs.declared.LayoutCommand.{LayoutCommand}
use Rattle.forms.specs.declared.Args.{Args}
use Rattle.forms.specs.Args.{args_words, FitsArgs}
use Rattle.forms.specs.Forms.{Form, form_words}
use Rattle.call_names.specs.Forms.{layout_form, cursor_form}
use Rattle.lines.specs.Lines.{Said, layout, new_cursor, cursor, Says, IsCall, IsNewCursor}
use Rattle.lines.proofs.Dots.{no_dotted}

head_same : (v w : List ℕ) (vs ws : List (List ℕ)) → v ∷ vs ≡ w ∷ ws → v ≡ w
head_same v w vs ws e = cc

tail_same : (v w : List ℕ) (vs ws : List (List ℕ)) → v ∷ vs ≡ w ∷ ws → vs ≡ ws
tail_same v w vs ws e = cc

-- no call of a layout is named so
not_cursor : (c : LayoutCommand) → codes "cursor" ≢ (layout_form c).name
not_cursor c = search rules

module _ (rest : List (List ℕ)) (r : Option Said) where
  pub new_line : ((l : Said) → r ≡ Some l ↔ IsNewCursor rest l) → (l : Said) → r ≡ Some l ↔ Says (codes "cursor" ∷ rest) l
  new_line found (layout c) = (λ e. absurd ((found (layout c)).0 e), λ s. absurd (not_cursor c (head_same _ _ _ _ s.written)))
  new_line found (new_cursor n k) = (
    λ e. let (words, is) = (found (new_cursor n k)).0 e in record { written = ap (λ ws. codes "cursor" ∷ ws) words; can = is },
    λ s. (found (new_cursor n k)).1 (tail_same _ _ _ _ s.written, s.can),
  )
  new_line found (cursor n c) = (
    λ e. absurd ((found (cursor n c)).0 e),
    λ s. absurd (no_dotted (codes "cursor") n (cursor_form c).name refl (head_same _ _ _ _ s.written)),
  )

  module _ (word : List ℕ) (other : word ≢ codes "cursor") (a : Args) (read : (b : Args) → Some a ≡ Some b ↔ (rest ≡ args_words b) × FitsArgs b) where
    -- the arguments that were read are those of the call
    same_args : (f : Form) → word ∷ rest ≡ f.name ∷ args_words f.args → FitsArgs f.args → f ≡ record { name = word; args = a }
    same_args f written fits =
        let name = head_same _ _ _ _ written in
        let args : ◌≡◌ {A = Option Args} (Some a) (Some f.args) = (read f.args).1 (tail_same _ _ _ _ written, fits) in
        let same : a ≡ f.args = cc in
        rw (name, same) refl

    said_so : (f : Form) → f ≡ record { name = word; args = a } → (word ∷ rest ≡ form_words f) × FitsArgs f.args
    said_so f is =
        let (words, fits) = (read a).0 refl in
        (ap (λ ws. word ∷ ws) words ∙ ap form_words (sym is), subst (λ (g : Form). FitsArgs g.args) (sym is) fits)

    pub call_line : ((l : Said) → r ≡ Some l ↔ IsCall word a l) → (l : Said) → r ≡ Some l ↔ Says (word ∷ rest) l
    call_line found (layout c) = (
      λ e. let (words, fits) = said_so (layout_form c) ((found (layout c)).0 e) in record { written = words; can = fits },
      λ s. (found (layout c)).1 (same_args (layout_form c) s.written s.can),
    )
    call_line found (new_cursor n k) = (λ e. absurd ((found (new_cursor n k)).0 e), λ s. absurd (other (head_same _ _ _ _ s.written)))
    call_line found (cursor n c) = (
      λ e. let (is, f) = (found (cursor n c)).0 e in let (words, fits) = said_so _ f in record { written = words; can = (is, fits) },
      λ s. (found (cursor n c)).1 (s.can.0, same_args _ s.written s.can.1),
    )
