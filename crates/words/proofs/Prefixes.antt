-- A prefix cut off a word. Assumes nothing.
use Rattle.std.proofs.Common.{◌≡◌, ◌≢◌, ℕ, true, false, nat_eq, List, ◌++◌, length, drop, refl, inl, inr}
use Rattle.std.specs.List.{starts_with}
use Rattle.std.proofs.lemmas.Bool.{cases_Bool}
use Rattle.std.proofs.lemmas.Bool.Decides.{Decides-eqb}
use Rattle.std.proofs.lemmas.Slice.Eq.{starts_is}
use Rattle.std.proofs.Math.Seq.{drop-append_seam}
use Rattle.words.specs.Numbers.{is_past, is_prefixed_past}

pub stripped : (p w ds : List ℕ) → w ≡ p ++ ds → is_past ds ≡ is_prefixed_past p w
stripped p w ds e =
    let starts : starts_with nat_eq w p ≡ true = (starts_is Decides-eqb w p (starts_with nat_eq w p) refl).1 ds e in
    let rest : drop (length p) w ≡ ds = rw (e, drop-append_seam) refl in
    rw (starts, rest) refl

pub not_stripped : (p w : List ℕ) → ((rest : List ℕ) → w ≢ p ++ rest) → false ≡ is_prefixed_past p w
not_stripped p w lacks = elim (cases_Bool (starts_with nat_eq w p)) [
  | inl starts ↦ absurd (lacks (drop (length p) w) ((starts_is Decides-eqb w p (starts_with nat_eq w p) refl).0 starts))
  | inr starts ↦ rw starts refl
]
