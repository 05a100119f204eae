-- The blocks of a layout, asked one by one from the back. Assumes nothing.
use Rattle.std.proofs.Common.{◌≡◌, ℕ, suc, ◌+◌, ◌-◌, ◌<◌, List, [], ◌∷◌, ◌++◌, length, reverse, Some, Option, sym, refl, ap, ◌∙◌, subst, arith}
use Rattle.std.proofs.lemmas.List.{append-nil, append_assoc, length-append, length-reverse}
use Rattle.std.proofs.lemmas.Option.{same_Some}
use Rattle.chain.specs.Chain.{Gives}
use Rattle.entities.specs.Program.{blocks_of}
use Rattle.entities.specs.Reading.{last_block, prev_block}
use Rattle.entities.specs.declared.Block.{Block}
use Rattle.layout.specs.Program.{program}
use Rattle.layout.specs.declared.Layout.{Layout}
use Rattle.order.proofs.OneOrder.{in_order_of}

abbrev pub all_blocks : Layout → List Block
all_blocks l = blocks_of (program l).lines

-- those that were given, and the one to come next
pub record GivenBack (l : Layout) (next : Option Block) (given : List Block) : Type 0 where
  pub rest : List Block
  pub all : reverse (all_blocks l) ≡ given ++ rest
  pub gives : Gives (λ b. prev_block b (program l)) next rest

pub back_start : (l : Layout) → GivenBack l (last_block (program l)) []
back_start l = record { rest = reverse (all_blocks l); all = refl; gives = (in_order_of l (program l) refl).mirror.blocks }

-- what is still to come begins with the next
pub record Ahead (l : Layout) (b : Block) (given : List Block) : Type 0 where
  pub rest : List Block
  pub all : reverse (all_blocks l) ≡ given ++ (b ∷ rest)
  pub gives : Gives (λ k. prev_block k (program l)) (prev_block b (program l)) rest

ahead : (l : Layout) (b : Block) (given : List Block) → GivenBack l (Some b) given → Ahead l b given
ahead l b given g = at g.rest g.all g.gives
  where
    at : (rest : List Block) → reverse (all_blocks l) ≡ given ++ rest → Gives (λ k. prev_block k (program l)) (Some b) rest → Ahead l b given
    at [] all gives = absurd (let z : ◌≡◌ {A = ℕ} 0 1 = cc in omega arith)
    at (x ∷ xs) all gives =
        let here : x ≡ b = sym (same_Some b x gives.0) in
        record {
          rest = xs;
          all = all ∙ ap (λ k. given ++ (k ∷ xs)) here;
          gives = subst (λ k. Gives (λ q. prev_block q (program l)) (prev_block k (program l)) xs) here gives.1;
        }

pub back_next : (l : Layout) (b : Block) (given : List Block) → GivenBack l (Some b) given → GivenBack l (prev_block b (program l)) (given ++ (b ∷ []))
back_next l b given g =
    let a = ahead l b given g in
    record { rest = a.rest; all = a.all ∙ sym (append_assoc given (b ∷ []) a.rest); gives = a.gives }

pub back_less : (l : Layout) (b : Block) (given : List Block) → GivenBack l (Some b) given → length (all_blocks l) - length (given ++ (b ∷ [])) < length (all_blocks l) - length given
back_less l b given g =
    let a = ahead l b given g in
    let size : length (all_blocks l) ≡ length given + suc (length a.rest) = sym (length-reverse (all_blocks l)) ∙ ap length a.all ∙ length-append given (b ∷ a.rest) in
    let more : length (given ++ (b ∷ [])) ≡ length given + 1 = length-append given (b ∷ []) in
    omega (arith, size, more)

pub back_end : (l : Layout) (next : Option Block) (given : List Block) → ((b : Block) → next ≡ Some b → ⊥) → GivenBack l next given → given ≡ reverse (all_blocks l)
back_end l next given none g = at g.rest g.all g.gives
  where
    at : (rest : List Block) → reverse (all_blocks l) ≡ given ++ rest → Gives (λ b. prev_block b (program l)) next rest → given ≡ reverse (all_blocks l)
    at [] all gives = sym (all ∙ append-nil given)
    at (x ∷ xs) all gives = absurd (none x gives.0)

pub ruleset from_the_back = (back_start, back_next, back_less)
