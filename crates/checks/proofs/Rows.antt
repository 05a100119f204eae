-- Three nodes that are linked in a row are a block, into which the last of them or the middle one was just put. Assumes nothing.
use Rattle.std.proofs.Common.{◌≡◌, ◌≢◌, ℕ, ◌<◌, List, [], ◌∷◌, Some, None, Option, refl, ap, arith}
use Rattle.std.proofs.lemmas.Option.{same_Some}
use Rattle.entities.specs.Program.{slot}
use Rattle.entities.specs.declared.Block.{Block}
use Rattle.entities.specs.declared.Inst.{Inst}
use Rattle.entities.specs.declared.nodes.InstNode.{InstNode}
use Rattle.listing.specs.Numbers.{Run, SomePlaced}

abbrev pub inst : ℕ → Inst
inst n = record { 0 = n }

-- the nodes of i, j and k, linked in this order, with the numbers a, b and c
abbrev pub row : Option Block → (i j k : Inst) (a b c : ℕ) → List InstNode
row home i j k a b c =
    record { block = home; prev = None; next = Some j; seq = a }
    ∷ record { block = home; prev = Some i; next = Some k; seq = b }
    ∷ record { block = home; prev = Some j; next = None; seq = c }
    ∷ []

apart : (m n : ℕ) → m < n → Some (inst m) ≢ Some (inst n)
apart m n h e = omega (arith, ap (λ (i : Inst). i.0) (same_Some (inst m) (inst n) e))

module _ (home : Option Block) (a b c : ℕ) where
  run : Run (row home (inst 0) (inst 1) (inst 2) a b c) (Some (inst 0)) (inst 0 ∷ inst 1 ∷ inst 2 ∷ [])
  run = record {
    last = Some (inst 2);
    chain = record {
      first = refl;
      last = refl;
      linked = (refl, refl, (refl, refl, (refl, refl, tt)));
      distinct = ((apart 0 1 (omega arith), (apart 0 2 (omega arith), tt)), ((apart 1 2 (omega arith), tt), (tt, tt)));
      within = (omega arith, (omega arith, (omega arith, tt)));
    };
    size = omega arith;
  }

  last : SomePlaced (row home (inst 0) (inst 1) (inst 2) a b c) (Some (inst 0)) (inst 2)
  last = record {
    ahead = slot (inst 0) a ∷ slot (inst 1) b ∷ [];
    behind = [];
    placed = record { run = run; ahead = (refl, (refl, tt)); behind = tt; between = tt };
  }

  middle : a < c → SomePlaced (row home (inst 0) (inst 1) (inst 2) a b c) (Some (inst 0)) (inst 1)
  middle h = record {
    ahead = slot (inst 0) a ∷ [];
    behind = slot (inst 2) c ∷ [];
    placed = record { run = run; ahead = (refl, tt); behind = (refl, tt); between = h };
  }

module _ (home : Option Block) (i j k : Inst) (a b c : ℕ) where
  pub last_placed : i ≡ inst 0 → j ≡ inst 1 → k ≡ inst 2 → SomePlaced (row home i j k a b c) (Some (inst 0)) (inst 2)
  last_placed e f g = rw (e, f, g) (last home a b c)

  pub middle_placed : i ≡ inst 0 → j ≡ inst 1 → k ≡ inst 2 → a < c → SomePlaced (row home i j k a b c) (Some (inst 0)) (inst 1)
  middle_placed e f g h = rw (e, f, g) (middle home a b c h)
