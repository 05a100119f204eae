-- That tables are lawful has one proof at most. Assumes nothing.
use Rattle.std.proofs.Common.{ℕ, List, [], ◌∷◌, Option, refl, inl, inr}
use mathlib.Core.Logic.{∥∥₁_elim}
use mathlib.Core.HLevel.{hedberg}
use native.Mathlib.Bridge.{le_prop}
use Rattle.std.proofs.lemmas.Bool.{cases_eq}
use Rattle.chain.proofs.Props.{chain_prop, keys_set}
use Rattle.entities.specs.Nodes.{block_place, inst_place}
use Rattle.entities.specs.Program.{Line, Slot}
use Rattle.entities.specs.declared.Block.{Block}
use Rattle.entities.specs.declared.Inst.{Inst}
use Rattle.entities.specs.declared.nodes.BlockNode.{BlockNode}
use Rattle.entities.specs.declared.nodes.InstNode.{InstNode}
use Rattle.entities.specs.declared.nodes.Tables.{Tables}
use Rattle.listing.proofs.Found.{block_apart, inst_apart}
use Rattle.listing.specs.Lawful.{AllFilled, AllWellNumbered, BareBlock, BareInst, Filled, Fitting, Held, Lawful, Represents, Rising, Sound, WellNumbered, Wired, listed}

numbers : IsSet ℕ
numbers = hedberg (λ a b. elim (cases_eq a b) [ inl e ↦ yes e | inr h ↦ no h ])

blocks_set : IsSet (Option Block)
blocks_set = keys_set block_place block_apart

insts_set : IsSet (Option Inst)
insts_set = keys_set inst_place inst_apart

seqs_set : IsSet (Option ℕ)
seqs_set = keys_set (λ n. n) (λ a b e. e)

held_prop : (t : List InstNode) (b : Block) (ss : List Slot) → IsProp (Held t b ss)
held_prop t b [] x y = refl
held_prop t b (s ∷ ss) x y = λ i. (blocks_set _ _ x.0 y.0 i, seqs_set _ _ x.1 y.1 i, held_prop t b ss x.2 y.2 i)

rising_prop : (n : ℕ) (ss : List Slot) → IsProp (Rising n ss)
rising_prop n [] x y = refl
rising_prop n (s ∷ ss) x y = λ i. (le_prop x.0 y.0 i, rising_prop s.seq ss x.1 y.1 i)

fitting_prop : (ss : List Slot) → IsProp (Fitting ss)
fitting_prop [] x y = refl
fitting_prop (s ∷ ss) x y = λ i. (le_prop x.0 y.0 i, fitting_prop ss x.1 y.1 i)

filled_prop : (v : Tables) (l : Line) → IsProp (Filled v l)
filled_prop v l x y = λ i. record {
  chain = chain_prop insts_set x.chain y.chain i;
  held = held_prop v.insts l.block l.slots x.held y.held i;
}

all_prop : (v : Tables) (p : List Line) → IsProp (AllFilled v p)
all_prop v [] x y = refl
all_prop v (l ∷ ls) x y = λ i. (filled_prop v l x.0 y.0 i, all_prop v ls x.1 y.1 i)

bare_block_prop : (t : List BlockNode) (b : Block) → IsProp (BareBlock t b)
bare_block_prop t b x y = λ i. record {
  prev = blocks_set _ _ x.prev y.prev i;
  next = blocks_set _ _ x.next y.next i;
  first = insts_set _ _ x.first y.first i;
  last = insts_set _ _ x.last y.last i;
}

bare_inst_prop : (t : List InstNode) (b : Inst) → IsProp (BareInst t b)
bare_inst_prop t b x y = λ i. record {
  block = blocks_set _ _ x.block y.block i;
  prev = insts_set _ _ x.prev y.prev i;
  next = insts_set _ _ x.next y.next i;
}

pub represents_prop : (v : Tables) (p : List Line) → IsProp (Represents v p)
represents_prop v p x y = λ i. record {
  blocks = chain_prop blocks_set x.blocks y.blocks i;
  lines = all_prop v p x.lines y.lines i;
  bare_blocks = λ b m. bare_block_prop v.blocks b (x.bare_blocks b m) (y.bare_blocks b m) i;
  bare_insts = λ b m. bare_inst_prop v.insts b (x.bare_insts b m) (y.bare_insts b m) i;
}

well_numbered_prop : (ss : List Slot) → IsProp (WellNumbered ss)
well_numbered_prop ss x y = λ i. record { rising = rising_prop 0 ss x.rising y.rising i; fit = fitting_prop ss x.fit y.fit i }

numbers_prop : (p : List Line) → IsProp (AllWellNumbered p)
numbers_prop [] x y = refl
numbers_prop (l ∷ ls) x y = λ i. (well_numbered_prop l.slots x.0 y.0 i, numbers_prop ls x.1 y.1 i)

wired_prop : (t : Tables) → IsProp (Wired t)
wired_prop t x y = λ i. record {
  blocks_size = numbers _ _ x.blocks_size y.blocks_size i;
  insts_size = numbers _ _ x.insts_size y.insts_size i;
  sound = represents_prop t (listed t) x.sound y.sound i;
}

pub lawful_prop : (t : Tables) → IsProp (Lawful t)
lawful_prop t x y = λ i. record { wired = wired_prop t x.wired y.wired i; numbers = numbers_prop (listed t) x.numbers y.numbers i }

pub sound_out : {t : Tables} → Sound t → Lawful t
sound_out {t} h = ∥∥₁_elim h (lawful_prop t) (λ m. m)
