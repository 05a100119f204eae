-- A position as one word. Assumes nothing.
use Rattle.std.specs.Prelude.{ℕ, ◌+◌, ◌-◌, cond, nat_lt, nat_eq}
use Rattle.cursor.specs.declared.CursorPosition.{CursorPosition}
use Rattle.cursor.specs.declared.CursorPosition.TheVariants.{Nowhere, At, Before, After}

abbrev pub word_of : CursorPosition → ℕ
word_of Nowhere = 0
word_of (At i) = i.0 + 0x1_0000_0000
word_of (Before b) = b.0 + 0x2_0000_0000
word_of (After b) = b.0 + 0x3_0000_0000

-- the position of which it is the word
abbrev pub position_of : ℕ → CursorPosition
position_of w =
    cond (nat_eq w 0) Nowhere
    (cond (nat_lt w 0x2_0000_0000) (At (record { 0 = w - 0x1_0000_0000 }))
    (cond (nat_lt w 0x3_0000_0000) (Before (record { 0 = w - 0x2_0000_0000 })) (After (record { 0 = w - 0x3_0000_0000 }))))
