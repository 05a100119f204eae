-- What a cursor of either kind means, and what it keeps beside its position. Assumes nothing.
use Rattle.std.specs.Prelude.{◌≡◌}
use Rattle.cursor.specs.Words.{position_of}
use Rattle.cursor.specs.declared.CursorPosition.{CursorPosition}
use Rattle.cursor.specs.declared.any.AnyCursor.{AnyCursor}
use Rattle.cursor.specs.declared.any.AnyCursor.TheVariants.{Func, Word}

-- the position that it means
abbrev pub any_position : AnyCursor → CursorPosition
any_position (Func c) = c.pos
any_position (Word c) = position_of c.word

-- it stays of its kind, and the one with a source location keeps that
abbrev pub SameKind : (old new : AnyCursor) → Type 0
SameKind (Func c) (Func d) = d.srcloc ≡ c.srcloc
SameKind (Func c) (Word d) = ⊥
SameKind (Word c) (Func d) = ⊥
SameKind (Word c) (Word d) = Unit {0}
