-- How numbers are written in a script. Assumes nothing.
use Rattle.std.specs.Prelude.{ℕ, ◌^◌, Bool, true, false, not, ◌&&◌, ◌||◌, ◌==◌, nat_eq, nat_le, List, [], ◌∷◌, codes, drop, length}
use Rattle.std.specs.List.{list_all, starts_with}
use Rattle.std.specs.Char.{is_ascii_digit}
use Rattle.std.specs.Str.Parse.{digits_value}

-- is there a first digit, which is no zero unless it is the only one?
abbrev pub begins_well : List ℕ → Bool
begins_well [] = false
begins_well (d ∷ []) = true
begins_well (d ∷ e ∷ ds) = not (d == 48)

-- is this how a number is written, of however many digits?
abbrev pub is_numeral : List ℕ → Bool
is_numeral ds = begins_well ds && list_all is_ascii_digit ds

-- is it a number, but one of more than 32 bits?
abbrev pub is_past : List ℕ → Bool
is_past ds = is_numeral ds && nat_le (2 ^ 32) (digits_value 10 ds)

-- is it the prefix, and such a number behind it?
abbrev pub is_prefixed_past : (prefix : List ℕ) → List ℕ → Bool
is_prefixed_past prefix w = starts_with nat_eq w prefix && is_past (drop (length prefix) w)

-- is it a block or an instruction, with such a number?
abbrev pub is_too_large : List ℕ → Bool
is_too_large w = is_prefixed_past (codes "block") w || is_prefixed_past (codes "inst") w
