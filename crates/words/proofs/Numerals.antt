-- A numeral is what `decimal` writes of its value, and `parse` reads it. Assumes nothing.
use Rattle.std.proofs.Common.{◌≡◌, ◌≢◌, ℕ, ◌<◌, ◌^◌, ◌↔◌, zero, suc, Bool, true, false, not, ◌&&◌, ◌==◌, inl, inr, List, [], ◌∷◌, length, get_or, decimal, Option, Some, None, Result, Ok, Err, refl, sym, ◌∙◌, ap, arith, lit<}
use Rattle.std.specs.Char.{is_ascii_digit}
use Rattle.std.specs.List.{list_all}
use Rattle.std.specs.Result.{result_ok}
use Rattle.std.specs.Str.{all_ascii_digits}
use Rattle.std.specs.Str.Parse.{digits_value, ParsesUnsigned}
use Rattle.std.specs.Option.{is_some}
use Rattle.std.proofs.lemmas.Bool.{and_parts, cases_lt, le-leb, lt-leb}
use Rattle.std.proofs.lemmas.Bool.Decides.{nat_tests}
use Rattle.std.proofs.lemmas.Fmt.{decimal-digits_value, first_decimal, decimal_digit, parse-decimal, digits_decimal, digits_value-decimal, decimal_nonempty}
use Rattle.std.proofs.lemmas.Str.Parse.{IsNumeralModel, tells_all_ascii_digits, numerals_by_value, parse_digits}
use Rattle.words.specs.Numbers.{begins_well, is_numeral, is_past}

own : IsNumeralModel (λ ds. all_ascii_digits ds ≡ true) (digits_value 10)
own = numerals_by_value _ tells_all_ascii_digits

-- `all_ascii_digits` says of digits what `list_all` does
all_same : (ds : List ℕ) → list_all is_ascii_digit ds ≡ all_ascii_digits ds
all_same [] = refl
all_same (d ∷ ds) = ap (λ b. is_ascii_digit d && b) (all_same ds)

-- what a numeral is made of
pub record Numeral (ds : List ℕ) : Type 0 where
  pub digits : all_ascii_digits ds ≡ true
  pub some : 0 < length ds
  pub lead : get_or ds 0 0 ≡ 48 → length ds ≡ 1

not_zero : (d : ℕ) → not (d == 48) ≡ true → d ≢ 48
not_zero d e same = grind (arith, nat_tests)

numeral : (ds : List ℕ) → is_numeral ds ≡ true → Numeral ds
numeral [] is = cc
numeral (d ∷ []) is = record { digits = sym (all_same (d ∷ [])) ∙ is; some = omega arith; lead = λ _. refl }
numeral (d ∷ e ∷ ds) is =
    let (lead, digits) = and_parts (not (d == 48)) (list_all is_ascii_digit (d ∷ e ∷ ds)) is in
    record { digits = sym (all_same (d ∷ e ∷ ds)) ∙ digits; some = omega arith; lead = λ zero. absurd (not_zero d lead zero) }

well_begun : (ds : List ℕ) → 0 < length ds → 48 < get_or ds 0 0 → begins_well ds ≡ true
well_begun [] some first = absurd (omega arith)
well_begun (d ∷ []) some first = refl
well_begun (d ∷ e ∷ ds) some first = grind (arith, nat_tests)

decimal_zero : is_numeral (decimal 0) ≡ true
decimal_zero = rw (decimal_digit 0 (lit< tt)) refl

decimal_more : (n : ℕ) → 0 < n → n < 2 ^ 64 → is_numeral (decimal n) ≡ true
decimal_more n some small =
    let begun = well_begun (decimal n) (decimal_nonempty n small) (first_decimal n some small) in
    let digits = all_same (decimal n) ∙ digits_decimal own n small in
    rw (begun, digits) refl

pub decimal_numeral : (n : ℕ) → n < 2 ^ 64 → is_numeral (decimal n) ≡ true
decimal_numeral zero small = decimal_zero
decimal_numeral (suc n) small = decimal_more (suc n) (omega arith) small

-- a number's text is a numeral, and no other
pub numeral_decimal : (ds : List ℕ) → is_numeral ds ≡ true → digits_value 10 ds < 2 ^ 64 → decimal (digits_value 10 ds) ≡ ds
numeral_decimal ds is small = let n = numeral ds is in decimal-digits_value own ds n.digits n.some n.lead small

-- what `parse` reads of a numeral
pub parsed : {E : Type 0} (ds : List ℕ) → is_numeral ds ≡ true → (r : Result ℕ E) → ParsesUnsigned 32 10 ds r → (n : ℕ) → result_ok r ≡ Some n ↔ (ds ≡ decimal n) × (n < 2 ^ 32)
parsed {E} ds is (Ok v) parses n =
    let k = numeral ds is in
    let ((some, small), value) = parse_digits own {E = E} 32 ds (Ok v) parses k.digits in
    let written : decimal (digits_value 10 ds) ≡ ds = numeral_decimal ds is (omega arith) in
    (λ e. let same : v ≡ n = cc in (cc, omega arith), λ (e, fits). let ok = parse-decimal {E = E} 32 n ds (Ok v) fits (omega arith) e parses in cc)
parsed {E} ds is (Err x) parses n = (λ e. cc, λ (e, fits). let ok = parse-decimal {E = E} 32 n ds (Err x) fits (omega arith) e parses in cc)

-- what is no numeral is no number's text
pub not_parsed : (ds : List ℕ) → is_numeral ds ≡ false → (n : ℕ) → ◌≡◌ {A = Option ℕ} None (Some n) ↔ (ds ≡ decimal n) × (n < 2 ^ 32)
not_parsed ds isnt n = (λ e. cc, λ (e, fits). let is = decimal_numeral n (omega arith) in cc)

-- a numeral that is not the text of a number of up to 32 bits is past them
pub past : (ds : List ℕ) → is_numeral ds ≡ true → (o : Option ℕ) → ((n : ℕ) → o ≡ Some n ↔ (ds ≡ decimal n) × (n < 2 ^ 32)) → (b : Bool) → is_some o ≡ not b → b ≡ is_past ds
past ds is (Some n) reads false e =
    let (written, small) = (reads n).0 refl in
    let value : digits_value 10 ds ≡ n = rw written (digits_value-decimal own n (omega arith)) in
    sym (rw (is, lt-leb (2 ^ 32) (digits_value 10 ds) (omega arith)) refl)
past ds is None reads true e =
    elim (cases_lt (digits_value 10 ds) (2 ^ 32)) [
      | inl small ↦ let none = (reads (digits_value 10 ds)).1 (sym (numeral_decimal ds is (omega arith)), small) in cc
      | inr large ↦ sym (rw (is, le-leb (2 ^ 32) (digits_value 10 ds) large) refl)
    ]
past ds is (Some n) reads true e = cc
past ds is None reads false e = cc
