-- Numbers as the texts of a trace write them.
use Rattle.std.specs.Prelude.{ℕ, Bool, false, not, ◌==◌, ◌&&◌, ◌||◌, List, [], ◌∷◌, length, Option, Some, None, option_and_then, unwrap_or}
use Rattle.wb_values.specs.Choice.{some_if}
use Rattle.serde_json.specs.Data.{Data, Items, no_items, item}
use Rattle.serde_json.specs.Find.{as_str}
use Rattle.model_files.specs.Shape.{are_hexadecimal_digits, with_hexadecimal_digits}

abbrev pub begins_with_zero : List ℕ → Bool
begins_with_zero [] = false
begins_with_zero (b ∷ bs) = b == 48

-- one to 32 lower-case hexadecimal digits, of which the first is no 0 unless it stands alone
abbrev pub are_shortest_digits : List ℕ → Bool
are_shortest_digits ds = are_hexadecimal_digits ds && (not (begins_with_zero ds) || (length ds == 1))

-- the number that `0x` and such digits write
abbrev pub number_of_shortest : List ℕ → Option ℕ
number_of_shortest (a ∷ b ∷ ds) = some_if ((a == 48) && (b == 120) && are_shortest_digits ds) (with_hexadecimal_digits 0 ds)
number_of_shortest _ = None

-- the number of data that is such a text
abbrev pub numeral_in : Data → Option ℕ
numeral_in d = option_and_then number_of_shortest (as_str d)

-- the number, or 0 where the data is none
abbrev pub number_or_zero : Option ℕ → ℕ
number_or_zero n = unwrap_or n 0

-- the numbers of a list
abbrev pub numbers_of_items : Items → List ℕ
numbers_of_items no_items = []
numbers_of_items (item d ds) = number_or_zero (numeral_in d) ∷ numbers_of_items ds
