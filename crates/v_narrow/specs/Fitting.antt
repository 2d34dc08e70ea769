-- Whether objects fit words and values their objects, as tests over the code's lists that compute.
use Rattle.std.specs.Prelude.{ℕ, ◌^◌, Bool, true, ◌&&◌, ◌||◌, nat_lt, List, [], ◌∷◌, Option, Some, None}
use Rattle.wb_values.specs.Value as pure
use Rattle.wb_values.specs.Value.{Valuation}
use Rattle.verilog_meaning.specs.Expression as meaning
use Rattle.verilog_meaning.specs.Expression.{object_width}
use Rattle.v_value.specs.declared.scope.Declaration.{Declaration}
use Rattle.v_value.specs.declared.scope.Entry.{Entry}
use Rattle.v_value.specs.Scope.{object_of, value_of_entry}
use Rattle.v_narrow.specs.Test.{is_object_narrow}

abbrev pub number_fits : meaning.Object → ℕ → Bool
number_fits o x = nat_lt x (2 ^ object_width o)

abbrev pub constant_fits : meaning.Object → Option ℕ → Bool
constant_fits o None = true
constant_fits o (Some c) = number_fits o c

abbrev pub object_test : meaning.Object → Bool
object_test o = is_object_narrow o && constant_fits o o.constant

-- Each declared object fits words, or what its name stands for does: of several declarations of one name the first counts.
abbrev pub declared_test : meaning.Scope → List Declaration → Bool
declared_test s [] = true
declared_test s (d ∷ ds) = (object_test (object_of d.object) || object_test (s d.name.now)) && declared_test s ds

abbrev pub words_fit : meaning.Object → List ℕ → Bool
words_fit o [] = true
words_fit o (x ∷ xs) = number_fits o x && words_fit o xs

abbrev pub value_fits : meaning.Object → pure.Value → Bool
value_fits o (pure.truth_value b) = true
value_fits o (pure.number n) = number_fits o n
value_fits o (pure.words xs) = words_fit o xs

-- Each value fits the object that its name stands for, or the value that its name has does: of several of one name the first counts.
abbrev pub entries_test : meaning.Scope → Valuation → List Entry → Bool
entries_test s v [] = true
entries_test s v (e ∷ es) =
    (value_fits (s e.name.now) (value_of_entry e.value) || value_fits (s e.name.now) (v e.name.now)) && entries_test s v es
