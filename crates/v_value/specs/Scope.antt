-- The scopes and valuations that the code's lists of declarations and values stand for.
use Rattle.std.specs.Prelude.{List, [], ◌∷◌}
use Rattle.wb_values.specs.Value.{Name, number, words, Valuation, Entries, valuation_of}
use Rattle.wb_values.specs.Value as pure
use Rattle.verilog_meaning.specs.Expression as meaning
pub use Rattle.v_value.specs.Objects.{object_of, objects_of}
use Rattle.v_value.specs.declared.scope.Scope.{Scope}
use Rattle.v_value.specs.declared.scope.Value.{Value}
use Rattle.v_value.specs.declared.scope.Value.TheVariants.{Number, Words}
use Rattle.v_value.specs.declared.scope.Entry.{Entry}
use Rattle.v_value.specs.declared.scope.Values.{Values}

abbrev pub scope_at : Scope → meaning.Scope
scope_at s = meaning.scope_of (objects_of s.declarations.items)

abbrev pub value_of_entry : Value → pure.Value
value_of_entry (Number n) = number n
value_of_entry (Words xs) = words xs.items

abbrev pub values_of : List Entry → Entries pure.Value
values_of [] = []
values_of (e ∷ es) = (e.name.now, value_of_entry e.value) ∷ values_of es

abbrev pub valuation_at : List Entry → Valuation
valuation_at es = valuation_of (values_of es)

abbrev pub valuation_in : Values → Valuation
valuation_in v = valuation_at v.entries.items
