-- The places and updates that the code's values stand for.
use Rattle.std.specs.Prelude.{ℕ, cond, List, [], ◌∷◌, Option, Some, None, pos, ◌-ℤ◌, ◌+◌}
use Rattle.wb_values.specs.Value.{Name, same_name}
use Rattle.verilog_meaning.specs.Expression as expression
use Rattle.verilog_meaning.specs.Statement as meaning
use Rattle.v_value.specs.Index.{integer_at}
use Rattle.v_statement.specs.declared.place.Bits.{Bits}
use Rattle.v_statement.specs.declared.place.Cell.{Cell}
use Rattle.v_statement.specs.declared.place.Cell.TheVariants.{Variable, Word, Nowhere}
use Rattle.v_statement.specs.declared.place.Place.{Place}
use Rattle.v_statement.specs.declared.place.Update.{Update}
use Rattle.v_value.specs.declared.scope.Entry.{Entry}

abbrev pub bits_of : Bits → expression.Bits
bits_of b =
    record { low = cond b.downward (integer_at b.from -ℤ (pos b.count -ℤ pos 1)) (integer_at b.from); count = b.count }

abbrev pub cell_of : Cell → meaning.Cell
cell_of Variable = meaning.variable_cell
cell_of (Word k) = meaning.word_cell k
cell_of Nowhere = meaning.no_cell

abbrev pub place_of : Place → meaning.Place
place_of p = record { of_name = p.name.now; cell = cell_of p.cell; bits = bits_of p.bits }

abbrev pub places_of : List Place → List meaning.Place
places_of [] = []
places_of (p ∷ ps) = place_of p ∷ places_of ps

abbrev pub update_of : Update → meaning.Update
update_of u = record { places = places_of u.places.items; value = u.value }

abbrev pub updates_of : List Update → List meaning.Update
updates_of [] = []
updates_of (u ∷ us) = update_of u ∷ updates_of us

-- the index of the first entry under a name, where the first of these entries has index k
abbrev pub index_from : ℕ → List Entry → Name → Option ℕ
index_from k [] n = None
index_from k (e ∷ es) n = cond (same_name e.name.now n) (Some k) (index_from (k + 1) es n)
