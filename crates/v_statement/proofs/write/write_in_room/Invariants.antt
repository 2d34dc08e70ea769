use Rattle.std.proofs.Common.{◌≡◌, ◌+◌, ◌-◌, ◌%◌, ◌/◌, ◌^◌, ◌<◌, ◌≤◌, drop, length}
use Rattle.std.specs.Prelude.{vec_len, vec_capacity}
use Rattle.verilog_meaning.specs.Statement.{written, places_width}
use Rattle.v_value.specs.Narrow.{HasFittingValues}
use Rattle.v_value.specs.Scope.{scope_at, valuation_at}
use Rattle.v_statement.specs.Places.{places_of}
use Rattle.v_statement.proofs.write.write_in_room.Given as goal

abbrev pub invariant-loop-i : goal.invariant-loop-i
invariant-loop-i l = record {
  so_far : valuation_at l.values.entries.items
      ≡ written (scope_at l.scope) (valuation_at l.initial.values.entries.items) (places_of (drop (length l.places - l.i) l.places))
      (l.number % 2 ^ places_width (places_of (drop (length l.places - l.i) l.places)));
  rest : l.rest ≡ l.number / 2 ^ places_width (places_of (drop (length l.places - l.i) l.places));
  small : l.rest < 2 ^ 128;
  room : vec_len l.values.entries + (length l.places - l.i) ≤ vec_capacity l.values.entries;
  fits : HasFittingValues (scope_at l.scope) (valuation_at l.values.entries.items);
}
