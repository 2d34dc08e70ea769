use Rattle.std.proofs.Common.{◌≡◌, ◌-◌, ◌≤◌, take, drop, false, vec_len}
use Rattle.std.specs.Fmt.{digits}
use Rattle.trace_texts.proofs.Hexadecimal.{hex_onto}
use Rattle.trace_texts.proofs.text.append_digits.Given as goal

abbrev pub invariant-loop-taken : goal.invariant-loop-taken
invariant-loop-taken l = record {
  room : l.start ≤ vec_len l.out;
  before : take l.start l.out.items ≡ l.fn.out.items;
  so_far : hex_onto (64 - l._taken) l.rest (drop l.start l.out.items) ≡ digits 16 false l.number;
}
