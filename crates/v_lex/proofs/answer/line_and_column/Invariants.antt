use Rattle.std.proofs.Common.{◌≡◌, ◌+◌, ◌≤◌, drop}
use Rattle.v_lex.specs.Notes.{position_from}
use Rattle.v_lex.proofs.answer.line_and_column.Given as goal

abbrev pub invariant-loop-byte : goal.invariant-loop-byte
invariant-loop-byte l =
    (position_from 1 1 l.bytes ≡ position_from l.line l.column (drop l.byte-index l.bytes)) × (l.line ≤ l.byte-index + 1) × (l.column ≤ l.byte-index + 1)
