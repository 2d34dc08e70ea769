-- What a sink in memory keeps and counts.
use Rattle.std.specs.Prelude.{◌==◌, ◌||◌, nat_lt, ◌+◌, ◌-◌, ℕ, Bool, min, List, ◌++◌, length, take, is_some, unwrap_or, if◌then◌else◌}
use Rattle.std.specs.declared.option.Option.{Option}
use Rattle.std.specs.Option.{option_map}
use Rattle.std.specs.List.{find}
use Rattle.wb_outside.specs.Outside.{next_count}

-- its room in bytes, the writes that are to fail, each with how many bytes it keeps, how many writes came so far (this stops as a count of faults does), what they left, and its faults
pub record SinkState : Type 0 where
  pub room : ℕ
  pub failing : List (ℕ × ℕ)
  pub writes : ℕ
  pub written : List ℕ
  pub faults : ℕ

-- how many bytes the next write is listed to keep, where it is listed: writes are numbered from 1, and the first entry counts
abbrev pub listed_keep : List (ℕ × ℕ) → ℕ → Option ℕ
listed_keep failing writes = option_map (λ entry. entry.1) (find (λ entry. entry.0 == writes + 1) failing)

-- the room that is left, in bytes
abbrev pub room_left : SinkState → ℕ
room_left sink = sink.room - length sink.written

-- the next write is a fault at this piece: it is listed, or the piece is longer than the room left
abbrev pub is_fault : SinkState → List ℕ → Bool
is_fault sink piece = is_some (listed_keep sink.failing sink.writes) || nat_lt (room_left sink) (length piece)

-- what the next write keeps of this piece: as much as fits, and at a listed write no more than its number of bytes
abbrev pub kept : SinkState → List ℕ → List ℕ
kept sink piece = take (min (room_left sink) (unwrap_or (listed_keep sink.failing sink.writes) (length piece))) piece

-- the sink behind a write of this piece
abbrev pub after_write : SinkState → List ℕ → SinkState
after_write sink piece = record sink {
  writes = next_count sink.writes;
  written = sink.written ++ kept sink piece;
  faults = if is_fault sink piece then next_count sink.faults else sink.faults;
}
