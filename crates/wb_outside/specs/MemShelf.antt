-- What a shelf in memory holds, serves and counts.
use Rattle.std.specs.Prelude.{◌==◌, ◌+◌, ℕ, Bool, List, [], ◌∷◌, ◌++◌, length, map, if◌then◌else◌, None, String, string_bytes, Vec}
use Rattle.std.specs.Global.{Global}
use Rattle.std.specs.declared.option.Option.{Option}
use Rattle.std.specs.Option.{option_map}
use Rattle.std.specs.List.{find, list_any}
use Rattle.std.specs.Str.{bytes_eq}
use Rattle.wb_outside.specs.Outside.{next_count}

-- its files, each a name and its bytes, the numbers of the reads that are to fail, the names read so far, its faults, and how many names were read when the last of them came, its own among them (0 before the first)
pub record ShelfState : Type 0 where
  pub files : List (List ℕ × List ℕ)
  pub failing : List ℕ
  pub asked : List (List ℕ)
  pub faults : ℕ
  pub last_fault : ℕ

-- the bytes of the first file with this name
abbrev pub bytes_named : List (List ℕ × List ℕ) → List ℕ → Option (List ℕ)
bytes_named files name = option_map (λ file. file.1) (find (λ file. bytes_eq file.0 name) files)

-- files as contracts see them, each a name and its bytes
abbrev pub files_of : List (String Global × Vec ℕ Global) → List (List ℕ × List ℕ)
files_of files = map (λ file. (string_bytes file.0, file.1.items)) files

-- the next read is listed as one that fails: reads are numbered from 1
abbrev pub is_listed : List ℕ → ℕ → Bool
is_listed failing answered = list_any (λ number. number == answered + 1) failing

-- what the next read finds under this name: nothing where it is listed or no file has the name
abbrev pub found : ShelfState → List ℕ → Option (List ℕ)
found shelf name = if is_listed shelf.failing (length shelf.asked) then None else bytes_named shelf.files name

-- the shelf behind a read of this name that it served
abbrev pub after_read : ShelfState → List ℕ → ShelfState
after_read shelf name = record shelf { asked = shelf.asked ++ name ∷ [] }

-- the shelf behind a read of this name that failed
abbrev pub after_fault : ShelfState → List ℕ → ShelfState
after_fault shelf name = record shelf {
  asked = shelf.asked ++ name ∷ [];
  faults = next_count shelf.faults;
  last_fault = length shelf.asked + 1;
}
