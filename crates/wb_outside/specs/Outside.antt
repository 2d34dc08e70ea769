-- Words on what is told of the outside: what was asked or written so far, and how faults are counted.
use Rattle.std.specs.Prelude.{◌≡◌, ◌<◌, ◌+◌, ◌-◌, ◌^◌, ◌⊎◌, ℕ, min, List, ◌++◌, take, map, Some, None, IfSome}
use Rattle.std.specs.declared.option.Option.{Option}
use Rattle.std.specs.Option.{option_map}

-- the last value of a count of faults, where it stops
abbrev pub last_count : ℕ
last_count = 2 ^ 64 - 1

-- the count rose, or stands at its last value
abbrev pub Rose : ℕ → ℕ → Type 0
Rose before after = (before < after) ⊎ (after ≡ last_count)

-- the count after one more fault
abbrev pub next_count : ℕ → ℕ
next_count faults = min (faults + 1) last_count

-- a list that may be told, with these elements behind it
abbrev pub with_appended : {A : Type 0} → Option (List A) → List A → Option (List A)
with_appended None added = None
with_appended (Some told) added = Some (told ++ added)

-- where the list is told, a prefix of these elements was appended to it
abbrev pub GrewByPrefix : {A : Type 0} → Option (List A) → Option (List A) → List A → Type 0
GrewByPrefix before after all = (count : ℕ) × (after ≡ with_appended before (take count all))

-- the bytes are the first under this name, one more than the limit at most, where it is told what is held
abbrev pub IsStartOf : Option (List ℕ → Option (List ℕ)) → List ℕ → ℕ → List ℕ → Type 0
IsStartOf held name limit bytes = IfSome held (λ files. option_map (take (limit + 1)) (files name) ≡ Some bytes)

-- the contents are in turn the first bytes under these names, where it is told what is held
abbrev pub AreStartsOf : Option (List ℕ → Option (List ℕ)) → List (List ℕ) → ℕ → List (List ℕ) → Type 0
AreStartsOf held names limit contents =
    IfSome held (λ files. map (λ name. option_map (take (limit + 1)) (files name)) names ≡ map Some contents)
