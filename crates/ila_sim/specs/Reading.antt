-- What a reading of the code gives, beside what the text stands for.
use Rattle.std.specs.Prelude.{◌≡◌, ◌++◌, ⊤, List, Option, Some, None, option_map, Result, Ok, Err}
use Rattle.ila_sim.specs.declared.stop.Stop.{Stop}
use Rattle.ila_sim.specs.declared.stop.Stop.TheVariants.{Memory, Refused}

-- It gives the value that the text stands for, or refuses where there is none, or wants memory.
abbrev pub IsReading : {T A : Type 0} → (T → A) → Result T Stop → Option A → Type 0
IsReading view (Ok x) wanted = wanted ≡ Some (view x)
IsReading view (Err Refused) wanted = wanted ≡ None
IsReading view (Err Memory) wanted = ⊤

-- what was read so far, and what is read behind it
abbrev pub onto : {A : Type 0} → List A → Option (List A) → Option (List A)
onto xs r = option_map (λ ys. xs ++ ys) r
