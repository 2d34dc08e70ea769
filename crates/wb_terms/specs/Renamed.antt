-- Tables of names with other names in place of their own.
use Rattle.std.specs.Prelude.{List, [], ◌∷◌}
use Rattle.wb_values.specs.Value.{Name, Sort, Entries}

-- the names, each with the sort of the entry at its place
abbrev pub renamed : List Name → Entries Sort → Entries Sort
renamed [] es = []
renamed (n ∷ ns) [] = []
renamed (n ∷ ns) (e ∷ es) = (n, e.1) ∷ renamed ns es
