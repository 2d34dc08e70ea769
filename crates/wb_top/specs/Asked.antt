-- Which names a call asks a shelf for.
use Rattle.std.specs.Prelude.{◌≡◌, List, [], Option, Some, None}
use Rattle.wb_values.specs.Value.{Name}
use Rattle.wb_outside.specs.Outside.{with_appended, GrewByPrefix}
use Rattle.wb_top.specs.Words.{Command}

abbrev pub wanted_names : Option Command → List Name
wanted_names (Some c) = c.files
wanted_names None = []

-- for all files of the command, in their order; for none where the words ask for no command
abbrev pub AskedAll : Option Command → (before after : Option (List Name)) → Type 0
AskedAll command before after = after ≡ with_appended before (wanted_names command)

-- for some of them, from the first on
abbrev pub AskedSome : Option Command → (before after : Option (List Name)) → Type 0
AskedSome command before after = GrewByPrefix before after (wanted_names command)
