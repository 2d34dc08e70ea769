use Rattle.std.proofs.Common.{◌≡◌, ◌++◌, take}
use Rattle.read_cases.specs.Named.{names_of_texts}
use Rattle.read_cases.proofs.names.add_names.Given as goal

abbrev pub invariant-loop-name : goal.invariant-loop-name
invariant-loop-name l = names_of_texts l.names.items ≡ names_of_texts l.initial.names.items ++ names_of_texts (take l.name-index l.more)
