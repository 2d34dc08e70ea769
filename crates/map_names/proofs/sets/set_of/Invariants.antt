use Rattle.std.proofs.Common.{◌≡◌, ℕ, List, ◌||◌, drop}
use Rattle.model_meaning.specs.Among.{is_name_in}
use Rattle.map_names.specs.Texts.{texts, has_name}
use Rattle.map_names.proofs.sets.set_of.Given as goal

abbrev pub invariant-loop-name : goal.invariant-loop-name
invariant-loop-name l = (q : List ℕ) → (has_name l.set q || is_name_in q (texts (drop l.name-index l.names))) ≡ is_name_in q (texts l.names)
