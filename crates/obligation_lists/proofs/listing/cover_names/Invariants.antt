use Rattle.std.proofs.Common.{◌≡◌, ◌++◌, map, take, codes, string_bytes}
use Rattle.model_meaning.specs.Model.{instruction_name, instructions_in}
use Rattle.ila_model.specs.Model.{model_of}
use Rattle.obligation_lists.proofs.listing.cover_names.Given as goal

abbrev pub invariant-loop-place : goal.invariant-loop-place
invariant-loop-place l =
    map string_bytes l.names.items ≡ map (λ i. codes "cover." ++ instruction_name i) (take l.place (instructions_in (model_of l.model).top))
