use Rattle.std.proofs.Common.{◌≡◌, ℕ, ◌<◌, slice_get, Some, IsTrue}
use Rattle.model_meaning.specs.Term.{is_sort}
use Rattle.model_meaning.specs.Model.{StateDeclaration, states_of}
use Rattle.ila_model.specs.Model.{model_of}
use Rattle.read_cases.proofs.sound.model_is_sound.Given as goal

abbrev pub invariant-loop-place : goal.invariant-loop-place
invariant-loop-place l =
    (k : ℕ) (d : StateDeclaration) → k < l.place → slice_get (states_of (model_of l.model).top) k ≡ Some d → IsTrue (is_sort d.sort)
