use Rattle.std.proofs.Common.{◌≡◌, ◌-◌}
use Rattle.model_meaning.specs.Model.{entered}
use Rattle.model_meaning.specs.Instruction.{Reaches}
use Rattle.wb_terms.specs.Environment.{AreOfSorts}
use Rattle.term_evaluation.specs.Points.{IsPointOf}
use Rattle.ila_model.specs.Meaning.{privates_of}
use Rattle.ila_child.specs.Running.{seen}
use Rattle.ila_child.proofs.Programs.{steps_of}
use Rattle.ila_child.proofs.running.+run_program.Given as goal

abbrev pub decreases-run_program : goal.decreases-run_program
decreases-run_program l = 4 - l.depth

abbrev pub invariant-loop-step : goal.invariant-loop-step
invariant-loop-step l = record {
  reaches : Reaches (steps_of l.model.parts l.depth l.child) l.step (entered (privates_of l.model.parts.terms l.child) (seen l.model.parts l.fn.at l.fn.point.values)) (seen l.model.parts l.inside l.point.values);
  fits : AreOfSorts l.model.parts.terms.names l.point.values;
  point : IsPointOf l.model.parts.terms l.point;
  aside : l.point.aside ≡ l.fn.point.aside;
}
