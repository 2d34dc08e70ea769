use Rattle.std.proofs.Common.{◌≡◌, ◌+◌, ◌-◌, ◌*◌, suc, Some, length, drop}
use Rattle.model_meaning.specs.Model.{entered}
use Rattle.model_results.specs.Results.{iterated}
use Rattle.ila_model.specs.Meaning.{privates_of}
use Rattle.term_copies.specs.Copies.{IsExtended}
use Rattle.model_terms.specs.Symbolic.{sees, IsReached}
use Rattle.model_terms.specs.Programs.{IsTaken}
use Rattle.model_terms.proofs.Turning.{step_at}
use Rattle.model_terms.proofs.programs.+program.Given as goal

abbrev pub decreases-put_program : goal.decreases-put_program
decreases-put_program l = 2 * (4 - l.depth)

abbrev pub decreases-put_taken : goal.decreases-put_taken
decreases-put_taken l = 2 * (4 - l.depth) + 1

abbrev pub invariant-put_program-loop-turn : goal.invariant-put_program-loop-turn
invariant-put_program-loop-turn l = record {
  extended : IsExtended l.fn.terms l.terms;
  reached : IsReached l.terms l.model.parts l.inside l.run.ended.0 l.run.point.items
      (λ v. iterated (step_at l.model.parts (suc l.depth) l.child.valid.0 l.child.instructions.items) l.turn (entered (privates_of l.model.parts.terms l.child) (sees l.fn.terms l.model.parts l.fn.at l.fn.point.items v)));
}

abbrev pub invariant-put_taken-loop-done : goal.invariant-put_taken-loop-done
invariant-put_taken-loop-done l = record {
  extended : IsExtended l.fn.terms l.terms;
  taken : IsTaken l.terms l.model.parts l.at l.depth (drop (length l.instructions - l.done) l.instructions) l.taken.none.0 l.taken.ended.0 l.taken.point.items (λ v. sees l.fn.terms l.model.parts l.at l.point v);
}
