use Rattle.std.proofs.Common.{◌∙◌, ap, sym, cond, Some, None}
use Rattle.wb_values.specs.Value.{same_name, entry_of}
use Rattle.wb_values.specs.Choice.{first_of}
use Rattle.v_value.specs.Objects.{object_of, objects_of}
use Rattle.v_value.proofs.Objects.{one_behind}
use Rattle.v_value.proofs.scope.Scope.with.Goals as goal

pub invariant_of-result : goal.invariant_of-result
invariant_of-result c =
    record {
      holds = λ q.
          c.in_ok-declare.ensures q
          ∙ (ap (λ o. first_of o (cond (same_name c.args.declaration.name.now q) (Some (object_of c.args.declaration.object)) None)) (c.args.self.holds q)
          ∙ (sym (one_behind c.args.self.declarations.items c.args.declaration q)
          ∙ ap (λ ds. entry_of (objects_of ds) q) (sym c.in_ok-push.ensures.items)));
    }
