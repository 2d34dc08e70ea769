use Rattle.std.proofs.Common.{◌∙◌, ap}
use Rattle.verilog_meaning.specs.Expression.{object_width}
use Rattle.v_value.specs.Scope.{scope_at}
use Rattle.v_operators.proofs.Growing.{Grows-trans}
use Rattle.v_elab.proofs.Entering.{is_named, is_unset}
use Rattle.v_elab.proofs.tables.enter_input.Goals as goal

pub returns : goal.returns
returns c =
    record {
      grows = Grows-trans c.name_term.ensures.grows c.zero.ensures.grows;
      id = c.in_ok-id.id.0;
      next_id = c.in_ok-none.none.0;
      table = c.in_ok-insert.ensures;
      next = c.in_ok-insert-2.ensures;
      is_put = is_named (scope_at c.args.scope.now c.args.name.now) c.args.terms.now c.name_term.new.terms c.zero.new.terms c.args.place c.in_ok-id.id.0
          c.name_term.ensures.grows c.zero.ensures.grows c.requires.sort c.in_ok-id.ensures.of_sort c.in_ok-id.ensures.value;
      next_is_put = is_unset (scope_at c.args.scope.now c.args.name.now) c.zero.new.terms c.object_width.result c.in_ok-none.none.0
          c.requires.plain (c.object_width.ensures ∙ ap object_width c.object.ensures) c.in_ok-none.ensures.of_sort c.in_ok-none.ensures.zero;
    }
