use Rattle.std.proofs.Common.{◌∙◌, ap, map}
use Rattle.verilog_meaning.specs.Register.{clocked_blocks}
use Rattle.v_syntax.specs.Source.{item_of}
use Rattle.v_value.specs.Scope.{scope_at}
use Rattle.v_hier.specs.Tables.{has_name}
use Rattle.map_memories.specs.Spans.{is_among}
use Rattle.map_memories.proofs.Bits.{names_are_counted}
use Rattle.map_memories.proofs.assigned.assigned_names.Goals as goal

pub returns : goal.returns
returns c =
    names_are_counted c.in_ok-spans.spans.items (scope_at c.args.scope.now) (clocked_blocks (map item_of c.args.items.now)) (has_name c.in_ok-names.names) c.in_ok-spans.ensures
    (λ n. c.in_ok-names.ensures n ∙ ap (λ xs. is_among xs n) c.deref.ensures.value)
