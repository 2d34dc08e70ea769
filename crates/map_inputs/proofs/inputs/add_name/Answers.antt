use Rattle.std.proofs.Common.{◌∙◌, sym}
use Rattle.v_value.specs.Scope.{scope_at}
use Rattle.v_flow.specs.Spans.{bits_in}
use Rattle.map_inputs.proofs.InputBits.{plain-name, memory-name}
use Rattle.map_inputs.proofs.inputs.add_name.Goals as goal

pub returns-then-is_memory : goal.returns-then-is_memory
returns-then-is_memory c =
    memory-name (scope_at c.args.scope.now) c.args.name.now (bits_in c.args.found.now.items) (sym c.is_memory.ensures ∙ c.if-is_memory.true)

pub returns : goal.returns
returns c =
    plain-name (scope_at c.args.scope.now) c.args.name.now (bits_in c.args.found.now.items) (bits_in c.add_reached.new.found.items) (sym c.is_memory.ensures ∙ c.if-is_memory.false)
    c.in_ok-add_reached.ensures
