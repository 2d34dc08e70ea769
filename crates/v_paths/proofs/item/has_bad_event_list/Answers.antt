use Rattle.std.proofs.Common.{map}
use Rattle.v_syntax.specs.Source.{item_of}
use Rattle.v_value.specs.Scope.{scope_at}
use Rattle.v_hier.specs.Tables.{has_name}
use Rattle.v_paths.proofs.Items.{bad-so}
use Rattle.v_paths.proofs.item.has_bad_event_list.Goals as goal

pub returns : goal.returns
returns c = bad-so (scope_at c.args.scope.now) (has_name c.args.clocks.now) (map item_of c.args.items.now) _ c.in_ok-found.ensures
