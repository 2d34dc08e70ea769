use Rattle.std.proofs.Common.{map}
use Rattle.v_syntax.specs.Source.{item_of}
use Rattle.v_value.specs.Scope.{scope_at}
use Rattle.v_paths.proofs.Items.{latches-so}
use Rattle.v_paths.proofs.item.has_latch.Goals as goal

pub returns : goal.returns
returns c = latches-so (scope_at c.args.scope.now) (map item_of c.args.items.now) _ c.in_ok-found.ensures
