use Rattle.std.proofs.Common.{sym}
use Rattle.v_value.specs.Scope.{scope_at}
use Rattle.v_lower.specs.Table.{images_at}
use Rattle.v_lower.proofs.Named.{image_there}
use Rattle.v_lower.proofs.names.named.Goals as goal

pub unreachable-requires : goal.unreachable-requires
unreachable-requires c =
    image_there (scope_at c.args.names.scope.now) (images_at c.args.names.table.now) c.args._terms.now c.args.name.now c.requires.known c.requires.sort c.requires.no_number (sym c.in-None.ensures)
