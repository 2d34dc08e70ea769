use Rattle.std.proofs.Common.{drop}
use Rattle.v_lower.specs.Table.{images_at}
use Rattle.v_settle.specs.Copies.{IsWithin}
use Rattle.v_settle.proofs.Copying.{IsCopied}
use Rattle.v_settle.proofs.copy.copied.Given as goal

abbrev pub invariant-loop-declaration : goal.invariant-loop-declaration
invariant-loop-declaration l = record {
  within : IsWithin (images_at l.copy) (images_at l.table);
  all : IsCopied l.scope.declarations.items (drop l.declaration-index l.declaration-items) (images_at l.table) (images_at l.copy);
}
