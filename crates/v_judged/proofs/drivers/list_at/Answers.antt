use Rattle.std.proofs.Common.{◌≡◌, sym, subst, map, slice_get, Some}
use Rattle.v_syntax.specs.Source.{item_of}
use Rattle.v_flat.specs.Views.{items_of, lists_of}
use Rattle.v_judged.proofs.Loops.{got}
use Rattle.v_judged.proofs.drivers.list_at.Goals as goal

pub returns : goal.returns
returns c =
    subst (λ xs. slice_get (lists_of c.args.lists.now) c.args.number ≡ Some (map item_of xs)) (sym c.deref.ensures.value)
    (got items_of c.args.lists.now c.args.number c.index-lists-number.result _ c.requires c.index-lists-number.is)
