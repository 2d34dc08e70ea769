-- The objects that the code's declarations stand for.
use Rattle.std.specs.Prelude.{List, [], ◌∷◌}
use Rattle.wb_values.specs.Value.{Entries}
use Rattle.verilog_meaning.specs.Expression as meaning
use Rattle.v_value.specs.declared.scope.Object.{Object}
use Rattle.v_value.specs.declared.scope.Declaration.{Declaration}

abbrev pub object_of : Object → meaning.Object
object_of o =
    record {
      is_declared = o.is_declared;
      signed = o.signed;
      has_range = o.has_range;
      left = o.left;
      right = o.right;
      addresses = o.addresses;
      constant = o.constant;
    }

abbrev pub objects_of : List Declaration → Entries meaning.Object
objects_of [] = []
objects_of (d ∷ ds) = (d.name.now, object_of d.object) ∷ objects_of ds
