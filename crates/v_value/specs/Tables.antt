-- What a table of objects has under a name.
use Rattle.std.specs.Prelude.{ℕ, List, cond, Option, Some, None, option_map}
use Rattle.std.specs.Borrow.{Bor}
use Rattle.std.specs.Ordering.{nat_cmp}
use Rattle.std.specs.Cmp.Lexicographic.{slice_cmp}
use Rattle.std.specs.BTreeMap.{BTreeMap, get, get_by}
use Rattle.wb_values.specs.Value.{Name, same_name}
use Rattle.wb_values.specs.Choice.{first_of}
use Rattle.verilog_meaning.specs.Expression as meaning
use Rattle.v_value.specs.declared.scope.Object.{Object}
use Rattle.v_value.specs.declared.scope.Declaration.{Declaration}
use Rattle.v_value.specs.declared.table.Table.{Table}
use Rattle.v_value.specs.Objects.{object_of}
use Rattle.v_value.specs.Hash.{hash_of}

-- what a name stands for, where this declaration has its hash
abbrev pub under : Option Declaration → Name → Option meaning.Object
under None q = None
under (Some d) q = cond (same_name d.name.now q) (Some (object_of d.object)) None

abbrev pub hashed_at : BTreeMap ℕ Declaration → Name → Option meaning.Object
hashed_at t q = under (get nat_cmp t (hash_of q)) q

-- what a table by names has under one
abbrev pub other_at : BTreeMap (Bor (List ℕ)) Object → Name → Option meaning.Object
other_at t q = option_map object_of (get_by (λ k. slice_cmp nat_cmp q k.now) t)

abbrev pub object_at : Table → Name → Option meaning.Object
object_at t q = first_of (hashed_at t.hashed q) (other_at t.others q)
