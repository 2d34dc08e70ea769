-- What the table of a module's names has under a name.
use Rattle.std.specs.Prelude.{ℕ, List, cond, Option, Some, None, option_map}
use Rattle.std.specs.Borrow.{Bor}
use Rattle.std.specs.Ordering.{nat_cmp}
use Rattle.std.specs.Cmp.Lexicographic.{slice_cmp}
use Rattle.std.specs.BTreeMap.{BTreeMap, get, get_by}
use Rattle.wb_values.specs.Value.{Name, same_name}
use Rattle.wb_values.specs.Choice.{first_of}
use Rattle.v_value.specs.Hash.{hash_of}
use Rattle.v_scopes.specs.declared.row.Declared.{Declared}
use Rattle.v_scopes.specs.declared.names.Table.{Table}
use Rattle.v_scopes.specs.Rows.{Row, row_of}

-- what is declared of a name, where this has its hash
abbrev pub under : Option Declared → Name → Option Row
under None q = None
under (Some d) q = cond (same_name d.name.now q) (Some (row_of d)) None

abbrev pub hashed_at : BTreeMap ℕ Declared → Name → Option Row
hashed_at t q = under (get nat_cmp t (hash_of q)) q

-- what a table by names has under one
abbrev pub other_at : BTreeMap (Bor (List ℕ)) Declared → Name → Option Row
other_at t q = option_map row_of (get_by (λ k. slice_cmp nat_cmp q k.now) t)

abbrev pub row_at : Table → Name → Option Row
row_at t q = first_of (other_at t.others q) (hashed_at t.hashed q)
