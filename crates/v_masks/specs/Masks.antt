-- Tables of masks: which bits of a name are in a set, by the name alone.
use Rattle.std.specs.Prelude.{ℕ, zero, List, unwrap_or}
use Rattle.std.specs.Borrow.{Bor}
use Rattle.std.specs.BTreeMap.{BTreeMap}
use Rattle.wb_values.specs.Value.{Name}
use Rattle.verilog_meaning.specs.Register.{is_set}
use Rattle.verilog_designs.specs.Reads.{BitSet}
use Rattle.v_hier.specs.Tables.{under_name}

-- the bits of a name
abbrev pub mask_under : BTreeMap (Bor (List ℕ)) ℕ → Name → ℕ
mask_under t n = unwrap_or (under_name t n) 0

-- the bits of the table, in whatever word
abbrev pub masked : BTreeMap (Bor (List ℕ)) ℕ → BitSet
masked t n k b = is_set (mask_under t n) b

-- the bits that a set has in the word 0, in whatever word
abbrev pub spread : BitSet → BitSet
spread p n k b = p n zero b
