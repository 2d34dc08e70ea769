-- What a module declares, name by name, with the values of its ranges; and what all declarations of a name say together.
use Rattle.std.specs.Prelude.{ℕ, Bool, true, cond, ◌||◌, List, [], ◌∷◌, map, Option, Some, None, option_map, option_and_then}
use Rattle.wb_values.specs.Value.{Name, same_name, Entries}
use Rattle.wb_values.specs.Choice.{first_of}
use Rattle.verilog_trees.specs.Syntax as pure
use Rattle.verilog_meaning.specs.Expression.{Object, Scope, undeclared, object_or_undeclared}
use Rattle.verilog_meaning.specs.Hierarchy.{Declaration}
use Rattle.verilog_designs.specs.Known.{with_range}
use Rattle.v_syntax.specs.Source.{direction_of, kind_of}
use Rattle.v_scopes.specs.declared.range.Bounds.{Bounds}
use Rattle.v_scopes.specs.declared.range.Bounds.TheVariants.{Absent, Unknown, Known}
use Rattle.v_scopes.specs.declared.row.Declared.{Declared}
use Rattle.v_scopes.specs.declared.row.Form.{Form}
use Rattle.v_scopes.specs.Bounds.{bounds, first_bounds}

pub record Row : Type 0 where
  pub of_name : Name
  pub direction : Option pure.Direction
  pub kind : Option pure.NetKind
  pub signed : Bool
  pub range : Bounds
  pub addresses : Bounds

-- a declaration with the values of its ranges
abbrev pub row : Scope → Declaration → Row
row s d =
    record { of_name = d.of_name; direction = d.direction; kind = d.kind; signed = d.signed; range = bounds s d.range; addresses = bounds s d.addresses }

abbrev pub rows : Scope → List Declaration → List Row
rows s [] = []
rows s (d ∷ ds) = row s d ∷ rows s ds

-- what the code's rows stand for
abbrev pub row_of : Declared → Row
row_of d =
    record {
      of_name = d.name.now;
      direction = option_map direction_of d.direction;
      kind = kind_of d.kind;
      signed = d.signed;
      range = d.range;
      addresses = d.addresses;
    }

abbrev pub rows_of : List Declared → List Row
rows_of ds = map row_of ds

-- names that are declared alike
abbrev pub formed : Form → Bounds → Name → Row
formed f a n =
    record { of_name = n; direction = option_map direction_of f.direction; kind = kind_of f.kind; signed = f.signed; range = f.range; addresses = a }

abbrev pub named : Form → List Name → List Row
named f [] = []
named f (n ∷ ns) = formed f Absent n ∷ named f ns

abbrev pub placed : Scope → Form → List (Name × Option pure.Range) → List Row
placed s f [] = []
placed s f (v ∷ vs) = formed f (bounds s v.1) v.0 ∷ placed s f vs

-- ---- a name

abbrev pub both_rows : Row → Row → Row
both_rows d e =
    record {
      of_name = d.of_name;
      direction = first_of d.direction e.direction;
      kind = first_of d.kind e.kind;
      signed = d.signed || e.signed;
      range = first_bounds d.range e.range;
      addresses = first_bounds d.addresses e.addresses;
    }

abbrev pub row_and_later : Row → Option Row → Row
row_and_later d None = d
row_and_later d (Some e) = both_rows d e

abbrev pub row_after : Option Row → Row → Row
row_after None e = e
row_after (Some d) e = both_rows d e

-- All that is declared of a name, if anything is.
abbrev pub row_named : List Row → Name → Option Row
row_named [] n = None
row_named (d ∷ ds) n = cond (same_name d.of_name n) (Some (row_and_later d (row_named ds n))) (row_named ds n)

-- the same, where this was declared before
abbrev pub joined_rows : Option Row → Option Row → Option Row
joined_rows None e = e
joined_rows (Some d) e = Some (row_and_later d e)

-- ---- what it stands for

abbrev pub ranged : Bool → Bounds → Option Object
ranged signed Absent = Some (record undeclared { is_declared = true; signed = signed })
ranged signed Unknown = None
ranged signed (Known l r) = Some (with_range signed (l, r))

abbrev pub addresses_at : Bounds → Option (ℕ × ℕ)
addresses_at Absent = None
addresses_at Unknown = Some (0, 0)
addresses_at (Known f l) = Some (f, l)

abbrev pub addressed : Option (ℕ × ℕ) → Object → Object
addressed a o = record o { addresses = a }

-- the object of a name, where its range has a value
abbrev pub row_object : Row → Option Object
row_object d = option_map (addressed (addresses_at d.addresses)) (ranged d.signed d.range)

abbrev pub object_from : Option Row → Object
object_from d = object_or_undeclared (option_and_then row_object d)

abbrev pub scope_by : List Row → Scope
scope_by ds n = object_from (row_named ds n)

-- each row's name with its object
abbrev pub objects_by : Scope → List Row → Entries Object
objects_by s [] = []
objects_by s (d ∷ ds) = (d.of_name, s d.of_name) ∷ objects_by s ds
