-- The names of the modules in a list with what they stand for, and what they are called in one scope: by what stands before them there.
use Rattle.std.specs.Prelude.{cond, List, [], ◌∷◌, ◌++◌, map, Option, Some, None, unwrap_or}
use Rattle.wb_values.specs.Value.{Name, same_name, Entries}
use Rattle.verilog_trees.specs.Syntax.{Module}
use Rattle.verilog_meaning.specs.Expression.{Object, scope_of}
use Rattle.verilog_meaning.specs.Hierarchy.{PathStep, declarations}
use Rattle.v_scopes.specs.Rows.{rows, scope_by, objects_by}
use Rattle.v_places.specs.Below.{Spot}
use Rattle.flat_designs.specs.Flat.{Naming}
use Rattle.v_flat.specs.Paths.{paths_of}

-- the names of a module with these constants: these, and what it declares besides
abbrev pub module_entries : Module → Entries Object → Entries Object
module_entries m known = known ++ objects_by (scope_by (rows (scope_of known) (declarations m))) (rows (scope_of known) (declarations m))

abbrev pub spot_entries : Spot → Entries Object
spot_entries x = module_entries x.of_module x.constants

-- a name, what it is called, and what it stands for
pub record DottedEntry : Type 0 where
  pub of_name : Name
  pub text : Name
  pub object : Object

abbrev pub dotted_entry : Name → Name × Object → DottedEntry
dotted_entry front e = record { of_name = e.0; text = front ++ e.0; object = e.1 }

abbrev pub dotted_entries : Name → Entries Object → List DottedEntry
dotted_entries front es = map (dotted_entry front) es

-- the names of one module: what stands before them, and each of them
pub record SpotNames : Type 0 where
  pub front : Name
  pub entries : List DottedEntry

abbrev pub spot_names : Name → Spot → SpotNames
spot_names front x = record { front = front; entries = dotted_entries front (spot_entries x) }

-- those of all modules of the list, where a naming says what stands before the names of the module at a path
abbrev pub names_at_paths : Naming → List (List PathStep) → List Spot → List SpotNames
names_at_paths called [] xs = []
names_at_paths called (q ∷ qs) [] = []
names_at_paths called (q ∷ qs) (x ∷ xs) = spot_names (called q []) x ∷ names_at_paths called qs xs

abbrev pub names_of : Naming → List Spot → List SpotNames
names_of called spots = names_at_paths called (paths_of spots) spots

-- what the last entry that has the name is called, else what is known before
abbrev pub named_after : Option Name → List DottedEntry → Name → Option Name
named_after o [] n = o
named_after o (e ∷ es) n = named_after (cond (same_name e.of_name n) (Some e.text) o) es n

-- ---- one scope

abbrev pub flat_entry : DottedEntry → Name × Object
flat_entry e = (e.text, e.object)

abbrev pub flat_entries : List SpotNames → Entries Object
flat_entries [] = []
flat_entries (p ∷ ps) = map flat_entry p.entries ++ flat_entries ps

-- The new name of a name: what the last of these entries that has it is called, else the name itself.
abbrev pub named_in : List DottedEntry → Name → Name
named_in es n = unwrap_or (named_after None es n) n

abbrev pub naming_of : SpotNames → Name → Name
naming_of p = named_in p.entries
