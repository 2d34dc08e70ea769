-- What the code's frames of names are seen as.
use Rattle.std.specs.Prelude.{ℕ, List, [], ◌∷◌, Option, None, option_map}
use Rattle.std.specs.Borrow.{Bor}
use Rattle.std.specs.Ordering.{nat_cmp}
use Rattle.std.specs.Cmp.Lexicographic.{slice_cmp}
use Rattle.std.specs.BTreeMap.{BTreeMap, get_by}
use Rattle.wb_values.specs.Value.{Name}
use Rattle.wb_values.specs.Choice.{first_of}
use Rattle.ila_file.specs.View.{sort_view}
use Rattle.ila_file.specs.Places.{way_of, found_text}
use Rattle.ila_rules.specs.Seen.{Brief, LookUp, States, Role}
use Rattle.ila_rules.specs.Seen as roles
use Rattle.ila_rules.specs.Flaws.{Flaws}
use Rattle.ila_rules.specs.declared.scope.Seen.{Seen}
use Rattle.ila_rules.specs.declared.findings.Findings.{Findings}
use Rattle.ila_rules.specs.declared.findings.Role as code
use Rattle.ila_rules.specs.declared.findings.Role.TheVariants.{Definition, Fetch, Condition, Update}
use Rattle.ila_rules.specs.declared.scope.Frame.{Frame}
use Rattle.ila_rules.specs.declared.declared_names.Names.{Names}
use Rattle.ila_rules.specs.NameFlaws.{NameSet, NameFlaws}
use Rattle.std.specs.BTreeSet.{BTreeSet, contains_by}

-- the value under a name
abbrev pub under_name : {X : Type 0} → BTreeMap (Bor (List ℕ)) X → Name → Option X
under_name t n = get_by (λ k. slice_cmp nat_cmp n k.now) t

-- a name that a slice of the code holds
abbrev pub name_view : Option (Bor (List ℕ)) → Option Name
name_view o = option_map (λ n. n.now) o

abbrev pub brief_view : Seen → Brief
brief_view s = record { sort = option_map sort_view s.sort; memory = name_view s.memory }

-- what one frame knows of names
abbrev pub look_frame : Frame → LookUp
look_frame f n = option_map brief_view (under_name f.names n)

abbrev pub states_frame : Frame → States
states_frame f n = option_map sort_view (under_name f.states n)

abbrev pub no_names : LookUp
no_names n = None

-- the last frame that knows a name counts
abbrev pub seen_onto : Option Brief → List Frame → Name → Option Brief
seen_onto o [] n = o
seen_onto o (f ∷ fs) n = seen_onto (first_of (look_frame f n) o) fs n

abbrev pub look_frames : List Frame → LookUp
look_frames fs n = seen_onto None fs n

-- the frames and one more behind them
abbrev pub look_of : List Frame → Frame → LookUp
look_of fs f n = first_of (look_frame f n) (look_frames fs n)

-- the first frame that knows a state counts
abbrev pub states_frames : List Frame → States
states_frames [] n = None
states_frames (f ∷ fs) n = first_of (states_frame f n) (states_frames fs n)

abbrev pub states_of : List Frame → Frame → States
states_of fs f n = first_of (states_frames fs n) (states_frame f n)

-- ---- what was found

abbrev pub role_view : code.Role → Role
role_view Definition = roles.definition
role_view Fetch = roles.fetch
role_view Condition = roles.condition
role_view (Update n s) = roles.update n.now (option_map sort_view s)

abbrev pub flaws_view : Findings → Flaws
flaws_view f = record {
  way = way_of f.place;
  unknown_name = found_text f.unknown_name;
  bad_width = found_text f.bad_width;
  bad_sort = found_text f.bad_sort;
  bad_number = found_text f.bad_number;
  memory_copy = found_text f.memory_copy;
}

-- ---- names

abbrev pub known : BTreeSet (Bor (List ℕ)) → NameSet
known s n = contains_by (λ k. slice_cmp nat_cmp n k.now) s

abbrev pub names_view : Names → NameFlaws
names_view s = record {
  way = way_of s.place;
  bad = found_text s.bad;
  twice = found_text s.twice;
  data_set = known s.data_set;
  instruction_set = known s.instruction_set;
}
