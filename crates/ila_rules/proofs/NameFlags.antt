-- Which rules on names a model file breaks, without the places: gathered name after name in the order in which a model
-- is gone through.
use Rattle.std.specs.Prelude.{Bool, false, not, ◌||◌, List, [], ◌∷◌, map}
use Rattle.wb_values.specs.Value.{Name}
use Rattle.model_files.specs.Written.{WrittenMachine, machine, WrittenInstruction, instruction, WrittenInstructions, no_instructions, and_then, WrittenChild, no_child, child, WrittenModel}
use Rattle.wb_values.specs.Names.{is_model_name}
use Rattle.ila_rules.specs.NameFlaws.{NameSet, no_members, with_member}

-- what was found so far: a name that is not legal, one that stands twice, and the names of either kind
pub record NameFlags : Type 0 where
  pub bad : Bool
  pub twice : Bool
  pub data_set : NameSet
  pub instruction_set : NameSet

unfoldable pub data_flags : Name → NameFlags → NameFlags
data_flags n s = record {
  bad = s.bad || not (is_model_name n);
  twice = s.twice || s.data_set n;
  data_set = with_member n s.data_set;
  instruction_set = s.instruction_set;
}

unfoldable pub instruction_flags : Name → NameFlags → NameFlags
instruction_flags n s = record {
  bad = s.bad || not (is_model_name n);
  twice = s.twice || s.instruction_set n;
  data_set = s.data_set;
  instruction_set = with_member n s.instruction_set;
}

abbrev pub all_data_flags : List Name → NameFlags → NameFlags
all_data_flags [] s = s
all_data_flags (n ∷ ns) s = all_data_flags ns (data_flags n s)

abbrev mutual
  pub flags_in : WrittenMachine → NameFlags → NameFlags
  flags_in (machine ss ds f v is) s = flags_below is (all_data_flags (map (λ d. d.0) ds) (all_data_flags (map (λ d. d.state_name) ss) s))

  pub flags_below : WrittenInstructions → NameFlags → NameFlags
  flags_below no_instructions s = s
  flags_below (and_then i is) s = flags_below is (flags_of_instruction i s)

  pub flags_of_instruction : WrittenInstruction → NameFlags → NameFlags
  flags_of_instruction (instruction called d u program) s = flags_of_child program (instruction_flags called s)

  pub flags_of_child : WrittenChild → NameFlags → NameFlags
  flags_of_child no_child s = s
  flags_of_child (child steps program) s = flags_in program s

abbrev pub named_flags : Name → NameFlags
named_flags n = record { bad = not (is_model_name n); twice = false; data_set = no_members; instruction_set = no_members }

abbrev pub model_name_flags : WrittenModel → NameFlags
model_name_flags m = flags_in m.top (all_data_flags (map (λ i. i.input_name) m.inputs) (named_flags m.model_name))
