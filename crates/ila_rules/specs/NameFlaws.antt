-- The first places of a model file at which a name is not legal or stands again, gathered name after name in the order in which a
-- model is gone through.
use Rattle.std.specs.Prelude.{ℕ, ◌+◌, ◌-◌, Bool, true, false, cond, not, List, [], ◌∷◌, map, length, take, Option, Some, None, codes}
use Rattle.wb_values.specs.Value.{Name, same_name}
use Rattle.wb_values.specs.Names.{is_model_name}
use Rattle.model_files.specs.Written.{WrittenMachine, machine, WrittenInstruction, instruction, WrittenInstructions, no_instructions, and_then, WrittenChild, no_child, child, WrittenModel}
use Rattle.model_places.specs.Sites.{Way, into, Spot, key_spot, item_spot, instruction_spot}
use Rattle.model_places.specs.Notes.{note_at}
use Rattle.ila_rules.specs.Flaws.{kept_first}

-- a set of names, as its test
abbrev pub NameSet : Type 0
NameSet = Name → Bool

abbrev pub no_members : NameSet
no_members n = false

abbrev pub with_member : Name → NameSet → NameSet
with_member k set n = cond (same_name k n) true (set n)

-- the way to the machine that is looked at; the note of the first name that is not legal, and of the first that stands again; and
-- the names of either kind
pub record NameFlaws : Type 0 where
  pub way : Way
  pub bad : Option (List ℕ)
  pub twice : Option (List ℕ)
  pub data_set : NameSet
  pub instruction_set : NameSet

-- the same on the way to the machine of a child, and back
abbrev pub names_on_way : Way → NameFlaws → NameFlaws
names_on_way w s = record { way = w; bad = s.bad; twice = s.twice; data_set = s.data_set; instruction_set = s.instruction_set }

abbrev pub names_entered : (instruction : ℕ) → NameFlaws → NameFlaws
names_entered k s = names_on_way (into s.way k) s

abbrev pub names_left : NameFlaws → NameFlaws
names_left s = names_on_way (take (length s.way - 1) s.way) s

unfoldable pub with_data : Spot → Name → NameFlaws → NameFlaws
with_data spot n s = record {
  way = s.way;
  bad = kept_first s.bad (not (is_model_name n)) (note_at s.way spot);
  twice = kept_first s.twice (s.data_set n) (note_at s.way spot);
  data_set = with_member n s.data_set;
  instruction_set = s.instruction_set;
}

unfoldable pub with_instruction : Spot → Name → NameFlaws → NameFlaws
with_instruction spot n s = record {
  way = s.way;
  bad = kept_first s.bad (not (is_model_name n)) (note_at s.way spot);
  twice = kept_first s.twice (s.instruction_set n) (note_at s.way spot);
  data_set = s.data_set;
  instruction_set = with_member n s.instruction_set;
}

-- the names of the items of the list under a key
abbrev pub with_all_data : (key : Name) → ℕ → List Name → NameFlaws → NameFlaws
with_all_data key k [] s = s
with_all_data key k (n ∷ ns) s = with_all_data key (k + 1) ns (with_data (item_spot key k (Some n)) n s)

abbrev mutual
  pub names_in : WrittenMachine → NameFlaws → NameFlaws
  names_in (machine ss ds f v is) s =
      names_below 0 is (with_all_data (codes "define") 0 (map (λ d. d.0) ds) (with_all_data (codes "states") 0 (map (λ d. d.state_name) ss) s))

  pub names_below : ℕ → WrittenInstructions → NameFlaws → NameFlaws
  names_below k no_instructions s = s
  names_below k (and_then i is) s = names_below (k + 1) is (names_of_instruction k i s)

  pub names_of_instruction : ℕ → WrittenInstruction → NameFlaws → NameFlaws
  names_of_instruction k (instruction called d u program) s = names_of_child k program (with_instruction (instruction_spot k called) called s)

  pub names_of_child : ℕ → WrittenChild → NameFlaws → NameFlaws
  names_of_child k no_child s = s
  names_of_child k (child steps program) s = names_left (names_in program (names_entered k s))

abbrev pub with_model_name : Name → NameFlaws
with_model_name n = record {
  way = [];
  bad = kept_first None (not (is_model_name n)) (note_at [] (key_spot (codes "name")));
  twice = None;
  data_set = no_members;
  instruction_set = no_members;
}

abbrev pub names_in_model : WrittenModel → NameFlaws
names_in_model m = names_in m.top (with_all_data (codes "inputs") 0 (map (λ i. i.input_name) m.inputs) (with_model_name m.model_name))
