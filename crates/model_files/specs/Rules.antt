-- The rules that refuse a model file, each by itself.
use Rattle.std.specs.Prelude.{ℕ, suc, max, ◌^◌, Bool, true, false, not as truth_not, ◌&&◌, ◌||◌, nat_le, nat_lt, Option, Some, None, is_none}
use Rattle.std.specs.List.{list_all, list_any}
use Rattle.wb_values.specs.Value.{Name, same_name, Sort, truth, word, memory, Value, Entries, entry_of, is_of_sort}
use Rattle.model_meaning.specs.Among.{has_twice}
use Rattle.model_meaning.specs.Term.{Term, is_sort, is_width, is_memory_sort, same_sort}
use Rattle.model_meaning.specs.Invariant.{is_memory_with_stores}
use Rattle.model_files.specs.Written.{WrittenTerm, name, constant_truth, const, unary, binary, extract, widen, ite, store, WrittenMachine, machine, WrittenInstruction, instruction, WrittenInstructions, no_instructions, and_then, WrittenChild, no_child, child, WrittenModel, states_in, machines_in}
use Rattle.wb_values.specs.Names.{is_model_name}
use Rattle.model_files.specs.Names.{all_data_names, all_instruction_names}
use Rattle.model_files.specs.Scope.{Visible, TermPlace, of_definition, of_fetch, of_condition, of_update, PlacedTerm, term_of, written_sort, all_terms}

-- BadName: the model's name or a declared one is not legal.
abbrev pub has_bad_name : WrittenModel → Bool
has_bad_name m =
    truth_not (is_model_name m.model_name && (list_all is_model_name (all_data_names m) && list_all is_model_name (all_instruction_names m)))

-- DuplicateName: two states, inputs or definitions, or two instructions, of the whole file share a name.
abbrev pub has_duplicate_name : WrittenModel → Bool
has_duplicate_name m = has_twice (all_data_names m) || has_twice (all_instruction_names m)

-- the term uses a name that is not visible
abbrev pub uses_unknown_name : Entries Visible → WrittenTerm → Bool
uses_unknown_name names (name n) = is_none (entry_of names n)
uses_unknown_name names (constant_truth b) = false
uses_unknown_name names (const w x) = false
uses_unknown_name names (unary op x) = uses_unknown_name names x
uses_unknown_name names (binary op x y) = uses_unknown_name names x || uses_unknown_name names y
uses_unknown_name names (extract h l x) = uses_unknown_name names x
uses_unknown_name names (widen z n x) = uses_unknown_name names x
uses_unknown_name names (ite c x y) = uses_unknown_name names c || (uses_unknown_name names x || uses_unknown_name names y)
uses_unknown_name names (store m i x) = uses_unknown_name names m || (uses_unknown_name names i || uses_unknown_name names x)

abbrev pub updates_no_state : TermPlace → Bool
updates_no_state (of_update n s) = is_none s
updates_no_state _ = false

-- UnknownName: a term uses a name that is not visible there, or an update names no state.
abbrev pub is_unknown_at : PlacedTerm → Bool
is_unknown_at p = uses_unknown_name p.names p.written || updates_no_state p.place

abbrev pub has_unknown_name : WrittenModel → Bool
has_unknown_name m = list_any is_unknown_at (all_terms m)

-- an index is 0 to 127
abbrev pub is_bit_index : ℕ → Bool
is_bit_index k = nat_le k 127

-- every width and index that the term states is in range
abbrev pub has_widths : WrittenTerm → Bool
has_widths (name n) = true
has_widths (constant_truth b) = true
has_widths (const w x) = is_width w
has_widths (unary op x) = has_widths x
has_widths (binary op x y) = has_widths x && has_widths y
has_widths (extract h l x) = is_bit_index h && (is_bit_index l && has_widths x)
has_widths (widen z n x) = is_width n && has_widths x
has_widths (ite c x y) = has_widths c && (has_widths x && has_widths y)
has_widths (store m i x) = has_widths m && (has_widths i && has_widths x)

abbrev pub has_state_widths : WrittenMachine → Bool
has_state_widths m = list_all (λ s. is_sort s.sort) (states_in m)

-- BadWidth: a stated width or index is out of its range.
abbrev pub has_bad_width : WrittenModel → Bool
has_bad_width m =
    truth_not (list_all (λ i. is_sort i.sort) m.inputs
    && (list_all has_state_widths (machines_in m.top) && list_all (λ p. has_widths p.written) (all_terms m)))

-- a place accepts a term of this sort
abbrev pub accepts : TermPlace → Sort → Bool
accepts of_definition s = true
accepts of_fetch truth = true
accepts of_fetch (word w) = true
accepts of_fetch (memory a d) = false
accepts of_condition s = same_sort truth s
accepts (of_update n (Some d)) s = same_sort d.sort s
accepts (of_update n None) s = true

abbrev pub accepts_sort : TermPlace → Option Sort → Bool
accepts_sort p (Some s) = accepts p s
accepts_sort p None = false

-- BadSort: a term has no sort, or its place wants another sort.
abbrev pub has_bad_sort : WrittenModel → Bool
has_bad_sort m = truth_not (list_all (λ p. accepts_sort p.place (written_sort p.names p.written)) (all_terms m))

-- every constant of the term fits its width
abbrev pub has_fitting_constants : WrittenTerm → Bool
has_fitting_constants (name n) = true
has_fitting_constants (constant_truth b) = true
has_fitting_constants (const w x) = nat_lt x (2 ^ w)
has_fitting_constants (unary op x) = has_fitting_constants x
has_fitting_constants (binary op x y) = has_fitting_constants x && has_fitting_constants y
has_fitting_constants (extract h l x) = has_fitting_constants x
has_fitting_constants (widen z n x) = has_fitting_constants x
has_fitting_constants (ite c x y) = has_fitting_constants c && (has_fitting_constants x && has_fitting_constants y)
has_fitting_constants (store m i x) = has_fitting_constants m && (has_fitting_constants i && has_fitting_constants x)

abbrev pub fits_sort : Sort → Option Value → Bool
fits_sort s None = true
fits_sort s (Some x) = is_of_sort s x

abbrev pub has_fitting_initial_values : WrittenMachine → Bool
has_fitting_initial_values m = list_all (λ s. fits_sort s.sort s.init) (states_in m)

-- BadNumber: a constant or an initial value does not fit its width.
abbrev pub has_bad_number : WrittenModel → Bool
has_bad_number m =
    truth_not (list_all has_fitting_initial_values (machines_in m.top) && list_all (λ p. has_fitting_constants p.written) (all_terms m))

abbrev pub copies_memory : TermPlace → Term → Bool
copies_memory (of_update n (Some d)) e = is_memory_sort d.sort && truth_not (is_memory_with_stores n e)
copies_memory _ e = false

-- MemoryCopy: with definitions put in, a memory's update is not that memory with words stored to it.
abbrev pub has_memory_copy : WrittenModel → Bool
has_memory_copy m = list_any (λ p. copies_memory p.place (term_of p.names p.written)) (all_terms m)

abbrev mutual
  -- how deep children nest below a machine
  pub depth_of : WrittenMachine → ℕ
  depth_of (machine ss ds f v is) = depth_below is

  pub depth_below : WrittenInstructions → ℕ
  depth_below no_instructions = 0
  depth_below (and_then i is) = max (depth_of_instruction i) (depth_below is)

  pub depth_of_instruction : WrittenInstruction → ℕ
  depth_of_instruction (instruction n d u program) = depth_of_child program

  pub depth_of_child : WrittenChild → ℕ
  depth_of_child no_child = 0
  depth_of_child (child steps program) = suc (depth_of program)

-- TooDeepChild: children nest deeper than 3.
abbrev pub has_too_deep_child : WrittenModel → Bool
has_too_deep_child m = nat_lt 3 (depth_of m.top)

abbrev mutual
  -- every child below the machine has a step limit of 1 to 4,096
  pub has_step_limits : WrittenMachine → Bool
  has_step_limits (machine ss ds f v is) = have_step_limits is

  pub have_step_limits : WrittenInstructions → Bool
  have_step_limits no_instructions = true
  have_step_limits (and_then i is) = instruction_has_step_limits i && have_step_limits is

  pub instruction_has_step_limits : WrittenInstruction → Bool
  instruction_has_step_limits (instruction n d u program) = child_has_step_limits program

  pub child_has_step_limits : WrittenChild → Bool
  child_has_step_limits no_child = true
  child_has_step_limits (child steps program) = nat_le 1 steps && (nat_le steps 4096 && has_step_limits program)

-- BadSteps: a child's steps are not 1 to 4,096.
abbrev pub has_bad_steps : WrittenModel → Bool
has_bad_steps m = truth_not (has_step_limits m.top)
