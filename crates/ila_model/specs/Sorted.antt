-- When the parts of a model are well sorted: its declared names, its conditions and updates over their store of terms, and its children.
use Rattle.std.specs.Prelude.{ℕ, zero, suc, ◌+◌, ◌<◌, ⊤, Bool, true, false, ◌&&◌, ◌||◌, ◌==◌, nat_le, nat_lt, List, [], ◌∷◌, length, drop, Option, Some, None, is_none, slice_index_or}
use Rattle.wb_values.specs.Value.{Sort, truth, memory, Entries, entry_of, is_of_sort}
use Rattle.model_meaning.specs.Term.{same_sort, sort_of}
use Rattle.wb_terms.specs.declared.values.Value.{Value}
use Rattle.wb_terms.specs.Graph.{Graph, tree}
use Rattle.wb_terms.specs.Environment.{as_value}
use Rattle.ila_model.specs.declared.parts.Update.{Update}
use Rattle.ila_model.specs.declared.parts.Instruction.{Instruction}
use Rattle.ila_model.specs.declared.parts.ChildId.{ChildId}
use Rattle.ila_model.specs.declared.parts.Child.{Child}
use Rattle.ila_model.specs.declared.parts.Parts.{Parts}
use Rattle.ila_model.specs.Scope.{around, is_child_nested, may_read, home, term_scope, tops}

-- no two names are equal
abbrev pub are_distinct : Entries Sort → Bool
are_distinct [] = true
are_distinct (e ∷ es) = is_none (entry_of es e.0) && are_distinct es

-- A stated initial value of a state of the top has the state's sort, and a memory states none.
abbrev pub is_top_initial : Sort → Option Value → Bool
is_top_initial s None = true
is_top_initial (memory a d) (Some x) = false
is_top_initial s (Some x) = is_of_sort s (as_value x)

-- A private state is a truth value or a word, and states an initial value of its sort.
abbrev pub is_private_initial : Sort → Option Value → Bool
is_private_initial s None = false
is_private_initial (memory a d) (Some x) = false
is_private_initial s (Some x) = is_of_sort s (as_value x)

abbrev pub is_initial : (private : Bool) → Sort → Option Value → Bool
is_initial false s i = is_top_initial s i
is_initial true s i = is_private_initial s i

-- The first names of the table may be states with these initial values.
abbrev pub are_states : (private : Bool) → Entries Sort → List (Option Value) → Bool
are_states b ns [] = true
are_states b [] (i ∷ is) = false
are_states b (n ∷ ns) (i ∷ is) = is_initial b n.1 i && are_states b ns is

-- An input is a truth value or a word.
abbrev pub is_input_sort : Sort → Bool
is_input_sort (memory a d) = false
is_input_sort _ = true

-- The first so many names of the table may be inputs.
abbrev pub are_inputs : ℕ → Entries Sort → Bool
are_inputs zero ns = true
are_inputs (suc m) [] = false
are_inputs (suc m) (n ∷ ns) = is_input_sort n.1 && are_inputs m ns

-- The private states of the children follow one another from a place of the table on to its end.
abbrev pub are_placed : (from total : ℕ) → List Child → Bool
are_placed from total [] = from == total
are_placed from total (c ∷ cs) = (c.first.0 == from) && are_placed (from + length c.initial_values.items) total cs

abbrev pub has_sort : Option Sort → Sort → Bool
has_sort (Some s) t = same_sort s t
has_sort None t = false

-- The term with this id is in the store and has the sort.
abbrev pub is_term_of : Graph → Sort → ℕ → Bool
is_term_of g s k = nat_lt k (length g.nodes) && has_sort (sort_of (tree g k)) s

-- A term of this sort, which may be read at the place: in a child, or in the top.
abbrev pub is_read_at : Parts → Option ℕ → Sort → ℕ → Bool
is_read_at p at s k = is_term_of p.terms s k && may_read p.children.items at (term_scope p k)

abbrev pub is_condition : Parts → Option ℕ → ℕ → Bool
is_condition p at k = is_read_at p at truth k

-- the name and the sort at a place of the table
abbrev pub sort_at : Entries Sort → ℕ → Sort
sort_at ns k = (slice_index_or ns k ([], truth)).1

abbrev pub name_at : Entries Sort → ℕ → List ℕ
name_at ns k = (slice_index_or ns k ([], truth)).0

-- A state of the top or of a child, known at the place.
abbrev pub is_state_at : Parts → Option ℕ → ℕ → Bool
is_state_at p at k =
    nat_lt k (length p.terms.names)
    && ((nat_lt k (length p.initial_values.items) || nat_le (tops p) k) && may_read p.children.items at (home p (name_at p.terms.names k)))

-- The updates are of states known at the place, each by a term of its state's sort, in ascending order from a name on: so no
-- state is updated twice.
abbrev pub are_updates : Parts → Option ℕ → (from : ℕ) → List Update → Bool
are_updates p at from [] = true
are_updates p at from (u ∷ us) =
    nat_le from u.state.0
    && (is_state_at p at u.state.0 && (is_read_at p at (sort_at p.terms.names u.state.0) u.term.0 && are_updates p at (suc u.state.0) us))

abbrev pub is_instruction : Parts → Option ℕ → Instruction → Bool
is_instruction p at i = is_condition p at i.decode.0 && are_updates p at 0 i.updates.items

abbrev pub same_place : Option ℕ → Option ℕ → Bool
same_place None None = true
same_place (Some a) (Some b) = a == b
same_place _ _ = false

-- The child of an instruction, if any, says that it is run from the place, and does not stand before the given child.
abbrev pub is_link : List Child → Option ℕ → (from : ℕ) → Option ChildId → Bool
is_link cs at from None = true
is_link cs at from (Some i) = nat_le from i.0 && (nat_lt i.0 (length cs) && same_place (around cs i.0) at)

abbrev pub child_after : ℕ → Option ChildId → ℕ
child_after from None = from
child_after from (Some i) = suc i.0

abbrev pub IsChildBelow : ℕ → Option ChildId → Type 0
IsChildBelow n None = ⊤
IsChildBelow n (Some i) = i.0 < n

-- Each instruction of a machine is well sorted, and their children stand in ascending order: so none is run by two of them.
abbrev pub are_instructions : Parts → Option ℕ → (from : ℕ) → List Instruction → Bool
are_instructions p at from [] = true
are_instructions p at from (i ∷ is) =
    is_instruction p at i && (is_link p.children.items at from i.child && are_instructions p at (child_after from i.child) is)

abbrev pub is_machine : Parts → Option ℕ → (valid : ℕ) → List Instruction → Bool
is_machine p at valid is = is_condition p at valid && are_instructions p at 0 is

-- a child takes 1 to 4,096 steps
abbrev pub is_limit : ℕ → Bool
is_limit n = nat_le 1 n && nat_le n 4096

abbrev pub is_child : Parts → ℕ → Child → Bool
is_child p k c =
    is_limit c.steps
    && (is_child_nested p.children.items k
    && (are_states true (drop c.first.0 p.terms.names) c.initial_values.items && is_machine p (Some k) c.valid.0 c.instructions.items))

abbrev pub are_children : Parts → (from : ℕ) → List Child → Bool
are_children p k [] = true
are_children p k (c ∷ cs) = is_child p k c && are_children p (suc k) cs

-- The table has the states, the inputs and the private states, and nothing else.
abbrev pub are_declarations : Parts → Bool
are_declarations p =
    are_states false p.terms.names p.initial_values.items
    && (are_inputs p.inputs (drop (length p.initial_values.items) p.terms.names)
    && are_placed (tops p) (length p.terms.names) p.children.items)

-- The parts of a model are well sorted.
abbrev pub is_well_sorted : Parts → Bool
is_well_sorted p =
    are_distinct p.terms.names
    && (are_declarations p && (is_machine p None p.valid.0 p.instructions.items && are_children p 0 p.children.items))
