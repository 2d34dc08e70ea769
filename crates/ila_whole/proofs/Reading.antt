-- The parts of a written model, read as the model that they stand for.
use Rattle.std.proofs.Common.{◌≡◌, ℕ, ◌≤◌, true, List, [], ◌∷◌, ◌++◌, length, map, drop, Bor, Option, None, option_map, refl, sym, ap, ◌∙◌, subst, arith, append_assoc}
use Rattle.std.proofs.lemmas.List.{append-nil}
use Rattle.std.specs.BTreeMap.{BTreeMap}
use Rattle.wb_values.specs.Value.{Name, Sort, Entries}
use Rattle.model_meaning.specs.Model as pure
use Rattle.model_meaning.specs.Model.{StateDeclaration, InputDeclaration, Model, Machine}
use Rattle.model_files.specs.Written.{WrittenMachine, machine, WrittenModel, states_in}
use Rattle.model_files.specs.Scope.{Visible, MachineScope, declared, term_of, with_inputs, with_states, with_fetch, scope_within, terms_in}
use Rattle.model_files.specs.Rules.{depth_of}
use Rattle.model_files.specs.Meaning as file
use Rattle.model_files.specs.Meaning.{broken_rule}
use Rattle.wb_terms.specs.declared.nodes.TermId.{TermId}
use Rattle.wb_terms.specs.declared.values.Value.{Value}
use Rattle.wb_terms.specs.Environment.{as_value}
use Rattle.wb_terms.specs.Graph.{Graph, tree}
use Rattle.ila_model.specs.declared.parts.Instruction.{Instruction}
use Rattle.ila_model.specs.declared.parts.ChildId.{ChildId}
use Rattle.ila_model.specs.declared.parts.Child.{Child}
use Rattle.ila_model.specs.declared.parts.Parts.{Parts}
use Rattle.ila_model.specs.Scope.{nesting}
use Rattle.ila_model.specs.Meaning.{declared_states, declared_inputs, instructions_of, program_of, model_from}
use Rattle.ila_build.specs.Standing.{IsGrown, IsWider, IsTable, StandAll}
use Rattle.ila_build.specs.Knowing.{Knows, are_right}
use Rattle.ila_build.specs.Updating.{StandAt}
use Rattle.ila_build.specs.Declaring.{state_entry, input_entry}
use Rattle.ila_build.specs.Building.{own_instructions, IsMachine, IsMachinePut}
use Rattle.ila_build.specs.Inside.{links_from, StandForChildren, AreChildrenPut}
use Rattle.ila_build.proofs.Growing.{wide_same}
use Rattle.ila_build.proofs.Chosen.{stand_moved}
use Rattle.ila_build.proofs.ChildLemmas.{with_name, knows_states, all_behind, drop_front, places_from, stand_more}
use Rattle.ila_build.proofs.InsideLemmas.{machine_right, stand_wider, machine_wider, linked}
use Rattle.ila_build.proofs.ProgramLemmas.{AreLinked, instructions_read}
use Rattle.ila_whole.specs.Whole.{ArePartsOf}
use Rattle.ila_whole.proofs.Unbroken.{all_right, not_too_deep}

-- ---- the names of the top

knows_none : (g : Graph) (t : BTreeMap (Bor (List ℕ)) TermId) → Knows g t None []
unfolding Knows
knows_none g t n v e = cc

knows_inputs : (g : Graph) (t : BTreeMap (Bor (List ℕ)) TermId) (names : Entries Visible) (is : List InputDeclaration) → Knows g t None names → StandAll g t (map input_entry is) → Knows g t None (with_inputs names is)
knows_inputs g t names [] k a = k
knows_inputs g t names (i ∷ is) k a =
    knows_inputs g t ((i.input_name, declared i.input_name i.sort) ∷ names) is (with_name g t names i.input_name (declared i.input_name i.sort) k a.0) a.1

all_front : (g : Graph) (t : BTreeMap (Bor (List ℕ)) TermId) (ns ms : Entries Sort) → StandAll g t (ns ++ ms) → StandAll g t ns
all_front g t [] ms a = tt
all_front g t (n ∷ ns) ms a = (a.0, all_front g t ns ms a.1)

stand_all : (g : Graph) (t : BTreeMap (Bor (List ℕ)) TermId) → IsTable g t → StandAll g t g.names
unfolding IsTable
stand_all g t a = a.1

-- states and inputs are known where the table has their names
pub knows_top : (g : Graph) (t : BTreeMap (Bor (List ℕ)) TermId) (ss : List StateDeclaration) (is : List InputDeclaration) → IsTable g t → g.names ≡ map state_entry ss ++ map input_entry is → Knows g t None (with_states (with_inputs [] is) ss)
knows_top g t ss is a e =
    let all = subst (StandAll g t) e (stand_all g t a) in
    knows_states g t (with_inputs [] is) ss (knows_inputs g t [] is (knows_none g t) (all_behind g t (map state_entry ss) (map input_entry is) all)) (all_front g t (map state_entry ss) (map input_entry is) all)

-- the states stand in front
pub stand_top : (g : Graph) (ss : List StateDeclaration) (more : Entries Sort) → g.names ≡ map state_entry ss ++ more → StandAt g 0 (places_from 0 ss) ss
stand_top g ss more e =
    let empty : Graph = record { names = []; nodes = [] } in
    let first : Graph = record { names = map state_entry ss; nodes = [] } in
    let wide : IsWider first g = record { more = more; names = e; longer = omega arith; trees = λ k h. absurd (omega (arith, h)) } in
    stand_wider first g 0 (places_from 0 ss) ss wide (stand_more empty first 0 [] [] ss (omega arith) refl tt)

states_read : (ss : List StateDeclaration) (more : Entries Sort) (is : List (Option Value)) → map (option_map as_value) is ≡ map (λ s. s.init) ss → declared_states (map state_entry ss ++ more) is ≡ ss
states_read [] [] [] e = refl
states_read [] (m ∷ more) [] e = refl
states_read [] more (i ∷ is) e = cc
states_read (s ∷ ss) more [] e = cc
states_read (s ∷ ss) more (i ∷ is) e =
    let first : option_map as_value i ≡ s.init = cc in
    let behind : map (option_map as_value) is ≡ map (λ x. x.init) ss = cc in
    ap (λ x. (record { state_name = s.state_name; sort = s.sort; init = x }) ∷ declared_states (map state_entry ss ++ more) is) first ∙ ap (λ r. s ∷ r) (states_read ss more is behind)

inputs_read : (is : List InputDeclaration) (more : Entries Sort) → declared_inputs (length is) (map input_entry is ++ more) ≡ is
inputs_read [] more = refl
inputs_read (i ∷ is) more = ap (λ r. i ∷ r) (inputs_read is more)

-- ---- the machine of the top

top_read : (g h k : Graph) (t u v : BTreeMap (Bor (List ℕ)) TermId) (links : List (Option ChildId)) (cs : List Child) (ins : List InputDeclaration) (w : WrittenMachine) (valid : TermId) (xs : List Instruction) (values : List (Option Value)) (more : Entries Sort)
    → are_right (terms_in (record { names = with_inputs [] ins; states = [] }) w) ≡ true → depth_of w ≤ 3
    → IsTable g t → g.names ≡ map state_entry (states_in w) ++ map input_entry ins
    → IsGrown g h → IsMachinePut g t h u links w valid xs → links ≡ links_from 0 (own_instructions w) → AreChildrenPut h u [] k v cs (own_instructions w)
    → map (option_map as_value) values ≡ map (λ s. s.init) (states_in w) → k.names ≡ map state_entry (states_in w) ++ more
    → pure.machine (declared_states k.names values) (tree k valid.0) (instructions_of k (program_of k cs nesting) xs) ≡ file.machine_of (record { names = with_inputs [] ins; states = [] }) w
unfolding IsMachinePut nesting
top_read g h k t u v links cs ins (machine ss es f e is) valid xs values more right deep table names grown put el inside inits all =
    let outer : MachineScope = record { names = with_inputs [] ins; states = [] } in
    let inner : MachineScope = scope_within outer ss es in
    let parts = machine_right outer ss es f e is right in
    let places = places_from 0 ss in
    let at : StandAt g 0 places ss = stand_top g ss (map input_entry ins) names in
    let own = put (with_states outer.names ss) places ss (knows_top g t ss ins table names) at parts.0 in
    let it : IsMachine k (with_states outer.names ss) ss links (machine ss es f e is) valid xs = machine_wider h k _ ss links (machine ss es f e is) valid xs inside.wider own.1 in
    let stand : StandForChildren k cs inner 0 is = inside.stand inner places (with_fetch inner.names f) own.0 (stand_moved g h 0 places ss grown.names at) parts.1 in
    let program = program_of k cs 3 in
    let joined : AreLinked (program_of k (cs ++ []) 3) inner (links_from 0 is) 0 is = linked k k cs [] inner 3 0 [] is (wide_same k) deep stand in
    let joined' : AreLinked program inner links 0 is = subst (λ ls. AreLinked program inner ls 0 is) (sym el) (subst (λ ds. AreLinked (program_of k ds 3) inner (links_from 0 is) 0 is) (append-nil cs) joined) in
    let own_states : declared_states k.names values ≡ ss = ap (λ ns. declared_states ns values) all ∙ states_read ss more values inits in
    ap (λ s. pure.machine s (tree k valid.0) (instructions_of k program xs)) own_states
    ∙ (ap (λ x. pure.machine ss x (instructions_of k program xs)) it.valid_tree
    ∙ ap (pure.machine ss (term_of (with_fetch inner.names f) e)) (instructions_read k program inner (with_fetch inner.names f) links 0 is xs it.instructions joined'))

-- ---- the model

model_is : {n m : Name} {is js : List InputDeclaration} {t u : Machine} → n ≡ m → is ≡ js → t ≡ u → ◌≡◌ {A = Model} (record { model_name = n; inputs = is; top = t }) (record { model_name = m; inputs = js; top = u })
model_is {n} {m} {is} {js} {t} {u} p q r = λ i. record { model_name = p i; inputs = q i; top = r i }

pub parts_read : (g h : Graph) (t u v : BTreeMap (Bor (List ℕ)) TermId) (links : List (Option ChildId)) (m : WrittenModel) (p : Parts)
    → IsTable g t → g.names ≡ map state_entry (states_in m.top) ++ map input_entry m.inputs
    → IsGrown g h → IsMachinePut g t h u links m.top p.valid p.instructions.items → links ≡ links_from 0 (own_instructions m.top) → AreChildrenPut h u [] p.terms v p.children.items (own_instructions m.top)
    → p.inputs ≡ length m.inputs → map (option_map as_value) p.initial_values.items ≡ map (λ s. s.init) (states_in m.top) → ArePartsOf m p
unfolding ArePartsOf
parts_read g h t u v links m p table names grown put el inside count inits unbroken =
    let ss = states_in m.top in
    let values = p.initial_values.items in
    let all : p.terms.names ≡ map state_entry ss ++ (map input_entry m.inputs ++ inside.wider.more) =
    inside.wider.names ∙ (ap (λ ns. ns ++ inside.wider.more) (grown.names ∙ names) ∙ append_assoc (map state_entry ss) (map input_entry m.inputs) inside.wider.more) in
    let many : length values ≡ length (map state_entry ss) = as_many ss values inits in
    let inputs : declared_inputs p.inputs (drop (length values) p.terms.names) ≡ m.inputs =
    ap (λ n. declared_inputs n (drop (length values) p.terms.names)) count
    ∙ (ap (λ ns. declared_inputs (length m.inputs) (drop (length values) ns)) all
    ∙ (ap (λ n. declared_inputs (length m.inputs) (drop n (map state_entry ss ++ (map input_entry m.inputs ++ inside.wider.more)))) many
    ∙ (ap (declared_inputs (length m.inputs)) (drop_front (map state_entry ss) (map input_entry m.inputs ++ inside.wider.more))
    ∙ inputs_read m.inputs inside.wider.more))) in
    model_is refl inputs (top_read g h p.terms t u v links p.children.items m.inputs m.top p.valid p.instructions.items values (map input_entry m.inputs ++ inside.wider.more) (all_right m unbroken) (not_too_deep m unbroken) table names grown put el inside inits all) where
      as_many : (ss : List StateDeclaration) (values : List (Option Value)) → map (option_map as_value) values ≡ map (λ s. s.init) ss → length values ≡ length (map state_entry ss)
      as_many [] [] e = refl
      as_many [] (x ∷ xs) e = cc
      as_many (s ∷ ss) [] e = cc
      as_many (s ∷ ss) (x ∷ xs) e =
          let behind : map (option_map as_value) xs ≡ map (λ y. y.init) ss = cc in
          omega (arith, as_many ss xs behind)

pub parts_model : (m : WrittenModel) (p : Parts) (n : Name) → ArePartsOf m p → broken_rule m ≡ None → n ≡ m.model_name → model_from n p ≡ file.model_of m
unfolding ArePartsOf
parts_model m p n a u e = ap (λ x. model_from x p) e ∙ a u
