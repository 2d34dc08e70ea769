-- No put of a written model's parts is refused where no rule refuses the model.
use Rattle.std.proofs.Common.{◌≡◌, ℕ, true, false, List, [], ◌++◌, map, Bor, Option, None, sym, subst}
use Rattle.std.specs.BTreeMap.{BTreeMap}
use Rattle.model_meaning.specs.Model.{StateDeclaration, InputDeclaration}
use Rattle.model_files.specs.Written.{WrittenMachine, machine, WrittenModel, states_in}
use Rattle.model_meaning.specs.Among.{has_twice}
use Rattle.model_files.specs.Names.{all_data_names}
use Rattle.model_files.specs.Scope.{MachineScope, with_inputs, with_states, with_definitions, with_fetch, terms_in}
use Rattle.wb_terms.specs.declared.nodes.TermId.{TermId}
use Rattle.wb_terms.specs.declared.store.PutStop.{PutStop}
use Rattle.wb_terms.specs.Graph.{Graph}
use Rattle.ila_model.specs.declared.parts.Instruction.{Instruction}
use Rattle.ila_model.specs.declared.parts.ChildId.{ChildId}
use Rattle.ila_build.specs.Standing.{IsFresh, IsTable, IsGrown, under_name}
use Rattle.ila_build.specs.Knowing.{are_right, defined_names}
use Rattle.ila_build.specs.Declaring.{state_entry, input_entry}
use Rattle.ila_build.specs.Building.{IsMachinePut, definitions_in, own_instructions}
use Rattle.ila_build.specs.Refusing.{IsNoRefusal, IsBesides, IsMachineDue, AreBelowDue, entry_names, are_sorts, names_below}
use Rattle.ila_build.proofs.Chosen.{stand_moved}
use Rattle.ila_build.proofs.ChildLemmas.{places_from}
use Rattle.ila_build.proofs.Fresh.{unrefused_by, fresh_front, fresh_behind}
use Rattle.ila_build.proofs.InsideLemmas.{machine_right}
use Rattle.ila_whole.specs.Whole.{IsFit}
use Rattle.ila_whole.proofs.Reading.{knows_top, stand_top}
use Rattle.ila_whole.proofs.Top.{IsSound}
use Rattle.ila_whole.proofs.Sound.{sound, top_fit, top_sorts, names_apart}
use Rattle.ila_whole.proofs.FreshTop.{file_fresh, states_fresh, inputs_fresh, rest_fresh}

-- ---- the names of the top

pub states_unrefused : (t : BTreeMap (Bor (List ℕ)) TermId) (m : WrittenModel) (s : PutStop) (ss : List StateDeclaration) → ss ≡ states_in m.top → ((q : List ℕ) → under_name t q ≡ None)
    → IsNoRefusal s (IsFresh t (entry_names (map state_entry ss)) × (are_sorts (map state_entry ss) ≡ true)) → IsNoRefusal s (IsFit m)
states_unrefused t m s ss e empty n =
    unrefused_by _ (IsFit m) s
    (λ f. subst (λ x. IsFresh t (entry_names (map state_entry x)) × (are_sorts (map state_entry x) ≡ true)) (sym e)
    (states_fresh t (entry_names (map input_entry m.inputs)) (entry_names (map state_entry (states_in m.top))) (defined_names (definitions_in m.top) ++ names_below (own_instructions m.top)) (file_fresh t m empty (names_apart m f.0)), (top_sorts m f.0).0)) n

pub inputs_unrefused : (t u : BTreeMap (Bor (List ℕ)) TermId) (m : WrittenModel) (s : PutStop) (ss : List StateDeclaration) → ss ≡ states_in m.top → ((q : List ℕ) → under_name t q ≡ None) → IsBesides t u (entry_names (map state_entry ss))
    → IsNoRefusal s (IsFresh u (entry_names (map input_entry m.inputs)) × (are_sorts (map input_entry m.inputs) ≡ true)) → IsNoRefusal s (IsFit m)
inputs_unrefused t u m s ss e empty b n =
    unrefused_by _ (IsFit m) s
    (λ f. (inputs_fresh t u (entry_names (map input_entry m.inputs)) (entry_names (map state_entry (states_in m.top))) (defined_names (definitions_in m.top) ++ names_below (own_instructions m.top)) (file_fresh t m empty (names_apart m f.0)) (subst (λ x. IsBesides t u (entry_names (map state_entry x))) e b), (top_sorts m f.0).1)) n

pub declared_fresh : (t u v : BTreeMap (Bor (List ℕ)) TermId) (m : WrittenModel) (ss : List StateDeclaration) → ss ≡ states_in m.top → ((q : List ℕ) → under_name t q ≡ None) → IsBesides t u (entry_names (map state_entry ss)) → IsBesides u v (entry_names (map input_entry m.inputs))
    → has_twice (all_data_names m) ≡ false → IsFresh v (defined_names (definitions_in m.top) ++ names_below (own_instructions m.top))
declared_fresh t u v m ss e empty b c h =
    rest_fresh t u v (entry_names (map input_entry m.inputs)) (entry_names (map state_entry (states_in m.top))) (defined_names (definitions_in m.top) ++ names_below (own_instructions m.top)) (file_fresh t m empty h) (subst (λ x. IsBesides t u (entry_names (map state_entry x))) e b) c

-- ---- the machine, and the children

own_due : (g : Graph) (t : BTreeMap (Bor (List ℕ)) TermId) (ins : List InputDeclaration) (w : WrittenMachine) → are_right (terms_in (record { names = with_inputs [] ins; states = [] }) w) ≡ true → IsTable g t → g.names ≡ map state_entry (states_in w) ++ map input_entry ins
    → IsFresh t (defined_names (definitions_in w)) → IsMachineDue g t w
own_due g t ins (machine ss ds f v is) right table names fresh = (
  record {
    names = with_states (with_inputs [] ins) ss;
    places = places_from 0 ss;
    states = ss;
    knows = knows_top g t ss ins table names;
    stand = stand_top g ss (map input_entry ins) names;
    is_right = (machine_right (record { names = with_inputs [] ins; states = [] }) ss ds f v is right).0;
  },
  fresh,
)

pub machine_unrefused : (g : Graph) (t : BTreeMap (Bor (List ℕ)) TermId) (m : WrittenModel) (s : PutStop) → IsTable g t → g.names ≡ map state_entry (states_in m.top) ++ map input_entry m.inputs
    → (has_twice (all_data_names m) ≡ false → IsFresh t (defined_names (definitions_in m.top) ++ names_below (own_instructions m.top))) → IsNoRefusal s (IsMachineDue g t m.top) → IsNoRefusal s (IsFit m)
machine_unrefused g t m s table names fresh n =
    unrefused_by _ (IsFit m) s
    (λ f. own_due g t m.inputs m.top (sound m f.0 f.1).right table names (fresh_front t (defined_names (definitions_in m.top)) (names_below (own_instructions m.top)) (fresh (names_apart m f.0)))) n

below_due : (g h : Graph) (t u : BTreeMap (Bor (List ℕ)) TermId) (links : List (Option ChildId)) (ins : List InputDeclaration) (w : WrittenMachine) (valid : TermId) (xs : List Instruction)
    → IsSound ins w → IsTable g t → g.names ≡ map state_entry (states_in w) ++ map input_entry ins → IsGrown g h → IsMachinePut g t h u links w valid xs → IsFresh u (names_below (own_instructions w)) → AreBelowDue h u (own_instructions w)
unfolding IsMachinePut
below_due g h t u links ins (machine ss ds f v is) valid xs sound table names grown put fresh =
    let outer : MachineScope = record { names = with_inputs [] ins; states = [] } in
    let parts = machine_right outer ss ds f v is sound.right in
    let at = stand_top g ss (map input_entry ins) names in
    let own = put (with_states outer.names ss) (places_from 0 ss) ss (knows_top g t ss ins table names) at parts.0 in
    record {
      due = record {
        names = with_definitions (with_states outer.names ss) ds;
        places = places_from 0 ss;
        states = ss;
        knows = own.0;
        stand = stand_moved g h 0 (places_from 0 ss) ss grown.names at;
        is_right = (with_fetch (with_definitions (with_states outer.names ss) ds) f, parts.1);
      };
      fresh = fresh;
      fit = top_fit ins (machine ss ds f v is) sound;
    }

pub children_unrefused : (g h : Graph) (t u : BTreeMap (Bor (List ℕ)) TermId) (links : List (Option ChildId)) (m : WrittenModel) (valid : TermId) (xs : List Instruction) (s : PutStop)
    → IsTable g t → g.names ≡ map state_entry (states_in m.top) ++ map input_entry m.inputs
    → (has_twice (all_data_names m) ≡ false → IsFresh t (defined_names (definitions_in m.top) ++ names_below (own_instructions m.top)))
    → IsGrown g h → IsMachinePut g t h u links m.top valid xs → IsBesides t u (defined_names (definitions_in m.top)) → IsNoRefusal s (AreBelowDue h u (own_instructions m.top)) → IsNoRefusal s (IsFit m)
children_unrefused g h t u links m valid xs s table names fresh grown put besides n =
    unrefused_by _ (IsFit m) s
    (λ f. below_due g h t u links m.inputs m.top valid xs (sound m f.0 f.1) table names grown put (fresh_behind t u (defined_names (definitions_in m.top)) (names_below (own_instructions m.top)) (fresh (names_apart m f.0)) besides)) n
