-- The parts that were put of a model that no rule refuses are well sorted.
use Rattle.std.proofs.Common.{◌≡◌, ℕ, List, [], ◌++◌, length, map, Bor, Option, Some, None, option_map, sym, ap, ◌∙◌, subst, append_assoc}
use Rattle.std.specs.Prelude.{true, is_some, IfSome}
use Rattle.std.proofs.lemmas.Bool.{false≢true}
use Rattle.std.specs.BTreeMap.{BTreeMap}
use Rattle.model_meaning.specs.Model.{InputDeclaration}
use Rattle.model_files.specs.Written.{WrittenMachine, machine, WrittenModel, states_in}
use Rattle.model_files.specs.Scope.{MachineScope, with_inputs, with_states, with_definitions, with_fetch, scope_within}
use Rattle.wb_terms.specs.declared.nodes.TermId.{TermId}
use Rattle.wb_terms.specs.Environment.{as_value}
use Rattle.wb_terms.specs.Graph.{Graph, HasDistinctNames}
use Rattle.ila_model.specs.declared.parts.ChildId.{ChildId}
use Rattle.ila_model.specs.declared.parts.Parts.{Parts}
use Rattle.ila_model.specs.declared.sorting.SortedParts.{SortedParts}
use Rattle.ila_model.specs.Sorted.{are_placed, is_well_sorted}
use Rattle.ila_build.specs.Standing.{IsTable, IsGrown}
use Rattle.ila_build.specs.Declaring.{state_entry, input_entry}
use Rattle.ila_build.specs.Building.{IsMachinePut, IsMachine, own_instructions}
use Rattle.ila_build.specs.Inside.{links_from, AreChildrenPut}
use Rattle.ila_build.specs.Layout.{AreLaidPut, AreLaid}
use Rattle.ila_build.proofs.Chosen.{stand_moved}
use Rattle.ila_build.proofs.ChildLemmas.{places_from}
use Rattle.ila_build.proofs.InsideLemmas.{machine_right, machine_wider, stand_wider}
use Rattle.ila_whole.specs.Whole.{AreSortedParts, IsFit}
use Rattle.ila_whole.proofs.Reading.{knows_top, stand_top}
use Rattle.ila_whole.proofs.Top.{IsSound, well_sorted}
use Rattle.ila_whole.proofs.Sound.{sound}

sorted_from : (g h : Graph) (t u v : BTreeMap (Bor (List ℕ)) TermId) (links : List (Option ChildId)) (ins : List InputDeclaration) (w : WrittenMachine) (p : Parts)
    → IsSound ins w → IsTable g t → g.names ≡ map state_entry (states_in w) ++ map input_entry ins
    → IsGrown g h → IsMachinePut g t h u links w p.valid p.instructions.items → links ≡ links_from 0 (own_instructions w)
    → AreChildrenPut h u [] p.terms v p.children.items (own_instructions w) → AreLaidPut h u [] p.terms p.children.items None (own_instructions w)
    → p.inputs ≡ length ins → map (option_map as_value) p.initial_values.items ≡ map (λ s. s.init) (states_in w) → HasDistinctNames p.terms.names → is_well_sorted p ≡ true
unfolding IsMachinePut
sorted_from g h t u v links ins (machine ss ds f e is) p sound table names grown put el inside laid count inits distinct =
    let w = machine ss ds f e is in
    let outer : MachineScope = record { names = with_inputs [] ins; states = [] } in
    let parts = machine_right outer ss ds f e is sound.right in
    let at = stand_top g ss (map input_entry ins) names in
    let at' = stand_moved g h 0 (places_from 0 ss) ss grown.names at in
    let own = put (with_states outer.names ss) (places_from 0 ss) ss (knows_top g t ss ins table names) at parts.0 in
    let it : IsMachine p.terms (with_states outer.names ss) ss (links_from 0 is) w p.valid p.instructions.items = subst (λ ls. IsMachine p.terms (with_states outer.names ss) ss ls w p.valid p.instructions.items) el (machine_wider h p.terms (with_states outer.names ss) ss links w p.valid p.instructions.items inside.wider own.1) in
    let lie : AreLaid p.terms (scope_within outer ss ds) None 0 is laid.more = laid.laid (scope_within outer ss ds) (places_from 0 ss) (with_fetch (with_definitions (with_states outer.names ss) ds) f) own.0 at' parts.1 in
    let all : p.terms.names ≡ map state_entry ss ++ (map input_entry ins ++ inside.wider.more) =
    inside.wider.names ∙ (ap (λ ns. ns ++ inside.wider.more) (grown.names ∙ names) ∙ append_assoc (map state_entry ss) (map input_entry ins) inside.wider.more) in
    let size : length h.names ≡ length (map state_entry ss ++ map input_entry ins) = ap length (grown.names ∙ names) in
    let placed : are_placed (length (map state_entry ss ++ map input_entry ins)) (length p.terms.names) p.children.items ≡ true =
    subst (λ xs. are_placed (length (map state_entry ss ++ map input_entry ins)) (length p.terms.names) xs ≡ true) (sym laid.list) (subst (λ n. are_placed n (length p.terms.names) laid.more ≡ true) size laid.placed) in
    well_sorted p ins w (record {
      behind = inside.wider.more;
      names = all;
      inputs = count;
      values = inits;
      places = places_from 0 ss;
      stand = stand_wider h p.terms 0 (places_from 0 ss) ss inside.wider at';
      own = it;
      distinct = distinct;
      placed = placed;
    }) sound (subst (AreLaid p.terms (scope_within outer ss ds) None 0 is) (sym laid.list) lie)

pub parts_sorted : (g h : Graph) (t u v : BTreeMap (Bor (List ℕ)) TermId) (links : List (Option ChildId)) (m : WrittenModel) (p : Parts)
    → IsTable g t → g.names ≡ map state_entry (states_in m.top) ++ map input_entry m.inputs
    → IsGrown g h → IsMachinePut g t h u links m.top p.valid p.instructions.items → links ≡ links_from 0 (own_instructions m.top)
    → AreChildrenPut h u [] p.terms v p.children.items (own_instructions m.top) → AreLaidPut h u [] p.terms p.children.items None (own_instructions m.top)
    → p.inputs ≡ length m.inputs → map (option_map as_value) p.initial_values.items ≡ map (λ s. s.init) (states_in m.top) → HasDistinctNames p.terms.names → AreSortedParts m p
unfolding AreSortedParts
parts_sorted g h t u v links m p table names grown put el inside laid count inits distinct fit =
    sorted_from g h t u v links m.inputs m.top p (sound m fit.0 fit.1) table names grown put el inside laid count inits distinct

-- a model of sorted parts is there
pub never_none : (m : WrittenModel) (p : Parts) (o : Option SortedParts) → AreSortedParts m p → IsFit m → is_some o ≡ is_well_sorted p → o ≡ None → ⊥
unfolding AreSortedParts
never_none m p o a fit e n = false≢true (sym (ap is_some n) ∙ (e ∙ a fit))

pub of_some : (o : Option SortedParts) (m : SortedParts) (P : SortedParts → Type 0) → IfSome o P → o ≡ Some m → P m
of_some o m P h e = subst (λ x. IfSome x P) e h
