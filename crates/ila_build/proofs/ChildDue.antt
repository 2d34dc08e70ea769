-- Child programs that are right in some scope, with new names, are not refused.
use Rattle.std.proofs.Common.{◌≡◌, ℕ, true, List, [], ◌∷◌, ◌++◌, map, length, Bor, Option, refl, sym, ap, ◌∙◌, subst, arith, append_assoc}
use Rattle.std.specs.BTreeMap.{BTreeMap}
use Rattle.model_meaning.specs.Model.{StateDeclaration}
use Rattle.model_files.specs.Written.{WrittenInstruction, instruction, WrittenInstructions, and_then, WrittenMachine, machine, WrittenChild, no_child, child, states_in, machines_below, machines_of_child}
use Rattle.model_files.specs.Names.{data_names, joined}
use Rattle.model_files.specs.Scope.{MachineScope, with_states, with_definitions, with_fetch, terms_below}
use Rattle.wb_terms.specs.declared.nodes.TermId.{TermId}
use Rattle.wb_terms.specs.declared.store.PutStop.{PutStop}
use Rattle.wb_terms.specs.Graph.{Graph}
use Rattle.ila_model.specs.declared.parts.Child.{Child}
use Rattle.ila_model.specs.declared.parts.ChildId.{ChildId}
use Rattle.ila_build.specs.Standing.{IsFresh, IsTable, IsKept, IsWider}
use Rattle.ila_build.specs.Knowing.{are_right, defined_names}
use Rattle.ila_build.specs.Declaring.{state_entry}
use Rattle.ila_build.specs.Building.{IsMachineRight, IsInside, IsChildPut, definitions_in, own_instructions}
use Rattle.ila_build.specs.Inside.{program_in}
use Rattle.ila_build.specs.Refusing.{IsNoRefusal, IsBesides, IsMachineDue, IsChildDue, AreBelowDue, IsProgramDue, AreFitBelow, IsFitChild, entry_names, are_sorts, names_below, names_of_child}
use Rattle.ila_build.proofs.Definitions.{knows_kept}
use Rattle.ila_build.proofs.Fresh.{unrefused_by, fresh_front, fresh_behind, IsBringing, bring_turn}
use Rattle.ila_build.proofs.ChildLemmas.{knows_states, declared_last, places_from, stand_more}
use Rattle.ila_build.proofs.InsideLemmas.{AreToPutInside, machine_right, next_right, stand_wider}

-- ---- names

state_names : (ss : List StateDeclaration) → entry_names (map state_entry ss) ≡ map (λ s. s.state_name) ss
state_names [] = refl
state_names (s ∷ ss) = ap (λ ns. s.state_name ∷ ns) (state_names ss)

pub data_names_are : (m : WrittenMachine) → data_names m ≡ entry_names (map state_entry (states_in m)) ++ defined_names (definitions_in m)
data_names_are (machine ss ds f v is) = ap (λ ns. ns ++ defined_names ds) (sym (state_names ss))

pub joined-append : (xs ys : List WrittenMachine) → joined (map data_names (xs ++ ys)) ≡ joined (map data_names xs) ++ joined (map data_names ys)
joined-append [] ys = refl
joined-append (x ∷ xs) ys = ap (λ ns. data_names x ++ ns) (joined-append xs ys) ∙ sym (append_assoc (data_names x) (joined (map data_names xs)) (joined (map data_names ys)))

pub first_names : (i : WrittenInstruction) (is : WrittenInstructions) → names_below (and_then i is) ≡ names_of_child (program_in i) ++ names_below is
first_names (instruction n d u p) is = joined-append (machines_of_child p) (machines_below is)

pub program_names : (steps : ℕ) (m : WrittenMachine) → names_of_child (child steps m) ≡ data_names m ++ names_below (own_instructions m)
program_names steps (machine ss ds f v is) = refl

pub first_fit : (i : WrittenInstruction) (is : WrittenInstructions) → AreFitBelow (and_then i is) → IsFitChild (program_in i) × AreFitBelow is
first_fit (instruction n d u p) is f = f

-- ---- a child program itself

own_names : (t : BTreeMap (Bor (List ℕ)) TermId) (ss : List StateDeclaration) (w : WrittenMachine) → ss ≡ states_in w → IsFresh t (data_names w) → IsFresh t (entry_names (map state_entry ss) ++ defined_names (definitions_in w))
own_names t ss w e f = subst (IsFresh t) (data_names_are w ∙ ap (λ x. entry_names (map state_entry x) ++ defined_names (definitions_in w)) (sym e)) f

pub states_lost : (g : Graph) (t : BTreeMap (Bor (List ℕ)) TermId) (steps : ℕ) (ss : List StateDeclaration) (w : WrittenMachine) (s : PutStop) → ss ≡ states_in w
    → IsNoRefusal s (IsFresh t (entry_names (map state_entry ss)) × (are_sorts (map state_entry ss) ≡ true)) → IsNoRefusal s (IsChildDue g t steps w)
states_lost g t steps ss w s e n =
    unrefused_by _ (IsChildDue g t steps w) s
    (λ d. (fresh_front t (entry_names (map state_entry ss)) (defined_names (definitions_in w)) (own_names t ss w e d.fresh), subst (λ x. are_sorts (map state_entry x) ≡ true) (sym e) d.fit.sorts)) n

pub machine_lost : (g m : Graph) (t r : BTreeMap (Bor (List ℕ)) TermId) (steps : ℕ) (ss : List StateDeclaration) (w : WrittenMachine) (s : PutStop)
    → ss ≡ states_in w → IsWider g m → m.names ≡ g.names ++ map state_entry ss → IsKept t r → IsTable m r → IsBesides t r (entry_names (map state_entry ss))
    → IsNoRefusal s (IsMachineDue m r w) → IsNoRefusal s (IsChildDue g t steps w)
machine_lost g m t r steps ss w s e wide ns keep table besides n =
    unrefused_by _ (IsChildDue g t steps w) s
    (λ d. (
      record {
        names = with_states d.due.names ss;
        places = d.due.places ++ places_from (length g.names) ss;
        states = d.due.states ++ ss;
        knows = knows_states m r d.due.names ss (knows_kept g m t r d.due.names wide keep d.due.knows) (declared_last m r g.names ss table ns);
        stand = stand_more g m 0 d.due.places d.due.states ss (omega arith) ns d.due.stand;
        is_right = subst (λ x. IsMachineRight (with_states d.due.names x) (d.due.states ++ x) w) (sym e) d.due.is_right;
      },
      fresh_behind t r (entry_names (map state_entry ss)) (defined_names (definitions_in w)) (own_names t ss w e d.fresh) besides,
    )) n

-- ---- with those inside it

pub own_child_lost : (g : Graph) (t : BTreeMap (Bor (List ℕ)) TermId) (steps : ℕ) (w : WrittenMachine) (s : PutStop) → IsNoRefusal s (IsChildDue g t steps w) → IsNoRefusal s (IsProgramDue g t (child steps w))
own_child_lost g t steps (machine ss ds f v is) s n =
    unrefused_by _ (IsProgramDue g t (child steps (machine ss ds f v is))) s
    (λ d. record {
      due = record {
        names = d.due.names;
        places = d.due.places;
        states = d.due.states;
        knows = d.due.knows;
        stand = d.due.stand;
        is_right = (machine_right (record { names = d.due.names; states = d.due.states }) ss ds f v is d.due.is_right).0;
      };
      fresh = fresh_front t (data_names (machine ss ds f v is)) (names_below is) d.fresh;
      fit = d.fit.0;
    }) n

pub below_lost : (g h : Graph) (t r : BTreeMap (Bor (List ℕ)) TermId) (links : List (Option ChildId)) (steps : ℕ) (w : WrittenMachine) (c : Child) (s : PutStop)
    → IsChildPut g t h r links w c → IsBesides t r (data_names w) → IsNoRefusal s (AreBelowDue h r (own_instructions w)) → IsNoRefusal s (IsProgramDue g t (child steps w))
unfolding IsChildPut
below_lost g h t r links steps (machine ss ds f v is) c s put besides n =
    unrefused_by _ (IsProgramDue g t (child steps (machine ss ds f v is))) s
    (λ d.
    let parts = machine_right (record { names = d.due.names; states = d.due.states }) ss ds f v is d.due.is_right in
    let it : IsInside h r links (machine ss ds f v is) c (with_states d.due.names ss) (d.due.states ++ ss) = put.1 d.due.names d.due.places d.due.states d.due.knows d.due.stand parts.0 in
    record {
      due = record {
        names = with_definitions (with_states d.due.names ss) ds;
        places = it.places;
        states = d.due.states ++ ss;
        knows = it.known;
        stand = it.states;
        is_right = (with_fetch (with_definitions (with_states d.due.names ss) ds) f, parts.1);
      };
      fresh = fresh_behind t r (data_names (machine ss ds f v is)) (names_below is) d.fresh besides;
      fit = d.fit.1;
    }) n

-- ---- the loop over instructions

pub below_turn : (t u v : BTreeMap (Bor (List ℕ)) TermId) (i : WrittenInstruction) (now rest all : WrittenInstructions) → now ≡ and_then i rest → IsBringing t u (names_below now) (names_below all) → IsBesides u v (names_of_child (program_in i)) → IsBringing t v (names_below rest) (names_below all)
below_turn t u v i now rest all cut a b =
    bring_turn t u v (names_of_child (program_in i)) (names_below rest) (names_below all) (subst (λ ns. IsBringing t u ns (names_below all)) (ap names_below cut ∙ first_names i rest) a) b

pub fit_turn : (i : WrittenInstruction) (now rest all : WrittenInstructions) → now ≡ and_then i rest → (AreFitBelow all → AreFitBelow now) → AreFitBelow all → AreFitBelow rest
fit_turn i now rest all cut a f = (first_fit i rest (subst AreFitBelow cut (a f))).1

pub child_lost : (g h : Graph) (t u : BTreeMap (Bor (List ℕ)) TermId) (cs ds : List Child) (i : WrittenInstruction) (now rest all : WrittenInstructions) (s : PutStop)
    → now ≡ and_then i rest → AreToPutInside g t cs h u ds now all → IsBringing t u (names_below now) (names_below all) → (AreFitBelow all → AreFitBelow now)
    → IsNoRefusal s (IsProgramDue h u (program_in i)) → IsNoRefusal s (AreBelowDue g t all)
child_lost g h t u cs ds i now rest all s cut a b c n =
    unrefused_by _ (AreBelowDue g t all) s
    (λ d.
    let scope : MachineScope = record { names = d.due.names; states = d.due.states } in
    let at = a.stand scope d.due.places d.due.is_right.0 d.due.knows d.due.stand d.due.is_right.1 in
    record {
      due = record {
        names = d.due.names;
        places = d.due.places;
        states = d.due.states;
        knows = knows_kept g h t u d.due.names a.wider a.kept d.due.knows;
        stand = stand_wider g h 0 d.due.places d.due.states a.wider d.due.stand;
        is_right = (next_right scope d.due.is_right.0 i rest (subst (λ is. are_right (terms_below scope d.due.is_right.0 is) ≡ true) cut at.0)).0;
      };
      fresh = fresh_front u (names_of_child (program_in i)) (names_below rest) (subst (IsFresh u) (ap names_below cut ∙ first_names i rest) (b.fresh d.fresh));
      fit = (first_fit i rest (subst AreFitBelow cut (c d.fit))).0;
    }) n
