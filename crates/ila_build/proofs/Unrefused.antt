-- Calls whose terms are right in some scope are not refused.
use Rattle.std.proofs.Common.{◌≡◌, ℕ, true, false, not, ◌||◌, List, ◌∷◌, Bor, Option, Some, None, refl, sym, ap, ◌∙◌, subst}
use Rattle.std.specs.Prelude.{is_none, Ok, Err}
use Rattle.std.specs.BTreeMap.{BTreeMap}
use Rattle.std.proofs.lemmas.Bool.{false≢true, and_parts}
use Rattle.wb_values.specs.Value.{Name, Sort, Entries}
use Rattle.model_meaning.specs.Model.{StateDeclaration, state_named}
use Rattle.model_files.specs.Written.{WrittenTerm, WrittenInstruction, WrittenInstructions, and_then, WrittenMachine}
use Rattle.model_files.specs.Scope.{Visible, TermPlace, of_condition, of_update, placed, declared, with_definitions, with_fetch, placed_definitions, placed_fetch, placed_updates}
use Rattle.model_files.specs.Rules.{uses_unknown_name, updates_no_state}
use Rattle.wb_terms.specs.declared.nodes.TermId.{TermId}
use Rattle.wb_terms.specs.declared.store.PutStop.{PutStop}
use Rattle.wb_terms.specs.declared.store.PutStop.TheVariants.{BadSort, NoMemory}
use Rattle.wb_terms.specs.Graph.{Graph}
use Rattle.ila_model.specs.declared.parts.Instruction.{Instruction}
use Rattle.ila_model.specs.declared.parts.ChildId.{ChildId}
use Rattle.ila_build.specs.Standing.{IsFresh, IsTable, IsGrown, IsPut, StandsFor, under_name, seen, seen_by, term_by}
use Rattle.ila_build.specs.Knowing.{Knows, is_right, are_right, AreDefined, defined_names}
use Rattle.ila_build.specs.Building.{AreOwnRight, IsMachineRight, IsFetched, own_terms, definitions_in, fetch_in, valid_in, own_instructions, names_in}
use Rattle.ila_build.specs.Refusing.{IsNoRefusal, IsDue, IsMachineDue, is_leaf}
use Rattle.ila_build.proofs.Growing.{same, wider}
use Rattle.ila_build.proofs.Sorting.{or_parts}
use Rattle.ila_build.proofs.Definitions.{right_put, knows_grown, first_right, not_true}
use Rattle.ila_build.proofs.Chosen.{AreToChoose, named_at, stand_at, stand_moved}
use Rattle.ila_build.proofs.InstructionLemmas.{AreToPut}
use Rattle.ila_build.proofs.Fresh.{unrefused_by}

-- what is due in a store is due in one that has grown
pub due_grown : (g h : Graph) (t : BTreeMap (Bor (List ℕ)) TermId) (f : Option TermId) (R S : Entries Visible → List StateDeclaration → Type 0)
    → IsGrown g h → ((names : Entries Visible) (ss : List StateDeclaration) → R names ss → S names ss) → IsDue g t f R → IsDue h t f S
due_grown g h t f R S b to d = record {
  names = d.names;
  places = d.places;
  states = d.states;
  knows = knows_grown g h t f d.names (wider b) d.knows;
  stand = stand_moved g h 0 d.places d.states b.names d.stand;
  is_right = to d.names d.states d.is_right;
}

-- a term that is right is not refused
pub term_lost : (g h : Graph) (t : BTreeMap (Bor (List ℕ)) TermId) (f : Option TermId) (e : WrittenTerm) (p : List StateDeclaration → TermPlace) (R : Entries Visible → List StateDeclaration → Type 0) (s : PutStop)
    → ((names : Entries Visible) (ss : List StateDeclaration) → R names ss → is_right (placed names e (p ss)) ≡ true) → IsPut g h (Err s) (term_by (seen_by g t f) e) → IsNoRefusal s (IsDue g t f R)
term_lost g h t f e p R BadSort pick put = λ d. right_put g h t f d.names e (p d.states) (Err BadSort) d.knows (pick d.names d.states d.is_right) put
term_lost g h t f e p R NoMemory pick put = tt

-- ---- updates

leaf_seen : (g : Graph) (n : Name) (s : Sort) (o : Option TermId) → StandsFor g (declared n s) o → is_leaf (seen g o) ≡ true
leaf_seen g n s None a = absurd a
leaf_seen g n s (Some id) a = ap is_leaf a.1

-- an update of a visible state is of a name that stands for itself
pub no_leaf : (g : Graph) (t : BTreeMap (Bor (List ℕ)) TermId) (f : Option TermId) (u : Name × WrittenTerm) → IsTable g t → is_leaf (seen g (under_name t u.0)) ≡ false
    → IsDue g t f (λ names ss. is_right (placed names u.1 (of_update u.0 (state_named ss u.0))) ≡ true) → ⊥
unfolding IsTable is_right
no_leaf g t f u a e d =
    let parts = and_parts (not (uses_unknown_name d.names u.1 || updates_no_state (of_update u.0 (state_named d.states u.0)))) _ d.is_right in
    let known = or_parts (uses_unknown_name d.names u.1) (is_none (state_named d.states u.0)) (not_true _ parts.0) in
    let p = named_at g 0 d.places d.states u.0 d.stand known.1 in
    let there = subst (λ (x : Name × Sort). StandsFor g (declared x.0 x.1) (under_name t x.0)) p.entry (stand_at g t g.names p.place a.1 p.within) in
    false≢true (sym e ∙ leaf_seen g u.0 p.sort (under_name t u.0) there)

pub updates_lost : (g h : Graph) (t : BTreeMap (Bor (List ℕ)) TermId) (f : Option TermId) (m : BTreeMap ℕ TermId) (u : Name × WrittenTerm) (now rest us : Entries WrittenTerm) (s : PutStop)
    → now ≡ u ∷ rest → IsGrown g h → AreToChoose g t f h m now us
    → IsNoRefusal s (IsDue h t f (λ names ss. is_right (placed names u.1 (of_update u.0 (state_named ss u.0))) ≡ true))
    → IsNoRefusal s (IsDue g t f (λ names ss. are_right (placed_updates names ss us) ≡ true))
unfolding AreToChoose
updates_lost g h t f m u now rest us s cut b a n =
    unrefused_by _ (IsDue g t f (λ names ss. are_right (placed_updates names ss us) ≡ true)) s
    (λ d. record {
      names = d.names;
      places = d.places;
      states = d.states;
      knows = knows_grown g h t f d.names (wider b) d.knows;
      stand = stand_moved g h 0 d.places d.states b.names d.stand;
      is_right = (first_right (placed d.names u.1 (of_update u.0 (state_named d.states u.0))) (placed_updates d.names d.states rest) (subst (λ us. are_right (placed_updates d.names d.states us) ≡ true) cut (a d.names d.places d.states d.knows d.stand d.is_right).1)).0;
    }) n

-- ---- instructions

pub instructions_lost : (g h : Graph) (t : BTreeMap (Bor (List ℕ)) TermId) (f : Option TermId) (links : List (Option ChildId)) (put : List Instruction) (i : ℕ) (w : WrittenInstruction) (now rest all : WrittenInstructions) (s : PutStop)
    → now ≡ and_then w rest → IsGrown g h → AreToPut g t f h links put i now all
    → IsNoRefusal s (IsDue h t f (λ names ss. are_right (own_terms names ss w) ≡ true))
    → IsNoRefusal s (IsDue g t f (λ names ss. AreOwnRight names ss all))
unfolding AreToPut
instructions_lost g h t f links put i w now rest all s cut b a n =
    unrefused_by _ (IsDue g t f (λ names ss. AreOwnRight names ss all)) s
    (λ d. record {
      names = d.names;
      places = d.places;
      states = d.states;
      knows = knows_grown g h t f d.names (wider b) d.knows;
      stand = stand_moved g h 0 d.places d.states b.names d.stand;
      is_right = (subst (AreOwnRight d.names d.states) cut (a d.names d.places d.states d.knows d.stand d.is_right).0).0;
    }) n

-- ---- machines

pub definitions_lost : (g h : Graph) (t u : BTreeMap (Bor (List ℕ)) TermId) (ds : Entries WrittenTerm) (m : WrittenMachine) (s : PutStop) → ds ≡ definitions_in m → AreDefined g t h u (Err s) ds
    → IsNoRefusal s (IsDue g t None (λ names ss. IsMachineRight names ss m) × IsFresh t (defined_names (definitions_in m)))
unfolding AreDefined
definitions_lost g h t u ds m BadSort e a = λ q. a q.0.names q.0.knows (subst (λ x. are_right (placed_definitions q.0.names x) ≡ true) (sym e) q.0.is_right.definitions) (subst (λ x. IsFresh t (defined_names x)) (sym e) q.1)
definitions_lost g h t u ds m NoMemory e a = tt

-- behind the definitions of a machine
pub defined_due : (g h : Graph) (t u : BTreeMap (Bor (List ℕ)) TermId) (ds : Entries WrittenTerm) (m : WrittenMachine) → ds ≡ definitions_in m → IsGrown g h → AreDefined g t h u (Ok tt) ds
    → IsDue g t None (λ names ss. IsMachineRight names ss m) → IsDue h u None (λ names ss. (before : Entries Visible) × (names ≡ with_definitions before (definitions_in m)) × IsMachineRight before ss m)
unfolding AreDefined
defined_due g h t u ds m e b a d = record {
  names = with_definitions d.names (definitions_in m);
  places = d.places;
  states = d.states;
  knows = subst (λ x. Knows h u None (with_definitions d.names x)) e (a d.names d.knows (subst (λ x. are_right (placed_definitions d.names x) ≡ true) (sym e) d.is_right.definitions));
  stand = stand_moved g h 0 d.places d.states b.names d.stand;
  is_right = (d.names, refl, d.is_right);
}

-- and with its fetch
pub fetched_due : (g h : Graph) (t : BTreeMap (Bor (List ℕ)) TermId) (w : Option WrittenTerm) (f : Option TermId) (m : WrittenMachine) → w ≡ fetch_in m → IsGrown g h → IsFetched g t h w f
    → IsDue g t None (λ names ss. (before : Entries Visible) × (names ≡ with_definitions before (definitions_in m)) × IsMachineRight before ss m)
    → IsDue h t f (λ names ss. (before : Entries Visible) × (names ≡ names_in before m) × IsMachineRight before ss m)
unfolding IsFetched
fetched_due g h t w f m e b a d =
    let before = d.is_right.0 in
    let fetch : are_right (placed_fetch d.names w) ≡ true = subst (λ ns. are_right (placed_fetch ns w) ≡ true) (sym d.is_right.1) (subst (λ x. are_right (placed_fetch (with_definitions before (definitions_in m)) x) ≡ true) (sym e) d.is_right.2.fetch) in
    record {
      names = with_fetch d.names w;
      places = d.places;
      states = d.states;
      knows = a d.names d.knows fetch;
      stand = stand_moved g h 0 d.places d.states b.names d.stand;
      is_right = (before, ap (λ ns. with_fetch ns w) d.is_right.1 ∙ ap (with_fetch (with_definitions before (definitions_in m))) e, d.is_right.2);
    }

abbrev IsFetchedRight : WrittenMachine → Entries Visible → List StateDeclaration → Type 0
IsFetchedRight m names ss = (before : Entries Visible) × (names ≡ names_in before m) × IsMachineRight before ss m

pub fetch_lost : (g h : Graph) (t u : BTreeMap (Bor (List ℕ)) TermId) (ds : Entries WrittenTerm) (w : Option WrittenTerm) (m : WrittenMachine) (s : PutStop)
    → ds ≡ definitions_in m → w ≡ fetch_in m → IsGrown g h → AreDefined g t h u (Ok tt) ds
    → IsNoRefusal s (IsDue h u None (λ names ss. are_right (placed_fetch names w) ≡ true)) → IsNoRefusal s (IsMachineDue g t m)
fetch_lost g h t u ds w m s ed ew b a n =
    unrefused_by _ (IsMachineDue g t m) s
    (λ q. due_grown h h u None _ (λ names ss. are_right (placed_fetch names w) ≡ true) (same h)
    (λ names ss r. subst (λ ns. are_right (placed_fetch ns w) ≡ true) (sym r.1) (subst (λ x. are_right (placed_fetch (with_definitions r.0 (definitions_in m)) x) ≡ true) (sym ew) r.2.fetch)) (defined_due g h t u ds m ed b a q.0)) n

-- what is due behind the fetch
machine_fetched : (g h k : Graph) (t u : BTreeMap (Bor (List ℕ)) TermId) (ds : Entries WrittenTerm) (w : Option WrittenTerm) (f : Option TermId) (m : WrittenMachine)
    → ds ≡ definitions_in m → w ≡ fetch_in m → IsGrown g h → AreDefined g t h u (Ok tt) ds → IsGrown h k → IsFetched h u k w f → IsMachineDue g t m → IsDue k u f (IsFetchedRight m)
machine_fetched g h k t u ds w f m ed ew b a d e q = fetched_due h k u w f m ew d e (defined_due g h t u ds m ed b a q.0)

pub valid_lost : (g h k l : Graph) (t u : BTreeMap (Bor (List ℕ)) TermId) (ds : Entries WrittenTerm) (w : Option WrittenTerm) (v : WrittenTerm) (f : Option TermId) (m : WrittenMachine) (s : PutStop)
    → ds ≡ definitions_in m → w ≡ fetch_in m → v ≡ valid_in m → IsGrown g h → AreDefined g t h u (Ok tt) ds → IsGrown h k → IsFetched h u k w f
    → IsPut k l (Err s) (term_by (seen_by k u f) v) → IsNoRefusal s (IsMachineDue g t m)
valid_lost g h k l t u ds w v f m s ed ew ev b a d e put =
    unrefused_by _ (IsMachineDue g t m) s (machine_fetched g h k t u ds w f m ed ew b a d e)
    (term_lost k l u f v (λ ss. of_condition) (IsFetchedRight m) s
    (λ names ss r. subst (λ ns. is_right (placed ns v of_condition) ≡ true) (sym r.1) (subst (λ x. is_right (placed (names_in r.0 m) x of_condition) ≡ true) (sym ev) r.2.valid)) put)

pub own_lost : (g h k l : Graph) (t u : BTreeMap (Bor (List ℕ)) TermId) (ds : Entries WrittenTerm) (w : Option WrittenTerm) (is : WrittenInstructions) (f : Option TermId) (m : WrittenMachine) (s : PutStop)
    → ds ≡ definitions_in m → w ≡ fetch_in m → is ≡ own_instructions m → IsGrown g h → AreDefined g t h u (Ok tt) ds → IsGrown h k → IsFetched h u k w f → IsGrown k l
    → IsNoRefusal s (IsDue l u f (λ names ss. AreOwnRight names ss is)) → IsNoRefusal s (IsMachineDue g t m)
own_lost g h k l t u ds w is f m s ed ew ei b a d e c n =
    unrefused_by _ (IsMachineDue g t m) s
    (λ q. due_grown k l u f (IsFetchedRight m) (λ names ss. AreOwnRight names ss is) c
    (λ names ss r. subst (λ ns. AreOwnRight ns ss is) (sym r.1) (subst (AreOwnRight (names_in r.0 m) ss) (sym ei) r.2.instructions)) (machine_fetched g h k t u ds w f m ed ew b a d e q)) n
