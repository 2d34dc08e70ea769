-- Updates by ascending states: what was chosen for each state, and the list of it.
use Rattle.std.specs.Prelude.{ℕ, suc, ◌<◌, ◌≤◌, ◌≡◌, true, List, [], ◌∷◌, length, ⊤, Option, Some, None, slice_index_or}
use Rattle.std.specs.Borrow.{Bor}
use Rattle.std.specs.Ordering.{nat_cmp}
use Rattle.std.specs.BTreeMap.{BTreeMap, get_by}
use Rattle.wb_values.specs.Value.{Name, Sort, truth, Entries, entry_of}
use Rattle.model_meaning.specs.Term.{Term}
use Rattle.model_meaning.specs.Model.{StateDeclaration, state_named}
use Rattle.model_files.specs.Written.{WrittenTerm}
use Rattle.model_files.specs.Scope.{Visible, of_update, placed, term_of, placed_updates}
use Rattle.model_files.specs.Meaning.{updates_for_states}
use Rattle.wb_terms.specs.declared.nodes.NameId.{NameId}
use Rattle.wb_terms.specs.declared.nodes.TermId.{TermId}
use Rattle.wb_terms.specs.Graph.{Graph, tree, leaf_at}
use Rattle.ila_build.specs.Knowing.{Knows, is_right, are_right}

-- the name and the sort at a place of the table
abbrev pub entry_at : Entries Sort → ℕ → Name × Sort
entry_at ns k = slice_index_or ns k ([], truth)

-- the term that was chosen for a state
abbrev pub chosen : BTreeMap ℕ TermId → ℕ → Option TermId
chosen m k = get_by (nat_cmp k) m

-- A declared name whose term a name stands for.
abbrev pub IsLeafOf : Graph → NameId → Option TermId → Type 0
IsLeafOf g i None = ⊥
IsLeafOf g i (Some id) = (i.0 < length g.names) × (tree g id.0 ≡ leaf_at g.names i.0)

-- The states stand at these places of the table, which ascend from a place on.
abbrev pub StandAt : Graph → (from : ℕ) → List ℕ → List StateDeclaration → Type 0
StandAt g from [] [] = ⊤
StandAt g from [] (s ∷ ss) = ⊥
StandAt g from (k ∷ ks) [] = ⊥
StandAt g from (k ∷ ks) (s ∷ ss) = (from ≤ k) × (k < length g.names) × (entry_at g.names k ≡ (s.state_name, s.sort)) × StandAt g (suc k) ks ss

-- The updates are those of a list by names and trees.
abbrev pub AreUpdates : Graph → List (ℕ × TermId) → Entries Term → Type 0
AreUpdates g [] [] = ⊤
AreUpdates g [] (t ∷ ts) = ⊥
AreUpdates g (u ∷ us) [] = ⊥
AreUpdates g (u ∷ us) (t ∷ ts) = (u.0 < length g.names) × (u.1.0 < length g.nodes) × ((entry_at g.names u.0).0 ≡ t.0) × (tree g u.1.0 ≡ t.1) × AreUpdates g us ts

-- What was chosen for the state at a place: nothing, and its update is still to come, if there is one; or the update's term.
abbrev pub IsChosen : Entries Sort → Graph → Entries Visible → (all rest : Entries WrittenTerm) → ℕ → Option TermId → Type 0
IsChosen ns g names us rest k None = k < length ns → entry_of us (entry_at ns k).0 ≡ entry_of rest (entry_at ns k).0
IsChosen ns g names us rest k (Some id) = (k < length ns) × (id.0 < length g.nodes) × ((e : WrittenTerm) × (entry_of us (entry_at ns k).0 ≡ Some e) × (tree g id.0 ≡ term_of names e))

unfoldable pub AreChosen : Entries Sort → Graph → Entries Visible → (all rest : Entries WrittenTerm) → BTreeMap ℕ TermId → Type 0
AreChosen ns g names us rest m = (k : ℕ) → IsChosen ns g names us rest k (chosen m k)

-- One more update was chosen, of a state by its name.
unfoldable pub ChoosesOne : Graph → BTreeMap (Bor (List ℕ)) TermId → Option TermId → Graph → (before behind : BTreeMap ℕ TermId) → Name × WrittenTerm → Type 0
ChoosesOne g t f h m w u = (names : Entries Visible) (ks : List ℕ) (ss : List StateDeclaration) (us rest : Entries WrittenTerm)
    → Knows g t f names → StandAt g 0 ks ss → is_right (placed names u.1 (of_update u.0 (state_named ss u.0))) ≡ true
    → AreChosen g.names g names us (u ∷ rest) m → AreChosen g.names h names us rest w

-- Where no rule refuses the updates, the list has those of the states in their order.
unfoldable pub AreUpdated : Graph → BTreeMap (Bor (List ℕ)) TermId → Option TermId → Graph → List (ℕ × TermId) → Entries WrittenTerm → Type 0
AreUpdated g t f h es us = (names : Entries Visible) (ks : List ℕ) (ss : List StateDeclaration)
    → Knows g t f names → StandAt g 0 ks ss → are_right (placed_updates names ss us) ≡ true → AreUpdates h es (updates_for_states names ss us)
