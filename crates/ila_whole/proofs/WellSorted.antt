-- The terms, updates and instructions of a machine that no rule refuses are well sorted at their place.
use Rattle.std.proofs.Common.{◌≡◌, ℕ, suc, ◌+◌, ◌<◌, ◌≤◌, Bool, true, false, cond, not, ◌||◌, List, [], ◌∷◌, ◌++◌, length, map, Option, Some, None, refl, sym, ap, ◌∙◌, subst, arith, append_assoc, length-append}
use Rattle.std.specs.Prelude.{◌==◌, nat_le, nat_lt, ⊤, codes}
use Rattle.std.proofs.lemmas.Bool.Decides.{nat_tests}
use Rattle.std.proofs.lemmas.Bool.{false≢true, and_parts, and_from, eqb-true, eq-eqb, leb-true}
use Rattle.std.proofs.Math.Seq.{get_or-append_seam}
use Rattle.std.proofs.lemmas.Slice.Eq.{bytes_eq-Decides}
use Rattle.wb_values.specs.Value.{Name, same_name, Sort, truth, word, memory, Entries, entry_of}
use Rattle.model_meaning.specs.Term.{same_sort, sort_of}
use Rattle.model_meaning.specs.Model.{StateDeclaration, InputDeclaration, state_named}
use Rattle.model_files.specs.Written.{WrittenTerm, WrittenInstruction, instruction, WrittenInstructions, no_instructions, and_then, WrittenMachine, machine, WrittenChild, no_child, child, machines_of_instruction}
use Rattle.model_files.specs.Scope.{Visible, TermPlace, of_definition, of_fetch, of_condition, of_update, placed, declared, defined, term_of, written_sort, with_inputs, with_states, with_definitions, with_fetch, placed_definitions, placed_fetch, placed_updates}
use Rattle.model_files.specs.Rules.{uses_unknown_name, updates_no_state, accepts_sort}
use Rattle.model_files.specs.Meaning.{with_own_update, updates_for_states}
use Rattle.wb_terms.specs.declared.nodes.TermId.{TermId}
use Rattle.wb_terms.specs.Graph.{Graph, tree, HasDistinctNames}
use Rattle.ila_model.specs.declared.parts.Update.{Update}
use Rattle.ila_model.specs.declared.parts.Instruction.{Instruction}
use Rattle.ila_model.specs.declared.parts.ChildId.{ChildId}
use Rattle.ila_model.specs.declared.parts.Child.{Child}
use Rattle.ila_model.specs.declared.parts.Parts.{Parts}
use Rattle.ila_model.specs.declared.scopes.Scope.{Scope}
use Rattle.ila_model.specs.Scope.{may_read, home, scope_of, term_scope}
use Rattle.ila_model.specs.Sorted.{has_sort, is_term_of, is_read_at, is_condition, sort_at, name_at, is_state_at, are_updates, is_instruction, is_link, child_after, are_instructions, is_machine}
use Rattle.ila_build.specs.Knowing.{is_right, are_right}
use Rattle.ila_build.specs.Declaring.{state_entry, input_entry}
use Rattle.ila_build.specs.Updating.{entry_at, StandAt, AreUpdates}
use Rattle.ila_build.specs.Building.{pair_of, link_at, decode_in, update_in, own_terms, AreOwnRight, IsInstruction, AreInstructions, IsMachine, IsMachineRight, names_in, definitions_in, fetch_in, valid_in, own_instructions}
use Rattle.ila_build.specs.Inside.{program_in, link_from, links_from}
use Rattle.ila_build.proofs.Sorting.{AreSorted, sort_is, or_parts}
use Rattle.ila_build.proofs.Definitions.{first_right, not_true}
use Rattle.ila_build.proofs.Chosen.{places_same}
use Rattle.ila_whole.proofs.Places.{AreReadAt, read_term}
use Rattle.ila_whole.proofs.Homes.{AreHomed}

-- ---- what is known of the visible names at a place

pub record AreKnownAt (p : Parts) (at : Option ℕ) (names : Entries Visible) : Type 0 where
  pub read : AreReadAt p.children.items (home p) at names
  pub sorted : AreSorted names

pub none_known : (p : Parts) (at : Option ℕ) → AreKnownAt p at []
none_known p at = record { read = λ n v e. cc; sorted = λ n v e. cc }

more_of : (P : Visible → Type 0) (names : Entries Visible) (m : Name) (w : Visible) (n : Name) (v : Visible) (b : Bool) → P w → (entry_of names n ≡ Some v → P v) → cond b (Some w) (entry_of names n) ≡ Some v → P v
more_of P names m w n v false a r e = r e
more_of P names m w n v true a r e =
    let same : w ≡ v = cc in
    subst P same a

pub known_more : (p : Parts) (at : Option ℕ) (names : Entries Visible) (m : Name) (w : Visible) → AreKnownAt p at names → may_read p.children.items at (scope_of p.children.items (home p) w.term) ≡ true → sort_of w.term ≡ w.sort → AreKnownAt p at ((m, w) ∷ names)
known_more p at names m w k r s = record {
  read = λ n v e. more_of (λ x. may_read p.children.items at (scope_of p.children.items (home p) x.term) ≡ true) names m w n v (same_name m n) r (k.read n v) e;
  sorted = λ n v e. more_of (λ x. sort_of x.term ≡ x.sort) names m w n v (same_name m n) s (k.sorted n v) e;
}

pub known_states : (p : Parts) (at : Option ℕ) (s : Scope) (low high : ℕ) (names : Entries Visible) (ss : List StateDeclaration) → may_read p.children.items at s ≡ true → AreHomed p s low high (map state_entry ss) → AreKnownAt p at names → AreKnownAt p at (with_states names ss)
known_states p at s low high names [] r h k = k
known_states p at s low high names (x ∷ ss) r h k =
    known_states p at s low high ((x.state_name, declared x.state_name x.sort) ∷ names) ss r h.2 (known_more p at names x.state_name (declared x.state_name x.sort) k (ap (may_read p.children.items at) h.0 ∙ r) refl)

pub known_inputs : (p : Parts) (at : Option ℕ) (s : Scope) (low high : ℕ) (names : Entries Visible) (is : List InputDeclaration) → may_read p.children.items at s ≡ true → AreHomed p s low high (map input_entry is) → AreKnownAt p at names → AreKnownAt p at (with_inputs names is)
known_inputs p at s low high names [] r h k = k
known_inputs p at s low high names (x ∷ is) r h k =
    known_inputs p at s low high ((x.input_name, declared x.input_name x.sort) ∷ names) is r h.2 (known_more p at names x.input_name (declared x.input_name x.sort) k (ap (may_read p.children.items at) h.0 ∙ r) refl)

-- a term that no rule refuses has its written sort, which its place takes
pub right_sort : (p : Parts) (at : Option ℕ) (names : Entries Visible) (e : WrittenTerm) (w : TermPlace) → AreKnownAt p at names → is_right (placed names e w) ≡ true → (sort_of (term_of names e) ≡ written_sort names e) × (accepts_sort w (sort_of (term_of names e)) ≡ true)
unfolding is_right
right_sort p at names e w k right =
    let a = and_parts (not (uses_unknown_name names e || updates_no_state w)) _ right in
    let u = or_parts (uses_unknown_name names e) (updates_no_state w) (not_true _ a.0) in
    let b = and_parts (accepts_sort w (written_sort names e)) _ a.1 in
    let same : sort_of (term_of names e) ≡ written_sort names e = sort_is names e k.sorted u.0 b.1 in
    (same, ap (accepts_sort w) same ∙ b.0)

known_defined : (p : Parts) (at : Option ℕ) (names : Entries Visible) (n : Name) (e : WrittenTerm) (w : TermPlace) → AreKnownAt p at names → is_right (placed names e w) ≡ true → AreKnownAt p at ((n, defined names e) ∷ names)
known_defined p at names n e w k right =
    known_more p at names n (defined names e) k (read_term p.children.items (home p) at names e k.read) (right_sort p at names e w k right).0

pub known_definitions : (p : Parts) (at : Option ℕ) (names : Entries Visible) (ds : Entries WrittenTerm) → AreKnownAt p at names → are_right (placed_definitions names ds) ≡ true → AreKnownAt p at (with_definitions names ds)
known_definitions p at names [] k right = k
known_definitions p at names (d ∷ ds) k right =
    let parts = first_right (placed names d.1 of_definition) (placed_definitions ((d.0, defined names d.1) ∷ names) ds) right in
    known_definitions p at ((d.0, defined names d.1) ∷ names) ds (known_defined p at names d.0 d.1 of_definition k parts.0) parts.1

pub known_fetch : (p : Parts) (at : Option ℕ) (names : Entries Visible) (f : Option WrittenTerm) → AreKnownAt p at names → are_right (placed_fetch names f) ≡ true → AreKnownAt p at (with_fetch names f)
known_fetch p at names None k right = k
known_fetch p at names (Some e) k right = known_defined p at names (codes "fetch") e of_fetch k (first_right (placed names e of_fetch) [] right).0

-- ---- a term of the store

pub within : (k n : ℕ) → k < n → nat_lt k n ≡ true
within k n h = grind (arith, nat_tests)

pub at_most : (a b : ℕ) → a ≤ b → nat_le a b ≡ true
at_most a b h = grind (arith, nat_tests)

read_at : (p : Parts) (at : Option ℕ) (s : Sort) (names : Entries Visible) (e : WrittenTerm) (k : ℕ) → AreKnownAt p at names → k < length p.terms.nodes → tree p.terms k ≡ term_of names e → has_sort (sort_of (term_of names e)) s ≡ true → is_read_at p at s k ≡ true
read_at p at s names e k known w t h =
    and_from (is_term_of p.terms s k) (may_read p.children.items at (term_scope p k))
    (and_from (nat_lt k (length p.terms.nodes)) (has_sort (sort_of (tree p.terms k)) s) (within k (length p.terms.nodes) w) (ap (λ x. has_sort (sort_of x) s) t ∙ h))
    (ap (λ x. may_read p.children.items at (scope_of p.children.items (home p) x)) t ∙ read_term p.children.items (home p) at names e known.read)

eqb_sym : (a b : ℕ) → (a == b) ≡ true → (b == a) ≡ true
eqb_sym a b h = eq-eqb b a (sym (eqb-true a b h))

sorts_sym : (s t : Sort) → same_sort s t ≡ true → same_sort t s ≡ true
sorts_sym truth truth h = refl
sorts_sym (word w) (word u) h = eqb_sym w u h
sorts_sym (memory a d) (memory b e) h =
    let parts = and_parts (a == b) (d == e) h in
    and_from (b == a) (e == d) (eqb_sym a b parts.0) (eqb_sym d e parts.1)
sorts_sym _ _ h = absurd (false≢true h)

condition_sort : (o : Option Sort) → accepts_sort of_condition o ≡ true → has_sort o truth ≡ true
condition_sort None h = absurd (false≢true h)
condition_sort (Some s) h = sorts_sym truth s h

update_sort : (n : Name) (d : StateDeclaration) (o : Option Sort) → accepts_sort (of_update n (Some d)) o ≡ true → has_sort o d.sort ≡ true
update_sort n d None h = absurd (false≢true h)
update_sort n d (Some s) h = sorts_sym d.sort s h

pub condition_at : (p : Parts) (at : Option ℕ) (names : Entries Visible) (e : WrittenTerm) (k : ℕ) → AreKnownAt p at names → k < length p.terms.nodes → tree p.terms k ≡ term_of names e → is_right (placed names e of_condition) ≡ true → is_condition p at k ≡ true
condition_at p at names e k known w t right = read_at p at truth names e k known w t (condition_sort (sort_of (term_of names e)) (right_sort p at names e of_condition known right).1)

-- ---- updates

-- Each of these states is one that may be updated at the place, wherever its name stands.
abbrev pub AreStatesAt : Parts → Option ℕ → List StateDeclaration → Type 0
AreStatesAt p at [] = ⊤
AreStatesAt p at (s ∷ ss) = ((k : ℕ) → k < length p.terms.names → name_at p.terms.names k ≡ s.state_name → is_state_at p at k ≡ true) × AreStatesAt p at ss

updates_from : (p : Parts) (at : Option ℕ) (low high : ℕ) (us : List Update) → low ≤ high → are_updates p at high us ≡ true → are_updates p at low us ≡ true
updates_from p at low high [] b h = refl
updates_from p at low high (u ∷ us) b h =
    let parts = and_parts (nat_le high u.state.0) _ h in
    and_from (nat_le low u.state.0) _ (lower (nat_le high u.state.0) refl parts.0) parts.1 where
      lower : (x : Bool) → nat_le high u.state.0 ≡ x → x ≡ true → nat_le low u.state.0 ≡ true
      lower x e t = at_most low u.state.0 (omega (arith, b, leb-true high u.state.0 (e ∙ t)))

-- the rule on the update of a name
rule_at : (names : Entries Visible) (ss : List StateDeclaration) (us : Entries WrittenTerm) (n : Name) (e : WrittenTerm) → are_right (placed_updates names ss us) ≡ true → entry_of us n ≡ Some e → is_right (placed names e (of_update n (state_named ss n))) ≡ true
rule_at names ss [] n e r h = cc
rule_at names ss (u ∷ us) n e r h =
    let parts = first_right (placed names u.1 (of_update u.0 (state_named ss u.0))) (placed_updates names ss us) r in
    by_test (same_name u.0 n) refl parts.0 (λ k. rule_at names ss us n e parts.1 k) h where
      by_test : (b : Bool) → same_name u.0 n ≡ b → is_right (placed names u.1 (of_update u.0 (state_named ss u.0))) ≡ true → (entry_of us n ≡ Some e → is_right (placed names e (of_update n (state_named ss n))) ≡ true)
          → cond b (Some u.1) (entry_of us n) ≡ Some e → is_right (placed names e (of_update n (state_named ss n))) ≡ true
      by_test false k a rest h = rest h
      by_test true k a rest h =
          let same : u.1 ≡ e = cc in
          subst (λ x. is_right (placed names x (of_update n (state_named ss n))) ≡ true) same (subst (λ m. is_right (placed names u.1 (of_update m (state_named ss m))) ≡ true) ((bytes_eq-Decides u.0 n).0 k) a)

-- a state by its name has the sort that stands in the table
sort_named : (g : Graph) (from : ℕ) (ks : List ℕ) (ss : List StateDeclaration) (n : Name) (k : ℕ) (s : Sort) (d : StateDeclaration) → HasDistinctNames g.names → StandAt g from ks ss → k < length g.names → entry_at g.names k ≡ (n, s) → state_named ss n ≡ Some d → d.sort ≡ s
sort_named g from [] [] n k s d z a w e h = cc
sort_named g from [] (x ∷ ss) n k s d z a w e h = absurd a
sort_named g from (j ∷ js) [] n k s d z a w e h = absurd a
sort_named g from (j ∷ js) (x ∷ ss) n k s d z a w e h = by_test (same_name x.state_name n) refl h (λ q. sort_named g (suc j) js ss n k s d z a.3 w e q) where
  by_test : (b : Bool) → same_name x.state_name n ≡ b → cond b (Some x) (state_named ss n) ≡ Some d → (state_named ss n ≡ Some d → d.sort ≡ s) → d.sort ≡ s
  by_test false q h rest = rest h
  by_test true q h rest =
      let same : x ≡ d = cc in
      let place : j ≡ k = places_same g.names j k z a.1 w (ap (λ (y : Name × Sort). y.0) a.2 ∙ ((bytes_eq-Decides x.state_name n).0 q ∙ sym (ap (λ (y : Name × Sort). y.0) e))) in
      sym (ap (λ (y : StateDeclaration). y.sort) same) ∙ (sym (ap (λ (y : Name × Sort). y.1) a.2) ∙ (ap (λ i. (entry_at g.names i).1) place ∙ ap (λ (y : Name × Sort). y.1) e))

known_state : (names : Entries Visible) (e : WrittenTerm) (n : Name) (o : Option StateDeclaration) → is_right (placed names e (of_update n o)) ≡ true → (d : StateDeclaration) × (o ≡ Some d)
unfolding is_right
known_state names e n None h =
    let a = and_parts (not (uses_unknown_name names e || true)) _ h in
    absurd (false≢true (sym (or_parts (uses_unknown_name names e) true (not_true _ a.0)).1))
known_state names e n (Some d) h = (d, refl)

pub updates_at : (p : Parts) (at : Option ℕ) (names : Entries Visible) (states : List StateDeclaration) (places : List ℕ) (us : Entries WrittenTerm) (from : ℕ) (ks : List ℕ) (ss : List StateDeclaration) (xs : List Update)
    → HasDistinctNames p.terms.names → AreKnownAt p at names → StandAt p.terms 0 places states → are_right (placed_updates names states us) ≡ true
    → StandAt p.terms from ks ss → AreStatesAt p at ss → AreUpdates p.terms (map pair_of xs) (updates_for_states names ss us) → are_updates p at from xs ≡ true
updates_at p at names states places us from [] [] [] z k all right s a u = refl
updates_at p at names states places us from [] [] (x ∷ xs) z k all right s a u = absurd u
updates_at p at names states places us from [] (d ∷ ss) xs z k all right s a u = absurd s
updates_at p at names states places us from (j ∷ js) [] xs z k all right s a u = absurd s
updates_at p at names states places us from (j ∷ js) (d ∷ ss) xs z k all right s a u = by_update (entry_of us d.state_name) refl xs u (λ ys v. updates_at p at names states places us (suc j) js ss ys z k all right s.3 a.1 v) where
  by_update : (o : Option WrittenTerm) → entry_of us d.state_name ≡ o → (xs : List Update) → AreUpdates p.terms (map pair_of xs) (with_own_update names d.state_name o (updates_for_states names ss us)) → ((ys : List Update) → AreUpdates p.terms (map pair_of ys) (updates_for_states names ss us) → are_updates p at (suc j) ys ≡ true) → are_updates p at from xs ≡ true
  by_update None e xs u rest = updates_from p at from (suc j) xs (omega (arith, s.0)) (rest xs u)
  by_update (Some t) e [] u rest = absurd u
  by_update (Some t) e (x ∷ xs) u rest =
      let ns = p.terms.names in
      let place : x.state.0 ≡ j = places_same ns x.state.0 j z u.0 s.1 (u.2 ∙ sym (ap (λ (y : Name × Sort). y.0) s.2)) in
      let rule = rule_at names states us d.state_name t right e in
      let state = known_state names t d.state_name (state_named states d.state_name) rule in
      let same : state.0.sort ≡ d.sort = sort_named p.terms 0 places states d.state_name j d.sort state.0 z all s.1 s.2 state.1 in
      let takes = (right_sort p at names t (of_update d.state_name (Some state.0)) k (subst (λ o. is_right (placed names t (of_update d.state_name o)) ≡ true) state.1 rule)).1 in
      let sort : sort_at ns x.state.0 ≡ d.sort = ap (sort_at ns) place ∙ ap (λ (y : Name × Sort). y.1) s.2 in
      let has : has_sort (sort_of (term_of names t)) (sort_at ns x.state.0) ≡ true = ap (has_sort (sort_of (term_of names t))) (sort ∙ sym same) ∙ update_sort d.state_name state.0 (sort_of (term_of names t)) takes in
      and_from (nat_le from x.state.0) _ (at_most from x.state.0 (omega (arith, s.0, place)))
      (and_from (is_state_at p at x.state.0) _ (a.0 x.state.0 u.0 u.2)
      (and_from (is_read_at p at (sort_at ns x.state.0) x.term.0) (are_updates p at (suc x.state.0) xs) (read_at p at (sort_at ns x.state.0) names t x.term.0 k u.1 u.3 has)
      (ap (λ i. are_updates p at (suc i) xs) place ∙ rest xs u.4)))

-- ---- instructions

pub instruction_at : (p : Parts) (at : Option ℕ) (names : Entries Visible) (states : List StateDeclaration) (places : List ℕ) (link : Option ChildId) (i : WrittenInstruction) (x : Instruction)
    → HasDistinctNames p.terms.names → AreKnownAt p at names → StandAt p.terms 0 places states → AreStatesAt p at states → are_right (own_terms names states i) ≡ true → IsInstruction p.terms names states link i x → is_instruction p at x ≡ true
instruction_at p at names states places link i x z k all a right it =
    let parts = first_right (placed names (decode_in i) of_condition) (placed_updates names states (update_in i)) right in
    and_from (is_condition p at x.decode.0) (are_updates p at 0 x.updates.items) (condition_at p at names (decode_in i) x.decode.0 k it.1 it.2 parts.0)
    (updates_at p at names states places (update_in i) 0 places states x.updates.items z k all parts.1 all a it.3)

-- The children of the instructions stand from a place on, and are run from here.
abbrev pub AreLinkedAt : List Child → Option ℕ → (pos : ℕ) → WrittenInstructions → Type 0
AreLinkedAt cs at pos no_instructions = ⊤
AreLinkedAt cs at pos (and_then i is) = (is_link cs at pos (link_from pos (program_in i)) ≡ true) × AreLinkedAt cs at (pos + length (machines_of_instruction i)) is

link_lower : (cs : List Child) (at : Option ℕ) (low high : ℕ) (p : WrittenChild) → low ≤ high → is_link cs at high (link_from high p) ≡ true → is_link cs at low (link_from high p) ≡ true
link_lower cs at low high no_child b h = refl
link_lower cs at low high (child steps m) b h =
    let parts = and_parts (nat_le high high) _ h in
    and_from (nat_le low high) _ (at_most low high b) parts.1

behind_lower : (low pos : ℕ) (i : WrittenInstruction) → low ≤ pos → child_after low (link_from pos (program_in i)) ≤ pos + length (machines_of_instruction i)
behind_lower low pos (instruction n d u no_child) b = omega (arith, b)
behind_lower low pos (instruction n d u (child steps (machine ss ds f v is))) b = omega arith

pub instructions_at : (p : Parts) (at : Option ℕ) (names : Entries Visible) (states : List StateDeclaration) (places : List ℕ) (before : List (Option ChildId)) (low pos : ℕ) (is : WrittenInstructions) (xs : List Instruction)
    → HasDistinctNames p.terms.names → AreKnownAt p at names → StandAt p.terms 0 places states → AreStatesAt p at states → low ≤ pos → AreOwnRight names states is → AreLinkedAt p.children.items at pos is
    → AreInstructions p.terms names states (before ++ links_from pos is) (length before) is xs → are_instructions p at low xs ≡ true
instructions_at p at names states places before low pos no_instructions [] z k all a b r l it = refl
instructions_at p at names states places before low pos no_instructions (x ∷ xs) z k all a b r l it = absurd it
instructions_at p at names states places before low pos (and_then i is) [] z k all a b r l it = absurd it
instructions_at p at names states places before low pos (and_then i is) (x ∷ xs) z k all a b r l it =
    let link = link_from pos (program_in i) in
    let next = pos + length (machines_of_instruction i) in
    let rest = links_from next is in
    let one : length (before ++ link ∷ []) ≡ suc (length before) = omega (arith, length-append before (link ∷ [])) in
    let own : x.child ≡ link = it.0.4 ∙ get_or-append_seam before link rest None in
    let more = subst (λ j. AreInstructions p.terms names states (before ++ link ∷ rest) j is xs) (sym one) it.1 in
    let more' = subst (λ ls. AreInstructions p.terms names states ls (length (before ++ link ∷ [])) is xs) (sym (append_assoc before (link ∷ []) rest)) more in
    and_from (is_instruction p at x) _ (instruction_at p at names states places (link_at (before ++ links_from pos (and_then i is)) (length before)) i x z k all a r.0 it.0)
    (and_from (is_link p.children.items at low x.child) (are_instructions p at (child_after low x.child) xs) (ap (is_link p.children.items at low) own ∙ link_lower p.children.items at low pos (program_in i) b l.0)
    (ap (λ o. are_instructions p at (child_after low o) xs) own
    ∙ instructions_at p at names states places (before ++ link ∷ []) (child_after low link) next is xs z k all a (behind_lower low pos i b) r.1 l.1 more'))

-- a machine: its names are known to its definitions
pub machine_at : (p : Parts) (at : Option ℕ) (names : Entries Visible) (states : List StateDeclaration) (places : List ℕ) (pos : ℕ) (m : WrittenMachine) (valid : TermId) (xs : List Instruction)
    → HasDistinctNames p.terms.names → AreKnownAt p at names → StandAt p.terms 0 places states → AreStatesAt p at states → IsMachineRight names states m → AreLinkedAt p.children.items at pos (own_instructions m)
    → IsMachine p.terms names states (links_from pos (own_instructions m)) m valid xs → is_machine p at valid.0 xs ≡ true
machine_at p at names states places pos m valid xs z k all a right l it =
    let inside : AreKnownAt p at (names_in names m) = known_fetch p at (with_definitions names (definitions_in m)) (fetch_in m) (known_definitions p at names (definitions_in m) k right.definitions) right.fetch in
    and_from (is_condition p at valid.0) (are_instructions p at 0 xs) (condition_at p at (names_in names m) (valid_in m) valid.0 inside it.within it.valid_tree right.valid)
    (instructions_at p at (names_in names m) states places [] 0 pos (own_instructions m) xs z inside all a (omega arith) right.instructions l it.instructions)
