-- Child programs: private states are declared behind the names that are there, and are known besides them.
use Rattle.std.proofs.Common.{◌≡◌, ℕ, suc, ◌+◌, ◌≤◌, Bool, true, false, cond, List, [], ◌∷◌, ◌++◌, length, map, drop, Bor, Option, Some, None, option_map, refl, sym, ap, ◌∙◌, subst, arith, length-append, append_assoc}
use Rattle.std.specs.Prelude.{is_some}
use Rattle.std.specs.List.{list_all}
use Rattle.std.proofs.Math.Seq.{get_or-append_seam}
use Rattle.std.proofs.Math.ListN.{get_or-append}
use Rattle.std.proofs.lemmas.Slice.Eq.{bytes_eq-Decides}
use Rattle.std.proofs.lemmas.Bool.{false≢true, and_parts}
use Rattle.std.specs.BTreeMap.{BTreeMap}
use Rattle.wb_values.specs.Value as meaning
use Rattle.wb_values.specs.Value.{Name, Sort, same_name, Entries, entry_of}
use Rattle.model_meaning.specs.Model.{StateDeclaration, value_or}
use Rattle.model_files.specs.Scope.{Visible, declared, with_states}
use Rattle.wb_terms.specs.declared.nodes.TermId.{TermId}
use Rattle.wb_terms.specs.declared.values.Value.{Value}
use Rattle.wb_terms.specs.Environment.{as_value}
use Rattle.wb_terms.specs.Graph.{Graph}
use Rattle.model_files.specs.Written.{WrittenMachine, states_in}
use Rattle.ila_model.specs.declared.parts.Child.{Child}
use Rattle.ila_model.specs.declared.parts.ChildId.{ChildId}
use Rattle.ila_model.specs.Meaning.{private_states, privates_of, zero_of}
use Rattle.ila_build.specs.Standing.{under_name, StandsFor, StandAll, IsTable, IsKept, IsGrown, IsWider}
use Rattle.ila_build.specs.Knowing.{Knows}
use Rattle.ila_build.specs.Updating.{entry_at, StandAt}
use Rattle.ila_build.specs.Building.{IsMachineRight, IsMachinePut, IsInside, IsChildPut}
use Rattle.ila_build.specs.Declaring.{state_entry}
use Rattle.ila_build.proofs.Definitions.{knows_kept}
use Rattle.ila_build.proofs.Chosen.{stand_moved}

pub all_behind : (g : Graph) (t : BTreeMap (Bor (List ℕ)) TermId) (ns ms : Entries Sort) → StandAll g t (ns ++ ms) → StandAll g t ms
all_behind g t [] ms a = a
all_behind g t (n ∷ ns) ms a = all_behind g t ns ms a.1

pub with_name : (g : Graph) (t : BTreeMap (Bor (List ℕ)) TermId) (names : Entries Visible) (m : Name) (w : Visible) → Knows g t None names → StandsFor g w (under_name t m) → Knows g t None ((m, w) ∷ names)
unfolding Knows
with_name g t names m w k s n v e = by_test (same_name m n) refl e where
  by_test : (b : Bool) → same_name m n ≡ b → cond b (Some w) (entry_of names n) ≡ Some v → StandsFor g v (under_name t n)
  by_test false q e = k n v e
  by_test true q e =
      let same : w ≡ v = cc in
      subst (λ x. StandsFor g v (under_name t x)) ((bytes_eq-Decides m n).0 q) (subst (λ x. StandsFor g x (under_name t m)) same s)

pub knows_states : (g : Graph) (t : BTreeMap (Bor (List ℕ)) TermId) (names : Entries Visible) (ss : List StateDeclaration) → Knows g t None names → StandAll g t (map state_entry ss) → Knows g t None (with_states names ss)
knows_states g t names [] k a = k
knows_states g t names (s ∷ ss) k a =
    knows_states g t ((s.state_name, declared s.state_name s.sort) ∷ names) ss (with_name g t names s.state_name (declared s.state_name s.sort) k a.0) a.1

-- the names that were declared last stand for themselves
pub declared_last : (g : Graph) (t : BTreeMap (Bor (List ℕ)) TermId) (ns : Entries Sort) (ss : List StateDeclaration) → IsTable g t → g.names ≡ ns ++ map state_entry ss → StandAll g t (map state_entry ss)
unfolding IsTable
declared_last g t ns ss a e = all_behind g t ns (map state_entry ss) (subst (StandAll g t) e a.1)

-- ---- places

abbrev pub places_from : ℕ → List StateDeclaration → List ℕ
places_from k [] = []
places_from k (s ∷ ss) = k ∷ places_from (suc k) ss

new_places : (g : Graph) (ns : Entries Sort) (ss : List StateDeclaration) (from : ℕ) → from ≤ length ns → g.names ≡ ns ++ map state_entry ss → StandAt g from (places_from (length ns) ss) ss
new_places g ns [] from h e = tt
new_places g ns (s ∷ ss) from h e =
    let one : length (ns ++ state_entry s ∷ []) ≡ suc (length ns) = omega (arith, length-append ns (state_entry s ∷ [])) in
    let all : g.names ≡ (ns ++ state_entry s ∷ []) ++ map state_entry ss = e ∙ sym (append_assoc ns (state_entry s ∷ []) (map state_entry ss)) in
    let size : length g.names ≡ length ns + suc (length (map state_entry ss)) = ap length e ∙ length-append ns (state_entry s ∷ map state_entry ss) in (
      h,
      omega (arith, size),
      ap (λ xs. entry_at xs (length ns)) e ∙ get_or-append_seam ns (state_entry s) (map state_entry ss) _,
      subst (λ k. StandAt g k (places_from k ss) ss) one (new_places g (ns ++ state_entry s ∷ []) ss (length (ns ++ state_entry s ∷ [])) (omega arith) all),
    )

-- the states around a machine, and then its own
pub stand_more : (g h : Graph) (from : ℕ) (ks : List ℕ) (ss own : List StateDeclaration) → from ≤ length g.names → h.names ≡ g.names ++ map state_entry own → StandAt g from ks ss → StandAt h from (ks ++ places_from (length g.names) own) (ss ++ own)
stand_more g h from [] [] own w e s = new_places h g.names own from w e
stand_more g h from [] (x ∷ ss) own w e s = absurd s
stand_more g h from (k ∷ ks) [] own w e s = absurd s
stand_more g h from (k ∷ ks) (x ∷ ss) own w e s =
    let size : length h.names ≡ length g.names + length (map state_entry own) = ap length e ∙ length-append g.names (map state_entry own) in
    (s.0, omega (arith, s.1, size), ap (λ ns. entry_at ns k) e ∙ (get_or-append g.names (map state_entry own) _ k s.1 ∙ s.2), stand_more g h (suc k) ks ss own (omega (arith, s.1)) e s.3)

-- ---- initial values

kept_init : (o : Option meaning.Value) (z : meaning.Value) → is_some o ≡ true → Some (value_or o z) ≡ o
kept_init None z h = absurd (false≢true h)
kept_init (Some x) z h = refl

-- Private states that all state an initial value are read back from the table and their values.
privates_read : (ss : List StateDeclaration) (more : Entries Sort) (is : List (Option Value)) → map (option_map as_value) is ≡ map (λ s. s.init) ss → list_all (λ s. is_some s.init) ss ≡ true → private_states (map state_entry ss ++ more) is ≡ ss
privates_read [] [] [] e h = refl
privates_read [] (m ∷ more) [] e h = refl
privates_read [] more (i ∷ is) e h = cc
privates_read (s ∷ ss) more [] e h = cc
privates_read (s ∷ ss) more (i ∷ is) e h =
    let first : option_map as_value i ≡ s.init = cc in
    let behind : map (option_map as_value) is ≡ map (λ x. x.init) ss = cc in
    let parts = and_parts (is_some s.init) (list_all (λ x. is_some x.init) ss) h in
    let init : Some (value_or (option_map as_value i) (zero_of s.sort)) ≡ s.init = kept_init (option_map as_value i) (zero_of s.sort) (ap is_some first ∙ parts.0) ∙ first in
    ap (λ x. (record { state_name = s.state_name; sort = s.sort; init = x }) ∷ private_states (map state_entry ss ++ more) is) init ∙ ap (λ r. s ∷ r) (privates_read ss more is behind parts.1)

pub drop_front : (xs ys : Entries Sort) → drop (length xs) (xs ++ ys) ≡ ys
drop_front [] ys = refl
drop_front (x ∷ xs) ys = drop_front xs ys

pub privates_put : (g h : Graph) (ss : List StateDeclaration) (c : Child) → c.first.0 ≡ length g.names → h.names ≡ g.names ++ map state_entry ss
    → map (option_map as_value) c.initial_values.items ≡ map (λ s. s.init) ss → list_all (λ s. is_some s.init) ss ≡ true → (k : Graph) → IsWider h k → privates_of k c ≡ ss
privates_put g h ss c f e v a k b =
    let is = c.initial_values.items in
    let own = map state_entry ss in
    let names : k.names ≡ g.names ++ (own ++ b.more) = b.names ∙ (ap (λ ns. ns ++ b.more) e ∙ append_assoc g.names own b.more) in
    ap (λ ns. private_states (drop c.first.0 ns) is) names ∙ (ap (λ j. private_states (drop j (g.names ++ (own ++ b.more))) is) f
    ∙ (ap (λ ns. private_states ns is) (drop_front g.names (own ++ b.more)) ∙ privates_read ss b.more is v a))

-- the states are declared, and then the machine's own terms are put
pub child_put : (g m h : Graph) (t r u : BTreeMap (Bor (List ℕ)) TermId) (links : List (Option ChildId)) (w : WrittenMachine) (ss : List StateDeclaration) (c : Child)
    → ss ≡ states_in w → IsWider g m → m.names ≡ g.names ++ map state_entry ss → IsKept t r → IsTable m r
    → IsGrown m h → IsMachinePut m r h u links w c.valid c.instructions.items
    → c.first.0 ≡ length g.names → map (option_map as_value) c.initial_values.items ≡ map (λ s. s.init) ss → list_all (λ s. is_some s.init) ss ≡ true → IsChildPut g t h u links w c
unfolding IsChildPut IsMachinePut
child_put g m h t r u links w ss c e wide ns keep table grown put first values all =
    let ns' = grown.names ∙ ns in (
      λ n b. privates_put g h ss c first ns' values all n b ∙ e,
      subst (λ own. (names : Entries Visible) (ks : List ℕ) (os : List StateDeclaration) → Knows g t None names → StandAt g 0 ks os → IsMachineRight (with_states names own) (os ++ own) w → IsInside h u links w c (with_states names own) (os ++ own)) e
          (λ names ks os k s right.
          let ks' = ks ++ places_from (length g.names) ss in
          let k1 = knows_states m r names ss (knows_kept g m t r names wide keep k) (declared_last m r g.names ss table ns) in
          let s1 = stand_more g m 0 ks os ss (omega arith) ns s in
          let it = put (with_states names ss) ks' (os ++ ss) k1 s1 right in
          record { known = it.0; places = ks'; states = stand_moved m h 0 ks' (os ++ ss) grown.names s1; machine = it.1 }),
    )
