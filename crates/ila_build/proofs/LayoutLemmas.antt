-- Child programs lie where they were put, also in wider stores, and one behind another.
use Rattle.std.proofs.Common.{◌≡◌, ℕ, suc, ◌+◌, true, List, [], ◌∷◌, ◌++◌, map, length, Bor, Option, Some, None, option_map, refl, sym, ap, ◌∙◌, subst, arith, append_assoc, length-append}
use Rattle.std.specs.Prelude.{◌==◌}
use Rattle.std.proofs.lemmas.List.{append-nil}
use Rattle.std.proofs.lemmas.Bool.{and_parts, eq-eqb, eqb-true}
use Rattle.std.specs.BTreeMap.{BTreeMap}
use Rattle.wb_values.specs.Value.{Sort, Entries}
use Rattle.model_meaning.specs.Model.{StateDeclaration}
use Rattle.wb_terms.specs.declared.values.Value.{Value}
use Rattle.model_files.specs.Written.{WrittenInstruction, instruction, WrittenInstructions, no_instructions, and_then, WrittenMachine, machine, WrittenChild, no_child, child, states_in, machines_of_instruction, machines_of_child}
use Rattle.model_files.specs.Scope.{Visible, MachineScope, with_states, with_fetch, with_definitions, scope_within, terms_below}
use Rattle.wb_terms.specs.declared.nodes.TermId.{TermId}
use Rattle.wb_terms.specs.Environment.{as_value}
use Rattle.wb_terms.specs.Graph.{Graph}
use Rattle.ila_model.specs.declared.parts.ChildId.{ChildId}
use Rattle.ila_model.specs.declared.parts.Child.{Child}
use Rattle.ila_model.specs.Sorted.{are_placed}
use Rattle.ila_build.specs.Standing.{IsWider}
use Rattle.ila_build.specs.Knowing.{Knows, are_right}
use Rattle.ila_build.specs.Updating.{StandAt}
use Rattle.ila_build.specs.Declaring.{state_entry}
use Rattle.ila_build.specs.Building.{IsMachine, IsInside, IsChildPut, own_instructions}
use Rattle.ila_build.specs.Inside.{links_from, program_in, IsProgramPut}
use Rattle.ila_build.specs.Layout.{IsDeclaredAt, IsLaid, AreLaid, IsLaidOf, IsLaidChild, AreLaidIn, AreLaidPut, IsLaidPut}
use Rattle.ila_build.proofs.Growing.{widen, wide_same}
use Rattle.ila_build.proofs.Definitions.{knows_kept}
use Rattle.ila_build.proofs.InsideLemmas.{AreToPutInside, machine_right, machine_wider, next_right, stand_wider}

-- ---- wider stores

declared_wider : (g h : Graph) (k : ℕ) (es : Entries Sort) → IsWider g h → IsDeclaredAt g.names k es → IsDeclaredAt h.names k es
declared_wider g h k es b d = record {
  before = d.before;
  behind = d.behind ++ b.more;
  table = b.names ∙ (ap (λ ns. ns ++ b.more) d.table ∙ (append_assoc d.before (es ++ d.behind) b.more ∙ ap (λ ns. d.before ++ ns) (append_assoc es d.behind b.more)));
  length_before = d.length_before;
}

laid_child_wider : (g h : Graph) (scope : MachineScope) (at : Option ChildId) (k steps : ℕ) (m : WrittenMachine) (c : Child) → IsWider g h → IsLaid g scope at k steps m c → IsLaid h scope at k steps m c
laid_child_wider g h scope at k steps m c b l = record {
  around = l.around;
  limit = l.limit;
  values = l.values;
  declared = declared_wider g h c.first.0 (map state_entry (states_in m)) b l.declared;
  places = l.places;
  stand = stand_wider g h 0 l.places (scope.states ++ states_in m) b l.stand;
  own = machine_wider g h (with_states scope.names (states_in m)) (scope.states ++ states_in m) (links_from (suc k) (own_instructions m)) m c.valid c.instructions.items b l.own;
}

mutual
  pub laid_wider : (g h : Graph) (scope : MachineScope) (at : Option ChildId) (k : ℕ) (is : WrittenInstructions) (xs : List Child) → IsWider g h → AreLaid g scope at k is xs → AreLaid h scope at k is xs
  laid_wider g h scope at k no_instructions xs b l = l
  laid_wider g h scope at k (and_then i is) xs b l = (l.0, l.1, l.2, laid_of_wider g h scope at k i l.0 b l.3, laid_wider g h scope at (k + length (machines_of_instruction i)) is l.1 b l.4)

  laid_of_wider : (g h : Graph) (scope : MachineScope) (at : Option ChildId) (k : ℕ) (i : WrittenInstruction) (xs : List Child) → IsWider g h → IsLaidOf g scope at k i xs → IsLaidOf h scope at k i xs
  laid_of_wider g h scope at k (instruction n d u p) xs b l = laid_one_wider g h scope at k p xs b l

  pub laid_one_wider : (g h : Graph) (scope : MachineScope) (at : Option ChildId) (k : ℕ) (p : WrittenChild) (xs : List Child) → IsWider g h → IsLaidChild g scope at k p xs → IsLaidChild h scope at k p xs
  laid_one_wider g h scope at k no_child xs b l = l
  laid_one_wider g h scope at k (child steps m) xs b l = (l.0, l.1, l.2, laid_child_wider g h scope at k steps m l.0 b l.3, laid_in_wider g h scope k m l.1 b l.4)

  laid_in_wider : (g h : Graph) (scope : MachineScope) (k : ℕ) (m : WrittenMachine) (xs : List Child) → IsWider g h → AreLaidIn g scope k m xs → AreLaidIn h scope k m xs
  laid_in_wider g h scope k (machine ss ds f v is) xs b l = laid_wider g h (scope_within scope ss ds) (Some (record { 0 = k })) (suc k) is xs b l

-- ---- places of private states

pub placed_none : (n : ℕ) → are_placed n n [] ≡ true
placed_none n = eq-eqb n n refl

pub placed_append : (a b c : ℕ) (xs ys : List Child) → are_placed a b xs ≡ true → are_placed b c ys ≡ true → are_placed a c (xs ++ ys) ≡ true
placed_append a b c [] ys p q = subst (λ n. are_placed n c ys ≡ true) (sym (same a b p)) q where
  same : (a b : ℕ) → (a == b) ≡ true → a ≡ b
  same a b h = eqb-true a b h
placed_append a b c (x ∷ xs) ys p q =
    let parts = and_parts (x.first.0 == a) (are_placed (a + length x.initial_values.items) b xs) p in
    rw parts.0 (placed_append (a + length x.initial_values.items) b c xs ys parts.1 q)

-- ---- a child and those inside it

pub program_laid : (g h m : Graph) (t r : BTreeMap (Bor (List ℕ)) TermId) (links : List (Option ChildId)) (cs mid ds : List Child) (at inner : Option ChildId) (w : WrittenMachine) (steps : ℕ) (c : Child)
    → IsChildPut g t h r links w c → mid ≡ cs ++ c ∷ [] → links ≡ links_from (suc (length cs)) (own_instructions w) → inner ≡ Some (record { 0 = length cs })
    → c.around ≡ at → c.steps ≡ steps → c.first.0 ≡ length g.names → h.names ≡ g.names ++ map state_entry (states_in w) → map (option_map as_value) c.initial_values.items ≡ map (λ s. s.init) (states_in w)
    → IsWider h m → AreLaidPut h r mid m ds inner (own_instructions w) → IsLaidPut g t cs m ds at (child steps w)
unfolding IsChildPut
program_laid g h m t r links cs mid ds at inner (machine ss es f v is) steps c put em el ei around limit first names values wide inside =
    let w = machine ss es f v is in
    let size : length mid ≡ suc (length cs) = omega (arith, ap length em, length-append cs (c ∷ [])) in
    let many : length c.initial_values.items ≡ length (map state_entry ss) = as_many ss c.initial_values.items values in
    let width : length g.names + length c.initial_values.items ≡ length h.names = omega (arith, many, ap length names, length-append g.names (map state_entry ss)) in
    record {
      more = c ∷ inside.more;
      list = inside.list ∙ (ap (λ xs. xs ++ inside.more) em ∙ append_assoc cs (c ∷ []) inside.more);
      placed = rw (eq-eqb c.first.0 (length g.names) first) (subst (λ n. are_placed n (length m.names) inside.more ≡ true) (sym width) inside.placed);
      laid = λ scope ks k s right.
          let parts = machine_right scope ss es f v is right in
          let it : IsInside h r links w c (with_states scope.names ss) (scope.states ++ ss) = put.1 scope.names ks scope.states k s parts.0 in
          let there = inside.laid (scope_within scope ss es) it.places (with_fetch (with_definitions (with_states scope.names ss) es) f) it.known it.states parts.1 in
          let own : IsMachine m (with_states scope.names ss) (scope.states ++ ss) (links_from (suc (length cs)) is) w c.valid c.instructions.items =
          subst (λ ls. IsMachine m (with_states scope.names ss) (scope.states ++ ss) ls w c.valid c.instructions.items) el (machine_wider h m (with_states scope.names ss) (scope.states ++ ss) links w c.valid c.instructions.items wide it.machine) in
          let declared : IsDeclaredAt h.names c.first.0 (map state_entry ss) = record { before = g.names; behind = []; table = names ∙ ap (λ ns. g.names ++ ns) (sym (append-nil (map state_entry ss))); length_before = sym first } in (
            c,
            inside.more,
            refl,
            record { around = around; limit = limit; values = values; declared = declared_wider h m c.first.0 (map state_entry ss) wide declared; places = it.places; stand = stand_wider h m 0 it.places (scope.states ++ ss) wide it.states; own = own },
            subst (λ j. AreLaid m (scope_within scope ss es) (Some (record { 0 = length cs })) j is inside.more) size (subst (λ o. AreLaid m (scope_within scope ss es) o (length mid) is inside.more) ei there),
          );
    } where
      as_many : (ss : List StateDeclaration) (values : List (Option Value)) → map (option_map as_value) values ≡ map (λ s. s.init) ss → length values ≡ length (map state_entry ss)
      as_many [] [] e = refl
      as_many [] (x ∷ xs) e = cc
      as_many (s ∷ ss) [] e = cc
      as_many (s ∷ ss) (x ∷ xs) e =
          let behind : map (option_map as_value) xs ≡ map (λ y. y.init) ss = cc in
          omega (arith, as_many ss xs behind)

pub none_laid : (g : Graph) (t : BTreeMap (Bor (List ℕ)) TermId) (cs : List Child) (at : Option ChildId) → IsLaidPut g t cs g cs at no_child
none_laid g t cs at = record { more = []; list = sym (append-nil cs); placed = placed_none (length g.names); laid = λ scope ks k s right. refl }

-- ---- the loop

pub record AreToLay (g : Graph) (t : BTreeMap (Bor (List ℕ)) TermId) (cs : List Child) (h : Graph) (ds : List Child) (at : Option ChildId) (rest all : WrittenInstructions) : Type 0 where
  pub more : List Child
  pub list : ds ≡ cs ++ more
  pub placed : are_placed (length g.names) (length h.names) more ≡ true
  pub laid : (scope : MachineScope) (ks : List ℕ) (names : Entries Visible) → Knows g t None scope.names → StandAt g 0 ks scope.states → are_right (terms_below scope names all) ≡ true
      → (k : Graph) (ys : List Child) → IsWider h k → AreLaid k scope at (length ds) rest ys → AreLaid k scope at (length cs) all (more ++ ys)

pub lay_start : (g : Graph) (t : BTreeMap (Bor (List ℕ)) TermId) (cs : List Child) (at : Option ChildId) (all : WrittenInstructions) → AreToLay g t cs g cs at all all
lay_start g t cs at all = record { more = []; list = sym (append-nil cs); placed = placed_none (length g.names); laid = λ scope ks names k s right m ys b x. x }

laid_of : (g : Graph) (scope : MachineScope) (at : Option ChildId) (k : ℕ) (i : WrittenInstruction) (xs : List Child) → IsLaidChild g scope at k (program_in i) xs → IsLaidOf g scope at k i xs
laid_of g scope at k (instruction n d u p) xs l = l

pub lay_turn : (g h k : Graph) (t u v : BTreeMap (Bor (List ℕ)) TermId) (cs ds es : List Child) (at : Option ChildId) (i : WrittenInstruction) (now rest all : WrittenInstructions)
    → now ≡ and_then i rest → AreToPutInside g t cs h u ds now all → IsProgramPut h u ds k v es (program_in i) → AreToLay g t cs h ds at now all → IsLaidPut h u ds k es at (program_in i) → AreToLay g t cs k es at rest all
lay_turn g h k t u v cs ds es at i now rest all cut a put b one = record {
  more = b.more ++ one.more;
  list = one.list ∙ (ap (λ xs. xs ++ one.more) b.list ∙ append_assoc cs b.more one.more);
  placed = placed_append (length g.names) (length h.names) (length k.names) b.more one.more b.placed one.placed;
  laid = λ scope ks names kn st right m ys wide x.
      let here = subst (λ is. are_right (terms_below scope names is) ≡ true) cut (a.stand scope ks names kn st right).0 in
      let own = one.laid scope ks (knows_kept g h t u scope.names a.wider a.kept kn) (stand_wider g h 0 ks scope.states a.wider st) (next_right scope names i rest here).0 in
      let there : IsLaidOf m scope at (length ds) i one.more = laid_of m scope at (length ds) i one.more (laid_one_wider k m scope at (length ds) (program_in i) one.more wide own) in
      let behind : AreLaid m scope at (length ds + length (machines_of_instruction i)) rest ys = subst (λ j. AreLaid m scope at j rest ys) (count i put.longer.count) x in
      subst (AreLaid m scope at (length cs) all) (sym (append_assoc b.more one.more ys))
      (b.laid scope ks names kn st right m (one.more ++ ys) (widen put.wider wide) (subst (λ is. AreLaid m scope at (length ds) is (one.more ++ ys)) (sym cut) (one.more, ys, refl, there, behind)));
} where
  count : (i : WrittenInstruction) → length es ≡ length ds + length (machines_of_child (program_in i)) → length es ≡ length ds + length (machines_of_instruction i)
  count (instruction n d u p) e = e

pub lay_end : (g h : Graph) (t : BTreeMap (Bor (List ℕ)) TermId) (cs ds : List Child) (at : Option ChildId) (all : WrittenInstructions) → AreToLay g t cs h ds at no_instructions all → AreLaidPut g t cs h ds at all
lay_end g h t cs ds at all a = record {
  more = a.more;
  list = a.list;
  placed = a.placed;
  laid = λ scope ks names k s right. subst (AreLaid h scope at (length cs) all) (append-nil a.more) (a.laid scope ks names k s right h [] (wide_same h) refl);
}
