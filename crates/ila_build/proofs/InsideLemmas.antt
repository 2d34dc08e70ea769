-- Child programs inside one another: what no rule refuses in a machine, and each child's id read as the child that it stands for.
use Rattle.std.proofs.Common.{◌≡◌, ℕ, zero, suc, ◌+◌, ◌≤◌, max, true, List, [], ◌∷◌, ◌++◌, length, Bor, Option, Some, None, refl, sym, ap, ◌∙◌, subst, arith, length-append, append_assoc}
use Rattle.std.proofs.lemmas.List.{append-nil}
use Rattle.std.proofs.Math.Seq.{get_or-append_seam}
use Rattle.std.proofs.Math.ListN.{get_or-append}
use Rattle.std.specs.BTreeMap.{BTreeMap}
use Rattle.wb_values.specs.Value.{Entries}
use Rattle.model_meaning.specs.Model as pure
use Rattle.model_meaning.specs.Model.{StateDeclaration}
use Rattle.model_files.specs.Written.{WrittenTerm, WrittenInstruction, instruction, WrittenInstructions, no_instructions, and_then, WrittenMachine, machine, WrittenChild, no_child, child, machines_below, machines_of_child}
use Rattle.model_files.specs.Scope.{Visible, MachineScope, PlacedTerm, placed, of_condition, with_states, with_definitions, with_fetch, scope_within, placed_definitions, placed_fetch, placed_updates, terms_in, terms_below, terms_of_instruction, terms_of_child}
use Rattle.model_files.specs.Rules.{depth_below, depth_of_child}
use Rattle.model_files.specs.Meaning as file
use Rattle.wb_terms.specs.declared.nodes.TermId.{TermId}
use Rattle.wb_terms.specs.Graph.{Graph}
use Rattle.ila_model.specs.declared.parts.Instruction.{Instruction}
use Rattle.ila_model.specs.declared.parts.ChildId.{ChildId}
use Rattle.ila_model.specs.declared.parts.Child.{Child}
use Rattle.ila_model.specs.Meaning.{machine_of, program_at, program_of}
use Rattle.ila_build.specs.Standing.{IsWider, IsKept, IsTable}
use Rattle.ila_build.specs.Knowing.{Knows, is_right, are_right}
use Rattle.ila_build.specs.Updating.{entry_at, StandAt}
use Rattle.ila_build.specs.Building.{own_instructions, names_in, AreOwnRight, IsMachineRight, IsMachine, IsInside, IsChildPut}
use Rattle.ila_build.specs.Inside.{program_in, link_from, links_from, HasMore, StandsForChild, StandForChildren, IsProgramPut, AreChildrenPut}
use Rattle.ila_build.proofs.Growing.{widen, wide_same}
use Rattle.ila_build.proofs.Definitions.{first_right, knows_kept, kept_same, kept_onward}
use Rattle.ila_build.proofs.InstructionLemmas.{instructions_wider}
use Rattle.ila_build.proofs.ProgramLemmas.{AreLinked, machine_read, program_there}

-- ---- what no rule refuses

both_right : (p : PlacedTerm) (ps : List PlacedTerm) → is_right p ≡ true → are_right ps ≡ true → are_right (p ∷ ps) ≡ true
unfolding are_right
both_right p ps a b = rw (a, b) refl

pub right_parts : (xs ys : List PlacedTerm) → are_right (xs ++ ys) ≡ true → (are_right xs ≡ true) × (are_right ys ≡ true)
unfolding are_right
right_parts [] ys h = (refl, h)
right_parts (x ∷ xs) ys h =
    let first = first_right x (xs ++ ys) h in
    let rest = right_parts xs ys first.1 in
    (both_right x xs first.0 rest.0, rest.1)

own_right : (scope : MachineScope) (names : Entries Visible) (is : WrittenInstructions) → are_right (terms_below scope names is) ≡ true → AreOwnRight names scope.states is
own_right scope names no_instructions h = tt
own_right scope names (and_then (instruction n d u p) is) h =
    let parts = right_parts (terms_of_instruction scope names (instruction n d u p)) (terms_below scope names is) h in
    let first = first_right (placed names d of_condition) (placed_updates names scope.states u ++ terms_of_child scope p) parts.0 in
    let updates = right_parts (placed_updates names scope.states u) (terms_of_child scope p) first.1 in
    (both_right (placed names d of_condition) (placed_updates names scope.states u) first.0 updates.0, own_right scope names is parts.1)

-- of the first instruction's child, and of the other instructions
pub next_right : (scope : MachineScope) (names : Entries Visible) (i : WrittenInstruction) (is : WrittenInstructions) → are_right (terms_below scope names (and_then i is)) ≡ true
    → (are_right (terms_of_child scope (program_in i)) ≡ true) × (are_right (terms_below scope names is) ≡ true)
next_right scope names (instruction n d u p) is h =
    let parts = right_parts (terms_of_instruction scope names (instruction n d u p)) (terms_below scope names is) h in
    let first = first_right (placed names d of_condition) (placed_updates names scope.states u ++ terms_of_child scope p) parts.0 in
    ((right_parts (placed_updates names scope.states u) (terms_of_child scope p) first.1).1, parts.1)

pub machine_right : (around : MachineScope) (ss : List StateDeclaration) (ds : Entries WrittenTerm) (f : Option WrittenTerm) (v : WrittenTerm) (is : WrittenInstructions)
    → are_right (terms_in around (machine ss ds f v is)) ≡ true
    → IsMachineRight (with_states around.names ss) (around.states ++ ss) (machine ss ds f v is) × (are_right (terms_below (scope_within around ss ds) (with_fetch (with_definitions (with_states around.names ss) ds) f) is) ≡ true)
machine_right around ss ds f v is h =
    let inner = scope_within around ss ds in
    let names = with_fetch inner.names f in
    let one = right_parts (placed_definitions (with_states around.names ss) ds) (placed_fetch inner.names f ++ (placed names v of_condition ∷ terms_below inner names is)) h in
    let two = right_parts (placed_fetch inner.names f) (placed names v of_condition ∷ terms_below inner names is) one.1 in
    let three = first_right (placed names v of_condition) (terms_below inner names is) two.1 in
    (record { definitions = one.0; fetch = two.0; valid = three.0; instructions = own_right inner names is three.1 }, three.1)

-- ---- wider stores

pub stand_wider : (g h : Graph) (from : ℕ) (ks : List ℕ) (ss : List StateDeclaration) → IsWider g h → StandAt g from ks ss → StandAt h from ks ss
stand_wider g h from [] [] b s = tt
stand_wider g h from [] (x ∷ ss) b s = absurd s
stand_wider g h from (k ∷ ks) [] b s = absurd s
stand_wider g h from (k ∷ ks) (x ∷ ss) b s =
    let size : length h.names ≡ length g.names + length b.more = ap length b.names ∙ length-append g.names b.more in
    (s.0, omega (arith, s.1, size), ap (λ ns. entry_at ns k) b.names ∙ (get_or-append g.names b.more _ k s.1 ∙ s.2), stand_wider g h (suc k) ks ss b s.3)

pub machine_wider : (g h : Graph) (names : Entries Visible) (ss : List StateDeclaration) (links : List (Option ChildId)) (m : WrittenMachine) (v : TermId) (xs : List Instruction) → IsWider g h → IsMachine g names ss links m v xs → IsMachine h names ss links m v xs
machine_wider g h names ss links m v xs b a = record {
  within = omega (arith, a.within, b.longer);
  valid_tree = b.trees v.0 a.within ∙ a.valid_tree;
  instructions = instructions_wider g h (names_in names m) ss links 0 (own_instructions m) xs b a.instructions;
}

-- ---- lists of children

pub more_same : (cs : List Child) → HasMore cs 0 cs
more_same cs = record { more = []; list = sym (append-nil cs); count = omega arith }

pub more_onward : {cs ds es : List Child} {m n : ℕ} → HasMore cs m ds → HasMore ds n es → HasMore cs (m + n) es
more_onward {cs} {ds} {es} {m} {n} a b = record {
  more = a.more ++ b.more;
  list = b.list ∙ (ap (λ xs. xs ++ b.more) a.list ∙ append_assoc cs a.more b.more);
  count = omega (arith, a.count, b.count);
}

more_by : {cs ds : List Child} {m n : ℕ} → m ≡ n → HasMore cs m ds → HasMore cs n ds
more_by {cs} {ds} e a = subst (λ n. HasMore cs n ds) e a

pub stands_later : (g h : Graph) (cs ds : List Child) (n : ℕ) (scope : MachineScope) (link : Option ChildId) (p : WrittenChild) → IsWider g h → HasMore cs n ds → StandsForChild g cs scope link p → StandsForChild h ds scope link p
stands_later g h cs ds n scope link p b m s k behind l wide d =
    let list : ds ++ behind ≡ cs ++ (m.more ++ behind) = ap (λ xs. xs ++ behind) m.list ∙ append_assoc cs m.more behind in
    ap (λ xs. program_of k xs l link) list ∙ s k (m.more ++ behind) l (widen b wide) d

-- ---- ids read as children

no_program : (g : Graph) (cs : List Child) (l : ℕ) → program_of g cs l None ≡ pure.no_child
no_program g cs zero = refl
no_program g cs (suc l) = refl

first_deep : (a b l : ℕ) → max a b ≤ l → a ≤ l
first_deep a b l h = omega (arith, h)

rest_deep : (a b l : ℕ) → max a b ≤ l → b ≤ l
rest_deep a b l h = omega (arith, h)

-- the ids of the instructions' children, in front of which others may stand, are linked
pub linked : (g h : Graph) (cs behind : List Child) (scope : MachineScope) (l k : ℕ) (before : List (Option ChildId)) (is : WrittenInstructions)
    → IsWider g h → depth_below is ≤ l → StandForChildren g cs scope k is → AreLinked (program_of h (cs ++ behind) l) scope (before ++ links_from k is) (length before) is
linked g h cs behind scope l k before no_instructions b d s = tt
linked g h cs behind scope l k before (and_then (instruction n e u p) is) b d s =
    let inner = program_of h (cs ++ behind) l in
    let x = link_from k p in
    let rest = links_from (k + length (machines_of_child p)) is in
    let one : length (before ++ x ∷ []) ≡ suc (length before) = omega (arith, length-append before (x ∷ [])) in
    let behind' = linked g h cs behind scope l (k + length (machines_of_child p)) (before ++ x ∷ []) is b (rest_deep (depth_of_child p) (depth_below is) l d) s.1 in (
      ap inner (get_or-append_seam before x rest None) ∙ s.0 h behind l b (first_deep (depth_of_child p) (depth_below is) l d),
      subst (λ j. AreLinked inner scope (before ++ x ∷ rest) j is) one (subst (λ ls. AreLinked inner scope ls (length (before ++ x ∷ [])) is) (append_assoc before (x ∷ []) rest) behind'),
    )

-- A child whose own terms were put, and behind it the children inside it.
program_stands : (g h m : Graph) (t r u : BTreeMap (Bor (List ℕ)) TermId) (links : List (Option ChildId)) (cs mid ds : List Child) (w : WrittenMachine) (c : Child)
    → IsChildPut g t h r links w c → mid ≡ cs ++ c ∷ [] → links ≡ links_from (suc (length cs)) (own_instructions w) → AreChildrenPut h r mid m u ds (own_instructions w)
    → (scope : MachineScope) (ks : List ℕ) → Knows g t None scope.names → StandAt g 0 ks scope.states → are_right (terms_in scope w) ≡ true → StandsForChild m ds scope (Some (record { 0 = length cs })) (child c.steps w)
unfolding IsChildPut
program_stands g h m t r u links cs mid ds w c put em el inside scope ks k s right n behind zero b d = absurd (omega (arith, d))
program_stands g h m t r u links cs mid ds (machine ss es f v is) c put em el inside scope ks k s right n behind (suc l) b d =
    let w = machine ss es f v is in
    let inner = scope_within scope ss es in
    let names = with_fetch inner.names f in
    let parts = machine_right scope ss es f v is right in
    let it : IsInside h r links w c (with_states scope.names ss) (scope.states ++ ss) = put.1 scope.names ks scope.states k s parts.0 in
    let stand : StandForChildren m ds inner (length mid) is = inside.stand inner it.places names it.known it.states parts.1 in
    let wide : IsWider h n = widen inside.wider b in
    let size : length mid ≡ suc (length cs) = omega (arith, ap length em, length-append cs (c ∷ [])) in
    let program = program_of n (ds ++ behind) l in
    let joined : AreLinked program inner (links_from (length mid) is) 0 is = linked m n ds behind inner l (length mid) [] is b (omega (arith, d)) stand in
    let joined' : AreLinked program inner links 0 is = subst (λ ls. AreLinked program inner ls 0 is) (ap (λ j. links_from j is) size ∙ sym el) joined in
    let list : ds ++ behind ≡ cs ++ c ∷ (inside.longer.more ++ behind) =
    ap (λ xs. xs ++ behind) (inside.longer.list ∙ ap (λ xs. xs ++ inside.longer.more) em)
    ∙ (ap (λ xs. xs ++ behind) (append_assoc cs (c ∷ []) inside.longer.more) ∙ append_assoc cs (c ∷ inside.longer.more) behind) in
    let whole : machine_of n program c ≡ file.machine_of scope w = machine_read n program scope links w c (put.0 n wide) (machine_wider h n _ _ links w c.valid c.instructions.items wide it.machine) joined' in
    ap (λ xs. program_at n program xs (length cs)) list ∙ (program_there n program cs c (inside.longer.more ++ behind) ∙ ap (pure.child c.steps) whole)

pub program_put : (g h m : Graph) (t r u : BTreeMap (Bor (List ℕ)) TermId) (links : List (Option ChildId)) (cs mid ds : List Child) (w : WrittenMachine) (steps : ℕ) (c : Child)
    → IsWider g h → IsKept t r → c.steps ≡ steps → IsChildPut g t h r links w c → mid ≡ cs ++ c ∷ [] → links ≡ links_from (suc (length cs)) (own_instructions w)
    → AreChildrenPut h r mid m u ds (own_instructions w) → IsProgramPut g t cs m u ds (child steps w)
program_put g h m t r u links cs mid ds (machine ss es f v is) steps c wide keep es' put em el inside =
    let w = machine ss es f v is in
    let one : HasMore cs 1 mid = record { more = c ∷ []; list = em; count = omega (arith, ap length em, length-append cs (c ∷ [])) } in
    let all : HasMore cs (suc (length (machines_below is))) ds = more_by (omega arith) (more_onward one inside.longer) in
    record {
      wider = widen wide inside.wider;
      kept = kept_onward t r u keep inside.kept;
      table = inside.table;
      longer = all;
      stands = λ scope ks k s right. subst (λ n. StandsForChild m ds scope (Some (record { 0 = length cs })) (child n w)) es' (program_stands g h m t r u links cs mid ds w c put em el inside scope ks k s right);
    }

pub no_child_put : (g : Graph) (t : BTreeMap (Bor (List ℕ)) TermId) (cs : List Child) → IsTable g t → IsProgramPut g t cs g t cs no_child
no_child_put g t cs a = record {
  wider = wide_same g;
  kept = kept_same t;
  table = a;
  longer = more_same cs;
  stands = λ scope ks k s right h behind l b d. no_program h (cs ++ behind) l;
}

-- ---- the loop: the children that are left, put in any wider store, complete those of the instructions

pub record AreToPutInside (g : Graph) (t : BTreeMap (Bor (List ℕ)) TermId) (cs : List Child) (h : Graph) (u : BTreeMap (Bor (List ℕ)) TermId) (ds : List Child) (rest all : WrittenInstructions) : Type 0 where
  pub wider : IsWider g h
  pub kept : IsKept t u
  pub table : IsTable h u
  pub more : List Child
  pub list : ds ≡ cs ++ more
  pub count : length ds + length (machines_below rest) ≡ length cs + length (machines_below all)
  pub stand : (scope : MachineScope) (ks : List ℕ) (names : Entries Visible) → Knows g t None scope.names → StandAt g 0 ks scope.states → are_right (terms_below scope names all) ≡ true
      → (are_right (terms_below scope names rest) ≡ true) × ((k : Graph) (n : ℕ) (es : List Child) → IsWider h k → HasMore ds n es → StandForChildren k es scope (length ds) rest → StandForChildren k es scope (length cs) all)

pub inside_start : (g : Graph) (t : BTreeMap (Bor (List ℕ)) TermId) (cs : List Child) (is : WrittenInstructions) → IsTable g t → AreToPutInside g t cs g t cs is is
inside_start g t cs is a = record {
  wider = wide_same g;
  kept = kept_same t;
  table = a;
  more = [];
  list = sym (append-nil cs);
  count = refl;
  stand = λ scope ks names k s right. (right, λ h n es b m x. x);
}

pub inside_turn : (g h k : Graph) (t u v : BTreeMap (Bor (List ℕ)) TermId) (cs ds es : List Child) (i : WrittenInstruction) (rest all : WrittenInstructions)
    → AreToPutInside g t cs h u ds (and_then i rest) all → IsProgramPut h u ds k v es (program_in i) → AreToPutInside g t cs k v es rest all
inside_turn g h k t u v cs ds es (instruction n d us p) rest all a one =
    let below : length (machines_of_child p ++ machines_below rest) ≡ length (machines_of_child p) + length (machines_below rest) = length-append (machines_of_child p) (machines_below rest) in
    record {
      wider = widen a.wider one.wider;
      kept = kept_onward t u v a.kept one.kept;
      table = one.table;
      more = a.more ++ one.longer.more;
      list = one.longer.list ∙ (ap (λ xs. xs ++ one.longer.more) a.list ∙ append_assoc cs a.more one.longer.more);
      count = omega (arith, a.count, below, one.longer.count);
      stand = λ scope ks names kn st right.
          let at = a.stand scope ks names kn st right in
          let next = next_right scope names (instruction n d us p) rest at.0 in
          let it : StandsForChild k es scope (link_from (length ds) p) p = one.stands scope ks (knows_kept g h t u scope.names a.wider a.kept kn) (stand_wider g h 0 ks scope.states a.wider st) next.0 in (
            next.1,
            λ m j fs wide more x. at.1 m _ fs (widen one.wider wide) (more_onward one.longer more) (
              stands_later k m es fs j scope (link_from (length ds) p) p wide more it,
              subst (λ q. StandForChildren m fs scope q rest) one.longer.count x,
            ),
          );
    }

pub inside_end : (g h : Graph) (t u : BTreeMap (Bor (List ℕ)) TermId) (cs ds : List Child) (all : WrittenInstructions) → AreToPutInside g t cs h u ds no_instructions all → AreChildrenPut g t cs h u ds all
inside_end g h t u cs ds all a = record {
  wider = a.wider;
  kept = a.kept;
  table = a.table;
  longer = record { more = a.more; list = a.list; count = omega (arith, a.count) };
  stand = λ scope ks names k s right. (a.stand scope ks names k s right).1 h 0 ds (wide_same h) (more_same ds) tt;
}
