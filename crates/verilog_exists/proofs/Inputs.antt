-- An input of an instance has one connection.
use Rattle.std.proofs.Common.{◌≡◌, ℕ, zero, suc, ◌+◌, ◌≤◌, Bool, true, false, cond, not, List, [], ◌∷◌, ◌++◌, inl, inr, refl, sym, ap, ◌∙◌, subst, Option, Some, None, arith}
use Rattle.std.specs.Prelude.{◌||◌, nat_le, slice_get}
use Rattle.std.specs.List.{list_any}
use Rattle.std.proofs.lemmas.Bool.Decides.{nat_tests}
use Rattle.wb_values.specs.Value.{Name, same_name}
use Rattle.verilog_trees.specs.Syntax.{Expression, Connections, by_name, by_order, input, Item, port, parameter, wires, variables, assign, always, instances, Module, Source}
use Rattle.verilog_meaning.specs.Hierarchy.{instance_step, PathStep, Placed, module_named, all_parameters, overridable}
use Rattle.verilog_meaning.specs.Settled.{Design, at_path, IsPlacedIn, PortPlace, port_named, port_numbered, Connection, connection_if_any, named_connections, ordered_connections, instance_connections, port_connections, port_meant, port_order, IsConnectedTo}
use Rattle.verilog_designs.specs.Known.{known_scope}
use Rattle.verilog_designs.specs.Names.{count_of, instance_names, all_instance_names, has_duplicate, has_repeated}
use Rattle.verilog_designs.specs.Ports.{connected_names, are_bad_connections, is_badly_connected, are_badly_connected, has_bad_instance, has_bad_port, lacks_direction, lacks_port, has_reg_input, has_unequal_ranges}
use Rattle.verilog_designs.specs.Accepted.{bad_port}
use Rattle.verilog_unique.proofs.Options.{first_false, second_false, not_true, not_is_false, is_same}
use Rattle.verilog_unique.proofs.Descent.{IsAmong, among_left, among_right, among_either}
use Rattle.verilog_unique.proofs.Paths.{stands_at}
use Rattle.verilog_unique.proofs.Instances.{any_false, instance_once}
use Rattle.verilog_unique.proofs.Constants.{is_known}
use Rattle.verilog_exists.specs.Loops.{IsAcceptedButForLoops}
use Rattle.verilog_exists.proofs.Links.{input_link}
use Rattle.verilog_exists.proofs.Memories.{StandsIn, no_duplicate, stands_below}

-- ---- pairs with a name that stands once

abbrev firsts : {A : Type 0} → List (Name × A) → List Name
firsts [] = []
firsts (x ∷ xs) = x.0 ∷ firsts xs

abbrev one_if : Bool → ℕ
one_if b = cond b 1 0

is_one : (b : Bool) → b ≡ true → one_if b ≡ 1
is_one true e = refl
is_one false e = cc

counted : (n : Name) (ns : List Name) → IsAmong ns n → 1 ≤ count_of n ns
counted n [] h = absurd h
counted n (m ∷ ns) (inl e) =
    let f : one_if (same_name m n) ≡ 1 = is_one (same_name m n) (subst (λ k. same_name k n ≡ true) (sym e) (is_same n)) in omega (arith, f)
counted n (m ∷ ns) (inr h) = let f = counted n ns h in omega (arith, f)

first_among : {A : Type 0} (xs : List (Name × A)) (n : Name) (a : A) → IsAmong xs (n, a) → IsAmong (firsts xs) n
first_among [] n a h = absurd h
first_among {A} (x ∷ xs) n a (inl e) = inl (ap (λ (y : Name × A). y.0) e)
first_among (x ∷ xs) n a (inr h) = inr (first_among xs n a h)

one_pair : {A : Type 0} (xs : List (Name × A)) (n : Name) (a b : A) → count_of n (firsts xs) ≤ 1 → IsAmong xs (n, a) → IsAmong xs (n, b) → a ≡ b
one_pair [] n a b l h k = absurd h
one_pair {A} (x ∷ xs) n a b l (inl e) (inl f) = ap (λ (y : Name × A). y.1) (sym e ∙ f)
one_pair {A} (x ∷ xs) n a b l (inl e) (inr k) =
    let here : one_if (same_name x.0 n) ≡ 1 = is_one (same_name x.0 n) (subst (λ (y : Name × A). same_name y.0 n ≡ true) (sym e) (is_same n)) in
    let more = counted n (firsts xs) (first_among xs n b k) in
    absurd (omega (arith, l, here, more))
one_pair {A} (x ∷ xs) n a b l (inr h) (inl f) =
    let here : one_if (same_name x.0 n) ≡ 1 = is_one (same_name x.0 n) (subst (λ (y : Name × A). same_name y.0 n ≡ true) (sym f) (is_same n)) in
    let more = counted n (firsts xs) (first_among xs n a h) in
    absurd (omega (arith, l, here, more))
one_pair (x ∷ xs) n a b l (inr h) (inr k) = one_pair xs n a b (omega (arith, l)) h k

-- names that stand once stand at one place
got_counted : (n : Name) (ns : List Name) (i : ℕ) → slice_get ns i ≡ Some n → 1 ≤ count_of n ns
got_counted n [] i e = cc
got_counted n (m ∷ ns) zero e =
    let same : m ≡ n = cc in counted n (m ∷ ns) (inl same)
got_counted n (m ∷ ns) (suc i) e = let f = got_counted n ns i e in omega (arith, f)

one_place : (n : Name) (ns : List Name) (i j : ℕ) → count_of n ns ≤ 1 → slice_get ns i ≡ Some n → slice_get ns j ≡ Some n → i ≡ j
one_place n [] i j l e f = cc
one_place n (m ∷ ns) zero zero l e f = refl
one_place n (m ∷ ns) zero (suc j) l e f =
    let same : m ≡ n = cc in
    let here : one_if (same_name m n) ≡ 1 = is_one (same_name m n) (subst (λ k. same_name k n ≡ true) (sym same) (is_same n)) in
    let more = got_counted n ns j f in
    absurd (omega (arith, l, here, more))
one_place n (m ∷ ns) (suc i) zero l e f =
    let same : m ≡ n = cc in
    let here : one_if (same_name m n) ≡ 1 = is_one (same_name m n) (subst (λ k. same_name k n ≡ true) (sym same) (is_same n)) in
    let more = got_counted n ns i e in
    absurd (omega (arith, l, here, more))
one_place n (m ∷ ns) (suc i) (suc j) l e f = ap suc (one_place n ns i j (omega (arith, l)) e f)

once_among : (ns : List Name) (n : Name) → has_repeated ns ≡ false → IsAmong ns n → count_of n ns ≤ 1
once_among ns n e h =
    let t : nat_le (count_of n ns) 1 ≡ true = not_is_false (nat_le (count_of n ns) 1) (any_false (λ k. not (nat_le (count_of k ns) 1)) ns n e h) in
    grind (arith, nat_tests, t)

-- ---- instances

abbrev all_instances : List Item → List (Name × Connections)
all_instances [] = []
all_instances (port d ∷ items) = all_instances items
all_instances (parameter d ∷ items) = all_instances items
all_instances (wires signed r ws ∷ items) = all_instances items
all_instances (variables signed r vs ∷ items) = all_instances items
all_instances (assign ts ∷ items) = all_instances items
all_instances (always es x ∷ items) = all_instances items
all_instances (instances m given is ∷ items) = is ++ all_instances items

names_append : (is js : List (Name × Connections)) → firsts (is ++ js) ≡ instance_names is ++ firsts js
names_append [] js = refl
names_append (i ∷ is) js = ap (λ ns. i.0 ∷ ns) (names_append is js)

instances_named : (items : List Item) → firsts (all_instances items) ≡ all_instance_names items
instances_named [] = refl
instances_named (port d ∷ items) = instances_named items
instances_named (parameter d ∷ items) = instances_named items
instances_named (wires signed r ws ∷ items) = instances_named items
instances_named (variables signed r vs ∷ items) = instances_named items
instances_named (assign ts ∷ items) = instances_named items
instances_named (always es x ∷ items) = instances_named items
instances_named (instances m given is ∷ items) = names_append is (all_instances items) ∙ ap (λ ns. instance_names is ++ ns) (instances_named items)

in_instances : (items : List Item) (m : Name) (given : Connections) (is : List (Name × Connections)) (i : Name × Connections)
    → IsAmong items (instances m given is) → IsAmong is i → IsAmong (all_instances items) i
in_instances [] m given is i h k = absurd h
in_instances (port d ∷ items) m given is i (inl e) k = cc
in_instances (port d ∷ items) m given is i (inr h) k = in_instances items m given is i h k
in_instances (parameter d ∷ items) m given is i (inl e) k = cc
in_instances (parameter d ∷ items) m given is i (inr h) k = in_instances items m given is i h k
in_instances (wires signed r ws ∷ items) m given is i (inl e) k = cc
in_instances (wires signed r ws ∷ items) m given is i (inr h) k = in_instances items m given is i h k
in_instances (variables signed r vs ∷ items) m given is i (inl e) k = cc
in_instances (variables signed r vs ∷ items) m given is i (inr h) k = in_instances items m given is i h k
in_instances (assign ts ∷ items) m given is i (inl e) k = cc
in_instances (assign ts ∷ items) m given is i (inr h) k = in_instances items m given is i h k
in_instances (always es x ∷ items) m given is i (inl e) k = cc
in_instances (always es x ∷ items) m given is i (inr h) k = in_instances items m given is i h k
in_instances (instances o g js ∷ items) m given is i (inl e) k =
    let same : js ≡ is = cc in among_left js (all_instances items) i (subst (λ x. IsAmong x i) (sym same) k)
in_instances (instances o g js ∷ items) m given is i (inr h) k = among_right js (all_instances items) i (in_instances items m given is i h k)

one_instance : (m : Module) (u : Name) (a b : Connections) → has_duplicate m ≡ false → IsAmong (all_instances m.items) (u, a) → IsAmong (all_instances m.items) (u, b)
    → a ≡ b
one_instance m u a b e h k =
    one_pair (all_instances m.items) u a b
    (subst (λ ns. count_of u ns ≤ 1) (sym (instances_named m.items))
    (instance_once m u e (subst (λ ns. IsAmong ns u) (instances_named m.items) (first_among (all_instances m.items) u a h)))) h k

-- ---- connections of one instance

abbrev connection_to : Name → PortPlace → Expression → Connection
connection_to u q e = record { of_instance = u; to_port = q; expression = e }

named_is : (u : Name) (es : List (Name × Option Expression)) (c : Connection) → IsAmong (named_connections u es) c
    → (n : Name) × (e : Expression) × IsAmong es (n, Some e) × (c ≡ connection_to u (port_named n) e)
named_is u [] c h = absurd h
named_is u (x ∷ es) c h =
    elim (among_either (connection_if_any u (port_named x.0) x.1) (named_connections u es) c h)
    as (λ _. (n : Name) × (e : Expression) × IsAmong (x ∷ es) (n, Some e) × (c ≡ connection_to u (port_named n) e)) [
      | inl k ↦ here x.1 refl k
      | inr k ↦ let r = named_is u es c k in (r.0, r.1, inr r.2, r.3)
    ]
  where
    here : (y : Option Expression) → x.1 ≡ y → IsAmong (connection_if_any u (port_named x.0) y) c
        → (n : Name) × (e : Expression) × IsAmong (x ∷ es) (n, Some e) × (c ≡ connection_to u (port_named n) e)
    here None g k = absurd k
    here (Some e) g (inl k) = (x.0, e, inl (ap (λ z. (x.0, z)) g), sym k)
    here (Some e) g (inr k) = absurd k

ordered_is : (u : Name) (i : ℕ) (es : List (Option Expression)) (c : Connection) → IsAmong (ordered_connections u i es) c
    → (j : ℕ) × (e : Expression) × (slice_get es j ≡ Some (Some e)) × (c ≡ connection_to u (port_numbered (i + j)) e)
ordered_is u i [] c h = absurd h
ordered_is u i (x ∷ es) c h =
    elim (among_either (connection_if_any u (port_numbered i) x) (ordered_connections u (suc i) es) c h)
    as (λ _. (j : ℕ) × (e : Expression) × (slice_get (x ∷ es) j ≡ Some (Some e)) × (c ≡ connection_to u (port_numbered (i + j)) e)) [
      | inl k ↦ here x refl k
      | inr k ↦ let r = ordered_is u (suc i) es c k in
          (suc r.0, r.1, r.2, r.3 ∙ ap (λ z. connection_to u (port_numbered z) r.1) (moved i r.0))
    ]
  where
    moved : (a b : ℕ) → suc a + b ≡ a + suc b
    moved a b = omega arith

    here : (y : Option Expression) → x ≡ y → IsAmong (connection_if_any u (port_numbered i) y) c
        → (j : ℕ) × (e : Expression) × (slice_get (x ∷ es) j ≡ Some (Some e)) × (c ≡ connection_to u (port_numbered (i + j)) e)
    here None g k = absurd k
    here (Some e) g (inl k) = (0, e, ap Some g, sym k ∙ ap (λ z. connection_to u (port_numbered z) e) (omega arith))
    here (Some e) g (inr k) = absurd k

names_are : (es : List (Name × Option Expression)) → connected_names es ≡ firsts es
names_are [] = refl
names_are (e ∷ es) = ap (λ ns. e.0 ∷ ns) (names_are es)

some_same : {A : Type 0} {x y : A} → Some x ≡ Some y → x ≡ y
some_same e = cc

one_connection : (m : Module) (u : Name) (cs : Connections) (n : Name) (b c : Connection) → are_bad_connections (port_order m) cs ≡ false
    → has_repeated (port_order m) ≡ false → IsAmong (instance_connections u cs) b → IsAmong (instance_connections u cs) c
    → port_meant m b.to_port ≡ Some n → port_meant m c.to_port ≡ Some n → b ≡ c
one_connection m u (by_name es) n b c bad repeated hb hc mb mc =
    let x = named_is u es b hb in
    let y = named_is u es c hc in
    let xn : x.0 ≡ n = some_same (ap (λ (z : Connection). port_meant m z.to_port) (sym x.3) ∙ mb) in
    let yn : y.0 ≡ n = some_same (ap (λ (z : Connection). port_meant m z.to_port) (sym y.3) ∙ mc) in
    let once : has_repeated (connected_names es) ≡ false = second_false _ (has_repeated (connected_names es)) bad in
    let xe : IsAmong es (n, Some x.1) = subst (λ k. IsAmong es (k, Some x.1)) xn x.2 in
    let ye : IsAmong es (n, Some y.1) = subst (λ k. IsAmong es (k, Some y.1)) yn y.2 in
    let few : count_of n (firsts es) ≤ 1 =
    once_among (firsts es) n (subst (λ ns. has_repeated ns ≡ false) (names_are es) once) (first_among es n (Some x.1) xe) in
    let same : x.1 ≡ y.1 = some_same (one_pair es n (Some x.1) (Some y.1) few xe ye) in
    x.3 ∙ ap (λ k. connection_to u (port_named k) x.1) (xn ∙ sym yn) ∙ ap (connection_to u (port_named y.0)) same ∙ sym y.3
one_connection m u (by_order es) n b c bad repeated hb hc mb mc =
    let x = ordered_is u 0 es b hb in
    let y = ordered_is u 0 es c hc in
    let xn : slice_get (port_order m) (0 + x.0) ≡ Some n = ap (λ (z : Connection). port_meant m z.to_port) (sym x.3) ∙ mb in
    let yn : slice_get (port_order m) (0 + y.0) ≡ Some n = ap (λ (z : Connection). port_meant m z.to_port) (sym y.3) ∙ mc in
    let at_same : 0 + x.0 ≡ 0 + y.0 = one_place n (port_order m) (0 + x.0) (0 + y.0) (once_got (port_order m) (0 + x.0) repeated xn) xn yn in
    let place : x.0 ≡ y.0 = omega (arith, at_same) in
    let same : x.1 ≡ y.1 = some_same (some_same (sym x.2 ∙ ap (slice_get es) place ∙ y.2)) in
    x.3 ∙ ap (λ k. connection_to u (port_numbered k) x.1) at_same ∙ ap (connection_to u (port_numbered (0 + y.0))) same ∙ sym y.3
  where
    got_among : (ns : List Name) (i : ℕ) → slice_get ns i ≡ Some n → IsAmong ns n
    got_among [] i e = cc
    got_among (k ∷ ns) zero e = inl cc
    got_among (k ∷ ns) (suc i) e = inr (got_among ns i e)

    once_got : (ns : List Name) (i : ℕ) → has_repeated ns ≡ false → slice_get ns i ≡ Some n → count_of n ns ≤ 1
    once_got ns i e f = once_among ns n e (got_among ns i f)

-- ---- in an accepted design

good_item : (source : Source) (items : List Item) (m : Name) (given : Connections) (is : List (Name × Connections)) → has_bad_instance source items ≡ false
    → IsAmong items (instances m given is) → are_badly_connected (module_named source m) given is ≡ false
good_item source [] m given is e h = absurd h
good_item source (port d ∷ items) m given is e (inl f) = cc
good_item source (port d ∷ items) m given is e (inr h) = good_item source items m given is e h
good_item source (parameter d ∷ items) m given is e (inl f) = cc
good_item source (parameter d ∷ items) m given is e (inr h) = good_item source items m given is e h
good_item source (wires signed r ws ∷ items) m given is e (inl f) = cc
good_item source (wires signed r ws ∷ items) m given is e (inr h) = good_item source items m given is e h
good_item source (variables signed r vs ∷ items) m given is e (inl f) = cc
good_item source (variables signed r vs ∷ items) m given is e (inr h) = good_item source items m given is e h
good_item source (assign ts ∷ items) m given is e (inl f) = cc
good_item source (assign ts ∷ items) m given is e (inr h) = good_item source items m given is e h
good_item source (always es x ∷ items) m given is e (inl f) = cc
good_item source (always es x ∷ items) m given is e (inr h) = good_item source items m given is e h
good_item source (instances o g js ∷ items) m given is e (inl f) =
    let om : o ≡ m = cc in
    let gg : g ≡ given = cc in
    let ji : js ≡ is = cc in
    subst (λ k. are_badly_connected (module_named source k) given is ≡ false) om
    (subst (λ k. are_badly_connected (module_named source o) k is ≡ false) gg
    (subst (λ k. are_badly_connected (module_named source o) g k ≡ false) ji
    (first_false (are_badly_connected (module_named source o) g js) (has_bad_instance source items) e)))
good_item source (instances o g js ∷ items) m given is e (inr h) =
    good_item source items m given is (second_false (are_badly_connected (module_named source o) g js) (has_bad_instance source items) e) h

module _ (d : Design) (accepted : IsAcceptedButForLoops d) where
  good_instances : (p : Placed) → IsPlacedIn d p → has_bad_instance d.source p.of_module.items ≡ false
  good_instances p at =
      let q = is_known d p.path p at in
      subst (λ m. has_bad_instance d.source m.items ≡ false) q.2
      (second_false (has_reg_input q.0.of_module || has_unequal_ranges (known_scope q.0) q.0.of_module) (has_bad_instance d.source q.0.of_module.items)
      (second_false (lacks_direction q.0.of_module || lacks_port q.0.of_module)
      ((has_reg_input q.0.of_module || has_unequal_ranges (known_scope q.0) q.0.of_module) || has_bad_instance d.source q.0.of_module.items)
      (not_true (has_bad_port d.source q.0) (λ t. accepted bad_port (λ e. cc) (record { path = p.path; place = q.0; is_placed = q.1; is_so = t })))))

  good_connections : (around : Placed) → IsPlacedIn d around → (c : Connection) (p : Placed) → (s : StandsIn d around c p)
      → are_bad_connections (port_order p.of_module) s.place.connections ≡ false
  good_connections around at c p s =
      first_false (are_bad_connections (port_order p.of_module) s.place.connections) _
      (any_false (is_badly_connected p.of_module) s.place.each (c.of_instance, s.place.connections)
      (second_false (are_bad_connections (overridable (all_parameters p.of_module)) s.place.given) (list_any (is_badly_connected p.of_module) s.place.each)
      (subst (λ x. are_badly_connected x s.place.given s.place.each ≡ false) s.is_below
      (good_item d.source around.of_module.items s.place.of_module s.place.given s.place.each (good_instances around at) s.place.is_item)))
      s.place.is_instance)

  head_same : (u w : PathStep) (us ws : List PathStep) → u ∷ us ≡ w ∷ ws → u ≡ w
  head_same u w us ws e = cc

  tail_same : (u w : PathStep) (us ws : List PathStep) → u ∷ us ≡ w ∷ ws → us ≡ ws
  tail_same u w us ws e = cc

  -- two connections to one port from one module
  one_here : (p around : Placed) (b c : Connection) (n : Name) → IsPlacedIn d p → IsPlacedIn d around
      → IsAmong (port_connections around.of_module.items) b → IsAmong (port_connections around.of_module.items) c
      → IsConnectedTo d around b p n input → IsConnectedTo d around c p n input → b.of_instance ≡ c.of_instance → b ≡ c
  one_here p around b c n p_at at hb hc fb fc step =
      let sb : StandsIn d around b p = stands_below d accepted around at b hb p fb.is_below in
      let sc : StandsIn d around c p = stands_below d accepted around at c hc p fc.is_below in
      let same : sb.place.connections ≡ sc.place.connections =
      one_instance around.of_module b.of_instance sb.place.connections sc.place.connections (no_duplicate d accepted around at)
      (in_instances around.of_module.items sb.place.of_module sb.place.given sb.place.each (b.of_instance, sb.place.connections) sb.place.is_item sb.place.is_instance)
      (subst (λ u. IsAmong (all_instances around.of_module.items) (u, sc.place.connections)) (sym step)
      (in_instances around.of_module.items sc.place.of_module sc.place.given sc.place.each (c.of_instance, sc.place.connections) sc.place.is_item sc.place.is_instance)) in
      one_connection p.of_module b.of_instance sb.place.connections n b c (good_connections around at b p sb)
      (second_false _ (has_repeated (port_order p.of_module)) (no_duplicate d accepted p p_at)) sb.place.is_one
      (subst (λ u. IsAmong (instance_connections u sb.place.connections) c) (sym step)
      (subst (λ cs. IsAmong (instance_connections c.of_instance cs) c) (sym same) sc.place.is_one)) fb.is_meant fc.is_meant

  pub one_input : (p around other : Placed) (b c : Connection) (n : Name) → IsPlacedIn d p → IsPlacedIn d around → IsPlacedIn d other
      → IsAmong (port_connections around.of_module.items) b → IsAmong (port_connections other.of_module.items) c
      → IsConnectedTo d around b p n input → IsConnectedTo d other c p n input → input_link around b n ≡ input_link other c n
  one_input p around other b c n p_at around_at other_at hb hc fb fc =
      let path : instance_step b.of_instance ∷ around.path ≡ instance_step c.of_instance ∷ other.path =
      sym (stands_at d (instance_step b.of_instance ∷ around.path) p fb.is_below) ∙ stands_at d (instance_step c.of_instance ∷ other.path) p fc.is_below in
      let step : b.of_instance ≡ c.of_instance =
      ap (λ (u : PathStep). u.of_name) (head_same (instance_step b.of_instance) (instance_step c.of_instance) around.path other.path path) in
      let same : other ≡ around =
      some_same (sym other_at ∙ sym (ap (at_path d) (tail_same (instance_step b.of_instance) (instance_step c.of_instance) around.path other.path path)) ∙ around_at) in
      ap (λ x. input_link around x n)
      (one_here p around b c n p_at around_at hb (subst (λ (x : Placed). IsAmong (port_connections x.of_module.items) c) same hc) fb
      (subst (λ x. IsConnectedTo d x c p n input) same fc) step)
      ∙ ap (λ x. input_link x c n) (sym same)
