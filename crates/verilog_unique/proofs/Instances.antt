-- In a module without duplicate names a connection belongs to the one instance of its name.
use Rattle.std.proofs.Common.{◌≡◌, ℕ, suc, ◌+◌, ◌≤◌, Bool, true, false, cond, List, [], ◌∷◌, ◌++◌, inl, inr, refl, sym, ap, ◌∙◌, subst, Option, Some, None, arith}
use Rattle.std.specs.Prelude.{IsTrue, not, ◌&&◌, ◌||◌, ◌==◌, nat_le, is_some, is_none}
use Rattle.std.specs.List.{list_any}
use Rattle.std.proofs.lemmas.Bool.Decides.{nat_tests}
use Rattle.wb_values.specs.Value.{Name, same_name}
use Rattle.wb_values.specs.Choice.{first_of}
use Rattle.verilog_trees.specs.Syntax.{Expression, Connections, by_name, by_order, Item, port, parameter, wires, variables, assign, always, instances, Module}
use Rattle.verilog_meaning.specs.Hierarchy.{Instance, instance_among, instance_named, declarations, Declaration, all_parameters}
use Rattle.verilog_meaning.specs.Settled.{port_order, PortPlace, port_named, port_numbered, Connection, connection_if_any, named_connections, ordered_connections, instance_connections, connections_of_each, port_connections}
use Rattle.verilog_designs.specs.Names.{count_of, instance_names, all_instance_names, names_where, is_bare_port, is_net_alone, parameter_names, declared_names, is_once, has_duplicate, has_repeated}
use Rattle.verilog_unique.proofs.Options.{same_is, is_same, first_false, not_is_false}
use Rattle.verilog_unique.proofs.Descent.{IsAmong, among_left, among_right, among_either}

-- ---- where a connection stands

-- the item and the instance to which a connection belongs
pub record Belongs (items : List Item) (c : Connection) : Type 0 where
  pub of_module : Name
  pub given : Connections
  pub each : List (Name × Connections)
  pub connections : Connections
  pub is_item : IsAmong items (instances of_module given each)
  pub is_instance : IsAmong each (c.of_instance, connections)
  pub is_one : IsAmong (instance_connections c.of_instance connections) c

if_any_of : (u : Name) (q : PortPlace) (x : Option Expression) (c : Connection) → IsAmong (connection_if_any u q x) c → u ≡ c.of_instance
if_any_of u q None c h = absurd h
if_any_of u q (Some e) c (inl f) = ap (λ (d : Connection). d.of_instance) f
if_any_of u q (Some e) c (inr f) = absurd f

named_of : (u : Name) (cs : List (Name × Option Expression)) (c : Connection) → IsAmong (named_connections u cs) c → u ≡ c.of_instance
named_of u [] c h = absurd h
named_of u (x ∷ cs) c h =
    elim (among_either (connection_if_any u (port_named x.0) x.1) (named_connections u cs) c h) as (λ _. u ≡ c.of_instance)
    [ inl k ↦ if_any_of u (port_named x.0) x.1 c k | inr k ↦ named_of u cs c k ]

ordered_of : (u : Name) (i : ℕ) (es : List (Option Expression)) (c : Connection) → IsAmong (ordered_connections u i es) c → u ≡ c.of_instance
ordered_of u i [] c h = absurd h
ordered_of u i (x ∷ es) c h =
    elim (among_either (connection_if_any u (port_numbered i) x) (ordered_connections u (suc i) es) c h) as (λ _. u ≡ c.of_instance)
    [ inl k ↦ if_any_of u (port_numbered i) x c k | inr k ↦ ordered_of u (suc i) es c k ]

instance_of : (u : Name) (cs : Connections) (c : Connection) → IsAmong (instance_connections u cs) c → u ≡ c.of_instance
instance_of u (by_name cs) c h = named_of u cs c h
instance_of u (by_order es) c h = ordered_of u 0 es c h

each_of : (is : List (Name × Connections)) (c : Connection) → IsAmong (connections_of_each is) c
    → (cs : Connections) × IsAmong is (c.of_instance, cs) × IsAmong (instance_connections c.of_instance cs) c
each_of [] c h = absurd h
each_of (i ∷ is) c h =
    elim (among_either (instance_connections i.0 i.1) (connections_of_each is) c h)
    as (λ _. (cs : Connections) × IsAmong (i ∷ is) (c.of_instance, cs) × IsAmong (instance_connections c.of_instance cs) c) [
      | inl k ↦ let e : i.0 ≡ c.of_instance = instance_of i.0 i.1 c k in
          (i.1, inl (ap (λ u. (u, i.1)) e), subst (λ u. IsAmong (instance_connections u i.1) c) e k)
      | inr k ↦ let f = each_of is c k in (f.0, inr f.1, f.2)
    ]

further : (x : Item) (items : List Item) (c : Connection) → Belongs items c → Belongs (x ∷ items) c
further x items c h =
    record { of_module = h.of_module; given = h.given; each = h.each; connections = h.connections; is_item = inr h.is_item; is_instance = h.is_instance; is_one = h.is_one }

pub belongs : (items : List Item) (c : Connection) → IsAmong (port_connections items) c → Belongs items c
belongs [] c h = absurd h
belongs (port d ∷ items) c h = further (port d) items c (belongs items c h)
belongs (parameter d ∷ items) c h = further (parameter d) items c (belongs items c h)
belongs (wires signed r ws ∷ items) c h = further (wires signed r ws) items c (belongs items c h)
belongs (variables signed r vs ∷ items) c h = further (variables signed r vs) items c (belongs items c h)
belongs (assign ts ∷ items) c h = further (assign ts) items c (belongs items c h)
belongs (always es x ∷ items) c h = further (always es x) items c (belongs items c h)
belongs (instances m given is ∷ items) c h =
    elim (among_either (connections_of_each is) (port_connections items) c h) as (λ _. Belongs (instances m given is ∷ items) c) [
      | inl k ↦ let f = each_of is c k in
          record { of_module = m; given = given; each = is; connections = f.0; is_item = inl refl; is_instance = f.1; is_one = f.2 }
      | inr k ↦ further (instances m given is) items c (belongs items c k)
    ]

-- ---- counts

abbrev one_if : Bool → ℕ
one_if b = cond b 1 0

is_one : (b : Bool) → b ≡ true → one_if b ≡ 1
is_one true e = refl
is_one false e = cc

counted : (n : Name) (ns : List Name) → IsAmong ns n → 1 ≤ count_of n ns
counted n [] h = absurd h
counted n (m ∷ ns) (inl e) =
    let f : one_if (same_name m n) ≡ 1 = is_one (same_name m n) (subst (λ k. same_name k n ≡ true) (sym e) (is_same n)) in omega (arith, f)
counted n (m ∷ ns) (inr h) = let f = counted n ns h in omega (arith, f)

count_joined : (n : Name) (ns ms : List Name) → count_of n (ns ++ ms) ≡ count_of n ns + count_of n ms
count_joined n [] ms = omega arith
count_joined n (k ∷ ns) ms = let f = count_joined n ns ms in omega (arith, f)

among_names : (is : List (Name × Connections)) (u : Name) (cs : Connections) → IsAmong is (u, cs) → IsAmong (instance_names is) u
among_names [] u cs h = absurd h
among_names (i ∷ is) u cs (inl e) = inl (ap (λ (x : Name × Connections). x.0) e)
among_names (i ∷ is) u cs (inr h) = inr (among_names is u cs h)

item_names : (items : List Item) (m : Name) (given : Connections) (is : List (Name × Connections)) (u : Name) → IsAmong items (instances m given is)
    → IsAmong (instance_names is) u → IsAmong (all_instance_names items) u
item_names [] m given is u h k = absurd h
item_names (port d ∷ items) m given is u (inl e) k = cc
item_names (port d ∷ items) m given is u (inr h) k = item_names items m given is u h k
item_names (parameter d ∷ items) m given is u (inl e) k = cc
item_names (parameter d ∷ items) m given is u (inr h) k = item_names items m given is u h k
item_names (wires signed r ws ∷ items) m given is u (inl e) k = cc
item_names (wires signed r ws ∷ items) m given is u (inr h) k = item_names items m given is u h k
item_names (variables signed r vs ∷ items) m given is u (inl e) k = cc
item_names (variables signed r vs ∷ items) m given is u (inr h) k = item_names items m given is u h k
item_names (assign ts ∷ items) m given is u (inl e) k = cc
item_names (assign ts ∷ items) m given is u (inr h) k = item_names items m given is u h k
item_names (always es x ∷ items) m given is u (inl e) k = cc
item_names (always es x ∷ items) m given is u (inr h) k = item_names items m given is u h k
item_names (instances o g js ∷ items) m given is u (inl e) k =
    let same : js ≡ is = cc in among_left (instance_names js) (all_instance_names items) u (subst (λ x. IsAmong (instance_names x) u) (sym same) k)
item_names (instances o g js ∷ items) m given is u (inr h) k =
    among_right (instance_names js) (all_instance_names items) u (item_names items m given is u h k)

-- an instance that is found is named, and one that is named is found, as one of this module
found_named : (m : Name) (given : Connections) (is : List (Name × Connections)) (u : Name) (i : Instance) → instance_among m given is u ≡ Some i
    → IsAmong (instance_names is) u × (i.of_module ≡ m)
found_named m given [] u i e = cc
found_named m given (x ∷ is) u i e = chosen (same_name x.0 u) (λ t. same_is x.0 u t) (found_named m given is u i) e
  where
    chosen : (b : Bool) → (b ≡ true → x.0 ≡ u) → (instance_among m given is u ≡ Some i → IsAmong (instance_names is) u × (i.of_module ≡ m))
        → cond b (Some (record { of_module = m; parameters = given; connections = x.1 })) (instance_among m given is u) ≡ Some i
        → IsAmong (instance_names (x ∷ is)) u × (i.of_module ≡ m)
    chosen true f g h =
        let same : record { of_module = m; parameters = given; connections = x.1 } ≡ i = cc in (inl (f refl), ap (λ (j : Instance). j.of_module) (sym same))
    chosen false f g h = let found = g h in (inr found.0, found.1)

named_found : (m : Name) (given : Connections) (is : List (Name × Connections)) (u : Name) → IsAmong (instance_names is) u → instance_among m given is u ≡ None → ⊥
named_found m given [] u h e = h
named_found m given (x ∷ is) u h e = chosen (same_name x.0 u) refl (λ k g. named_found m given is u k g) h e
  where
    chosen : (b : Bool) → same_name x.0 u ≡ b → (IsAmong (instance_names is) u → instance_among m given is u ≡ None → ⊥)
        → IsAmong (instance_names (x ∷ is)) u → cond b (Some (record { of_module = m; parameters = given; connections = x.1 })) (instance_among m given is u) ≡ None → ⊥
    chosen true f o k g = cc
    chosen false f o (inl k) g = let t : same_name x.0 u ≡ true = subst (λ y. same_name x.0 y ≡ true) k (is_same x.0) in cc
    chosen false f o (inr k) g = o k g

-- the instance of a name that stands once is that of its item
one_item : (items : List Item) (u : Name) (i : Instance) (m : Name) (given : Connections) (is : List (Name × Connections))
    → instance_named items u ≡ Some i → count_of u (all_instance_names items) ≤ 1 → IsAmong items (instances m given is)
    → IsAmong (instance_names is) u → i.of_module ≡ m
one_item [] u i m given is e l h k = absurd h
one_item (port d ∷ items) u i m given is e l (inl f) k = cc
one_item (port d ∷ items) u i m given is e l (inr h) k = one_item items u i m given is e l h k
one_item (parameter d ∷ items) u i m given is e l (inl f) k = cc
one_item (parameter d ∷ items) u i m given is e l (inr h) k = one_item items u i m given is e l h k
one_item (wires signed r ws ∷ items) u i m given is e l (inl f) k = cc
one_item (wires signed r ws ∷ items) u i m given is e l (inr h) k = one_item items u i m given is e l h k
one_item (variables signed r vs ∷ items) u i m given is e l (inl f) k = cc
one_item (variables signed r vs ∷ items) u i m given is e l (inr h) k = one_item items u i m given is e l h k
one_item (assign ts ∷ items) u i m given is e l (inl f) k = cc
one_item (assign ts ∷ items) u i m given is e l (inr h) k = one_item items u i m given is e l h k
one_item (always es x ∷ items) u i m given is e l (inl f) k = cc
one_item (always es x ∷ items) u i m given is e l (inr h) k = one_item items u i m given is e l h k
one_item (instances o g js ∷ items) u i m given is e l h k =
    found (λ a c f. one_item items u i m given is a c f k) (instance_among o g js u) refl e h
  where
    sums : count_of u (instance_names js ++ all_instance_names items) ≡ count_of u (instance_names js) + count_of u (all_instance_names items)
    sums = count_joined u (instance_names js) (all_instance_names items)

    found : (instance_named items u ≡ Some i → count_of u (all_instance_names items) ≤ 1 → IsAmong items (instances m given is) → i.of_module ≡ m)
        → (x : Option Instance) → instance_among o g js u ≡ x → first_of x (instance_named items u) ≡ Some i
        → IsAmong (instances o g js ∷ items) (instances m given is) → i.of_module ≡ m
    found r None a b (inl f) =
        let same : js ≡ is = cc in absurd (named_found o g js u (subst (λ y. IsAmong (instance_names y) u) (sym same) k) a)
    found r None a b (inr f) = r b (omega (arith, l, sums)) f
    found r (Some j) a b (inl f) =
        let same : j ≡ i = cc in
        let name : o ≡ m = cc in
        ap (λ (y : Instance). y.of_module) (sym same) ∙ (found_named o g js u j a).1 ∙ name
    found r (Some j) a b (inr f) =
        let first = counted u (instance_names js) (found_named o g js u j a).0 in
        let second = counted u (all_instance_names items) (item_names items m given is u f k) in
        absurd (omega (arith, l, sums, first, second))

-- ---- a name that is declared once

pub any_false : {A : Type 0} (p : A → Bool) (xs : List A) (x : A) → list_any p xs ≡ false → IsAmong xs x → p x ≡ false
any_false p [] x e h = absurd h
any_false p (y ∷ xs) x e (inl f) = subst (λ z. p z ≡ false) f (first_false (p y) (list_any p xs) e)
any_false p (y ∷ xs) x e (inr h) = any_false p xs x (second (p y) (list_any p xs) e) h
  where
    second : (a b : Bool) → (a || b) ≡ false → b ≡ false
    second true b f = cc
    second false b f = f

one_name : (n : Name) (b : Bool) (m : Name) (ns : List Name) → count_of n (cond b (m ∷ []) [] ++ ns) ≡ cond b (cond (same_name m n) 1 0) 0 + count_of n ns
one_name n true m ns = refl
one_name n false m ns = omega arith

apart : (a : Bool) (b : Bool) (x y z t : ℕ) → x + y ≤ z → cond (not a && b) t 0 + x + (cond a t 0 + y) ≤ t + z
apart true b x y z t l = omega (arith, l)
apart false true x y z t l = omega (arith, l)
apart false false x y z t l = omega (arith, l)

port_and_net : (n : Name) (ds : List Declaration)
    → count_of n (names_where is_bare_port ds) + count_of n (names_where is_net_alone ds) ≤ count_of n (names_where (λ d. true) ds)
port_and_net n [] = omega arith
port_and_net n (d ∷ ds) =
    let l = port_and_net n ds in
    let bare = one_name n (is_bare_port d) d.of_name (names_where is_bare_port ds) in
    let net = one_name n (is_net_alone d) d.of_name (names_where is_net_alone ds) in
    let all = one_name n true d.of_name (names_where (λ e. true) ds) in
    rw (bare, net, all)
    (first (is_some d.direction) (is_none d.direction) (is_none d.kind) (opposite d.direction) (count_of n (names_where is_bare_port ds))
    (count_of n (names_where is_net_alone ds)) (count_of n (names_where (λ e. true) ds)) (cond (same_name d.of_name n) 1 0) l)
  where
    opposite : {A : Type 0} (x : Option A) → is_some x ≡ not (is_none x)
    opposite None = refl
    opposite (Some a) = refl

    first : (some none kind : Bool) → some ≡ not none → (x y z t : ℕ) → x + y ≤ z → cond (some && kind) t 0 + x + (cond none t 0 + y) ≤ t + z
    first some none kind e x y z t l = rw e (apart none kind x y z t l)

once : (a b c d : ℕ) → b + c ≤ d → IsTrue (nat_le (d + a) 1 || ((d + a == 2) && (b == 1 && c == 1))) → a ≤ 1
once a b c d l t = grind (arith, nat_tests, l, t)

three : (n : Name) (ns ms ks : List Name) → count_of n ((ns ++ ms) ++ ks) ≡ count_of n ns + (count_of n ms + count_of n ks)
three n ns ms ks = let f = count_joined n (ns ++ ms) ks in let g = count_joined n ns ms in omega (arith, f, g)

pub instance_once : (m : Module) (u : Name) → has_duplicate m ≡ false → IsAmong (all_instance_names m.items) u → count_of u (all_instance_names m.items) ≤ 1
instance_once m u e h =
    let all : List Name = names_where (λ d. true) (declarations m) in
    let parameters : List Name = parameter_names (all_parameters m) in
    let is_true : is_once m u ≡ true =
    not_is_false (is_once m u)
    (any_false (λ n. not (is_once m n)) (declared_names m) u (first_false (list_any (λ n. not (is_once m n)) (declared_names m)) (has_repeated (port_order m)) e)
    (among_right (all ++ parameters) (all_instance_names m.items) u h)) in
    let sum : count_of u (declared_names m) ≡ count_of u all + (count_of u parameters + count_of u (all_instance_names m.items)) =
    three u all parameters (all_instance_names m.items) in
    let some : count_of u parameters + count_of u (all_instance_names m.items) ≤ 1 =
    once (count_of u parameters + count_of u (all_instance_names m.items)) (count_of u (names_where is_bare_port (declarations m))) (count_of u (names_where is_net_alone (declarations m)))
    (count_of u all) (port_and_net u (declarations m)) (subst (λ k. IsTrue (nat_le k 1 || ((k == 2)
    && (count_of u (names_where is_bare_port (declarations m)) == 1 && count_of u (names_where is_net_alone (declarations m)) == 1)))) sum is_true) in
    omega (arith, some)

-- The instance that has the name of a connection is of the module of the item where the connection stands.
pub one_module : (m : Module) (c : Connection) (i : Instance) → has_duplicate m ≡ false → (b : Belongs m.items c)
    → instance_named m.items c.of_instance ≡ Some i → i.of_module ≡ b.of_module
one_module m c i e b h =
    let named = among_names b.each c.of_instance b.connections b.is_instance in
    one_item m.items c.of_instance i b.of_module b.given b.each h
    (instance_once m c.of_instance e (item_names m.items b.of_module b.given b.each c.of_instance b.is_item named)) b.is_item named
