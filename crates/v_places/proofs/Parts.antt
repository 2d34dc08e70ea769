-- What stands below a module, item by item and instance by instance.
use Rattle.std.proofs.Common.{◌≡◌, ℕ, suc, ◌+◌, ◌<◌, ◌≤◌, List, [], ◌∷◌, ◌++◌, append_assoc, append-nil, length, drop, get_or, map, refl, sym, ap, ◌∙◌, subst, Option, Some, None, Bool, true, false, add-one, drop-cons}
use Rattle.std.proofs.lemmas.Bool.{false≢true}
use mathlib.Core.Path.{fun_ext}
use Rattle.wb_values.specs.Value.{Name, Entries}
use Rattle.verilog_trees.specs.Syntax as pure
use Rattle.verilog_trees.specs.Syntax.{Connections, port, parameter, wires, variables, assign, always, instances, Module}
use Rattle.verilog_meaning.specs.Expression.{Object}
use Rattle.verilog_meaning.specs.Hierarchy.{Instance}
use Rattle.verilog_designs.specs.Known.{KnownOverrides, known_constants, known_module_scope, known_overrides}
use Rattle.v_syntax.specs.declared.module.Instance.{Instance as CodeInstance}
use Rattle.v_syntax.specs.declared.module.Item.{Item}
use Rattle.v_syntax.specs.Source.{connections_of, item_of, module_of}
use Rattle.v_places.specs.Views.{each_if_any}
use Rattle.v_places.specs.Below.{Spot, each_instance, all_instances, item_instances, each_spot, spot_below, one_if_any, below_by}

abbrev pub pairs_of : List CodeInstance → List (Name × Connections)
pairs_of is = map (λ (i : CodeInstance). (i.name.now, connections_of i.connections)) is

-- ---- instances of one module

pub each_below : (modules : Name → Option Module) (k : ℕ) (x : Spot) (name : Name) (c : Connections) (m : Module) → modules name ≡ Some m → (is : List CodeInstance)
    → each_spot k m (known_overrides (known_module_scope x.of_module x.constants) c m) (pairs_of is) ≡ below_by modules k x (each_instance name c (pairs_of is))
each_below modules k x name c m e [] = refl
each_below modules k x name c m e (i ∷ is) =
    let u : Name × Instance = (i.name.now, record { of_module = name; parameters = c; connections = connections_of i.connections }) in
    ap (λ zs. spot_below k x u m ∷ zs) (each_below modules k x name c m e is)
    ∙ ap (λ o. one_if_any k x u o ++ below_by modules k x (each_instance name c (pairs_of is))) (sym e)

pub none_below : (modules : Name → Option Module) (k : ℕ) (x : Spot) (name : Name) (c : Connections) → modules name ≡ None → (is : List CodeInstance)
    → below_by modules k x (each_instance name c (pairs_of is)) ≡ []
none_below modules k x name c e [] = refl
none_below modules k x name c e (i ∷ is) =
    let u : Name × Instance = (i.name.now, record { of_module = name; parameters = c; connections = connections_of i.connections }) in
    ap (λ o. one_if_any k x u o ++ below_by modules k x (each_instance name c (pairs_of is))) e ∙ none_below modules k x name c e is

pub pairs_drop : (is : List CodeInstance) (i : ℕ) (d : CodeInstance) → i < length is → d ≡ get_or is i d
    → pairs_of (drop i is) ≡ (d.name.now, connections_of d.connections) ∷ pairs_of (drop (i + 1) is)
pairs_drop is i d h e = ap pairs_of parted
  where
    parted : drop i is ≡ d ∷ drop (i + 1) is
    parted = rw (add-one, drop-cons is i d h) (ap (λ c. c ∷ drop (suc i) is) (sym e))

-- ---- items

below_append : (modules : Name → Option Module) (k : ℕ) (x : Spot) (us vs : Entries Instance) → below_by modules k x (us ++ vs) ≡ below_by modules k x us ++ below_by modules k x vs
below_append modules k x [] vs = refl
below_append modules k x (u ∷ us) vs =
    let one : List Spot = one_if_any k x u (modules u.1.of_module) in
    ap (λ zs. one ++ zs) (below_append modules k x us vs) ∙ sym (append_assoc one (below_by modules k x us) (below_by modules k x vs))

item_first : (i : pure.Item) (rest : List pure.Item) → all_instances (i ∷ rest) ≡ item_instances i ++ all_instances rest
item_first (port d) rest = refl
item_first (parameter d) rest = refl
item_first (wires signed r ws) rest = refl
item_first (variables signed r vs) rest = refl
item_first (assign ts) rest = refl
item_first (always es x) rest = refl
item_first (instances m given is) rest = ap (λ us. us ++ all_instances rest) (sym (append-nil (each_instance m given is)))

abbrev pub items_below : (Name → Option Module) → ℕ → Spot → List Item → List Spot
items_below modules k x items = below_by modules k x (all_instances (map item_of items))

pub items_first : (modules : Name → Option Module) (k : ℕ) (x : Spot) (items : List Item) (i : ℕ) (d : Item) → i < length items → d ≡ get_or items i d
    → items_below modules k x (drop i items) ≡ below_by modules k x (item_instances (item_of d)) ++ items_below modules k x (drop (i + 1) items)
items_first modules k x items i d h e =
    ap (items_below modules k x) parted
    ∙ (ap (below_by modules k x) (item_first (item_of d) (map item_of (drop (i + 1) items)))
    ∙ below_append modules k x (item_instances (item_of d)) (all_instances (map item_of (drop (i + 1) items))))
  where
    parted : drop i items ≡ d ∷ drop (i + 1) items
    parted = rw (add-one, drop-cons items i d h) (ap (λ c. c ∷ drop (suc i) items) (sym e))

-- an item of instances
item_found : (modules : Name → Option Module) (k : ℕ) (x : Spot) (i : pure.Item) (name : Name) (c : Connections) (m : Module) (is : List CodeInstance) → i ≡ instances name c (pairs_of is)
    → modules name ≡ Some m → each_spot k m (known_overrides (known_module_scope x.of_module x.constants) c m) (pairs_of is) ≡ below_by modules k x (item_instances i)
item_found modules k x i name c m is e h =
    each_below modules k x name c m h is
    ∙ (ap (below_by modules k x) (sym (append-nil (each_instance name c (pairs_of is)))) ∙ ap (λ j. below_by modules k x (item_instances j)) (sym e))

item_lacking : (modules : Name → Option Module) (k : ℕ) (x : Spot) (i : pure.Item) (name : Name) (c : Connections) (is : List CodeInstance) → i ≡ instances name c (pairs_of is)
    → modules name ≡ None → [] ≡ below_by modules k x (item_instances i)
item_lacking modules k x i name c is e h =
    sym (none_below modules k x name c h is)
    ∙ (ap (below_by modules k x) (sym (append-nil (each_instance name c (pairs_of is)))) ∙ ap (λ j. below_by modules k x (item_instances j)) (sym e))

pub item_spots : (modules : Name → Option Module) (k : ℕ) (x : Spot) (i : pure.Item) (name : Name) (c : Connections) (objects : Entries Object) (o : Option Module) (given : KnownOverrides) (is : List CodeInstance)
    → i ≡ instances name c (pairs_of is) → o ≡ modules name → x.constants ≡ objects
    → ((m : Module) → o ≡ Some m → (n : Name) → given n ≡ known_overrides (known_module_scope x.of_module objects) c m n)
    → each_if_any k o given (pairs_of is) ≡ below_by modules k x (item_instances i)
item_spots modules k x i name c objects None given is e f h g = item_lacking modules k x i name c is e (sym f)
item_spots modules k x i name c objects (Some m) given is e f h g =
    ap (λ o. each_spot k m o (pairs_of is)) (fun_ext (g m refl) ∙ ap (λ os. known_overrides (known_module_scope x.of_module os) c m) (sym h))
    ∙ item_found modules k x i name c m is e (sym f)

none_is : (m : Module) → None ≡ Some m → ⊥
none_is m e = false≢true (ap is e)
  where
    is : Option Module → Bool
    is None = false
    is (Some x) = true

-- what overrides the parameters of a module, if it is there
pub given_some : (m d : Module) (given : Module → KnownOverrides) (list : KnownOverrides) → ((n : Name) → list n ≡ given m n) → Some m ≡ Some d → (n : Name) → list n ≡ given d n
given_some m d given list h e n = h n ∙ ap (λ x. given x n) (ap from e)
  where
    from : Option Module → Module
    from None = m
    from (Some x) = x

pub given_none : (d : Module) (A : Type 0) → None ≡ Some d → A
given_none d A e = absurd (none_is d e)
