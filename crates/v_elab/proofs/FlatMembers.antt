-- The members of a module are the nets and variables that it declares, and its instances, each once.
use Rattle.std.proofs.Common.{◌≡◌, ◌∙◌, refl, ap, sym, subst, Bool, true, false, cond, map, List, [], ◌∷◌, ◌++◌, ◌⊎◌, inl, inr, Option, Some, None}
use Rattle.std.specs.Prelude.{IsTrue, ⊤}
use Rattle.std.proofs.lemmas.Bool.{false≢true, true≢false}
use Rattle.wb_values.specs.Value.{Name, same_name}
use Rattle.wb_values.specs.Choice.{first_of}
use Rattle.verilog_trees.specs.Syntax.{Connections, Item, port, parameter, wires, variables, assign, always, instances, Module}
use Rattle.verilog_meaning.specs.Hierarchy.{Declaration, item_declarations, port_declarations, header_ports, declarations, Instance, instance_among, instance_named}
use Rattle.verilog_meaning.specs.Settled.{is_declared_among}
use Rattle.verilog_registers.specs.Order.{Member, net, instance, same_member, nets, instances_in, placed_among, item_members, others, each_once, members_in}
use Rattle.verilog_unique.proofs.Options.{same_is, is_same}
use Rattle.verilog_unique.proofs.Descent.{IsAmong, among_left, among_right, among_either}
use Rattle.v_elab.specs.Elaborated.{names_in}
use Rattle.v_elab.proofs.Once.{declared_among, among_declared}
use Rattle.v_elab.proofs.Placing.{placed_declared, declared_placed, placed_append, one_item}

-- ---- members

member_is : (x y : Member) → same_member x y ≡ true → x ≡ y
member_is (net m) (net n) e = ap net (same_is m n e)
member_is (net m) (instance n) e = absurd (false≢true e)
member_is (instance m) (net n) e = absurd (false≢true e)
member_is (instance m) (instance n) e = ap instance (same_is m n e)

is_member : (x : Member) → same_member x x ≡ true
is_member (net m) = is_same m
is_member (instance m) = is_same m

-- ---- each once

kept_other : (x : Member) (ys : List Member) (z : Member) → IsAmong ys z → same_member x z ≡ false → IsAmong (others x ys) z
kept_other x [] z h e = absurd h
kept_other x (y ∷ ys) z h e = by (same_member x y) refl h (λ g. kept_other x ys z g e)
  where
    by : (t : Bool) → same_member x y ≡ t → (y ≡ z) ⊎ IsAmong ys z → (IsAmong ys z → IsAmong (others x ys) z) → IsAmong (cond t (others x ys) (y ∷ others x ys)) z
    by true q (inl i) f = absurd (false≢true (sym e ∙ ap (same_member x) (sym i) ∙ q))
    by true q (inr g) f = f g
    by false q (inl i) f = inl i
    by false q (inr g) f = inr (f g)

among_others : (x : Member) (ys : List Member) (z : Member) → IsAmong (others x ys) z → IsAmong ys z
among_others x [] z h = h
among_others x (y ∷ ys) z h = by (same_member x y) h (among_others x ys z)
  where
    by : (t : Bool) → IsAmong (cond t (others x ys) (y ∷ others x ys)) z → (IsAmong (others x ys) z → IsAmong ys z) → (y ≡ z) ⊎ IsAmong ys z
    by true g f = inr (f g)
    by false (inl e) f = inl e
    by false (inr g) f = inr (f g)

others_lack : (x : Member) (ys : List Member) → ¬ IsAmong (others x ys) x
others_lack x [] h = h
others_lack x (y ∷ ys) h = by (same_member x y) refl h (others_lack x ys)
  where
    by : (t : Bool) → same_member x y ≡ t → IsAmong (cond t (others x ys) (y ∷ others x ys)) x → ¬ IsAmong (others x ys) x → ⊥
    by true e k g = g k
    by false e (inl i) g = true≢false (sym (is_member x) ∙ ap (same_member x) (sym i) ∙ e)
    by false e (inr k) g = g k

-- No member stands twice.
abbrev pub StandOnce : List Member → Type 0
StandOnce [] = ⊤
StandOnce (x ∷ xs) = (¬ IsAmong xs x) × StandOnce xs

others_once : (x : Member) (ys : List Member) → StandOnce ys → StandOnce (others x ys)
others_once x [] h = tt
others_once x (y ∷ ys) h = by (same_member x y) (others_once x ys h.1)
  where
    by : (t : Bool) → StandOnce (others x ys) → StandOnce (cond t (others x ys) (y ∷ others x ys))
    by true g = g
    by false g = (λ k. h.0 (among_others x ys y k), g)

stand_once : (xs : List Member) → StandOnce (each_once xs)
stand_once [] = tt
stand_once (x ∷ xs) = (others_lack x (each_once xs), others_once x (each_once xs) (stand_once xs))

among_once : (xs : List Member) (z : Member) → IsAmong xs z → IsAmong (each_once xs) z
among_once [] z h = h
among_once (x ∷ xs) z (inl e) = inl e
among_once (x ∷ xs) z (inr h) = by (same_member x z) refl (among_once xs z h)
  where
    by : (t : Bool) → same_member x z ≡ t → IsAmong (each_once xs) z → (x ≡ z) ⊎ IsAmong (others x (each_once xs)) z
    by true e g = inl (member_is x z e)
    by false e g = inr (kept_other x (each_once xs) z g e)

once_among : (xs : List Member) (z : Member) → IsAmong (each_once xs) z → IsAmong xs z
once_among [] z h = h
once_among (x ∷ xs) z (inl e) = inl e
once_among (x ∷ xs) z (inr h) = inr (once_among xs z (among_others x (each_once xs) z h))

pub members_once : (m : Module) → StandOnce (members_in m)
members_once m = stand_once _

-- ---- nets

net_named : (ds : List Declaration) (n : Name) → IsAmong (nets ds) (net n) → IsAmong (names_in ds) n
net_named [] n h = h
net_named (d ∷ ds) n (inl e) = inl (ap name_in e)
  where
    name_in : Member → Name
    name_in (net k) = k
    name_in (instance k) = k
net_named (d ∷ ds) n (inr h) = inr (net_named ds n h)

named_net : (ds : List Declaration) (n : Name) → IsAmong (names_in ds) n → IsAmong (nets ds) (net n)
named_net [] n h = h
named_net (d ∷ ds) n (inl e) = inl (ap net e)
named_net (d ∷ ds) n (inr h) = inr (named_net ds n h)

abbrev is_net : Member → Bool
is_net (net n) = true
is_net (instance n) = false

no_instance : (ds : List Declaration) (u : Name) → ¬ IsAmong (nets ds) (instance u)
no_instance [] u h = h
no_instance (d ∷ ds) u (inl e) = true≢false (ap is_net e)
no_instance (d ∷ ds) u (inr h) = no_instance ds u h

each_is : (is : List (Name × Connections)) (n : Name) → ¬ IsAmong (map (λ i. instance i.0) is) (net n)
each_is [] n h = h
each_is (i ∷ is) n (inl e) = false≢true (ap is_net e)
each_is (i ∷ is) n (inr h) = each_is is n h

no_net : (i : Item) (n : Name) → ¬ IsAmong (instances_in i) (net n)
no_net (port d) n h = h
no_net (parameter d) n h = h
no_net (wires signed r ws) n h = h
no_net (variables signed r vs) n h = h
no_net (assign ts) n h = h
no_net (always es x) n h = h
no_net (instances k given is) n h = each_is is n h

item_net : (all : List Declaration) (items : List Item) (n : Name) → IsAmong (item_members all items) (net n)
    → IsAmong (names_in (placed_among all (item_declarations items))) n
item_net all [] n h = absurd h
item_net all (i ∷ items) n h =
    subst (λ ds. IsAmong (names_in (placed_among all ds)) n) (sym (one_item i items))
    (subst (λ ds. IsAmong (names_in ds) n) (sym (placed_append all (item_declarations (i ∷ [])) (item_declarations items)))
    (net_named (placed_among all (item_declarations (i ∷ [])) ++ placed_among all (item_declarations items)) n
    (subst (λ ms. IsAmong ms (net n)) (sym (map_append (placed_among all (item_declarations (i ∷ []))) (placed_among all (item_declarations items))))
    (by (item_net all items n) (among_either (nets (placed_among all (item_declarations (i ∷ []))) ++ instances_in i) (item_members all items) (net n) h)))))
  where
    map_append : (ds es : List Declaration) → nets (ds ++ es) ≡ nets ds ++ nets es
    map_append [] es = refl
    map_append (d ∷ ds) es = ap (λ xs. net d.of_name ∷ xs) (map_append ds es)

    front : IsAmong (nets (placed_among all (item_declarations (i ∷ []))) ++ instances_in i) (net n) → IsAmong (nets (placed_among all (item_declarations (i ∷ [])))) (net n)
    front k =
        elim (among_either (nets (placed_among all (item_declarations (i ∷ [])))) (instances_in i) (net n) k)
        as (λ _. IsAmong (nets (placed_among all (item_declarations (i ∷ [])))) (net n)) [ inl g ↦ g | inr g ↦ absurd (no_net i n g) ]

    by : (IsAmong (item_members all items) (net n) → IsAmong (names_in (placed_among all (item_declarations items))) n)
        → IsAmong (nets (placed_among all (item_declarations (i ∷ []))) ++ instances_in i) (net n) ⊎ IsAmong (item_members all items) (net n)
        → IsAmong (nets (placed_among all (item_declarations (i ∷ []))) ++ nets (placed_among all (item_declarations items))) (net n)
    by f (inl k) = among_left (nets (placed_among all (item_declarations (i ∷ [])))) (nets (placed_among all (item_declarations items))) (net n) (front k)
    by f (inr k) =
        among_right (nets (placed_among all (item_declarations (i ∷ [])))) (nets (placed_among all (item_declarations items))) (net n)
        (named_net (placed_among all (item_declarations items)) n (f k))

net_item : (all : List Declaration) (items : List Item) (n : Name) → IsAmong (names_in (placed_among all (item_declarations items))) n
    → IsAmong (item_members all items) (net n)
net_item all [] n h = absurd h
net_item all (i ∷ items) n h =
    by (net_item all items n) (either (placed_among all (item_declarations (i ∷ []))) (placed_among all (item_declarations items))
    (subst (λ ds. IsAmong (names_in ds) n) (placed_append all (item_declarations (i ∷ [])) (item_declarations items))
    (subst (λ ds. IsAmong (names_in (placed_among all ds)) n) (one_item i items) h)))
  where
    either : (ds es : List Declaration) → IsAmong (names_in (ds ++ es)) n → IsAmong (names_in ds) n ⊎ IsAmong (names_in es) n
    either [] es k = inr k
    either (d ∷ ds) es (inl e) = inl (inl e)
    either (d ∷ ds) es (inr k) = elim (either ds es k) as (λ _. IsAmong (names_in (d ∷ ds)) n ⊎ IsAmong (names_in es) n) [ inl g ↦ inl (inr g) | inr g ↦ inr g ]

    by : (IsAmong (names_in (placed_among all (item_declarations items))) n → IsAmong (item_members all items) (net n))
        → IsAmong (names_in (placed_among all (item_declarations (i ∷ [])))) n ⊎ IsAmong (names_in (placed_among all (item_declarations items))) n
        → IsAmong (item_members all (i ∷ items)) (net n)
    by f (inl k) =
        among_left (nets (placed_among all (item_declarations (i ∷ []))) ++ instances_in i) (item_members all items) (net n)
        (among_left (nets (placed_among all (item_declarations (i ∷ [])))) (instances_in i) (net n) (named_net (placed_among all (item_declarations (i ∷ []))) n k))
    by f (inr k) = among_right (nets (placed_among all (item_declarations (i ∷ []))) ++ instances_in i) (item_members all items) (net n) (f k)

-- the nets among the members are what the module declares
pub net_is_declared : (m : Module) (n : Name) → IsAmong (members_in m) (net n) → IsTrue (is_declared_among (declarations m) n)
net_is_declared m n h =
    among_declared (declarations m) n (placed_declared (declarations m) (declarations m) n (by (among_either (nets front) (item_members (declarations m) m.items) (net n) (once_among (nets front ++ item_members (declarations m) m.items) (net n) h))))
  where
    front : List Declaration
    front = placed_among (declarations m) (port_declarations (header_ports m.ports))

    joined : (ds es : List Declaration) → IsAmong (names_in ds) n ⊎ IsAmong (names_in es) n → IsAmong (names_in (ds ++ es)) n
    joined [] es (inl k) = absurd k
    joined [] es (inr k) = k
    joined (d ∷ ds) es (inl (inl e)) = inl e
    joined (d ∷ ds) es (inl (inr k)) = inr (joined ds es (inl k))
    joined (d ∷ ds) es (inr k) = inr (joined ds es (inr k))

    by : IsAmong (nets front) (net n) ⊎ IsAmong (item_members (declarations m) m.items) (net n) → IsAmong (names_in (placed_among (declarations m) (declarations m))) n
    by k =
        subst (λ ds. IsAmong (names_in ds) n) (sym (placed_append (declarations m) (port_declarations (header_ports m.ports)) (item_declarations m.items)))
        (joined front (placed_among (declarations m) (item_declarations m.items))
        (elim k as (λ _. IsAmong (names_in front) n ⊎ IsAmong (names_in (placed_among (declarations m) (item_declarations m.items))) n)
        [ inl g ↦ inl (net_named front n g) | inr g ↦ inr (item_net (declarations m) m.items n g) ]))

pub declared_is_net : (m : Module) (n : Name) → IsTrue (is_declared_among (declarations m) n) → IsAmong (members_in m) (net n)
declared_is_net m n h =
    among_once (nets front ++ item_members (declarations m) m.items) (net n)
    (by (either front (placed_among (declarations m) (item_declarations m.items))
    (subst (λ ds. IsAmong (names_in ds) n) (placed_append (declarations m) (port_declarations (header_ports m.ports)) (item_declarations m.items))
    (declared_placed (declarations m) n (declared_among (declarations m) n h)))))
  where
    front : List Declaration
    front = placed_among (declarations m) (port_declarations (header_ports m.ports))

    either : (ds es : List Declaration) → IsAmong (names_in (ds ++ es)) n → IsAmong (names_in ds) n ⊎ IsAmong (names_in es) n
    either [] es k = inr k
    either (d ∷ ds) es (inl e) = inl (inl e)
    either (d ∷ ds) es (inr k) = elim (either ds es k) as (λ _. IsAmong (names_in (d ∷ ds)) n ⊎ IsAmong (names_in es) n) [ inl g ↦ inl (inr g) | inr g ↦ inr g ]

    by : IsAmong (names_in front) n ⊎ IsAmong (names_in (placed_among (declarations m) (item_declarations m.items))) n
        → IsAmong (nets front ++ item_members (declarations m) m.items) (net n)
    by (inl k) = among_left (nets front) (item_members (declarations m) m.items) (net n) (named_net front n k)
    by (inr k) = among_right (nets front) (item_members (declarations m) m.items) (net n) (net_item (declarations m) m.items n k)

-- ---- instances

among_each : (k : Name) (given : Connections) (is : List (Name × Connections)) (u : Name) (i : Instance) → instance_among k given is u ≡ Some i
    → IsAmong (map (λ z. instance z.0) is) (instance u)
among_each k given [] u i e = cc
among_each k given (z ∷ is) u i e = by (among_each k given is u i) (same_name z.0 u) refl e
  where
    by : (instance_among k given is u ≡ Some i → IsAmong (map (λ y. instance y.0) is) (instance u))
        → (t : Bool) → same_name z.0 u ≡ t → cond t (Some (record { of_module = k; parameters = given; connections = z.1 })) (instance_among k given is u) ≡ Some i
        → (instance z.0 ≡ instance u) ⊎ IsAmong (map (λ y. instance y.0) is) (instance u)
    by f true q g = inl (ap instance (same_is z.0 u q))
    by f false q g = inr (f g)

named_member : (all : List Declaration) (items : List Item) (u : Name) (i : Instance) → instance_named items u ≡ Some i → IsAmong (item_members all items) (instance u)
named_member all [] u i e = cc
named_member all (port d ∷ items) u i e = later (port d) (named_member all items u i e)
  where
    later : (x : Item) → IsAmong (item_members all items) (instance u) → IsAmong (item_members all (x ∷ items)) (instance u)
    later x h = among_right (nets (placed_among all (item_declarations (x ∷ []))) ++ instances_in x) (item_members all items) (instance u) h
named_member all (parameter d ∷ items) u i e = named_member all items u i e
named_member all (wires signed r ws ∷ items) u i e =
    among_right (nets (placed_among all (item_declarations (wires signed r ws ∷ []))) ++ []) (item_members all items) (instance u) (named_member all items u i e)
named_member all (variables signed r vs ∷ items) u i e =
    among_right (nets (placed_among all (item_declarations (variables signed r vs ∷ []))) ++ []) (item_members all items) (instance u) (named_member all items u i e)
named_member all (assign ts ∷ items) u i e = named_member all items u i e
named_member all (always es x ∷ items) u i e = named_member all items u i e
named_member all (instances k given is ∷ items) u i e = by (named_member all items u i) (instance_among k given is u) refl e
  where
    by : (instance_named items u ≡ Some i → IsAmong (item_members all items) (instance u)) → (o : Option Instance) → instance_among k given is u ≡ o → first_of o (instance_named items u) ≡ Some i
        → IsAmong (item_members all (instances k given is ∷ items)) (instance u)
    by f (Some x) q g = among_left (map (λ z. instance z.0) is) (item_members all items) (instance u) (among_each k given is u x q)
    by f None q g = among_right (map (λ z. instance z.0) is) (item_members all items) (instance u) (f g)

-- an instance of the module is among its members
pub instance_is_member : (m : Module) (u : Name) (i : Instance) → instance_named m.items u ≡ Some i → IsAmong (members_in m) (instance u)
instance_is_member m u i e =
    let front : List Member = nets (placed_among (declarations m) (port_declarations (header_ports m.ports))) in
    among_once (front ++ item_members (declarations m) m.items) (instance u)
    (among_right front (item_members (declarations m) m.items) (instance u) (named_member (declarations m) m.items u i e))
