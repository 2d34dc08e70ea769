-- What a list of places says of a design, where it is the top and then what stands below each of them.
use Rattle.std.proofs.Common.{◌≡◌, ℕ, zero, suc, ◌+◌, ◌<◌, ◌≤◌, Bool, true, false, cond, List, [], ◌∷◌, ◌++◌, length, take, ◌⊎◌, inl, inr, refl, sym, ap, ◌∙◌, subst, Option, Some, None, option_map, option_and_then, arith}
use Rattle.std.specs.Prelude.{◌≢◌, slice_get, is_some, Contains, IsTrue}
use Rattle.std.proofs.lemmas.Bool.{cases_lt}
use Rattle.wb_values.specs.Value.{Name, same_name, Entries, entry_of}
use Rattle.wb_values.specs.Choice.{first_of}
use Rattle.verilog_trees.specs.Syntax.{Connections, Item, port, parameter, wires, variables, assign, always, instances, Module, Source}
use Rattle.verilog_meaning.specs.Hierarchy.{PathStep, instance_step, Placed, module_named, Instance, instance_among, instance_named, instance_reached}
use Rattle.verilog_meaning.specs.Settled.{Design}
use Rattle.verilog_designs.specs.Known.{known_constants, known_scope, known_instance, known_below, known_at}
use Rattle.verilog_designs.specs.Names.{count_of, instance_names, all_instance_names, has_duplicate}
use Rattle.verilog_designs.specs.Accepted.{StandsIn, HasDuplicateName}
use Rattle.verilog_unique.proofs.Options.{same_is, is_same, from_map, from_chain, not_true}
use Rattle.verilog_unique.proofs.Descent.{IsAmong, among_left, among_right, among_either, contains_among, among_contains, without, length_without, kept}
use Rattle.verilog_unique.proofs.Instances.{instance_once}
use Rattle.v_places.specs.Below.{Spot, top_spot, each_instance, all_instances, spot_below, one_if_any, below_by, spots_below, all_below}
use Rattle.v_places.specs.Places.{IsPathOf, placed_by}

-- ---- lists

pub get_among : {A : Type 0} (xs : List A) (k : ℕ) (x : A) → slice_get xs k ≡ Some x → IsAmong xs x
get_among [] k x e = cc
get_among (y ∷ xs) zero x e = inl cc
get_among (y ∷ xs) (suc k) x e = inr (get_among xs k x e)

pub among_get : {A : Type 0} (xs : List A) (x : A) → IsAmong xs x → (k : ℕ) × (slice_get xs k ≡ Some x)
among_get [] x h = absurd h
among_get (y ∷ xs) x (inl e) = (0, ap Some e)
among_get (y ∷ xs) x (inr h) = let f = among_get xs x h in (suc f.0, f.1)

pub get_within : {A : Type 0} (xs : List A) (k : ℕ) (x : A) → slice_get xs k ≡ Some x → k < length xs
get_within [] k x e = cc
get_within (y ∷ xs) zero x e = omega arith
get_within (y ∷ xs) (suc k) x e = let f = get_within xs k x e in omega (arith, f)

pub within_get : {A : Type 0} (xs : List A) (k : ℕ) → k < length xs → (x : A) × (slice_get xs k ≡ Some x)
within_get [] k h = absurd (omega (arith, h))
within_get (y ∷ xs) zero h = (y, refl)
within_get (y ∷ xs) (suc k) h = within_get xs k (omega (arith, h))

pub same_some : {A : Type 0} (x y : A) → Some x ≡ Some y → x ≡ y
same_some x y e = cc

pub take_get : {A : Type 0} (n : ℕ) (xs : List A) (k : ℕ) (x : A) → slice_get (take n xs) k ≡ Some x → slice_get xs k ≡ Some x
take_get zero xs k x e = cc
take_get (suc n) [] k x e = cc
take_get (suc n) (y ∷ xs) zero x e = e
take_get (suc n) (y ∷ xs) (suc k) x e = take_get n xs k x e

-- ---- the instances of a module

abbrev keys : Entries Instance → List Name
keys [] = []
keys (e ∷ es) = e.0 ∷ keys es

keys_append : (xs ys : Entries Instance) → keys (xs ++ ys) ≡ keys xs ++ keys ys
keys_append [] ys = refl
keys_append (x ∷ xs) ys = ap (λ ns. x.0 ∷ ns) (keys_append xs ys)

keys_each : (m : Name) (given : Connections) (is : List (Name × Connections)) → keys (each_instance m given is) ≡ instance_names is
keys_each m given [] = refl
keys_each m given (i ∷ is) = ap (λ ns. i.0 ∷ ns) (keys_each m given is)

keys_all : (items : List Item) → keys (all_instances items) ≡ all_instance_names items
keys_all [] = refl
keys_all (port d ∷ items) = keys_all items
keys_all (parameter d ∷ items) = keys_all items
keys_all (wires signed r ws ∷ items) = keys_all items
keys_all (variables signed r vs ∷ items) = keys_all items
keys_all (assign ts ∷ items) = keys_all items
keys_all (always es x ∷ items) = keys_all items
keys_all (instances m given is ∷ items) =
    keys_append (each_instance m given is) (all_instances items) ∙ (ap (λ ns. ns ++ keys (all_instances items)) (keys_each m given is)
    ∙ ap (λ ns. instance_names is ++ ns) (keys_all items))

entry_each : (m : Name) (given : Connections) (is : List (Name × Connections)) (rest : Entries Instance) (u : Name)
    → entry_of (each_instance m given is ++ rest) u ≡ first_of (instance_among m given is u) (entry_of rest u)
entry_each m given [] rest u = refl
entry_each m given (i ∷ is) rest u = chosen (same_name i.0 u) (entry_each m given is rest u)
  where
    chosen : (b : Bool) → entry_of (each_instance m given is ++ rest) u ≡ first_of (instance_among m given is u) (entry_of rest u)
        → cond b (Some (record { of_module = m; parameters = given; connections = i.1 })) (entry_of (each_instance m given is ++ rest) u)
        ≡ first_of (cond b (Some (record { of_module = m; parameters = given; connections = i.1 })) (instance_among m given is u)) (entry_of rest u)
    chosen true h = refl
    chosen false h = h

entry_all : (items : List Item) (u : Name) → entry_of (all_instances items) u ≡ instance_named items u
entry_all [] u = refl
entry_all (port d ∷ items) u = entry_all items u
entry_all (parameter d ∷ items) u = entry_all items u
entry_all (wires signed r ws ∷ items) u = entry_all items u
entry_all (variables signed r vs ∷ items) u = entry_all items u
entry_all (assign ts ∷ items) u = entry_all items u
entry_all (always es x ∷ items) u = entry_all items u
entry_all (instances m given is ∷ items) u = entry_each m given is (all_instances items) u ∙ ap (first_of (instance_among m given is u)) (entry_all items u)

-- no name stands there twice
abbrev AreApart : List Name → Type 0
AreApart [] = Unit {0}
AreApart (n ∷ ns) = (IsAmong ns n → ⊥) × AreApart ns

counted : (n : Name) (ns : List Name) → IsAmong ns n → 1 ≤ count_of n ns
counted n [] h = absurd h
counted n (m ∷ ns) (inl e) = one (same_name m n) (subst (λ k. same_name k n ≡ true) (sym e) (is_same n))
  where
    one : (b : Bool) → b ≡ true → 1 ≤ cond b 1 0 + count_of n ns
    one true t = omega arith
    one false t = cc
counted n (m ∷ ns) (inr h) = let f = counted n ns h in omega (arith, f)

apart_by : (ns : List Name) → ((u : Name) → IsAmong ns u → count_of u ns ≤ 1) → AreApart ns
apart_by [] h = tt
apart_by (n ∷ ns) h = (λ k. twice (same_name n n) (is_same n) (h n (inl refl)) (counted n ns k), apart_by ns (λ u k. less u (cond (same_name n u) 1 0) (h u (inr k))))
  where
    twice : (b : Bool) → b ≡ true → cond b 1 0 + count_of n ns ≤ 1 → 1 ≤ count_of n ns → ⊥
    twice true t l m = omega (arith, l, m)
    twice false t l m = cc

    less : (u : Name) (a : ℕ) → a + count_of u ns ≤ 1 → count_of u ns ≤ 1
    less u a l = omega (arith, l)

pub apart : (m : Module) → has_duplicate m ≡ false → AreApart (keys (all_instances m.items))
apart m e =
    apart_by (keys (all_instances m.items))
    (λ u h. subst (λ ns. count_of u ns ≤ 1) (sym (keys_all m.items)) (instance_once m u e (subst (λ ns. IsAmong ns u) (keys_all m.items) h)))

pub among_keys : (es : Entries Instance) (e : Name × Instance) → IsAmong es e → IsAmong (keys es) e.0
among_keys [] e h = absurd h
among_keys (x ∷ es) e (inl f) = inl (ap (λ (y : Name × Instance). y.0) f)
among_keys (x ∷ es) e (inr h) = inr (among_keys es e h)

-- an instance that stands there is found by its name, and one that is found stands there
entry_there : (es : Entries Instance) (e : Name × Instance) → AreApart (keys es) → IsAmong es e → entry_of es e.0 ≡ Some e.1
entry_there [] e a h = absurd h
entry_there (x ∷ es) e a (inl f) = chosen (same_name x.0 e.0) (subst (λ (y : Name × Instance). same_name x.0 y.0 ≡ true) f (is_same x.0))
  where
    chosen : (b : Bool) → b ≡ true → cond b (Some x.1) (entry_of es e.0) ≡ Some e.1
    chosen true t = ap (λ (y : Name × Instance). Some y.1) f
    chosen false t = cc
entry_there (x ∷ es) e a (inr h) = chosen (same_name x.0 e.0) refl (entry_there es e a.1 h)
  where
    chosen : (b : Bool) → same_name x.0 e.0 ≡ b → entry_of es e.0 ≡ Some e.1 → cond b (Some x.1) (entry_of es e.0) ≡ Some e.1
    chosen true t later = absurd (a.0 (subst (IsAmong (keys es)) (sym (same_is x.0 e.0 t)) (among_keys es e h)))
    chosen false t later = later

there_entry : (es : Entries Instance) (u : Name) (i : Instance) → entry_of es u ≡ Some i → IsAmong es (u, i)
there_entry [] u i e = cc
there_entry (x ∷ es) u i e = chosen (same_name x.0 u) refl (there_entry es u i) e
  where
    chosen : (b : Bool) → same_name x.0 u ≡ b → (entry_of es u ≡ Some i → IsAmong es (u, i)) → cond b (Some x.1) (entry_of es u) ≡ Some i → IsAmong (x ∷ es) (u, i)
    chosen true t f h = let same : x.1 ≡ i = cc in inl (λ k. (same_is x.0 u t k, same k))
    chosen false t f h = inr (f h)

pub named_there : (m : Module) (e : Name × Instance) → has_duplicate m ≡ false → IsAmong (all_instances m.items) e → instance_named m.items e.0 ≡ Some e.1
named_there m e d h = sym (entry_all m.items e.0) ∙ entry_there (all_instances m.items) e (apart m d) h

pub there_named : (m : Module) (u : Name) (i : Instance) → instance_named m.items u ≡ Some i → IsAmong (all_instances m.items) (u, i)
there_named m u i e = there_entry (all_instances m.items) u i (entry_all m.items u ∙ e)

-- the item that it stands in
each_of : (m : Name) (given : Connections) (is : List (Name × Connections)) (e : Name × Instance) → IsAmong (each_instance m given is) e
    → (e.1.of_module ≡ m) × (e.1.parameters ≡ given)
each_of m given [] e h = absurd h
each_of m given (i ∷ is) e (inl f) = (ap (λ (y : Name × Instance). y.1.of_module) (sym f), ap (λ (y : Name × Instance). y.1.parameters) (sym f))
each_of m given (i ∷ is) e (inr h) = each_of m given is e h

pub record IsOfItem (items : List Item) (m : Name) : Type 0 where
  pub given : Connections
  pub each : List (Name × Connections)
  pub stands : IsAmong items (instances m given each)

further : (x : Item) (items : List Item) (m : Name) → IsOfItem items m → IsOfItem (x ∷ items) m
further x items m h = record { given = h.given; each = h.each; stands = inr h.stands }

pub item_of : (items : List Item) (e : Name × Instance) → IsAmong (all_instances items) e → IsOfItem items e.1.of_module
item_of [] e h = absurd h
item_of (port d ∷ items) e h = further (port d) items e.1.of_module (item_of items e h)
item_of (parameter d ∷ items) e h = further (parameter d) items e.1.of_module (item_of items e h)
item_of (wires signed r ws ∷ items) e h = further (wires signed r ws) items e.1.of_module (item_of items e h)
item_of (variables signed r vs ∷ items) e h = further (variables signed r vs) items e.1.of_module (item_of items e h)
item_of (assign ts ∷ items) e h = further (assign ts) items e.1.of_module (item_of items e h)
item_of (always es x ∷ items) e h = further (always es x) items e.1.of_module (item_of items e h)
item_of (instances m given is ∷ items) e h =
    elim (among_either (each_instance m given is) (all_instances items) e h) as (λ _. IsOfItem (instances m given is ∷ items) e.1.of_module) [
      | inl k ↦ record { given = given; each = is; stands = inl (ap (λ o. instances o given is) (sym (each_of m given is e k).0)) }
      | inr k ↦ further (instances m given is) items e.1.of_module (item_of items e k)
    ]

-- ---- what stands below a module

-- the instance of a place below a module, and its module
pub record IsBelow (source : Source) (k : ℕ) (x z : Spot) : Type 0 where
  pub instance : Name × Instance
  pub inner : Module
  pub stands : IsAmong (all_instances x.of_module.items) instance
  pub is_named : module_named source instance.1.of_module ≡ Some inner
  pub is_spot : spot_below k x instance inner ≡ z

one_of : (source : Source) (k : ℕ) (x z : Spot) (u : Name × Instance) (o : Option Module) → module_named source u.1.of_module ≡ o → IsAmong (one_if_any k x u o) z
    → (m : Module) × (module_named source u.1.of_module ≡ Some m) × (spot_below k x u m ≡ z)
one_of source k x z u None e h = absurd h
one_of source k x z u (Some m) e (inl f) = (m, e, f)
one_of source k x z u (Some m) e (inr h) = absurd h

below_of : (source : Source) (k : ℕ) (x z : Spot) (us : Entries Instance) → IsAmong (below_by (module_named source) k x us) z
    → (u : Name × Instance) × IsAmong us u × ((m : Module) × (module_named source u.1.of_module ≡ Some m) × (spot_below k x u m ≡ z))
below_of source k x z [] h = absurd h
below_of source k x z (u ∷ us) h =
    elim (among_either (one_if_any k x u (module_named source u.1.of_module)) (below_by (module_named source) k x us) z h)
    as (λ _. (v : Name × Instance) × IsAmong (u ∷ us) v × ((m : Module) × (module_named source v.1.of_module ≡ Some m) × (spot_below k x v m ≡ z))) [
      | inl a ↦ (u, inl refl, one_of source k x z u (module_named source u.1.of_module) refl a)
      | inr a ↦ let f = below_of source k x z us a in (f.0, inr f.1, f.2)
    ]

pub is_below : (source : Source) (k : ℕ) (x z : Spot) → IsAmong (spots_below source k x) z → IsBelow source k x z
is_below source k x z h =
    let f = below_of source k x z (all_instances x.of_module.items) h in
    record { instance = f.0; inner = f.2.0; stands = f.1; is_named = f.2.1; is_spot = f.2.2 }

pub has_below : (source : Source) (k : ℕ) (x : Spot) (u : Name × Instance) (m : Module) (us : Entries Instance) → IsAmong us u → module_named source u.1.of_module ≡ Some m
    → IsAmong (below_by (module_named source) k x us) (spot_below k x u m)
has_below source k x u m [] h e = absurd h
has_below source k x u m (v ∷ us) (inl f) e =
    among_left (one_if_any k x v (module_named source v.1.of_module)) (below_by (module_named source) k x us) (spot_below k x u m)
    (subst (λ w. IsAmong (one_if_any k x w (module_named source w.1.of_module)) (spot_below k x u m)) (sym f) (subst (λ o. IsAmong (one_if_any k x u o) (spot_below k x u m)) (sym e) (inl refl)))
has_below source k x u m (v ∷ us) (inr h) e =
    among_right (one_if_any k x v (module_named source v.1.of_module)) (below_by (module_named source) k x us) (spot_below k x u m) (has_below source k x u m us h e)

pub parent_of : (source : Source) (k : ℕ) (x z : Spot) → IsAmong (spots_below source k x) z → z.parent ≡ k
parent_of source k x z h = let f = is_below source k x z h in ap (λ (y : Spot). y.parent) (sym f.is_spot)

-- ---- what stands below each of a list

pub record IsBelowSome (source : Source) (b : ℕ) (xs : List Spot) (z : Spot) : Type 0 where
  pub number : ℕ
  pub outer : Spot
  pub is_outer : slice_get xs number ≡ Some outer
  pub below : IsAmong (spots_below source (number + b) outer) z

pub below_some : (source : Source) (b : ℕ) (xs : List Spot) (z : Spot) → IsAmong (all_below source b xs) z → IsBelowSome source b xs z
below_some source b [] z h = absurd h
below_some source b (x ∷ xs) z h =
    elim (among_either (spots_below source b x) (all_below source (suc b) xs) z h) as (λ _. IsBelowSome source b (x ∷ xs) z) [
      | inl k ↦ let same : b ≡ 0 + b = omega arith in
          record { number = 0; outer = x; is_outer = refl; below = subst (λ n. IsAmong (spots_below source n x) z) same k }
      | inr k ↦ let f = below_some source (suc b) xs z k in
          let same : f.number + suc b ≡ suc f.number + b = omega arith in
          record { number = suc f.number; outer = f.outer; is_outer = f.is_outer; below = subst (λ n. IsAmong (spots_below source n f.outer) z) same f.below }
    ]

pub some_below : (source : Source) (b : ℕ) (xs : List Spot) (z : Spot) (k : ℕ) (x : Spot) → slice_get xs k ≡ Some x → IsAmong (spots_below source (k + b) x) z → IsAmong (all_below source b xs) z
some_below source b [] z k x e h = cc
some_below source b (y ∷ xs) z zero x e h =
    let same : y ≡ x = same_some y x e in
    let number : 0 + b ≡ b = omega arith in
    among_left (spots_below source b y) (all_below source (suc b) xs) z
    (subst (λ w. IsAmong (spots_below source b w) z) (sym same) (subst (λ n. IsAmong (spots_below source n x) z) number h))
some_below source b (y ∷ xs) z (suc k) x e h =
    let same : suc k + b ≡ k + suc b = omega arith in
    among_right (spots_below source b y) (all_below source (suc b) xs) z (some_below source (suc b) xs z k x e (subst (λ n. IsAmong (spots_below source n x) z) same h))

-- ---- no two of them are the same instance of the same module

abbrev pub AreUnlike : List Spot → Type 0
AreUnlike [] = Unit {0}
AreUnlike (z ∷ zs) = ((w : Spot) → IsAmong zs w → z.parent ≡ w.parent → z.instance ≡ w.instance → ⊥) × AreUnlike zs

unlike_joined : (xs ys : List Spot) → AreUnlike xs → AreUnlike ys → ((z w : Spot) → IsAmong xs z → IsAmong ys w → z.parent ≡ w.parent → z.instance ≡ w.instance → ⊥) → AreUnlike (xs ++ ys)
unlike_joined [] ys a b h = b
unlike_joined (x ∷ xs) ys a b h = (
  λ w k p i. elim (among_either xs ys w k) as (λ _. ⊥) [ inl f ↦ a.0 w f p i | inr f ↦ h x w (inl refl) f p i ],
  unlike_joined xs ys a.1 b (λ z w k f. h z w (inr k) f),
)

one_unlike : (k : ℕ) (x : Spot) (u : Name × Instance) (o : Option Module) → AreUnlike (one_if_any k x u o)
one_unlike k x u None = tt
one_unlike k x u (Some m) = (λ w h. absurd h, tt)

below_unlike : (source : Source) (k : ℕ) (x : Spot) (us : Entries Instance) → AreApart (keys us) → AreUnlike (below_by (module_named source) k x us)
below_unlike source k x [] a = tt
below_unlike source k x (u ∷ us) a =
    unlike_joined (one_if_any k x u (module_named source u.1.of_module)) (below_by (module_named source) k x us) (one_unlike k x u (module_named source u.1.of_module)) (below_unlike source k x us a.1)
    (λ z w h g p i.
    let f = one_of source k x z u (module_named source u.1.of_module) refl h in
    let l = below_of source k x w us g in
    let same : u.0 ≡ l.0.0 = ap (λ (y : Spot). y.instance) f.2 ∙ (i ∙ ap (λ (y : Spot). y.instance) (sym l.2.2)) in
    a.0 (subst (IsAmong (keys us)) (sym same) (among_keys us l.0 l.1)))

pub all_unlike : (source : Source) (b : ℕ) (xs : List Spot) → ((x : Spot) → IsAmong xs x → has_duplicate x.of_module ≡ false) → AreUnlike (all_below source b xs)
all_unlike source b [] h = tt
all_unlike source b (x ∷ xs) h =
    unlike_joined (spots_below source b x) (all_below source (suc b) xs) (below_unlike source b x (all_instances x.of_module.items) (apart x.of_module (h x (inl refl))))
    (all_unlike source (suc b) xs (λ y k. h y (inr k)))
    (λ z w k g p i.
    let f = below_some source (suc b) xs w g in
    let first : z.parent ≡ b = parent_of source b x z k in
    let second : w.parent ≡ f.number + suc b = parent_of source (f.number + suc b) f.outer w f.below in
    absurd (omega (arith, first, second, p)))

pub unlike_same : (zs : List Spot) → AreUnlike zs → (i j : ℕ) (z w : Spot) → slice_get zs i ≡ Some z → slice_get zs j ≡ Some w → z.parent ≡ w.parent → z.instance ≡ w.instance → i ≡ j
unlike_same [] a i j z w e g p n = cc
unlike_same (y ∷ zs) a zero zero z w e g p n = refl
unlike_same (y ∷ zs) a zero (suc j) z w e g p n =
    let same : y ≡ z = same_some y z e in
    absurd (a.0 w (get_among zs j w g) (ap (λ (s : Spot). s.parent) same ∙ p) (ap (λ (s : Spot). s.instance) same ∙ n))
unlike_same (y ∷ zs) a (suc i) zero z w e g p n =
    let same : y ≡ w = same_some y w g in
    absurd (a.0 z (get_among zs i z e) (ap (λ (s : Spot). s.parent) same ∙ sym p) (ap (λ (s : Spot). s.instance) same ∙ sym n))
unlike_same (y ∷ zs) a (suc i) (suc j) z w e g p n = ap suc (unlike_same zs a.1 i j z w e g p n)
