-- The names in order are those of all nets and variables of a design, each once, and those that are registers stand in their order, whatever
-- they are called.
use Rattle.std.proofs.Common.{◌≡◌, ◌∙◌, suc, ◌≤◌, refl, ap, sym, subst, arith, Bool, true, false, cond, List, [], ◌∷◌, ◌++◌, length, ◌⊎◌, inl, inr, Option, Some, None}
use Rattle.std.specs.Prelude.{is_some, ℤ, ⊤}
use Rattle.std.proofs.lemmas.Bool.{true≢false}
use Rattle.std.proofs.lemmas.List.{map-append}
use Rattle.wb_values.specs.Value.{Name}
use Rattle.verilog_trees.specs.Syntax.{Statement, Module}
use Rattle.verilog_meaning.specs.Expression.{Scope}
use Rattle.verilog_meaning.specs.Hierarchy.{PathStep, instance_step, Placed, Instance, instance_named, instance_reached}
use Rattle.verilog_meaning.specs.Settled.{Design, at_path, IsPlacedIn, IsDeclared}
use Rattle.verilog_registers.specs.Registers as design
use Rattle.verilog_registers.specs.Order.{Member, net, instance, members_in, AreInOrder, end as at_end, register as a_register, other as another, below as goes_below}
use Rattle.verilog_designs.specs.Names.{is_among}
use Rattle.verilog_unique.proofs.Descent.{IsAmong, among_left, among_right, among_either}
use Rattle.verilog_unique.proofs.Paths.{step_of, stands_at, placed_in}
use Rattle.flat_designs.specs.Flat.{Naming, IsNaming}
use Rattle.v_registers.specs.Registers.{IsRegister, Counted, IsCounted, AreSplit}
use Rattle.v_elab.specs.Names.{AreDistinct}
use Rattle.v_elab.specs.Told.{AreToldBy}
use Rattle.v_elab.specs.Elaborated.{register_names}
use Rattle.v_ordered.specs.Order.{AreNamesInOrder}
use Rattle.v_elab.proofs.Once.{test_among, among_test}
use Rattle.v_elab.proofs.FlatMembers.{StandOnce, members_once, net_is_declared, declared_is_net, instance_is_member}

-- ---- where a name of the list stands

-- The path is this one, or goes on from it.
abbrev GoesOn : List PathStep → (path : List PathStep) → Type 0
GoesOn around [] = around ≡ []
GoesOn around (u ∷ path) = (around ≡ u ∷ path) ⊎ GoesOn around path

goes_on_itself : (path : List PathStep) → GoesOn path path
goes_on_itself [] = refl
goes_on_itself (u ∷ path) = inl refl

-- it is as long at least
no_shorter : (around path : List PathStep) → GoesOn around path → length around ≤ length path
no_shorter around [] h = subst (λ (q : List PathStep). length q ≤ 0) (sym h) (omega arith)
no_shorter around (u ∷ path) (inl e) = subst (λ (q : List PathStep). length q ≤ suc (length path)) (sym e) (omega arith)
no_shorter around (u ∷ path) (inr h) = let k = no_shorter around path h in omega (arith, k)

-- two paths of one length from which one path goes on are one
same_front : (a b path : List PathStep) → GoesOn a path → GoesOn b path → length a ≡ length b → a ≡ b
same_front a b [] h k e = h ∙ sym k
same_front a b (u ∷ path) (inl h) (inl k) e = h ∙ sym k
same_front a b (u ∷ path) (inl h) (inr k) e =
    let n = no_shorter b path k in
    let l : length a ≡ suc (length path) = ap (λ (q : List PathStep). length q) h in
    absurd (omega (arith, n, l, e))
same_front a b (u ∷ path) (inr h) (inl k) e =
    let n = no_shorter a path h in
    let l : length b ≡ suc (length path) = ap (λ (q : List PathStep). length q) k in
    absurd (omega (arith, n, l, e))
same_front a b (u ∷ path) (inr h) (inr k) e = same_front a b path h k e

goes_further : (a : List PathStep) (u : PathStep) (path : List PathStep) → GoesOn (u ∷ a) path → GoesOn a path
goes_further a u [] h = absurd (no h)
  where
    no : u ∷ a ≡ [] → ⊥
    no e = cc
goes_further a u (v ∷ path) (inl e) = inr (subst (GoesOn a) (tail_of e) (goes_on_itself a))
  where
    tail_of : u ∷ a ≡ v ∷ path → a ≡ path
    tail_of e = cc
goes_further a u (v ∷ path) (inr h) = inr (goes_further a u path h)

-- a net or variable of a module that stands in the design, by what it is called
pub record IsNetOf (d : Design) (called : Naming) (name : Name) : Type 0 where
  pub place : Placed
  pub of_name : Name
  pub is_placed : IsPlacedIn d place
  pub is_declared : IsDeclared place of_name
  pub same : called place.path of_name ≡ name

-- It is one of these members of module p, or stands below one of them.
abbrev IsOfMembers : Placed → List Member → Placed → Name → Type 0
IsOfMembers p xs q n = ((q ≡ p) × IsAmong xs (net n)) ⊎ ((u : Name) × IsAmong xs (instance u) × GoesOn (instance_step u ∷ p.path) q.path)

pub record IsWithin (d : Design) (called : Naming) (p : Placed) (xs : List Member) (name : Name) : Type 0 where
  pub of : IsNetOf d called name
  pub of_members : IsOfMembers p xs of.place of.of_name

more_members : (p : Placed) (x : Member) (xs : List Member) (q : Placed) (n : Name) → IsOfMembers p xs q n → IsOfMembers p (x ∷ xs) q n
more_members p x xs q n (inl h) = inl (h.0, inr h.1)
more_members p x xs q n (inr h) = inr (h.0, inr h.1, h.2)

module _ (d : Design) (called : Naming) where
  -- the nets among the members are declared by the module
  abbrev AreMembersOf : Placed → List Member → Type 0
  AreMembersOf p xs = (n : Name) → IsAmong xs (net n) → IsDeclared p n

  below_path : (p q : Placed) (u : Name) → at_path d (instance_step u ∷ p.path) ≡ Some q → q.path ≡ instance_step u ∷ p.path
  below_path p q u at = stands_at d (instance_step u ∷ p.path) q at

  -- what is of the members of an instance stands below it
  deeper : (p q : Placed) (u : Name) → at_path d (instance_step u ∷ p.path) ≡ Some q → (z : Placed) (k : Name) → IsOfMembers q (members_in q.of_module) z k
      → GoesOn (instance_step u ∷ p.path) z.path
  deeper p q u to z k (inl g) =
      subst (λ (y : Placed). GoesOn (instance_step u ∷ p.path) y.path) (sym g.0)
      (subst (GoesOn (instance_step u ∷ p.path)) (sym (below_path p q u to)) (goes_on_itself (instance_step u ∷ p.path)))
  deeper p q u to z k (inr g) =
      goes_further (instance_step u ∷ p.path) (instance_step g.0) z.path
      (subst (λ path. GoesOn (instance_step g.0 ∷ path) z.path) (below_path p q u to) g.2)

  pub each_within : (p : Placed) (xs : List Member) (ns : List Name) → IsPlacedIn d p → AreMembersOf p xs → AreNamesInOrder d called p xs ns
      → (name : Name) → IsAmong ns name → IsWithin d called p xs name
  each_within _ _ _ at own (AreNamesInOrder.end p) name h = absurd h
  each_within _ _ _ at own (AreNamesInOrder.net_of p n xs ns rest) name (inl e) =
      record {
        of = record { place = p; of_name = n; is_placed = at; is_declared = own n (inl refl); same = e };
        of_members = inl (refl, inl refl);
      }
  each_within _ _ _ at own (AreNamesInOrder.net_of p n xs ns rest) name (inr h) =
      let r = each_within p xs ns at (λ k g. own k (inr g)) rest name h in
      record { of = r.of; of_members = more_members p (net n) xs r.of.place r.of.of_name r.of_members }
  each_within _ _ _ at own (AreNamesInOrder.below p q u xs ms ns to inner rest) name h =
      by (each_within q (members_in q.of_module) ms (placed_in d (instance_step u ∷ p.path) q to) (λ n g. net_is_declared q.of_module n g) inner name)
      (each_within p xs ns at (λ n g. own n (inr g)) rest name) (among_either ms ns name h)
    where
      by : (IsAmong ms name → IsWithin d called q (members_in q.of_module) name) → (IsAmong ns name → IsWithin d called p xs name) → IsAmong ms name ⊎ IsAmong ns name
          → IsWithin d called p (instance u ∷ xs) name
      by f g (inl k) =
          let r = f k in
          record { of = r.of; of_members = inr (u, inl refl, deeper p q u to r.of.place r.of.of_name r.of_members) }
      by f g (inr k) =
          let r = g k in
          record { of = r.of; of_members = more_members p (instance u) xs r.of.place r.of.of_name r.of_members }

  -- ---- all names

  net_named : (p : Placed) (xs : List Member) (ns : List Name) (n : Name) → AreNamesInOrder d called p xs ns → IsAmong xs (net n) → IsAmong ns (called p.path n)
  net_named _ _ _ n (AreNamesInOrder.end p) h = absurd h
  net_named _ _ _ n (AreNamesInOrder.net_of p m xs ns rest) (inl e) = inl (ap (called p.path) (same e))
    where
      same : net m ≡ net n → m ≡ n
      same i = cc
  net_named _ _ _ n (AreNamesInOrder.net_of p m xs ns rest) (inr h) = inr (net_named p xs ns n rest h)
  net_named _ _ _ n (AreNamesInOrder.below p q u xs ms ns to inner rest) (inl e) = absurd (no e)
    where
      no : instance u ≡ net n → ⊥
      no i = cc
  net_named _ _ _ n (AreNamesInOrder.below p q u xs ms ns to inner rest) (inr h) = among_right ms ns (called p.path n) (net_named p xs ns n rest h)

  -- The names of a module, and of what stands below it, are among these.
  record IsPart (p : Placed) (ns : List Name) : Type 0 where
    pub names : List Name
    pub in_order : AreNamesInOrder d called p (members_in p.of_module) names
    pub all : (n : Name) → IsAmong names n → IsAmong ns n

  record IsPartBelow (p : Placed) (u : Name) (ns : List Name) : Type 0 where
    pub place : Placed
    pub is_below : at_path d (instance_step u ∷ p.path) ≡ Some place
    pub part : IsPart place ns

  instance_part : (p : Placed) (xs : List Member) (ns : List Name) (u : Name) → AreNamesInOrder d called p xs ns → IsAmong xs (instance u) → IsPartBelow p u ns
  instance_part _ _ _ u (AreNamesInOrder.end p) h = absurd h
  instance_part _ _ _ u (AreNamesInOrder.net_of p m xs ns rest) (inl e) = absurd (no e)
    where
      no : net m ≡ instance u → ⊥
      no i = cc
  instance_part _ _ _ u (AreNamesInOrder.net_of p m xs ns rest) (inr h) =
      let r = instance_part p xs ns u rest h in
      record {
        place = r.place;
        is_below = r.is_below;
        part = record { names = r.part.names; in_order = r.part.in_order; all = λ n k. inr (r.part.all n k) };
      }
  instance_part _ _ _ u (AreNamesInOrder.below p q m xs ms ns to inner rest) (inl e) =
      record {
        place = q;
        is_below = subst (λ k. at_path d (instance_step k ∷ p.path) ≡ Some q) (same e) to;
        part = record { names = ms; in_order = inner; all = λ n k. among_left ms ns n k };
      }
    where
      same : instance m ≡ instance u → m ≡ u
      same i = cc
  instance_part _ _ _ u (AreNamesInOrder.below p q m xs ms ns to inner rest) (inr h) =
      let r = instance_part p xs ns u rest h in
      record {
        place = r.place;
        is_below = r.is_below;
        part = record { names = r.part.names; in_order = r.part.in_order; all = λ n k. among_right ms ns n (r.part.all n k) };
      }

  reached_named : (m : Module) (u : PathStep) (i : Instance) → instance_reached m.items u ≡ Some i → (u ≡ instance_step u.of_name) × (instance_named m.items u.of_name ≡ Some i)
  reached_named m u i e = by u.index refl e
    where
      by : (o : Option ℤ) → u.index ≡ o → cond (is_some o) None (instance_named m.items u.of_name) ≡ Some i
          → (u ≡ instance_step u.of_name) × (instance_named m.items u.of_name ≡ Some i)
      by None q g = (ap (λ (x : Option ℤ). record { of_name = u.of_name; index = x }) q, g)
      by (Some k) q g = absurd (no g)
        where
          no : None ≡ Some i → ⊥
          no h = cc

  module _ (top : Placed) (ns : List Name) (is_top : at_path d [] ≡ Some top) (all_in_order : AreNamesInOrder d called top (members_in top.of_module) ns) where
    part_of : (path : List PathStep) (p : Placed) → at_path d path ≡ Some p → IsPart p ns
    part_of [] p at =
        subst (λ q. IsPart q ns) (some_same (sym is_top ∙ at)) (record { names = ns; in_order = all_in_order; all = λ n k. k })
      where
        some_same : Some top ≡ Some p → top ≡ p
        some_same e = cc
    part_of (u ∷ around) p at =
        let s = step_of d u around p at in
        let outer = part_of around s.outer s.is_outer in
        let named = reached_named s.outer.of_module u s.instance s.is_reached in
        let r = instance_part s.outer (members_in s.outer.of_module) outer.names u.of_name outer.in_order (instance_is_member s.outer.of_module u.of_name s.instance named.1) in
        let here : at_path d (u ∷ around) ≡ Some r.place =
        ap (λ v. at_path d (v ∷ around)) named.0 ∙ ap (λ q. at_path d (instance_step u.of_name ∷ q)) (sym (stands_at d around s.outer s.is_outer)) ∙ r.is_below in
        subst (λ q. IsPart q ns) (some_same r.place (sym here ∙ at))
        (record { names = r.part.names; in_order = r.part.in_order; all = λ n k. outer.all n (r.part.all n k) })
      where
        some_same : (q : Placed) → Some q ≡ Some p → q ≡ p
        some_same q e = cc

    -- each net and variable of the design has its name in the list
    pub all_named : (p : Placed) (n : Name) → IsPlacedIn d p → IsDeclared p n → IsAmong ns (called p.path n)
    all_named p n at h =
        let r = part_of p.path p at in
        r.all (called p.path n) (net_named p (members_in p.of_module) r.names n r.in_order (declared_is_net p.of_module n h))

    -- and each name there is that of one
    pub each_named : (name : Name) → IsAmong ns name → IsNetOf d called name
    each_named name h =
        (each_within top (members_in top.of_module) ns (placed_in d [] top is_top) (λ n g. net_is_declared top.of_module n g) all_in_order name h).of

  -- ---- once each

  module _ (naming : IsNaming d called) where
    not_among : (xs : List Name) (n : Name) → ¬ IsAmong xs n → is_among xs n ≡ false
    not_among xs n h = by (is_among xs n) refl
      where
        by : (t : Bool) → is_among xs n ≡ t → t ≡ false
        by true e = absurd (h (among_test xs n e))
        by false e = refl

    -- two names that are one are those of one net of one module
    one_net : (name : Name) (x y : IsNetOf d called name) → (x.place.path ≡ y.place.path) × (x.of_name ≡ y.of_name)
    one_net name x y =
        naming.tells x.place y.place x.of_name y.of_name x.is_placed y.is_placed (inl x.is_declared) (inl y.is_declared) (x.same ∙ sym y.same)

    no_deeper : (p q : Placed) (u : Name) → GoesOn (instance_step u ∷ p.path) q.path → ¬ (q.path ≡ p.path)
    no_deeper p q u h e =
        let k = no_shorter (instance_step u ∷ p.path) q.path h in
        let l : length q.path ≡ length p.path = ap (λ (path : List PathStep). length path) e in
        absurd (omega (arith, k, l))

    net_apart : (p : Placed) (n : Name) (xs : List Member) → IsPlacedIn d p → IsDeclared p n → ¬ IsAmong xs (net n) → IsWithin d called p xs (called p.path n) → ⊥
    net_apart p n xs at declared free r =
        let e = one_net (called p.path n) r.of (record { place = p; of_name = n; is_placed = at; is_declared = declared; same = refl }) in
        by e.0 e.1 r.of_members
      where
        by : r.of.place.path ≡ p.path → r.of.of_name ≡ n → IsOfMembers p xs r.of.place r.of.of_name → ⊥
        by e k (inl g) = free (subst (λ m. IsAmong xs (net m)) k g.1)
        by e k (inr g) = no_deeper p r.of.place g.0 g.2 e

    first_name : List PathStep → Name
    first_name [] = []
    first_name (v ∷ path) = v.of_name

    parts_apart : (p : Placed) (u : Name) (xs : List Member) (name : Name) → ¬ IsAmong xs (instance u) → (x : IsNetOf d called name) → GoesOn (instance_step u ∷ p.path) x.place.path
        → IsWithin d called p xs name → ⊥
    unfolding first_name
    parts_apart p u xs name free x deep r =
        by (one_net name x r.of).0 r.of_members
      where
        same_step : (m : Name) → instance_step u ∷ p.path ≡ instance_step m ∷ p.path → u ≡ m
        same_step m e = ap first_name e

        by : x.place.path ≡ r.of.place.path → IsOfMembers p xs r.of.place r.of.of_name → ⊥
        by e (inl g) = no_deeper p x.place u deep (e ∙ ap (λ (q : Placed). q.path) g.0)
        by e (inr g) =
            free (subst (λ m. IsAmong xs (instance m)) (sym (same_step g.0
            (same_front (instance_step u ∷ p.path) (instance_step g.0 ∷ p.path) x.place.path deep (subst (GoesOn (instance_step g.0 ∷ p.path)) (sym e) g.2) refl))) g.1)

    both_distinct : (xs ys : List Name) → AreDistinct xs → AreDistinct ys → ((n : Name) → IsAmong xs n → IsAmong ys n → ⊥) → AreDistinct (xs ++ ys)
    both_distinct [] ys h k f = k
    both_distinct (x ∷ xs) ys h k f = (
      not_among (xs ++ ys) x (λ g. elim (among_either xs ys x g) as (λ _. ⊥) [ inl i ↦ true≢false (sym (test_among xs x i) ∙ h.0) | inr i ↦ f x (inl refl) i ]),
      both_distinct xs ys h.1 k (λ n i j. f n (inr i) j),
    )

    names_distinct : (p : Placed) (xs : List Member) (ns : List Name) → IsPlacedIn d p → AreMembersOf p xs → StandOnce xs → AreNamesInOrder d called p xs ns → AreDistinct ns
    names_distinct _ _ _ at own once (AreNamesInOrder.end p) = tt
    names_distinct _ _ _ at own once (AreNamesInOrder.net_of p n xs ns rest) = (
      not_among ns (called p.path n)
          (λ h. net_apart p n xs at (own n (inl refl)) once.0 (each_within p xs ns at (λ k g. own k (inr g)) rest (called p.path n) h)),
      names_distinct p xs ns at (λ k g. own k (inr g)) once.1 rest,
    )
    names_distinct _ _ _ at own once (AreNamesInOrder.below p q u xs ms ns to inner rest) =
        both_distinct ms ns
        (names_distinct q (members_in q.of_module) ms (placed_in d (instance_step u ∷ p.path) q to) (λ n g. net_is_declared q.of_module n g) (members_once q.of_module) inner)
        (names_distinct p xs ns at (λ k g. own k (inr g)) once.1 rest)
        (λ name h k. let x = inside_part name h in
        parts_apart p u xs name once.0 x.of (deeper p q u to x.of.place x.of.of_name x.of_members) (each_within p xs ns at (λ i g. own i (inr g)) rest name k))
      where
        inside_part : (name : Name) → IsAmong ms name → IsWithin d called q (members_in q.of_module) name
        inside_part name h =
            each_within q (members_in q.of_module) ms (placed_in d (instance_step u ∷ p.path) q to) (λ n g. net_is_declared q.of_module n g) inner name h

    pub are_distinct : (top : Placed) (ns : List Name) → at_path d [] ≡ Some top → AreNamesInOrder d called top (members_in top.of_module) ns → AreDistinct ns
    are_distinct top ns is_top h =
        names_distinct top (members_in top.of_module) ns (placed_in d [] top is_top) (λ n g. net_is_declared top.of_module n g) (members_once top.of_module) h

  -- ---- registers

  module _ (s : Scope) (q : List Statement)
      (to_design : (p : Placed) (n : Name) → IsPlacedIn d p → IsDeclared p n → IsRegister s q (called p.path n) → design.IsRegister d p n)
      (from_design : (p : Placed) (n : Name) → design.IsRegister d p n → IsRegister s q (called p.path n)) where
    -- the registers of two lists of names
    record AreParts (ms ns : List Name) (cs : List Counted) : Type 0 where
      pub first : List Counted
      pub second : List Counted
      pub others : List Name
      pub rest : List Name
      pub joined : first ++ second ≡ cs
      pub of_first : AreSplit s q ms first others
      pub of_second : AreSplit s q ns second rest

    -- how a list of names is split that has one first
    abbrev Shape : List Name → List Counted → List Name → Type 0
    Shape [] cs os = ⊤
    Shape (n ∷ ns) cs os =
        ((c : Counted) × (ds : List Counted) × IsCounted s q n c × AreSplit s q ns ds os × (c ∷ ds ≡ cs))
        ⊎ ((ps : List Name) × (¬ IsRegister s q n) × AreSplit s q ns cs ps)

    shape : (ns : List Name) (cs : List Counted) (os : List Name) → AreSplit s q ns cs os → Shape ns cs os
    shape _ _ _ AreSplit.end = tt
    shape _ _ _ (AreSplit.register n ns c cs os is rest) = inl (c, cs, is, rest, refl)
    shape _ _ _ (AreSplit.other n ns cs os is rest) = inr (os, is, rest)

    parts : (ms ns : List Name) (cs : List Counted) (os : List Name) → AreSplit s q (ms ++ ns) cs os → AreParts ms ns cs
    parts [] ns cs os h = record { first = []; second = cs; others = []; rest = os; joined = refl; of_first = AreSplit.end; of_second = h }
    parts (m ∷ ms) ns cs os h = by (shape (m ∷ (ms ++ ns)) cs os h) (λ ds ps. parts ms ns ds ps)
      where
        by : Shape (m ∷ (ms ++ ns)) cs os → ((ds : List Counted) (ps : List Name) → AreSplit s q (ms ++ ns) ds ps → AreParts ms ns ds) → AreParts (m ∷ ms) ns cs
        by (inl (c, ds, is, rest, e)) f =
            let r = f ds os rest in
            record {
              first = c ∷ r.first;
              second = r.second;
              others = r.others;
              rest = r.rest;
              joined = ap (λ xs. c ∷ xs) r.joined ∙ e;
              of_first = AreSplit.register m ms c r.first r.others is r.of_first;
              of_second = r.of_second;
            }
        by (inr (ps, free, rest)) f =
            let r = f cs ps rest in
            record {
              first = r.first;
              second = r.second;
              others = m ∷ r.others;
              rest = r.rest;
              joined = r.joined;
              of_first = AreSplit.other m ms r.first r.others free r.of_first;
              of_second = r.of_second;
            }

    names_joined : (xs ys cs : List Counted) → xs ++ ys ≡ cs → register_names xs ++ register_names ys ≡ register_names cs
    names_joined xs ys cs e = sym (map-append (λ c. c.of_name) xs ys) ∙ ap register_names e

    -- told names of two lists
    record AreToldParts (ms ns rs : List Name) : Type 0 where
      pub first : List Name
      pub second : List Name
      pub joined : first ++ second ≡ rs
      pub of_first : AreToldBy d called ms first
      pub of_second : AreToldBy d called ns second

    told_parts : (ms ns rs : List Name) → AreToldBy d called (ms ++ ns) rs → AreToldParts ms ns rs
    told_parts [] ns rs h = record { first = []; second = rs; joined = refl; of_first = tt; of_second = h }
    told_parts (m ∷ ms) ns [] h = absurd h
    told_parts (m ∷ ms) ns (r ∷ rs) h =
        let t = told_parts ms ns rs h.1 in
        record { first = r ∷ t.first; second = t.second; joined = ap (λ xs. r ∷ xs) t.joined; of_first = (h.0, t.of_first); of_second = t.of_second }

    -- the dotted names of registers stand in the order of the design's registers
    pub registers_in_order : (p : Placed) (xs : List Member) (ns : List Name) (cs : List Counted) (os rs : List Name) → IsPlacedIn d p → AreMembersOf p xs
        → AreNamesInOrder d called p xs ns → AreSplit s q ns cs os → AreToldBy d called (register_names cs) rs → AreInOrder d p xs rs
    registers_in_order _ _ _ cs os rs at own (AreNamesInOrder.end p) h t = none cs os rs h t
      where
        none : (ks : List Counted) (os rs : List Name) → AreSplit s q [] ks os → AreToldBy d called (register_names ks) rs → AreInOrder d p [] rs
        none _ _ [] AreSplit.end t = at_end p
        none _ _ (r ∷ rs) AreSplit.end t = absurd t
    registers_in_order _ _ _ cs os rs at own (AreNamesInOrder.net_of p n xs ns rest) h t =
        by (shape (called p.path n ∷ ns) cs os h) (λ ds ps us. registers_in_order p xs ns ds ps us at (λ k g. own k (inr g)) rest)
      where
        by : Shape (called p.path n ∷ ns) cs os
            → ((ds : List Counted) (ps us : List Name) → AreSplit s q ns ds ps → AreToldBy d called (register_names ds) us → AreInOrder d p xs us)
            → AreInOrder d p (net n ∷ xs) rs
        by (inl (c, ds, is, later, e)) f = first rs (subst (λ ks. AreToldBy d called (register_names ks) rs) (sym e) t)
          where
            first : (us : List Name) → AreToldBy d called (c.of_name ∷ register_names ds) us → AreInOrder d p (net n ∷ xs) us
            first [] g = absurd g
            first (u ∷ us) g =
                subst (λ k. AreInOrder d p (net n ∷ xs) (k ∷ us)) (sym (g.0 p n at (own n (inl refl)) (sym is.named)))
                (a_register p n xs us (to_design p n at (own n (inl refl)) is.is_register) (f ds os us later g.1))
        by (inr (ps, free, later)) f = another p n xs rs (λ r. free (from_design p n r)) (f cs ps rs later t)
    registers_in_order _ _ _ cs os rs at own (AreNamesInOrder.below p z u xs ms ns to inner rest) h t =
        let r = parts ms ns cs os h in
        let k = told_parts (register_names r.first) (register_names r.second) rs
        (subst (λ ys. AreToldBy d called ys rs) (sym (names_joined r.first r.second cs r.joined)) t) in
        subst (AreInOrder d p (instance u ∷ xs)) k.joined
        (goes_below p z u xs k.first k.second to
        (registers_in_order z (members_in z.of_module) ms r.first r.others k.first (placed_in d (instance_step u ∷ p.path) z to) (λ n g. net_is_declared z.of_module n g) inner
        r.of_first k.of_first)
        (registers_in_order p xs ns r.second r.rest k.second at (λ k g. own k (inr g)) rest r.of_second k.of_second))
