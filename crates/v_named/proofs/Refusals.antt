-- Which kind on names a design breaks first.
use Rattle.std.proofs.Common.{◌≡◌, ◌∙◌, refl, sym, ap, subst, ℕ, suc, zero, ◌<◌, arith, Bool, true, false, true≢false, cond, ◌||◌, List, [], ◌∷◌, inl, inr, slice_get, Some, None, option_map}
use Rattle.std.specs.List.{list_any}
use Rattle.wb_values.specs.Value.{Name, same_name}
use Rattle.verilog_trees.specs.Syntax.{Module, Source}
use Rattle.verilog_meaning.specs.Hierarchy.{Placed, module_named}
use Rattle.verilog_meaning.specs.Settled.{Design}
use Rattle.verilog_designs.specs.Known.{known_at, known_constants}
use Rattle.verilog_designs.specs.Names.{has_undeclared, has_duplicate, has_duplicate_module}
use Rattle.verilog_designs.specs.Accepted.{DesignKind, kinds, no_top, undeclared, duplicate_name, bad_hierarchy, has_xz, bad_port, bad_constant, width_over_128, bad_select, memory_use, clock_as_data, bad_event_list, blocking_in_clocked, nonblocking_in_comb, latch, bad_driver, undriven, comb_loop, HasNoTop, has_no_clock, HasDuplicateName, Breaks, IsRefusedBy}
use Rattle.verilog_unique.proofs.Options.{same_is}
use Rattle.verilog_unique.proofs.Descent.{IsAmong, among_contains, contains_among}
use Rattle.v_standing.specs.Standing.{AreStanding}
use Rattle.v_named.specs.Names.{IsTopOf, IsNamesKind, modules_kind}

-- ---- lists

some_is : {A : Type 0} (x y : A) → Some x ≡ Some y → x ≡ y
some_is x y e = cc

none_some : {A : Type 0} (x : A) → None ≡ Some x → ⊥
none_some x e = cc

or_left : (a b : Bool) → (a || b) ≡ false → a ≡ false
or_left true b e = e
or_left false b e = refl

or_right : (a b : Bool) → (a || b) ≡ false → b ≡ false
or_right true b e = absurd (true≢false e)
or_right false b e = e

some_so : {A : Type 0} (p : A → Bool) (xs : List A) → list_any p xs ≡ true → (x : A) × IsAmong xs x × (p x ≡ true)
some_so p [] e = absurd (true≢false (sym e))
some_so p (x ∷ xs) e = chosen (p x) refl e (some_so p xs)
  where
    chosen : (b : Bool) → p x ≡ b → (b || list_any p xs) ≡ true → (list_any p xs ≡ true → (y : _) × IsAmong xs y × (p y ≡ true)) → (y : _) × IsAmong (x ∷ xs) y × (p y ≡ true)
    chosen true f g later = (x, inl refl, f)
    chosen false f g later = let h = later g in (h.0, inr h.1, h.2)

none_so : {A : Type 0} (p : A → Bool) (xs : List A) (x : A) → list_any p xs ≡ false → IsAmong xs x → p x ≡ false
none_so p [] x e h = absurd h
none_so p (y ∷ xs) x e (inl f) = subst (λ z. p z ≡ false) f (or_left (p y) (list_any p xs) e)
none_so p (y ∷ xs) x e (inr h) = none_so p xs x (or_right (p y) (list_any p xs) e) h

-- ---- the order of the kinds

abbrev is_no_top : DesignKind → Bool
is_no_top no_top = true
is_no_top _ = false

abbrev is_undeclared : DesignKind → Bool
is_undeclared undeclared = true
is_undeclared _ = false

abbrev is_duplicate : DesignKind → Bool
is_duplicate duplicate_name = true
is_duplicate _ = false

abbrev is_hierarchy : DesignKind → Bool
is_hierarchy bad_hierarchy = true
is_hierarchy _ = false

at_no_place : (p : DesignKind → Bool) (ks : List DesignKind) (i : ℕ) (k : DesignKind) → list_any p ks ≡ false → slice_get ks i ≡ Some k → p k ≡ false
at_no_place p [] i k h e = absurd (none_some k e)
at_no_place p (x ∷ ks) zero k h e = subst (λ y. p y ≡ false) (some_is x k e) (or_left (p x) (list_any p ks) h)
at_no_place p (x ∷ ks) (suc i) k h e = at_no_place p ks i k (or_right (p x) (list_any p ks) h) e

abbrev after_fourth : List DesignKind
after_fourth =
    has_xz ∷ bad_port ∷ bad_constant ∷ width_over_128 ∷ bad_select ∷ memory_use
    ∷ clock_as_data ∷ bad_event_list ∷ blocking_in_clocked ∷ nonblocking_in_comb ∷ latch ∷ bad_driver ∷ undriven ∷ comb_loop ∷ []

abbrev after_third : List DesignKind
after_third = bad_hierarchy ∷ after_fourth

abbrev after_second : List DesignKind
after_second = duplicate_name ∷ after_third

abbrev after_first : List DesignKind
after_first = undeclared ∷ after_second

-- no kind stands before the first, and those before the others are not broken
before_first : (d : Design) (i j : ℕ) (k : DesignKind) → slice_get kinds i ≡ Some k → slice_get kinds j ≡ Some no_top → i < j → ¬ Breaks d k
before_first d i zero k e f l = absurd (omega (arith, l))
before_first d i (suc j) k e f l = absurd (true≢false (at_no_place is_no_top after_first j no_top refl f))

before_second : (d : Design) → ¬ Breaks d no_top → (i j : ℕ) (k : DesignKind) → slice_get kinds i ≡ Some k → slice_get kinds j ≡ Some undeclared → i < j → ¬ Breaks d k
before_second d n zero j k e f l = subst (λ y. ¬ Breaks d y) (some_is no_top k e) n
before_second d n (suc i) zero k e f l = absurd (omega (arith, l))
before_second d n (suc i) (suc zero) k e f l = absurd (omega (arith, l))
before_second d n (suc i) (suc (suc j)) k e f l = absurd (true≢false (at_no_place is_undeclared after_second j undeclared refl f))

before_third : (d : Design) → ¬ Breaks d no_top → ¬ Breaks d undeclared → (i j : ℕ) (k : DesignKind) → slice_get kinds i ≡ Some k → slice_get kinds j ≡ Some duplicate_name → i < j → ¬ Breaks d k
before_third d n u zero j k e f l = subst (λ y. ¬ Breaks d y) (some_is no_top k e) n
before_third d n u (suc zero) j k e f l = subst (λ y. ¬ Breaks d y) (some_is undeclared k e) u
before_third d n u (suc (suc i)) zero k e f l = absurd (omega (arith, l))
before_third d n u (suc (suc i)) (suc zero) k e f l = absurd (omega (arith, l))
before_third d n u (suc (suc i)) (suc (suc zero)) k e f l = absurd (omega (arith, l))
before_third d n u (suc (suc i)) (suc (suc (suc j))) k e f l = absurd (true≢false (at_no_place is_duplicate after_third j duplicate_name refl f))

before_fourth : (d : Design) → ¬ Breaks d no_top → ¬ Breaks d undeclared → ¬ Breaks d duplicate_name → (i j : ℕ) (k : DesignKind) → slice_get kinds i ≡ Some k → slice_get kinds j ≡ Some bad_hierarchy → i < j → ¬ Breaks d k
before_fourth d n u t zero j k e f l = subst (λ y. ¬ Breaks d y) (some_is no_top k e) n
before_fourth d n u t (suc zero) j k e f l = subst (λ y. ¬ Breaks d y) (some_is undeclared k e) u
before_fourth d n u t (suc (suc zero)) j k e f l = subst (λ y. ¬ Breaks d y) (some_is duplicate_name k e) t
before_fourth d n u t (suc (suc (suc i))) zero k e f l = absurd (omega (arith, l))
before_fourth d n u t (suc (suc (suc i))) (suc zero) k e f l = absurd (omega (arith, l))
before_fourth d n u t (suc (suc (suc i))) (suc (suc zero)) k e f l = absurd (omega (arith, l))
before_fourth d n u t (suc (suc (suc i))) (suc (suc (suc zero))) k e f l = absurd (omega (arith, l))
before_fourth d n u t (suc (suc (suc i))) (suc (suc (suc (suc j)))) k e f l = absurd (true≢false (at_no_place is_hierarchy after_fourth j bad_hierarchy refl f))

pub no_module : (d : Design) → module_named d.source d.top ≡ None → IsRefusedBy d no_top
no_module d e = record { breaks = HasNoTop.no_module e; first = before_first d }

pub hierarchy : (d : Design) → IsNamesKind d None → Breaks d bad_hierarchy → IsRefusedBy d bad_hierarchy
hierarchy d h b = record { breaks = b; first = before_fourth d h.0 h.1 h.2 }

-- ---- the top has the name

named_so : (source : Source) (n : Name) (m : Module) → module_named source n ≡ Some m → m.module_name ≡ n
named_so [] n m e = cc
named_so (x ∷ source) n m e = chosen (same_name x.module_name n) refl (named_so source n m) e
  where
    chosen : (b : Bool) → same_name x.module_name n ≡ b → (module_named source n ≡ Some m → m.module_name ≡ n) → cond b (Some x) (module_named source n) ≡ Some m → m.module_name ≡ n
    chosen true t f h = let same : x ≡ m = cc in subst (λ y. y.module_name ≡ n) same (same_is x.module_name n t)
    chosen false t f h = f h

-- ---- the rules, one after the other

abbrev pub known_top : Module → Placed
known_top m = record { path = []; of_module = m; constants = known_constants m (λ n. None) }

module _ (d : Design) (source : Source) (m : Module) (top : IsTopOf d source m) where
  top_is : known_at d.source d.top [] ≡ Some (known_top m)
  top_is = ap (option_map known_top) top.1

  pub refused_first : (b : Bool) → b ≡ has_no_clock (known_top m) d.clock → b ≡ true → IsRefusedBy d no_top
  refused_first b e t = record { breaks = HasNoTop.no_clock (known_top m) top_is (sym e ∙ t); first = before_first d }

  has_top : (b : Bool) → b ≡ has_no_clock (known_top m) d.clock → b ≡ false → ¬ Breaks d no_top
  has_top b e f (HasNoTop.no_module n) = none_some m (sym n ∙ top.1)
  has_top b e f (HasNoTop.no_clock p is lacks) =
      let same : known_top m ≡ p = some_is (known_top m) p (sym top_is ∙ is) in
      true≢false (sym lacks ∙ subst (λ q. has_no_clock q d.clock ≡ false) same (sym e ∙ f))

  module _ (ms : List Module) (standing : (clock : Name) → AreStanding (record { source = source; top = m.module_name; clock = clock }) ms) (b : Bool) (clock : b ≡ has_no_clock (known_top m) d.clock) (clock_is : b ≡ false) where
    -- of the design itself
    here : AreStanding d ms
    here =
        let name : m.module_name ≡ d.top = named_so d.source d.top m top.1 in
        subst (λ s. AreStanding (record { source = s; top = d.top; clock = d.clock }) ms) (sym top.0)
        (subst (λ n. AreStanding (record { source = source; top = n; clock = d.clock }) ms) name (standing d.clock))

    refused_second : (c : Bool) → c ≡ list_any (has_undeclared source) ms → c ≡ true → IsRefusedBy d undeclared
    refused_second c e t =
        let found = some_so (has_undeclared source) ms (sym e ∙ t) in
        record {
          breaks = record {
            within = found.0;
            stands = here.standing found.0 (contains_among ms found.0 found.1);
            names_unknown = subst (λ s. has_undeclared s found.0 ≡ true) (sym top.0) found.2;
          };
          first = before_second d (has_top b clock clock_is);
        }

    module _ (c : Bool) (declared : c ≡ list_any (has_undeclared source) ms) (declared_is : c ≡ false) where
      all_declared : ¬ Breaks d undeclared
      all_declared u =
          true≢false (sym u.names_unknown
          ∙ subst (λ s. has_undeclared s u.within ≡ false) (sym top.0)
          (none_so (has_undeclared source) ms u.within (sym declared ∙ declared_is) (among_contains ms u.within (here.all u.within u.stands))))

      refused_third : (t : Bool) → t ≡ (has_duplicate_module source || list_any has_duplicate ms) → t ≡ true → IsRefusedBy d duplicate_name
      refused_third t e f = record { breaks = twice (has_duplicate_module source) refl (sym e ∙ f); first = before_third d (has_top b clock clock_is) all_declared }
        where
          twice : (x : Bool) → has_duplicate_module source ≡ x → (x || list_any has_duplicate ms) ≡ true → HasDuplicateName d
          twice true g h = HasDuplicateName.modules (subst (λ s. has_duplicate_module s ≡ true) (sym top.0) g)
          twice false g h =
              let found = some_so has_duplicate ms h in
              HasDuplicateName.names found.0 (here.standing found.0 (contains_among ms found.0 found.1)) found.2

      none_first : (t : Bool) → t ≡ (has_duplicate_module source || list_any has_duplicate ms) → t ≡ false → IsNamesKind d None
      none_first t e f = (has_top b clock clock_is, all_declared, once)
        where
          once : ¬ Breaks d duplicate_name
          once (HasDuplicateName.modules g) =
              true≢false (sym g ∙ subst (λ s. has_duplicate_module s ≡ false) (sym top.0) (or_left (has_duplicate_module source) (list_any has_duplicate ms) (sym e ∙ f)))
          once (HasDuplicateName.names k s g) =
              true≢false (sym g ∙ none_so has_duplicate ms k (or_right (has_duplicate_module source) (list_any has_duplicate ms) (sym e ∙ f)) (among_contains ms k (here.all k s)))

    -- the first of the two kinds on modules
    pub kind_so : (u t : Bool) → u ≡ list_any (has_undeclared source) ms → t ≡ (has_duplicate_module source || list_any has_duplicate ms) → IsNamesKind d (modules_kind u t)
    kind_so true t e f = refused_second true e refl
    kind_so false true e f = refused_third false e refl true f refl
    kind_so false false e f = none_first false e refl false f refl
