-- The kind that is worked out says which rule is broken first.
use Rattle.std.proofs.Common.{◌≡◌, ◌∙◌, refl, sym, subst, ℕ, suc, zero, ◌<◌, arith, Bool, true, false, true≢false, cond, ◌||◌, List, [], ◌∷◌, slice_get, Option, Some, None}
use Rattle.std.specs.List.{list_any}
use Rattle.wb_values.specs.Value.{Name}
use Rattle.verilog_trees.specs.Syntax.{Module, Source}
use Rattle.verilog_meaning.specs.Hierarchy.{Placed, module_named}
use Rattle.verilog_meaning.specs.Settled.{Design}
use Rattle.verilog_designs.specs.Known.{known_at}
use Rattle.verilog_designs.specs.Names.{has_undeclared, has_duplicate, has_duplicate_module}
use Rattle.verilog_designs.specs.Accepted.{DesignKind, kinds, no_top, undeclared, duplicate_name, bad_hierarchy, has_xz, bad_port, bad_constant, width_over_128, bad_select, memory_use, clock_as_data, bad_event_list, blocking_in_clocked, nonblocking_in_comb, latch, bad_driver, undriven, comb_loop, HasNoTop, has_no_clock, HasUndeclared, HasDuplicateName, StandsIn, Breaks, IsRefusedBy}
use Rattle.v_hier.specs.Instances.{has_parts}
use Rattle.v_scopes.specs.declared.refusal.ScopesKind.TheVariants.{NotYet, NoTop, Undeclared, DuplicateName}
use Rattle.v_scopes.specs.Ports.{alone, lacks_clock}
use Rattle.v_scopes.specs.Refusals.{IsWhole, IsNamesRefusal, names_kind, top_kind, design_kind}
use Rattle.v_scopes.proofs.Parts.{or_left, or_right, some_is, none_some, top_alone, stands_top, no_hierarchy}

-- ---- the order of the kinds

abbrev is_no_top : DesignKind → Bool
is_no_top no_top = true
is_no_top _ = false

abbrev is_undeclared : DesignKind → Bool
is_undeclared undeclared = true
is_undeclared _ = false

abbrev is_duplicate : DesignKind → Bool
is_duplicate duplicate_name = true
is_duplicate _ = false

at_no_place : (p : DesignKind → Bool) (ks : List DesignKind) (i : ℕ) (k : DesignKind) → list_any p ks ≡ false → slice_get ks i ≡ Some k → p k ≡ false
at_no_place p [] i k h e = absurd (none_some k e)
at_no_place p (x ∷ ks) zero k h e = subst (λ y. p y ≡ false) (some_is x k e) (or_left (p x) (list_any p ks) h)
at_no_place p (x ∷ ks) (suc i) k h e = at_no_place p ks i k (or_right (p x) (list_any p ks) h) e

abbrev after_third : List DesignKind
after_third =
    bad_hierarchy ∷ has_xz ∷ bad_port ∷ bad_constant ∷ width_over_128 ∷ bad_select ∷ memory_use
    ∷ clock_as_data ∷ bad_event_list ∷ blocking_in_clocked ∷ nonblocking_in_comb ∷ latch ∷ bad_driver ∷ undriven ∷ comb_loop ∷ []

abbrev after_second : List DesignKind
after_second = duplicate_name ∷ after_third

abbrev after_first : List DesignKind
after_first = undeclared ∷ after_second

before_first : (d : Design) (i j : ℕ) (k : DesignKind) → slice_get kinds i ≡ Some k → slice_get kinds j ≡ Some no_top → i < j → ¬ Breaks d k
before_first d i zero k e f l = absurd (omega (arith, l))
before_first d i (suc j) k e f l = absurd (true≢false (at_no_place is_no_top after_first j no_top refl f))

refused_first : (d : Design) → Breaks d no_top → IsRefusedBy d no_top
refused_first d b = record { breaks = b; first = before_first d }

before_second : (d : Design) → ¬ Breaks d no_top → (i j : ℕ) (k : DesignKind) → slice_get kinds i ≡ Some k → slice_get kinds j ≡ Some undeclared → i < j → ¬ Breaks d k
before_second d n zero j k e f l = subst (λ y. ¬ Breaks d y) (some_is no_top k e) n
before_second d n (suc i) zero k e f l = absurd (omega (arith, l))
before_second d n (suc i) (suc zero) k e f l = absurd (omega (arith, l))
before_second d n (suc i) (suc (suc j)) k e f l = absurd (true≢false (at_no_place is_undeclared after_second j undeclared refl f))

refused_second : (d : Design) → Breaks d undeclared → ¬ Breaks d no_top → IsRefusedBy d undeclared
refused_second d b n = record { breaks = b; first = before_second d n }

before_third : (d : Design) → ¬ Breaks d no_top → ¬ Breaks d undeclared → (i j : ℕ) (k : DesignKind) → slice_get kinds i ≡ Some k → slice_get kinds j ≡ Some duplicate_name → i < j → ¬ Breaks d k
before_third d n u zero j k e f l = subst (λ y. ¬ Breaks d y) (some_is no_top k e) n
before_third d n u (suc zero) j k e f l = subst (λ y. ¬ Breaks d y) (some_is undeclared k e) u
before_third d n u (suc (suc i)) zero k e f l = absurd (omega (arith, l))
before_third d n u (suc (suc i)) (suc zero) k e f l = absurd (omega (arith, l))
before_third d n u (suc (suc i)) (suc (suc zero)) k e f l = absurd (omega (arith, l))
before_third d n u (suc (suc i)) (suc (suc (suc j))) k e f l = absurd (true≢false (at_no_place is_duplicate after_third j duplicate_name refl f))

refused_third : (d : Design) → Breaks d duplicate_name → ¬ Breaks d no_top → ¬ Breaks d undeclared → IsRefusedBy d duplicate_name
refused_third d b n u = record { breaks = b; first = before_third d n u }

-- ---- the rules of a design with a top

no_clock_so : (d : Design) (m : Module) → IsWhole d → module_named d.source d.top ≡ Some m → lacks_clock m d.clock ≡ true → Breaks d no_top
unfolding lacks_clock
no_clock_so d m w e h = HasNoTop.no_clock (alone m) (top_alone d.source d.top m w e) h

has_top : (d : Design) (m : Module) → IsWhole d → module_named d.source d.top ≡ Some m → lacks_clock m d.clock ≡ false → HasNoTop d → ⊥
unfolding lacks_clock
has_top d m w e h (HasNoTop.no_module n) = none_some m (sym n ∙ e)
has_top d m w e h (HasNoTop.no_clock p is lacks) =
    let same = some_is (alone m) p (sym (top_alone d.source d.top m w e) ∙ is) in
    true≢false (sym lacks ∙ (subst (λ q. has_no_clock q d.clock ≡ false) same h))

all_declared : (d : Design) (m : Module) → IsWhole d → module_named d.source d.top ≡ Some m → has_undeclared d.source m ≡ false → HasUndeclared d → ⊥
all_declared d m w e h u =
    let same = some_is m u.within (sym e ∙ stands_top d w u.stands) in
    true≢false (sym u.names_unknown ∙ subst (λ k. has_undeclared d.source k ≡ false) same h)

none_twice : (d : Design) (m : Module) → IsWhole d → module_named d.source d.top ≡ Some m → has_duplicate_module d.source ≡ false → has_duplicate m ≡ false → HasDuplicateName d → ⊥
none_twice d m w e f h (HasDuplicateName.modules t) = true≢false (sym t ∙ f)
none_twice d m w e f h (HasDuplicateName.names k s t) =
    true≢false (sym t ∙ subst (λ y. has_duplicate y ≡ false) (some_is m k (sym e ∙ stands_top d w s)) h)

-- ---- one test after the other

module _ (d : Design) (w : IsWhole d) (m : Module) (is_top : module_named d.source d.top ≡ Some m) where
  by_names : ¬ Breaks d no_top → ¬ Breaks d undeclared → (b c : Bool) → has_duplicate_module d.source ≡ b → has_duplicate m ≡ c
      → IsNamesRefusal d (cond b (Some DuplicateName) (cond c (Some DuplicateName) None))
  by_names n u true c e f = (w, refused_third d (HasDuplicateName.modules e) n u)
  by_names n u false true e f = (w, refused_third d (HasDuplicateName.names m (StandsIn.at_top m is_top) f) n u)
  by_names n u false false e f = (w, n, u, none_twice d m w is_top e f, no_hierarchy d w)

  by_undeclared : ¬ Breaks d no_top → (b : Bool) → has_undeclared d.source m ≡ b
      → IsNamesRefusal d (cond b (Some Undeclared) (cond (has_duplicate_module d.source) (Some DuplicateName) (cond (has_duplicate m) (Some DuplicateName) None)))
  by_undeclared n true e = (w, refused_second d (record { within = m; stands = StandsIn.at_top m is_top; names_unknown = e }) n)
  by_undeclared n false e = by_names n (all_declared d m w is_top e) (has_duplicate_module d.source) (has_duplicate m) refl refl

  by_clock : (b : Bool) → lacks_clock m d.clock ≡ b
      → IsNamesRefusal d (cond b (Some NoTop) (cond (has_undeclared d.source m) (Some Undeclared)
      (cond (has_duplicate_module d.source) (Some DuplicateName) (cond (has_duplicate m) (Some DuplicateName) None))))
  by_clock true e = (w, refused_first d (no_clock_so d m w is_top e))
  by_clock false e = by_undeclared (has_top d m w is_top e) (has_undeclared d.source m) refl

by_top : (d : Design) → IsWhole d → (o : Option Module) → module_named d.source d.top ≡ o → IsNamesRefusal d (top_kind d.source d.clock o)
by_top d w None e = (w, refused_first d (HasNoTop.no_module e))
by_top d w (Some m) e = by_clock d w m e (lacks_clock m d.clock) refl

by_parts : (d : Design) (b : Bool) → has_parts d.source ≡ b → IsNamesRefusal d (cond b (Some NotYet) (top_kind d.source d.clock (module_named d.source d.top)))
by_parts d true e = e
by_parts d false e = by_top d e (module_named d.source d.top) refl

pub judged : (d : Design) → IsNamesRefusal d (design_kind d)
judged d = by_parts d (has_parts d.source) refl
