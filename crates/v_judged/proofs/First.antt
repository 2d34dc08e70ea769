-- The first kind that is broken, and what it says of a design.
use Rattle.std.proofs.Common.{◌≡◌, ◌∙◌, refl, sym, ap, subst, ℕ, zero, suc, ◌+◌, ◌<◌, arith, Bool, true, false, true≢false, cond, inl, inr, List, [], ◌∷◌, ◌++◌, slice_get, Option, Some, None, is_some}
use Rattle.std.specs.Prelude.{◌↔◌, IsTrue}
use Rattle.verilog_meaning.specs.Settled.{Design}
use Rattle.verilog_designs.specs.Accepted as designs
use Rattle.verilog_designs.specs.Accepted.{kinds, Breaks, IsAccepted, IsRefusedBy, no_top, undeclared, duplicate_name, bad_hierarchy, has_xz, bad_port, bad_constant, width_over_128, bad_select, memory_use, clock_as_data, bad_event_list, blocking_in_clocked, nonblocking_in_comb, latch, bad_driver, undriven, comb_loop}
use Rattle.v_scopes.proofs.Parts.{some_is, none_some}
use Rattle.v_judged.specs.declared.kind.DesignKind.{DesignKind}
use Rattle.v_named.specs.declared.kind.NamesKind.{NamesKind}
use Rattle.v_named.specs.declared.kind.NamesKind.TheVariants.{NoTop, Undeclared, DuplicateName, BadHierarchy}
use Rattle.v_named.specs.Names as names
use Rattle.v_judged.specs.Refusal.{kind_of, IsDesignRefusal, of_names}
use Rattle.v_judged.specs.First.{kind_in, IsFirst, name_kinds}

-- ---- one list after another

pub not_here : (d : Design) (k : designs.DesignKind) (ks : List designs.DesignKind) → IsFirst d (k ∷ ks) None → (¬ Breaks d k) × IsFirst d ks None
not_here d k ks (inl h) = absurd (none_some k h.0)
not_here d k ks (inr h) = h

pub joined : (d : Design) (ks ls : List designs.DesignKind) (o : Option DesignKind) → IsFirst d ks None → IsFirst d ls o → IsFirst d (ks ++ ls) o
joined d [] ls o h g = g
joined d (k ∷ ks) ls o h g = let r = not_here d k ks h in inr (r.0, joined d ks ls o r.1 g)

pub kept : (d : Design) (ks ls : List designs.DesignKind) (o : Option DesignKind) → is_some o ≡ true → IsFirst d ks o → IsFirst d (ks ++ ls) o
kept d [] ls o e h = absurd (true≢false (sym e ∙ ap is_some h))
kept d (k ∷ ks) ls o e (inl h) = inl h
kept d (k ∷ ks) ls o e (inr h) = inr (h.0, kept d ks ls o e h.1)

pub none_is : (o : Option DesignKind) → is_some o ≡ false → o ≡ None
none_is None e = refl
none_is (Some k) e = absurd (true≢false e)

-- ---- one kind after another

-- the design breaks the rule where it is told so, and does not where it is told so
abbrev pub Decides : Bool → Type 0 → Type 0
Decides b B = (b ≡ true → B) × (b ≡ false → ¬ B)

pub decided : (b : Bool) (A B : Type 0) → (IsTrue b ↔ A) → (A ↔ B) → Decides b B
decided b A B told same = ((λ e. same.0 (told.0 e)), (λ e h. true≢false (sym (told.1 (same.1 h)) ∙ e)))

pub asked : (d : Design) (b : Bool) (k : DesignKind) (ks : List designs.DesignKind) (o : Option DesignKind) → Decides b (Breaks d (kind_of k)) → IsFirst d ks o
    → IsFirst d (kind_of k ∷ ks) (cond b (Some k) o)
asked d true k ks o h rest = inl (refl, h.0 refl)
asked d false k ks o h rest = inr (h.1 refl, rest)

-- ---- the numbers of the kinds in their order

number : designs.DesignKind → ℕ
number no_top = 0
number undeclared = 1
number duplicate_name = 2
number bad_hierarchy = 3
number has_xz = 4
number bad_port = 5
number bad_constant = 6
number width_over_128 = 7
number bad_select = 8
number memory_use = 9
number clock_as_data = 10
number bad_event_list = 11
number blocking_in_clocked = 12
number nonblocking_in_comb = 13
number latch = 14
number bad_driver = 15
number undriven = 16
number comb_loop = 17

AreNumbered : ℕ → List designs.DesignKind → Type 0
AreNumbered n [] = Unit {0}
AreNumbered n (k ∷ ks) = (number k ≡ n) × AreNumbered (suc n) ks

all_numbered : AreNumbered 0 kinds
unfolding AreNumbered number
all_numbered = (refl, (refl, (refl, (refl, (refl, (refl, (refl, (refl, (refl, (refl, (refl, (refl, (refl, (refl, (refl, (refl, (refl, (refl, tt))))))))))))))))))

number_at : (n : ℕ) (ks : List designs.DesignKind) (i : ℕ) (k : designs.DesignKind) → AreNumbered n ks → slice_get ks i ≡ Some k → number k ≡ n + i
unfolding AreNumbered
number_at n [] i k h e = absurd (none_some k e)
number_at n (x ∷ ks) zero k h e = let f = subst (λ y. number y ≡ n) (some_is x k e) h.0 in omega (arith, f)
number_at n (x ∷ ks) (suc i) k h e = let f = number_at (suc n) ks i k h.1 e in omega (arith, f)

at_number : (k : designs.DesignKind) → slice_get kinds (number k) ≡ Some k
unfolding number
at_number no_top = refl
at_number undeclared = refl
at_number duplicate_name = refl
at_number bad_hierarchy = refl
at_number has_xz = refl
at_number bad_port = refl
at_number bad_constant = refl
at_number width_over_128 = refl
at_number bad_select = refl
at_number memory_use = refl
at_number clock_as_data = refl
at_number bad_event_list = refl
at_number blocking_in_clocked = refl
at_number nonblocking_in_comb = refl
at_number latch = refl
at_number bad_driver = refl
at_number undriven = refl
at_number comb_loop = refl

-- ---- what is first is broken, and nothing before it

module _ (d : Design) where
  pub none_at : (ks : List designs.DesignKind) (i : ℕ) (k : designs.DesignKind) → IsFirst d ks None → slice_get ks i ≡ Some k → ¬ Breaks d k
  none_at [] i k h e = absurd (none_some k e)
  none_at (x ∷ ks) zero k h e = subst (λ y. ¬ Breaks d y) (some_is x k e) (not_here d x ks h).0
  none_at (x ∷ ks) (suc i) k h e = none_at ks i k (not_here d x ks h).1 e

  module _ (o : Option DesignKind) (k : designs.DesignKind) (is : kind_in o ≡ Some k) where
    broken : (ks : List designs.DesignKind) → IsFirst d ks o → Breaks d k
    broken [] h = absurd (none_some k (ap kind_in (sym h) ∙ is))
    broken (x ∷ ks) (inl h) = subst (Breaks d) (some_is x k (sym h.0 ∙ is)) h.1
    broken (x ∷ ks) (inr h) = broken ks h.1

    before : (n : ℕ) (ks : List designs.DesignKind) → AreNumbered n ks → IsFirst d ks o
        → (i j : ℕ) (b : designs.DesignKind) → slice_get ks i ≡ Some b → slice_get ks j ≡ Some k → i < j → ¬ Breaks d b
    unfolding AreNumbered
    before n [] num h i j b f g l = absurd (none_some b f)
    before n (x ∷ ks) num (inl h) i j b f g l =
        let here = subst (λ y. number y ≡ n) (some_is x k (sym h.0 ∙ is)) num.0 in
        let there = number_at n (x ∷ ks) j k num g in
        absurd (omega (arith, here, there, l))
    before n (x ∷ ks) num (inr h) zero j b f g l = subst (λ y. ¬ Breaks d y) (some_is x b f) h.0
    before n (x ∷ ks) num (inr h) (suc i) zero b f g l = absurd (omega (arith, l))
    before n (x ∷ ks) num (inr h) (suc i) (suc j) b f g l = before (suc n) ks num.1 h.1 i j b f g (omega (arith, l))

  -- the answer, where the first of all kinds is told
  pub answered : (o : Option DesignKind) → IsFirst d kinds o → IsDesignRefusal d o
  answered None h = λ k. none_at kinds (number k) k h (at_number k)
  answered (Some c) h = record { breaks = broken (Some c) (kind_of c) refl kinds h; first = before (Some c) (kind_of c) refl 0 kinds all_numbered h }

-- ---- kinds on names

pub named : (d : Design) (k : NamesKind) → IsRefusedBy d (names.kind_of k) → IsRefusedBy d (kind_of (of_names k))
named d NoTop h = h
named d Undeclared h = h
named d DuplicateName h = h
named d BadHierarchy h = h

pub none_named : (d : Design) → ¬ Breaks d no_top → ¬ Breaks d undeclared → ¬ Breaks d duplicate_name → ¬ Breaks d bad_hierarchy → IsFirst d name_kinds None
none_named d a b c e = inr (a, inr (b, inr (c, inr (e, refl))))
