-- The registers of a design stand in one order.
use Rattle.std.proofs.Common.{◌≡◌, ◌∙◌, ◌⊎◌, inl, inr, List, [], ◌∷◌, ◌++◌, Some, refl, sym, ap, ap₂, subst}
use Rattle.wb_values.specs.Value.{Name}
use Rattle.verilog_meaning.specs.Hierarchy.{Placed, dotted, instance_step}
use Rattle.verilog_meaning.specs.Settled.{Design, at_path}
use Rattle.verilog_registers.specs.Registers.{IsRegister}
use Rattle.verilog_registers.specs.Order.{Member, net, instance, members_in, AreInOrder, end, register, other, below}
use Rattle.design_cycles.specs.Unique.{OneOrder}

pub some_same : {A : Type 0} {x y : A} → Some x ≡ Some y → x ≡ y
some_same e = cc

-- what names in order are, by the first part
abbrev Shape : Design → Placed → List Member → List Name → Type 0
Shape d p [] ms = [] ≡ ms
Shape d p (net n ∷ xs) ms =
    ((ls : List Name) × IsRegister d p n × AreInOrder d p xs ls × (dotted p.path n ∷ ls ≡ ms)) ⊎ ((IsRegister d p n → ⊥) × AreInOrder d p xs ms)
Shape d p (instance u ∷ xs) ms =
    (q : Placed) × (ks : List Name) × (ls : List Name) × (at_path d (instance_step u ∷ p.path) ≡ Some q) × AreInOrder d q (members_in q.of_module) ks × AreInOrder d p xs ls × (ks ++ ls ≡ ms)

shape : (d : Design) (p : Placed) (xs : List Member) (ms : List Name) → AreInOrder d p xs ms → Shape d p xs ms
shape d _ _ _ (end p) = refl
shape d _ _ _ (register p n xs ls h g) = inl (ls, h, g, refl)
shape d _ _ _ (other p n xs ls h g) = inr (h, g)
shape d _ _ _ (below p q u xs ks ls e g h) = (q, ks, ls, e, g, h, refl)

after_register : (d : Design) (p : Placed) (n : Name) (xs : List Member) (ns ms : List Name) → IsRegister d p n → ((ls : List Name) → AreInOrder d p xs ls → ns ≡ ls)
    → Shape d p (net n ∷ xs) ms → dotted p.path n ∷ ns ≡ ms
after_register d p n xs ns ms h rest (inl s) = ap (λ ls. dotted p.path n ∷ ls) (rest s.0 s.2) ∙ s.3
after_register d p n xs ns ms h rest (inr s) = absurd (s.0 h)

after_other : (d : Design) (p : Placed) (n : Name) (xs : List Member) (ns ms : List Name) → (IsRegister d p n → ⊥) → ((ls : List Name) → AreInOrder d p xs ls → ns ≡ ls)
    → Shape d p (net n ∷ xs) ms → ns ≡ ms
after_other d p n xs ns ms h rest (inl s) = absurd (h s.1)
after_other d p n xs ns ms h rest (inr s) = rest ms s.1

after_instance : (d : Design) (p q : Placed) (u : Name) (xs : List Member) (is ns ms : List Name) → at_path d (instance_step u ∷ p.path) ≡ Some q
    → ((ks : List Name) → AreInOrder d q (members_in q.of_module) ks → is ≡ ks) → ((ls : List Name) → AreInOrder d p xs ls → ns ≡ ls)
    → Shape d p (instance u ∷ xs) ms → is ++ ns ≡ ms
after_instance d p q u xs is ns ms e inner rest s =
    let same : s.0 ≡ q = some_same (sym s.3 ∙ e) in
    ap₂ (λ a b. a ++ b) (inner s.1 (subst (λ r. AreInOrder d r (members_in r.of_module) s.1) same s.4)) (rest s.2 s.5) ∙ s.6

pub one_order : OneOrder
one_order d _ _ _ ms (end p) k = shape d p [] ms k
one_order d _ _ _ ms (register p n xs ns h g) k = after_register d p n xs ns ms h (λ ls j. one_order d p xs ns ls g j) (shape d p (net n ∷ xs) ms k)
one_order d _ _ _ ms (other p n xs ns h g) k = after_other d p n xs ns ms h (λ ls j. one_order d p xs ns ls g j) (shape d p (net n ∷ xs) ms k)
one_order d _ _ _ ms (below p q u xs is ns e g h) k =
    after_instance d p q u xs is ns ms e (λ ks j. one_order d q (members_in q.of_module) is ks g j) (λ ls j. one_order d p xs ns ls h j) (shape d p (instance u ∷ xs) ms k)
