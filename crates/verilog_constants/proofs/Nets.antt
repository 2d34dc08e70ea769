-- A net where a constant is wanted breaks the rule on constants, wherever it stands in it.
use Rattle.std.proofs.Common.{◌≡◌, ◌≢◌, Bool, true, false, cond, ◌&&◌, ◌||◌, ◌++◌, ◌∷◌, ◌⊎◌, inl, inr, refl, ap, sym, ◌∙◌, subst, ℕ, Option, Some, None, List, []}
use Rattle.std.specs.Prelude.{is_none}
use Rattle.wb_values.specs.Value.{Name}
use Rattle.verilog_trees.specs.Syntax.{Expression, number, name, concatenation, replication, as_signed, as_unsigned, unary, reduction, binary, shift, power, comparison, logical, conditional, Expressions, no_expressions, expression, Select, index, part, part_up, part_down, Selects, whole, one, two}
use Rattle.verilog_meaning.specs.Expression.{Object, Scope}
use Rattle.verilog_rules.specs.Expression.{constant, broken, broken_parts, broken_selects, broken_select}
use Rattle.verilog_designs.specs.Names.{names_in, names_in_all, names_in_select, names_in_selects}
use Rattle.verilog_unique.proofs.Descent.{IsAmong, among_either}
use Rattle.verilog_constants.specs.Alike.{IsNet}

on_left : (a b : Bool) → a ≡ true → (a || b) ≡ true
on_left a b e = ap (λ x. x || b) e

on_right : (a b : Bool) → b ≡ true → (a || b) ≡ true
on_right true b e = refl
on_right false b e = e

-- a net is no constant
net_here : (o : Object) → IsNet o → (o.is_declared && (true && is_none o.constant)) ≡ true
net_here o h = ap (λ d. d && is_none o.constant) h.0 ∙ ap is_none h.1

module _ (s : Scope) (n : Name) (net : IsNet (s n)) where
  mutual
    pub net_breaks : (w : Option ℕ) (g : Bool) (e : Expression) → IsAmong (names_in e) n → (broken s (constant w g) e).bad_constant ≡ true
    net_breaks w g (number k) h = absurd h
    net_breaks w g (name m x) (inl e) = on_left _ _ (net_here (s m) (subst (λ k. IsNet (s k)) (sym e) net))
    net_breaks w g (name m x) (inr h) = on_right _ _ (net_in_selects w g (s m) x h)
    net_breaks w g (concatenation es) h = on_right _ _ (net_in_parts w g es h)
    net_breaks w g (replication k es) h =
        elim (among_either (names_in k) (names_in_all es) n h) [
          | inl i ↦ on_left _ _ (on_right _ _ (net_breaks _ _ k i))
          | inr i ↦ on_right _ _ (on_right _ _ (net_in_parts w g es i))
        ]
    net_breaks w g (as_signed x) h = net_breaks _ _ x h
    net_breaks w g (as_unsigned x) h = net_breaks _ _ x h
    net_breaks w g (unary op x) h = net_breaks w g x h
    net_breaks w g (reduction op x) h = net_breaks _ _ x h
    net_breaks w g (binary op x y) h =
        elim (among_either (names_in x) (names_in y) n h)
        [ inl i ↦ on_left _ _ (net_breaks w g x i) | inr i ↦ on_right _ _ (on_right _ _ (net_breaks w g y i)) ]
    net_breaks w g (shift op x y) h =
        elim (among_either (names_in x) (names_in y) n h) [ inl i ↦ on_left _ _ (net_breaks w g x i) | inr i ↦ on_right _ _ (net_breaks _ _ y i) ]
    net_breaks w g (power x y) h =
        elim (among_either (names_in x) (names_in y) n h)
        [ inl i ↦ on_left _ _ (net_breaks w g x i) | inr i ↦ on_right _ _ (on_right _ _ (net_breaks _ _ y i)) ]
    net_breaks w g (comparison op x y) h =
        elim (among_either (names_in x) (names_in y) n h) [ inl i ↦ on_left _ _ (net_breaks _ _ x i) | inr i ↦ on_right _ _ (net_breaks _ _ y i) ]
    net_breaks w g (logical op x y) h =
        elim (among_either (names_in x) (names_in y) n h) [ inl i ↦ on_left _ _ (net_breaks _ _ x i) | inr i ↦ on_right _ _ (net_breaks _ _ y i) ]
    net_breaks w g (conditional c x y) h =
        elim (among_either (names_in c ++ names_in x) (names_in y) n h) [
          | inl i ↦ elim (among_either (names_in c) (names_in x) n i)
              [ inl k ↦ on_left _ _ (on_left _ _ (net_breaks _ _ c k)) | inr k ↦ on_left _ _ (on_right _ _ (net_breaks w g x k)) ]
          | inr i ↦ on_right _ _ (net_breaks w g y i)
        ]

    net_in_parts : (w : Option ℕ) (g : Bool) (es : Expressions) → IsAmong (names_in_all es) n → (broken_parts s (constant w g) es).bad_constant ≡ true
    net_in_parts w g no_expressions h = absurd h
    net_in_parts w g (expression e es) h =
        elim (among_either (names_in e) (names_in_all es) n h)
        [ inl i ↦ on_left _ _ (on_right _ _ (net_breaks _ _ e i)) | inr i ↦ on_right _ _ (net_in_parts w g es i) ]

    net_in_selects : (w : Option ℕ) (g : Bool) (o : Object) (x : Selects) → IsAmong (names_in_selects x) n
        → (broken_selects s (constant w g) o x).bad_constant ≡ true
    net_in_selects w g o whole h = absurd h
    net_in_selects w g o (one x) h = on_left _ _ (net_in_select w g x h)
    net_in_selects w g o (two x y) h =
        elim (among_either (names_in_select x) (names_in_select y) n h)
        [ inl i ↦ on_left _ _ (net_in_select w g x i) | inr i ↦ on_right _ _ (on_left _ _ (net_in_select w g y i)) ]

    net_in_select : (w : Option ℕ) (g : Bool) (x : Select) → IsAmong (names_in_select x) n → (broken_select s (constant w g) x).bad_constant ≡ true
    net_in_select w g (index i) h = net_breaks _ _ i h
    net_in_select w g (part a b) h =
        elim (among_either (names_in a) (names_in b) n h) [ inl i ↦ on_left _ _ (net_breaks _ _ a i) | inr i ↦ on_right _ _ (net_breaks _ _ b i) ]
    net_in_select w g (part_up b k) h =
        elim (among_either (names_in b) (names_in k) n h)
        [ inl i ↦ on_left _ _ (net_breaks _ _ b i) | inr i ↦ on_right _ _ (on_right _ _ (net_breaks _ _ k i)) ]
    net_in_select w g (part_down b k) h =
        elim (among_either (names_in b) (names_in k) n h)
        [ inl i ↦ on_left _ _ (net_breaks _ _ b i) | inr i ↦ on_right _ _ (on_right _ _ (net_breaks _ _ k i)) ]
