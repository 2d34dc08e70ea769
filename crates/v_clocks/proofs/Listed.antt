-- Lists of names that may all be used.
use Rattle.std.proofs.Common.{◌≡◌, ◌∙◌, refl, ap, Bool, true, false, not, ◌&&◌, List, [], ◌∷◌, ◌++◌}
use Rattle.std.specs.Prelude.{◌||◌}
use Rattle.std.specs.List.{list_any}
use Rattle.wb_values.specs.Value.{Name}
use Rattle.verilog_trees.specs.Syntax.{Expression}
use Rattle.verilog_designs.specs.Names.{names_in}
use Rattle.v_hier.specs.Reading.{all_known, expression_known}
use Rattle.v_clocks.specs.Uses.{none_of, mentions}

pub and-true : (b : Bool) → b && true ≡ b
and-true true = refl
and-true false = refl

pub and-assoc : (a b c : Bool) → (a && b) && c ≡ a && (b && c)
and-assoc true b c = refl
and-assoc false b c = refl

pub known-append : (k : Name → Bool) (xs ys : List Name) → all_known k (xs ++ ys) ≡ all_known k xs && all_known k ys
known-append k [] ys = refl
known-append k (x ∷ xs) ys = ap (λ b. k x && b) (known-append k xs ys) ∙ joined (k x) (all_known k xs) (all_known k ys)
  where
    joined : (a b c : Bool) → a && (b && c) ≡ (a && b) && c
    joined true b c = refl
    joined false b c = refl

-- two lists of which the tests are known
pub known-both : (k : Name → Bool) (xs ys : List Name) (a b : Bool) → all_known k xs ≡ a → all_known k ys ≡ b → all_known k (xs ++ ys) ≡ a && b
known-both k xs ys a b p q = known-append k xs ys ∙ ap (λ c. c && all_known k ys) p ∙ ap (λ c. a && c) q

-- all are names that are none of these, or one of them is one of these
none_known : (p : Name → Bool) (ns : List Name) → not (all_known (none_of p) ns) ≡ list_any p ns
none_known p [] = refl
none_known p (n ∷ ns) = turn (p n) (all_known (none_of p) ns) (list_any p ns) (none_known p ns)
  where
    turn : (a b c : Bool) → not b ≡ c → not (not a && b) ≡ (a || c)
    turn true b c e = refl
    turn false b c e = e

pub mentioned_so : (p : Name → Bool) (e : Expression) (r : Bool) → r ≡ expression_known (none_of p) e → not r ≡ mentions p e
unfolding expression_known mentions
mentioned_so p e r h = ap not h ∙ none_known p (names_in e)
