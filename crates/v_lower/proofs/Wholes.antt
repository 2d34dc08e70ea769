-- Operators that make one bit of a whole operand.
use Rattle.std.proofs.Common.{◌≡◌, ℕ, ◌-◌, ◌<◌, ◌^◌, Bool, true, not, length, ap, ◌∙◌, subst, arith}
use Rattle.std.specs.Prelude.{◌==◌}
use Rattle.std.proofs.Math.Pow.{pow_pos}
use Rattle.std.proofs.lemmas.Bool.{false≢true}
use Rattle.wb_values.specs.Value.{truth, word, Valuation}
use Rattle.model_meaning.specs.Term as pure_term
use Rattle.model_meaning.specs.Term.{bits_sort, complement, term_width, val}
use Rattle.verilog_trees.specs.Syntax as pure
use Rattle.verilog_trees.specs.Syntax.{Expression, reduction, ReductionOperator}
use Rattle.verilog_meaning.specs.Expression.{Scope, sign_of, value_of, reduction_value, bit}
use Rattle.wb_terms.specs.Graph.{Graph, tree}
use Rattle.v_syntax.specs.declared.tree.PrefixOperator.{PrefixOperator}
use Rattle.v_syntax.specs.declared.tree.PrefixOperator.TheVariants.{Plus, Minus, Complement, IsZero, AllOnes, NotAllOnes, AnyOne, NoOne, OddOnes, EvenOnes}
use Rattle.v_syntax.specs.Tree.{prefixed}
use Rattle.v_operators.specs.Meaning.{Grows, IsOfSort, HasNumber, Tests, Compares, Counts}
use Rattle.v_operators.proofs.Growing.{Grows-trans, number_kept}
use Rattle.v_operators.proofs.Forms.{formed}
use Rattle.v_lower.specs.Kinds.{is_test_of_all}
use Rattle.v_lower.specs.Deciding.{reduced}
use Rattle.v_lower.specs.Lowered.{Images, HasImages, IsLowered, IsLoweredAlone}
use Rattle.v_lower.proofs.Lowering.{stands_before}

pub number_test : (g h k : Graph) (x w n c id : ℕ) → IsOfSort g x (word w) → Grows g h → ((p : Valuation) → HasNumber h c w p n) → Compares h k x c w id (λ a b. a == b) → Tests g k x w id (λ a. a == n)
number_test g h k x w n c id o grows is_c m = record { of_sort = m.of_sort; value = λ p a i. m.value p a n (number_kept x w p a grows o.below i) (is_c p) }

pub other_test : (g h k : Graph) (x w n c id : ℕ) → Tests g h x w c (λ a. a == n) → id < length k.nodes → tree k id ≡ pure_term.not (tree h c) → Tests g k x w id (λ a. not (a == n))
other_test g h k x w n c id m l e =
    record {
      of_sort = formed k id (pure_term.not (tree h c)) truth l e (ap bits_sort m.of_sort.sort);
      value = λ p a i. record { value = ap (λ t. val t p) e ∙ ap (complement (term_width (tree h c))) (m.value p a i).value };
    }

-- the same test with an equal number
pub number_so : (g k : Graph) (x w n m id : ℕ) → n ≡ m → Tests g k x w id (λ a. a == n) → Tests g k x w id (λ a. a == m)
number_so g k x w n m id e t = subst (λ z. Tests g k x w id (λ a. a == z)) e t

pub other_so : (g k : Graph) (x w n m id : ℕ) → n ≡ m → Tests g k x w id (λ a. not (a == n)) → Tests g k x w id (λ a. not (a == m))
other_so g k x w n m id e t = subst (λ z. Tests g k x w id (λ a. not (a == z))) e t

pub zero_below : (w : ℕ) → 0 < 2 ^ w
zero_below w = pow_pos w

pub ones_below : (w r : ℕ) → r ≡ 2 ^ w - 1 → r < 2 ^ w
ones_below w r e = let p : 0 < 2 ^ w = pow_pos w in omega (arith, p, e)

module _ (s : Scope) (im : Images) (g h k : Graph) (gh : Grows g h) (hk : Grows h k) (known : HasImages s im g) where
  whole : (op : ReductionOperator) (x : Expression) (u w : ℕ) (t : Bool) (a c id : ℕ) → IsLoweredAlone s im g x u a → Tests g h a u c (reduction_value op u) → Counts h k c id w bit → IsLowered s im k (reduction op x) w t id
  whole op x u w t a c id l d m =
      record {
        of_sort = m.of_sort;
        value = λ p v st. let st0 = stands_before s im g k p v (Grows-trans gh hk) known st in
            subst (λ z. HasNumber k id w p (bit (reduction_value op z (value_of s v x z (sign_of s x))))) l.width
            (m.value p (reduction_value op u (value_of s v x u (sign_of s x))) (d.value p (value_of s v x u (sign_of s x)) (l.lowered.value p v st0)));
      }

  pub reduced_lowered : (o : PrefixOperator) → is_test_of_all o ≡ true → (x : Expression) (u w : ℕ) (t : Bool) (a c id : ℕ) → IsLoweredAlone s im g x u a → Tests g h a u c (reduced o u) → Counts h k c id w bit → IsLowered s im k (prefixed o x) w t id
  reduced_lowered IsZero e x u w t a c id l d m = whole pure.is_zero x u w t a c id l d m
  reduced_lowered AllOnes e x u w t a c id l d m = whole pure.all_ones x u w t a c id l d m
  reduced_lowered NotAllOnes e x u w t a c id l d m = whole pure.not_all_ones x u w t a c id l d m
  reduced_lowered AnyOne e x u w t a c id l d m = whole pure.any_one x u w t a c id l d m
  reduced_lowered NoOne e x u w t a c id l d m = whole pure.no_one x u w t a c id l d m
  reduced_lowered Plus e x u w t a c id l d m = absurd (false≢true e)
  reduced_lowered Minus e x u w t a c id l d m = absurd (false≢true e)
  reduced_lowered Complement e x u w t a c id l d m = absurd (false≢true e)
  reduced_lowered OddOnes e x u w t a c id l d m = whole pure.odd_ones x u w t a c id l d m
  reduced_lowered EvenOnes e x u w t a c id l d m = whole pure.even_ones x u w t a c id l d m
