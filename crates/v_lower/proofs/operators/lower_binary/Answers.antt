use Rattle.std.proofs.Common.{sym, subst, refl}
use Rattle.wb_values.specs.Number.{word_not, word_add, word_sub, word_mul, word_and, word_or, word_xor}
use Rattle.verilog_trees.specs.Syntax as pure
use Rattle.v_syntax.specs.Tree.{combined}
use Rattle.v_lower.specs.Lowered.{IsLowered}
use Rattle.v_lower.proofs.Lowering.{binary_lowered}
use Rattle.v_lower.proofs.operators.lower_binary.Goals as goal

pub returns-in_ok-id-in-Multiply-clause-lowered : goal.returns-in_ok-id-in-Multiply-clause-lowered
returns-in_ok-id-in-Multiply-clause-lowered c s im x y t known l o =
    subst (λ q. IsLowered s im c.product.new.terms (combined q x y) c.args.width t c.in_ok-id-in-Multiply.id.0) (sym c.in-Multiply.is)
    (binary_lowered s im c.args.terms.now c.product.new.terms c.in_ok-id-in-Multiply.ensures.grows known pure.multiply x y c.args.width t c.args.left.0 c.args.right.0 c.in_ok-id-in-Multiply.id.0 (word_mul c.args.width) (λ m n. refl) l o c.in_ok-id-in-Multiply.ensures.made)

pub returns-in_ok-id-in-Add-clause-lowered : goal.returns-in_ok-id-in-Add-clause-lowered
returns-in_ok-id-in-Add-clause-lowered c s im x y t known l o =
    subst (λ q. IsLowered s im c.sum.new.terms (combined q x y) c.args.width t c.in_ok-id-in-Add.id.0) (sym c.in-Add.is)
    (binary_lowered s im c.args.terms.now c.sum.new.terms c.in_ok-id-in-Add.ensures.grows known pure.add x y c.args.width t c.args.left.0 c.args.right.0 c.in_ok-id-in-Add.id.0 (word_add c.args.width) (λ m n. refl) l o c.in_ok-id-in-Add.ensures.made)

pub returns-in_ok-id-in-Subtract-clause-lowered : goal.returns-in_ok-id-in-Subtract-clause-lowered
returns-in_ok-id-in-Subtract-clause-lowered c s im x y t known l o =
    subst (λ q. IsLowered s im c.difference.new.terms (combined q x y) c.args.width t c.in_ok-id-in-Subtract.id.0) (sym c.in-Subtract.is)
    (binary_lowered s im c.args.terms.now c.difference.new.terms c.in_ok-id-in-Subtract.ensures.grows known pure.subtract x y c.args.width t c.args.left.0 c.args.right.0 c.in_ok-id-in-Subtract.id.0 (word_sub c.args.width) (λ m n. refl) l o c.in_ok-id-in-Subtract.ensures.made)

pub returns-in_ok-id-in-And-clause-lowered : goal.returns-in_ok-id-in-And-clause-lowered
returns-in_ok-id-in-And-clause-lowered c s im x y t known l o =
    subst (λ q. IsLowered s im c.conjunction.new.terms (combined q x y) c.args.width t c.in_ok-id-in-And.id.0) (sym c.in-And.is)
    (binary_lowered s im c.args.terms.now c.conjunction.new.terms c.in_ok-id-in-And.ensures.grows known pure.bitwise_and x y c.args.width t c.args.left.0 c.args.right.0 c.in_ok-id-in-And.id.0 word_and (λ m n. refl) l o c.in_ok-id-in-And.ensures.made)

pub returns-in_ok-id-in-Xor-clause-lowered : goal.returns-in_ok-id-in-Xor-clause-lowered
returns-in_ok-id-in-Xor-clause-lowered c s im x y t known l o =
    subst (λ q. IsLowered s im c.exclusive_or.new.terms (combined q x y) c.args.width t c.in_ok-id-in-Xor.id.0) (sym c.in-Xor.is)
    (binary_lowered s im c.args.terms.now c.exclusive_or.new.terms c.in_ok-id-in-Xor.ensures.grows known pure.bitwise_xor x y c.args.width t c.args.left.0 c.args.right.0 c.in_ok-id-in-Xor.id.0 word_xor (λ m n. refl) l o c.in_ok-id-in-Xor.ensures.made)

pub returns-in_ok-id-in-Xnor-clause-lowered : goal.returns-in_ok-id-in-Xnor-clause-lowered
returns-in_ok-id-in-Xnor-clause-lowered c s im x y t known l o =
    subst (λ q. IsLowered s im c.equivalence.new.terms (combined q x y) c.args.width t c.in_ok-id-in-Xnor.id.0) (sym c.in-Xnor.is)
    (binary_lowered s im c.args.terms.now c.equivalence.new.terms c.in_ok-id-in-Xnor.ensures.grows known pure.bitwise_xnor x y c.args.width t c.args.left.0 c.args.right.0 c.in_ok-id-in-Xnor.id.0 (λ m n. word_not c.args.width (word_xor m n)) (λ m n. refl) l o c.in_ok-id-in-Xnor.ensures.made)

pub returns-in_ok-id-in-Or-clause-lowered : goal.returns-in_ok-id-in-Or-clause-lowered
returns-in_ok-id-in-Or-clause-lowered c s im x y t known l o =
    subst (λ q. IsLowered s im c.disjunction.new.terms (combined q x y) c.args.width t c.in_ok-id-in-Or.id.0) (sym c.in-Or.is)
    (binary_lowered s im c.args.terms.now c.disjunction.new.terms c.in_ok-id-in-Or.ensures.grows known pure.bitwise_or x y c.args.width t c.args.left.0 c.args.right.0 c.in_ok-id-in-Or.id.0 word_or (λ m n. refl) l o c.in_ok-id-in-Or.ensures.made)
