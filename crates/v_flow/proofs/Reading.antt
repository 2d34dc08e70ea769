-- What expressions, selects and chains read, by the lists of their parts.
use Rattle.std.proofs.Common.{◌≡◌, ◌∙◌, refl, ap, sym, List, [], ◌∷◌}
use Rattle.std.specs.declared.boxed.Box.{Box}
use Rattle.std.specs.declared.vec.Vec.{Vec}
use Rattle.std.specs.declared.alloc.Global.{Global}
use Rattle.std.specs.Borrow.{Bor}
use Rattle.std.specs.Prelude.{ℕ}
use Rattle.wb_values.specs.Value.{Name as PureName}
use Rattle.verilog_trees.specs.Syntax as pure
use Rattle.verilog_meaning.specs.Expression.{Scope}
use Rattle.verilog_designs.specs.Reads.{BitSet, no_bits, or_in, reads, reads_in_all, selects_read, select_reads}
use Rattle.v_syntax.specs.declared.tree.Number.{Number as CodeNumber}
use Rattle.v_syntax.specs.declared.tree.PrefixOperator.{PrefixOperator}
use Rattle.v_syntax.specs.declared.tree.PrefixOperator.TheVariants.{Plus}
use Rattle.v_syntax.specs.declared.tree.BinaryOperator.{BinaryOperator}
use Rattle.v_syntax.specs.declared.tree.BinaryOperator.TheVariants.{Power, ShiftLeft, ShiftRight, ArithmeticShiftRight}
use Rattle.v_syntax.specs.declared.tree.TestOperator.{TestOperator}
use Rattle.v_syntax.specs.declared.tree.TestOperator.TheVariants.{Less}
use Rattle.v_syntax.specs.declared.tree.BinaryLink.{BinaryLink}
use Rattle.v_syntax.specs.declared.tree.TestLink.{TestLink}
use Rattle.v_syntax.specs.declared.tree.Choice.{Choice}
use Rattle.v_syntax.specs.declared.tree.Expression.{Expression, Number, Name, Concatenation, Replication, AsSigned, AsUnsigned, Prefix, Binary, Test, Conditional}
use Rattle.v_syntax.specs.declared.tree.Select.{Select, Index, Part, PartUp, PartDown}
use Rattle.v_syntax.specs.declared.tree.Selects.{Selects, Whole, One, Two}
use Rattle.v_syntax.specs.Tree.{tree_of, select_of, selects_of, expressions_of, prefixed, all_prefixed, combined, tested}
use Rattle.v_syntax.specs.Chain.{linked, test_linked, chosen}
use Rattle.v_syntax.proofs.Trees.{tree_of-Concatenation, tree_of-Replication, tree_of-Binary, tree_of-Test, tree_of-Conditional}
use Rattle.v_flow.specs.Flow.{name_reads_at, reads_at, select_reads_at, selects_read_at, parts_read, links_read, tests_read, choices_read}
use Rattle.v_flow.proofs.Sets.{or-assoc, or-none}

pub all-parts : (s : Scope) (es : List Expression) → reads_in_all s (expressions_of es) ≡ parts_read s es
unfolding reads_at
all-parts s [] = refl
all-parts s (e ∷ es) = ap (or_in (reads s (tree_of e))) (all-parts s es)

reads-combined : (s : Scope) (o : BinaryOperator) (x y : pure.Expression) → reads s (combined o x y) ≡ or_in (reads s x) (reads s y)
reads-combined s Power x y = refl
reads-combined s ShiftLeft x y = refl
reads-combined s ShiftRight x y = refl
reads-combined s ArithmeticShiftRight x y = refl
reads-combined s _ x y = refl

all-links : (s : Scope) (ls : List BinaryLink) (x : pure.Expression) → reads s (linked ls x) ≡ or_in (reads s x) (links_read s ls)
unfolding reads_at
all-links s [] x = sym (or-none (reads s x))
all-links s (l ∷ ls) x =
    all-links s ls _ ∙ ap (λ (z : BitSet). or_in z (links_read s ls)) (reads-combined s l.operator x (tree_of l.operand))
    ∙ or-assoc (reads s x) (reads s (tree_of l.operand)) (links_read s ls)

reads-tested : (s : Scope) (o : TestOperator) (x y : pure.Expression) → reads s (tested o x y) ≡ or_in (reads s x) (reads s y)
reads-tested s Less x y = refl
reads-tested s _ x y = refl

all-tests : (s : Scope) (ls : List TestLink) (x : pure.Expression) → reads s (test_linked ls x) ≡ or_in (reads s x) (tests_read s ls)
unfolding reads_at
all-tests s [] x = sym (or-none (reads s x))
all-tests s (l ∷ ls) x =
    all-tests s ls _ ∙ ap (λ (z : BitSet). or_in z (tests_read s ls)) (reads-tested s l.operator x (tree_of l.operand))
    ∙ or-assoc (reads s x) (reads s (tree_of l.operand)) (tests_read s ls)

all-choices : (s : Scope) (cs : List Choice) (y : pure.Expression) → reads s (chosen cs y) ≡ or_in (choices_read s cs) (reads s y)
unfolding reads_at
all-choices s [] y = refl
all-choices s (c ∷ cs) y =
    let p = reads s (tree_of c.condition) in
    let q = reads s (tree_of c.value) in
    ap (λ (z : BitSet). or_in p (or_in q z)) (all-choices s cs y)
    ∙ ap (or_in p) (sym (or-assoc q (choices_read s cs) (reads s y)))
    ∙ sym (or-assoc p (or_in q (choices_read s cs)) (reads s y))

reads-prefixed : (s : Scope) (o : PrefixOperator) (x : pure.Expression) → reads s (prefixed o x) ≡ reads s x
reads-prefixed s Plus x = refl
reads-prefixed s _ x = refl

all-prefixes : (s : Scope) (os : List PrefixOperator) (x : pure.Expression) → reads s (all_prefixed os x) ≡ reads s x
all-prefixes s [] x = refl
all-prefixes s (o ∷ os) x = reads-prefixed s o (all_prefixed os x) ∙ all-prefixes s os x

-- e is an expression, x and what else is named are its parts as calls were given them
module _ (s : Scope) (e : Expression) where
  pub of-Number : (k : CodeNumber) → e ≡ Number k → no_bits ≡ reads_at s (tree_of e)
  unfolding reads_at
  of-Number k i = sym (ap (λ z. reads s (tree_of z)) i)

  pub of-Name : (m : Bor (List ℕ)) (x : Selects) → e ≡ Name m x → reads_at s (pure.name m.now (selects_of x)) ≡ reads_at s (tree_of e)
  of-Name m x i = sym (ap (λ z. reads_at s (tree_of z)) i)

  pub of-Concatenation : (v : Vec Expression Global) → e ≡ Concatenation v → (es : List Expression) → es ≡ v.items → parts_read s es ≡ reads_at s (tree_of e)
  unfolding reads_at
  of-Concatenation v i es j =
      ap (parts_read s) j ∙ sym (all-parts s v.items) ∙ sym (ap (reads s) (ap tree_of i ∙ tree_of-Concatenation v))

  pub of-Replication : (b : Box Expression Global) (v : Vec Expression Global) → e ≡ Replication b v → (es : List Expression) → es ≡ v.items → parts_read s es ≡ reads_at s (tree_of e)
  unfolding reads_at
  of-Replication b v i es j =
      ap (parts_read s) j ∙ sym (all-parts s v.items) ∙ sym (ap (reads s) (ap tree_of i ∙ tree_of-Replication b v))

  pub of-AsSigned : (b : Box Expression Global) → e ≡ AsSigned b → (x : Expression) → x ≡ b.value → reads_at s (tree_of x) ≡ reads_at s (tree_of e)
  unfolding reads_at
  of-AsSigned b i x j = ap (λ z. reads s (tree_of z)) j ∙ sym (ap (λ z. reads s (tree_of z)) i)

  pub of-AsUnsigned : (b : Box Expression Global) → e ≡ AsUnsigned b → (x : Expression) → x ≡ b.value → reads_at s (tree_of x) ≡ reads_at s (tree_of e)
  unfolding reads_at
  of-AsUnsigned b i x j = ap (λ z. reads s (tree_of z)) j ∙ sym (ap (λ z. reads s (tree_of z)) i)

  pub of-Prefix : (os : Vec PrefixOperator Global) (b : Box Expression Global) → e ≡ Prefix os b → (x : Expression) → x ≡ b.value → reads_at s (tree_of x) ≡ reads_at s (tree_of e)
  unfolding reads_at
  of-Prefix os b i x j =
      ap (λ z. reads s (tree_of z)) j ∙ sym (all-prefixes s os.items (tree_of b.value)) ∙ sym (ap (λ z. reads s (tree_of z)) i)

  pub of-Binary : (b : Box Expression Global) (v : Vec BinaryLink Global) → e ≡ Binary b v → (x : Expression) → x ≡ b.value → (ls : List BinaryLink) → ls ≡ v.items
      → or_in (reads_at s (tree_of x)) (links_read s ls) ≡ reads_at s (tree_of e)
  unfolding reads_at
  of-Binary b v i x j ls g =
      ap (λ z. or_in (reads s (tree_of z)) (links_read s ls)) j ∙ ap (λ z. or_in (reads s (tree_of b.value)) (links_read s z)) g
      ∙ sym (all-links s v.items (tree_of b.value)) ∙ sym (ap (reads s) (ap tree_of i ∙ tree_of-Binary b v))

  pub of-Test : (b : Box Expression Global) (v : Vec TestLink Global) → e ≡ Test b v → (x : Expression) → x ≡ b.value → (ls : List TestLink) → ls ≡ v.items
      → or_in (reads_at s (tree_of x)) (tests_read s ls) ≡ reads_at s (tree_of e)
  unfolding reads_at
  of-Test b v i x j ls g =
      ap (λ z. or_in (reads s (tree_of z)) (tests_read s ls)) j ∙ ap (λ z. or_in (reads s (tree_of b.value)) (tests_read s z)) g
      ∙ sym (all-tests s v.items (tree_of b.value)) ∙ sym (ap (reads s) (ap tree_of i ∙ tree_of-Test b v))

  pub of-Conditional : (v : Vec Choice Global) (b : Box Expression Global) → e ≡ Conditional v b → (cs : List Choice) → cs ≡ v.items → (x : Expression) → x ≡ b.value
      → or_in (choices_read s cs) (reads_at s (tree_of x)) ≡ reads_at s (tree_of e)
  unfolding reads_at
  of-Conditional v b i cs j x g =
      ap (λ z. or_in (choices_read s z) (reads s (tree_of x))) j ∙ ap (λ z. or_in (choices_read s v.items) (reads s (tree_of z))) g
      ∙ sym (all-choices s v.items (tree_of b.value)) ∙ sym (ap (reads s) (ap tree_of i ∙ tree_of-Conditional v b))

pub named : (s : Scope) (n : PureName) (x : pure.Selects) → or_in (name_reads_at s n x) (selects_read_at s x) ≡ reads_at s (pure.name n x)
unfolding reads_at name_reads_at selects_read_at
named s n x = refl

module _ (s : Scope) (y : Select) where
  pub of-Index : (b : Box Expression Global) → y ≡ Index b → (x : Expression) → x ≡ b.value → reads_at s (tree_of x) ≡ select_reads_at s (select_of y)
  unfolding reads_at select_reads_at
  of-Index b i x j = ap (λ z. reads s (tree_of z)) j ∙ sym (ap (λ z. select_reads s (select_of z)) i)

  pub of-Part : (a b : Box Expression Global) → y ≡ Part a b → no_bits ≡ select_reads_at s (select_of y)
  unfolding select_reads_at
  of-Part a b i = sym (ap (λ z. select_reads s (select_of z)) i)

  pub of-PartUp : (b n : Box Expression Global) → y ≡ PartUp b n → (x : Expression) → x ≡ b.value → reads_at s (tree_of x) ≡ select_reads_at s (select_of y)
  unfolding reads_at select_reads_at
  of-PartUp b n i x j = ap (λ z. reads s (tree_of z)) j ∙ sym (ap (λ z. select_reads s (select_of z)) i)

  pub of-PartDown : (b n : Box Expression Global) → y ≡ PartDown b n → (x : Expression) → x ≡ b.value → reads_at s (tree_of x) ≡ select_reads_at s (select_of y)
  unfolding reads_at select_reads_at
  of-PartDown b n i x j = ap (λ z. reads s (tree_of z)) j ∙ sym (ap (λ z. select_reads s (select_of z)) i)

module _ (s : Scope) (y : Selects) where
  pub of-Whole : y ≡ Whole → no_bits ≡ selects_read_at s (selects_of y)
  unfolding selects_read_at
  of-Whole i = sym (ap (λ z. selects_read s (selects_of z)) i)

  pub of-One : (x : Select) → y ≡ One x → select_reads_at s (select_of x) ≡ selects_read_at s (selects_of y)
  unfolding select_reads_at selects_read_at
  of-One x i = sym (ap (λ z. selects_read s (selects_of z)) i)

  pub of-Two : (x z : Select) → y ≡ Two x z → or_in (select_reads_at s (select_of x)) (select_reads_at s (select_of z)) ≡ selects_read_at s (selects_of y)
  unfolding select_reads_at selects_read_at
  of-Two x z i = sym (ap (λ w. selects_read s (selects_of w)) i)
