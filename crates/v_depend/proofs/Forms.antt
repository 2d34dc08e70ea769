-- Which forms of the code's expressions are plain, and what they copy.
use Rattle.std.proofs.Common.{◌≡◌, ◌∙◌, ℕ, ◌+◌, ◌-◌, ◌*◌, ◌<◌, ◌≤◌, ◌%◌, drop, zero, suc, refl, ap, sym, subst, Bool, true, false, cond, List, [], ◌∷◌, arith}
use Rattle.std.specs.Prelude.{◌&&◌, nat_lt}
use Rattle.std.proofs.Math.Nat.{mod-le}
use Rattle.std.specs.declared.boxed.Box.{Box}
use Rattle.std.specs.declared.vec.Vec.{Vec}
use Rattle.std.specs.declared.alloc.Global.{Global}
use Rattle.std.specs.Borrow.{Bor}
use Rattle.verilog_trees.specs.Syntax as pure
use Rattle.verilog_trees.specs.Syntax.{replication}
use Rattle.verilog_meaning.specs.Expression.{Scope, natural_of, integer_of, no_values, width_of, widths_of}
use Rattle.verilog_meaning.specs.Register.{is_set}
use Rattle.verilog_designs.specs.Reads.{BitSet}
use Rattle.verilog_designs.specs.Dependence.{is_plain, are_plain}
use Rattle.v_syntax.specs.declared.tree.Number.{Number as CodeNumber}
use Rattle.v_syntax.specs.declared.tree.PrefixOperator.{PrefixOperator}
use Rattle.v_syntax.specs.declared.tree.PrefixOperator.TheVariants.{Plus}
use Rattle.v_syntax.specs.declared.tree.BinaryOperator.{BinaryOperator}
use Rattle.v_syntax.specs.declared.tree.BinaryOperator.TheVariants.{Power, ShiftLeft, ShiftRight, ArithmeticShiftRight}
use Rattle.v_syntax.specs.declared.tree.TestOperator.{TestOperator}
use Rattle.v_syntax.specs.declared.tree.TestOperator.TheVariants.{Less}
use Rattle.v_syntax.specs.declared.tree.BinaryLink.{BinaryLink}
use Rattle.v_syntax.specs.declared.tree.TestLink.{TestLink}
use Rattle.v_syntax.specs.declared.tree.Choice.{Choice}
use Rattle.v_syntax.specs.declared.tree.Expression.{Expression, Number, Name, Concatenation, Replication, AsSigned, AsUnsigned, Prefix, Binary, Test, Conditional}
use Rattle.v_syntax.specs.declared.tree.Selects.{Selects}
use Rattle.v_syntax.specs.Tree.{tree_of, selects_of, expressions_of, prefixed, all_prefixed, combined, tested}
use Rattle.v_syntax.specs.Chain.{linked, test_linked, chosen}
use Rattle.v_syntax.proofs.Trees.{tree_of-Concatenation, tree_of-Replication, tree_of-Binary, tree_of-Test, tree_of-Conditional}
use Rattle.v_value.specs.Narrow.{IsNarrow}
use Rattle.v_flow.specs.Flow.{selects_constant_at}
use Rattle.v_depend.specs.Copying.{copies_at, parts_copy, plain_at, parts_plain, has_none}
use Rattle.v_depend.proofs.Copied.{replication-copies, concatenation-copies}

-- ---- chains

plain-prefixed : (s : Scope) (o : PrefixOperator) (x : pure.Expression) → is_plain s (prefixed o x) ≡ false
plain-prefixed s Plus x = refl
plain-prefixed s _ x = refl

plain-combined : (s : Scope) (o : BinaryOperator) (x y : pure.Expression) → is_plain s (combined o x y) ≡ false
plain-combined s Power x y = refl
plain-combined s ShiftLeft x y = refl
plain-combined s ShiftRight x y = refl
plain-combined s ArithmeticShiftRight x y = refl
plain-combined s _ x y = refl

plain-tested : (s : Scope) (o : TestOperator) (x y : pure.Expression) → is_plain s (tested o x y) ≡ false
plain-tested s Less x y = refl
plain-tested s _ x y = refl

never-linked : (s : Scope) (ls : List BinaryLink) (x : pure.Expression) → is_plain s x ≡ false → is_plain s (linked ls x) ≡ false
never-linked s [] x h = h
never-linked s (l ∷ ls) x h = never-linked s ls (combined l.operator x (tree_of l.operand)) (plain-combined s l.operator x (tree_of l.operand))

never-tested : (s : Scope) (ls : List TestLink) (x : pure.Expression) → is_plain s x ≡ false → is_plain s (test_linked ls x) ≡ false
never-tested s [] x h = h
never-tested s (l ∷ ls) x h = never-tested s ls (tested l.operator x (tree_of l.operand)) (plain-tested s l.operator x (tree_of l.operand))

all-prefixed-plain : (s : Scope) (os : List PrefixOperator) (x : pure.Expression) → (has_none os && is_plain s x) ≡ is_plain s (all_prefixed os x)
all-prefixed-plain s [] x = refl
all-prefixed-plain s (o ∷ os) x = sym (plain-prefixed s o (all_prefixed os x))

all-linked-plain : (s : Scope) (ls : List BinaryLink) (x : pure.Expression) → (has_none ls && is_plain s x) ≡ is_plain s (linked ls x)
all-linked-plain s [] x = refl
all-linked-plain s (l ∷ ls) x = sym (never-linked s ls (combined l.operator x (tree_of l.operand)) (plain-combined s l.operator x (tree_of l.operand)))

all-tested-plain : (s : Scope) (ls : List TestLink) (x : pure.Expression) → (has_none ls && is_plain s x) ≡ is_plain s (test_linked ls x)
all-tested-plain s [] x = refl
all-tested-plain s (l ∷ ls) x = sym (never-tested s ls (tested l.operator x (tree_of l.operand)) (plain-tested s l.operator x (tree_of l.operand)))

all-chosen-plain : (s : Scope) (cs : List Choice) (y : pure.Expression) → (has_none cs && is_plain s y) ≡ is_plain s (chosen cs y)
all-chosen-plain s [] y = refl
all-chosen-plain s (c ∷ cs) y = refl

all-parts-plain : (s : Scope) (es : List Expression) → are_plain s (expressions_of es) ≡ parts_plain s es
unfolding plain_at
all-parts-plain s [] = refl
all-parts-plain s (e ∷ es) = ap (λ t. is_plain s (tree_of e) && t) (all-parts-plain s es)

-- ---- forms that are plain

module _ (s : Scope) (e : Expression) where
  pub plain-Number : (k : CodeNumber) → e ≡ Number k → true ≡ plain_at s (tree_of e)
  unfolding plain_at
  plain-Number k i = sym (ap (λ z. is_plain s (tree_of z)) i)

  pub plain-Name : (m : Bor (List ℕ)) (x : Selects) → e ≡ Name m x → selects_constant_at s (selects_of x) ≡ plain_at s (tree_of e)
  unfolding plain_at selects_constant_at
  plain-Name m x i = sym (ap (λ z. is_plain s (tree_of z)) i)

  pub plain-Concatenation : (v : Vec Expression Global) → e ≡ Concatenation v → (es : List Expression) → es ≡ v.items → parts_plain s es ≡ plain_at s (tree_of e)
  unfolding plain_at
  plain-Concatenation v i es j =
      ap (parts_plain s) j ∙ sym (all-parts-plain s v.items) ∙ sym (ap (is_plain s) (ap tree_of i ∙ tree_of-Concatenation v))

  pub plain-Replication : (b : Box Expression Global) (v : Vec Expression Global) → e ≡ Replication b v → (es : List Expression) → es ≡ v.items → parts_plain s es ≡ plain_at s (tree_of e)
  unfolding plain_at
  plain-Replication b v i es j =
      ap (parts_plain s) j ∙ sym (all-parts-plain s v.items) ∙ sym (ap (is_plain s) (ap tree_of i ∙ tree_of-Replication b v))

  pub plain-AsSigned : (b : Box Expression Global) → e ≡ AsSigned b → false ≡ plain_at s (tree_of e)
  unfolding plain_at
  plain-AsSigned b i = sym (ap (λ z. is_plain s (tree_of z)) i)

  pub plain-AsUnsigned : (b : Box Expression Global) → e ≡ AsUnsigned b → false ≡ plain_at s (tree_of e)
  unfolding plain_at
  plain-AsUnsigned b i = sym (ap (λ z. is_plain s (tree_of z)) i)

  pub plain-Prefix : (os : Vec PrefixOperator Global) (b : Box Expression Global) → e ≡ Prefix os b → (x : Expression) → x ≡ b.value → (ls : List PrefixOperator) → ls ≡ os.items
      → (has_none ls && plain_at s (tree_of x)) ≡ plain_at s (tree_of e)
  unfolding plain_at
  plain-Prefix os b i x j ls k =
      ap (λ z. has_none ls && is_plain s (tree_of z)) j ∙ ap (λ (zs : List PrefixOperator). has_none zs && is_plain s (tree_of b.value)) k
      ∙ all-prefixed-plain s os.items (tree_of b.value) ∙ sym (ap (λ z. is_plain s (tree_of z)) i)

  pub plain-Binary : (b : Box Expression Global) (v : Vec BinaryLink Global) → e ≡ Binary b v → (x : Expression) → x ≡ b.value → (ls : List BinaryLink) → ls ≡ v.items
      → (has_none ls && plain_at s (tree_of x)) ≡ plain_at s (tree_of e)
  unfolding plain_at
  plain-Binary b v i x j ls k =
      ap (λ z. has_none ls && is_plain s (tree_of z)) j ∙ ap (λ (zs : List BinaryLink). has_none zs && is_plain s (tree_of b.value)) k
      ∙ all-linked-plain s v.items (tree_of b.value) ∙ sym (ap (is_plain s) (ap tree_of i ∙ tree_of-Binary b v))

  pub plain-Test : (b : Box Expression Global) (v : Vec TestLink Global) → e ≡ Test b v → (x : Expression) → x ≡ b.value → (ls : List TestLink) → ls ≡ v.items
      → (has_none ls && plain_at s (tree_of x)) ≡ plain_at s (tree_of e)
  unfolding plain_at
  plain-Test b v i x j ls k =
      ap (λ z. has_none ls && is_plain s (tree_of z)) j ∙ ap (λ (zs : List TestLink). has_none zs && is_plain s (tree_of b.value)) k
      ∙ all-tested-plain s v.items (tree_of b.value) ∙ sym (ap (is_plain s) (ap tree_of i ∙ tree_of-Test b v))

  pub plain-Conditional : (v : Vec Choice Global) (b : Box Expression Global) → e ≡ Conditional v b → (x : Expression) → x ≡ b.value → (cs : List Choice) → cs ≡ v.items
      → (has_none cs && plain_at s (tree_of x)) ≡ plain_at s (tree_of e)
  unfolding plain_at
  plain-Conditional v b i x j cs k =
      ap (λ z. has_none cs && is_plain s (tree_of z)) j ∙ ap (λ (zs : List Choice). has_none zs && is_plain s (tree_of b.value)) k
      ∙ all-chosen-plain s v.items (tree_of b.value) ∙ sym (ap (is_plain s) (ap tree_of i ∙ tree_of-Conditional v b))

-- ---- what chains copy

module _ (p : BitSet) (s : Scope) (j : ℕ) where
  copy-prefixed : (o : PrefixOperator) (x : pure.Expression) → copies_at p s (prefixed o x) j ≡ false
  unfolding copies_at
  copy-prefixed Plus x = refl
  copy-prefixed _ x = refl

  copy-combined : (o : BinaryOperator) (x y : pure.Expression) → copies_at p s (combined o x y) j ≡ false
  unfolding copies_at
  copy-combined Power x y = refl
  copy-combined ShiftLeft x y = refl
  copy-combined ShiftRight x y = refl
  copy-combined ArithmeticShiftRight x y = refl
  copy-combined _ x y = refl

  copy-tested : (o : TestOperator) (x y : pure.Expression) → copies_at p s (tested o x y) j ≡ false
  unfolding copies_at
  copy-tested Less x y = refl
  copy-tested _ x y = refl

  copy-linked : (ls : List BinaryLink) (x : pure.Expression) → copies_at p s x j ≡ false → copies_at p s (linked ls x) j ≡ false
  copy-linked [] x h = h
  copy-linked (l ∷ ls) x h = copy-linked ls (combined l.operator x (tree_of l.operand)) (copy-combined l.operator x (tree_of l.operand))

  copy-test_linked : (ls : List TestLink) (x : pure.Expression) → copies_at p s x j ≡ false → copies_at p s (test_linked ls x) j ≡ false
  copy-test_linked [] x h = h
  copy-test_linked (l ∷ ls) x h = copy-test_linked ls (tested l.operator x (tree_of l.operand)) (copy-tested l.operator x (tree_of l.operand))

  copy-chosen : (c : Choice) (cs : List Choice) (y : pure.Expression) → copies_at p s (chosen (c ∷ cs) y) j ≡ false
  unfolding copies_at
  copy-chosen c cs y = refl

  copy-signed : (x : pure.Expression) → copies_at p s (pure.as_signed x) j ≡ false
  unfolding copies_at
  copy-signed x = refl

  copy-unsigned : (x : pure.Expression) → copies_at p s (pure.as_unsigned x) j ≡ false
  unfolding copies_at
  copy-unsigned x = refl

  copy-number : (k : pure.Number) → copies_at p s (pure.number k) j ≡ false
  unfolding copies_at
  copy-number k = refl

  -- r is the mask where there is no link, and else 0
  mask-prefixed : (os : List PrefixOperator) (x : pure.Expression) (m r : ℕ) → r ≡ cond (has_none os) m 0 → is_set m j ≡ copies_at p s x j → is_set 0 j ≡ false
      → is_set r j ≡ copies_at p s (all_prefixed os x) j
  mask-prefixed [] x m r e h z = ap (λ y. is_set y j) e ∙ h
  mask-prefixed (o ∷ os) x m r e h z = ap (λ y. is_set y j) e ∙ z ∙ sym (copy-prefixed o (all_prefixed os x))

  mask-linked : (ls : List BinaryLink) (x : pure.Expression) (m r : ℕ) → r ≡ cond (has_none ls) m 0 → is_set m j ≡ copies_at p s x j → is_set 0 j ≡ false
      → is_set r j ≡ copies_at p s (linked ls x) j
  mask-linked [] x m r e h z = ap (λ y. is_set y j) e ∙ h
  mask-linked (l ∷ ls) x m r e h z =
      ap (λ y. is_set y j) e ∙ z ∙ sym (copy-linked ls (combined l.operator x (tree_of l.operand)) (copy-combined l.operator x (tree_of l.operand)))

  mask-tested : (ls : List TestLink) (x : pure.Expression) (m r : ℕ) → r ≡ cond (has_none ls) m 0 → is_set m j ≡ copies_at p s x j → is_set 0 j ≡ false
      → is_set r j ≡ copies_at p s (test_linked ls x) j
  mask-tested [] x m r e h z = ap (λ y. is_set y j) e ∙ h
  mask-tested (l ∷ ls) x m r e h z =
      ap (λ y. is_set y j) e ∙ z ∙ sym (copy-test_linked ls (tested l.operator x (tree_of l.operand)) (copy-tested l.operator x (tree_of l.operand)))

  mask-chosen : (cs : List Choice) (x : pure.Expression) (m r : ℕ) → r ≡ cond (has_none cs) m 0 → is_set m j ≡ copies_at p s x j → is_set 0 j ≡ false
      → is_set r j ≡ copies_at p s (chosen cs x) j
  mask-chosen [] x m r e h z = ap (λ y. is_set y j) e ∙ h
  mask-chosen (c ∷ cs) x m r e h z = ap (λ y. is_set y j) e ∙ z ∙ sym (copy-chosen c cs x)

  -- ---- what forms copy

  module _ (e : Expression) where
    as-tree : (x : pure.Expression) (b : Bool) → tree_of e ≡ x → b ≡ copies_at p s x j → b ≡ copies_at p s (tree_of e) j
    as-tree x b i h = h ∙ ap (λ z. copies_at p s z j) (sym i)

    pub copy-Number : (k : CodeNumber) → e ≡ Number k → is_set 0 j ≡ false → is_set 0 j ≡ copies_at p s (tree_of e) j
    copy-Number k i z = as-tree _ (is_set 0 j) (ap tree_of i) (z ∙ sym (copy-number _))

    pub copy-Name : (m : Bor (List ℕ)) (x : Selects) → e ≡ Name m x → (b : Bool) → b ≡ copies_at p s (pure.name m.now (selects_of x)) j → b ≡ copies_at p s (tree_of e) j
    copy-Name m x i b h = as-tree (pure.name m.now (selects_of x)) b (ap tree_of i) h

    pub copy-Concatenation : (v : Vec Expression Global) → e ≡ Concatenation v → (es : List Expression) → es ≡ v.items → (b : Bool) → b ≡ parts_copy p s (expressions_of es) j
        → b ≡ copies_at p s (tree_of e) j
    copy-Concatenation v i es k b h =
        as-tree (pure.concatenation (expressions_of v.items)) b (ap tree_of i ∙ tree_of-Concatenation v)
        (h ∙ ap (λ zs. parts_copy p s (expressions_of zs) j) k ∙ concatenation-copies p s (expressions_of v.items) j)

    pub copy-AsSigned : (b : Box Expression Global) → e ≡ AsSigned b → is_set 0 j ≡ false → is_set 0 j ≡ copies_at p s (tree_of e) j
    copy-AsSigned b i z = as-tree (pure.as_signed (tree_of b.value)) (is_set 0 j) (ap tree_of i) (z ∙ sym (copy-signed (tree_of b.value)))

    pub copy-AsUnsigned : (b : Box Expression Global) → e ≡ AsUnsigned b → is_set 0 j ≡ false → is_set 0 j ≡ copies_at p s (tree_of e) j
    copy-AsUnsigned b i z = as-tree (pure.as_unsigned (tree_of b.value)) (is_set 0 j) (ap tree_of i) (z ∙ sym (copy-unsigned (tree_of b.value)))

    pub copy-Prefix : (os : Vec PrefixOperator Global) (b : Box Expression Global) → e ≡ Prefix os b → (x : Expression) → x ≡ b.value → (ls : List PrefixOperator) → ls ≡ os.items
        → (m r : ℕ) → r ≡ cond (has_none ls) m 0 → is_set m j ≡ copies_at p s (tree_of x) j → is_set 0 j ≡ false → is_set r j ≡ copies_at p s (tree_of e) j
    copy-Prefix os b i x k ls l m r g h z =
        as-tree (all_prefixed os.items (tree_of b.value)) (is_set r j) (ap tree_of i)
        (mask-prefixed os.items (tree_of b.value) m r (g ∙ ap (λ (zs : List PrefixOperator). cond (has_none zs) m 0) l) (h ∙ ap (λ y. copies_at p s (tree_of y) j) k) z)

    pub copy-Binary : (b : Box Expression Global) (v : Vec BinaryLink Global) → e ≡ Binary b v → (x : Expression) → x ≡ b.value → (ls : List BinaryLink) → ls ≡ v.items
        → (m r : ℕ) → r ≡ cond (has_none ls) m 0 → is_set m j ≡ copies_at p s (tree_of x) j → is_set 0 j ≡ false → is_set r j ≡ copies_at p s (tree_of e) j
    copy-Binary b v i x k ls l m r g h z =
        as-tree (linked v.items (tree_of b.value)) (is_set r j) (ap tree_of i ∙ tree_of-Binary b v)
        (mask-linked v.items (tree_of b.value) m r (g ∙ ap (λ (zs : List BinaryLink). cond (has_none zs) m 0) l) (h ∙ ap (λ y. copies_at p s (tree_of y) j) k) z)

    pub copy-Test : (b : Box Expression Global) (v : Vec TestLink Global) → e ≡ Test b v → (x : Expression) → x ≡ b.value → (ls : List TestLink) → ls ≡ v.items
        → (m r : ℕ) → r ≡ cond (has_none ls) m 0 → is_set m j ≡ copies_at p s (tree_of x) j → is_set 0 j ≡ false → is_set r j ≡ copies_at p s (tree_of e) j
    copy-Test b v i x k ls l m r g h z =
        as-tree (test_linked v.items (tree_of b.value)) (is_set r j) (ap tree_of i ∙ tree_of-Test b v)
        (mask-tested v.items (tree_of b.value) m r (g ∙ ap (λ (zs : List TestLink). cond (has_none zs) m 0) l) (h ∙ ap (λ y. copies_at p s (tree_of y) j) k) z)

    pub copy-Conditional : (v : Vec Choice Global) (b : Box Expression Global) → e ≡ Conditional v b → (x : Expression) → x ≡ b.value → (cs : List Choice) → cs ≡ v.items
        → (m r : ℕ) → r ≡ cond (has_none cs) m 0 → is_set m j ≡ copies_at p s (tree_of x) j → is_set 0 j ≡ false → is_set r j ≡ copies_at p s (tree_of e) j
    copy-Conditional v b i x k cs l m r g h z =
        as-tree (chosen v.items (tree_of b.value)) (is_set r j) (ap tree_of i ∙ tree_of-Conditional v b)
        (mask-chosen v.items (tree_of b.value) m r (g ∙ ap (λ (zs : List Choice). cond (has_none zs) m 0) l) (h ∙ ap (λ y. copies_at p s (tree_of y) j) k) z)

    -- m are the bits of the parts, w their width, n that of the whole
    pub copy-Replication : (b : Box Expression Global) (v : Vec Expression Global) → e ≡ Replication b v → (es fs : List Expression) → es ≡ v.items → fs ≡ v.items
        → (m r w n : ℕ) → ((i : ℕ) → i ≤ j → is_set m i ≡ parts_copy p s (expressions_of es) i) → w ≡ widths_of s (expressions_of fs) → n ≡ width_of s (tree_of e)
        → j % w ≤ j → is_set r j ≡ (nat_lt j n && is_set m (j % w)) → is_set r j ≡ copies_at p s (tree_of e) j
    copy-Replication b v i es fs k l m r w n h g f low q =
        let t = ap tree_of i ∙ tree_of-Replication b v in
        as-tree (replication (tree_of b.value) (expressions_of v.items)) (is_set r j) t
        (q ∙ ap (λ y. nat_lt j n && y) (h (j % w) low) ∙ ap (λ zs. nat_lt j n && parts_copy p s (expressions_of zs) (j % w)) k
        ∙ ap (λ y. nat_lt j n && parts_copy p s (expressions_of v.items) (j % y)) (g ∙ ap (λ zs. widths_of s (expressions_of zs)) l)
        ∙ ap (λ y. nat_lt j y && parts_copy p s (expressions_of v.items) (j % widths_of s (expressions_of v.items))) (f ∙ ap (width_of s) t)
        ∙ replication-copies p s (tree_of b.value) (expressions_of v.items) j)

-- the width of the parts of a replication
some-width : (k w : ℕ) → 1 ≤ k * w → 1 ≤ w
some-width k zero h = absurd (let e : k * zero ≡ 0 = omega arith in let f : 1 ≤ 0 = subst (λ z. 1 ≤ z) e h in omega (arith, f))
some-width k (suc w) h = omega arith

most-width : (k w n : ℕ) → 1 ≤ k * w → k * w ≤ n → w ≤ n
most-width zero w n h g = absurd (let e : zero * w ≡ 0 = omega arith in let f : 1 ≤ 0 = subst (λ z. 1 ≤ z) e h in omega (arith, f))
most-width (suc k) w n h g = let e : suc k * w ≡ k * w + w = omega arith in let f : k * w + w ≤ n = subst (λ z. z ≤ n) e g in omega (arith, f)

pub parts-width : (s : Scope) (e : Expression) → IsNarrow s (tree_of e) → (b : Box Expression Global) (v : Vec Expression Global) → e ≡ Replication b v
    → (es : List Expression) → es ≡ v.items → (1 ≤ widths_of s (expressions_of es)) × (widths_of s (expressions_of es) ≤ 128)
parts-width s e h b v i es j =
    let n = subst (IsNarrow s) (ap tree_of i ∙ tree_of-Replication b v) h in
    let count = natural_of (integer_of s no_values (tree_of b.value)) in
    subst (λ zs. (1 ≤ widths_of s (expressions_of zs)) × (widths_of s (expressions_of zs) ≤ 128)) (sym j)
    (some-width count (widths_of s (expressions_of v.items)) n.0.0, most-width count (widths_of s (expressions_of v.items)) 128 n.0.0 n.0.1)

pub whole-width : (s : Scope) (e : Expression) → IsNarrow s (tree_of e) → (b : Box Expression Global) (v : Vec Expression Global) → e ≡ Replication b v → width_of s (tree_of e) ≤ 128
whole-width s e h b v i =
    let t = ap tree_of i ∙ tree_of-Replication b v in
    let n = subst (IsNarrow s) t h in
    subst (λ z. width_of s z ≤ 128) (sym t) n.0.1

pub below : (i j n : ℕ) → i ≤ j → j < n → i < n
below i j n h g = omega (arith, h, g)

pub rest-most : (j w : ℕ) → j % w ≤ j
rest-most j w = mod-le j w

-- the parts that are left, as the next one before others
pub parts-at : (p : BitSet) (s : Scope) (xs : List Expression) (i : ℕ) (e : pure.Expression) (es : pure.Expressions) (x j : ℕ) (all : Bool) → expressions_of (drop i xs) ≡ pure.expression e es
    → all ≡ cond (nat_lt j (widths_of s (expressions_of (drop i xs)))) (parts_copy p s (expressions_of (drop i xs)) j) (is_set x (j - widths_of s (expressions_of (drop i xs))))
    → all ≡ cond (nat_lt j (width_of s e + widths_of s es)) (parts_copy p s (pure.expression e es) j) (is_set x (j - (width_of s e + widths_of s es)))
parts-at p s xs i e es x j all g h = h ∙ ap (λ z. cond (nat_lt j (widths_of s z)) (parts_copy p s z j) (is_set x (j - widths_of s z))) g
