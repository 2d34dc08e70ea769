-- The copy of an expression as a target, form by form.
use Rattle.std.proofs.Common.{◌≡◌, ◌∙◌, ◌<◌, ◌+◌, refl, ap, sym, ℕ, true, false, List, [], ◌∷◌, ◌++◌, map, length, drop, get_or, Option, Some, None, option_map, option_and_then}
use Rattle.std.proofs.lemmas.List.{append_assoc, map-append, drop_more}
use Rattle.std.proofs.lemmas.Bool.{false≢true}
use Rattle.std.specs.declared.boxed.Box.{Box}
use Rattle.std.specs.declared.vec.Vec.{Vec}
use Rattle.std.specs.declared.alloc.Global.{Global}
use Rattle.std.specs.Borrow.{Bor}
use Rattle.wb_values.specs.Value.{Name}
use Rattle.verilog_trees.specs.Syntax as pure
use Rattle.verilog_meaning.specs.Settled.{as_target, all_as_targets}
use Rattle.verilog_renamed.specs.Renamed.{renamed_target, renamed_targets}
use Rattle.v_syntax.specs.declared.tree.Number.{Number as CodeNumber}
use Rattle.v_syntax.specs.declared.tree.PrefixOperator.{PrefixOperator}
use Rattle.v_syntax.specs.declared.tree.PrefixOperator.TheVariants.{Plus, Minus, Complement, IsZero, AllOnes, NotAllOnes, AnyOne, NoOne, OddOnes, EvenOnes}
use Rattle.v_syntax.specs.declared.tree.BinaryOperator.{BinaryOperator}
use Rattle.v_syntax.specs.declared.tree.BinaryOperator.TheVariants.{Power, Multiply, Divide, Modulo, Add, Subtract, ShiftLeft, ShiftRight, ArithmeticShiftRight, And, Xor, Xnor, Or}
use Rattle.v_syntax.specs.declared.tree.TestOperator.{TestOperator}
use Rattle.v_syntax.specs.declared.tree.TestOperator.TheVariants.{Less, LessOrEqual, Greater, GreaterOrEqual, Equal, NotEqual, Both, Either}
use Rattle.v_syntax.specs.declared.tree.BinaryLink.{BinaryLink}
use Rattle.v_syntax.specs.declared.tree.TestLink.{TestLink}
use Rattle.v_syntax.specs.declared.tree.Choice.{Choice}
use Rattle.v_syntax.specs.declared.tree.Expression.{Expression, Number, Name as NameOf, Concatenation, Replication, AsSigned, AsUnsigned, Prefix, Binary, Test, Conditional}
use Rattle.v_syntax.specs.declared.tree.Selects.{Selects}
use Rattle.v_syntax.specs.declared.tree.Target.{Target, Joined}
use Rattle.v_syntax.specs.Tree.{tree_of, selects_of, target_of, prefixed, all_prefixed, combined, tested, expressions_of}
use Rattle.v_syntax.specs.Chain.{linked, test_linked, chosen}
use Rattle.v_syntax.proofs.Trees.{tree_of-Concatenation, tree_of-Binary, tree_of-Test, tree_of-Conditional}
use Rattle.v_renamed.specs.Copies.{target_at, as_renamed, are_none, with_target, all_renamed, joined_list}
use Rattle.v_renamed.specs.Listed.{targets_listed}
use Rattle.v_renamed.proofs.Statements.{target_of-Joined}

-- ---- chains: with a link they are no target

prefixed-none : (f : Name → Name) (o : PrefixOperator) (x : pure.Expression) → as_renamed f (prefixed o x) ≡ None
unfolding as_renamed
prefixed-none f Plus x = refl
prefixed-none f Minus x = refl
prefixed-none f Complement x = refl
prefixed-none f IsZero x = refl
prefixed-none f AllOnes x = refl
prefixed-none f NotAllOnes x = refl
prefixed-none f AnyOne x = refl
prefixed-none f NoOne x = refl
prefixed-none f OddOnes x = refl
prefixed-none f EvenOnes x = refl

combined-none : (f : Name → Name) (o : BinaryOperator) (x y : pure.Expression) → as_renamed f (combined o x y) ≡ None
unfolding as_renamed
combined-none f Power x y = refl
combined-none f Multiply x y = refl
combined-none f Divide x y = refl
combined-none f Modulo x y = refl
combined-none f Add x y = refl
combined-none f Subtract x y = refl
combined-none f ShiftLeft x y = refl
combined-none f ShiftRight x y = refl
combined-none f ArithmeticShiftRight x y = refl
combined-none f And x y = refl
combined-none f Xor x y = refl
combined-none f Xnor x y = refl
combined-none f Or x y = refl

tested-none : (f : Name → Name) (o : TestOperator) (x y : pure.Expression) → as_renamed f (tested o x y) ≡ None
unfolding as_renamed
tested-none f Less x y = refl
tested-none f LessOrEqual x y = refl
tested-none f Greater x y = refl
tested-none f GreaterOrEqual x y = refl
tested-none f Equal x y = refl
tested-none f NotEqual x y = refl
tested-none f Both x y = refl
tested-none f Either x y = refl

linked-none : (f : Name → Name) (ls : List BinaryLink) (x : pure.Expression) → as_renamed f x ≡ None → as_renamed f (linked ls x) ≡ None
linked-none f [] x h = h
linked-none f (l ∷ ls) x h = linked-none f ls (combined l.operator x (tree_of l.operand)) (combined-none f l.operator x (tree_of l.operand))

test_linked-none : (f : Name → Name) (ls : List TestLink) (x : pure.Expression) → as_renamed f x ≡ None → as_renamed f (test_linked ls x) ≡ None
test_linked-none f [] x h = h
test_linked-none f (l ∷ ls) x h = test_linked-none f ls (tested l.operator x (tree_of l.operand)) (tested-none f l.operator x (tree_of l.operand))

conditional-none : (f : Name → Name) (c x y : pure.Expression) → as_renamed f (pure.conditional c x y) ≡ None
unfolding as_renamed
conditional-none f c x y = refl

-- without links they are what stands in them
prefixed-alone : (f : Name → Name) (os : List PrefixOperator) (x : pure.Expression) → are_none os ≡ true → as_renamed f x ≡ as_renamed f (all_prefixed os x)
prefixed-alone f [] x h = refl
prefixed-alone f (o ∷ os) x h = absurd (false≢true h)

prefixed-others : (f : Name → Name) (os : List PrefixOperator) (x : pure.Expression) → are_none os ≡ false → None ≡ as_renamed f (all_prefixed os x)
prefixed-others f [] x h = absurd (false≢true (sym h))
prefixed-others f (o ∷ os) x h = sym (prefixed-none f o (all_prefixed os x))

linked-alone : (f : Name → Name) (ls : List BinaryLink) (x : pure.Expression) → are_none ls ≡ true → as_renamed f x ≡ as_renamed f (linked ls x)
linked-alone f [] x h = refl
linked-alone f (l ∷ ls) x h = absurd (false≢true h)

linked-others : (f : Name → Name) (ls : List BinaryLink) (x : pure.Expression) → are_none ls ≡ false → None ≡ as_renamed f (linked ls x)
linked-others f [] x h = absurd (false≢true (sym h))
linked-others f (l ∷ ls) x h = sym (linked-none f ls (combined l.operator x (tree_of l.operand)) (combined-none f l.operator x (tree_of l.operand)))

tested-alone : (f : Name → Name) (ls : List TestLink) (x : pure.Expression) → are_none ls ≡ true → as_renamed f x ≡ as_renamed f (test_linked ls x)
tested-alone f [] x h = refl
tested-alone f (l ∷ ls) x h = absurd (false≢true h)

tested-others : (f : Name → Name) (ls : List TestLink) (x : pure.Expression) → are_none ls ≡ false → None ≡ as_renamed f (test_linked ls x)
tested-others f [] x h = absurd (false≢true (sym h))
tested-others f (l ∷ ls) x h = sym (test_linked-none f ls (tested l.operator x (tree_of l.operand)) (tested-none f l.operator x (tree_of l.operand)))

chosen-alone : (f : Name → Name) (cs : List Choice) (y : pure.Expression) → are_none cs ≡ true → as_renamed f y ≡ as_renamed f (chosen cs y)
chosen-alone f [] y h = refl
chosen-alone f (c ∷ cs) y h = absurd (false≢true h)

chosen-others : (f : Name → Name) (cs : List Choice) (y : pure.Expression) → are_none cs ≡ false → None ≡ as_renamed f (chosen cs y)
chosen-others f [] y h = absurd (false≢true (sym h))
chosen-others f (c ∷ cs) y h = sym (conditional-none f (tree_of c.condition) (tree_of c.value) (chosen cs y))

abbrev some-target : pure.Target → Option pure.Target
some-target t = Some t

-- ---- parts side by side

mapped : (f : Name → Name) (t : pure.Target) (q : Option pure.Targets)
    → option_map (renamed_targets f) (option_map (pure.target t) q) ≡ option_map (pure.target (renamed_target f t)) (option_map (renamed_targets f) q)
mapped f t None = refl
mapped f t (Some ts) = refl

listed-more : (t : pure.Target) (r : Option (List pure.Target))
    → option_map (pure.target t) (option_map targets_listed r) ≡ option_map targets_listed (option_map (λ us. t ∷ us) r)
listed-more t None = refl
listed-more t (Some us) = refl

part-with : (f : Name → Name) (o : Option pure.Target) (q : Option pure.Targets) (r : Option (List pure.Target))
    → option_map (renamed_targets f) q ≡ option_map targets_listed r
    → option_map (renamed_targets f) (option_and_then (λ t. option_map (pure.target t) q) o) ≡ option_map targets_listed (with_target (option_map (renamed_target f) o) r)
part-with f None q r h = refl
part-with f (Some t) q r h = mapped f t q ∙ ap (option_map (pure.target (renamed_target f t))) h ∙ listed-more (renamed_target f t) r

parts-all : (f : Name → Name) (es : List Expression) → option_map (renamed_targets f) (all_as_targets (expressions_of es)) ≡ option_map targets_listed (all_renamed f es)
unfolding as_renamed
parts-all f [] = refl
parts-all f (e ∷ es) = part-with f (as_target (tree_of e)) (all_as_targets (expressions_of es)) (all_renamed f es) (parts-all f es)

joined-mapped : (f : Name → Name) (q : Option pure.Targets)
    → option_map (renamed_target f) (option_map pure.joined q) ≡ option_map pure.joined (option_map (renamed_targets f) q)
joined-mapped f None = refl
joined-mapped f (Some ts) = refl

joined-listed : (r : Option (List pure.Target)) → option_map pure.joined (option_map targets_listed r) ≡ option_map joined_list r
joined-listed None = refl
joined-listed (Some us) = refl

parts-joined : (f : Name → Name) (es : List Expression) → option_map joined_list (all_renamed f es) ≡ as_renamed f (pure.concatenation (expressions_of es))
unfolding as_renamed
parts-joined f es =
    sym (joined-mapped f (all_as_targets (expressions_of es)) ∙ ap (option_map pure.joined) (parts-all f es) ∙ joined-listed (all_renamed f es))

-- ---- a loop over parts

-- the targets of the front before those of the rest
abbrev pub after : List pure.Target → Option (List pure.Target) → Option (List pure.Target)
after ts r = option_map (λ us. ts ++ us) r

abbrev some-list : List pure.Target → Option (List pure.Target)
some-list xs = Some xs

after-more : (ts : List pure.Target) (t : pure.Target) (r : Option (List pure.Target)) → after ts (option_map (λ us. t ∷ us) r) ≡ after (ts ++ t ∷ []) r
after-more ts t None = refl
after-more ts t (Some us) = ap some-list (sym (append_assoc ts (t ∷ []) us))

pub targets_turn : (f : Name → Name) (es : List Expression) (i : ℕ) (d : Expression) (now new : List Target) (t : Target) → i < length es
    → after (map target_of now) (all_renamed f (drop i es)) ≡ all_renamed f es → some-target (target_of t) ≡ as_renamed f (tree_of (get_or es i d))
    → new ≡ now ++ t ∷ [] → after (map target_of new) (all_renamed f (drop (i + 1) es)) ≡ all_renamed f es
targets_turn f es i d now new t l h e p =
    ap (λ ts. after (map target_of ts) (all_renamed f (drop (i + 1) es))) p
    ∙ ap (λ ts. after ts (all_renamed f (drop (i + 1) es))) (map-append target_of now (t ∷ []))
    ∙ sym (after-more (map target_of now) (target_of t) (all_renamed f (drop (i + 1) es)))
    ∙ ap (λ o. after (map target_of now) (with_target o (all_renamed f (drop (i + 1) es)))) e
    ∙ ap (λ ys. after (map target_of now) (all_renamed f ys)) (sym (drop_more es i d l))
    ∙ h

-- targets side by side
joined-is : (v : Vec Target Global) → target_of (Joined v) ≡ joined_list (map target_of v.items)
joined-is v = target_of-Joined v

pub joined_some : (o : Option (Vec Target Global)) (v : Vec Target Global) → o ≡ Some v
    → option_map target_of (Some (Joined v)) ≡ option_map joined_list (option_map (λ (w : Vec Target Global). map target_of w.items) o)
joined_some o v is = ap some-target (joined-is v) ∙ ap (λ p. option_map joined_list (option_map (λ (w : Vec Target Global). map target_of w.items) p)) (sym is)

-- ---- arms: e is the expression, and o the target, if there is one

module _ (f : Name → Name) (e : Expression) where
  pub number-out : (n : CodeNumber) → e ≡ Number n → None ≡ as_renamed f (tree_of e)
  unfolding as_renamed
  number-out n is = ap (λ z. as_renamed f (tree_of z)) (sym is)

  pub replication-out : (b : Box Expression Global) (v : Vec Expression Global) → e ≡ Replication b v → None ≡ as_renamed f (tree_of e)
  unfolding as_renamed
  replication-out b v is = ap (λ z. as_renamed f (tree_of z)) (sym is)

  pub signed-out : (b : Box Expression Global) → e ≡ AsSigned b → None ≡ as_renamed f (tree_of e)
  unfolding as_renamed
  signed-out b is = ap (λ z. as_renamed f (tree_of z)) (sym is)

  pub unsigned-out : (b : Box Expression Global) → e ≡ AsUnsigned b → None ≡ as_renamed f (tree_of e)
  unfolding as_renamed
  unsigned-out b is = ap (λ z. as_renamed f (tree_of z)) (sym is)

  pub name-out : (n : Bor (List ℕ)) (x : Selects) (t : Target) → e ≡ NameOf n x → target_of t ≡ target_at f (pure.place n.now (selects_of x))
      → option_map target_of (Some t) ≡ as_renamed f (tree_of e)
  unfolding as_renamed target_at
  name-out n x t is same = ap some-target same ∙ ap (λ z. as_renamed f (tree_of z)) (sym is)

  pub concatenation-out : (v : Vec Expression Global) (es : List Expression) (r : Option (List pure.Target)) (q : Option pure.Target)
      → e ≡ Concatenation v → es ≡ v.items → r ≡ all_renamed f es → q ≡ option_map joined_list r → q ≡ as_renamed f (tree_of e)
  concatenation-out v es r q is at all h =
      h ∙ ap (option_map joined_list) (all ∙ ap (all_renamed f) at) ∙ parts-joined f v.items
      ∙ ap (as_renamed f) (sym (ap tree_of is ∙ tree_of-Concatenation v))

  -- k is what stands in a chain, and b the box that holds it
  module _ (k : Expression) (b : Box Expression Global) (held : k ≡ b.value) where
    pub prefix-alone : (v : Vec PrefixOperator Global) (os : List PrefixOperator) (q : Option pure.Target) → e ≡ Prefix v b → os ≡ v.items
        → are_none os ≡ true → q ≡ as_renamed f (tree_of k) → q ≡ as_renamed f (tree_of e)
    prefix-alone v os q is at none h =
        h ∙ ap (λ z. as_renamed f (tree_of z)) held ∙ prefixed-alone f v.items (tree_of b.value) (sym (ap are_none at) ∙ none)
        ∙ ap (λ z. as_renamed f (tree_of z)) (sym is)

    pub prefix-others : (v : Vec PrefixOperator Global) (os : List PrefixOperator) → e ≡ Prefix v b → os ≡ v.items
        → are_none os ≡ false → None ≡ as_renamed f (tree_of e)
    prefix-others v os is at some =
        prefixed-others f v.items (tree_of b.value) (sym (ap are_none at) ∙ some) ∙ ap (λ z. as_renamed f (tree_of z)) (sym is)

    pub binary-alone : (v : Vec BinaryLink Global) (ls : List BinaryLink) (q : Option pure.Target) → e ≡ Binary b v → ls ≡ v.items
        → are_none ls ≡ true → q ≡ as_renamed f (tree_of k) → q ≡ as_renamed f (tree_of e)
    binary-alone v ls q is at none h =
        h ∙ ap (λ z. as_renamed f (tree_of z)) held ∙ linked-alone f v.items (tree_of b.value) (sym (ap are_none at) ∙ none)
        ∙ ap (as_renamed f) (sym (ap tree_of is ∙ tree_of-Binary b v))

    pub binary-others : (v : Vec BinaryLink Global) (ls : List BinaryLink) → e ≡ Binary b v → ls ≡ v.items
        → are_none ls ≡ false → None ≡ as_renamed f (tree_of e)
    binary-others v ls is at some =
        linked-others f v.items (tree_of b.value) (sym (ap are_none at) ∙ some) ∙ ap (as_renamed f) (sym (ap tree_of is ∙ tree_of-Binary b v))

    pub test-alone : (v : Vec TestLink Global) (ls : List TestLink) (q : Option pure.Target) → e ≡ Test b v → ls ≡ v.items
        → are_none ls ≡ true → q ≡ as_renamed f (tree_of k) → q ≡ as_renamed f (tree_of e)
    test-alone v ls q is at none h =
        h ∙ ap (λ z. as_renamed f (tree_of z)) held ∙ tested-alone f v.items (tree_of b.value) (sym (ap are_none at) ∙ none)
        ∙ ap (as_renamed f) (sym (ap tree_of is ∙ tree_of-Test b v))

    pub test-others : (v : Vec TestLink Global) (ls : List TestLink) → e ≡ Test b v → ls ≡ v.items
        → are_none ls ≡ false → None ≡ as_renamed f (tree_of e)
    test-others v ls is at some =
        tested-others f v.items (tree_of b.value) (sym (ap are_none at) ∙ some) ∙ ap (as_renamed f) (sym (ap tree_of is ∙ tree_of-Test b v))

    pub conditional-alone : (v : Vec Choice Global) (cs : List Choice) (q : Option pure.Target) → e ≡ Conditional v b → cs ≡ v.items
        → are_none cs ≡ true → q ≡ as_renamed f (tree_of k) → q ≡ as_renamed f (tree_of e)
    conditional-alone v cs q is at none h =
        h ∙ ap (λ z. as_renamed f (tree_of z)) held ∙ chosen-alone f v.items (tree_of b.value) (sym (ap are_none at) ∙ none)
        ∙ ap (as_renamed f) (sym (ap tree_of is ∙ tree_of-Conditional v b))

    pub conditional-others : (v : Vec Choice Global) (cs : List Choice) → e ≡ Conditional v b → cs ≡ v.items
        → are_none cs ≡ false → None ≡ as_renamed f (tree_of e)
    conditional-others v cs is at some =
        chosen-others f v.items (tree_of b.value) (sym (ap are_none at) ∙ some) ∙ ap (as_renamed f) (sym (ap tree_of is ∙ tree_of-Conditional v b))
