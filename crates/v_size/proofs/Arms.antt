-- What the rules say of an expression from what they say of its parts: the facts that a program's steps give, form by form.
use Rattle.std.proofs.Common.{◌≡◌, ◌∙◌, refl, ap, sym, ℕ, Bool, true, false, cond, List, Option, Some, ℤ}
use Rattle.std.specs.declared.boxed.Box.{Box}
use Rattle.std.specs.declared.vec.Vec.{Vec}
use Rattle.std.specs.declared.alloc.Global.{Global}
use Rattle.std.specs.Borrow.{Bor}
use Rattle.verilog_trees.specs.Syntax as pure
use Rattle.verilog_meaning.specs.Expression.{Scope, Object}
use Rattle.verilog_rules.specs.Expression as rules
use Rattle.v_syntax.specs.declared.tree.Number.{Number as CodeNumber}
use Rattle.v_syntax.specs.declared.tree.PrefixOperator.{PrefixOperator}
use Rattle.v_syntax.specs.declared.tree.BinaryLink.{BinaryLink}
use Rattle.v_syntax.specs.declared.tree.TestLink.{TestLink}
use Rattle.v_syntax.specs.declared.tree.Choice.{Choice}
use Rattle.v_syntax.specs.declared.tree.Expression.{Expression, Number, Name, Concatenation, Replication, AsSigned, AsUnsigned, Prefix, Binary, Test, Conditional}
use Rattle.v_syntax.specs.declared.tree.Select.{Select, Index, Part, PartUp, PartDown}
use Rattle.v_syntax.specs.declared.tree.Selects.{Selects}
use Rattle.v_syntax.specs.Tree.{tree_of, number_of, expressions_of, select_of, selects_of}
use Rattle.v_syntax.proofs.Trees.{tree_of-Concatenation, tree_of-Replication, tree_of-Binary, tree_of-Test, tree_of-Conditional}
use Rattle.v_value.specs.Evaluation.{sign_at}
use Rattle.v_size.specs.declared.rule.Broken.{Broken}
use Rattle.v_size.specs.declared.rule.Judged.{Judged}
use Rattle.v_size.specs.declared.rule.Position.{Position}
use Rattle.v_size.specs.declared.rule.Position.TheVariants.{Anywhere, Constant}
use Rattle.v_size.specs.declared.judged.Left.{Left}
use Rattle.v_size.specs.Rule.{coded, both, position_of}
use Rattle.v_size.specs.Judged.{number_judged, own_place, sized_at, judged_at, itself_at, constant_broken_at, constant_number_at, regarded, prefixed_at, links_judged, first_place, tests_judged, choices_judged, no_parts, parts_judged, joined, repeated, counted, Taken, single, bounded, many, taken_at, select_broken_at, name_at}
use Rattle.v_size.proofs.Chains.{linked-judged, first_left, test_linked-judged, chosen-judged, joined-judged, repeated-judged, all_prefixed-judged, judged-width, judged-unsized}

left_at : Broken → Option ℕ → Bool → Bool → Left
left_at b w t u = record { broken = b; width = w; signed = t; unsized_number = u }

number-judged : (s : Scope) (p : Position) (k : CodeNumber) → number_judged (number_of k) ≡ judged_at s p (pure.number (number_of k))
unfolding judged_at sized_at
number-judged s p k = refl

name-judged : (s : Scope) (p : Position) (m : List ℕ) (x : pure.Selects) → name_at s p (s m) x ≡ judged_at s p (pure.name m x)
unfolding judged_at sized_at name_at
name-judged s p m x = refl

signed-judged : (s : Scope) (p : Position) (x : pure.Expression) → regarded (itself_at s p x) ≡ judged_at s p (pure.as_signed x)
unfolding judged_at sized_at sign_at
signed-judged s Anywhere x = refl
signed-judged s (Constant w t) x = refl

unsigned-judged : (s : Scope) (p : Position) (x : pure.Expression) → regarded (itself_at s p x) ≡ judged_at s p (pure.as_unsigned x)
unfolding judged_at sized_at sign_at
unsigned-judged s Anywhere x = refl
unsigned-judged s (Constant w t) x = refl

-- e is the expression, and r the result
module _ (s : Scope) (p : Position) (e : Expression) (r : Judged) where
  at : (u : pure.Expression) → tree_of e ≡ u → r ≡ judged_at s p u → r ≡ judged_at s p (tree_of e)
  at u i j = j ∙ sym (ap (judged_at s p) i)

  pub at-Number : (k : CodeNumber) → e ≡ Number k → r ≡ number_judged (number_of k) → r ≡ judged_at s p (tree_of e)
  at-Number k i h = at _ (ap tree_of i) (h ∙ number-judged s p k)

  pub at-Name : (m : Bor (List ℕ)) (x : Selects) → e ≡ Name m x → (o : Object) → o ≡ s m.now → r ≡ name_at s p o (selects_of x) → r ≡ judged_at s p (tree_of e)
  at-Name m x i o j h = at _ (ap tree_of i) (h ∙ ap (λ a. name_at s p a (selects_of x)) j ∙ name-judged s p m.now (selects_of x))

  pub at-Concatenation : (v : Vec Expression Global) → e ≡ Concatenation v → (es : List Expression) → es ≡ v.items → (a : Judged) → a ≡ parts_judged s p no_parts es → r ≡ joined a → r ≡ judged_at s p (tree_of e)
  at-Concatenation v i es j a k h =
      at _ (ap tree_of i ∙ tree_of-Concatenation v) (h ∙ ap joined (k ∙ ap (parts_judged s p no_parts) j) ∙ sym (joined-judged s p v.items))

  pub at-Replication : (b : Box Expression Global) (v : Vec Expression Global) → e ≡ Replication b v → (k : Expression) → k ≡ b.value → (es : List Expression) → es ≡ v.items
      → (c : Broken) → c ≡ constant_broken_at s (tree_of k) → (n : Option ℤ) → n ≡ constant_number_at s (tree_of k) → (a : Judged) → a ≡ parts_judged s p no_parts es → r ≡ repeated c n a → r ≡ judged_at s p (tree_of e)
  at-Replication b v i k j es l c is_c n is_n a is_a h =
      at _ (ap tree_of i ∙ tree_of-Replication b v)
      (h ∙ ap (λ z. repeated z n a) (is_c ∙ ap (λ z. constant_broken_at s (tree_of z)) j)
      ∙ ap (λ z. repeated (constant_broken_at s (tree_of b.value)) z a) (is_n ∙ ap (λ z. constant_number_at s (tree_of z)) j)
      ∙ ap (repeated (constant_broken_at s (tree_of b.value)) (constant_number_at s (tree_of b.value))) (is_a ∙ ap (parts_judged s p no_parts) l)
      ∙ sym (repeated-judged s p v.items (tree_of b.value)))

  -- x is the operand, and a what was found of it
  module _ (b : Box Expression Global) (x : Expression) (j : x ≡ b.value) where
    module _ (a : Judged) (of_x : a ≡ itself_at s p (tree_of x)) (h : r ≡ regarded a) where
      alone : r ≡ regarded (itself_at s p (tree_of b.value))
      alone = h ∙ ap regarded (of_x ∙ ap (λ z. itself_at s p (tree_of z)) j)

      pub at-AsSigned : e ≡ AsSigned b → r ≡ judged_at s p (tree_of e)
      at-AsSigned i = at _ (ap tree_of i) (alone ∙ signed-judged s p (tree_of b.value))

      pub at-AsUnsigned : e ≡ AsUnsigned b → r ≡ judged_at s p (tree_of e)
      at-AsUnsigned i = at _ (ap tree_of i) (alone ∙ unsigned-judged s p (tree_of b.value))

    pub at-Prefix : (os : Vec PrefixOperator Global) → e ≡ Prefix os b → (ls : List PrefixOperator) → ls ≡ os.items → r ≡ prefixed_at s p ls (tree_of x) → r ≡ judged_at s p (tree_of e)
    at-Prefix os i ls k h =
        at _ (ap tree_of i) (h ∙ ap (λ l. prefixed_at s p l (tree_of x)) k ∙ ap (λ z. prefixed_at s p os.items (tree_of z)) j ∙ sym (all_prefixed-judged s os.items p (tree_of b.value)))

    module _ (a : Judged) (of_x : a ≡ judged_at s p (tree_of x)) where
      first : a ≡ judged_at s p (tree_of b.value)
      first = of_x ∙ ap (λ z. judged_at s p (tree_of z)) j

      pub at-Binary : (v : Vec BinaryLink Global) → e ≡ Binary b v → (ls : List BinaryLink) → ls ≡ v.items → r ≡ links_judged s p a ls → r ≡ judged_at s p (tree_of e)
      at-Binary v i ls k h =
          at _ (ap tree_of i ∙ tree_of-Binary b v) (h ∙ ap (links_judged s p a) k ∙ ap (λ z. links_judged s p z v.items) first ∙ sym (linked-judged s p v.items (tree_of b.value)))

      pub at-Conditional : (v : Vec Choice Global) → e ≡ Conditional v b → (cs : List Choice) → cs ≡ v.items → r ≡ choices_judged s p a cs → r ≡ judged_at s p (tree_of e)
      at-Conditional v i cs k h =
          at _ (ap tree_of i ∙ tree_of-Conditional v b) (h ∙ ap (choices_judged s p a) k ∙ ap (λ z. choices_judged s p z v.items) first ∙ sym (chosen-judged s p v.items (tree_of b.value)))

  -- tests: own is what was found of the first operand anywhere, t its sign, q its place, and a what was found of it there
  pub at-Test : (b : Box Expression Global) (v : Vec TestLink Global) → e ≡ Test b v → (x : Expression) → x ≡ b.value → (own : Judged) → own ≡ judged_at s Anywhere (tree_of x)
      → (y : Expression) → y ≡ b.value → (t : Bool) → t ≡ sign_at s (tree_of y) → (ls : List TestLink) → ls ≡ v.items → (q : Position) → q ≡ first_place s p own.width t ls
      → (z : Expression) → z ≡ b.value → (a : Judged) → a ≡ judged_at s q (tree_of z) → (ks : List TestLink) → ks ≡ v.items
      → r ≡ tests_judged s p (record { broken = a.broken; width = own.width; signed = t; unsized_number = own.unsized_number }) ks → r ≡ judged_at s p (tree_of e)
  unfolding left_at judged_at
  at-Test b v i x j own is_own y j2 t is_t ls l q is_q z j3 a is_a ks l2 h =
      let u : pure.Expression = tree_of b.value in
      let w : own.width ≡ sized_at s u = ap (λ (k : Judged). k.width) is_own ∙ judged-width s Anywhere (tree_of x) ∙ ap (λ k. sized_at s (tree_of k)) j in
      let g : t ≡ sign_at s u = is_t ∙ ap (λ k. sign_at s (tree_of k)) j2 in
      let d : own.unsized_number ≡ rules.is_unsized u = ap (λ (k : Judged). k.unsized_number) is_own ∙ judged-unsized s Anywhere (tree_of x) ∙ ap (λ k. rules.is_unsized (tree_of k)) j in
      let c : q ≡ first_place s p (sized_at s u) (sign_at s u) v.items = is_q ∙ ap (first_place s p own.width t) l ∙ ap (λ k. first_place s p k t v.items) w ∙ ap (λ k. first_place s p (sized_at s u) k v.items) g in
      let f : a.broken ≡ (judged_at s (first_place s p (sized_at s u) (sign_at s u) v.items) u).broken
      = ap (λ (k : Judged). k.broken) (is_a ∙ ap (λ k. judged_at s q (tree_of k)) j3 ∙ ap (λ k. judged_at s k u) c) in
      at _ (ap tree_of i ∙ tree_of-Test b v)
      (h ∙ ap (tests_judged s p (record { broken = a.broken; width = own.width; signed = t; unsized_number = own.unsized_number })) l2
      ∙ ap (λ k. tests_judged s p k v.items) (λ k. left_at (f k) (w k) (g k) (d k))
      ∙ sym (test_linked-judged s p v.items u))

index-broken : (s : Scope) (p : Position) (i : pure.Expression) → (itself_at s p i).broken ≡ select_broken_at s p (pure.index i)
unfolding judged_at sized_at sign_at select_broken_at
index-broken s Anywhere i = refl
index-broken s (Constant w t) i = refl

index-taken : (s : Scope) (i : pure.Expression) → single ≡ taken_at s (pure.index i)
unfolding taken_at
index-taken s i = refl

part-broken : (s : Scope) (p : Position) (h l : pure.Expression) → both (constant_broken_at s h) (constant_broken_at s l) ≡ select_broken_at s p (pure.part h l)
unfolding constant_broken_at select_broken_at
part-broken s p h l = refl

part-taken : (s : Scope) (h l : pure.Expression) → bounded (constant_number_at s h) (constant_number_at s l) ≡ taken_at s (pure.part h l)
unfolding taken_at
part-taken s h l = refl

up-broken : (s : Scope) (p : Position) (b n : pure.Expression) → both (itself_at s p b).broken (counted (constant_broken_at s n) (constant_number_at s n)) ≡ select_broken_at s p (pure.part_up b n)
unfolding judged_at sized_at sign_at constant_broken_at constant_number_at select_broken_at
up-broken s Anywhere b n = refl
up-broken s (Constant w t) b n = refl

down-broken : (s : Scope) (p : Position) (b n : pure.Expression) → both (itself_at s p b).broken (counted (constant_broken_at s n) (constant_number_at s n)) ≡ select_broken_at s p (pure.part_down b n)
unfolding judged_at sized_at sign_at constant_broken_at constant_number_at select_broken_at
down-broken s Anywhere b n = refl
down-broken s (Constant w t) b n = refl

many-up : (s : Scope) (b n : pure.Expression) → many (constant_number_at s n) ≡ taken_at s (pure.part_up b n)
unfolding taken_at
many-up s b n = refl

many-down : (s : Scope) (b n : pure.Expression) → many (constant_number_at s n) ≡ taken_at s (pure.part_down b n)
unfolding taken_at
many-down s b n = refl

-- x is the select, r and k what its rules and its bits were found to be
module _ (s : Scope) (p : Position) (x : Select) (r : Broken) (k : Taken) where
  module _ (b : Box Expression Global) (i : x ≡ Index b) where
    pub at-Index-broken : (e : Expression) → e ≡ b.value → (a : Judged) → a ≡ itself_at s p (tree_of e) → r ≡ a.broken → r ≡ select_broken_at s p (select_of x)
    at-Index-broken e j a is_a h =
        h ∙ ap (λ (z : Judged). z.broken) (is_a ∙ ap (λ z. itself_at s p (tree_of z)) j) ∙ index-broken s p (tree_of b.value) ∙ sym (ap (λ z. select_broken_at s p (select_of z)) i)

    pub at-Index-taken : k ≡ single → k ≡ taken_at s (select_of x)
    at-Index-taken h = h ∙ index-taken s (tree_of b.value) ∙ sym (ap (λ z. taken_at s (select_of z)) i)

  module _ (a b : Box Expression Global) (e f : Expression) (j : e ≡ a.value) (l : f ≡ b.value) where
    module _ (c d : Broken) (is_c : c ≡ constant_broken_at s (tree_of e)) (is_d : d ≡ constant_broken_at s (tree_of f)) where
      pub at-Part-broken : x ≡ Part a b → r ≡ both c d → r ≡ select_broken_at s p (select_of x)
      at-Part-broken i h =
          h ∙ ap (λ z. both z d) (is_c ∙ ap (λ z. constant_broken_at s (tree_of z)) j) ∙ ap (both (constant_broken_at s (tree_of a.value))) (is_d ∙ ap (λ z. constant_broken_at s (tree_of z)) l)
          ∙ part-broken s p (tree_of a.value) (tree_of b.value) ∙ sym (ap (λ z. select_broken_at s p (select_of z)) i)

    module _ (m n : Option ℤ) (is_m : m ≡ constant_number_at s (tree_of e)) (is_n : n ≡ constant_number_at s (tree_of f)) where
      pub at-Part-taken : x ≡ Part a b → k ≡ bounded m n → k ≡ taken_at s (select_of x)
      at-Part-taken i h =
          h ∙ ap (λ z. bounded z n) (is_m ∙ ap (λ z. constant_number_at s (tree_of z)) j) ∙ ap (bounded (constant_number_at s (tree_of a.value))) (is_n ∙ ap (λ z. constant_number_at s (tree_of z)) l)
          ∙ part-taken s (tree_of a.value) (tree_of b.value) ∙ sym (ap (λ z. taken_at s (select_of z)) i)

    module _ (n : Option ℤ) (is_n : n ≡ constant_number_at s (tree_of f)) where
      of_count : n ≡ constant_number_at s (tree_of b.value)
      of_count = is_n ∙ ap (λ z. constant_number_at s (tree_of z)) l

      pub at-PartUp-taken : x ≡ PartUp a b → k ≡ many n → k ≡ taken_at s (select_of x)
      at-PartUp-taken i h = h ∙ ap many of_count ∙ many-up s (tree_of a.value) (tree_of b.value) ∙ sym (ap (λ z. taken_at s (select_of z)) i)

      pub at-PartDown-taken : x ≡ PartDown a b → k ≡ many n → k ≡ taken_at s (select_of x)
      at-PartDown-taken i h = h ∙ ap many of_count ∙ many-down s (tree_of a.value) (tree_of b.value) ∙ sym (ap (λ z. taken_at s (select_of z)) i)

      module _ (g : Judged) (is_g : g ≡ itself_at s p (tree_of e)) (d : Broken) (is_d : d ≡ constant_broken_at s (tree_of f)) (h : r ≡ both g.broken (counted d n)) where
        based : r ≡ both (itself_at s p (tree_of a.value)).broken (counted (constant_broken_at s (tree_of b.value)) (constant_number_at s (tree_of b.value)))
        based = h ∙ ap (λ (z : Judged). both z.broken (counted d n)) (is_g ∙ ap (λ z. itself_at s p (tree_of z)) j)
            ∙ ap (λ z. both (itself_at s p (tree_of a.value)).broken (counted z n)) (is_d ∙ ap (λ z. constant_broken_at s (tree_of z)) l)
            ∙ ap (λ z. both (itself_at s p (tree_of a.value)).broken (counted (constant_broken_at s (tree_of b.value)) z)) of_count

        pub at-PartUp-broken : x ≡ PartUp a b → r ≡ select_broken_at s p (select_of x)
        at-PartUp-broken i = based ∙ up-broken s p (tree_of a.value) (tree_of b.value) ∙ sym (ap (λ z. select_broken_at s p (select_of z)) i)

        pub at-PartDown-broken : x ≡ PartDown a b → r ≡ select_broken_at s p (select_of x)
        at-PartDown-broken i = based ∙ down-broken s p (tree_of a.value) (tree_of b.value) ∙ sym (ap (λ z. select_broken_at s p (select_of z)) i)
