-- What ladders, cases and blocks read and assign, by the lists of their parts, and what narrow ones say of their parts.
use Rattle.std.proofs.Common.{◌≡◌, ◌∙◌, refl, ap, sym, subst, false, List, [], ◌∷◌, Option, Some, None}
use Rattle.std.specs.Prelude.{ℕ, ◌&&◌, ◌||◌}
use Rattle.std.specs.declared.boxed.Box.{Box}
use Rattle.std.specs.declared.vec.Vec.{Vec}
use Rattle.std.specs.declared.alloc.Global.{Global}
use Rattle.std.specs.Borrow.{Bor}
use Rattle.verilog_trees.specs.Syntax as pure
use Rattle.verilog_meaning.specs.Expression.{Scope}
use Rattle.verilog_meaning.specs.Register.{is_bit_of, may_reach, may_assign, may_assign_in_all, may_assign_in_case}
use Rattle.verilog_designs.specs.Reads.{BitSet, no_bits, or_in, reads, target_reads, items_read}
use Rattle.verilog_designs.specs.Drivers.{statement_reads, statements_read, arms_read}
use Rattle.v_syntax.specs.declared.tree.Expression.{Expression}
use Rattle.v_syntax.specs.declared.tree.Target.{Target}
use Rattle.v_syntax.specs.declared.tree.Arm.{Arm}
use Rattle.v_syntax.specs.declared.tree.CaseItem.{CaseItem, Values, Default}
use Rattle.v_syntax.specs.declared.tree.CaseKind.{CaseKind as CodeKind}
use Rattle.v_syntax.specs.declared.tree.Statement.{Statement, Empty, Blocking, Nonblocking, If, Case, Block}
use Rattle.v_syntax.specs.Tree.{tree_of, target_of, statement_of, expressions_of, arm_before, or_empty}
use Rattle.v_statement.specs.Statements.{statement_list, arm_list}
use Rattle.v_statement.specs.Effects.{item_list, item_statement}
use Rattle.v_statement.proofs.Runs.{last_statement, statement_of-If, statement_of-Case, statement_of-Block}
use Rattle.v_value.specs.Narrow.{IsNarrow, AreNarrow}
use Rattle.v_flow.specs.Spans.{existing}
use Rattle.v_flow.specs.Narrow.{HasNarrowParts, IsNarrowFlow, AreNarrowFlows, AreNarrowArms}
use Rattle.v_flow.specs.Flow.{reads_at, target_reads_at, reached, parts_read, statement_reads_at, assigned_at, all_read, ladder_reads, label_reads, labels_read, bodies_read, all_assigned, ladder_assigned, bodies_assigned, AreNarrowLadder, AreNarrowAll, IsNarrowLabel, AreNarrowItems}
use Rattle.v_flow.proofs.Sets.{or_false, or-assoc, or-none}
use Rattle.v_flow.proofs.Constants.{and_false}
use Rattle.v_flow.proofs.Targets.{and_or}
use Rattle.v_flow.proofs.Reading.{all-parts}

-- ---- what is read

read-before : (s : Scope) (c : pure.Expression) (x : pure.Statement) (o : Option pure.Statement)
    → statement_reads s (arm_before c x o) ≡ or_in (reads s c) (or_in (statement_reads s x) (statement_reads s (or_empty o)))
read-before s c x None = λ i n k b. reads s c n k b || sym (or_false (statement_reads s x n k b)) i
read-before s c x (Some y) = λ i n k b. reads s c n k b || (statement_reads s x n k b || statement_reads s y n k b)

read-ladder : (s : Scope) (arms : List Arm) (y : Option pure.Statement)
    → statement_reads s (or_empty (arm_list arms y)) ≡ or_in (ladder_reads s arms) (statement_reads s (or_empty y))
unfolding reads_at statement_reads_at
read-ladder s [] y = refl
read-ladder s (a ∷ arms) y =
    let p = reads s (tree_of a.condition) in
    let q = statement_reads s (statement_of a.statement) in
    let r = statement_reads s (or_empty y) in
    read-before s (tree_of a.condition) (statement_of a.statement) (arm_list arms y)
    ∙ ap (λ (z : BitSet). or_in p (or_in q z)) (read-ladder s arms y)
    ∙ ap (or_in p) (sym (or-assoc q (ladder_reads s arms) r))
    ∙ sym (or-assoc p (or_in q (ladder_reads s arms)) r)

read-all : (s : Scope) (xs : List Statement) → statements_read s (statement_list xs) ≡ all_read s xs
unfolding statement_reads_at
read-all s [] = λ i n k b. false
read-all s (x ∷ xs) = λ i n k b. statement_reads s (statement_of x) n k b || read-all s xs i n k b

read-labels : (s : Scope) (items : List CaseItem) → items_read s (item_list items) ≡ labels_read s items
unfolding reads_at
read-labels s [] = refl
read-labels s (Values es x ∷ items) =
    ap (λ (z : BitSet). or_in z (items_read s (item_list items))) (all-parts s es.items) ∙ ap (or_in (parts_read s es.items)) (read-labels s items)
read-labels s (Default x ∷ items) = read-labels s items

read-bodies : (s : Scope) (items : List CaseItem) → arms_read s (item_list items) ≡ bodies_read s items
unfolding statement_reads_at
read-bodies s [] = λ i n k b. false
read-bodies s (Values es x ∷ items) = λ i n k b. statement_reads s (statement_of x) n k b || read-bodies s items i n k b
read-bodies s (Default x ∷ items) = λ i n k b. statement_reads s (statement_of x) n k b || read-bodies s items i n k b

module _ (s : Scope) (x : Statement) where
  pub reads-Empty : x ≡ Empty → no_bits ≡ statement_reads_at s (statement_of x)
  unfolding statement_reads_at
  reads-Empty i = (λ j n k b. false) ∙ sym (ap (λ z. statement_reads s (statement_of z)) i)

  pub reads-Blocking : (t : Box Target Global) (e : Expression) → x ≡ Blocking t e → (u : Target) → u ≡ t.value → or_in (reads_at s (tree_of e)) (target_reads_at s (target_of u)) ≡ statement_reads_at s (statement_of x)
  unfolding reads_at target_reads_at statement_reads_at
  reads-Blocking t e i u is = ap (λ z. or_in (reads_at s (tree_of e)) (target_reads_at s (target_of z))) is ∙ (λ j n k b. reads s (tree_of e) n k b || target_reads s (target_of t.value) n k b) ∙ sym (ap (λ z. statement_reads s (statement_of z)) i)

  pub reads-Nonblocking : (t : Box Target Global) (e : Expression) → x ≡ Nonblocking t e → (u : Target) → u ≡ t.value → or_in (reads_at s (tree_of e)) (target_reads_at s (target_of u)) ≡ statement_reads_at s (statement_of x)
  unfolding reads_at target_reads_at statement_reads_at
  reads-Nonblocking t e i u is = ap (λ z. or_in (reads_at s (tree_of e)) (target_reads_at s (target_of z))) is ∙ (λ j n k b. reads s (tree_of e) n k b || target_reads s (target_of t.value) n k b) ∙ sym (ap (λ z. statement_reads s (statement_of z)) i)

  pub reads-else : (v : Vec Arm Global) (l : Option (Box Statement Global)) (b : Box Statement Global) → x ≡ If v l → l ≡ Some b → (as_ : List Arm) → as_ ≡ v.items → (y : Statement) → y ≡ b.value
      → or_in (ladder_reads s as_) (statement_reads_at s (statement_of y)) ≡ statement_reads_at s (statement_of x)
  unfolding statement_reads_at
  reads-else v l b i j as_ g y h =
      ap (λ z. or_in (ladder_reads s z) (statement_reads s (statement_of y))) g ∙ ap (λ z. or_in (ladder_reads s v.items) (statement_reads s (statement_of z))) h
      ∙ ap (λ o. or_in (ladder_reads s v.items) (statement_reads s (or_empty (last_statement o)))) (sym j)
      ∙ sym (read-ladder s v.items (last_statement l)) ∙ sym (ap (statement_reads s) (ap statement_of i ∙ statement_of-If v l))

  pub reads-no_else : (v : Vec Arm Global) (l : Option (Box Statement Global)) → x ≡ If v l → l ≡ None → (as_ : List Arm) → as_ ≡ v.items
      → ladder_reads s as_ ≡ statement_reads_at s (statement_of x)
  unfolding statement_reads_at
  reads-no_else v l i j as_ g =
      ap (ladder_reads s) g ∙ sym (or-none (ladder_reads s v.items)) ∙ (λ t n k b. ladder_reads s v.items n k b || statement_reads s pure.empty n k b)
      ∙ ap (λ o. or_in (ladder_reads s v.items) (statement_reads s (or_empty (last_statement o)))) (sym j)
      ∙ sym (read-ladder s v.items (last_statement l)) ∙ sym (ap (statement_reads s) (ap statement_of i ∙ statement_of-If v l))

  pub reads-Case : (kind : CodeKind) (e : Expression) (v : Vec CaseItem Global) → x ≡ Case kind e v → (items others : List CaseItem) → items ≡ v.items → others ≡ v.items
      → or_in (reads_at s (tree_of e)) (or_in (labels_read s items) (bodies_read s others)) ≡ statement_reads_at s (statement_of x)
  unfolding reads_at statement_reads_at
  reads-Case kind e v i items others g h =
      ap (λ z. or_in (reads s (tree_of e)) (or_in (labels_read s z) (bodies_read s others))) g
      ∙ ap (λ z. or_in (reads s (tree_of e)) (or_in (labels_read s v.items) (bodies_read s z))) h
      ∙ ap (λ (z : BitSet). or_in (reads s (tree_of e)) (or_in z (bodies_read s v.items))) (sym (read-labels s v.items))
      ∙ ap (λ (z : BitSet). or_in (reads s (tree_of e)) (or_in (items_read s (item_list v.items)) z)) (sym (read-bodies s v.items))
      ∙ (λ t n k b. reads s (tree_of e) n k b || (items_read s (item_list v.items) n k b || arms_read s (item_list v.items) n k b))
      ∙ sym (ap (statement_reads s) (ap statement_of i ∙ statement_of-Case kind e v))

  pub reads-Block : (m : Option (Bor (List ℕ))) (v : Vec Statement Global) → x ≡ Block m v → (xs : List Statement) → xs ≡ v.items
      → all_read s xs ≡ statement_reads_at s (statement_of x)
  unfolding statement_reads_at
  reads-Block m v i xs g =
      ap (all_read s) g ∙ sym (read-all s v.items) ∙ (λ t n k b. statements_read s (statement_list v.items) n k b)
      ∙ sym (ap (statement_reads s) (ap statement_of i ∙ statement_of-Block m v))

pub reads-Values : (s : Scope) (i : CaseItem) (es : Vec Expression Global) (x : Statement) → i ≡ Values es x → (ys : List Expression) → ys ≡ es.items → parts_read s ys ≡ label_reads s i
reads-Values s i es x e ys g = ap (parts_read s) g ∙ sym (ap (label_reads s) e)

pub reads-Default : (s : Scope) (i : CaseItem) (x : Statement) → i ≡ Default x → no_bits ≡ label_reads s i
reads-Default s i x e = sym (ap (label_reads s) e)

pub body-Values : (i : CaseItem) (es : Vec Expression Global) (x : Statement) → i ≡ Values es x → statement_of x ≡ item_statement i
body-Values i es x e = sym (ap item_statement e)

pub body-Default : (i : CaseItem) (x : Statement) → i ≡ Default x → statement_of x ≡ item_statement i
body-Default i x e = sym (ap item_statement e)

-- ---- what is assigned

assigned-nothing : (s : Scope) → existing s (may_assign s pure.empty) ≡ no_bits
assigned-nothing s = λ i n k b. and_false (is_bit_of (s n) k b) i

assigned-before : (s : Scope) (c : pure.Expression) (x : pure.Statement) (o : Option pure.Statement)
    → existing s (may_assign s (arm_before c x o)) ≡ or_in (existing s (may_assign s x)) (existing s (may_assign s (or_empty o)))
assigned-before s c x None =
    (λ i n k b. is_bit_of (s n) k b && may_assign s x n k b)
    ∙ sym (or-none (existing s (may_assign s x))) ∙ ap (or_in (existing s (may_assign s x))) (sym (assigned-nothing s))
assigned-before s c x (Some y) = λ i n k b. and_or (is_bit_of (s n) k b) (may_assign s x n k b) (may_assign s y n k b) i

assigned-ladder : (s : Scope) (arms : List Arm) (y : Option pure.Statement)
    → existing s (may_assign s (or_empty (arm_list arms y))) ≡ or_in (ladder_assigned s arms) (existing s (may_assign s (or_empty y)))
unfolding assigned_at
assigned-ladder s [] y = refl
assigned-ladder s (a ∷ arms) y =
    let q = existing s (may_assign s (statement_of a.statement)) in
    let r = existing s (may_assign s (or_empty y)) in
    assigned-before s (tree_of a.condition) (statement_of a.statement) (arm_list arms y) ∙ ap (or_in q) (assigned-ladder s arms y)
    ∙ sym (or-assoc q (ladder_assigned s arms) r)

assigned-all : (s : Scope) (xs : List Statement) → existing s (may_assign_in_all s (statement_list xs)) ≡ all_assigned s xs
unfolding assigned_at
assigned-all s [] = λ i n k b. and_false (is_bit_of (s n) k b) i
assigned-all s (x ∷ xs) =
    (λ i n k b. and_or (is_bit_of (s n) k b) (may_assign s (statement_of x) n k b) (may_assign_in_all s (statement_list xs) n k b) i)
    ∙ ap (or_in (existing s (may_assign s (statement_of x)))) (assigned-all s xs)

assigned-bodies : (s : Scope) (items : List CaseItem) → existing s (may_assign_in_case s (item_list items)) ≡ bodies_assigned s items
unfolding assigned_at
assigned-bodies s [] = λ i n k b. and_false (is_bit_of (s n) k b) i
assigned-bodies s (Values es x ∷ items) =
    (λ i n k b. and_or (is_bit_of (s n) k b) (may_assign s (statement_of x) n k b) (may_assign_in_case s (item_list items) n k b) i)
    ∙ ap (or_in (existing s (may_assign s (statement_of x)))) (assigned-bodies s items)
assigned-bodies s (Default x ∷ items) =
    (λ i n k b. and_or (is_bit_of (s n) k b) (may_assign s (statement_of x) n k b) (may_assign_in_case s (item_list items) n k b) i)
    ∙ ap (or_in (existing s (may_assign s (statement_of x)))) (assigned-bodies s items)

module _ (s : Scope) (x : Statement) where
  pub assigned-Empty : x ≡ Empty → no_bits ≡ assigned_at s (statement_of x)
  unfolding assigned_at
  assigned-Empty i = sym (assigned-nothing s) ∙ sym (ap (λ z. existing s (may_assign s (statement_of z))) i)

  pub assigned-Blocking : (t : Box Target Global) (e : Expression) → x ≡ Blocking t e → (u : Target) → u ≡ t.value → reached s false (target_of u) ≡ assigned_at s (statement_of x)
  unfolding assigned_at reached
  assigned-Blocking t e i u is = ap (λ z. reached s false (target_of z)) is ∙ (λ j n k b. is_bit_of (s n) k b && may_reach s (target_of t.value) n k b) ∙ sym (ap (λ z. existing s (may_assign s (statement_of z))) i)

  pub assigned-Nonblocking : (t : Box Target Global) (e : Expression) → x ≡ Nonblocking t e → (u : Target) → u ≡ t.value → reached s false (target_of u) ≡ assigned_at s (statement_of x)
  unfolding assigned_at reached
  assigned-Nonblocking t e i u is = ap (λ z. reached s false (target_of z)) is ∙ (λ j n k b. is_bit_of (s n) k b && may_reach s (target_of t.value) n k b) ∙ sym (ap (λ z. existing s (may_assign s (statement_of z))) i)

  pub assigned-else : (v : Vec Arm Global) (l : Option (Box Statement Global)) (b : Box Statement Global) → x ≡ If v l → l ≡ Some b → (as_ : List Arm) → as_ ≡ v.items → (y : Statement) → y ≡ b.value
      → or_in (ladder_assigned s as_) (assigned_at s (statement_of y)) ≡ assigned_at s (statement_of x)
  unfolding assigned_at
  assigned-else v l b i j as_ g y h =
      ap (λ z. or_in (ladder_assigned s z) (existing s (may_assign s (statement_of y)))) g
      ∙ ap (λ z. or_in (ladder_assigned s v.items) (existing s (may_assign s (statement_of z)))) h
      ∙ ap (λ o. or_in (ladder_assigned s v.items) (existing s (may_assign s (or_empty (last_statement o))))) (sym j)
      ∙ sym (assigned-ladder s v.items (last_statement l)) ∙ sym (ap (λ z. existing s (may_assign s z)) (ap statement_of i ∙ statement_of-If v l))

  pub assigned-no_else : (v : Vec Arm Global) (l : Option (Box Statement Global)) → x ≡ If v l → l ≡ None → (as_ : List Arm) → as_ ≡ v.items
      → ladder_assigned s as_ ≡ assigned_at s (statement_of x)
  unfolding assigned_at
  assigned-no_else v l i j as_ g =
      ap (ladder_assigned s) g ∙ sym (or-none (ladder_assigned s v.items)) ∙ ap (or_in (ladder_assigned s v.items)) (sym (assigned-nothing s))
      ∙ ap (λ o. or_in (ladder_assigned s v.items) (existing s (may_assign s (or_empty (last_statement o))))) (sym j)
      ∙ sym (assigned-ladder s v.items (last_statement l)) ∙ sym (ap (λ z. existing s (may_assign s z)) (ap statement_of i ∙ statement_of-If v l))

  pub assigned-Case : (kind : CodeKind) (e : Expression) (v : Vec CaseItem Global) → x ≡ Case kind e v → (items : List CaseItem) → items ≡ v.items
      → bodies_assigned s items ≡ assigned_at s (statement_of x)
  unfolding assigned_at
  assigned-Case kind e v i items g =
      ap (bodies_assigned s) g ∙ sym (assigned-bodies s v.items) ∙ (λ t n k b. is_bit_of (s n) k b && may_assign_in_case s (item_list v.items) n k b)
      ∙ sym (ap (λ z. existing s (may_assign s z)) (ap statement_of i ∙ statement_of-Case kind e v))

  pub assigned-Block : (m : Option (Bor (List ℕ))) (v : Vec Statement Global) → x ≡ Block m v → (xs : List Statement) → xs ≡ v.items
      → all_assigned s xs ≡ assigned_at s (statement_of x)
  unfolding assigned_at
  assigned-Block m v i xs g =
      ap (all_assigned s) g ∙ sym (assigned-all s v.items) ∙ (λ t n k b. is_bit_of (s n) k b && may_assign_in_all s (statement_list v.items) n k b)
      ∙ sym (ap (λ z. existing s (may_assign s z)) (ap statement_of i ∙ statement_of-Block m v))

-- ---- narrow parts

narrow-before : (s : Scope) (c : pure.Expression) (x : pure.Statement) (o : Option pure.Statement) → IsNarrowFlow s (arm_before c x o)
    → IsNarrow s c × IsNarrowFlow s x × IsNarrowFlow s (or_empty o)
narrow-before s c x None h = (h.0, h.1, tt)
narrow-before s c x (Some y) h = (h.0, h.1, h.2)

narrow-ladder : (s : Scope) (arms : List Arm) (y : Option pure.Statement) → IsNarrowFlow s (or_empty (arm_list arms y)) → AreNarrowLadder s arms × IsNarrowFlow s (or_empty y)
narrow-ladder s [] y h = (tt, h)
narrow-ladder s (a ∷ arms) y h =
    let p = narrow-before s (tree_of a.condition) (statement_of a.statement) (arm_list arms y) h in
    let q = narrow-ladder s arms y p.2 in
    ((p.0, p.1, q.0), q.1)

narrow-all : (s : Scope) (xs : List Statement) → AreNarrowFlows s (statement_list xs) → AreNarrowAll s xs
narrow-all s [] h = tt
narrow-all s (x ∷ xs) h = (h.0, narrow-all s xs h.1)

narrow-items : (s : Scope) (items : List CaseItem) → AreNarrowArms s (item_list items) → AreNarrowItems s items
narrow-items s [] h = tt
narrow-items s (Values es x ∷ items) h = (h.0, h.1, narrow-items s items h.2)
narrow-items s (Default x ∷ items) h = (tt, h.0, narrow-items s items h.1)

module _ (s : Scope) (x : Statement) (h : IsNarrowFlow s (statement_of x)) where
  pub narrow-Blocking : (t : Box Target Global) (e : Expression) → x ≡ Blocking t e → (u : Target) → u ≡ t.value → HasNarrowParts s (target_of u) × IsNarrow s (tree_of e)
  narrow-Blocking t e i u is = subst (λ z. HasNarrowParts s (target_of z) × IsNarrow s (tree_of e)) (sym is) (subst (λ z. IsNarrowFlow s (statement_of z)) i h)

  pub narrow-Nonblocking : (t : Box Target Global) (e : Expression) → x ≡ Nonblocking t e → (u : Target) → u ≡ t.value → HasNarrowParts s (target_of u) × IsNarrow s (tree_of e)
  narrow-Nonblocking t e i u is = subst (λ z. HasNarrowParts s (target_of z) × IsNarrow s (tree_of e)) (sym is) (subst (λ z. IsNarrowFlow s (statement_of z)) i h)

  pub narrow-If : (v : Vec Arm Global) (l : Option (Box Statement Global)) → x ≡ If v l → (as_ : List Arm) → as_ ≡ v.items → AreNarrowLadder s as_
  narrow-If v l i as_ g = subst (AreNarrowLadder s) (sym g) (narrow-ladder s v.items (last_statement l) (subst (IsNarrowFlow s) (ap statement_of i ∙ statement_of-If v l) h)).0

  pub narrow-else : (v : Vec Arm Global) (l : Option (Box Statement Global)) (b : Box Statement Global) → x ≡ If v l → l ≡ Some b → (y : Statement) → y ≡ b.value → IsNarrowFlow s (statement_of y)
  narrow-else v l b i j y g =
      let p = (narrow-ladder s v.items (last_statement l) (subst (IsNarrowFlow s) (ap statement_of i ∙ statement_of-If v l) h)).1 in
      subst (λ z. IsNarrowFlow s (statement_of z)) (sym g) (subst (λ o. IsNarrowFlow s (or_empty (last_statement o))) j p)

  pub narrow-Case : (kind : CodeKind) (e : Expression) (v : Vec CaseItem Global) → x ≡ Case kind e v → IsNarrow s (tree_of e)
  narrow-Case kind e v i = (subst (IsNarrowFlow s) (ap statement_of i ∙ statement_of-Case kind e v) h).0

  pub narrow-Items : (kind : CodeKind) (e : Expression) (v : Vec CaseItem Global) → x ≡ Case kind e v → (items : List CaseItem) → items ≡ v.items → AreNarrowItems s items
  narrow-Items kind e v i items g =
      subst (AreNarrowItems s) (sym g) (narrow-items s v.items (subst (IsNarrowFlow s) (ap statement_of i ∙ statement_of-Case kind e v) h).1)

  pub narrow-Block : (m : Option (Bor (List ℕ))) (v : Vec Statement Global) → x ≡ Block m v → (xs : List Statement) → xs ≡ v.items → AreNarrowAll s xs
  narrow-Block m v i xs g = subst (AreNarrowAll s) (sym g) (narrow-all s v.items (subst (IsNarrowFlow s) (ap statement_of i ∙ statement_of-Block m v) h))

pub narrow-Values : (s : Scope) (i : CaseItem) (es : Vec Expression Global) (x : Statement) → i ≡ Values es x → IsNarrowLabel s i → (ys : List Expression) → ys ≡ es.items → AreNarrow s (expressions_of ys)
narrow-Values s i es x e h ys g = subst (λ l. AreNarrow s (expressions_of l)) (sym g) (subst (IsNarrowLabel s) e h)
