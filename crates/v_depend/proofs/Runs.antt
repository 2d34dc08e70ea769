-- Statements of blocks and their parts, as the code has them.
use Rattle.std.proofs.Common.{◌≡◌, ◌∙◌, ℕ, zero, suc, ◌-◌, refl, ap, sym, subst, Bool, true, false, cond, List, [], ◌∷◌, drop}
use Rattle.std.specs.Prelude.{◌&&◌, ◌||◌, ◌↔◌, Option, Some, None, IsTrue}
use Rattle.std.proofs.lemmas.Bool.{false≢true, and_from, false_from_ne_true, and_parts}
use Rattle.std.specs.declared.boxed.Box.{Box}
use Rattle.std.specs.declared.vec.Vec.{Vec}
use Rattle.std.specs.declared.alloc.Global.{Global}
use Rattle.std.specs.Borrow.{Bor}
use Rattle.wb_values.specs.Value.{Name}
use Rattle.verilog_trees.specs.Syntax as pure
use Rattle.verilog_trees.specs.Syntax.{Statement as PureStatement, empty, blocking, nonblocking, if_then, if_else, case, block, Statements, no_statements, statement, CaseItems, no_items, arm, default_arm}
use Rattle.verilog_meaning.specs.Expression.{Scope}
use Rattle.verilog_meaning.specs.Register.{is_bit_of, may_assign, may_assign_in_all, may_assign_in_case}
use Rattle.verilog_designs.specs.Reads.{BitSet, no_bits, or_in, reads, reads_in_all, items_read, is_full}
use Rattle.verilog_designs.specs.Dependence.{Bit, is_in, AfterAll}
use Rattle.v_syntax.specs.declared.tree.Expression.{Expression}
use Rattle.v_syntax.specs.declared.tree.Target.{Target}
use Rattle.v_syntax.specs.declared.tree.Arm.{Arm}
use Rattle.v_syntax.specs.declared.tree.CaseItem.{CaseItem, Values, Default}
use Rattle.v_syntax.specs.declared.tree.CaseKind.{CaseKind as CodeKind}
use Rattle.v_syntax.specs.declared.tree.Statement.{Statement, Empty, Blocking, Nonblocking, If, Case, Block}
use Rattle.v_syntax.specs.Tree.{tree_of, target_of, statement_of, expressions_of, arm_before, or_empty, case_kind_of, name_of_option}
use Rattle.v_statement.specs.Statements.{statement_list, arm_list}
use Rattle.v_statement.specs.Effects.{item_list}
use Rattle.v_statement.proofs.Runs.{last_statement, statement_of-If, statement_of-Case, statement_of-Block}
use Rattle.v_value.specs.Narrow.{IsNarrow}
use Rattle.v_flow.specs.Spans.{existing}
use Rattle.v_paths.specs.Premises.{HasNoMemory}
use Rattle.v_paths.specs.Cases.{full_at}
use Rattle.v_depend.specs.Resting.{IsThere, OneIsUnsettled, at_first, RestsAfter}
use Rattle.v_depend.specs.Running.{IsFit, AreFit, AreFitArms, AreFitItems, Tells, AddsArms, label_bits}
use Rattle.v_depend.proofs.Following.{as-before}
use Rattle.v_depend.proofs.Choices.{case-rests, full-stays, turn-carried}

-- ---- what labels read

pub label-Values : (s : Scope) (i : CaseItem) (es : Vec Expression Global) (x : Statement) → i ≡ Values es x → (ys : List Expression) → ys ≡ es.items
    → reads_in_all s (expressions_of ys) ≡ label_bits s i
label-Values s i es x e ys g = ap (λ zs. reads_in_all s (expressions_of zs)) g ∙ sym (ap (label_bits s) e)

pub label-Default : (s : Scope) (i : CaseItem) (x : Statement) → i ≡ Default x → no_bits ≡ label_bits s i
label-Default s i x e = sym (ap (label_bits s) e)

pub label-first : (s : Scope) (i : CaseItem) (items : List CaseItem) → items_read s (item_list (i ∷ items)) ≡ or_in (label_bits s i) (items_read s (item_list items))
label-first s (Values es x) items = refl
label-first s (Default x) items = λ i n k b. items_read s (item_list items) n k b

-- ---- fit parts

either : (c a b : Bool) → (c && (a || b)) ≡ false → ((c && a) ≡ false) × ((c && b) ≡ false)
either true true b h = (h, absurd (false≢true (sym h)))
either true false b h = (refl, h)
either false a b h = (refl, refl)

first-plain : (s : Scope) (p q r : BitSet) → ((n : Name) (k b : ℕ) → r n k b ≡ (p n k b || q n k b)) → HasNoMemory s (existing s r) → HasNoMemory s (existing s p)
first-plain s p q r e h n k b m = (either (is_bit_of (s n) k b) (p n k b) (q n k b) (ap (λ t. is_bit_of (s n) k b && t) (sym (e n k b)) ∙ h n k b m)).0

rest-plain : (s : Scope) (p q r : BitSet) → ((n : Name) (k b : ℕ) → r n k b ≡ (p n k b || q n k b)) → HasNoMemory s (existing s r) → HasNoMemory s (existing s q)
rest-plain s p q r e h n k b m = (either (is_bit_of (s n) k b) (p n k b) (q n k b) (ap (λ t. is_bit_of (s n) k b && t) (sym (e n k b)) ∙ h n k b m)).1

nothing-plain : (c : Bool) → (c && false) ≡ false
nothing-plain true = refl
nothing-plain false = refl

fit-before : (s : Scope) (c : pure.Expression) (x : PureStatement) (o : Option PureStatement) → IsFit s (arm_before c x o) → IsNarrow s c × IsFit s x × IsFit s (or_empty o)
fit-before s c x None f = (
  f.narrow.0,
  record { narrow = f.narrow.1; targets = f.targets; plain = f.plain },
  record { narrow = tt; targets = tt; plain = λ n k b m. nothing-plain (is_bit_of (s n) k b) },
)
fit-before s c x (Some y) f = (
  f.narrow.0,
  record { narrow = f.narrow.1; targets = f.targets.0; plain = first-plain s (may_assign s x) (may_assign s y) (may_assign s (if_else c x y)) (λ n k b. refl) f.plain },
  record { narrow = f.narrow.2; targets = f.targets.1; plain = rest-plain s (may_assign s x) (may_assign s y) (may_assign s (if_else c x y)) (λ n k b. refl) f.plain },
)

fit-ladder : (s : Scope) (arms : List Arm) (y : Option PureStatement) → IsFit s (or_empty (arm_list arms y)) → AreFitArms s arms × IsFit s (or_empty y)
fit-ladder s [] y f = (tt, f)
fit-ladder s (a ∷ arms) y f =
    let p = fit-before s (tree_of a.condition) (statement_of a.statement) (arm_list arms y) f in
    let r = fit-ladder s arms y p.2 in
    ((p.0, p.1, r.0), r.1)

fit-all : (s : Scope) (m : Option Name) (xs : List Statement) → IsFit s (block m (statement_list xs)) → AreFit s xs
fit-all s m [] f = tt
fit-all s m (x ∷ xs) f =
    let r = may_assign s (block m (statement_list (x ∷ xs))) in
    let p = may_assign s (statement_of x) in
    let q = may_assign_in_all s (statement_list xs) in (
      record { narrow = f.narrow.0; targets = f.targets.0; plain = first-plain s p q r (λ n k b. refl) f.plain },
      fit-all s m xs (record { narrow = f.narrow.1; targets = f.targets.1; plain = rest-plain s p q r (λ n k b. refl) f.plain }),
    )

fit-items : (s : Scope) (kind : pure.CaseKind) (e : pure.Expression) (items : List CaseItem) → IsFit s (case kind e (item_list items)) → AreFitItems s items
fit-items s kind e [] f = tt
fit-items s kind e (Values es x ∷ items) f =
    let r = may_assign_in_case s (item_list (Values es x ∷ items)) in
    let p = may_assign s (statement_of x) in
    let q = may_assign_in_case s (item_list items) in (
      record { narrow = f.narrow.1.1; targets = f.targets.0; plain = first-plain s p q r (λ n k b. refl) f.plain },
      fit-items s kind e items (record { narrow = (f.narrow.0, f.narrow.1.2); targets = f.targets.1; plain = rest-plain s p q r (λ n k b. refl) f.plain }),
    )
fit-items s kind e (Default x ∷ items) f =
    let r = may_assign_in_case s (item_list (Default x ∷ items)) in
    let p = may_assign s (statement_of x) in
    let q = may_assign_in_case s (item_list items) in (
      record { narrow = f.narrow.1.0; targets = f.targets.0; plain = first-plain s p q r (λ n k b. refl) f.plain },
      fit-items s kind e items (record { narrow = (f.narrow.0, f.narrow.1.1); targets = f.targets.1; plain = rest-plain s p q r (λ n k b. refl) f.plain }),
    )

-- ---- arms by their number

later : (s : Scope) (k : ℕ) (arms : List Arm) → AreFitArms s arms → AreFitArms s (drop k arms)
later s zero arms h = h
later s (suc k) [] h = h
later s (suc k) (a ∷ arms) h = later s k arms h.2

pub arm-fit : (s : Scope) (arms : List Arm) (i : ℕ) (r : Arm) → drop (i - 1) arms ≡ r ∷ drop i arms → AreFitArms s arms → IsNarrow s (tree_of r.condition) × IsFit s (statement_of r.statement)
arm-fit s arms i r e h = let p = subst (AreFitArms s) e (later s (i - 1) arms h) in (p.0, p.1)

-- ---- no memory

pub still-variables : (w v : BitSet) (s : Scope) (x : PureStatement) → IsFit s x → HasNoMemory s (existing s w)
    → ((u : Bit) → IsThere s u → IsTrue (is_in v u) ↔ RestsAfter w s x u) → HasNoMemory s (existing s v)
still-variables w v s x fit free h n k b m =
    false_from_ne_true (existing s v n k b) (λ t.
    let p = and_parts (is_bit_of (s n) k b) (v n k b) t in
    let u : Bit = record { of_name = n; word = k; place = b } in
    let not-assigned : may_assign s x n k b ≡ false =
    false_from_ne_true (may_assign s x n k b) (λ g. false≢true (sym (fit.plain n k b m) ∙ and_from (is_bit_of (s n) k b) (may_assign s x n k b) p.0 g)) in
    let before = as-before s (at_first w) x u u not-assigned ((h u p.0).0 p.1) in
    false≢true (sym (free n k b m) ∙ and_from (is_bit_of (s n) k b) (w n k b) p.0 before))

pub same-variables : (w v : BitSet) (s : Scope) → v ≡ w → HasNoMemory s (existing s w) → HasNoMemory s (existing s v)
same-variables w v s e h = subst (λ (p : BitSet). HasNoMemory s (existing s p)) (sym e) h

-- ---- forms

abbrev pub Rests : BitSet → BitSet → Scope → PureStatement → Type 0
Rests w v s x = (u : Bit) → IsThere s u → IsTrue (is_in v u) ↔ RestsAfter w s x u

pub as-copied : (w copy v : BitSet) (s : Scope) (x : PureStatement) → copy ≡ w → Rests copy v s x → Rests w v s x
as-copied w copy v s x e h = subst (λ (p : BitSet). Rests p v s x) e h

module _ (w v : BitSet) (s : Scope) (x : Statement) where
  as-tree : (y : PureStatement) → statement_of x ≡ y → Rests w v s y → Rests w v s (statement_of x)
  as-tree y e h = subst (Rests w v s) (sym e) h

  pub rests-Blocking : (t : Box Target Global) (e : Expression) → x ≡ Blocking t e → (u : Target) → u ≡ t.value → Rests w v s (blocking (target_of u) (tree_of e)) → Rests w v s (statement_of x)
  rests-Blocking t e i u is h = as-tree (blocking (target_of t.value) (tree_of e)) (ap statement_of i) (subst (λ z. Rests w v s (blocking (target_of z) (tree_of e))) is h)

  pub rests-If : (arms : Vec Arm Global) (l : Option (Box Statement Global)) → x ≡ If arms l → Rests w v s (or_empty (arm_list arms.items (last_statement l))) → Rests w v s (statement_of x)
  rests-If arms l i h = as-tree (or_empty (arm_list arms.items (last_statement l))) (ap statement_of i ∙ statement_of-If arms l) h

  pub rests-Block : (m : Option (Bor (List ℕ))) (xs : Vec Statement Global) → x ≡ Block m xs → (ys : List Statement) → ys ≡ xs.items
      → ((u : Bit) → IsThere s u → IsTrue (is_in v u) ↔ AfterAll s (at_first w) (statement_list ys) u u) → Rests w v s (statement_of x)
  rests-Block m xs i ys j h =
      as-tree (block (name_of_option m) (statement_list xs.items)) (ap statement_of i ∙ statement_of-Block m xs)
      (subst (λ zs. (u : Bit) → IsThere s u → IsTrue (is_in v u) ↔ AfterAll s (at_first w) (statement_list zs) u u) j h)

  pub rests-Case : (kind : CodeKind) (e : Expression) (items : Vec CaseItem Global) → x ≡ Case kind e items → (is js ks : List CaseItem) → is ≡ items.items → js ≡ items.items → ks ≡ items.items
      → (full c : Bool) (none left assigned added : BitSet) → full ≡ full_at s (case_kind_of kind) (tree_of e) (item_list is) → left ≡ cond full no_bits w → none ≡ no_bits
      → AddsArms w s (item_list ks) none left assigned added → IsTrue c ↔ OneIsUnsettled w (or_in (reads s (tree_of e)) (items_read s (item_list js)))
      → v ≡ or_in added (cond c assigned no_bits) → Rests w v s (statement_of x)
  unfolding full_at
  rests-Case kind e items i is js ks p q r full c none left assigned added f l n a h g =
      let all = item_list items.items in
      as-tree (case (case_kind_of kind) (tree_of e) all) (ap statement_of i ∙ statement_of-Case kind e items)
      (λ u t. case-rests w s (case_kind_of kind) (tree_of e) all full c none left assigned added v
      (f ∙ ap (λ zs. is_full s (case_kind_of kind) (tree_of e) (item_list zs)) p) l n (subst (λ zs. AddsArms w s (item_list zs) none left assigned added) r a)
      (subst (λ zs. IsTrue c ↔ OneIsUnsettled w (or_in (reads s (tree_of e)) (items_read s (item_list zs)))) q h) g
      (full-stays w s (case_kind_of kind) (tree_of e) all) u t)

module _ (w : BitSet) (s : Scope) (x : Statement) where
  pub rests-Empty : x ≡ Empty → Rests w w s (statement_of x)
  rests-Empty i = as-tree w w s x empty (ap statement_of i) (λ u t. ((λ h. h), (λ h. h)))

  pub rests-Nonblocking : (t : Box Target Global) (e : Expression) → x ≡ Nonblocking t e → Rests w w s (statement_of x)
  rests-Nonblocking t e i = as-tree w w s x (nonblocking (target_of t.value) (tree_of e)) (ap statement_of i) (λ u t. ((λ h. h), (λ h. h)))

module _ (s : Scope) (x : Statement) (f : IsFit s (statement_of x)) where
  pub fit-Blocking : (t : Box Target Global) (e : Expression) → x ≡ Blocking t e → (u : Target) → u ≡ t.value → IsFit s (blocking (target_of u) (tree_of e))
  fit-Blocking t e i u is = subst (λ z. IsFit s (blocking (target_of z) (tree_of e))) (sym is) (subst (IsFit s) (ap statement_of i) f)

  pub fit-If : (arms : Vec Arm Global) (l : Option (Box Statement Global)) → x ≡ If arms l → (as_ : List Arm) → as_ ≡ arms.items → AreFitArms s as_
  fit-If arms l i as_ j = subst (AreFitArms s) (sym j) (fit-ladder s arms.items (last_statement l) (subst (IsFit s) (ap statement_of i ∙ statement_of-If arms l) f)).0

  pub fit-else : (arms : Vec Arm Global) (l : Option (Box Statement Global)) (b : Box Statement Global) → x ≡ If arms l → l ≡ Some b → (y : Statement) → y ≡ b.value → IsFit s (statement_of y)
  fit-else arms l b i k y j =
      subst (λ z. IsFit s (statement_of z)) (sym j)
      (subst (λ o. IsFit s (or_empty (last_statement o))) k (fit-ladder s arms.items (last_statement l) (subst (IsFit s) (ap statement_of i ∙ statement_of-If arms l) f)).1)

  pub fit-Case : (kind : CodeKind) (e : Expression) (items : Vec CaseItem Global) → x ≡ Case kind e items → (is : List CaseItem) → is ≡ items.items → AreFitItems s is
  fit-Case kind e items i is j =
      subst (AreFitItems s) (sym j) (fit-items s (case_kind_of kind) (tree_of e) items.items (subst (IsFit s) (ap statement_of i ∙ statement_of-Case kind e items) f))

  pub fit-Block : (m : Option (Bor (List ℕ))) (v : Vec Statement Global) → x ≡ Block m v → (xs : List Statement) → xs ≡ v.items → AreFit s xs
  fit-Block m v i xs j = subst (AreFit s) (sym j) (fit-all s (name_of_option m) v.items (subst (IsFit s) (ap statement_of i ∙ statement_of-Block m v) f))

-- what stands behind the last else
pub as-last : (w v : BitSet) (s : Scope) (arms : Vec Arm Global) (l : Option (Box Statement Global)) (o : Option PureStatement) → last_statement l ≡ o → (ys : List Arm) → ys ≡ arms.items
    → Rests w v s (or_empty (arm_list ys o)) → Rests w v s (or_empty (arm_list arms.items (last_statement l)))
as-last w v s arms l o i ys j h =
    subst (λ q. Rests w v s (or_empty (arm_list arms.items q))) (sym i) (subst (λ zs. Rests w v s (or_empty (arm_list zs o))) j h)

pub last-some : (l : Option (Box Statement Global)) (b : Box Statement Global) → l ≡ Some b → (y : Statement) → y ≡ b.value → last_statement l ≡ Some (statement_of y)
last-some l b i y j = ap last_statement i ∙ ap (λ z. Some (statement_of z)) (sym j)

pub last-none : (l : Option (Box Statement Global)) → l ≡ None → last_statement l ≡ None
last-none l i = ap last_statement i

-- ---- turns

pub onward : (w v n : BitSet) (s : Scope) (all left : List Statement) (r : Statement) (rest : List Statement) (u : Bit) → IsThere s u → left ≡ r ∷ rest
    → AfterAll s (at_first w) (statement_list all) u u ↔ AfterAll s (at_first v) (statement_list left) u u → Rests v n s (statement_of r)
    → AfterAll s (at_first w) (statement_list all) u u ↔ AfterAll s (at_first n) (statement_list rest) u u
onward w v n s all left r rest u t e h k =
    let f = subst (λ xs. AfterAll s (at_first w) (statement_list all) u u ↔ AfterAll s (at_first v) (statement_list xs) u u) e h in
    let g = turn-carried v n s (statement_of r) (statement_list rest) u t k in
    ((λ x. g.0 (f.0 x)), (λ x. f.1 (g.1 x)))

pub turns-ended : (w v : BitSet) (s : Scope) (all left : List Statement) (u : Bit) → left ≡ []
    → AfterAll s (at_first w) (statement_list all) u u ↔ AfterAll s (at_first v) (statement_list left) u u
    → IsTrue (is_in v u) ↔ AfterAll s (at_first w) (statement_list all) u u
turns-ended w v s all left u e h =
    let f = subst (λ xs. AfterAll s (at_first w) (statement_list all) u u ↔ AfterAll s (at_first v) (statement_list xs) u u) e h in (f.1, f.0)

pub arms-turn : (w : BitSet) (s : Scope) (arms : List Arm) (i : ℕ) (r : Arm) → drop (i - 1) arms ≡ r ∷ drop i arms → (y : Option PureStatement) (assigned left : BitSet)
    → Tells w s (arm_before (tree_of r.condition) (statement_of r.statement) (arm_list (drop i arms) y)) assigned left
    → Tells w s (or_empty (arm_list (drop (i - 1) arms) y)) assigned left
arms-turn w s arms i r e y assigned left h = subst (λ xs. Tells w s (or_empty (arm_list xs y)) assigned left) (sym e) h

pub arms-ended : (w : BitSet) (s : Scope) (arms : List Arm) (i : ℕ) (y : Option PureStatement) (assigned left : BitSet) → i ≡ 0
    → Tells w s (or_empty (arm_list (drop i arms) y)) assigned left → Tells w s (or_empty (arm_list arms y)) assigned left
arms-ended w s arms i y assigned left e h = subst (λ k. Tells w s (or_empty (arm_list (drop k arms) y)) assigned left) e h

pub items-at : (w : BitSet) (s : Scope) (all : CaseItems) (left next : List CaseItem) → left ≡ next → (a l b m : BitSet)
    → ((d o : BitSet) → AddsArms w s (item_list left) b m d o → AddsArms w s all a l d o)
    → (d o : BitSet) → AddsArms w s (item_list next) b m d o → AddsArms w s all a l d o
items-at w s all left next e a l b m h d o k = h d o (subst (λ xs. AddsArms w s (item_list xs) b m d o) (sym e) k)
