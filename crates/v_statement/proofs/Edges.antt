-- Updates of clocked blocks, one item after the other, and that their places fit.
use Rattle.std.proofs.Common.{◌≡◌, ◌∙◌, ◌+◌, ℕ, refl, ap, sym, Bool, true, false, cond, List, [], ◌∷◌, ◌++◌, append_assoc, drop}
use Rattle.wb_values.specs.Value as pure_value
use Rattle.wb_values.specs.Value.{Name, Valuation}
use Rattle.v_value.specs.declared.scope.Entry.{Entry}
use Rattle.v_value.specs.declared.scope.Value.{Value}
use Rattle.v_value.specs.Scope.{values_of, value_of_entry}
use Rattle.verilog_trees.specs.Syntax as pure
use Rattle.verilog_trees.specs.Syntax.{CaseKind, empty, blocking, nonblocking, if_then, if_else, case, block, no_statements, statement, no_items, arm, default_arm, Item, port, parameter, wires, variables, assign, always, instances}
use Rattle.verilog_meaning.specs.Expression.{Scope, is_true}
use Rattle.verilog_meaning.specs.Statement.{Effect, Update, unchanged, run, run_all, run_case, any_matches, places}
use Rattle.verilog_meaning.specs.Register.{is_clocked, clocked_blocks, updates_of_blocks}
use Rattle.v_statement.specs.Statements.{IsNarrowStatement, AreNarrowStatements, AreNarrowItems}
use Rattle.v_statement.specs.Registers.{AreNarrowBlocks, AreNarrowUpdates}
use Rattle.v_statement.proofs.Targets.{target-fits}

pub updates-append : (us vs : List Update) → AreNarrowUpdates us → AreNarrowUpdates vs → AreNarrowUpdates (us ++ vs)
updates-append [] vs h k = k
updates-append (u ∷ us) vs h k = (h.0, updates-append us vs h.1 k)

either_narrow : (b : Bool) (e f : Effect) → AreNarrowUpdates e.updates → AreNarrowUpdates f.updates → AreNarrowUpdates (cond b e f).updates
either_narrow true e f h k = h
either_narrow false e f h k = k

mutual
  pub run-narrow : (s : Scope) (x : pure.Statement) (v : Valuation) → IsNarrowStatement s x → AreNarrowUpdates (run s x v).updates
  run-narrow s empty v h = tt
  run-narrow s (blocking t e) v h = tt
  run-narrow s (nonblocking t e) v h = (target-fits s v t (places s v t) refl h.0.1, tt)
  run-narrow s (if_then c x) v h = either_narrow (is_true s v c) (run s x v) (unchanged v) (run-narrow s x v h.1) tt
  run-narrow s (if_else c x y) v h = either_narrow (is_true s v c) (run s x v) (run s y v) (run-narrow s x v h.1) (run-narrow s y v h.2)
  run-narrow s (case kind e items) v h = run_case-narrow s v kind _ _ _ items (unchanged v) h.1 tt
  run-narrow s (block n xs) v h = run_all-narrow s xs v h

  pub run_all-narrow : (s : Scope) (xs : pure.Statements) (v : Valuation) → AreNarrowStatements s xs → AreNarrowUpdates (run_all s xs v).updates
  run_all-narrow s no_statements v h = tt
  run_all-narrow s (statement x xs) v h =
      updates-append (run s x v).updates (run_all s xs (run s x v).valuation).updates (run-narrow s x v h.0) (run_all-narrow s xs (run s x v).valuation h.1)

  pub run_case-narrow : (s : Scope) (v : Valuation) (kind : CaseKind) (w : ℕ) (signed : Bool) (x : ℕ) (items : pure.CaseItems) (otherwise : Effect)
      → AreNarrowItems s items → AreNarrowUpdates otherwise.updates → AreNarrowUpdates (run_case s v kind w signed x items otherwise).updates
  run_case-narrow s v kind w signed x no_items otherwise h k = k
  run_case-narrow s v kind w signed x (arm es y items) otherwise h k =
      either_narrow (any_matches s v kind w signed x es) (run s y v) (run_case s v kind w signed x items otherwise)
      (run-narrow s y v h.1) (run_case-narrow s v kind w signed x items otherwise h.2 k)
  run_case-narrow s v kind w signed x (default_arm y items) otherwise h k =
      run_case-narrow s v kind w signed x items (run s y v) h.1 (run-narrow s y v h.0)

pub blocks-narrow : (s : Scope) (v : Valuation) (xs : List pure.Statement) → AreNarrowBlocks s xs → AreNarrowUpdates (updates_of_blocks s v xs)
blocks-narrow s v [] h = tt
blocks-narrow s v (x ∷ xs) h = updates-append (run s x v).updates (updates_of_blocks s v xs) (run-narrow s x v h.0) (blocks-narrow s v xs h.1)

-- the blocks of one item, and of the rest
clocked-cond : (b : Bool) (x : pure.Statement) (xs : List pure.Statement) → cond b (x ∷ xs) xs ≡ cond b (x ∷ []) [] ++ xs
clocked-cond true x xs = refl
clocked-cond false x xs = refl

pub clocked-more : (i : Item) (items : List Item) → clocked_blocks (i ∷ items) ≡ clocked_blocks (i ∷ []) ++ clocked_blocks items
clocked-more (always es x) items = clocked-cond (is_clocked es) x (clocked_blocks items)
clocked-more _ items = refl

pub updates-more : (s : Scope) (v : Valuation) (xs ys : List pure.Statement) → updates_of_blocks s v (xs ++ ys) ≡ updates_of_blocks s v xs ++ updates_of_blocks s v ys
updates-more s v [] ys = refl
updates-more s v (x ∷ xs) ys =
    ap (λ us. (run s x v).updates ++ us) (updates-more s v xs ys) ∙ sym (append_assoc (run s x v).updates (updates_of_blocks s v xs) (updates_of_blocks s v ys))

pub narrow-first : (s : Scope) (xs ys : List pure.Statement) → AreNarrowBlocks s (xs ++ ys) → AreNarrowBlocks s xs × AreNarrowBlocks s ys
narrow-first s [] ys h = (tt, h)
narrow-first s (x ∷ xs) ys h = let p = narrow-first s xs ys h.1 in ((h.0, p.0), p.1)

-- one more item
pub item-turn : (s : Scope) (v : Valuation) (us ws : List Update) (i : Item) (items : List Item)
    → ws ≡ us ++ updates_of_blocks s v (clocked_blocks (i ∷ []))
    → us ++ updates_of_blocks s v (clocked_blocks (i ∷ items)) ≡ ws ++ updates_of_blocks s v (clocked_blocks items)
item-turn s v us ws i items h =
    ap (λ xs. us ++ updates_of_blocks s v xs) (clocked-more i items)
    ∙ ap (λ vs. us ++ vs) (updates-more s v (clocked_blocks (i ∷ [])) (clocked_blocks items))
    ∙ sym (append_assoc us (updates_of_blocks s v (clocked_blocks (i ∷ []))) (updates_of_blocks s v (clocked_blocks items)))
    ∙ ap (λ vs. vs ++ updates_of_blocks s v (clocked_blocks items)) (sym h)

values-push : (es : List Entry) (e : Entry) → values_of (es ++ e ∷ []) ≡ values_of es ++ (e.name.now, value_of_entry e.value) ∷ []
values-push [] e = refl
values-push (x ∷ es) e = ap (λ ws. (x.name.now, value_of_entry x.value) ∷ ws) (values-push es e)

-- one more entry copied
pub copy-turn : (vs es new : List Entry) (i : ℕ) (r : Entry) (x : Value) → drop i vs ≡ r ∷ drop (i + 1) vs → value_of_entry x ≡ value_of_entry r.value
    → new ≡ es ++ record { name = r.name; value = x } ∷ []
    → values_of es ++ values_of (drop i vs) ≡ values_of new ++ values_of (drop (i + 1) vs)
copy-turn vs es new i r x rest value is =
    let rs = values_of (drop (i + 1) vs) in
    let pair : pure_value.Value → Name × pure_value.Value = λ y. (r.name.now, y) in
    ap (λ ws. values_of es ++ values_of ws) rest
    ∙ ap (λ y. values_of es ++ pair y ∷ rs) (sym value)
    ∙ sym (ap (λ ws. values_of ws ++ rs) is ∙ ap (λ ws. ws ++ rs) (values-push es (record { name = r.name; value = x })) ∙ append_assoc (values_of es) (pair (value_of_entry x) ∷ []) rs)
