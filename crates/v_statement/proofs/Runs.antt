-- Runs of statements over the lists of their parts, and that the values still fit after them.
use Rattle.std.proofs.Common.{◌≡◌, ◌∙◌, refl, ap, sym, subst, Bool, true, false, cond, List, [], ◌∷◌, ◌++◌, append_assoc, append-nil, Option, Some, None, is_some, ℕ, suc, ◌+◌, ◌<◌, length, drop, get_or, arith}
use Rattle.std.proofs.Math.Seq.{drop-cons}
use Rattle.std.specs.declared.boxed.Box.{Box}
use Rattle.std.specs.declared.vec.Vec.{Vec}
use Rattle.std.specs.declared.alloc.Global.{Global}
use Rattle.std.specs.Borrow.{Bor}
use Rattle.wb_values.specs.Value.{Valuation}
use Rattle.verilog_trees.specs.Syntax as pure
use Rattle.verilog_trees.specs.Syntax.{CaseKind, empty, blocking, nonblocking, if_then, if_else, case, block, no_statements, statement, no_items, arm, default_arm}
use Rattle.verilog_meaning.specs.Expression.{Scope, is_true}
use Rattle.verilog_meaning.specs.Statement.{Effect, Update, unchanged, after_updates, run, run_all, run_case, any_matches, places}
use Rattle.v_syntax.specs.declared.tree.Statement.{Statement, If, Case, Block, Row_of-Arm, end_of-Arm, more_of-Arm, items-the_row-Arm, items_hidden-the_row-Arm-0, Row_of-CaseItem, end_of-CaseItem, more_of-CaseItem, items-the_row-CaseItem, items_hidden-the_row-CaseItem-1, Row_of-Statement, end_of-Statement, more_of-Statement, items-the_row-Statement, items_hidden-the_row-Statement-2}
use Rattle.v_syntax.specs.declared.tree.CaseItem.TheBlock.{hidden-the_row-Arm-0, hidden-the_row-CaseItem-1, hidden-the_row-Statement-2}
use Rattle.v_syntax.specs.declared.tree.Arm.{Arm}
use Rattle.v_syntax.specs.declared.tree.CaseItem.{CaseItem, Values, Default}
use Rattle.v_syntax.specs.declared.tree.CaseKind.{CaseKind as CodeKind}
use Rattle.v_syntax.specs.declared.tree.Expression.{Expression}
use Rattle.v_syntax.specs.Tree.{tree_of, statement_of, arms_before, statements_of, items_of, arm_before, or_empty, name_of_option, case_kind_of, expressions_of}
use Rattle.v_value.specs.Narrow.{IsNarrow, HasFittingValues}
use Rattle.v_statement.specs.Statements.{IsNarrowStatement, statement_list, arm_list}
use Rattle.v_statement.specs.declared.place.Update.{Update as CodeUpdate}
use Rattle.v_value.specs.declared.scope.Values.{Values as CodeValues}
use Rattle.v_statement.specs.Places.{update_of, updates_of}
use Rattle.v_statement.specs.Effects.{effect_at, first_true, run_if_any, AreNarrowArms, item_list}
use Rattle.v_statement.proofs.Written.{written_fits}
use mathlib.Core.Former as Former

arms-row : (n : Former.Count) (k : Row_of-Arm n) (y : Option pure.Statement) → arms_before k y ≡ arm_list (items-the_row-Arm n k) y
arms-row n end_of-Arm y = refl
arms-row n (more_of-Arm c x k) y = ap (λ o. Some (arm_before (tree_of c) (statement_of x) o)) (arms-row _ k y)

statements-row : (n : Former.Count) (k : Row_of-Statement n) → statements_of k ≡ statement_list (items-the_row-Statement n k)
statements-row n end_of-Statement = refl
statements-row n (more_of-Statement x k) = ap (statement (statement_of x)) (statements-row _ k)

items-row : (n : Former.Count) (k : Row_of-CaseItem n) → items_of k ≡ item_list (items-the_row-CaseItem n k)
items-row n end_of-CaseItem = refl
items-row n (more_of-CaseItem (Values es x) k) = ap (arm (expressions_of es.items) (statement_of x)) (items-row _ k)
items-row n (more_of-CaseItem (Default x) k) = ap (default_arm (statement_of x)) (items-row _ k)

-- what stands behind the last else
abbrev pub last_statement : Option (Box Statement Global) → Option pure.Statement
last_statement None = None
last_statement (Some b) = Some (statement_of b.value)

pub statement_of-If : (v : Vec Arm Global) (o : Option (Box Statement Global)) → statement_of (If v o) ≡ or_empty (arm_list v.items (last_statement o))
statement_of-If v None = ap or_empty (arms-row _ (hidden-the_row-Arm-0 v) None ∙ ap (λ as_. arm_list as_ None) (items_hidden-the_row-Arm-0 v))
statement_of-If v (Some b) =
    ap or_empty (arms-row _ (hidden-the_row-Arm-0 v) (Some (statement_of b.value)) ∙ ap (λ as_. arm_list as_ (Some (statement_of b.value))) (items_hidden-the_row-Arm-0 v))

pub statement_of-Case : (k : CodeKind) (e : Expression) (v : Vec CaseItem Global) → statement_of (Case k e v) ≡ case (case_kind_of k) (tree_of e) (item_list v.items)
statement_of-Case k e v = ap (case (case_kind_of k) (tree_of e)) (items-row _ (hidden-the_row-CaseItem-1 v) ∙ ap item_list (items_hidden-the_row-CaseItem-1 v))

pub statement_of-Block : (n : Option (Bor (List ℕ))) (v : Vec Statement Global) → statement_of (Block n v) ≡ block (name_of_option n) (statement_list v.items)
statement_of-Block n v = ap (block (name_of_option n)) (statements-row _ (hidden-the_row-Statement-2 v) ∙ ap statement_list (items_hidden-the_row-Statement-2 v))

-- ladders of arms
run-arm_before : (s : Scope) (v : Valuation) (c : pure.Expression) (x : pure.Statement) (o : Option pure.Statement)
    → run s (arm_before c x o) v ≡ cond (is_true s v c) (run s x v) (run s (or_empty o) v)
run-arm_before s v c x None = refl
run-arm_before s v c x (Some y) = refl

-- the run of the arm that was chosen, or of what stands behind the last else
abbrev pub run_or_else : Scope → Valuation → Option pure.Statement → Option pure.Statement → Effect
run_or_else s v None y = run s (or_empty y) v
run_or_else s v (Some x) y = run s x v

or_else-cond : (s : Scope) (v : Valuation) (b : Bool) (x : pure.Statement) (o y : Option pure.Statement)
    → cond b (run s x v) (run_or_else s v o y) ≡ run_or_else s v (cond b (Some x) o) y
or_else-cond s v true x o y = refl
or_else-cond s v false x o y = refl

pub run-ladder : (s : Scope) (v : Valuation) (arms : List Arm) (y : Option pure.Statement)
    → run s (or_empty (arm_list arms y)) v ≡ run_or_else s v (first_true s v arms) y
run-ladder s v [] y = refl
run-ladder s v (a ∷ arms) y =
    let c = tree_of a.condition in
    let x = statement_of a.statement in
    run-arm_before s v c x (arm_list arms y)
    ∙ ap (cond (is_true s v c) (run s x v)) (run-ladder s v arms y)
    ∙ or_else-cond s v (is_true s v c) x (first_true s v arms) y

narrow-before : (s : Scope) (c : pure.Expression) (x : pure.Statement) (o : Option pure.Statement) → IsNarrowStatement s (arm_before c x o)
    → IsNarrow s c × IsNarrowStatement s x × IsNarrowStatement s (or_empty o)
narrow-before s c x None h = (h.0, h.1, tt)
narrow-before s c x (Some y) h = (h.0, h.1, h.2)

pub narrow-ladder : (s : Scope) (arms : List Arm) (y : Option pure.Statement) → IsNarrowStatement s (or_empty (arm_list arms y))
    → AreNarrowArms s arms × IsNarrowStatement s (or_empty y)
narrow-ladder s [] y h = (tt, h)
narrow-ladder s (a ∷ arms) y h =
    let p = narrow-before s (tree_of a.condition) (statement_of a.statement) (arm_list arms y) h in
    let q = narrow-ladder s arms y p.2 in
    ((p.0, p.1, q.0), q.1)

-- updates that wait before an effect
pub after_updates-unchanged : (us : List Update) (v : Valuation) → after_updates us (unchanged v) ≡ record { valuation = v; updates = us }
after_updates-unchanged us v =
    let make : List Update → Effect = λ ws. record { valuation = v; updates = ws } in
    ap make (append-nil us)

-- one more statement
pub run-more : (s : Scope) (us : List Update) (v : Valuation) (x : pure.Statement) (xs : pure.Statements) (e : Effect)
    → e ≡ after_updates us (run s x v) → after_updates us (run_all s (statement x xs) v) ≡ after_updates e.updates (run_all s xs e.valuation)
run-more s us v x xs e h =
    let r = run s x v in
    let rest = run_all s xs r.valuation in
    let make : List Update → Effect = λ ws. record { valuation = rest.valuation; updates = ws } in
    sym (ap make (append_assoc us r.updates rest.updates)) ∙ ap (λ (f : Effect). after_updates f.updates (run_all s xs f.valuation)) (sym h)

-- values still fit
either_fits : (s : Scope) (b : Bool) (e f : Effect) → HasFittingValues s e.valuation → HasFittingValues s f.valuation → HasFittingValues s (cond b e f).valuation
either_fits s true e f h k = h
either_fits s false e f h k = k

mutual
  pub run_fits : (s : Scope) (x : pure.Statement) (v : Valuation) → HasFittingValues s v → HasFittingValues s (run s x v).valuation
  run_fits s empty v h = h
  run_fits s (blocking t e) v h = written_fits s v (places s v t) _ h
  run_fits s (nonblocking t e) v h = h
  run_fits s (if_then c x) v h = either_fits s (is_true s v c) (run s x v) (unchanged v) (run_fits s x v h) h
  run_fits s (if_else c x y) v h = either_fits s (is_true s v c) (run s x v) (run s y v) (run_fits s x v h) (run_fits s y v h)
  run_fits s (case kind e items) v h = run_case_fits s v kind _ _ _ items (unchanged v) h h
  run_fits s (block n xs) v h = run_all_fits s xs v h

  pub run_all_fits : (s : Scope) (xs : pure.Statements) (v : Valuation) → HasFittingValues s v → HasFittingValues s (run_all s xs v).valuation
  run_all_fits s no_statements v h = h
  run_all_fits s (statement x xs) v h = run_all_fits s xs (run s x v).valuation (run_fits s x v h)

  pub run_case_fits : (s : Scope) (v : Valuation) (kind : CaseKind) (w : ℕ) (signed : Bool) (x : ℕ) (items : pure.CaseItems) (otherwise : Effect)
      → HasFittingValues s v → HasFittingValues s otherwise.valuation → HasFittingValues s (run_case s v kind w signed x items otherwise).valuation
  run_case_fits s v kind w signed x no_items otherwise h k = k
  run_case_fits s v kind w signed x (arm es y items) otherwise h k =
      either_fits s (any_matches s v kind w signed x es) (run s y v) (run_case s v kind w signed x items otherwise)
      (run_fits s y v h) (run_case_fits s v kind w signed x items otherwise h k)
  run_case_fits s v kind w signed x (default_arm y items) otherwise h k = run_case_fits s v kind w signed x items (run s y v) h (run_fits s y v h)

-- what an if leaves, by whether an arm was run
is_run : (s : Scope) (v : Valuation) (o y : Option pure.Statement) → is_some o ≡ true → run_if_any s o v ≡ run_or_else s v o y
is_run s v None y h = cc h
is_run s v (Some x) y h = refl

is_not_run : (s : Scope) (v : Valuation) (o : Option pure.Statement) → is_some o ≡ false → run_if_any s o v ≡ unchanged v
is_not_run s v None h = refl
is_not_run s v (Some x) h = cc h

is_else : (s : Scope) (v : Valuation) (o y : Option pure.Statement) → is_some o ≡ false → run_or_else s v o y ≡ run s (or_empty y) v
is_else s v None y h = refl
is_else s v (Some x) y h = cc h

module _ (s : Scope) (v : Valuation) (us : List Update) (x : Statement) (arms : Vec Arm Global) (last : Option (Box Statement Global)) (is : x ≡ If arms last) where
  abbrev ladder : Effect
  ladder = run s (or_empty (arm_list arms.items (last_statement last))) v

  whole : run s (statement_of x) v ≡ ladder
  whole = ap (λ t. run s t v) (ap statement_of is ∙ statement_of-If arms last)

  pub narrow-If : IsNarrowStatement s (statement_of x) → AreNarrowArms s arms.items × IsNarrowStatement s (or_empty (last_statement last))
  narrow-If h = narrow-ladder s arms.items (last_statement last) (subst (IsNarrowStatement s) (ap statement_of is ∙ statement_of-If arms last) h)

  -- an arm was run
  pub if-run : (items : List Arm) → items ≡ arms.items → (e : Effect) (b : Bool) → b ≡ is_some (first_true s v items) → b ≡ true
      → e ≡ after_updates us (run_if_any s (first_true s v items) v) → e ≡ after_updates us (run s (statement_of x) v)
  if-run items same e b found ran h =
      let ft = first_true s v arms.items in
      let g : b ≡ is_some ft = found ∙ ap (λ as_. is_some (first_true s v as_)) same in
      h ∙ ap (λ as_. after_updates us (run_if_any s (first_true s v as_) v)) same
      ∙ ap (after_updates us) (is_run s v ft (last_statement last) (sym g ∙ ran) ∙ sym (run-ladder s v arms.items (last_statement last)) ∙ sym whole)

  -- none was
  pub if-not_run : (items : List Arm) → items ≡ arms.items → (e : Effect) (b : Bool) → b ≡ is_some (first_true s v items) → b ≡ false
      → e ≡ after_updates us (run_if_any s (first_true s v items) v) → e ≡ record { valuation = v; updates = us }
  if-not_run items same e b found ran h =
      let g : is_some (first_true s v items) ≡ false = sym found ∙ ran in
      h ∙ ap (after_updates us) (is_not_run s v (first_true s v items) g) ∙ after_updates-unchanged us v

  pub if-else : (items : List Arm) → items ≡ arms.items → (b : Bool) → b ≡ is_some (first_true s v items) → b ≡ false
      → run s (statement_of x) v ≡ run s (or_empty (last_statement last)) v
  if-else items same b found ran =
      let ft = first_true s v arms.items in
      let g : b ≡ is_some ft = found ∙ ap (λ as_. is_some (first_true s v as_)) same in
      whole ∙ run-ladder s v arms.items (last_statement last) ∙ is_else s v ft (last_statement last) (sym g ∙ ran)

pub after_updates-same : (s : Scope) (e f : Effect) (x : pure.Statement) → e ≡ f → after_updates e.updates (run s x e.valuation) ≡ after_updates f.updates (run s x f.valuation)
after_updates-same s e f x h = ap (λ (k : Effect). after_updates k.updates (run s x k.valuation)) h

abbrev pub or_else_empty : Option (Box Statement Global) → pure.Statement
or_else_empty o = or_empty (last_statement o)

-- the rest of a list from an element on
pub rest_is : {A : Type 0} (xs : List A) (i : ℕ) (r : A) → i < length xs → r ≡ get_or xs i r → drop i xs ≡ r ∷ drop (i + 1) xs
rest_is xs i r h is =
    let e : suc i ≡ i + 1 = omega arith in
    drop-cons xs i r h ∙ ap (λ a. a ∷ drop (suc i) xs) (sym is) ∙ ap (λ k. r ∷ drop k xs) e

pub valuation_is : (e : Effect) (v : Valuation) (us : List Update) → e ≡ record { valuation = v; updates = us } → e.valuation ≡ v
valuation_is e v us h = ap (λ (k : Effect). k.valuation) h

pub turn-fits : (s : Scope) (us : List Update) (x : pure.Statement) (v : Valuation) (e : Effect) → e ≡ after_updates us (run s x v)
    → HasFittingValues s v → HasFittingValues s e.valuation
turn-fits s us x v e h fits = subst (HasFittingValues s) (sym (ap (λ (k : Effect). k.valuation) h)) (run_fits s x v fits)

-- a run on copies, whose updates are then put behind those that wait
updates-append : (us vs : List CodeUpdate) → updates_of (us ++ vs) ≡ updates_of us ++ updates_of vs
updates-append [] vs = refl
updates-append (u ∷ us) vs = ap (λ ws. update_of u ∷ ws) (updates-append us vs)

pub run-appended : (values : CodeValues) (old added new : List CodeUpdate) (e : Effect) → effect_at values added ≡ e → new ≡ old ++ added
    → effect_at values new ≡ after_updates (updates_of old) e
run-appended values old added new e h is =
    let updates = ap updates_of is ∙ updates-append old added ∙ ap (λ (f : Effect). updates_of old ++ f.updates) h in
    λ i. record { valuation = (h i).valuation; updates = updates i }
