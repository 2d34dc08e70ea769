-- What a module of an accepted design names is known, and fits in a settled valuation.
use Rattle.std.proofs.Common.{◌≡◌, ℕ, ◌+◌, ◌-◌, ◌^◌, ◌<◌, Bool, true, false, cond, List, [], ◌∷◌, ◌++◌, inl, inr, refl, subst, Option, Some, None, arith}
use Rattle.std.specs.Prelude.{IsTrue, is_none, unwrap_or}
use Rattle.wb_values.specs.Value.{Name, as_number, Valuation}
use Rattle.wb_values.specs.Number.{top_bit}
use Rattle.verilog_trees.specs.Syntax.{Expression, number, name, concatenation, replication, as_signed, as_unsigned, unary, reduction, binary, shift, power, comparison, logical, conditional, Expressions, no_expressions, expression, Select, index, part, part_up, part_down, Selects, whole, one, two, Target, place, joined, Targets, no_targets, target, Statement, empty, blocking, nonblocking, if_then, if_else, case, block, Statements, no_statements, statement, CaseItems, no_items, arm, default_arm, Source}
use Rattle.verilog_meaning.specs.Expression.{object_width, whole_value, widened}
use Rattle.verilog_meaning.specs.Hierarchy.{PathStep, Placed, placed_scope, module_named}
use Rattle.verilog_meaning.specs.Settled.{Design, at_path, IsPlacedIn, inside, IsValueOf, IsSettled}
use Rattle.verilog_designs.specs.Names.{names_in, names_in_all, names_in_select, names_in_selects, names_in_target, names_in_targets, names_in_statement, names_in_statements, names_in_items, all_item_mentions}
use Rattle.verilog_designs.specs.Accepted.{HasUndeclared}
use Rattle.verilog_settled.specs.Locality.{Fits, AllFit, LeavesAre, AllLeavesAre, SelectIs, SelectsAre, IndexesAre, AllIndexesAre, StatementIs, StatementsAre, ItemsAre}
use Rattle.wb_laws.specs.Settled.{SourceHasFittingNumbers, SettledValueFitsItsWidth}
use Rattle.wb_laws.specs.Settled as laws
use Rattle.verilog_unique.specs.Unique.{AnyName, NumbersFitIn, NumbersFit}
use Rattle.verilog_unique.proofs.Descent.{IsAmong, among_left, among_right}
use Rattle.verilog_unique.proofs.Paths.{StepsTo, step_of, top_from}
use Rattle.verilog_unique.proofs.Standing.{IsKnownIn, mentioned_known, module_of_instance}
use Rattle.verilog_unique.proofs.Mentioned.{AreUsed, in_module}
use Rattle.verilog_unique.proofs.Parameters.{placed_constants, net_is_declared}

-- ---- fitting numbers and known names make fitting leaves

abbrev pub Known : (Name → Type 0) → List Name → Type 0
Known K ns = (n : Name) → IsAmong ns n → K n

left : (K : Name → Type 0) (ns ms : List Name) → Known K (ns ++ ms) → Known K ns
left K ns ms f n h = f n (among_left ns ms n h)

right : (K : Name → Type 0) (ns ms : List Name) → Known K (ns ++ ms) → Known K ms
right K ns ms f n h = f n (among_right ns ms n h)

mutual
  pub leaves : (K : Name → Type 0) (e : Expression) → Known K (names_in e) → LeavesAre AnyName e → LeavesAre K e
  leaves K (number k) f h = h
  leaves K (name n x) f h = (f n (inl refl), selects K x (right K (n ∷ []) (names_in_selects x) f) h.1)
  leaves K (concatenation es) f h = all_leaves K es f h
  leaves K (replication k es) f h = all_leaves K es (right K (names_in k) (names_in_all es) f) h
  leaves K (as_signed x) f h = leaves K x f h
  leaves K (as_unsigned x) f h = leaves K x f h
  leaves K (unary op x) f h = leaves K x f h
  leaves K (reduction op x) f h = leaves K x f h
  leaves K (binary op x y) f h = (leaves K x (left K (names_in x) (names_in y) f) h.0, leaves K y (right K (names_in x) (names_in y) f) h.1)
  leaves K (shift op x n) f h = (leaves K x (left K (names_in x) (names_in n) f) h.0, leaves K n (right K (names_in x) (names_in n) f) h.1)
  leaves K (power x n) f h = (leaves K x (left K (names_in x) (names_in n) f) h.0, leaves K n (right K (names_in x) (names_in n) f) h.1)
  leaves K (comparison op x y) f h = (leaves K x (left K (names_in x) (names_in y) f) h.0, leaves K y (right K (names_in x) (names_in y) f) h.1)
  leaves K (logical op x y) f h = (leaves K x (left K (names_in x) (names_in y) f) h.0, leaves K y (right K (names_in x) (names_in y) f) h.1)
  leaves K (conditional c x y) f h =
      let g = left K (names_in c ++ names_in x) (names_in y) f in (
        leaves K c (left K (names_in c) (names_in x) g) h.0,
        leaves K x (right K (names_in c) (names_in x) g) h.1,
        leaves K y (right K (names_in c ++ names_in x) (names_in y) f) h.2,
      )

  all_leaves : (K : Name → Type 0) (es : Expressions) → Known K (names_in_all es) → AllLeavesAre AnyName es → AllLeavesAre K es
  all_leaves K no_expressions f h = h
  all_leaves K (expression e es) f h =
      (leaves K e (left K (names_in e) (names_in_all es) f) h.0, all_leaves K es (right K (names_in e) (names_in_all es) f) h.1)

  select : (K : Name → Type 0) (x : Select) → Known K (names_in_select x) → SelectIs AnyName x → SelectIs K x
  select K (index i) f h = leaves K i f h
  select K (part u l) f h = h
  select K (part_up b n) f h = leaves K b (left K (names_in b) (names_in n) f) h
  select K (part_down b n) f h = leaves K b (left K (names_in b) (names_in n) f) h

  selects : (K : Name → Type 0) (x : Selects) → Known K (names_in_selects x) → SelectsAre AnyName x → SelectsAre K x
  selects K whole f h = h
  selects K (one x) f h = select K x f h
  selects K (two x y) f h =
      (select K x (left K (names_in_select x) (names_in_select y) f) h.0, select K y (right K (names_in_select x) (names_in_select y) f) h.1)

mutual
  indexes : (K : Name → Type 0) (t : Target) → Known K (names_in_target t) → IndexesAre AnyName t → IndexesAre K t
  indexes K (place n x) f h = selects K x (right K (n ∷ []) (names_in_selects x) f) h
  indexes K (joined ts) f h = all_indexes K ts f h

  all_indexes : (K : Name → Type 0) (ts : Targets) → Known K (names_in_targets ts) → AllIndexesAre AnyName ts → AllIndexesAre K ts
  all_indexes K no_targets f h = h
  all_indexes K (target t ts) f h =
      (indexes K t (left K (names_in_target t) (names_in_targets ts) f) h.0, all_indexes K ts (right K (names_in_target t) (names_in_targets ts) f) h.1)

mutual
  pub statements : (K : Name → Type 0) (x : Statement) → Known K (names_in_statement x) → StatementIs AnyName x → StatementIs K x
  statements K empty f h = h
  statements K (blocking t e) f h =
      (indexes K t (left K (names_in_target t) (names_in e) f) h.0, leaves K e (right K (names_in_target t) (names_in e) f) h.1)
  statements K (nonblocking t e) f h =
      (indexes K t (left K (names_in_target t) (names_in e) f) h.0, leaves K e (right K (names_in_target t) (names_in e) f) h.1)
  statements K (if_then c x) f h =
      (leaves K c (left K (names_in c) (names_in_statement x) f) h.0, statements K x (right K (names_in c) (names_in_statement x) f) h.1)
  statements K (if_else c x y) f h =
      let g = left K (names_in c ++ names_in_statement x) (names_in_statement y) f in (
        leaves K c (left K (names_in c) (names_in_statement x) g) h.0,
        statements K x (right K (names_in c) (names_in_statement x) g) h.1,
        statements K y (right K (names_in c ++ names_in_statement x) (names_in_statement y) f) h.2,
      )
  statements K (case kind e items) f h =
      (leaves K e (left K (names_in e) (names_in_items items) f) h.0, arms K items (right K (names_in e) (names_in_items items) f) h.1)
  statements K (block n xs) f h = all_statements K xs f h

  all_statements : (K : Name → Type 0) (xs : Statements) → Known K (names_in_statements xs) → StatementsAre AnyName xs → StatementsAre K xs
  all_statements K no_statements f h = h
  all_statements K (statement x xs) f h = (
    statements K x (left K (names_in_statement x) (names_in_statements xs) f) h.0,
    all_statements K xs (right K (names_in_statement x) (names_in_statements xs) f) h.1,
  )

  arms : (K : Name → Type 0) (items : CaseItems) → Known K (names_in_items items) → ItemsAre AnyName items → ItemsAre K items
  arms K no_items f h = h
  arms K (arm es x items) f h =
      let g = left K (names_in_all es ++ names_in_statement x) (names_in_items items) f in (
        all_leaves K es (left K (names_in_all es) (names_in_statement x) g) h.0,
        statements K x (right K (names_in_all es) (names_in_statement x) g) h.1,
        arms K items (right K (names_in_all es ++ names_in_statement x) (names_in_items items) f) h.2,
      )
  arms K (default_arm x items) f h =
      (statements K x (left K (names_in_statement x) (names_in_items items) f) h.0, arms K items (right K (names_in_statement x) (names_in_items items) f) h.1)

-- ---- parameters and values fit

pub module_name_of : (d : Design) (path : List PathStep) (p : Placed) → at_path d path ≡ Some p → (n : Name) × (module_named d.source n ≡ Some p.of_module)
module_name_of d [] p e =
    let f = top_from d p e in
    (d.top, subst (λ (q : Placed). module_named d.source d.top ≡ Some q.of_module) f.2 f.1)
module_name_of d (u ∷ around) p e =
    let s : StepsTo d u around p = step_of d u around p e in
    (s.instance.of_module, module_of_instance d.source (u ∷ s.outer.path) (placed_scope s.outer) s.instance p s.is_placed)

pub numbers_in : (d : Design) (p : Placed) → NumbersFit d.source → IsPlacedIn d p → NumbersFitIn p.of_module
numbers_in d p fit at = let f = module_name_of d p.path p at in fit f.0 p.of_module f.1

parameters_fit : (source : Source) → NumbersFit source → SourceHasFittingNumbers source
parameters_fit source fit n m e = (fit n m e).parameters

-- a parameter's number in a context of its own width is itself, or more
at_least : (signed : Bool) (w x : ℕ) → widened signed w w x < 2 ^ w → x < 2 ^ w
at_least true w x l = filled (top_bit w x) l
  where
    filled : (b : Bool) → x + cond b (2 ^ w - 2 ^ w) 0 < 2 ^ w → x < 2 ^ w
    filled true m = omega (arith, m)
    filled false m = omega (arith, m)
at_least false w x l = l

entry_or_declared : (d : Design) (p : Placed) (n : Name) → IsPlacedIn d p → IsKnownIn p.of_module n → laws.IsKnown p n
entry_or_declared d p n at (inl h) = inr h
entry_or_declared d p n at (inr h) = inl ((placed_constants d p.path p at).all n h)

pub known_fit : SettledValueFitsItsWidth → (d : Design) (registers inputs v : Valuation) (p : Placed) → NumbersFit d.source → IsSettled d registers inputs v → IsPlacedIn d p
    → AllFit (placed_scope p) (IsKnownIn p.of_module) (inside v p)
known_fit law d registers inputs v p fit settled at n known =
    either (placed_scope p n).constant
    (λ net. (settled.modules p at).fits n (net_is_declared d p.path p at n known net))
    (at_least (placed_scope p n).signed (object_width (placed_scope p n)) (whole_value (placed_scope p n) (inside v p n))
    (law d registers inputs v p (name n whole) (parameters_fit d.source fit) settled at (entry_or_declared d p n at known)))
  where
    either : (x : Option ℕ) → (IsTrue (is_none x) → IsValueOf (placed_scope p n) (inside v p n))
        → unwrap_or x (as_number (inside v p n)) < 2 ^ object_width (placed_scope p n) → Fits x (placed_scope p n) (inside v p n)
    either None f l = f refl
    either (Some c) f l = l

-- ---- in a module of an accepted design

pub names_known : (d : Design) → ¬ HasUndeclared d → (p : Placed) (ns : List Name) → IsPlacedIn d p → AreUsed (all_item_mentions p.of_module.items) ns
    → Known (IsKnownIn p.of_module) ns
names_known d good p ns at f n h = mentioned_known d good p.path p at n (in_module p.of_module ns f n h)
