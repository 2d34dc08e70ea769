-- What holds of each name that stands in a tree.
use Rattle.std.proofs.Common.{◌≡◌, Option, Some, None, option_map, option_and_then, IfSome, subst, Bool, true, false, cond, ℕ, List, [], ◌∷◌, ◌++◌, refl, arith, Contains}
use Rattle.std.proofs.lemmas.List.Elements.{Contains-append_left, Contains-append_right}
use Rattle.wb_values.specs.Value.{Name, Valuation}
use Rattle.verilog_trees.specs.Syntax.{Expression, number, name, concatenation, replication, as_signed, as_unsigned, unary, reduction, binary, shift, power, comparison, logical, conditional, Expressions, no_expressions, expression, Select, index, part, part_up, part_down, Selects, whole, one, two, Target, place, joined, Targets, no_targets, target, CaseKind, Statement, empty, blocking, nonblocking, if_then, if_else, case, block, Statements, no_statements, statement, CaseItems, no_items, arm, default_arm}
use Rattle.verilog_meaning.specs.Expression.{Scope, is_memory, is_true}
use Rattle.verilog_meaning.specs.Statement.{Place, places, all_places, Update, Effect, unchanged, any_matches, run, run_all, run_case}
use Rattle.verilog_meaning.specs.Settled.{as_target, all_as_targets}
use Rattle.verilog_designs.specs.Names.{names_in, names_in_all, names_in_select, names_in_selects, names_in_target, names_in_targets, names_in_statement, names_in_statements, names_in_items, names_in_assignments}
use Rattle.verilog_renamed.specs.EachName.{EachIn, EachInAll, EachInSelect, EachInSelects, EachInTarget, EachInTargets, EachInStatement, EachInStatements, EachInItems, EachInAssignments, EachInBlocks, EachPlaced, EachUpdated}

-- ---- what follows for each name

module _ (P Q : Name → Type 0) (f : (n : Name) → P n → Q n) where
  mutual
    pub each_follows : (e : Expression) → EachIn P e → EachIn Q e
    each_follows (number k) a = tt
    each_follows (name n x) a = (f n a.0, selects_follow x a.1)
    each_follows (concatenation es) a = all_follow es a
    each_follows (replication k es) a = (each_follows k a.0, all_follow es a.1)
    each_follows (as_signed x) a = each_follows x a
    each_follows (as_unsigned x) a = each_follows x a
    each_follows (unary op x) a = each_follows x a
    each_follows (reduction op x) a = each_follows x a
    each_follows (binary op x y) a = (each_follows x a.0, each_follows y a.1)
    each_follows (shift op x n) a = (each_follows x a.0, each_follows n a.1)
    each_follows (power x n) a = (each_follows x a.0, each_follows n a.1)
    each_follows (comparison op x y) a = (each_follows x a.0, each_follows y a.1)
    each_follows (logical op x y) a = (each_follows x a.0, each_follows y a.1)
    each_follows (conditional c x y) a = (each_follows c a.0, each_follows x a.1, each_follows y a.2)

    all_follow : (es : Expressions) → EachInAll P es → EachInAll Q es
    all_follow no_expressions a = tt
    all_follow (expression e es) a = (each_follows e a.0, all_follow es a.1)

    select_follows : (x : Select) → EachInSelect P x → EachInSelect Q x
    select_follows (index i) a = each_follows i a
    select_follows (part h l) a = (each_follows h a.0, each_follows l a.1)
    select_follows (part_up b n) a = (each_follows b a.0, each_follows n a.1)
    select_follows (part_down b n) a = (each_follows b a.0, each_follows n a.1)

    selects_follow : (x : Selects) → EachInSelects P x → EachInSelects Q x
    selects_follow whole a = tt
    selects_follow (one x) a = select_follows x a
    selects_follow (two x y) a = (select_follows x a.0, select_follows y a.1)

  mutual
    pub target_follows : (x : Target) → EachInTarget P x → EachInTarget Q x
    target_follows (place n x) a = (f n a.0, selects_follow x a.1)
    target_follows (joined xs) a = targets_follow xs a

    targets_follow : (xs : Targets) → EachInTargets P xs → EachInTargets Q xs
    targets_follow no_targets a = tt
    targets_follow (target x xs) a = (target_follows x a.0, targets_follow xs a.1)

  mutual
    pub statement_follows : (x : Statement) → EachInStatement P x → EachInStatement Q x
    statement_follows empty a = tt
    statement_follows (blocking x e) a = (target_follows x a.0, each_follows e a.1)
    statement_follows (nonblocking x e) a = (target_follows x a.0, each_follows e a.1)
    statement_follows (if_then c x) a = (each_follows c a.0, statement_follows x a.1)
    statement_follows (if_else c x y) a = (each_follows c a.0, statement_follows x a.1, statement_follows y a.2)
    statement_follows (case kind e items) a = (each_follows e a.0, items_follow items a.1)
    statement_follows (block n xs) a = statements_follow xs a

    statements_follow : (xs : Statements) → EachInStatements P xs → EachInStatements Q xs
    statements_follow no_statements a = tt
    statements_follow (statement x xs) a = (statement_follows x a.0, statements_follow xs a.1)

    items_follow : (items : CaseItems) → EachInItems P items → EachInItems Q items
    items_follow no_items a = tt
    items_follow (arm es x items) a = (all_follow es a.0, statement_follows x a.1, items_follow items a.2)
    items_follow (default_arm x items) a = (statement_follows x a.0, items_follow items a.1)

-- ---- from lists of names

-- It holds of each name of the list.
abbrev EachOf : (Name → Type 0) → List Name → Type 0
EachOf P ns = (n : Name) → Contains ns n → P n

module _ (P : Name → Type 0) where
  first_part : (ms ns : List Name) → EachOf P (ms ++ ns) → EachOf P ms
  first_part ms ns h n c = h n (Contains-append_left ms ns n c)

  second_part : (ms ns : List Name) → EachOf P (ms ++ ns) → EachOf P ns
  second_part ms ns h n c = h n (Contains-append_right ms ns n c)

  of_first : (n : Name) (ns : List Name) → EachOf P (n ∷ ns) → P n
  of_first n ns h = h n (0, omega arith, refl)

  of_others : (n : Name) (ns : List Name) → EachOf P (n ∷ ns) → EachOf P ns
  of_others n ns h m c = h m (Contains-append_right (n ∷ []) ns m c)

  -- of two and of three lists after each other
  both : {A B : Type 0} (ms ns : List Name) → (EachOf P ms → A) → (EachOf P ns → B) → EachOf P (ms ++ ns) → A × B
  both ms ns f g h = (f (first_part ms ns h), g (second_part ms ns h))

  three : {A B C : Type 0} (ks ms ns : List Name) → (EachOf P ks → A) → (EachOf P ms → B) → (EachOf P ns → C) → EachOf P (ks ++ ms ++ ns)
      → A × B × C
  three ks ms ns f g k h = (
    f (first_part ks ms (first_part (ks ++ ms) ns h)),
    g (second_part ks ms (first_part (ks ++ ms) ns h)),
    k (second_part (ks ++ ms) ns h),
  )

  mutual
    pub each_listed : (e : Expression) → EachOf P (names_in e) → EachIn P e
    each_listed (number k) h = tt
    each_listed (name n x) h = (of_first n (names_in_selects x) h, selects_listed x (of_others n (names_in_selects x) h))
    each_listed (concatenation es) h = all_listed es h
    each_listed (replication k es) h = both (names_in k) (names_in_all es) (each_listed k) (all_listed es) h
    each_listed (as_signed x) h = each_listed x h
    each_listed (as_unsigned x) h = each_listed x h
    each_listed (unary op x) h = each_listed x h
    each_listed (reduction op x) h = each_listed x h
    each_listed (binary op x y) h = both (names_in x) (names_in y) (each_listed x) (each_listed y) h
    each_listed (shift op x n) h = both (names_in x) (names_in n) (each_listed x) (each_listed n) h
    each_listed (power x n) h = both (names_in x) (names_in n) (each_listed x) (each_listed n) h
    each_listed (comparison op x y) h = both (names_in x) (names_in y) (each_listed x) (each_listed y) h
    each_listed (logical op x y) h = both (names_in x) (names_in y) (each_listed x) (each_listed y) h
    each_listed (conditional c x y) h = three (names_in c) (names_in x) (names_in y) (each_listed c) (each_listed x) (each_listed y) h

    all_listed : (es : Expressions) → EachOf P (names_in_all es) → EachInAll P es
    all_listed no_expressions h = tt
    all_listed (expression e es) h = both (names_in e) (names_in_all es) (each_listed e) (all_listed es) h

    select_listed : (x : Select) → EachOf P (names_in_select x) → EachInSelect P x
    select_listed (index i) h = each_listed i h
    select_listed (part a b) h = both (names_in a) (names_in b) (each_listed a) (each_listed b) h
    select_listed (part_up a b) h = both (names_in a) (names_in b) (each_listed a) (each_listed b) h
    select_listed (part_down a b) h = both (names_in a) (names_in b) (each_listed a) (each_listed b) h

    selects_listed : (x : Selects) → EachOf P (names_in_selects x) → EachInSelects P x
    selects_listed whole h = tt
    selects_listed (one x) h = select_listed x h
    selects_listed (two x y) h = both (names_in_select x) (names_in_select y) (select_listed x) (select_listed y) h

  mutual
    pub target_listed : (x : Target) → EachOf P (names_in_target x) → EachInTarget P x
    target_listed (place n x) h = (of_first n (names_in_selects x) h, selects_listed x (of_others n (names_in_selects x) h))
    target_listed (joined xs) h = targets_listed xs h

    targets_listed : (xs : Targets) → EachOf P (names_in_targets xs) → EachInTargets P xs
    targets_listed no_targets h = tt
    targets_listed (target x xs) h = both (names_in_target x) (names_in_targets xs) (target_listed x) (targets_listed xs) h

  mutual
    pub statement_listed : (x : Statement) → EachOf P (names_in_statement x) → EachInStatement P x
    statement_listed empty h = tt
    statement_listed (blocking x e) h = both (names_in_target x) (names_in e) (target_listed x) (each_listed e) h
    statement_listed (nonblocking x e) h = both (names_in_target x) (names_in e) (target_listed x) (each_listed e) h
    statement_listed (if_then c x) h = both (names_in c) (names_in_statement x) (each_listed c) (statement_listed x) h
    statement_listed (if_else c x y) h =
        three (names_in c) (names_in_statement x) (names_in_statement y) (each_listed c) (statement_listed x) (statement_listed y) h
    statement_listed (case kind e items) h = both (names_in e) (names_in_items items) (each_listed e) (items_listed items) h
    statement_listed (block n xs) h = statements_listed xs h

    statements_listed : (xs : Statements) → EachOf P (names_in_statements xs) → EachInStatements P xs
    statements_listed no_statements h = tt
    statements_listed (statement x xs) h = both (names_in_statement x) (names_in_statements xs) (statement_listed x) (statements_listed xs) h

    items_listed : (items : CaseItems) → EachOf P (names_in_items items) → EachInItems P items
    items_listed no_items h = tt
    items_listed (arm es x items) h =
        three (names_in_all es) (names_in_statement x) (names_in_items items) (all_listed es) (statement_listed x) (items_listed items) h
    items_listed (default_arm x items) h = both (names_in_statement x) (names_in_items items) (statement_listed x) (items_listed items) h

  pub assignments_listed : (xs : List (Target × Expression)) → EachOf P (names_in_assignments xs) → EachInAssignments P xs
  assignments_listed [] h = tt
  assignments_listed (x ∷ xs) h =
      let front : EachOf P (names_in_target x.0 ++ names_in x.1) = first_part (names_in_target x.0 ++ names_in x.1) (names_in_assignments xs) h in (
        both (names_in_target x.0) (names_in x.1) (target_listed x.0) (each_listed x.1) front,
        assignments_listed xs (second_part (names_in_target x.0 ++ names_in x.1) (names_in_assignments xs) h),
      )

  pub blocks_listed : (xs : List Statement) → ((x : Statement) → Contains xs x → EachInStatement P x) → EachInBlocks P xs
  blocks_listed [] h = tt
  blocks_listed (x ∷ xs) h = (h x (0, omega arith, refl), blocks_listed xs (λ y c. h y (Contains-append_right (x ∷ []) xs y c)))

-- ---- expressions that are targets

module _ (P : Name → Type 0) where
  joined_named : (o : Option Targets) → IfSome o (EachInTargets P) → IfSome (option_map joined o) (EachInTarget P)
  joined_named None a = tt
  joined_named (Some xs) a = a

  first_named : (o : Option Target) (r : Option Targets) → IfSome o (EachInTarget P) → IfSome r (EachInTargets P)
      → IfSome (option_and_then (λ x. option_map (target x) r) o) (EachInTargets P)
  first_named None r a b = tt
  first_named (Some x) None a b = tt
  first_named (Some x) (Some xs) a b = (a, b)

  mutual
    target_if_any : (e : Expression) → EachIn P e → IfSome (as_target e) (EachInTarget P)
    target_if_any (number k) a = tt
    target_if_any (name n x) a = a
    target_if_any (concatenation es) a = joined_named (all_as_targets es) (targets_if_any es a)
    target_if_any (replication k es) a = tt
    target_if_any (as_signed x) a = tt
    target_if_any (as_unsigned x) a = tt
    target_if_any (unary op x) a = tt
    target_if_any (reduction op x) a = tt
    target_if_any (binary op x y) a = tt
    target_if_any (shift op x n) a = tt
    target_if_any (power x n) a = tt
    target_if_any (comparison op x y) a = tt
    target_if_any (logical op x y) a = tt
    target_if_any (conditional c x y) a = tt

    targets_if_any : (es : Expressions) → EachInAll P es → IfSome (all_as_targets es) (EachInTargets P)
    targets_if_any no_expressions a = tt
    targets_if_any (expression e es) a = first_named (as_target e) (all_as_targets es) (target_if_any e a.0) (targets_if_any es a.1)

  pub as_target_named : (e : Expression) (x : Target) → EachIn P e → as_target e ≡ Some x → EachInTarget P x
  as_target_named e x a h = subst (λ o. IfSome o (EachInTarget P)) h (target_if_any e a)

-- ---- places and updates

module _ (P : Name → Type 0) where
  placed_after : (ps qs : List Place) → EachPlaced P ps → EachPlaced P qs → EachPlaced P (ps ++ qs)
  placed_after [] qs a b = b
  placed_after (p ∷ ps) qs a b = (a.0, placed_after ps qs a.1 b)

  pub updated_after : (us ws : List Update) → EachUpdated P us → EachUpdated P ws → EachUpdated P (us ++ ws)
  updated_after [] ws a b = b
  updated_after (u ∷ us) ws a b = (a.0, updated_after us ws a.1 b)

  one_of_places : (b : Bool) (p q : Place) → P p.of_name → P q.of_name → P (cond b p q).of_name
  one_of_places true p q h k = h
  one_of_places false p q h k = k

  one_of_effects : (b : Bool) (x y : Effect) → EachUpdated P x.updates → EachUpdated P y.updates → EachUpdated P (cond b x y).updates
  one_of_effects true x y h k = h
  one_of_effects false x y h k = k

  mutual
    pub each_placed : (s : Scope) (v : Valuation) (x : Target) → EachInTarget P x → EachPlaced P (places s v x)
    each_placed s v (place n whole) a = (a.0, tt)
    each_placed s v (place n (one x)) a = (one_of_places (is_memory (s n)) _ _ a.0 a.0, tt)
    each_placed s v (place n (two x y)) a = (a.0, tt)
    each_placed s v (joined xs) a = all_placed s v xs a

    all_placed : (s : Scope) (v : Valuation) (xs : Targets) → EachInTargets P xs → EachPlaced P (all_places s v xs)
    all_placed s v no_targets a = tt
    all_placed s v (target x xs) a = placed_after (places s v x) (all_places s v xs) (each_placed s v x a.0) (all_placed s v xs a.1)

  mutual
    pub each_updated : (s : Scope) (v : Valuation) (x : Statement) → EachInStatement P x → EachUpdated P (run s x v).updates
    each_updated s v empty a = tt
    each_updated s v (blocking x e) a = tt
    each_updated s v (nonblocking x e) a = (each_placed s v x a.0, tt)
    each_updated s v (if_then c x) a = one_of_effects (is_true s v c) (run s x v) (unchanged v) (each_updated s v x a.1) tt
    each_updated s v (if_else c x y) a = one_of_effects (is_true s v c) (run s x v) (run s y v) (each_updated s v x a.1) (each_updated s v y a.2)
    each_updated s v (case kind e items) a = items_updated s v kind _ _ _ items (unchanged v) a.1 tt
    each_updated s v (block n xs) a = all_updated s v xs a

    all_updated : (s : Scope) (v : Valuation) (xs : Statements) → EachInStatements P xs → EachUpdated P (run_all s xs v).updates
    all_updated s v no_statements a = tt
    all_updated s v (statement x xs) a =
        updated_after (run s x v).updates (run_all s xs (run s x v).valuation).updates (each_updated s v x a.0)
        (all_updated s (run s x v).valuation xs a.1)

    items_updated : (s : Scope) (v : Valuation) (kind : CaseKind) (w : ℕ) (g : Bool) (y : ℕ) (items : CaseItems) (otherwise : Effect) → EachInItems P items
        → EachUpdated P otherwise.updates → EachUpdated P (run_case s v kind w g y items otherwise).updates
    items_updated s v kind w g y no_items otherwise a h = h
    items_updated s v kind w g y (arm es x items) otherwise a h =
        one_of_effects (any_matches s v kind w g y es) (run s x v) (run_case s v kind w g y items otherwise) (each_updated s v x a.1)
        (items_updated s v kind w g y items otherwise a.2 h)
    items_updated s v kind w g y (default_arm x items) otherwise a h =
        items_updated s v kind w g y items (run s x v) a.1 (each_updated s v x a.0)
