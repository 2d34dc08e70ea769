-- The four rules on ports, one after the other.
use Rattle.std.proofs.Common.{◌≡◌, ◌∙◌, refl, ap, sym, Bool, true, false, not, ◌||◌, List, [], ◌∷◌, Option, Some, None}
use Rattle.std.specs.Prelude.{is_none, is_some, Result, Ok, Err, IfOk}
use Rattle.std.specs.List.{list_any}
use Rattle.wb_values.specs.Value.{Name, entry_of}
use Rattle.verilog_trees.specs.Syntax.{Direction, Module}
use Rattle.verilog_meaning.specs.Expression.{Scope}
use Rattle.verilog_meaning.specs.Hierarchy.{declarations}
use Rattle.verilog_meaning.specs.Settled.{port_directions, port_order, names_of}
use Rattle.verilog_designs.specs.Ports.{lacks_direction, lacks_port, has_reg_input, has_unequal_ranges}
use Rattle.verilog_designs.specs.Names.{is_among}
use Rattle.v_scopes.specs.declared.table.ModuleScope.{ModuleScope}
use Rattle.v_scopes.specs.Rows.{rows, rows_of, row_named}
use Rattle.v_scopes.specs.Scopes.{declared_in}
use Rattle.v_ports.specs.Ports.{IsScopeIn, direction_in, is_reg_input_row, some_port_is}
use Rattle.v_ports.specs.Ranges.{differs_after}
use Rattle.v_ports.proofs.Directions.{direction_named, some_port, reg_named}
use Rattle.v_ports.proofs.Differing.{ranges_differ}

-- a test of each element that is another one
pub any_same : {A : Type 0} (f g : A → Bool) → ((x : A) → f x ≡ g x) → (xs : List A) → list_any f xs ≡ list_any g xs
any_same f g h [] = refl
any_same f g h (x ∷ xs) = ap (λ b. b || list_any f xs) (h x) ∙ ap (λ b. g x || b) (any_same f g h xs)

not_some : (o : Option Direction) → not (is_some o) ≡ is_none o
not_some None = refl
not_some (Some w) = refl

pub direction_rule : (s : Scope) (m : Module) → list_any (λ n. not (is_some (direction_in (row_named (rows s (declarations m)) n)))) (port_order m) ≡ lacks_direction m
direction_rule s m =
    any_same _ _ (λ n. ap (λ o. not (is_some o)) (direction_named s n m) ∙ not_some (entry_of (port_directions m) n)) (port_order m)

pub port_rule : (s : Scope) (m : Module) (has : Name → Bool) → ((q : Name) → has q ≡ is_among (port_order m) q)
    → some_port_is (λ n. not (has n)) (rows s (declarations m)) ≡ lacks_port m
port_rule s m has h =
    some_port s (λ n. not (has n)) m ∙ any_same _ _ (λ n. ap not (h n)) (names_of (port_directions m))

pub reg_rule : (s : Scope) (m : Module) → list_any (λ n. is_reg_input_row (row_named (rows s (declarations m)) n)) (port_order m) ≡ has_reg_input m
reg_rule s m = any_same _ _ (λ n. reg_named s (declarations m) n) (port_order m)

pub range_rule : (s : Scope) (m : Module) → some_port_is (differs_after None (rows s (declarations m))) (rows s (declarations m)) ≡ has_unequal_ranges s m
range_rule s m =
    some_port s (differs_after None (rows s (declarations m))) m
    ∙ any_same _ _ (λ n. sym (ranges_differ s None (declarations m) n)) (names_of (port_directions m))

-- the first rule that is broken decides
pub first_bad : (a b c d : Bool) → a ≡ true → true ≡ ((a || b) || (c || d))
first_bad a b c d e = sym (ap (λ x. (x || b) || (c || d)) e)

pub second_bad : (a b c d : Bool) → a ≡ false → b ≡ true → true ≡ ((a || b) || (c || d))
second_bad a b c d e f = sym (ap (λ x. (x || b) || (c || d)) e ∙ ap (λ x. x || (c || d)) f)

pub third_bad : (a b c d : Bool) → a ≡ false → b ≡ false → c ≡ true → true ≡ ((a || b) || (c || d))
third_bad a b c d e f g = sym (ap (λ x. (x || b) || (c || d)) e ∙ ap (λ x. x || (c || d)) f ∙ ap (λ x. x || d) g)

pub last_bad : (a b c d : Bool) → a ≡ false → b ≡ false → c ≡ false → d ≡ ((a || b) || (c || d))
last_bad a b c d e f g = sym (ap (λ x. (x || b) || (c || d)) e ∙ ap (λ x. x || (c || d)) f ∙ ap (λ x. x || d) g)

-- ---- the same over a module's table of names

pub no_direction : (s : Scope) (names : ModuleScope) (m : Module) (order : List Name) → IsScopeIn s names m → order ≡ port_order m
    → list_any (λ n. not (is_some (direction_in (declared_in names n)))) order ≡ lacks_direction m
no_direction s names m order h e =
    ap (λ o. list_any (λ n. not (is_some (direction_in (row_named (rows_of names.declared.items) n)))) o) e
    ∙ ap (λ rs. list_any (λ n. not (is_some (direction_in (row_named rs n)))) (port_order m)) h
    ∙ direction_rule s m

pub no_port : (s : Scope) (names : ModuleScope) (m : Module) (order : List Name) (has : Name → Bool) → IsScopeIn s names m → order ≡ port_order m
    → ((q : Name) → has q ≡ is_among order q) → some_port_is (λ n. not (has n)) (rows_of names.declared.items) ≡ lacks_port m
no_port s names m order has h e f =
    ap (λ rs. some_port_is (λ n. not (has n)) rs) h ∙ port_rule s m has (λ q. f q ∙ ap (λ ns. is_among ns q) e)

pub reg_input : (s : Scope) (names : ModuleScope) (m : Module) (order : List Name) → IsScopeIn s names m → order ≡ port_order m
    → list_any (λ n. is_reg_input_row (declared_in names n)) order ≡ has_reg_input m
reg_input s names m order h e =
    ap (λ o. list_any (λ n. is_reg_input_row (row_named (rows_of names.declared.items) n)) o) e
    ∙ ap (λ rs. list_any (λ n. is_reg_input_row (row_named rs n)) (port_order m)) h
    ∙ reg_rule s m

pub unequal : (s : Scope) (names : ModuleScope) (m : Module) → IsScopeIn s names m
    → some_port_is (differs_after None (rows_of names.declared.items)) (rows_of names.declared.items) ≡ has_unequal_ranges s m
unequal s names m h = ap (λ rs. some_port_is (differs_after None rs) rs) h ∙ range_rule s m

pub if_ok_then : {A E : Type 0} (r : Result A E) (P Q : A → Type 0) → ((a : A) → P a → Q a) → IfOk r P → IfOk r Q
if_ok_then (Ok a) P Q f h = f a h
if_ok_then (Err e) P Q f h = h
