-- Which constants of a module have values: the bounds of a range, a parameter, and with them the range of a name. A constant has
-- none where a rule on expressions is broken in it, where it is a bound outside 0 to 65,535, where it is a parameter of more than 128
-- bits, or where it rests on one that has none.
use Rattle.std.specs.Prelude.{ℕ, ◌+◌, Bool, true, false, cond, ◌&&◌, nat_le, List, [], ◌∷◌, ◌++◌, Option, Some, None, option_map, option_and_then, unwrap_or, ℤ, pos, negsuc}
use Rattle.wb_values.specs.Value.{Name, Entries, entry_of}
use Rattle.wb_values.specs.Choice.{first_of, some_if}
use Rattle.verilog_trees.specs.Syntax.{Expression, Range, ParameterDeclaration, Connections, Module, Source}
use Rattle.verilog_meaning.specs.Expression.{Object, Scope, undeclared, object_or_undeclared, scope_of, distance, width_of, sign_of}
use Rattle.verilog_meaning.specs.Hierarchy.{parameter_object, overridden_object, all_parameters, Declaration, declarations, declaration_of, PathStep, Placed, module_named, Instance, instance_reached, connected, overridable}
use Rattle.verilog_rules.specs.Expression.{is_unbroken, Position, constant, broken, has_width, wider, as_constant, constant_number, is_at_most_128}

-- the value of a bound of a range: from 0 to 65,535
abbrev pub as_bound : Option ℤ → Option ℕ
as_bound (Some (pos n)) = some_if (nat_le n 65535) n
as_bound (Some (negsuc n)) = None
as_bound None = None

abbrev pub known_bound : Scope → Expression → Option ℕ
known_bound s e = as_bound (constant_number s e)

abbrev pub both_bounds : Option ℕ → Option ℕ → Option (ℕ × ℕ)
both_bounds (Some l) (Some r) = Some (l, r)
both_bounds _ _ = None

abbrev pub known_range : Scope → Range → Option (ℕ × ℕ)
known_range s r = both_bounds (known_bound s r.left) (known_bound s r.right)

abbrev pub with_range : Bool → ℕ × ℕ → Object
with_range signed b = record undeclared { is_declared = true; signed = signed; has_range = true; left = b.0; right = b.1 }

-- a name of this sign and range, where the range has a value
abbrev pub known_object : Scope → Bool → Option Range → Option Object
known_object s signed None = Some (record undeclared { is_declared = true; signed = signed })
known_object s signed (Some r) = option_map (with_range signed) (known_range s r)

-- how many bits a declared range has
abbrev pub known_range_width : Scope → Range → Option ℕ
known_range_width s r = option_map (λ b. distance b.0 b.1 + 1) (known_range s r)

-- The place of a parameter's value: a constant, in the context of the range that is declared, if one is.
abbrev pub value_position : Scope → Option Range → Expression → Position
value_position s None e = as_constant s (has_width s e) e
value_position s (Some r) e = constant (wider (known_range_width s r) (some_if (has_width s e) (width_of s e))) (sign_of s e)

-- No range is declared, or it has a value of at most 128 bits.
abbrev pub range_is_known : Scope → Option Range → Bool
range_is_known s None = true
range_is_known s (Some r) = is_at_most_128 (known_range_width s r)

-- a parameter of this value, where it has one
abbrev pub known_parameter : Scope → Bool → Option Range → Expression → Option Object
known_parameter s signed r e =
    some_if (is_unbroken (broken s (value_position s r e) e) && range_is_known s r) (parameter_object s signed r e)

-- a parameter that is overridden by this value, where that has one
abbrev pub known_override : Scope → Bool → Option Range → Option Object → Option Object
known_override s signed r given = option_and_then (λ o. some_if (range_is_known s r) (overridden_object s signed r o)) given

-- What overrides a parameter, if anything does: a value, or an expression that has none.
abbrev pub KnownOverrides : Type 0
KnownOverrides = Name → Option (Option Object)

abbrev pub one_known_parameter : Scope → ParameterDeclaration → Expression → Option (Option Object) → Option Object
one_known_parameter s d e None = known_parameter s d.signed d.range e
one_known_parameter s d e (Some given) = known_override s d.signed d.range given

abbrev pub known_entry : Name → Option Object → Entries Object
known_entry n None = []
known_entry n (Some o) = (n, o) ∷ []

-- the parameters of a declaration that have values, after those that are known already
abbrev pub with_known_values : ParameterDeclaration → KnownOverrides → List (Name × Expression) → Entries Object → Entries Object
with_known_values d given [] known = known
with_known_values d given (v ∷ vs) known =
    with_known_values d given vs
    (known ++ known_entry v.0 (one_known_parameter (scope_of known) d v.1 (cond d.is_local None (given v.0))))

abbrev pub with_known_parameters : List ParameterDeclaration → KnownOverrides → Entries Object → Entries Object
with_known_parameters [] given known = known
with_known_parameters (d ∷ ds) given known = with_known_parameters ds given (with_known_values d given d.values known)

abbrev pub known_constants : Module → KnownOverrides → Entries Object
known_constants m given = with_known_parameters (all_parameters m) given []

-- a memory, also where only its addresses have no value: then those of one word
abbrev pub with_known_addresses : Scope → Option Range → Object → Object
with_known_addresses s None o = o
with_known_addresses s (Some r) o = record o { addresses = Some (unwrap_or (known_range s r) (0, 0)) }

-- a declared net, variable or memory, where its range has a value
abbrev pub known_declaration : Scope → Declaration → Option Object
known_declaration s d = option_map (with_known_addresses s d.addresses) (known_object s d.signed d.range)

-- The scope of a module of which these parameters have values. Names without a value are not declared in it.
abbrev pub known_module_scope : Module → Entries Object → Scope
known_module_scope m known n =
    object_or_undeclared (first_of (entry_of known n) (option_and_then (known_declaration (scope_of known)) (declaration_of (declarations m) n)))

abbrev pub known_scope : Placed → Scope
known_scope p = known_module_scope p.of_module p.constants

abbrev pub known_overrides : Scope → Connections → Module → KnownOverrides
known_overrides around given m n =
    option_map (λ e. known_parameter around false None e) (connected given (overridable (all_parameters m)) n)

abbrev pub known_instance : Source → List PathStep → Scope → Instance → Option Placed
known_instance source path around i =
    option_map (λ m. record { path = path; of_module = m; constants = known_constants m (known_overrides around i.parameters m) })
    (module_named source i.of_module)

abbrev pub known_below : Source → PathStep → Placed → Option Placed
known_below source u p =
    option_and_then (known_instance source (u ∷ p.path) (known_scope p)) (instance_reached p.of_module.items u)

-- The module at a path from the top, the innermost step first, with those of its parameters that have values.
abbrev pub known_at : Source → Name → List PathStep → Option Placed
known_at source top [] =
    option_map (λ m. record { path = []; of_module = m; constants = known_constants m (λ n. None) }) (module_named source top)
known_at source top (u ∷ around) = option_and_then (known_below source u) (known_at source top around)
