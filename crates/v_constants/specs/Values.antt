-- The objects of parameters, where the range of their declaration has its value already.
use Rattle.std.specs.Prelude.{ℕ, ◌+◌, ◌^◌, ◌%◌, max, Bool, cond, ◌||◌, nat_lt, List, [], ◌∷◌, ◌++◌, Option, Some, None, option_and_then, unwrap_or}
use Rattle.wb_values.specs.Value.{Name, Entries}
use Rattle.wb_values.specs.Choice.{some_if}
use Rattle.verilog_trees.specs.Syntax.{Expression}
use Rattle.verilog_meaning.specs.Expression.{Object, Scope, scope_of, distance, object_width, no_values, widened, width_of, sign_of, assigned_value}
use Rattle.verilog_meaning.specs.Hierarchy.{parameter_object}
use Rattle.verilog_rules.specs.Expression.{is_unbroken, Position, constant, broken, has_width, wider}
use Rattle.verilog_designs.specs.Known.{with_range, KnownOverrides, known_entry}
use Rattle.v_scopes.specs.declared.range.Bounds.{Bounds}
use Rattle.v_scopes.specs.declared.range.Bounds.TheVariants.{Absent, Unknown, Known}

-- A range of more than 128 bits counts as one without a value.
abbrev pub fitting : Bounds → Bounds
fitting Absent = Absent
fitting Unknown = Unknown
fitting (Known l r) = cond (nat_lt (distance l r) 128) (Known l r) Unknown

-- how many bits a range has, 1 where there is none
abbrev pub range_width : Bounds → ℕ
range_width Absent = 1
range_width Unknown = 1
range_width (Known l r) = distance l r + 1

-- the width of the context of a parameter's value, whose own width is this, where it has one
abbrev pub context_width : Bounds → Option ℕ → Option ℕ
context_width Absent own = own
context_width Unknown own = own
context_width (Known l r) own = wider (Some (distance l r + 1)) own

-- where a parameter's value stands
unfoldable pub place_at : Scope → Bounds → Expression → Position
place_at s b e = constant (context_width b (some_if (has_width s e) (width_of s e))) (sign_of s e)

-- a parameter of this range with a number
abbrev pub numbered : Bool → ℕ × ℕ → ℕ → Object
numbered signed b x = record (with_range signed b) { constant = Some x }

-- a parameter of this value without a range, and with one
unfoldable pub own_at : Scope → Bool → Expression → Object
own_at s signed e = parameter_object s signed None e

unfoldable pub ranged_at : Scope → Bool → ℕ → ℕ → Expression → Object
ranged_at s signed l r e = numbered signed (l, r) (assigned_value s no_values (distance l r + 1) e)

-- the parameter that a value makes, which breaks no rule in its place
abbrev pub valued_at : Scope → Bool → Bounds → Expression → Option Object
valued_at s signed Absent e = Some (own_at s signed e)
valued_at s signed Unknown e = None
valued_at s signed (Known l r) e = Some (ranged_at s signed l r e)

-- a value breaks no rule in its place
unfoldable pub is_right_at : Scope → Bounds → Expression → Bool
is_right_at s b e = is_unbroken (broken s (place_at s b e) e)

-- a parameter of this value
abbrev pub parameter_at : Scope → Bool → Bounds → Expression → Option Object
parameter_at s signed b e = cond (is_right_at s b e) (valued_at s signed b e) None

-- the number that overrides a parameter of so many bits
abbrev pub carried : Object → ℕ → ℕ
carried given w = widened given.signed (object_width given) (max (object_width given) w) (unwrap_or given.constant 0) % 2 ^ w

-- a parameter that is overridden by this value
abbrev pub overridden_by : Bool → Bounds → Object → Option Object
overridden_by signed Absent given = Some (record given { signed = signed || given.signed })
overridden_by signed Unknown given = None
overridden_by signed (Known l r) given = Some (numbered signed (l, r) (carried given (distance l r + 1)))

abbrev pub replaced : Bool → Bounds → Option Object → Option Object
replaced signed b given = option_and_then (overridden_by signed b) given

-- a parameter, where it is overridden perhaps
abbrev pub one_by : Scope → Bool → Bounds → Expression → Option (Option Object) → Option Object
one_by s signed b e None = parameter_at s signed b e
one_by s signed b e (Some given) = replaced signed b given

-- what overrides a parameter of this name, if anything does
abbrev pub override_by : Bool → KnownOverrides → Name → Option (Option Object)
override_by is_local given n = cond is_local None (given n)

-- the parameters of a declaration with this range, after those that are known already
abbrev pub values_by : Bool → Bool → Bounds → KnownOverrides → List (Name × Expression) → Entries Object → Entries Object
values_by is_local signed b given [] known = known
values_by is_local signed b given (v ∷ vs) known =
    values_by is_local signed b given vs (known ++ known_entry v.0 (one_by (scope_of known) signed b v.1 (override_by is_local given v.0)))
