-- The scope that a module's table of names stands for, and what an answer of `scopes` says.
use Rattle.std.specs.Prelude.{◌≡◌, List, [], Option, Some, None, Result, Ok, Err}
use Rattle.wb_values.specs.Value.{Name}
use Rattle.verilog_meaning.specs.Expression.{Scope}
use Rattle.verilog_meaning.specs.Hierarchy.{PathStep, Placed}
use Rattle.verilog_meaning.specs.Settled.{Design}
use Rattle.verilog_designs.specs.Known.{known_at, known_scope}
use Rattle.v_scopes.specs.declared.table.ModuleScope.{ModuleScope}
use Rattle.v_scopes.specs.declared.scopes_of.DesignScopes.{DesignScopes}
use Rattle.v_scopes.specs.declared.scopes_of.ScopesStop.{ScopesStop}
use Rattle.v_scopes.specs.declared.scopes_of.ScopesStop.TheVariants.{Refused, NoMemory}
use Rattle.v_scopes.specs.declared.refusal.ScopesKind.TheVariants.{NoTop}
use Rattle.v_scopes.specs.Rows.{Row, rows_of, row_named, scope_by}
use Rattle.v_scopes.specs.Refusals.{IsNamesRefusal}

abbrev pub declared_in : ModuleScope → Name → Option Row
declared_in s n = row_named (rows_of s.declared.items) n

abbrev pub scope_in : ModuleScope → Scope
scope_in s = scope_by (rows_of s.declared.items)

-- the scopes of a design whose names are in order
abbrev pub with_top : Option ModuleScope → Result DesignScopes ScopesStop
with_top (Some s) = Ok (record { top = s })
with_top None = Err (Refused (record { kind = NoTop }))

-- Each module that stands in the design is the top, and this is its scope.
abbrev pub AreScopesOf : Design → DesignScopes → Type 0
AreScopesOf d s = (path : List PathStep) → (p : Placed) → known_at d.source d.top path ≡ Some p → (path ≡ []) × (scope_in s.top ≡ known_scope p)

abbrev pub IsScoping : Design → Result DesignScopes ScopesStop → Type 0
IsScoping d (Ok s) = IsNamesRefusal d None × AreScopesOf d s
IsScoping d (Err (Refused r)) = IsNamesRefusal d (Some r.kind)
IsScoping d (Err NoMemory) = Unit {0}
