-- What an answer on the names of a design says.
use Rattle.std.specs.Prelude.{◌≡◌, true, false, cond, Option, Some, None}
use Rattle.wb_values.specs.Value.{Name}
use Rattle.verilog_trees.specs.Syntax.{Module, Source}
use Rattle.verilog_meaning.specs.Hierarchy.{module_named}
use Rattle.verilog_meaning.specs.Settled.{Design}
use Rattle.verilog_designs.specs.Names.{has_undeclared, has_duplicate, has_duplicate_module}
use Rattle.verilog_designs.specs.Accepted.{Breaks, IsRefusedBy, no_top, undeclared, duplicate_name, bad_hierarchy}
use Rattle.v_hier.specs.Instances.{has_parts}
use Rattle.v_scopes.specs.declared.refusal.ScopesKind.{ScopesKind}
use Rattle.v_scopes.specs.declared.refusal.ScopesKind.TheVariants.{NotYet, NoTop, Undeclared, DuplicateName}
use Rattle.v_scopes.specs.Ports.{lacks_clock}

-- The source has no parameter and no instance.
abbrev pub IsWhole : Design → Type 0
IsWhole d = has_parts d.source ≡ false

-- None: no name is refused. NotYet: the source has a parameter or an instance. Else the first kind of those that are broken.
abbrev pub IsNamesRefusal : Design → Option ScopesKind → Type 0
IsNamesRefusal d None = IsWhole d × ¬ Breaks d no_top × ¬ Breaks d undeclared × ¬ Breaks d duplicate_name × ¬ Breaks d bad_hierarchy
IsNamesRefusal d (Some NotYet) = has_parts d.source ≡ true
IsNamesRefusal d (Some NoTop) = IsWhole d × IsRefusedBy d no_top
IsNamesRefusal d (Some Undeclared) = IsWhole d × IsRefusedBy d undeclared
IsNamesRefusal d (Some DuplicateName) = IsWhole d × IsRefusedBy d duplicate_name

-- The same, worked out: the names of the module that is the top, and those of the source.
abbrev pub names_kind : Source → Name → Module → Option ScopesKind
names_kind source clock m =
    cond (lacks_clock m clock) (Some NoTop)
    (cond (has_undeclared source m) (Some Undeclared)
    (cond (has_duplicate_module source) (Some DuplicateName)
    (cond (has_duplicate m) (Some DuplicateName) None)))

abbrev pub top_kind : Source → Name → Option Module → Option ScopesKind
top_kind source clock None = Some NoTop
top_kind source clock (Some m) = names_kind source clock m

abbrev pub design_kind : Design → Option ScopesKind
design_kind d = cond (has_parts d.source) (Some NotYet) (top_kind d.source d.clock (module_named d.source d.top))
