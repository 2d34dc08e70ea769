-- What is said of the names of a design.
use Rattle.std.specs.Prelude.{◌≡◌, Bool, true, false, Option, Some, None}
use Rattle.verilog_trees.specs.Syntax.{Module, Source}
use Rattle.verilog_meaning.specs.Hierarchy.{module_named}
use Rattle.verilog_meaning.specs.Settled.{Design}
use Rattle.verilog_designs.specs.Accepted.{DesignKind, no_top, undeclared, duplicate_name, bad_hierarchy, Breaks, IsRefusedBy}
use Rattle.v_places.specs.Places.{ArePlaces}
use Rattle.v_places.specs.Views.{spots_of}
use Rattle.v_named.specs.declared.kind.NamesKind.{NamesKind}
use Rattle.v_named.specs.declared.kind.NamesKind.TheVariants.{NoTop, Undeclared, DuplicateName, BadHierarchy}
use Rattle.v_named.specs.declared.kind.Named.{Named}
use Rattle.v_named.specs.declared.kind.Named.TheVariants.{Refused, Places}

abbrev pub kind_of : NamesKind → DesignKind
kind_of NoTop = no_top
kind_of Undeclared = undeclared
kind_of DuplicateName = duplicate_name
kind_of BadHierarchy = bad_hierarchy

-- A design is refused by a kind, or it breaks none of the kinds on names and these are all modules that stand in it.
abbrev pub IsNamed : Design → Named → Type 0
IsNamed d (Refused k) = IsRefusedBy d (kind_of k)
IsNamed d (Places places) =
    ¬ Breaks d no_top × ¬ Breaks d undeclared × ¬ Breaks d duplicate_name × ¬ Breaks d bad_hierarchy × ArePlaces d (spots_of places.items)

-- The design has this source, and this module as its top.
abbrev pub IsTopOf : Design → Source → Module → Type 0
IsTopOf d source m = (d.source ≡ source) × (module_named d.source d.top ≡ Some m)

-- The kind on the modules that stand in a design, where one uses an undeclared name, and where one declares a name twice.
abbrev pub modules_kind : Bool → Bool → Option NamesKind
modules_kind true twice = Some Undeclared
modules_kind false true = Some DuplicateName
modules_kind false false = None

-- The design is refused by this kind, or breaks none of the kinds before that on the hierarchy.
abbrev pub IsNamesKind : Design → Option NamesKind → Type 0
IsNamesKind d (Some k) = IsRefusedBy d (kind_of k)
IsNamesKind d None = ¬ Breaks d no_top × ¬ Breaks d undeclared × ¬ Breaks d duplicate_name
