-- The laws on dotted names.
use Rattle.std.specs.Prelude.{◌≡◌, ℕ, List, [], ◌∷◌, Contains, Some}
use Rattle.wb_values.specs.Value.{Name}
use Rattle.verilog_meaning.specs.Hierarchy.{PathStep, dotted}
use Rattle.verilog_meaning.specs.Settled.{Design}
use Rattle.refinement.specs.Map.{dotted_parts}
use Rattle.map_rules.specs.Expressions.{design_scope}
use Rattle.v_places.specs.Below.{Spot}
use Rattle.v_places.specs.Places.{IsPathOf}
use Rattle.map_paths.specs.Located.{Below, AreBelow, AreStanding, located, object_where}

-- What a dotted name means in a design is what the name means in the module to which it leads.
abbrev pub LocatedNamesHaveTheirMeaning : Type 0
LocatedNamesHaveTheirMeaning =
    (d : Design) (spots : List Spot) (below : Below) → AreStanding d spots → AreBelow spots below
    → (n : Name) → design_scope d n ≡ object_where spots (located below 0 (dotted_parts n))

-- A name that leads to a module and a name is the dotted name of that name there.
abbrev pub LocatedNamesAreDotted : Type 0
LocatedNamesAreDotted =
    (spots : List Spot) (below : Below) → AreBelow spots below → (n own : Name) (k : ℕ) → located below 0 (dotted_parts n) ≡ Some (k, own)
    → (path : List PathStep) × IsPathOf spots k path × (n ≡ dotted path own)

-- a name without a dot
abbrev pub HasNoDot : Name → Type 0
HasNoDot n = ¬ Contains n 46

-- no name of a step has a dot
abbrev pub HaveNoDots : List PathStep → Type 0
HaveNoDots [] = Unit {0}
HaveNoDots (u ∷ around) = HasNoDot u.of_name × HaveNoDots around

-- The dotted name of a name leads to it and its module, where no part has a dot.
abbrev pub DottedNamesAreLocated : Type 0
DottedNamesAreLocated =
    (d : Design) (spots : List Spot) (below : Below) → AreStanding d spots → AreBelow spots below → (k : ℕ) (path : List PathStep) (own : Name)
    → IsPathOf spots k path → HaveNoDots path → HasNoDot own → located below 0 (dotted_parts (dotted path own)) ≡ Some (k, own)
