-- What an answer says: by which kind a design is refused, or that it is accepted.
use Rattle.std.specs.Prelude.{Option, Some, None}
use Rattle.verilog_meaning.specs.Settled.{Design}
use Rattle.verilog_designs.specs.Accepted as designs
use Rattle.verilog_designs.specs.Accepted.{IsAccepted, IsRefusedBy}
use Rattle.v_places.specs.Places.{ArePlaces}
use Rattle.v_places.specs.Views.{spots_of}
use Rattle.v_named.specs.declared.kind.NamesKind.{NamesKind}
use Rattle.v_named.specs.declared.kind.NamesKind.TheVariants as names
use Rattle.v_judged.specs.declared.kind.DesignKind.{DesignKind}
use Rattle.v_judged.specs.declared.kind.DesignKind.TheVariants.{NoTop, Undeclared, DuplicateName, BadHierarchy, HasXz, BadPort, BadConstant, WidthOver128, BadSelect, MemoryUse, ClockAsData, BadEventList, BlockingInClocked, NonblockingInComb, Latch, BadDriver, Undriven, CombLoop}
use Rattle.v_judged.specs.declared.kind.Judged.{Judged}
use Rattle.v_judged.specs.declared.kind.Judged.TheVariants.{Refused, Accepted}

-- the kind of the definition
abbrev pub kind_of : DesignKind → designs.DesignKind
kind_of NoTop = designs.no_top
kind_of Undeclared = designs.undeclared
kind_of DuplicateName = designs.duplicate_name
kind_of BadHierarchy = designs.bad_hierarchy
kind_of HasXz = designs.has_xz
kind_of BadPort = designs.bad_port
kind_of BadConstant = designs.bad_constant
kind_of WidthOver128 = designs.width_over_128
kind_of BadSelect = designs.bad_select
kind_of MemoryUse = designs.memory_use
kind_of ClockAsData = designs.clock_as_data
kind_of BadEventList = designs.bad_event_list
kind_of BlockingInClocked = designs.blocking_in_clocked
kind_of NonblockingInComb = designs.nonblocking_in_comb
kind_of Latch = designs.latch
kind_of BadDriver = designs.bad_driver
kind_of Undriven = designs.undriven
kind_of CombLoop = designs.comb_loop

-- No kind: the design is accepted. Else it is the first kind of those that it breaks.
abbrev pub IsDesignRefusal : Design → Option DesignKind → Type 0
IsDesignRefusal d None = IsAccepted d
IsDesignRefusal d (Some k) = IsRefusedBy d (kind_of k)

-- The same, and the modules that stand in an accepted design are at these places.
abbrev pub IsJudged : Design → Judged → Type 0
IsJudged d (Refused k) = IsRefusedBy d (kind_of k)
IsJudged d (Accepted places) = IsAccepted d × ArePlaces d (spots_of places.items)

-- kinds on names
abbrev pub of_names : NamesKind → DesignKind
of_names names.NoTop = NoTop
of_names names.Undeclared = Undeclared
of_names names.DuplicateName = DuplicateName
of_names names.BadHierarchy = BadHierarchy
