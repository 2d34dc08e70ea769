-- An accepted design in one scope can be elaborated, and what it is elaborated to is the design, when its names are told by their dotted names.
use Rattle.std.specs.Prelude.{List, [], Bool}
use Rattle.wb_values.specs.Value.{Name, Valuation}
use Rattle.verilog_trees.specs.Syntax.{Item}
use Rattle.verilog_meaning.specs.Expression.{Scope}
use Rattle.verilog_meaning.specs.Hierarchy.{Placed, dotted}
use Rattle.verilog_meaning.specs.Settled.{Design}
use Rattle.verilog_designs.specs.Accepted.{IsAccepted}
use Rattle.verilog_exists.specs.Exists.{IsShapely}
use Rattle.flat_designs.specs.Flat.{Naming, IsNaming, IsSeenAs}
use Rattle.v_write.specs.Soundness.{UnbrokenIsSound}
use Rattle.v_design.specs.Parts.{Parts}
use Rattle.v_design.specs.Design.{outputs_of, IsDesignOf}
use Rattle.v_elab.specs.Names.{is_given_port}
use Rattle.v_elab.specs.Elaborated.{IsElaborated, body_in}
use Rattle.v_elab.specs.Elaborable.{IsElaborable}
use Rattle.v_elab.specs.Flat.{IsFlatBody}
use Rattle.v_elab.specs.Told.{AreCalledNets, IsTold}
use Rattle.v_elab.proofs.FlatWhole.{stored_nets, is_design}
use Rattle.v_elab.proofs.FlatReady.{good, naming, no_memory, inputs_of_top, can_be_elaborated}

module _ (d : Design) (called : Naming) (top : Placed) (s : Scope) (items : List Item) (ns : List Name) (accepts : IsAccepted d) (shapely : IsShapely d)
    (flat : IsFlatBody d called top s items ns) where
  abbrev given : Name → Bool
  given = is_given_port top.of_module d.clock (called [] [])

  pub flat_is_ready : UnbrokenIsSound → IsElaborable (body_in s items ns) given
  flat_is_ready law =
      can_be_elaborated d called top s items ns accepts shapely flat law given (inputs_of_top d called top s items ns accepts shapely flat)

  module _ (e : Parts) (x : IsElaborated (body_in s items ns) given (outputs_of top.of_module) e) where
    pub flat_names_are_nets : AreCalledNets d called e.graph.names
    flat_names_are_nets =
        stored_nets d called top s items ns (good d called top s items ns accepts shapely flat) (naming d called top s items ns accepts shapely flat) flat given
        (no_memory d called top s items ns accepts shapely flat) (inputs_of_top d called top s items ns accepts shapely flat) e x

    pub flat_is_design : IsNaming d dotted → ((v : Valuation) → (w : Valuation) × IsSeenAs d called v w) → (h : Parts) → IsTold d called e h → IsDesignOf d h
    flat_is_design dots seeing h t =
        is_design d called top s items ns (good d called top s items ns accepts shapely flat) (naming d called top s items ns accepts shapely flat) flat given
        (no_memory d called top s items ns accepts shapely flat) (inputs_of_top d called top s items ns accepts shapely flat) e x dots seeing h t
