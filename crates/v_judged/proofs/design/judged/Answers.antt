use Rattle.std.proofs.Common.{refl, sym, subst}
use Rattle.verilog_meaning.specs.Settled.{Design}
use Rattle.verilog_designs.specs.Accepted.{IsRefusedBy}
use Rattle.v_syntax.specs.Source.{source_of}
use Rattle.v_named.specs.Names.{IsNamed}
use Rattle.v_places.specs.Views.{spots_of}
use Rattle.v_judged.specs.First.{name_kinds, later_kinds}
use Rattle.v_judged.specs.Refusal.{kind_of, IsDesignRefusal}
use Rattle.v_judged.specs.Standing.{IsNamedDesign}
use Rattle.v_judged.proofs.First.{named, none_named, joined, answered}
use Rattle.v_judged.proofs.design.judged.Goals as goal

pub returns-in-Refused : goal.returns-in-Refused
returns-in-Refused c =
    let d : Design = record { source = source_of c.args.tree.now; top = c.args.top.now; clock = c.args.clock.now } in
    subst (λ k. IsRefusedBy d (kind_of k)) (sym c.of_names.ensures) (named d c.in-Refused.kind (subst (IsNamed d) c.in-Refused.is c.in_ok-named.ensures))

pub places_refusal-requires : goal.places_refusal-requires
places_refusal-requires c =
    let d : Design = record { source = source_of c.args.tree.now; top = c.args.top.now; clock = c.args.clock.now } in
    let n = subst (IsNamed d) c.in-Places.is c.in_ok-named.ensures in
    let h : IsNamedDesign c.in_ok-interfaces.interfaces (spots_of c.in-Places.places.items) d
    = record { of_text = c.requires; interfaces = c.in_ok-interfaces.ensures; names = none_named d n.0 n.1 n.2 n.3; places = n.4 } in
    (d, subst (λ ps. IsNamedDesign c.in_ok-interfaces.interfaces (spots_of ps) d) (sym c.as_slice.ensures.value) h, refl)

pub returns-in-Some : goal.returns-in-Some
returns-in-Some c =
    let d : Design = record { source = source_of c.args.tree.now; top = c.args.top.now; clock = c.args.clock.now } in
    let n = subst (IsNamed d) c.in-Places.is c.in_ok-named.ensures in
    let h : IsNamedDesign c.in_ok-interfaces.interfaces (spots_of c.in-Places.places.items) d
    = record { of_text = c.requires; interfaces = c.in_ok-interfaces.ensures; names = none_named d n.0 n.1 n.2 n.3; places = n.4 } in
    let own = subst (λ ps. IsNamedDesign c.in_ok-interfaces.interfaces (spots_of ps) d) (sym c.as_slice.ensures.value) h in
    subst (IsDesignRefusal d) c.in-Some.is
    (answered d c.in_ok-kind-in-Places.kind (joined d name_kinds later_kinds c.in_ok-kind-in-Places.kind h.names (c.in_ok-kind-in-Places.ensures d own refl)))

pub returns : goal.returns
returns c =
    let d : Design = record { source = source_of c.args.tree.now; top = c.args.top.now; clock = c.args.clock.now } in
    let n = subst (IsNamed d) c.in-Places.is c.in_ok-named.ensures in
    let h : IsNamedDesign c.in_ok-interfaces.interfaces (spots_of c.in-Places.places.items) d
    = record { of_text = c.requires; interfaces = c.in_ok-interfaces.ensures; names = none_named d n.0 n.1 n.2 n.3; places = n.4 } in
    let own = subst (λ ps. IsNamedDesign c.in_ok-interfaces.interfaces (spots_of ps) d) (sym c.as_slice.ensures.value) h in (
      subst (IsDesignRefusal d) c.in-None.is
          (answered d c.in_ok-kind-in-Places.kind (joined d name_kinds later_kinds c.in_ok-kind-in-Places.kind h.names (c.in_ok-kind-in-Places.ensures d own refl))),
      n.4,
    )
