use Rattle.std.proofs.Common.{refl, sym, subst}
use Rattle.verilog_meaning.specs.Settled.{Design}
use Rattle.v_syntax.specs.Source.{source_of}
use Rattle.v_places.specs.Views.{spots_of}
use Rattle.v_judged.specs.Refusal.{IsJudged}
use Rattle.v_elab.specs.Flat.{StandsAt}
use Rattle.v_elab.proofs.source.elaborate.Goals as goal

pub returns-in-Refused-clause-refused : goal.returns-in-Refused-clause-refused
returns-in-Refused-clause-refused c =
    let d : Design = record { source = source_of c.args.tree.now; top = c.args.top.now; clock = c.args.clock.now } in
    subst (IsJudged d) c.in-Refused.is c.in_ok-told.ensures

pub placed_design-requires : goal.placed_design-requires
placed_design-requires c =
    let d : Design = record { source = source_of c.args.tree.now; top = c.args.top.now; clock = c.args.clock.now } in
    let h = subst (IsJudged d) c.in-Accepted.is c.in_ok-told.ensures in (
      d,
      subst (λ ps. StandsAt c.in_ok-interfaces.interfaces c.args.clock.now (spots_of ps) d) (sym c.as_slice.ensures.value)
          (record { accepted = h.0; of_text = c.requires; is_clock = refl; are_interfaces = c.in_ok-interfaces.ensures; places = h.1 }),
    )
