-- The emitted module of a model without child programs is one.
use Rattle.std.proofs.Common.{refl}
use Rattle.emitted_modules.specs.Rtl.{Wire}
use Rattle.emitted_modules.specs.Laws.{FlatModelsAreEmitted}
use Rattle.emitted_modules.proofs.Names.{among_map}
use Rattle.emitted_modules.proofs.OwnNames.{valued_by}
use Rattle.emitted_modules.proofs.Ports.{has_registers}
use Rattle.emitted_modules.proofs.PortLists.{has_ports}
use Rattle.emitted_modules.proofs.Model.{own_states_alone, no_children}
use Rattle.emitted_modules.proofs.Facts.{model, rtl, state_sorts, input_bits, wires_begin, own}
use Rattle.emitted_modules.proofs.Follows.{follows}

pub flat_models_are_emitted : FlatModelsAreEmitted
flat_models_are_emitted name p keep h kept = record {
  ports = has_ports (model name p keep h) (rtl name p keep h) (own name p keep h) refl refl (input_bits name p keep h);
  registers =
      has_registers (model name p keep h) (rtl name p keep h) (valued_by (model name p keep h)).0 (own name p keep h) (state_sorts name p keep h)
      (input_bits name p keep h) (valued_by (model name p keep h)).1 (valued_by (model name p keep h)).2
      (own_states_alone (model name p keep h) h.childless) (no_children (model name p keep h) h.childless)
      (λ w at. wires_begin name p keep h w.wire_name (among_map (λ (x : Wire). x.wire_name) w (rtl name p keep h).wires at));
  runs = λ run cycles is_run. follows name p keep h kept run cycles is_run;
}
