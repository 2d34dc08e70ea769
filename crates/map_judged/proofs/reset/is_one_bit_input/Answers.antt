use Rattle.std.proofs.Common.{◌≡◌, ◌∙◌, sym, true, ◌==◌}
use Rattle.std.specs.Prelude.{◌&&◌}
use Rattle.verilog_meaning.specs.Expression.{object_width}
use Rattle.verilog_designs.specs.Accepted.{is_input_port}
use Rattle.v_places.specs.Views.{spot_of}
use Rattle.map_paths.specs.Located.{scope_there}
use Rattle.map_judged.proofs.reset.is_one_bit_input.Goals as goal

pub returns : goal.returns
returns c =
    let input : is_input_port (spot_of c.args.place.now).of_module c.args.name.now ≡ true = sym c.in_ok-input.ensures ∙ c.if-not-input.false in
    c.is_one_bit.ensures
    ∙ ((λ i. object_width (c.object.ensures i) == 1)
    ∙ ((λ i. object_width (c.in_ok-scope.ensures i c.args.name.now) == 1)
    ∙ (λ i. sym input i && (object_width (scope_there (spot_of c.args.place.now) c.args.name.now) == 1))))
