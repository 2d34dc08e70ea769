-- An accepted design has a settled valuation.
use Rattle.verilog_designs.specs.Accepted.{bad_hierarchy}
use Rattle.wb_laws.proofs.Settled.{settled_value_fits}
use Rattle.verilog_settled.proofs.Assigned.{assigned_bit_is_local}
use Rattle.verilog_settled.proofs.Runs.{block_bit_is_local}
use Rattle.verilog_unique.proofs.Unique.{is_unique}
use Rattle.verilog_exists.specs.Exists.{SettledValuationExists}
use Rattle.verilog_exists.specs.One.{OneSettledValuation}
use Rattle.verilog_exists.proofs.Spots.{sees_its_own}
use Rattle.verilog_exists.proofs.Givers.{IsSound}
use Rattle.verilog_exists.proofs.Rounds.{some_fixed}
use Rattle.verilog_exists.proofs.Fixed.{is_settled}
use Rattle.verilog_exists.proofs.Valued.{ranges_have_values}
use Rattle.verilog_exists.proofs.Drivers.{is_sound}

pub settled_exists : SettledValuationExists
settled_exists d registers inputs accepted text inputs_fit =
    let sound : IsSound d = is_sound d (λ kind other. accepted kind) (ranges_have_values d accepted text.shapely) in
    let fixed = some_fixed d accepted text.numbers_fit sound registers inputs (sees_its_own d text.no_dots (accepted bad_hierarchy)) in
    (fixed.0, is_settled d accepted text.numbers_fit sound registers inputs fixed.0 inputs_fit fixed.1)

pub one_settled : OneSettledValuation
one_settled d registers inputs accepted text inputs_fit =
    let some = settled_exists d registers inputs accepted text inputs_fit in (
      some.0,
      some.1,
      λ w p n w_settled at declared.
          is_unique settled_value_fits assigned_bit_is_local block_bit_is_local d accepted text.numbers_fit registers inputs w some.0 p n w_settled some.1 at declared,
    )
