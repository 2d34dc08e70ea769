-- Designs that break no rule, but perhaps that on loops.
use Rattle.std.specs.Prelude.{◌≢◌}
use Rattle.verilog_meaning.specs.Settled.{Design}
use Rattle.verilog_designs.specs.Accepted.{DesignKind, comb_loop, Breaks}

abbrev pub IsAcceptedButForLoops : Design → Type 0
IsAcceptedButForLoops d = (kind : DesignKind) → kind ≢ comb_loop → ¬ Breaks d kind
