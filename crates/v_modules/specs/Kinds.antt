-- The rules among those that a module breaks that are kinds of refusal.
use Rattle.std.specs.Prelude.{false}
use Rattle.verilog_rules.specs.Expression.{Broken}

-- What is of no text is left aside: numbers that do not fit their widths, and parts without bits.
abbrev pub kinds : Broken → Broken
kinds b = record b { misshapen = false }
