-- The limit that the code's answer stands for.
use Rattle.check_limits.specs.declared.limits.Limit.{Limit}
use Rattle.check_limits.specs.declared.limits.Limit.TheVariants.{Memory, Unroll}
use Rattle.check_limits.specs.Limits as pure
use Rattle.check_limits.specs.Limits.{limit_memory, limit_unroll}

abbrev pub as_limit : Limit → pure.Limit
as_limit (Memory bits) = limit_memory bits
as_limit (Unroll steps) = limit_unroll steps
