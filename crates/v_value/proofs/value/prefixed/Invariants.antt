use Rattle.std.proofs.Common.{◌≡◌, ◌<◌, ◌^◌, drop}
use Rattle.v_value.specs.Evaluation.{run_width, run_value, prefixes_value}
use Rattle.v_value.proofs.value.prefixed.Given as goal

abbrev pub invariant-loop-i : goal.invariant-loop-i
invariant-loop-i l = record {
  outer : l.outer ≡ prefixes_value (drop l.i l.operators) l.width l.value l.fn.own.width l.fn.own.value;
  fits : l.outer < 2 ^ l.width;
  inner_width : l.inner.width ≡ run_width (drop l.i l.operators) l.fn.own.width;
  inner_value : l.inner.value ≡ run_value (drop l.i l.operators) l.fn.own.width l.fn.own.value;
}
