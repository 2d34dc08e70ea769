use Rattle.std.proofs.Common.{◌≡◌, ◌<◌, ◌≤◌, ◌^◌, ℕ}
use Rattle.v_elab.proofs.declaring.address_width.Given as goal

abbrev pub invariant-loop-width : goal.invariant-loop-width
invariant-loop-width l = record {
  room : l.room ≡ 2 ^ l.width;
  some : 1 ≤ l.width;
  few : l.width ≤ 16;
  least : (b : ℕ) → 1 ≤ b → b < l.width → 2 ^ b < l.count;
}
