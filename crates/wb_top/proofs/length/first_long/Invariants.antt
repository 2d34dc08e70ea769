use Rattle.std.proofs.Common.{◌≡◌, map, drop}
use Rattle.wb_top.specs.Files.{first_long}
use Rattle.wb_top.proofs.length.first_long.Given as goal

abbrev pub invariant-loop-bytes : goal.invariant-loop-bytes
invariant-loop-bytes l =
    (l.number ≡ l.bytes-index) × (first_long 0 (map (λ bytes. bytes.items) l.contents) ≡ first_long l.number (map (λ bytes. bytes.items) (drop l.bytes-index l.contents)))
