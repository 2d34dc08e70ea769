use Rattle.std.proofs.Common.{◌≡◌, ◌<◌, ◌^◌, ◌++◌, length, map, drop}
use Rattle.v_places.specs.Views.{spots_of}
use Rattle.v_flat.specs.Numbered.{numbered_from}
use Rattle.v_flat.specs.Views.{names_in}
use Rattle.v_flat.proofs.names.numbered_names.Given as goal

abbrev pub invariant-loop-number : goal.invariant-loop-number
invariant-loop-number l = record {
  few : length l.places < 2 ^ 64;
  made : numbered_from l.top_is_plain 0 (spots_of l.places) ≡ map names_in l.list.items ++ numbered_from l.top_is_plain l.number (spots_of (drop l.number l.places));
}
