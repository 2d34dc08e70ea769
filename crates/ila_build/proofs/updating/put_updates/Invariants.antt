use Rattle.std.proofs.Common.{◌≤◌, ◌+◌, length, map, drop}
use Rattle.ila_file.specs.View.{update_view}
use Rattle.ila_build.specs.Sizes.{sizes_of}
use Rattle.ila_build.specs.Standing.{IsGrown}
use Rattle.ila_build.proofs.Chosen.{AreToChoose}
use Rattle.ila_build.proofs.updating.put_updates.Given as goal

abbrev pub invariant-loop-update : goal.invariant-loop-update
invariant-loop-update l = IsGrown l.fn.terms l.terms × AreToChoose l.fn.terms l.known l.fetch l.terms l.table (map update_view (drop l.update-index l.updates)) (map update_view l.updates)
    × (length l.terms.nodes + sizes_of (map update_view (drop l.update-index l.updates)) ≤ length l.fn.terms.nodes + sizes_of (map update_view l.updates))
