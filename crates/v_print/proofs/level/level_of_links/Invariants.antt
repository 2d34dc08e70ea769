use Rattle.std.proofs.Common.{◌≡◌, drop}
use Rattle.v_print.specs.Links.{level_after}
use Rattle.v_print.proofs.level.level_of_links.Given as goal

abbrev pub invariant-loop-link : goal.invariant-loop-link
invariant-loop-link l = level_after l.level (drop l.link-index l.links) ≡ level_after l.fn.first l.links
