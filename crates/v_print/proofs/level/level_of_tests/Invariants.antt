use Rattle.std.proofs.Common.{◌≡◌, drop}
use Rattle.v_print.specs.Links.{level_after_tests}
use Rattle.v_print.proofs.level.level_of_tests.Given as goal

abbrev pub invariant-loop-link : goal.invariant-loop-link
invariant-loop-link l = level_after_tests l.level (drop l.link-index l.links) ≡ level_after_tests l.fn.first l.links
