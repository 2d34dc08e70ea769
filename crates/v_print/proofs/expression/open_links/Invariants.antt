use Rattle.v_print.specs.Links.{openings_before}
use Rattle.v_print.proofs.Loops.{IsLoop}
use Rattle.v_print.proofs.expression.open_links.Given as goal

abbrev pub invariant-loop-link : goal.invariant-loop-link
invariant-loop-link l = IsLoop openings_before l.links l.link-index l.level l.initial.out l.out (openings_before l.fn.first l.links)
