use Rattle.std.proofs.Common.{◌≡◌, ◌≤◌}
use Rattle.model_meaning.specs.Term.{sort_of}
use Rattle.wb_terms.specs.Graph.{tree}
use Rattle.wb_terms.specs.Environment.{IsAddressOf}
use Rattle.wb_terms.specs.Walk.{word_in, word_width}
use Rattle.wb_terms.proofs.evaluation.word_at.Given as goal

abbrev pub invariant-loop-word : goal.invariant-loop-word
invariant-loop-word l =
    record {
      earlier : l.memory.0 ≤ l.fn.id.0;
      address : IsAddressOf l.address (sort_of (tree l.terms l.memory.0));
      width : word_width (sort_of (tree l.terms l.memory.0)) ≡ word_width (sort_of (tree l.terms l.fn.id.0));
      same : word_in l.terms l.env l.memory.0 l.address ≡ word_in l.terms l.env l.fn.id.0 l.address;
    }

abbrev pub decreases-loop-word : goal.decreases-loop-word
decreases-loop-word l = l.memory.0
