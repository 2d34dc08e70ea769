use Rattle.std.proofs.Common.{ap, map}
use Rattle.v_syntax.specs.Source.{module_of}
use Rattle.emitted_names.proofs.Turns.{one_pushed}
use Rattle.emitted_texts.proofs.text.source_of_one.Goals as goal

pub returns : goal.returns
returns c = ap (map module_of) (one_pushed _ _ _ c.new-modules.ensures.items c.in_ok-push.ensures.items)
