use Rattle.emitted_texts.proofs.Whole.{modules_are_printable}
use Rattle.emitted_texts.proofs.laws.emitted_modules_are_printable.Goals as goal

pub returns : goal.returns
returns c = modules_are_printable
