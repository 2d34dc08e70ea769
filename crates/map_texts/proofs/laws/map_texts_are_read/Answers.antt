use Rattle.map_texts.proofs.Back.{texts_are_read}
use Rattle.map_texts.proofs.laws.map_texts_are_read.Goals as goal

pub returns : goal.returns
returns c = texts_are_read
