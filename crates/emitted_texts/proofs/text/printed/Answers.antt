use Rattle.emitted_texts.proofs.text.printed.Goals as goal

pub returns : goal.returns
returns c = c.in_ok-text.ensures.printed
