use Rattle.std.proofs.Common.{◌∙◌, sym, ap}
use Rattle.ila_sim.specs.Kinds.{fits_of}
use Rattle.ila_sim.specs.Names.{fits_under}
use Rattle.ila_sim.proofs.sets.fits_word.Goals as goal

pub returns-in-None : goal.returns-in-None
returns-in-None c = c.fits.ensures c.args.word ∙ ap (λ m. fits_under m (fits_of c.args.settable.now.kind) c.args.word c.args.value) (sym c.in-None.is)
