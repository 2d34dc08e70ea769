use Rattle.emitted_designs.proofs.BenchModels.{small_models}
use Rattle.emitted_designs.proofs.laws.small_models_have_short_texts.Goals as goal

pub returns : goal.returns
returns c = small_models
