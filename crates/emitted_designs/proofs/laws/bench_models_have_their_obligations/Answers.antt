use Rattle.emitted_designs.proofs.BenchObligations.{obligations_counted}
use Rattle.emitted_designs.proofs.laws.bench_models_have_their_obligations.Goals as goal

pub returns : goal.returns
returns c = obligations_counted
