use Rattle.emitted_designs.proofs.BenchModels.{no_children, bench_size, bench_texts}
use Rattle.emitted_designs.proofs.BenchRules.{bench_rules}
use Rattle.emitted_designs.proofs.laws.bench_models_are_models.Goals as goal

pub returns : goal.returns
returns c = record { rules = bench_rules; childless = no_children; size = bench_size; texts = bench_texts }
