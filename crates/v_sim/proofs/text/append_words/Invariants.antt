use Rattle.std.proofs.Common.{◌≡◌, ◌++◌, ◌+◌, drop}
use Rattle.scripts.specs.Simulation.{words_text}
use Rattle.v_sim.proofs.text.append_words.Given as goal

abbrev pub invariant-loop-place : goal.invariant-loop-place
invariant-loop-place l = l.out.items ++ words_text l.name (l.least + l.place) (drop l.place l.words) ≡ l.initial.out.items ++ words_text l.name l.least l.words
