use Rattle.std.proofs.Common.{◌≡◌, ◌++◌, drop}
use Rattle.ila_sim.specs.Texts.{set_words_text}
use Rattle.ila_sim.proofs.text.append_words.Given as goal

abbrev pub invariant-loop-k : goal.invariant-loop-k
invariant-loop-k l = l.out.items ++ set_words_text l.name (drop l.k l.words) ≡ l.initial.out.items ++ set_words_text l.name l.words
