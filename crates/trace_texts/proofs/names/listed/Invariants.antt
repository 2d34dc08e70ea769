use Rattle.std.proofs.Common.{◌≡◌, ◌++◌, map}
use Rattle.trace_texts.specs.Numbers.{numbers_in}
use Rattle.trace_texts.proofs.names.listed.Given as goal

abbrev pub invariant-loop-name : goal.invariant-loop-name
invariant-loop-name l = l.list.items ++ map (λ e. e.1) (numbers_in l._name-iterator) ≡ map (λ e. e.1) (numbers_in l.names.entries)
