use Rattle.std.proofs.Common.{◌≡◌, ◌<◌, ◌^◌, nat_eq, length, Option, Some, None, ◌∙◌, sym, arith, ℕ}
use Rattle.std.proofs.lemmas.List.{take_all}
use Rattle.std.proofs.lemmas.Nat.{pow_pos}
use Rattle.std.proofs.lemmas.Bool.{and_parts, eqb-true, false≢true}
use Rattle.wb_values.specs.Value.{Sort, truth, word, memory, Value, truth_value, number, words, as_words}
use Rattle.model_meaning.specs.Term.{sort_of}
use Rattle.wb_terms.specs.Graph.{tree}
use Rattle.wb_terms.specs.Environment.{HasSortOf, value_of}
use Rattle.ila_child.specs.Values.{IsMemoryOf}
use Rattle.ila_child.proofs.evaluation.memory_words.Goals as goal

length-as_words : (x : Value) (o : Option Sort) (n : ℕ) → IsMemoryOf n o → HasSortOf x o → length (as_words x) ≡ n
length-as_words x None n m h = absurd m
length-as_words x (Some truth) n m h = absurd m
length-as_words x (Some (word w)) n m h = absurd m
length-as_words (truth_value b) (Some (memory a d)) n m h = absurd (false≢true h)
length-as_words (number k) (Some (memory a d)) n m h = absurd (false≢true h)
length-as_words (words xs) (Some (memory a d)) n m h = eqb-true (length xs) (2 ^ a) (and_parts (nat_eq (length xs) (2 ^ a)) _ h).0 ∙ sym m

some_words : (o : Option Sort) (n : ℕ) → IsMemoryOf n o → 0 < n
some_words None n m = absurd m
some_words (Some truth) n m = absurd m
some_words (Some (word w)) n m = absurd m
some_words (Some (memory a d)) n m = let p : 0 < 2 ^ a = pow_pos a in omega (arith, p, m)

pub returns-clause-words : goal.returns-clause-words
returns-clause-words c =
    let x = value_of c.args.terms.now c.args.env.now c.args.id.0 in
    let o = sort_of (tree c.args.terms.now c.args.id.0) in
    let some : 0 < c.args.count = some_words o c.args.count c.requires.memory in
    let sorted = c.loop-address.invariant.sorted (omega arith) in
    let long : length (as_words x) ≡ c.args.count = length-as_words x o c.args.count c.requires.memory sorted in
    c.loop-address.invariant.values ∙ take_all c.loop-address.address (as_words x) (omega arith)
