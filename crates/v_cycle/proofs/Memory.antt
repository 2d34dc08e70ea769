-- How many words a memory has.
use Rattle.std.proofs.Common.{◌≡◌, ◌∙◌, ◌<◌, ◌^◌, ℕ, nat_eq, length, Option, Some, None, sym, arith}
use Rattle.std.proofs.lemmas.Nat.{pow_pos}
use Rattle.std.proofs.lemmas.Bool.{and_parts, eqb-true, false≢true}
use Rattle.wb_values.specs.Value.{Sort, truth, word, memory, Value, truth_value, number, words, as_words}
use Rattle.wb_terms.specs.Environment.{HasSortOf}
use Rattle.v_cycle.specs.Setting.{HasRoomFor}

pub length-words : (x : Value) (o : Option Sort) (n : ℕ) → HasRoomFor n o → HasSortOf x o → length (as_words x) ≡ n
length-words x None n m h = absurd m
length-words x (Some truth) n m h = absurd m
length-words x (Some (word w)) n m h = absurd m
length-words (truth_value b) (Some (memory a d)) n m h = absurd (false≢true h)
length-words (number k) (Some (memory a d)) n m h = absurd (false≢true h)
length-words (words xs) (Some (memory a d)) n m h = eqb-true (length xs) (2 ^ a) (and_parts (nat_eq (length xs) (2 ^ a)) _ h).0 ∙ sym m

pub some_words : (o : Option Sort) (n : ℕ) → HasRoomFor n o → 0 < n
some_words None n m = absurd m
some_words (Some truth) n m = absurd m
some_words (Some (word w)) n m = absurd m
some_words (Some (memory a d)) n m = let p : 0 < 2 ^ a = pow_pos a in omega (arith, p, m)
