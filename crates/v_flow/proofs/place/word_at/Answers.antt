use Rattle.std.proofs.Common.{◌∙◌, ap, sym}
use Rattle.v_value.specs.Index.{integer_at}
use Rattle.std.specs.Prelude.{◌&&◌, nat_lt, option_and_then}
use Rattle.verilog_meaning.specs.Register.{is_word_number, words_between}
use Rattle.verilog_meaning.specs.Expression.{word_number}
use Rattle.v_flow.proofs.Places as places
use Rattle.v_flow.proofs.place.word_at.Goals as goal

pub returns-in-Some : goal.returns-in-Some
returns-in-Some c k =
    let z = integer_at c.args.index in
    let a = c.in-Some.addresses in
    c.one_word.ensures k ∙ ap (λ n. is_word_number n k) c.word_number.ensures ∙ places.word-within a z k
    ∙ sym (ap (λ o. nat_lt k (words_between o) && is_word_number (option_and_then (λ b. word_number b z) o) k) c.in-Some.is)
