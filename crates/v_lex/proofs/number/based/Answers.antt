use Rattle.v_lex.proofs.Bytes.{based_there}
use Rattle.v_lex.proofs.number.based.Goals as goal

pub ascii_text-requires : goal.ascii_text-requires
ascii_text-requires c =
    based_there c.args.is_macro c.args.text.now c.in-Some.more.now c.in-Some-behind_quote.rest.now c.taken_before.result.now _ c.in-Some.ensures.cases.0
    c.in-Some-behind_quote.ensures c.taken_before.ensures c.requires
