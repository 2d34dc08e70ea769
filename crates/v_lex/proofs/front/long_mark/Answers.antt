use Rattle.v_lex.proofs.Bytes.{three_there}
use Rattle.v_lex.proofs.front.long_mark.Goals as goal

pub ascii_before-requires : goal.ascii_before-requires
ascii_before-requires c =
    three_there c.args.text.now c.args.more.now c.behind-rest.result.now c.args.byte c.args.next c.args.third c.requires.whole c.requires.second c.requires.third
    c.behind-rest.ensures c.in-Some.ensures.ascii
