use Rattle.v_lex.proofs.Bytes.{two_there}
use Rattle.v_lex.proofs.front.middle_mark.Goals as goal

pub ascii_before-requires : goal.ascii_before-requires
ascii_before-requires c =
    two_there c.args.text.now c.args.more.now c.behind-rest.result.now c.args.byte c.args.next c.requires.whole c.requires.second c.behind-rest.ensures c.in-Some.ensures.ascii
