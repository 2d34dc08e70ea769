use Rattle.v_lex.proofs.Bytes.{ascii_encoded}
use Rattle.v_lex.proofs.ascii.ascii_text.Goals as goal

pub unreachable-requires : goal.unreachable-requires
unreachable-requires c = c.in-Err.ensures.cases.0 (ascii_encoded c.args.bytes.now c.requires)
