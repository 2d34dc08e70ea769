use Rattle.v_lex.proofs.Macros.{macro_set, span_set}
use Rattle.v_lex.proofs.table.set_macro.Goals as goal

pub returns : goal.returns
returns c = record {
  texts = λ q. macro_set c.args.macros.now c.insert.new.self c.args.name c.args.text c.in_ok-insert.ensures.updates q;
  spans = λ q. span_set c.args.macros.now c.insert.new.self c.args.name c.args.text c.in_ok-insert.ensures.updates q;
}
