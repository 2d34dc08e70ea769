use Rattle.std.proofs.Common.{ℕ, List, Some, refl, ap, ◌∙◌}
use Rattle.verilog_text.specs.Token.{decimal}
use Rattle.verilog_text.specs.Lexical.{token, real_length}
use Rattle.v_lex.proofs.Texts.{no_rest, plain_number}
use Rattle.v_lex.proofs.Bytes.{decimal_there}
use Rattle.v_lex.proofs.number.number.Goals as goal

pub returns-in-None : goal.returns-in-None
returns-in-None c =
    let rest = c.split_run.result.1.now in
    record {
      front =
          ap (λ (w : List ℕ). Some (token (decimal w), rest)) (c.ascii_text.ensures ∙ c.taken_before.ensures)
          ∙ plain_number c.args.text.now c.in-Some.more.now rest _ c.in-Some.ensures.cases.0 c.split_run.ensures.rest (no_rest rest (real_length rest) c.in-None.ensures);
      part = (c.ascii_text.ensures ∙ c.taken_before.ensures, refl);
    }

pub ascii_text-requires : goal.ascii_text-requires
ascii_text-requires c =
    decimal_there c.args.text.now c.in-Some.more.now c.split_run.result.1.now c.taken_before.result.now _ c.in-Some.ensures.cases.0 c.split_run.ensures.rest
    c.taken_before.ensures c.requires
