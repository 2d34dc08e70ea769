use Rattle.std.proofs.Common.{ℕ, List, sym, ◌∙◌, subst}
use Rattle.v_lex.specs.View.{HasText}
use Rattle.v_lex.proofs.Texts.{system_there}
use Rattle.v_lex.proofs.words.system.Goals as goal

pub returns : goal.returns
returns c =
    record {
      front =
          system_there c.args.text.now c.in-Some.more.now c.split_run.result.1.now c.taken_before.result.now _ _ c.in-Some.ensures.cases.0 c.split_run.ensures.rest
          (sym c.begins_with_word_byte.ensures ∙ c.if-not-begins_with_word_byte.false) c.taken_before.ensures c.system_piece.ensures.piece;
      part = subst (λ (w : List ℕ). HasText c.system_piece.result w) c.taken_before.ensures c.system_piece.ensures.text;
    }
