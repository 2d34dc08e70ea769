use Rattle.std.proofs.Common.{sym}
use Rattle.verilog_exists.specs.Exists.{IsOfText}
use Rattle.v_judged.specs.Refusal.{IsJudged}
use Rattle.v_syntax.specs.Source.{source_of}
use Rattle.read_cases.proofs.Staged.{named_so}
use Rattle.read_cases.proofs.case.of_tree.Goals as goal

pub judged-requires : goal.judged-requires
judged-requires c =
    named_so IsOfText (source_of c.args.tree.now) _ _ c.as_str.result.now c.as_str-2.result.now (sym c.as_str.ensures.value) (sym c.as_str-2.ensures.value) c.requires

pub of_judged-requires-clause-of_text : goal.of_judged-requires-clause-of_text
of_judged-requires-clause-of_text c = c.requires

pub of_judged-requires-clause-judged : goal.of_judged-requires-clause-judged
of_judged-requires-clause-judged c =
    named_so (λ d. IsJudged d c.in_ok-told.told) (source_of c.args.tree.now) c.as_str.result.now c.as_str-2.result.now _ _ c.as_str.ensures.value c.as_str-2.ensures.value
    c.in_ok-told.ensures

pub returns : goal.returns
returns c = c.of_judged.ensures
