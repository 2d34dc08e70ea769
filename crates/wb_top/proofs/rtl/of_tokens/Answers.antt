use Rattle.std.proofs.Common.{ℕ, List, map, string_bytes, subst, sym}
use Rattle.verilog_trees.specs.Syntax.{Source}
use Rattle.verilog_text.specs.Grammar.{IsSource}
use Rattle.v_syntax.specs.Source.{source_of}
use Rattle.v_token.specs.View.{tokens_of}
use Rattle.v_token.specs.declared.token.Token.{Token}
use Rattle.check_cases.specs.Kinds.{tree_kind}
use Rattle.wb_top.specs.Texts.{IsRefusalBy}
use Rattle.wb_top.proofs.Read.{tree_refused}
use Rattle.wb_top.proofs.rtl.of_tokens.Goals as goal

pub of_tree-requires : goal.of_tree-requires
of_tree-requires c = record {
  tokens = tokens_of c.args.tokens.items;
  are_tokens = c.requires;
  is_source = subst (λ (ts : List Token). IsSource (source_of c.in-Ok.tree) (tokens_of ts)) c.deref.ensures.value c.in-Ok.ensures.spelled;
}

pub returns-in-Some-clause-told : goal.returns-in-Some-clause-told
returns-in-Some-clause-told c =
    let none = subst (λ (ts : List Token). (ms : Source) → ¬ IsSource ms (tokens_of ts)) c.deref.ensures.value (rw c.in-Err-Refused.field-0-is at c.in-Err-Refused.ensures.spelled) in
    tree_refused (string_bytes c.args.design.now.top) (string_bytes c.args.design.now.clock) c.args.script.now (map (λ d. d.items) c.args.designs.now) _
    c.plain.result.text.items c.plain.result.status c.requires none c.plain.ensures.status
    (subst (λ (t : List ℕ). IsRefusalBy tree_kind t) (sym c.plain.ensures.text) c.in_ok-text-in-Some.ensures)
