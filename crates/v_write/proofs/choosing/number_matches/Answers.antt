use Rattle.std.proofs.Common.{None, ap, sym}
use Rattle.wb_values.specs.Value.{word}
use Rattle.verilog_trees.specs.Syntax.{number}
use Rattle.verilog_meaning.specs.Expression.{undeclared}
use Rattle.verilog_meaning.specs.Statement.{matches}
use Rattle.v_syntax.specs.Tree.{number_of, case_kind_of}
use Rattle.v_operators.proofs.Growing.{IsOfSort-kept}
use Rattle.v_operators.proofs.Testing.{at_most_128}
use Rattle.v_write.proofs.Matches.{test_made}
use Rattle.v_write.proofs.choosing.number_matches.Goals as goal

pub lower_number-requires-clause-at_most_128 : goal.lower_number-requires-clause-at_most_128
lower_number-requires-clause-at_most_128 c = at_most_128 c.args.terms.now c.args.selector.id.0 c.args.selector.width c.requires.selector

pub is_equal-requires-clause-left : goal.is_equal-requires-clause-left
is_equal-requires-clause-left c = IsOfSort-kept c.args.selector.id.0 (word c.args.selector.width) c.in_ok-id.ensures.grows c.requires.selector

pub is_equal-requires-clause-right : goal.is_equal-requires-clause-right
is_equal-requires-clause-right c = (c.in_ok-id.ensures.lowered (λ n. undeclared) (λ n. None)).of_sort

pub returns-in_ok-said-in-Exact-clause-test : goal.returns-in_ok-said-in-Exact-clause-test
returns-in_ok-said-in-Exact-clause-test c s im known =
    test_made s im c.args.terms.now c.lower_number.new.terms c.is_equal.new.terms c.args.selector.id.0 c.in_ok-id.id.0 c.in_ok-said-in-Exact.said.0 c.args.selector.width c.args.number.wild (case_kind_of c.args.selector.kind) (number (number_of c.args.number)) c.args.selector.signed _
    (λ a b. sym (ap (λ k. matches (case_kind_of k) c.args.number.wild a b) c.in-Exact.is)) known c.requires.selector c.in_ok-id.ensures.grows (c.in_ok-id.ensures.lowered s im) c.in_ok-said-in-Exact.ensures.grows c.in_ok-said-in-Exact.ensures.made

pub is_equal_but_for-requires-clause-left : goal.is_equal_but_for-requires-clause-left
is_equal_but_for-requires-clause-left c = IsOfSort-kept c.args.selector.id.0 (word c.args.selector.width) c.in_ok-id.ensures.grows c.requires.selector

pub is_equal_but_for-requires-clause-right : goal.is_equal_but_for-requires-clause-right
is_equal_but_for-requires-clause-right c = (c.in_ok-id.ensures.lowered (λ n. undeclared) (λ n. None)).of_sort

pub returns-in_ok-said-in-Wild-clause-test : goal.returns-in_ok-said-in-Wild-clause-test
returns-in_ok-said-in-Wild-clause-test c s im known =
    test_made s im c.args.terms.now c.lower_number.new.terms c.is_equal_but_for.new.terms c.args.selector.id.0 c.in_ok-id.id.0 c.in_ok-said-in-Wild.said.0 c.args.selector.width c.args.number.wild (case_kind_of c.args.selector.kind) (number (number_of c.args.number)) c.args.selector.signed _
    (λ a b. sym (ap (λ k. matches (case_kind_of k) c.args.number.wild a b) c.in-Wild.is)) known c.requires.selector c.in_ok-id.ensures.grows (c.in_ok-id.ensures.lowered s im) c.in_ok-said-in-Wild.ensures.grows c.in_ok-said-in-Wild.ensures.made
