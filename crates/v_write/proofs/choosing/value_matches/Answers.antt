use Rattle.std.proofs.Common.{sym, subst}
use Rattle.wb_values.specs.Value.{word}
use Rattle.verilog_meaning.specs.Expression.{value_of}
use Rattle.verilog_meaning.specs.Statement.{wild_bits, matches}
use Rattle.v_syntax.specs.Tree.{number_of, tree_of, case_kind_of}
use Rattle.v_value.specs.Scope.{scope_at}
use Rattle.v_operators.proofs.Growing.{IsOfSort-kept}
use Rattle.v_operators.proofs.Testing.{at_most_128}
use Rattle.v_lower.specs.Table.{images_at}
use Rattle.v_lower.specs.Walking.{IsSound}
use Rattle.v_write.specs.Matching.{IsTestOf}
use Rattle.v_write.proofs.Values.{number_is, judged_whole, no_wild_bits, number_fits, within_context}
use Rattle.v_write.proofs.Matches.{test_made, equal_matches}
use Rattle.v_write.proofs.choosing.value_matches.Goals as goal

pub number_matches-requires-clause-some_bits : goal.number_matches-requires-clause-some_bits
number_matches-requires-clause-some_bits c =
    (number_fits (scope_at c.args.scope.now) (case_kind_of c.args.selector.kind) (tree_of c.args.value.now) (number_of c.in-Some.number) c.args.selector.width c.requires.objects c.in-Some.ensures c.requires.sound c.requires.within).0

pub number_matches-requires-clause-fits : goal.number_matches-requires-clause-fits
number_matches-requires-clause-fits c =
    (number_fits (scope_at c.args.scope.now) (case_kind_of c.args.selector.kind) (tree_of c.args.value.now) (number_of c.in-Some.number) c.args.selector.width c.requires.objects c.in-Some.ensures c.requires.sound c.requires.within).1

pub number_matches-requires-clause-within : goal.number_matches-requires-clause-within
number_matches-requires-clause-within c =
    (number_fits (scope_at c.args.scope.now) (case_kind_of c.args.selector.kind) (tree_of c.args.value.now) (number_of c.in-Some.number) c.args.selector.width c.requires.objects c.in-Some.ensures c.requires.sound c.requires.within).2

pub returns-in_ok-said-in-Some-clause-test : goal.returns-in_ok-said-in-Some-clause-test
returns-in_ok-said-in-Some-clause-test c =
    subst (λ e. IsTestOf (scope_at c.args.scope.now) (images_at c.args.table.now) c.args.terms.now c.number_matches.new.terms c.args.selector.id.0 c.args.selector.width c.in_ok-said-in-Some.said.0
    (λ v a. matches (case_kind_of c.args.selector.kind) (wild_bits e) a (value_of (scope_at c.args.scope.now) v e c.args.selector.width c.args.selector.signed)))
    (sym (number_is (tree_of c.args.value.now) (number_of c.in-Some.number) c.in-Some.ensures)) (c.in_ok-said-in-Some.ensures.test (scope_at c.args.scope.now) (images_at c.args.table.now) c.requires.known)

pub lowered-requires-clause-sound : goal.lowered-requires-clause-sound
lowered-requires-clause-sound c = subst (λ e. IsSound (scope_at c.args.scope.now) e) (judged_whole (case_kind_of c.args.selector.kind) (tree_of c.args.value.now) c.in-None.ensures) c.requires.sound

pub lowered-requires-clause-within : goal.lowered-requires-clause-within
lowered-requires-clause-within c = within_context (scope_at c.args.scope.now) (tree_of c.args.value.now) c.args.selector.width c.requires.within

pub lowered-requires-clause-at_most_128 : goal.lowered-requires-clause-at_most_128
lowered-requires-clause-at_most_128 c = at_most_128 c.args.terms.now c.args.selector.id.0 c.args.selector.width c.requires.selector

pub is_equal-requires-clause-left : goal.is_equal-requires-clause-left
is_equal-requires-clause-left c = IsOfSort-kept c.args.selector.id.0 (word c.args.selector.width) c.in_ok-id-in-None.ensures.grows c.requires.selector

pub is_equal-requires-clause-right : goal.is_equal-requires-clause-right
is_equal-requires-clause-right c = c.in_ok-id-in-None.ensures.lowered.of_sort

pub returns-in_ok-said-in-None-clause-test : goal.returns-in_ok-said-in-None-clause-test
returns-in_ok-said-in-None-clause-test c =
    test_made (scope_at c.args.scope.now) (images_at c.args.table.now) c.args.terms.now c.lowered.new.terms c.is_equal.new.terms c.args.selector.id.0 c.in_ok-id-in-None.id.0 c.in_ok-said-in-None.said.0 c.args.selector.width (wild_bits (tree_of c.args.value.now)) (case_kind_of c.args.selector.kind) (tree_of c.args.value.now) c.args.selector.signed _
    (equal_matches (case_kind_of c.args.selector.kind) (wild_bits (tree_of c.args.value.now)) (no_wild_bits (tree_of c.args.value.now) c.in-None.ensures)) c.requires.known c.requires.selector c.in_ok-id-in-None.ensures.grows c.in_ok-id-in-None.ensures.lowered
    c.in_ok-said-in-None.ensures.grows c.in_ok-said-in-None.ensures.made
