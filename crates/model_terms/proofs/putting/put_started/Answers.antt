use Rattle.std.proofs.Common.{◌≡◌, ◌∙◌, ◌+◌, ◌-◌, ◌<◌, ◌≤◌, ◌++◌, ◌∷◌, ◌&&◌, [], List, Vec, Global, Option, Some, None, true, false, cond, suc, length, take, drop, get_or, refl, sym, ap, subst, arith}
use Rattle.term_copies.proofs.Extending.{extended_refl, extended_trans}
use Rattle.model_terms.specs.declared.putting.InstructionTerms.{InstructionTerms}
use Rattle.model_terms.specs.Symbolic.{is_true, IsTest}
use Rattle.model_terms.specs.Puts.{exactly_one}
use Rattle.model_terms.proofs.Choosing.{test_condition, test_kept, true_kept}
use Rattle.model_terms.proofs.Telling.{bools, decodes_at, counted_start, counted_turn, counted_end}
use Rattle.model_terms.proofs.putting.put_started.Goals as goal

pub returns-in_err-one-clause-extended : goal.returns-in_err-one-clause-extended
returns-in_err-one-clause-extended c = extended_trans c.in_ok-none.ensures.extended c.put_truth-2.ensures.extended

pub loop-done-init : goal.loop-done-init
loop-done-init c =
    counted_start c.args.instructions.now c.in_ok-none.none.0 c.in_ok-one.one.0 c.in_ok-none.ensures.extended c.in_ok-one.ensures.extended c.in_ok-none.ensures.test c.in_ok-one.ensures.test
    c.in_ok-none.ensures.value c.in_ok-one.ensures.value

pub put_test-requires-clause-condition : goal.put_test-requires-clause-condition
put_test-requires-clause-condition c =
    let g = c.args.terms.now in
    let ts = c.args.instructions.now in
    let l = c.loop-done in
    let t = c.index-instructions-instructions.result in
    let k = length ts - 1 - l.done in
    let within : k < length ts = omega (arith, c.loop-done-test.true) in
    let test = subst (λ (x : InstructionTerms). IsTest g x.decode.0) (sym c.index-instructions-instructions.is) (decodes_at g ts k t c.requires.decodes within) in
    test_condition l.terms t.decode.0 (test_kept t.decode.0 l.invariant.extended test)

pub put_test-requires-clause-first : goal.put_test-requires-clause-first
put_test-requires-clause-first c = c.loop-done.invariant.none_test

pub put_test-requires-clause-second : goal.put_test-requires-clause-second
put_test-requires-clause-second c = c.loop-done.invariant.one_test

pub put_unless-requires-clause-condition : goal.put_unless-requires-clause-condition
put_unless-requires-clause-condition c =
    let g = c.args.terms.now in
    let ts = c.args.instructions.now in
    let l = c.loop-done in
    let t = c.index-instructions-instructions.result in
    let k = length ts - 1 - l.done in
    let within : k < length ts = omega (arith, c.loop-done-test.true) in
    let test = subst (λ (x : InstructionTerms). IsTest g x.decode.0) (sym c.index-instructions-instructions.is) (decodes_at g ts k t c.requires.decodes within) in
    test_condition c.put_test.new.terms t.decode.0 (test_kept t.decode.0 (extended_trans l.invariant.extended c.in_ok-one-2.ensures.extended) test)

pub put_unless-requires-clause-test : goal.put_unless-requires-clause-test
put_unless-requires-clause-test c = test_kept c.loop-done.none.0 c.in_ok-one-2.ensures.extended c.loop-done.invariant.none_test

pub loop-done-preserved : goal.loop-done-preserved
loop-done-preserved c =
    let ts = c.args.instructions.now in
    let l = c.loop-done in
    counted_turn ts (length ts - 1 - l.done) l.done c.index-instructions-instructions.result l.none.0 l.one.0 c.in_ok-none-2.none.0 c.in_ok-one-2.one.0 refl c.loop-done-test.true c.index-instructions-instructions.is c.requires.decodes l.invariant
    c.in_ok-one-2.ensures.extended c.in_ok-one-2.ensures.test c.in_ok-one-2.ensures.value c.in_ok-none-2.ensures.extended c.in_ok-none-2.ensures.test c.in_ok-none-2.ensures.value

pub returns-in_err-one-2-clause-extended : goal.returns-in_err-one-2-clause-extended
returns-in_err-one-2-clause-extended c = extended_trans c.loop-done.invariant.extended c.put_test.ensures.extended

pub returns-in_err-none-2-clause-extended : goal.returns-in_err-none-2-clause-extended
returns-in_err-none-2-clause-extended c = extended_trans c.loop-done.invariant.extended (extended_trans c.put_test.ensures.extended c.put_unless.ensures.extended)

pub put_both-requires-clause-test : goal.put_both-requires-clause-test
put_both-requires-clause-test c = c.loop-done.invariant.one_test

pub put_both-requires-clause-condition : goal.put_both-requires-clause-condition
put_both-requires-clause-condition c = test_condition c.loop-done.terms c.args.valid.0 (test_kept c.args.valid.0 c.loop-done.invariant.extended c.requires.valid)

pub returns-in_err-started-clause-extended : goal.returns-in_err-started-clause-extended
returns-in_err-started-clause-extended c = extended_trans c.loop-done.invariant.extended c.put_both.ensures.extended

pub returns-clause-extended : goal.returns-clause-extended
returns-clause-extended c = extended_trans c.loop-done.invariant.extended c.in_ok-started.ensures.extended

pub returns-clause-value : goal.returns-clause-value
returns-clause-value c v =
    let g = c.args.terms.now in
    let ts = c.args.instructions.now in
    let l = c.loop-done in
    let all = counted_end ts l.done l.none.0 l.one.0 c.loop-done-test.false l.invariant in
    c.in_ok-started.ensures.value v ∙ ap (λ b. b && is_true l.terms c.args.valid.0 v) (all.one_value v)
    ∙ ap (λ b. exactly_one (bools g ts v) && b) (true_kept c.args.valid.0 v l.invariant.extended c.requires.valid.below)
