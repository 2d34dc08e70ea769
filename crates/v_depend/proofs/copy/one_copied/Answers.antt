use Rattle.std.proofs.Common.{◌∙◌, ap, sym}
use Rattle.verilog_trees.specs.Syntax.{one}
use Rattle.verilog_meaning.specs.Expression.{is_memory}
use Rattle.v_syntax.specs.Tree.{select_of}
use Rattle.v_value.specs.Scope.{object_of, scope_at}
use Rattle.v_value.specs.Index.{span_of}
use Rattle.v_masks.specs.Masks.{masked}
use Rattle.v_masks.proofs.Bits.{set-none}
use Rattle.v_depend.proofs.Copied.{memory-copies, one-width, one-found}
use Rattle.v_depend.proofs.copy.one_copied.Goals as goal

pub returns-then-is_some : goal.returns-then-is_some
returns-then-is_some c = λ j l.
    set-none j
    ∙ memory-copies (masked c.args.unsettled.now) (scope_at c.args.scope.now) c.args.name.now (one (select_of c.args.select.now)) j
    (λ k b. c.requires.variables c.args.name.now k b (sym (ap is_memory c.object-object.ensures) ∙ (sym c.is_some.ensures ∙ c.if-is_some.true)))

pub bits_of-requires-clause-some_bits : goal.bits_of-requires-clause-some_bits
bits_of-requires-clause-some_bits c =
    (one-width (scope_at c.args.scope.now) c.args.name.now (select_of c.args.select.now) (object_of c.object-object.result) (span_of c.select_bits.result)
    c.object-object.ensures (sym c.is_some.ensures ∙ c.if-is_some.false) c.requires.narrow c.select_bits.ensures).0

pub bits_of-requires-clause-at_most_128 : goal.bits_of-requires-clause-at_most_128
bits_of-requires-clause-at_most_128 c =
    (one-width (scope_at c.args.scope.now) c.args.name.now (select_of c.args.select.now) (object_of c.object-object.result) (span_of c.select_bits.result)
    c.object-object.ensures (sym c.is_some.ensures ∙ c.if-is_some.false) c.requires.narrow c.select_bits.ensures).1

pub returns : goal.returns
returns c = λ j l.
    one-found (masked c.args.unsettled.now) (scope_at c.args.scope.now) c.args.name.now (select_of c.args.select.now) (object_of c.object-object.result)
    c.held_word-word.result.value c.bits_of.result.value j (span_of c.select_bits.result) c.object-object.ensures c.held_word-word.ensures.bits
    (sym c.is_some.ensures ∙ c.if-is_some.false) c.bits_of.ensures.value c.select_bits.ensures
