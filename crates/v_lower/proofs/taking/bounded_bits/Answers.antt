use Rattle.std.proofs.Common.{◌≤◌, ◌∙◌, ap, sym, subst}
use Rattle.verilog_meaning.specs.Expression.{Bits, no_values}
use Rattle.v_syntax.specs.Tree.{select_of}
use Rattle.v_value.specs.Scope.{object_of, scope_at}
use Rattle.v_value.specs.Index.{span_of}
use Rattle.v_value.specs.Narrow.{IsWidth}
use Rattle.v_value.proofs.Selected.{count-is}
use Rattle.v_lower.specs.Table.{images_at}
use Rattle.v_lower.proofs.Taken.{takes_between}
use Rattle.v_lower.proofs.taking.bounded_bits.Goals as goal

pub select_bits-span-requires-clause-count : goal.select_bits-span-requires-clause-count
select_bits-span-requires-clause-count c = subst IsWidth (sym (count-is (scope_at c.args.names.scope.now) no_values (object_of c.args.object) (select_of c.args.select.now))) c.requires.taken.width

pub fixed_bits-requires-clause-some_bits : goal.fixed_bits-requires-clause-some_bits
fixed_bits-requires-clause-some_bits c =
    subst (λ k. 1 ≤ k) (sym (ap (λ (b : Bits). b.count) c.select_bits-span.ensures ∙ count-is (scope_at c.args.names.scope.now) no_values (object_of c.args.object) (select_of c.args.select.now))) c.requires.taken.width.0

pub fixed_bits-requires-clause-at_most_128 : goal.fixed_bits-requires-clause-at_most_128
fixed_bits-requires-clause-at_most_128 c =
    subst (λ k. k ≤ 128) (sym (ap (λ (b : Bits). b.count) c.select_bits-span.ensures ∙ count-is (scope_at c.args.names.scope.now) no_values (object_of c.args.object) (select_of c.args.select.now))) c.requires.taken.width.1

pub returns-clause-bits : goal.returns-clause-bits
returns-clause-bits c =
    takes_between (scope_at c.args.names.scope.now) (images_at c.args.names.table.now) c.args.terms.now c.fixed_bits.new.terms (object_of c.args.object) (select_of c.args.select.now) c.args.operand.id.0 c.args.operand.width c.in_ok-id.id.0
    (span_of c.select_bits-span.result) c.requires.bounded c.select_bits-span.ensures c.in_ok-id.ensures.made
