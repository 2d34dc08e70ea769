use Rattle.std.proofs.Common.{refl}
use Rattle.wb_values.specs.ReservedWords.{is_reserved}
use Rattle.v_expr.specs.Repeat.{repeated, many}
use Rattle.v_expr.specs.Reading.{expression_at, conditional_at, choices_at, tier_at, chain_at, linked_at, links_at, joins_at, prefixed_at, alone_at, named_at, selects_at, second_select_at, select_at, limits_at, second_at, limit_at, inside_at, converted_at, conversion_at, braces_at, copies_at, concatenation_at, expressions_at, more_parts_at, parts_at, next_at, number_at, number_expression_at, after_mark}
use Rattle.v_expr.proofs.worked.sign_of_base_is_read.Goals as goal

pub returns : goal.returns
unfolding expression_at conditional_at choices_at tier_at chain_at linked_at links_at joins_at prefixed_at alone_at named_at selects_at second_select_at select_at limits_at second_at limit_at inside_at converted_at conversion_at braces_at copies_at concatenation_at expressions_at more_parts_at parts_at next_at repeated many number_at number_expression_at after_mark is_reserved
returns c = refl
