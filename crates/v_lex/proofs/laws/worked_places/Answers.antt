use Rattle.std.proofs.Common.{refl}
use Rattle.wb_values.specs.ReservedWords.{is_reserved}
use Rattle.verilog_text.specs.Token.{marks}
use Rattle.verilog_text.specs.Lexical.{run_length, blank_length, closing_length, string_length, longest_of, mark_at, word_piece, word_front, fraction_length, signed_length, exponent_length, real_length, number_at, is_digit_of, are_digits_of, digits_length, base_length, behind_quote, based_at, system_piece, system_at, escaped_at, slash_at, is_star_alone, bracket_at, passed_length, continued_length, defined_length, definition_length, name_behind, definition_at, conditional_directive_at, directive_from, directive_at, conditional_behind, read_at, left_out_at}
use Rattle.verilog_text.specs.Text.{macro_after, open_after, front_after, without_byte_order_mark}
use Rattle.v_lex.specs.Spots.{text_after, with_placed_parts, with_placed_text, with_placed_file, with_placed_files, spots_read, spots_outside, spots_in}
use Rattle.v_lex.proofs.laws.worked_places.Goals as goal

pub returns-clause-behind_a_comment : goal.returns-clause-behind_a_comment
unfolding is_reserved marks run_length blank_length closing_length string_length longest_of mark_at word_piece word_front fraction_length signed_length exponent_length real_length number_at is_digit_of are_digits_of digits_length base_length behind_quote based_at system_piece system_at escaped_at slash_at is_star_alone bracket_at passed_length continued_length defined_length definition_length name_behind definition_at conditional_directive_at directive_from directive_at conditional_behind read_at left_out_at macro_after open_after front_after without_byte_order_mark text_after with_placed_parts with_placed_text with_placed_file with_placed_files spots_read spots_outside spots_in
returns-clause-behind_a_comment c = refl

pub returns-clause-of_a_macro : goal.returns-clause-of_a_macro
unfolding is_reserved marks run_length blank_length closing_length string_length longest_of mark_at word_piece word_front fraction_length signed_length exponent_length real_length number_at is_digit_of are_digits_of digits_length base_length behind_quote based_at system_piece system_at escaped_at slash_at is_star_alone bracket_at passed_length continued_length defined_length definition_length name_behind definition_at conditional_directive_at directive_from directive_at conditional_behind read_at left_out_at macro_after open_after front_after without_byte_order_mark text_after with_placed_parts with_placed_text with_placed_file with_placed_files spots_read spots_outside spots_in
returns-clause-of_a_macro c = refl

pub returns-clause-outside_macros : goal.returns-clause-outside_macros
unfolding is_reserved marks run_length blank_length closing_length string_length longest_of mark_at word_piece word_front fraction_length signed_length exponent_length real_length number_at is_digit_of are_digits_of digits_length base_length behind_quote based_at system_piece system_at escaped_at slash_at is_star_alone bracket_at passed_length continued_length defined_length definition_length name_behind definition_at conditional_directive_at directive_from directive_at conditional_behind read_at left_out_at macro_after open_after front_after without_byte_order_mark text_after with_placed_parts with_placed_text with_placed_file with_placed_files spots_read spots_outside spots_in
returns-clause-outside_macros c = refl
