-- What is expected can stand: each symbol has a text.
use Rattle.std.proofs.Common.{◌≡◌, ℕ, true, List, [], ◌∷◌, Option, Some, None, refl}
use Rattle.std.specs.Prelude.{codes}
use Rattle.wb_values.specs.Value.{Name}
use Rattle.wb_values.specs.ReservedWords.{is_reserved}
use Rattle.verilog_text.specs.Token.{Mark, right_parenthesis, right_bracket, right_brace, semicolon, colon, equals, star, plus, Token, word, system, decimal, based, mark}
use Rattle.verilog_trees.specs.Syntax as tree
use Rattle.verilog_text.specs.Spelling as spelled
use Rattle.verilog_text.specs.Spelling.{IsIdentifier, plain_number, IsExpression}
use Rattle.verilog_text.specs.Grammar as grammar
use Rattle.v_place.specs.Table.{Symbol, token, whole, operand, operand_rest, digits, selects, second_select, limit, braces_rest, more_parts, target, more_targets, statement, assignment_rest, else_part, block_name, statements, first_item, case_items, last_items, more_values, more_last_values, perhaps_colon, net_kind, sign, range, perhaps_value, more_names, more_settings, more_nets, more_variables, more_assignments, overrides, connections, entry, more_named, more_entries, more_instances, control, first_event, event, more_events, items, header_parameters, more_parameters, next_parameter, header_ports, first_port, more_listed, more_ports, next_port, modules, rules, is_optional, Terminal, a_name, a_decimal, a_based, a_conversion, a_prefix, an_operator, the_word, the_mark}
use Rattle.v_place.proofs.Terminals.{IsToken}
use Rattle.v_place.proofs.Meaning.{no_item, Means, At, Spells}
use Rattle.v_place.proofs.Sound.{raised}
use Rattle.v_place.proofs.Rules.{sound, left_out}

x : Name
x = codes "x"

is_free : IsIdentifier x
unfolding is_reserved x
is_free = refl

abbrev HasText : Symbol → List Token → Type 0
HasText s rest = (text : List Token) × At s text rest

a_token : (t : Terminal) (rest : List Token) → HasText (token t) rest
a_token a_name rest = (word x ∷ rest, (x, is_free, refl))
a_token a_decimal rest = (decimal [] ∷ rest, ([], refl))
a_token a_based rest = (based [] ∷ rest, ([], refl))
a_token a_conversion rest = (system (codes "$signed") ∷ rest, (codes "$signed", refl, refl))
a_token a_prefix rest = (mark plus ∷ rest, (plus, _, refl, refl))
a_token an_operator rest = (mark plus ∷ rest, (plus, _, refl, refl))
a_token (the_word w) rest = (word w ∷ rest, refl)
a_token (the_mark m) rest = (mark m ∷ rest, refl)

zero_number : (rest : List Token) → IsExpression 13 (tree.number (plain_number [])) (decimal [] ∷ rest) rest
zero_number rest = spelled.a_number (plain_number []) (decimal [] ∷ rest) rest (spelled.plain [] rest)

zero_text : (rest : List Token) → Means whole (decimal [] ∷ rest) rest
zero_text rest = (tree.number (plain_number []), raised 13 0 _ _ rest (zero_number rest))

empty_body : (rest : List Token) → Means statement (mark semicolon ∷ rest) rest
empty_body rest = (tree.empty, grammar.nothing rest)

without : (s : Symbol) → is_optional s ≡ true → (rest : List Token) → HasText s rest
without s e rest = (rest, left_out s e rest)

filled : (s : Symbol) (rest : List Token) → HasText s rest
unfolding rules is_optional
filled (token t) rest = a_token t rest
filled whole rest = (decimal [] ∷ rest, zero_text rest)
filled operand rest = (decimal [] ∷ rest, (tree.number (plain_number []), spelled.tighter 12 _ _ rest (zero_number rest)))
filled limit rest = (mark right_bracket ∷ rest, (sound limit).0 rest)
filled braces_rest rest = (mark right_brace ∷ rest, (sound braces_rest).1.1.0 rest)
filled more_parts rest = (mark right_brace ∷ rest, (sound more_parts).1.0 rest)
filled target rest = (word x ∷ rest, (sound target).0 rest rest (tree.whole, spelled.no_select rest) x is_free)
filled more_targets rest = (mark right_brace ∷ rest, (sound more_targets).1.0 rest)
filled statement rest = (mark semicolon ∷ rest, empty_body rest)
filled assignment_rest rest = (mark equals ∷ decimal [] ∷ mark semicolon ∷ rest, (sound assignment_rest).0 rest (decimal [] ∷ mark semicolon ∷ rest) (zero_text (mark semicolon ∷ rest)))
filled statements rest = (word (codes "end") ∷ rest, (sound statements).0 rest)
filled first_item rest =
    let last = word (codes "endcase") ∷ rest in
    (word (codes "default") ∷ mark semicolon ∷ last, (sound first_item).0 rest last (no_item rest) (mark semicolon ∷ last) (empty_body last) (mark semicolon ∷ last) (grammar.without_colon (mark semicolon ∷ last)))
filled case_items rest = (word (codes "endcase") ∷ rest, no_item rest)
filled last_items rest = (word (codes "endcase") ∷ rest, no_item rest)
filled more_values rest =
    let last = word (codes "endcase") ∷ rest in
    (mark colon ∷ mark semicolon ∷ last, (sound more_values).1.0 rest last (no_item rest) (mark semicolon ∷ last) (empty_body last))
filled more_last_values rest =
    let last = word (codes "endcase") ∷ rest in
    (mark colon ∷ mark semicolon ∷ last, (sound more_last_values).1.0 rest last (no_item rest) (mark semicolon ∷ last) (empty_body last))
filled more_names rest = (mark semicolon ∷ rest, (sound more_names).1.0 rest)
filled more_settings rest = (mark semicolon ∷ rest, (sound more_settings).1.0 rest)
filled more_nets rest = (mark semicolon ∷ rest, (sound more_nets).1.0 rest)
filled more_variables rest = (mark semicolon ∷ rest, (sound more_variables).1.0 rest)
filled more_assignments rest = (mark semicolon ∷ rest, (sound more_assignments).1.0 rest)
filled connections rest = (mark right_parenthesis ∷ rest, (sound connections).1.1.0 rest)
filled more_named rest = (mark right_parenthesis ∷ rest, (sound more_named).1.0 rest)
filled more_entries rest = (mark right_parenthesis ∷ rest, (sound more_entries).1.0 rest)
filled more_instances rest = (mark semicolon ∷ rest, (sound more_instances).1.0 rest)
filled control rest = (mark star ∷ rest, (sound control).0 rest)
filled first_event rest = (mark star ∷ mark right_parenthesis ∷ rest, (sound first_event).0 rest)
filled event rest = (word x ∷ rest, (sound event).0 rest x is_free)
filled more_events rest = (mark right_parenthesis ∷ rest, (sound more_events).1.1.0 rest)
filled items rest = (word (codes "endmodule") ∷ rest, ([], grammar.no_more (word (codes "endmodule") ∷ rest)))
filled more_parameters rest = (mark right_parenthesis ∷ rest, (sound more_parameters).1.0 rest)
filled next_parameter rest =
    let last = mark right_parenthesis ∷ rest in
    (word x ∷ mark equals ∷ decimal [] ∷ last, (sound next_parameter).0 rest last ((sound more_parameters).1.0 rest) (decimal [] ∷ last) (zero_text last) x is_free)
filled first_port rest = (mark right_parenthesis ∷ rest, (sound first_port).0 rest)
filled more_listed rest = (mark right_parenthesis ∷ rest, (sound more_listed).1.0 rest)
filled more_ports rest = (mark right_parenthesis ∷ rest, (sound more_ports).1.0 rest)
filled next_port rest =
    let last = mark right_parenthesis ∷ rest in
    (word x ∷ last, (sound next_port).0 rest last ((sound more_ports).1.0 rest) x is_free)
filled operand_rest rest = without operand_rest refl rest
filled digits rest = without digits refl rest
filled selects rest = without selects refl rest
filled second_select rest = without second_select refl rest
filled else_part rest = without else_part refl rest
filled block_name rest = without block_name refl rest
filled perhaps_colon rest = without perhaps_colon refl rest
filled net_kind rest = without net_kind refl rest
filled sign rest = without sign refl rest
filled range rest = without range refl rest
filled perhaps_value rest = without perhaps_value refl rest
filled overrides rest = without overrides refl rest
filled entry rest = without entry refl rest
filled header_parameters rest = without header_parameters refl rest
filled header_ports rest = without header_ports refl rest
filled modules rest = without modules refl rest

pub all_filled : (ss : List Symbol) (rest : List Token) → (text : List Token) × Spells ss text rest
all_filled [] rest = (rest, refl)
all_filled (s ∷ ss) rest = let more = all_filled ss rest in let first = filled s more.0 in (first.0, (more.0, first.1, more.1))
