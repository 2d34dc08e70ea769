-- What the stack of open constructs stands for.
use Rattle.std.specs.Prelude.{List, map, reverse}
use Rattle.verilog_text.specs.Text as pure
use Rattle.v_lex.specs.declared.opening.Opening.{Opening}
use Rattle.v_lex.specs.declared.opening.Opening.TheVariants as openings
use Rattle.v_lex.specs.declared.opening.Step.{Step}
use Rattle.v_lex.specs.declared.opening.Step.TheVariants as steps

abbrev pub opening_of : Opening → pure.Opening
opening_of openings.Parentheses = pure.in_parentheses
opening_of openings.Brackets = pure.in_brackets
opening_of openings.Braces = pure.in_braces
opening_of openings.Block = pure.in_block
opening_of openings.Case = pure.in_case
opening_of openings.If = pure.in_if
opening_of openings.Choice = pure.in_choice

-- the innermost first
abbrev pub openings_of : List Opening → List pure.Opening
openings_of xs = reverse (map opening_of xs)

abbrev pub step_view : Step → pure.Step
step_view (steps.Opens x) = pure.opens (opening_of x)
step_view (steps.Closes x) = pure.closes (opening_of x)
step_view steps.EndsStatement = pure.ends_statement
step_view steps.Parts = pure.parts
step_view steps.Stays = pure.stays
