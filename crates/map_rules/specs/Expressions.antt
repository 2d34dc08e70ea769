-- Expressions of a map: which tree a text has, what its names mean, and what is refused in it.
use Rattle.std.specs.Prelude.{◌≡◌, Bool, false, not, ◌&&◌, ◌==◌, List, [], ◌∷◌, Contains, Option, Some, None, is_some, Ok, IsTrue}
use Rattle.wb_values.specs.Value.{Name, same_name}
use Rattle.verilog_trees.specs.Syntax.{Expression}
use Rattle.verilog_text.specs.Token.{Token}
use Rattle.verilog_text.specs.Text.{tokens_in}
use Rattle.verilog_text.specs.Grammar.{IsDottedExpression}
use Rattle.verilog_meaning.specs.Expression.{Scope, object_width}
use Rattle.verilog_meaning.specs.Hierarchy.{Placed, placed_scope, dotted}
use Rattle.verilog_meaning.specs.Settled.{Design, at_path}
use Rattle.verilog_rules.specs.Expression.{refusal_of}
use Rattle.verilog_designs.specs.Names.{names_in}
use Rattle.verilog_designs.specs.Clocks.{IsClockNet}
use Rattle.verilog_designs.specs.Accepted.{is_input_port}
use Rattle.refinement.specs.Map.{dotted_parts, object_at}
use Rattle.map_files.specs.Written.{Text}
use Rattle.map_rules.specs.Case.{MapCase, case_design, expression_texts}

-- The text is read as this expression. It is read by itself, as a file of its own: macros of the source mean nothing in it. Identifiers
-- with dots between them are one name.
pub record ReadsAs (t : Text) (e : Expression) : Type 0 where
  pub tokens : List Token
  pub are_tokens : tokens_in (t ∷ []) ≡ Ok tokens
  pub is_spelled : IsDottedExpression e tokens

-- What names mean: those of the top, and paths from it into instances.
abbrev pub design_scope : Design → Scope
design_scope d n = object_at d [] (dotted_parts n)

-- A clock net of the design, of the top or below it, is named.
pub record NamesClock (d : Design) (e : Expression) : Type 0 where
  pub within : Placed
  pub net : Name
  pub is_clock : IsClockNet d within net
  pub is_named : Contains (names_in e) (dotted within.path net)

-- The text has no tokens or no tree; or it breaks a rule on expressions (it names what the design lacks, has an x or a z digit, wants a
-- constant that is none, is too wide, or selects what cannot be selected); or it names a clock.
pub data IsBadExpression (d : Design) (t : Text) : Type 0 where
  no_expression : ((e : Expression) → ¬ ReadsAs t e) → IsBadExpression d t
  breaks_rule : (e : Expression) → ReadsAs t e → IsTrue (is_some (refusal_of (design_scope d) e)) → IsBadExpression d t
  names_clock : (e : Expression) → ReadsAs t e → NamesClock d e → IsBadExpression d t

-- an input port of the top of one bit
abbrev pub is_one_bit_input : Option Placed → Name → Bool
is_one_bit_input None n = false
is_one_bit_input (Some p) n = is_input_port p.of_module n && (object_width (placed_scope p n) == 1)

-- the reset's signal is such a port, and not the clock
abbrev pub is_reset : Design → Name → Bool
is_reset d n = is_one_bit_input (at_path d []) n && not (same_name n d.clock)

-- BadExpression: an expression of the map is bad; or the reset is no one-bit input port of the top other than the clock.
pub data HasBadExpression (c : MapCase) : Type 0 where
  an_expression : (t : Text) → Contains (expression_texts c) t → IsBadExpression (case_design c) t → HasBadExpression c
  the_reset : IsTrue (not (is_reset (case_design c) c.written.reset.signal)) → HasBadExpression c
