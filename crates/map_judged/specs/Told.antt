-- What the code tells of expressions, by a scope and the names of clocks.
use Rattle.std.specs.Prelude.{ℕ, ◌+◌, ◌==◌, Bool, false, cond, not, List, [], ◌∷◌, Option, Some, None, is_some, option_map}
use Rattle.std.specs.List.{list_any}
use Rattle.wb_values.specs.Value.{Name}
use Rattle.wb_values.specs.Choice.{first_of, some_if}
use Rattle.verilog_meaning.specs.Expression.{width_of}
use Rattle.verilog_rules.specs.Expression.{has_width, refusal_of}
use Rattle.v_syntax.specs.Tree.{tree_of}
use Rattle.v_instances.specs.Texts.{texts}
use Rattle.v_value.specs.Scope.{scope_at}
use Rattle.v_clocks.specs.Views.{sets_of}
use Rattle.map_paths.specs.Tables.{numbers_in}
use Rattle.map_clocks.specs.Clocked.{is_clock_named}
use Rattle.map_judged.specs.declared.expression.MapExpression.{MapExpression}
use Rattle.map_judged.specs.declared.flaw.Flaw.{Flaw}
use Rattle.map_judged.specs.declared.flaw.Flaw.TheVariants.{BreaksRule, NamesClock}
use Rattle.map_judged.specs.declared.flaw.FirstFlaw.{FirstFlaw}
use Rattle.map_judged.specs.declared.known.KnownNames.{KnownNames}

-- ---- flaws

abbrev pub flaw_if : (is_refused names_clock : Bool) → Option Flaw
flaw_if is_refused names_clock = cond is_refused (Some BreaksRule) (some_if names_clock NamesClock)

abbrev pub is_clock_in : KnownNames → Name → Bool
is_clock_in x = is_clock_named (numbers_in x.instances) (sets_of x.nets.items)

abbrev pub flaw_of : KnownNames → MapExpression → Option Flaw
flaw_of k x = flaw_if (is_some (refusal_of (scope_at k.scope) (tree_of x.tree.now))) (list_any (is_clock_in k) (texts x.names.items))

abbrev pub numbered_flaw : ℕ → Flaw → FirstFlaw
numbered_flaw i f = record { index = i; flaw = f }

-- the first, where the number of the first of these is i
abbrev pub first_flaw_from : KnownNames → ℕ → List MapExpression → Option FirstFlaw
first_flaw_from k i [] = None
first_flaw_from k i (x ∷ xs) = first_of (option_map (numbered_flaw i) (flaw_of k x)) (first_flaw_from k (i + 1) xs)

-- ---- widths

abbrev pub differs_by : (wanted width : Option ℕ) → Bool
differs_by (Some w) (Some v) = not (v == w)
differs_by _ _ = false

abbrev pub is_mismatch : KnownNames → MapExpression → Bool
is_mismatch k x = differs_by x.width (some_if (has_width (scope_at k.scope) (tree_of x.tree.now)) (width_of (scope_at k.scope) (tree_of x.tree.now)))

abbrev pub first_mismatch_from : KnownNames → ℕ → List MapExpression → Option ℕ
first_mismatch_from k i [] = None
first_mismatch_from k i (x ∷ xs) = cond (is_mismatch k x) (Some i) (first_mismatch_from k (i + 1) xs)
