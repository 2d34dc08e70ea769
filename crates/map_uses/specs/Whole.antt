-- The expressions of a whole map that may use no input, among all of them in their order.
use Rattle.std.specs.Prelude.{◌≡◌, ◌↔◌, ℕ, Bool, true, false, List, [], ◌∷◌, ◌++◌, Option, is_some, IsTrue}
use Rattle.model_meaning.specs.Model.{Model}
use Rattle.verilog_trees.specs.Syntax.{Expression}
use Rattle.verilog_meaning.specs.Expression.{Scope}
use Rattle.verilog_rules.specs.Expression.{anywhere, broken}
use Rattle.refinement.specs.Map.{Map}
use Rattle.map_files.specs.Written.{Text}
use Rattle.map_rules.specs.Case.{MapCase, case_design}
use Rattle.map_rules.specs.Expressions.{ReadsAs}
use Rattle.map_rules.specs.Inputs.{HasMapInput}
use Rattle.map_rules.specs.Accepted.{StandsForMap}
use Rattle.map_judged.specs.Whole.{state_values, asked_in}
use Rattle.map_uses.specs.Users.{IsFirstUser, AreOfTexts}

-- one flag for each of a list
abbrev pub flag_each : {A : Type 0} → Bool → List A → List Bool
flag_each b [] = []
flag_each b (x ∷ xs) = b ∷ flag_each b xs

-- Those of invariants, and of states that are no memories, among all expressions of a map in the order of its keys.
abbrev pub asked_flags : Model → Map → List Bool
asked_flags m p =
    flag_each false p.assume ++ (flag_each true p.invariants ++ false
    ∷ (flag_each true (state_values m p.states) ++ (flag_each false p.inputs ++ flag_each false p.instructions)))

-- The written map breaks the rule on inputs exactly where one of these uses an input.
abbrev pub FirstUsersBreakTheRule : Type 0
FirstUsersBreakTheRule =
    (c : MapCase) (p : Map) (o : Option ℕ) → StandsForMap c.model c.written p → IsFirstUser (case_design c) (asked_in c.model p) (asked_flags c.model p) o
    → HasMapInput c ↔ IsTrue (is_some o)

-- All expressions of a map that a written one stands for are of texts, if in what a text is read as numbers fit and parts have bits.
abbrev pub ReadExpressionsAreOfTexts : Type 0
ReadExpressionsAreOfTexts =
    (c : MapCase) (p : Map) → ((t : Text) (e : Expression) (s : Scope) → ReadsAs t e → (broken s anywhere e).misshapen ≡ false)
    → StandsForMap c.model c.written p → AreOfTexts (asked_in c.model p)
