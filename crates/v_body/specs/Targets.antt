-- Reading targets and assignments from tokens, from left to right: each function gives what stands at the front, and the rest.
use Rattle.std.specs.Prelude.{ℕ, zero, suc, List, [], ◌∷◌, length, Some, None}
use Rattle.verilog_text.specs.Token.{Mark, left_brace, right_brace, Token}
use Rattle.verilog_trees.specs.Syntax as tree
use Rattle.verilog_trees.specs.Syntax.{Expression, Target, Targets, no_targets, target}
use Rattle.v_expr.specs.Repeat.{◌>>=◌, choose, Read}
use Rattle.v_expr.specs.Reading.{after_mark}
use Rattle.v_expr.specs.Whole.{whole_at, whole_selects_at}
use Rattle.v_body.specs.Words.{name_at, listed_at}

-- targets as the tree has them
abbrev pub as_targets : List Target → Targets
as_targets [] = no_targets
as_targets (t ∷ ts) = target t (as_targets ts)

-- a name with its selects
unfoldable pub place_at : List Token → Read Token Target
place_at ts = do
  n ← name_at ts
  s ← whole_selects_at n.1
  Some (tree.place n.0 s.0, s.1)

-- behind the opening brace, by a reader of one target
unfoldable pub joined_at : (List Token → Read Token Target) → List Token → Read Token Target
joined_at one ts = do
  parts ← listed_at right_brace one ts
  Some (tree.joined (as_targets parts.0), parts.1)

-- a target whose parts are read by a reader of one
unfoldable pub outer_target_at : (List Token → Read Token Target) → List Token → Read Token Target
outer_target_at one ts = choose (after_mark left_brace ts) (joined_at one) (place_at ts)

-- a target with at most so many levels
unfoldable pub target_in : ℕ → List Token → Read Token Target
target_in zero ts = None
target_in (suc d) ts = outer_target_at (target_in d) ts

-- each level takes a token, so there are no more levels than tokens
unfoldable pub target_at : List Token → Read Token Target
target_at ts = target_in (length ts) ts

-- target, sign, value
unfoldable pub assignment_at : Mark → List Token → Read Token (Target × Expression)
assignment_at sign ts = do
  t ← target_at ts
  value ← after_mark sign t.1
  e ← whole_at value
  Some ((t.0, e.0), e.1)
