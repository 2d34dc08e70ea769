-- Into which expressions of a map no input may come, by the tokens of its states.
use Rattle.std.specs.Prelude.{Bool, true, cond, List, [], ◌∷◌, is_some}
use Rattle.map_trees.specs.declared.tokens.StateTokens.{StateTokens}

-- a flag for each state that has tokens: it is no memory
abbrev pub value_flags : List StateTokens → List Bool
value_flags [] = []
value_flags (x ∷ xs) = cond (is_some x.tokens) (true ∷ value_flags xs) (value_flags xs)
