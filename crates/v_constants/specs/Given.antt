-- What overrides parameters by name: of several overrides of one name the first counts.
use Rattle.std.specs.Prelude.{◌≡◌, ℕ, Bool, false, cond, List, [], ◌∷◌, Option, None, option_map}
use Rattle.std.specs.Borrow.{Bor}
use Rattle.std.specs.Ordering.{nat_cmp}
use Rattle.std.specs.Cmp.Lexicographic.{slice_cmp}
use Rattle.std.specs.BTreeMap.{BTreeMap, get_by}
use Rattle.std.specs.BTreeSet.{BTreeSet, contains_by}
use Rattle.wb_values.specs.Value.{Name, same_name, Entries, entry_of}
use Rattle.verilog_trees.specs.Syntax.{Expression}
use Rattle.verilog_meaning.specs.Expression as meaning
use Rattle.verilog_meaning.specs.Expression.{Scope}
use Rattle.verilog_meaning.specs.Hierarchy.{joined_option, in_order}
use Rattle.verilog_designs.specs.Known.{KnownOverrides, known_parameter}
use Rattle.v_value.specs.Scope.{object_of}
use Rattle.v_constants.specs.declared.given.Override.{Override}

abbrev pub value_of : Override → Option meaning.Object
value_of o = option_map object_of o.value

abbrev pub given_entries : List Override → Entries (Option meaning.Object)
given_entries [] = []
given_entries (o ∷ os) = (o.name.now, value_of o) ∷ given_entries os

abbrev pub given_of : List Override → KnownOverrides
given_of os n = entry_of (given_entries os) n

-- what a table of overrides has under a name
abbrev pub given_at : BTreeMap (Bor (List ℕ)) Override → KnownOverrides
given_at t n = option_map value_of (get_by (λ k. slice_cmp nat_cmp n k.now) t)

-- the name is in the set
abbrev pub has_name : BTreeSet (Bor (List ℕ)) → Name → Bool
has_name s n = contains_by (λ k. slice_cmp nat_cmp n k.now) s

-- Overrides are gathered from connections, where of several of one name the first counts, also if it gives nothing. Those so far,
-- whose names have been met, and those of the rest are all.
pub record IsGathered (met : Name → Bool) (list : List Override) (rest all : KnownOverrides) : Type 0 where
  pub whole : (n : Name) → cond (met n) (given_of list n) (rest n) ≡ all n
  pub unmet : (n : Name) → met n ≡ false → given_of list n ≡ None

-- a connection of this name before others
abbrev pub before : Name → Option (Option meaning.Object) → KnownOverrides → KnownOverrides
before m given rest n = cond (same_name m n) given (rest n)

-- what an expression overrides a parameter with, if one is given
abbrev pub gives : Scope → Option Expression → Option (Option meaning.Object)
gives s e = option_map (known_parameter s false None) e

-- what connections by name, and by order, give a name
abbrev pub named_given : Scope → List (Name × Option Expression) → KnownOverrides
named_given s es n = gives s (joined_option (entry_of es n))

abbrev pub ordered_given : Scope → List (Option Expression) → List Name → KnownOverrides
ordered_given s es ns n = gives s (in_order es ns n)
