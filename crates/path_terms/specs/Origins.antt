-- Where the terms of dotted names come from, and a table of these terms.
use Rattle.std.specs.Prelude.{◌≡◌, ◌≢◌, ◌<◌, ℕ, true, false, cond, List, [], ◌∷◌, slice_index_or, Option, Some, None}
use Rattle.wb_values.specs.Value.{Name, same_name, truth}
use Rattle.verilog_meaning.specs.Expression.{Scope, is_memory}
use Rattle.wb_terms.specs.Graph.{Graph, leaf_at, tree}
use Rattle.v_value.specs.declared.scope.Declaration.{Declaration}
use Rattle.v_operators.specs.Meaning.{IsOfSort}
use Rattle.v_lower.specs.Lowered.{Images}
use Rattle.v_design.specs.Parts.{Parts}
use Rattle.path_terms.specs.declared.origins.Origin.{Origin}
use Rattle.path_terms.specs.declared.origins.Origin.TheVariants.{Settled, Register}
use Rattle.path_terms.specs.Places.{register_at}

-- A declared name is that of no register, as a memory, and else settles to nothing.
pub record IsWithout (s : Scope) (e : Parts) (n : Name) : Type 0 where
  pub memory : is_memory (s n) ≡ true → (k : ℕ) → k < e.register_count → register_at e k ≢ n
  pub net : is_memory (s n) ≡ false → e.settled n ≡ None

-- A net or variable settles to a term; a memory is a register.
abbrev pub IsOrigin : Scope → Parts → Name → Option Origin → Type 0
IsOrigin s e n None = (s n).is_declared ≡ true → IsWithout s e n
IsOrigin s e n (Some (Settled id)) = ((s n).is_declared ≡ true) × (is_memory (s n) ≡ false) × (e.settled n ≡ Some id.0)
IsOrigin s e n (Some (Register k)) = ((s n).is_declared ≡ true) × (is_memory (s n) ≡ true) × (k.0 < e.register_count) × (register_at e k.0 ≡ n)

-- There is one for each declaration.
abbrev pub AreOrigins : Scope → Parts → List Declaration → List (Option Origin) → Type 0
AreOrigins s e [] [] = Unit {0}
AreOrigins s e [] (o ∷ os) = ⊥
AreOrigins s e (x ∷ xs) [] = ⊥
AreOrigins s e (x ∷ xs) (o ∷ os) = IsOrigin s e x.name.now o × AreOrigins s e xs os

-- a register's name stands among so many
abbrev pub IsPlacedOrigin : ℕ → Origin → Type 0
IsPlacedOrigin count (Settled id) = Unit {0}
IsPlacedOrigin count (Register k) = k.0 < count

-- the term that comes from there
abbrev pub IsFrom : Graph → Origin → ℕ → Type 0
IsFrom g (Settled t) id = id ≡ t.0
IsFrom g (Register k) id = IsOfSort g id (slice_index_or g.names k.0 ([], truth)).1 × (tree g id ≡ leaf_at g.names k.0)

-- The name was given its term, if it has one.
abbrev pub IsGivenFrom : Images → Graph → Name → Images → Option Origin → Type 0
IsGivenFrom a g n b None = (m : Name) → b m ≡ a m
IsGivenFrom a g n b (Some o) = (id : ℕ) × IsFrom g o id × ((m : Name) → b m ≡ cond (same_name n m) (Some id) (a m))

-- The term of a name: what the net or variable settles to, or the memory's name.
pub data IsTermOfName (s : Scope) (e : Parts) (g : Graph) (n : Name) (id : ℕ) : Type 0 where
  of_net : (s n).is_declared ≡ true → is_memory (s n) ≡ false → e.settled n ≡ Some id → IsTermOfName s e g n id
  of_memory : (k : ℕ) → (s n).is_declared ≡ true → is_memory (s n) ≡ true → k < e.register_count → register_at e k ≡ n
      → IsOfSort g id (slice_index_or g.names k ([], truth)).1 → tree g id ≡ leaf_at g.names k → IsTermOfName s e g n id

-- A table has the terms of declared names, and of no others; and a declared name that it lacks has none.
pub record AreTermsOfNames (s : Scope) (e : Parts) (g : Graph) (a : Images) : Type 0 where
  pub each : (n : Name) (id : ℕ) → a n ≡ Some id → IsTermOfName s e g n id
  pub all : (n : Name) → (s n).is_declared ≡ true → a n ≡ None → IsWithout s e n
