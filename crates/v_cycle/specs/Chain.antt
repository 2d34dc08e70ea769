-- A memory term goes from store to store down to a name.
use Rattle.std.specs.Prelude.{◌≡◌, ◌<◌, ℕ, ⊤, slice_index_or}
use Rattle.wb_values.specs.Value.{number}
use Rattle.wb_terms.specs.declared.values.Env.{Env}
use Rattle.wb_terms.specs.Graph.{Graph}
use Rattle.wb_terms.specs.Environment.{values_of, value_of}
use Rattle.v_cycle.specs.declared.chain.Link.{Link}
use Rattle.v_cycle.specs.declared.chain.Link.TheVariants.{Base, Same, Over, Other}
use Rattle.v_cycle.specs.Changing.{stored_in}

-- What stands at a term of the store: a name's value, that of an earlier term, or one with a number stored in it.
abbrev pub IsLinkAt : Graph → Env → ℕ → Link → Type 0
IsLinkAt g e k (Base n) = value_of g e k ≡ slice_index_or (values_of e) n.0 (number 0)
IsLinkAt g e k (Same m) = (m.0 < k) × (value_of g e k ≡ value_of g e m.0)
IsLinkAt g e k (Over s m) = (m.0 < k) × (value_of g e k ≡ stored_in (value_of g e m.0) s)
IsLinkAt g e k Other = ⊤
