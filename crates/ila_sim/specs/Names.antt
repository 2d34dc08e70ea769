-- What the code's names that a script may set stand for.
use Rattle.std.specs.Prelude.{ℕ, Vec, Bool, true, ◌&&◌, ◌==◌, List, [], ◌∷◌, slice_index, Option, Some, None, is_none, bit_and}
use Rattle.std.specs.Global.{Global}
use Rattle.scripts.specs.Script as meaning
use Rattle.scripts.specs.Script.{settable_named}
use Rattle.wb_values.specs.Value.{Name}
use Rattle.ila_sim.specs.declared.names.Kind.{Kind}
use Rattle.ila_sim.specs.declared.names.Settable.{Settable}
use Rattle.ila_sim.specs.Kinds.{addresses_of, fits_of}

-- the name with a kind
abbrev pub settable_with : Name → Kind → meaning.Settable
settable_with n k = record { called = n; addresses = addresses_of k; fits = fits_of k }

-- which values fit where they may have these bits alone, if any are named
abbrev pub fits_under : Option (Vec ℕ Global) → ((word value : ℕ) → Bool) → (word value : ℕ) → Bool
fits_under None fits = fits
fits_under (Some masks) fits = λ k x. fits k x && (bit_and x (slice_index masks.items k) == x)

abbrev pub settable_of : Settable → meaning.Settable
settable_of s = record { called = s.name.items; addresses = addresses_of s.kind; fits = fits_under s.masks (fits_of s.kind) }

-- no name stands twice
abbrev pub are_apart : List meaning.Settable → Bool
are_apart [] = true
are_apart (s ∷ ss) = is_none (settable_named ss s.called) && are_apart ss
