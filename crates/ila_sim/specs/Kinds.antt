-- Which words a kind of name has, and which values fit.
use Rattle.std.specs.Prelude.{ℕ, ◌^◌, ◌+◌, nat_lt, Bool, Option, Some, None}
use Rattle.ila_sim.specs.declared.names.Kind.{Kind}
use Rattle.ila_sim.specs.declared.names.Kind.TheVariants.{Truth, Word, Memory}

abbrev pub addresses_of : Kind → Option (ℕ × ℕ)
addresses_of Truth = None
addresses_of (Word w) = None
addresses_of (Memory least count w) = Some (least, count)

abbrev pub fits_of : Kind → (word value : ℕ) → Bool
fits_of Truth = λ k x. nat_lt x 2
fits_of (Word w) = λ k x. nat_lt x (2 ^ w)
fits_of (Memory least count w) = λ k x. nat_lt x (2 ^ w)

-- how many bits a word of it has
abbrev pub width_of : Kind → ℕ
width_of Truth = 1
width_of (Word w) = w
width_of (Memory least count w) = w

-- the first address behind a memory
abbrev pub end_of : Kind → ℕ
end_of Truth = 0
end_of (Word w) = 0
end_of (Memory least count w) = least + count
