-- Words whose bits are moved by places, with copies of a bit in the places that become free.
use Rattle.std.specs.Prelude.{◌≡◌, ℕ, zero, suc, ◌-◌, min, Bool, cond, List, [], ◌∷◌, ◌++◌, length, take, drop, replicate}
use Rattle.gate_base.specs.declared.bits.Bit.{Bit}
use Rattle.gate_base.specs.Circuit.{Circuit, FollowsCircuit, bit_value}
use Rattle.gate_words.specs.declared.shifts.Direction.{Direction}
use Rattle.gate_words.specs.declared.shifts.Direction.TheVariants.{Up, Down}
use Rattle.gate_words.specs.Binary.{number_of, number_under, values, AreKnown}

-- by one place
abbrev pub moved_once : Direction → Bool → List Bool → List Bool
moved_once Up b xs = take (length xs) (b ∷ xs)
moved_once Down b [] = []
moved_once Down b (x ∷ xs) = xs ++ b ∷ []

-- by so many places, one after another
abbrev pub moved : Direction → ℕ → Bool → List Bool → List Bool
moved d zero b xs = xs
moved d (suc n) b xs = moved d n b (moved_once d b xs)

-- the bits of a word moved at once
abbrev pub moved_bits : Direction → ℕ → Bit → List Bit → List Bit
moved_bits Up n b xs = replicate (min n (length xs)) b ++ take (length xs - min n (length xs)) xs
moved_bits Down n b xs = drop (min n (length xs)) xs ++ replicate (min n (length xs)) b

-- The bits are those of the word, moved by the distance where a bit is true.
pub record IsStage (c : Circuit) (d : Direction) (fill : Bit) (word : List Bit) (chosen : Bit) (distance : ℕ) (bits : List Bit) : Type 0 where
  pub known : AreKnown c bits
  pub width : length bits ≡ length word
  pub moves : (w : List Bool) → FollowsCircuit w c
      → values w bits ≡ cond (bit_value w chosen) (moved d distance (bit_value w fill) (values w word)) (values w word)

-- The bits are those of xs moved by the number that the first bits of ys write.
pub record IsStaged (c : Circuit) (d : Direction) (fill : Bit) (xs ys : List Bit) (stages : ℕ) (bits : List Bit) : Type 0 where
  pub known : AreKnown c bits
  pub width : length bits ≡ length xs
  pub moves : (w : List Bool) → FollowsCircuit w c
      → values w bits ≡ moved d (number_of (take stages (values w ys))) (bit_value w fill) (values w xs)

-- The bits are those of xs moved by the number that ys writes.
pub record IsShifted (c : Circuit) (d : Direction) (fill : Bit) (xs ys bits : List Bit) : Type 0 where
  pub known : AreKnown c bits
  pub width : length bits ≡ length xs
  pub moves : (w : List Bool) → FollowsCircuit w c
      → values w bits ≡ moved d (number_under w ys) (bit_value w fill) (values w xs)
