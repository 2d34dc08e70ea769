-- Chains: one cell for each place of two words of one width, from bit 0 up, each handing a carry to the next.
use Rattle.std.specs.Prelude.{◌≡◌, Bool, false, not, ◌&&◌, ◌||◌, cond, List, [], ◌∷◌, length}
use Rattle.gate_base.specs.declared.bits.Bit.{Bit}
use Rattle.gate_base.specs.Circuit.{Circuit, IsKnown, FollowsCircuit, bit_value, exactly_one}
use Rattle.gate_words.specs.declared.chains.Cell.{Cell}
use Rattle.gate_words.specs.declared.chains.Cell.TheVariants.{Not, And, Or, Xor, Choose, Sum, Difference, Same, Below}
use Rattle.gate_words.specs.Binary.{values, AreKnown}

-- what a cell gives at its place
abbrev pub cell_output : Cell → (x y carry : Bool) → Bool
cell_output Not x y c = not x
cell_output And x y c = x && y
cell_output Or x y c = x || y
cell_output Xor x y c = exactly_one x y
cell_output Choose x y c = cond c x y
cell_output Sum x y c = exactly_one (exactly_one x y) c
cell_output Difference x y c = exactly_one (exactly_one x (not y)) c
cell_output Same x y c = false
cell_output Below x y c = false

-- what it hands on
abbrev pub cell_carry : Cell → (x y carry : Bool) → Bool
cell_carry Sum x y c = cond (exactly_one x y) c x
cell_carry Difference x y c = cond (exactly_one x (not y)) c x
cell_carry Same x y c = c && not (exactly_one x y)
cell_carry Below x y c = cond (exactly_one x y) y c
cell_carry _ x y c = c

-- what the chain gives, and what it hands on at its end
abbrev pub outputs : Cell → Bool → (xs ys : List Bool) → List Bool
outputs k c (x ∷ xs) (y ∷ ys) = cell_output k x y c ∷ outputs k (cell_carry k x y c) xs ys
outputs k c _ _ = []

abbrev pub last_carry : Cell → Bool → (xs ys : List Bool) → Bool
last_carry k c (x ∷ xs) (y ∷ ys) = last_carry k (cell_carry k x y c) xs ys
last_carry k c _ _ = c

-- The bit and the carry are those of a cell over three bits.
pub record IsCell (c : Circuit) (k : Cell) (x y carry output next : Bit) : Type 0 where
  pub known_output : IsKnown c output
  pub known_next : IsKnown c next
  pub is_output : (w : List Bool) → FollowsCircuit w c → bit_value w output ≡ cell_output k (bit_value w x) (bit_value w y) (bit_value w carry)
  pub is_next : (w : List Bool) → FollowsCircuit w c → bit_value w next ≡ cell_carry k (bit_value w x) (bit_value w y) (bit_value w carry)

-- The bits and the last carry are those of a chain over two words.
pub record IsChain (c : Circuit) (k : Cell) (carry : Bit) (xs ys bits : List Bit) (last : Bit) : Type 0 where
  pub known_bits : AreKnown c bits
  pub width : length bits ≡ length xs
  pub known_last : IsKnown c last
  pub are_outputs : (w : List Bool) → FollowsCircuit w c → values w bits ≡ outputs k (bit_value w carry) (values w xs) (values w ys)
  pub is_last : (w : List Bool) → FollowsCircuit w c → bit_value w last ≡ last_carry k (bit_value w carry) (values w xs) (values w ys)
