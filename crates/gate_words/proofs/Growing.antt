-- What is known of a circuit stays known as it grows.
use Rattle.std.proofs.Common.{◌∙◌, ℕ, ◌≤◌, List, arith, refl}
use Rattle.std.proofs.lemmas.List.Elements.{All-weaker}
use Rattle.gate_base.specs.declared.bits.Bit.{Bit}
use Rattle.gate_base.specs.declared.bits.Bit.TheVariants.{Constant, Literal}
use Rattle.gate_base.specs.Circuit.{Circuit, size, IsKnown, IsBitBelow, Grows}
use Rattle.gate_words.specs.Binary.{AreKnown}

pub same : (c : Circuit) → Grows c c
same c = record { inputs = refl; size = omega arith; follows = λ w f. f }

pub onward : {a b c : Circuit} → Grows a b → Grows b c → Grows a c
onward g h = record { inputs = h.inputs ∙ g.inputs; size = omega (arith, g.size, h.size); follows = λ w f. g.follows w (h.follows w f) }

bit_below : (m n : ℕ) (b : Bit) → m ≤ n → IsBitBelow m b → IsBitBelow n b
bit_below m n (Constant b) h k = tt
bit_below m n (Literal l) h k = omega (arith, h, k)

pub known : {a b : Circuit} (x : Bit) → Grows a b → IsKnown a x → IsKnown b x
known {a = a} {b = b} x g k = bit_below (size a) (size b) x g.size k

pub all_known : {a b : Circuit} (xs : List Bit) → Grows a b → AreKnown a xs → AreKnown b xs
all_known {a = a} {b = b} xs g ks = All-weaker (IsKnown a) (IsKnown b) (λ x k. known x g k) xs ks
