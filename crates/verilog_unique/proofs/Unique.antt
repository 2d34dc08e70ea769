-- Two settled valuations of an accepted design have one value under each declared name.
use Rattle.std.proofs.Common.{List, refl, subst}
use Rattle.std.specs.List.{Contains}
use Rattle.verilog_meaning.specs.Register.{value_bit}
use Rattle.verilog_meaning.specs.Hierarchy.{Placed, placed_scope}
use Rattle.verilog_meaning.specs.Settled.{IsPlacedIn, inside, IsDeclared}
use Rattle.verilog_designs.specs.Dependence.{Bit, PlacedBit, bit_of, IsBitIn}
use Rattle.verilog_designs.specs.Accepted.{undeclared, bad_hierarchy, comb_loop}
use Rattle.wb_laws.specs.Settled.{SettledValueFitsItsWidth}
use Rattle.verilog_unique.specs.Agreement.{Agree, IsBitDeclared}
use Rattle.verilog_settled.specs.Locality.{AssignedBitIsLocal, BlockBitIsLocal}
use Rattle.verilog_unique.specs.Unique.{OneValueWhereLocal, SettledValuationIsUnique}
use Rattle.verilog_unique.proofs.Chains.{ends}
use Rattle.verilog_unique.proofs.Bits.{bits_are_finite}
use Rattle.verilog_unique.proofs.Values.{same_values}
use Rattle.verilog_unique.proofs.Steps.{stable, Differs, agrees_or_differs}
use Rattle.verilog_unique.proofs.Local.{are_local}

pub one_value : OneValueWhereLocal
one_value d registers inputs v w accepted local v_settled w_settled p n at declared =
    same_values (placed_scope p n) (inside v p n) (inside w p n) ((v_settled.modules p at).fits n declared) ((w_settled.modules p at).fits n declared)
    (λ k b t. agree (record { of_name = n; word = k; place = b }) (record { is_declared = declared; is_bit = t }))
  where
    finite : (bits : List PlacedBit) × ((q : Placed) (u : Bit) → IsPlacedIn d q → IsDeclared q u.of_name → IsBitIn q u → Contains bits (bit_of q u))
    finite = bits_are_finite d (accepted bad_hierarchy)

    among : (u : PlacedBit) → Differs d v w u → Contains finite.0 u
    among u h =
        subst (Contains finite.0) h.is_at
        (finite.1 h.place h.bit h.is_placed h.is_declared.is_declared h.is_declared.is_bit)

    agree : (u : Bit) → IsBitDeclared p u → Agree v w p u
    agree u is_bit =
        stable (value_bit (inside v p u.of_name) u.word u.place) (value_bit (inside w p u.of_name) u.word u.place)
        (λ differ. ends d finite.0 (Differs d v w) (accepted comb_loop) among
        (agrees_or_differs d registers inputs v w (accepted undeclared) v_settled w_settled local) (bit_of p u)
        (record { place = p; bit = u; is_placed = at; is_at = refl; is_declared = is_bit; differ = differ }))

pub is_unique : SettledValueFitsItsWidth → AssignedBitIsLocal → BlockBitIsLocal → SettledValuationIsUnique
is_unique law assigned_bit block_bit d accepted fit registers inputs v w p n v_settled w_settled at declared =
    one_value d registers inputs v w accepted
    (are_local law assigned_bit block_bit d accepted fit registers inputs v w v_settled w_settled) v_settled w_settled p n at declared
