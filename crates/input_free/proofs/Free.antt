-- What does not come from inputs is the same whatever the inputs are.
use Rattle.std.proofs.Common.{◌≡◌, ◌⊎◌, inl, inr, ap, sym, subst, List, refl}
use Rattle.std.specs.Prelude.{IsTrue, is_none}
use Rattle.std.specs.List.{Contains}
use Rattle.wb_values.specs.Value.{Name}
use Rattle.verilog_meaning.specs.Expression.{width_of, sign_of, self_value, is_nonzero}
use Rattle.verilog_meaning.specs.Register.{value_bit, is_bit_of}
use Rattle.verilog_meaning.specs.Hierarchy.{Placed}
use Rattle.verilog_meaning.specs.Settled.{IsPlacedIn, inside, IsDeclared}
use Rattle.verilog_designs.specs.Reads.{reads}
use Rattle.verilog_designs.specs.Dependence.{Bit, PlacedBit, bit_of, IsBitIn}
use Rattle.verilog_designs.specs.Accepted.{undeclared, bad_hierarchy, comb_loop}
use Rattle.wb_laws.proofs.Settled.{settled_value_fits}
use Rattle.verilog_settled.proofs.Assigned.{assigned_bit_is_local}
use Rattle.verilog_settled.proofs.Runs.{block_bit_is_local}
use Rattle.verilog_settled.proofs.Expressions.{AreReadable, readable, value_local}
use Rattle.verilog_settled.proofs.Found.{Found, In}
use Rattle.verilog_unique.specs.Agreement.{Agree, IsBitDeclared}
use Rattle.verilog_unique.proofs.Bits.{bits_are_finite}
use Rattle.verilog_unique.proofs.Chains.{ends}
use Rattle.verilog_unique.proofs.Reading.{read}
use Rattle.verilog_unique.proofs.Steps.{stable}
use Rattle.map_rules.specs.Expressions.{design_scope}
use Rattle.input_free.specs.Free.{InputsAreNotSeen, ValuesAreInputFree, ConditionsAreInputFree}
use Rattle.input_free.proofs.Locality.{are_local}
use Rattle.input_free.proofs.Steps.{Differs, agrees_or_differs}
use Rattle.input_free.proofs.Scope.{stands_for, net_of, no_memory_constant, all_fit}
use Rattle.input_free.proofs.Leaves.{leaves_declared}

pub inputs_are_not_seen : InputsAreNotSeen
inputs_are_not_seen d v w p u a at is_bit alone =
    stable (value_bit (inside v p u.of_name) u.word u.place) (value_bit (inside w p u.of_name) u.word u.place)
    (λ differ. ends d finite.0 (Differs d v w) (a.accepted comb_loop) among
    (agrees_or_differs d a.registers a.inputs a.others v w (a.accepted undeclared) a.first a.second
    (are_local settled_value_fits assigned_bit_is_local block_bit_is_local d a.accepted a.of_text.numbers_fit a.registers a.inputs a.others v w a.first a.second))
    (bit_of p u)
    (record { place = p; bit = u; is_placed = at; is_at = refl; is_declared = is_bit; differ = differ; inside_alone = alone }))
  where
    finite : (bits : List PlacedBit) × ((q : Placed) (y : Bit) → IsPlacedIn d q → IsDeclared q y.of_name → IsBitIn q y → Contains bits (bit_of q y))
    finite = bits_are_finite d (a.accepted bad_hierarchy)

    among : (y : PlacedBit) → Differs d v w y → Contains finite.0 y
    among y h = subst (Contains finite.0) h.is_at (finite.1 h.place h.bit h.is_placed h.is_declared.is_declared h.is_declared.is_bit)

pub values_are_free : ValuesAreInputFree
values_are_free d v w e a free =
    same
    (value_local (design_scope d) v w Known Known (no_memory_constant d) known_readable e (width_of (design_scope d) e) (sign_of (design_scope d) e)
    (leaves_declared (design_scope d) e free.unbroken free.numbers_fit))
  where
    Known : Name → Type 0
    Known n = IsTrue ((design_scope d n).is_declared)

    found : Found v w Known (In (reads (design_scope d) e)) → ⊥
    found f =
        let y = f.bit in
        let net = read (design_scope d) e y f.is_so in
        let r = stands_for d y.of_name f.has_value in
        let u : Bit = record { of_name = r.own; word = y.word; place = y.place } in
        let known = subst (λ o. IsTrue (o.is_declared)) r.means f.has_value in
        let declared : IsBitDeclared r.within u =
        record {
          is_declared = net_of d r.within r.own r.is_placed known (subst (λ o. IsTrue (is_none o.constant)) r.means net.is_net);
          is_bit = subst (λ o. IsTrue (is_bit_of o y.word y.place)) r.means net.is_bit;
        } in
        let agree : Agree v w r.within u =
        inputs_are_not_seen d v w r.within u a r.is_placed declared
        (λ c. free.no_input
        (record {
          within = r.within;
          bit = u;
          is_placed = r.is_placed;
          is_read = subst (λ n. IsTrue (reads (design_scope d) e n y.word y.place)) (sym r.is_written) f.is_so;
          from_input = c;
        })) in
        f.differs (subst (λ n. value_bit (v n) y.word y.place ≡ value_bit (w n) y.word y.place) r.is_written agree)

    same : (self_value (design_scope d) v e ≡ self_value (design_scope d) w e) ⊎ Found v w Known (In (reads (design_scope d) e))
        → self_value (design_scope d) v e ≡ self_value (design_scope d) w e
    same (inl k) = k
    same (inr f) = absurd (found f)

    known_readable : AreReadable (design_scope d) v w Known Known
    known_readable n k =
        let r = readable (design_scope d) v w Known (all_fit d a.registers a.inputs v a.of_text.numbers_fit a.first) (all_fit d a.registers a.others w a.of_text.numbers_fit a.second) n k in
        record { small = r.small; alike = r.alike; has_value = λ e. k }

pub conditions_are_free : ConditionsAreInputFree
conditions_are_free d v w e a free = ap is_nonzero (values_are_free d v w e a free)
