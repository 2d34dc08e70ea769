-- The code's registers and inputs at their places.
use Rattle.std.proofs.Common.{Vec, Global, ◌≡◌, ◌∙◌, ℕ, zero, suc, ◌+◌, ◌<◌, ◌^◌, true, nat_lt, List, [], ◌∷◌, ◌++◌, length, get_or, slice_get, drop, map, Some, None, refl, sym, ap, ap₂, arith, add-one, append_assoc}
use Rattle.std.specs.Vec.{with_items}
use Rattle.std.proofs.lemmas.List.{length-map, length-set, with_items_is}
use Rattle.wb_values.specs.Value.{Name, Sort, Value, number, Entries}
use Rattle.wb_terms.specs.declared.values.Value as code
use Rattle.wb_terms.specs.Environment.{as_value}
use Rattle.v_design.specs.declared.bits.RegisterBits.{RegisterBits}
use Rattle.v_design.specs.Bits.{counted_bits}
use Rattle.v_design.specs.Registers.{CountedBits}
use Rattle.v_design.specs.Parts.{are_bits_for}
use Rattle.ila_sim.specs.declared.names.Kind.{Kind}
use Rattle.ila_sim.specs.declared.names.Settable as ila
use Rattle.ila_sim.specs.declared.set.Set.{Set}
use Rattle.ila_sim.specs.Names.{settable_of}
use Rattle.ila_sim.specs.Outcomes.{with_set, with_all}
use Rattle.design_scripts.specs.Simulation.{register_text}
use Rattle.v_sim.specs.Names.{word_width, kind_of, masked_settable, register_settables, input_settables}
use Rattle.v_sim.specs.Texts.{registers_by}
use Rattle.v_sim.proofs.Lists.{name_at, sort_at}
use Rattle.v_sim.proofs.Settings.{bits_at, register_found, input_found}

pub bits_there : (xs : List RegisterBits) (k : ℕ) (r : RegisterBits) → k < length xs → r ≡ get_or xs k r → bits_at (map counted_bits xs) k ≡ counted_bits r
bits_there [] k r l e = absurd (omega (arith, l))
bits_there (x ∷ xs) zero r l e = ap counted_bits (sym e)
bits_there (x ∷ xs) (suc k) r l e = bits_there xs k r (omega (arith, l)) e

pub register_is : (ns : Entries Sort) (cs : List CountedBits) (k : ℕ) (n : Name) (kind : Kind) (masks : List ℕ) → are_bits_for ns cs ≡ true → k < length ns
    → n ≡ name_at ns k → kind ≡ kind_of (sort_at ns k) (bits_at cs k) → masks ≡ (bits_at cs k).masks
    → slice_get (register_settables ns cs) k ≡ Some (masked_settable n kind masks)
register_is ns cs k n kind masks h l e f g = register_found ns cs k h l ∙ (λ i. Some (masked_settable (sym e i) (sym f i) (sym g i)))

pub input_is : (ns : Entries Sort) (k : ℕ) (n : Name) (w : ℕ) → k < length ns → n ≡ name_at ns k → w ≡ word_width (sort_at ns k)
    → slice_get (input_settables ns) k ≡ Some (record { called = n; addresses = None; fits = λ j x. nat_lt x (2 ^ w) })
input_is ns k n w l e f = input_found ns k l ∙ (λ i. Some (record { called = sym e i; addresses = None; fits = λ j x. nat_lt x (2 ^ sym f i) }))

length-with_all : (xs : List Value) (sets : List Set) → length (with_all xs sets) ≡ length xs
length-with_all xs [] = refl
length-with_all xs (s ∷ sets) = length-with_all (with_set xs s) sets ∙ length-set xs s.place _

-- numbers written over as many
pub numbers_written : (v : Vec ℕ Global) (old new : List ℕ) (sets : List Set) → old ≡ v.items → map number new ≡ with_all (map number old) sets
    → map number (with_items v new).items ≡ with_all (map number v.items) sets
numbers_written v old new sets e h =
    let long : length new ≡ length v.items =
    sym (length-map new number) ∙ (ap length h ∙ (length-with_all (map number old) sets ∙ (length-map old number ∙ ap length e))) in
    ap (map number) (with_items_is v new (omega (arith, long, v.ok.0))) ∙ (h ∙ ap (λ xs. with_all (map number xs) sets) e)

registers_from : (rs : List ila.Settable) (xs : List code.Value) (k : ℕ) (r : ila.Settable) (x : code.Value) → k < length rs → k < length xs
    → registers_by (map settable_of (drop k rs)) (map as_value (drop k xs))
    ≡ register_text (settable_of (get_or rs k r)) (as_value (get_or xs k x)) ++ registers_by (map settable_of (drop (suc k) rs)) (map as_value (drop (suc k) xs))
registers_from [] xs k r x l m = absurd (omega (arith, l))
registers_from (s ∷ rs) [] k r x l m = absurd (omega (arith, m))
registers_from (s ∷ rs) (y ∷ xs) zero r x l m = refl
registers_from (s ∷ rs) (y ∷ xs) (suc k) r x l m = registers_from rs xs k r x (omega (arith, l)) (omega (arith, m))

pub register_told : (rs : List ila.Settable) (xs : List code.Value) (k : ℕ) (r : ila.Settable) (x : code.Value) (out more : List ℕ) → k < length rs → k < length xs
    → r ≡ get_or rs k r → x ≡ get_or xs k x → more ≡ out ++ register_text (settable_of r) (as_value x)
    → more ++ registers_by (map settable_of (drop (k + 1) rs)) (map as_value (drop (k + 1) xs)) ≡ out ++ registers_by (map settable_of (drop k rs)) (map as_value (drop k xs))
register_told rs xs k r x out more l m e f h =
    let rest = registers_by (map settable_of (drop (suc k) rs)) (map as_value (drop (suc k) xs)) in
    ap (λ j. more ++ registers_by (map settable_of (drop j rs)) (map as_value (drop j xs))) (add-one k)
    ∙ (ap (λ t. t ++ rest) h
    ∙ (append_assoc out (register_text (settable_of r) (as_value x)) rest
    ∙ (ap₂ (λ s y. out ++ (register_text (settable_of s) (as_value y) ++ rest)) e f
    ∙ ap (λ t. out ++ t) (sym (registers_from rs xs k r x l m)))))
