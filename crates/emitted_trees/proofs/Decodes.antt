-- The wires that say which instruction decodes, from the last instruction on.
use Rattle.std.proofs.Common.{◌≡◌, ℕ, ◌+◌, ◌-◌, ◌<◌, ◌≤◌, List, [], ◌∷◌, ◌++◌, map, length, drop, Some, slice_get, refl, sym, ◌∙◌, ap, arith}
use Rattle.std.proofs.lemmas.List.{append_assoc, map-append, length-map, length-drop, at_drop_all}
use Rattle.wb_values.specs.Value.{Name, truth}
use Rattle.verilog_trees.specs.Syntax.{Expression, unary, complement, binary, bitwise_and, conditional, Item}
use Rattle.verilog_meaning.specs.Settled.{whole_name}
use Rattle.wb_terms.specs.declared.nodes.TermId.{TermId}
use Rattle.wb_terms.specs.Graph.{Graph}
use Rattle.ila_model.specs.declared.parts.Instruction.{Instruction}
use Rattle.emitted_modules.specs.Rtl.{wire_item}
use Rattle.emitted_modules.specs.Nodes.{operand}
use Rattle.emitted_modules.specs.Module.{none_wire, one_wire, decode_wires, decodes_of}
use Rattle.emitted_trees.specs.Items.{wire_named, operands_in}
use Rattle.wanted_terms.specs.Wanted.{AreBelow}
use Rattle.emitted_names.specs.Within.{AreWithin}
use Rattle.emitted_trees.specs.Emitted.{decodes_among}
use Rattle.emitted_names.proofs.Turns.{last_drop, map_map}

-- the items for the last so many decode conditions
abbrev pub last_wires : Graph → List TermId → ℕ → List Item
last_wires g ids after = map wire_item (decode_wires (operands_in g (drop (length ids - after) ids)))

-- those for one decode condition
abbrev pub two_wires : Expression → ℕ → List Item
two_wires e after = wire_item (none_wire e after) ∷ wire_item (one_wire e after) ∷ []

one_more : (g : Graph) (ids : List TermId) (after place : ℕ) (d : TermId) → place ≡ length ids - 1 - after → after < length ids → slice_get ids place ≡ Some d
    → last_wires g ids (after + 1) ≡ last_wires g ids after ++ two_wires (operand g d.0) after
one_more g ids after place d z l at =
    let rest = drop (length ids - after) ids in
    let ds = operands_in g rest in
    let e = operand g d.0 in
    let a : length ds ≡ length rest = length-map rest (λ (x : TermId). operand g x.0) in
    let b : length rest ≡ length ids - (length ids - after) = length-drop (length ids - after) ids in
    let many : length ds ≡ after = omega (arith, a, b, l) in
    ap (λ xs. map wire_item (decode_wires (operands_in g xs))) (last_drop ids after place d z l at)
    ∙ map-append wire_item (decode_wires ds) (none_wire e (length ds) ∷ one_wire e (length ds) ∷ [])
    ∙ ap (λ n. map wire_item (decode_wires ds) ++ two_wires e n) many

pub no_decodes : (g : Graph) (ids : List TermId) (front old : List Item) → old ≡ front ++ map wire_item (decode_wires []) → old ≡ front ++ last_wires g ids 0
no_decodes g ids front old e =
    e ∙ sym (at_drop_all (λ xs. front ++ map wire_item (decode_wires (operands_in g xs))) ids (length ids - 0) (omega arith))

pub decode_more : (g : Graph) (ids : List TermId) (after place : ℕ) (d : TermId) (front old new : List Item) → place ≡ length ids - 1 - after
    → after < length ids → slice_get ids place ≡ Some d → old ≡ front ++ last_wires g ids after → new ≡ old ++ two_wires (operand g d.0) after
    → new ≡ front ++ last_wires g ids (after + 1)
decode_more g ids after place d front old new z l at before made =
    made
    ∙ ap (λ xs. xs ++ two_wires (operand g d.0) after) before
    ∙ append_assoc front (last_wires g ids after) (two_wires (operand g d.0) after)
    ∙ ap (λ xs. front ++ xs) (sym (one_more g ids after place d z l at))

pub all_decodes : (g : Graph) (ids : List TermId) (after : ℕ) (front old : List Item) → length ids ≤ after → old ≡ front ++ last_wires g ids after
    → old ≡ front ++ map wire_item (decode_wires (operands_in g ids))
all_decodes g ids after front old l e =
    let none : length ids - after ≡ 0 = omega (arith, l) in
    e ∙ ap (λ k. front ++ map wire_item (decode_wires (operands_in g (drop k ids)))) none

pub decodes_below : (g : Graph) (is : List Instruction) → AreWithin g is → AreBelow (length g.nodes) (decodes_among is)
decodes_below g [] h = tt
decodes_below g (i ∷ is) h = (h.0.condition, decodes_below g is h.1)

pub by_instructions : (g : Graph) (is : List Instruction) → operands_in g (decodes_among is) ≡ decodes_of g is
by_instructions g is = map_map (λ (d : TermId). operand g d.0) (λ (i : Instruction). i.decode) is

-- their items, by the names of the wires
abbrev pub none_item : Name → Expression → Name → Item
none_item n d none = wire_named n truth (binary bitwise_and (unary complement d) (whole_name none))

abbrev pub one_item : Expression → Name → Name → Name → Item
one_item d none one n = wire_named n truth (conditional d (whole_name none) (whole_name one))
