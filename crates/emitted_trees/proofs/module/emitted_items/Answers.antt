use Rattle.std.proofs.Common.{◌≡◌, ◌∙◌, ◌++◌, ◌∷◌, [], List, Vec, Global, ap, map, subst, sym, length, arith, codes, suc, ◌<◌}
use Rattle.verilog_trees.specs.Syntax.{always}
use Rattle.wb_terms.specs.Graph.{Graph}
use Rattle.ila_model.specs.declared.parts.Instruction.{Instruction}
use Rattle.emitted_modules.specs.Rtl.{at_clock}
use Rattle.emitted_modules.specs.Module.{one_name, ready_of}
use Rattle.emitted_modules.specs.Kept.{IsOrdered}
use Rattle.emitted_names.specs.declared.words.PartName.{PartName}
use Rattle.emitted_names.specs.declared.ways.Way.{Way}
use Rattle.emitted_names.specs.Ids.{kept_by}
use Rattle.emitted_names.specs.Named.{AreNumbered}
use Rattle.emitted_names.specs.Parts.{AreWords, AreWaysTo}
use Rattle.emitted_names.specs.Within.{AreWithin}
use Rattle.emitted_names.proofs.Bounds.{bounds}
use Rattle.emitted_names.proofs.Turns.{ap2}
use Rattle.emitted_trees.specs.Emitted.{start_items, instruction_wires, clocked_for}
use Rattle.emitted_trees.proofs.module.emitted_items.Goals as goal

pub wires_of-wires-requires : goal.wires_of-wires-requires
wires_of-wires-requires c = c.requires.of_terms

pub decoding_of-decoding-requires : goal.decoding_of-decoding-requires
decoding_of-decoding-requires c = record { nones = c.requires.of_nones; ones = c.requires.of_ones }

pub name_at-one-requires : goal.name_at-one-requires
name_at-one-requires c =
    omega (arith, c.decoding_of-decoding.ensures.one, c.len-count.ensures, c.args.model.now.parts.instructions.ok.0)

pub first_items-requires : goal.first_items-requires
first_items-requires c =
    let e = sym c.wires_of-wires.ensures.terms in
    record {
      terms = c.wires_of-wires.ensures.terms;
      ordered = subst IsOrdered e c.check_stored.ensures.ordered;
      named = subst (λ (g : Graph). AreNumbered (codes "wb_t") (length g.nodes) c.wires_of-wires.result.names.now) e c.wires_of-wires.ensures.named;
      words = subst (λ (g : Graph). AreWords g (kept_by c.args.keep.now) (length g.nodes) c.as_slice.result.now) e
          (subst (λ (rows : List (Vec PartName Global)). AreWords c.args.model.now.parts.terms (kept_by c.args.keep.now) (length c.args.model.now.parts.terms.nodes) rows) (sym c.as_slice.ensures.value) c.requires.of_words);
    }

pub with_instructions-requires : goal.with_instructions-requires
with_instructions-requires c =
    let p = c.args.model.now.parts in
    let e = sym c.wires_of-wires.ensures.terms in
    let s = sym c.as_slice-instructions.ensures.value in
    let many = ap length c.as_slice-instructions.ensures.value in
    record {
      within = subst (AreWithin c.wires_of-wires.result.terms.now) s (subst (λ (g : Graph). AreWithin g p.instructions.items) e (bounds p c.args.model.now.well_sorted).instructed);
      named = subst (λ (g : Graph). AreNumbered (codes "wb_t") (length g.nodes) c.wires_of-wires.result.names.now) e c.wires_of-wires.ensures.named;
      none = c.decoding_of-decoding.ensures.none ∙ ap suc (sym many);
      one = c.decoding_of-decoding.ensures.one ∙ ap suc (sym many);
      decoding = c.decoding_of-decoding.ensures.decoding;
      ways = subst (λ (is : List Instruction). AreWaysTo c.wires_of-wires.result.terms.now is (length is) c.as_slice-ways.result.now) s
          (subst (λ (g : Graph). AreWaysTo g p.instructions.items (length p.instructions.items) c.as_slice-ways.result.now) e
          (subst (λ (rows : List (Vec Way Global)). AreWaysTo p.terms p.instructions.items (length p.instructions.items) rows) (sym c.as_slice-ways.ensures.value) c.requires.of_ways));
    }

pub with_last_items-requires : goal.with_last_items-requires
with_last_items-requires c =
    let p = c.args.model.now.parts in
    let d = c.decoding_of-decoding.ensures in
    let many : c.len-count.result ≡ length p.instructions.items = c.len-count.ensures ∙ p.instructions.ok.0 in
    record {
      terms = c.wires_of-wires.ensures.terms;
      ways = subst (λ (rows : List (Vec Way Global)). AreWaysTo p.terms p.instructions.items (length p.instructions.items) rows) (sym c.as_slice-ways.ensures.value) c.requires.of_ways;
      named = subst (λ (g : Graph). AreNumbered (codes "wb_t") (length g.nodes) c.wires_of-wires.result.names.now) (sym c.wires_of-wires.ensures.terms) c.wires_of-wires.ensures.named;
      one = c.name_at-one.ensures (codes "wb_one_") (length c.decoding_of-decoding.result.ones.now) d.decoding.all_ones (omega (arith, d.one, many)) ∙ ap one_name many;
    }

pub returns : goal.returns
returns c =
    let p = c.args.model.now.parts in
    c.in_ok-items-3.ensures
    ∙ ap (λ xs. xs ++ start_items (ready_of p) ++ always at_clock (clocked_for p) ∷ [])
    (c.in_ok-items-2.ensures
    ∙ ap2 (λ xs ws. xs ++ ws) c.in_ok-items.ensures (ap2 instruction_wires c.wires_of-wires.ensures.terms c.as_slice-instructions.ensures.value))
