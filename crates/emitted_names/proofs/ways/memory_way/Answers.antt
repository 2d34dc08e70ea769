use Rattle.std.proofs.Common.{◌≡◌, ◌+◌, suc, ◌∙◌, ap, arith}
use Rattle.emitted_names.specs.Ids.{ids_of}
use Rattle.emitted_names.specs.Parts.{via_called, named_by, parts_of}
use Rattle.emitted_names.proofs.Turns.{ap2}
use Rattle.emitted_names.proofs.ways.memory_way.Goals as goal

pub parts-requires : goal.parts-requires
parts-requires c = record { ordered = c.requires.ordered; memory = omega arith; few = omega (arith, c.requires.term) }

pub returns-clause-way : goal.returns-clause-way
returns-clause-way c =
    let g = c.args.terms.now in
    let t = c.args.update.term.0 in
    let next : t + 1 ≡ suc t = omega arith in
    record {
      decode_there = c.requires.decode;
      memory_there = c.requires.state;
      term_there = c.requires.term;
      named =
          c.in_ok-parts.ensures
          ∙ ap2 (λ n ks. named_by (via_called c.args.instruction n) ks) c.name-name.ensures
          (ap ids_of c.as_slice.ensures.value ∙ c.in_ok-ids.ensures ∙ ap (parts_of g t) next);
    }
