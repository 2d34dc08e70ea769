use Rattle.std.proofs.Common.{◌≡◌, ◌∙◌, ◌<◌, ◌∷◌, List, Vec, Global, length, ap, sym, subst, arith}
use Rattle.wb_terms.specs.declared.nodes.TermId.{TermId}
use Rattle.wb_terms.specs.Graph.{Graph}
use Rattle.term_copies.specs.Copies.{IsExtended, AreLeaves, IsCopy, copy_of, id_at}
use Rattle.term_copies.proofs.Extending.{extended_trans, extended_refl, extended_same}
use Rattle.model_terms.specs.Symbolic.{IsCondition}
use Rattle.model_terms.specs.Copied.{HasCopies}
use Rattle.model_terms.proofs.Choosing.{test_kept}
use Rattle.model_terms.proofs.Programming.{first_copy, copy_condition}
use Rattle.model_terms.proofs.listing.put_ending.Goals as goal

pub put_copies_of-requires-clause-leaves : goal.put_copies_of-requires-clause-leaves
put_copies_of-requires-clause-leaves c = subst (λ (ids : List TermId). AreLeaves c.args.terms.now c.args.source.now.names ids) (sym c.deref.ensures.value) c.requires.leaves

pub copy_of-copy-requires : goal.copy_of-copy-requires
copy_of-copy-requires c = omega (arith, c.requires.valid, c.in_ok-copies.ensures.room, ap length c.deref-2.ensures.value)

pub put_end-requires-clause-valid : goal.put_end-requires-clause-valid
put_end-requires-clause-valid c =
    let point = c.deref.result.now in
    copy_condition c.put_copies_of.new.terms c.args.source.now point c.in_ok-copies.copies.items c.deref-2.result.now c.args.listed.now c.requires.first.0 c.args.valid c.copy_of-copy.result
    c.deref-2.ensures.value c.requires.first.1 c.in_ok-copies.ensures.copies c.copy_of-copy.ensures c.requires.sort

pub put_end-requires-clause-test : goal.put_end-requires-clause-test
put_end-requires-clause-test c = test_kept c.args.run.ended.0 c.in_ok-copies.ensures.extended c.requires.test

pub returns-clause-ending : goal.returns-clause-ending
returns-clause-ending c =
    let g = c.put_copies_of.new.terms in
    record {
      middle = g;
      copy = c.copy_of-copy.result.0;
      first = c.in_ok-copies.ensures.extended;
      second = c.in_ok-ended.ensures.extended;
      copied = subst (λ (ids : List TermId). IsCopy g c.args.source.now ids c.copy_of-copy.result.0 c.args.valid.0) c.deref.ensures.value
          (first_copy g c.args.source.now c.deref.result.now c.in_ok-copies.copies.items c.deref-2.result.now c.args.listed.now c.requires.first.0 c.args.valid c.copy_of-copy.result
          c.deref-2.ensures.value c.requires.first.1 c.in_ok-copies.ensures.copies c.copy_of-copy.ensures);
      same = ap (λ (x : Vec TermId Global). x.items) c.in_ok-ended.ensures.point;
      test = c.in_ok-ended.ensures.test;
      value = c.in_ok-ended.ensures.ended;
    }
