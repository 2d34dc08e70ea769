use Rattle.std.proofs.Common.{refl}
use Rattle.v_value.specs.Scope.{object_of}
use Rattle.v_elab.proofs.Masked.{masked_word, masked_memory}
use Rattle.v_elab.proofs.keeping.kept_term.Goals as goal

pub returns-in_ok-id-in-Word-clause-masked : goal.returns-in_ok-id-in-Word-clause-masked
returns-in_ok-id-in-Word-clause-masked c =
    masked_word (object_of c.args.object) c.args.masks.now c.args.terms.now c.word_kept.new.terms c.args.place.0 c.in-Word.width _ c.in_ok-id-in-Word.id.0
    c.word_kept.ensures.grows c.requires.sort c.in-Word.ensures.sort refl c.in_ok-id-in-Word.ensures.kept

pub returns-in_ok-id-in-Memory-clause-masked : goal.returns-in_ok-id-in-Memory-clause-masked
returns-in_ok-id-in-Memory-clause-masked c =
    masked_memory (object_of c.args.object) c.args.masks.now c.args.terms.now c.memory_kept.new.terms c.args.place.0 c.in-Memory.address_width c.in-Memory.width c.in_ok-id-in-Memory.id.0
    c.memory_kept.ensures.grows c.requires.sort c.in-Memory.ensures.sort c.requires.masks c.in_ok-id-in-Memory.ensures.cut
