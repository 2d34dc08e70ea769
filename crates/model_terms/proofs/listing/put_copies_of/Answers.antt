use Rattle.std.proofs.Common.{◌≡◌}
use Rattle.term_copies.proofs.Extending.{extended_refl, extended_same}
use Rattle.model_terms.proofs.Programming.{listed_copies}
use Rattle.model_terms.proofs.listing.put_copies_of.Goals as goal

pub returns-clause-room : goal.returns-clause-room
returns-clause-room c = c.in_ok-copies.ensures.copies.room

pub returns-clause-copies : goal.returns-clause-copies
returns-clause-copies c =
    listed_copies c.put_wanted_copies.new.terms c.args.source.now c.args.point.now c.args.wanted.now c.in_ok-copies.copies.items c.args.listed.now c.in_ok-copies.ensures.copies c.requires.listed
