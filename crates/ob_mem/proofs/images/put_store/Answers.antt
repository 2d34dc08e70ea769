use Rattle.std.proofs.Common.{◌≡◌, ◌∙◌, ℕ, ◌+◌, ◌<◌, ◌^◌, ap, sym, subst, length, arith}
use Rattle.wb_values.specs.Value.{truth, word}
use Rattle.ob_mem.specs.Rows.{IsRow, tree_in, AreOver, AreWords, IsPlain}
use Rattle.ob_mem.specs.declared.rows.Row.TheVariants.{Constants, Matches, Updates}
use Rattle.ob_mem.proofs.Counting.{row_counted}
use Rattle.ob_mem.proofs.Growing.{Grows-trans, IsPlain-kept, AreWords-kept, row_grows}
use Rattle.ob_mem.proofs.Storing.{constants_words, matches_plain, updates_over, updates_words, stored}
use Rattle.ob_mem.proofs.images.put_store.Goals as goal

pub put_matches-requires-clause-x : goal.put_matches-requires-clause-x
put_matches-requires-clause-x c =
    IsPlain-kept c.args.address.0 (word c.args.address_width) (row_grows (tree_in c.args.terms.now (Constants c.args.address_width)) (2 ^ c.args.address_width) c.in_ok-constants.ensures.row) c.requires.address

pub put_matches-requires-clause-words : goal.put_matches-requires-clause-words
put_matches-requires-clause-words c =
    constants_words c.args.terms.now c.put_constants.new.terms c.in_ok-constants.constants.0 c.args.address_width c.requires.some c.requires.narrow c.in_ok-constants.ensures.id c.in_ok-constants.ensures.row

pub put_row-requires : goal.put_row-requires
put_row-requires c =
    let g = c.args.terms.now in
    let g1 = c.put_constants.new.terms in
    let g2 = c.put_matches.new.terms in
    let a = c.args.address_width in
    let grows1 = row_grows (tree_in g (Constants a)) (2 ^ a) c.in_ok-constants.ensures.row in
    let grows2 = row_grows (tree_in g1 (Matches c.args.address c.in_ok-constants.constants)) (2 ^ a) c.in_ok-matches.ensures.row in
    let grows = Grows-trans grows1 grows2 in
    let constants = constants_words g g1 c.in_ok-constants.constants.0 a c.requires.some c.requires.narrow c.in_ok-constants.ensures.id c.in_ok-constants.ensures.row in
    let address = IsPlain-kept c.args.address.0 (word a) grows1 c.requires.address in
    subst (AreOver g2 (Updates c.in_ok-matches.matches c.args.x c.args.row)) (sym c.power.ensures)
    (updates_over g2 c.in_ok-matches.matches c.args.x c.args.row (2 ^ a) c.requires.words.0
    (λ k b. matches_plain g1 g2 c.args.address c.in_ok-constants.constants c.in_ok-matches.matches.0 (2 ^ a) a k c.in_ok-matches.ensures.id c.in_ok-matches.ensures.row b address constants)
    (IsPlain-kept c.args.x.0 (word c.requires.words.0) grows c.requires.words.2) (AreWords-kept c.args.row.0 (2 ^ a) c.requires.words.0 grows c.requires.words.1))

pub returns-clause-grows : goal.returns-clause-grows
returns-clause-grows c =
    let g = c.args.terms.now in
    let a = c.args.address_width in
    Grows-trans (row_grows (tree_in g (Constants a)) (2 ^ a) c.in_ok-constants.ensures.row)
    (Grows-trans (row_grows (tree_in c.put_constants.new.terms (Matches c.args.address c.in_ok-constants.constants)) (2 ^ a) c.in_ok-matches.ensures.row)
    (row_grows (tree_in c.put_matches.new.terms (Updates c.in_ok-matches.matches c.args.x c.args.row)) c.power.result c.in_ok-id.ensures.row))

pub returns-clause-words : goal.returns-clause-words
returns-clause-words c d p q =
    let g = c.args.terms.now in
    let g1 = c.put_constants.new.terms in
    let g2 = c.put_matches.new.terms in
    let g3 = c.put_row.new.terms in
    let a = c.args.address_width in
    let grows1 = row_grows (tree_in g (Constants a)) (2 ^ a) c.in_ok-constants.ensures.row in
    let grows2 = row_grows (tree_in g1 (Matches c.args.address c.in_ok-constants.constants)) (2 ^ a) c.in_ok-matches.ensures.row in
    let grows = Grows-trans grows1 grows2 in
    let constants = constants_words g g1 c.in_ok-constants.constants.0 a c.requires.some c.requires.narrow c.in_ok-constants.ensures.id c.in_ok-constants.ensures.row in
    let address = IsPlain-kept c.args.address.0 (word a) grows1 c.requires.address in
    let row = subst (IsRow g2 g3 (tree_in g2 (Updates c.in_ok-matches.matches c.args.x c.args.row))) c.power.ensures c.in_ok-id.ensures.row in
    updates_words g2 g3 c.in_ok-matches.matches c.args.x c.args.row c.in_ok-id.id.0 (2 ^ a) d c.in_ok-id.ensures.first row
    (λ k b. matches_plain g1 g2 c.args.address c.in_ok-constants.constants c.in_ok-matches.matches.0 (2 ^ a) a k c.in_ok-matches.ensures.id c.in_ok-matches.ensures.row b address constants)
    (IsPlain-kept c.args.x.0 (word d) grows q) (AreWords-kept c.args.row.0 (2 ^ a) d grows p)

pub returns-clause-values : goal.returns-clause-values
returns-clause-values c =
    let g2 = c.put_matches.new.terms in
    let g3 = c.put_row.new.terms in
    let row = subst (IsRow g2 g3 (tree_in g2 (Updates c.in_ok-matches.matches c.args.x c.args.row))) c.power.ensures c.in_ok-id.ensures.row in
    stored c.args.terms.now c.put_constants.new.terms g2 g3 c.args.row c.args.address c.args.x c.in_ok-constants.constants c.in_ok-matches.matches c.in_ok-id.id c.args.address_width c.requires.words.0
    c.requires.some c.requires.narrow c.requires.address c.requires.words.2 c.requires.words.1
    c.in_ok-constants.ensures.id c.in_ok-constants.ensures.row c.in_ok-matches.ensures.id c.in_ok-matches.ensures.row c.in_ok-id.ensures.first row

pub returns-clause-count : goal.returns-clause-count
returns-clause-count c =
    let g = c.args.terms.now in
    let g1 = c.put_constants.new.terms in
    let g2 = c.put_matches.new.terms in
    let g3 = c.put_row.new.terms in
    let a = c.args.address_width in
    let constants = row_counted g g1 (tree_in g (Constants a)) (2 ^ a) c.in_ok-constants.ensures.row in
    let matches = row_counted g1 g2 (tree_in g1 (Matches c.args.address c.in_ok-constants.constants)) (2 ^ a) c.in_ok-matches.ensures.row in
    let updates = row_counted g2 g3 (tree_in g2 (Updates c.in_ok-matches.matches c.args.x c.args.row)) c.power.result c.in_ok-id.ensures.row in
    omega (arith, constants, matches, updates, c.power.ensures)
