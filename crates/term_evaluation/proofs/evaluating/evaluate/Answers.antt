use Rattle.std.proofs.Common.{arith}
use Rattle.wb_terms.specs.Graph.{operands_of}
use Rattle.term_evaluation.specs.Slots.{values_in}
use Rattle.term_evaluation.proofs.PendingLemmas.{words_held, links_held, kept_over, kept_more}
use Rattle.term_evaluation.proofs.evaluating.evaluate.Goals as goal

pub word_of-word-requires-clause-words : goal.word_of-word-requires-clause-words
word_of-word-requires-clause-words c =
    words_held c.args.terms.now (values_in c.args.pool.now c.args.names.now) c.args.pool.now c.args.words.now c.args.links.now c.args.stamps.now c.args.time c.args.id.0 (operands_of c.args.node) (omega (arith, c.requires.id)) c.requires.kept
    c.requires.over.operands c.requires.operands

pub word_of-word-requires-clause-memories : goal.word_of-word-requires-clause-memories
word_of-word-requires-clause-memories c =
    links_held c.args.terms.now (values_in c.args.pool.now c.args.names.now) c.args.pool.now c.args.words.now c.args.links.now c.args.stamps.now c.args.time c.args.id.0 (operands_of c.args.node) (omega (arith, c.requires.id)) c.requires.kept
    c.requires.over.operands c.requires.operands

pub link_of-requires-clause-words : goal.link_of-requires-clause-words
link_of-requires-clause-words c =
    words_held c.args.terms.now (values_in c.args.pool.now c.args.names.now) c.args.pool.now c.args.words.now c.args.links.now c.args.stamps.now c.args.time c.args.id.0 (operands_of c.args.node) (omega (arith, c.requires.id)) c.requires.kept
    c.requires.over.operands c.requires.operands

pub link_of-requires-clause-memories : goal.link_of-requires-clause-memories
link_of-requires-clause-memories c =
    links_held c.args.terms.now (values_in c.args.pool.now c.args.names.now) c.args.pool.now c.args.words.now c.args.links.now c.args.stamps.now c.args.time c.args.id.0 (operands_of c.args.node) (omega (arith, c.requires.id)) c.requires.kept
    c.requires.over.operands c.requires.operands

pub returns-in_err-link-clause-kept : goal.returns-in_err-link-clause-kept
returns-in_err-link-clause-kept c =
    kept_over c.args.terms.now (values_in c.args.pool.now c.args.names.now) c.args.pool.now c.link_of.new.pool c.args.words.now c.args.links.now c.args.stamps.now c.args.time c.in_err-link.ensures.keeps c.requires.kept

pub returns-clause-kept : goal.returns-clause-kept
returns-clause-kept c =
    kept_more c.args.terms.now (values_in c.args.pool.now c.args.names.now) c.args.pool.now c.link_of.new.pool c.args.words.now c.args.links.now c.args.stamps.now c.args.time c.args.id.0 c.word_of-word.result c.in_ok-link.link
    c.in_ok-link.ensures.keeps c.requires.id c.word_of-word.ensures c.in_ok-link.ensures.link c.requires.kept
