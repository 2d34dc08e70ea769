use Rattle.std.proofs.Common.{◌≡◌, ◌∙◌, ℕ, ◌+◌, ◌++◌, ◌∷◌, [], List, map, length, drop, ap, sym, subst, arith}
use Rattle.ob_mem.specs.Words.{AreFree, words_of, starts_of, entry_of_word}
use Rattle.ob_mem.proofs.Wording.{memories_turn, memories_start}
use Rattle.ob_mem.proofs.names.with_words.Goals as goal

pub loop-place-init : goal.loop-place-init
loop-place-init c =
    rw (c.new-list.ensures.items, c.new-firsts.ensures.items) (memories_start c.in_ok-marks.marks c.args.old.now.names c.in_ok-terms.terms c.in_ok-terms.ensures c.in_ok-marks.ensures)

pub loop-place-preserved : goal.loop-place-preserved
loop-place-preserved c =
    let l = c.loop-place in
    let w = c.in_ok-declare_words.ensures.words in
    let pushed = c.in_ok-push.ensures.items ∙ ap (λ k. l.firsts.items ++ k ∷ []) c.name_count-start.ensures.names in
    let t = memories_turn c.in_ok-marks.marks c.args.old.now.names l.place l.terms.names c.declare_words.new.terms.names l.list.items c.declare_words.new.list.items l.firsts.items c.push.new.self.items (omega (arith, c.loop-place-test.true, c.name_count-place-end.ensures.names))
    w pushed l.invariant.0 l.invariant.1 l.invariant.2 in
    (t.0, t.1, t.2, c.in_ok-declare_words.ensures.nodes ∙ l.invariant.3, c.in_ok-declare_words.ensures.free)
