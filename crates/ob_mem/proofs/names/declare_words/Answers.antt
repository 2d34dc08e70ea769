use Rattle.std.proofs.Common.{◌≡◌, ◌∙◌, ℕ, suc, ◌+◌, ◌++◌, ◌∷◌, [], List, map, length, ap, sym, subst, arith}
use Rattle.wb_values.specs.Value.{Name, Sort, word, Entries}
use Rattle.wb_terms.specs.Graph.{Graph}
use Rattle.wb_terms.specs.Sort.{as_sort}
use Rattle.ob_mem.specs.declared.words.MemoryWord.{MemoryWord}
use Rattle.ob_mem.specs.Words.{AreFree, entry_at, word_width, listed, word_at, name_of_word, entry_of_word}
use Rattle.ob_mem.proofs.Wording.{words_turn}
use Rattle.ob_mem.proofs.names.declare_words.Goals as goal

pub loop-address-preserved : goal.loop-address-preserved
loop-address-preserved c =
    let l = c.loop-address in
    let es = c.args.old.now.names in
    let ns = c.args.terms.now.names in
    let t = words_turn c.args.marks es ns l.terms.names c.declare_word.new.terms.names c.args.list.now.items l.list.items c.push.new.self.items c.args.memory.0 l.address c.in_ok-name.name.0 c.in-Memory.address_width c.in-Memory.word_width
    c.in_ok-name.ensures.id (ap (λ (x : Graph). x.names) c.in_ok-name.ensures.ok) c.in_ok-push.ensures.items (ap as_sort (sym c.in-Memory.is) ∙ c.name_sort.ensures.sort) l.invariant.0 l.invariant.1 in (
      t.0,
      t.1,
      ap (λ (x : Graph). x.nodes) c.in_ok-name.ensures.ok ∙ l.invariant.2,
      c.in_ok-name.ensures.free,
    )
