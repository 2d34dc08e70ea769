use Rattle.std.proofs.Common.{◌++◌, List, sym, ap, ◌∙◌, arith, append-nil}
use Rattle.std.proofs.lemmas.List.{drop_all}
use Rattle.sparse_memories.specs.declared.listing.SetWord.{SetWord}
use Rattle.ila_sim.specs.Texts.{set_words_text}
use Rattle.ila_sim.proofs.Told.{words_turn}
use Rattle.ila_sim.proofs.text.append_words.Goals as goal

pub loop-k-preserved : goal.loop-k-preserved
loop-k-preserved c =
    words_turn c.args.name.now c.args.words.now c.loop-k.k (record { address = 0; word = 0 }) c.loop-k.out.items c.append_address.new.out.items c.loop-k-test.true c.in_ok-append_address.ensures
    ∙ c.loop-k.invariant

pub returns : goal.returns
returns c =
    let none = drop_all c.loop-k.k c.args.words.now (omega (arith, c.loop-k-test.false)) in
    sym (append-nil c.loop-k.out.items) ∙ sym (ap (λ (ws : List SetWord). c.loop-k.out.items ++ set_words_text c.args.name.now ws) none) ∙ c.loop-k.invariant
