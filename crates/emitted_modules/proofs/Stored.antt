-- What every store of terms keeps.
use Rattle.std.proofs.Common.{◌≡◌, ℕ, zero, suc, ◌<◌, ◌^◌, false, List, [], ◌∷◌, map, length, get_or, refl, sym, subst, arith}
use Rattle.std.proofs.lemmas.List.{length-map}
use Rattle.wb_terms.specs.declared.nodes.Node.TheVariants.{Truth}
use Rattle.wb_terms.specs.declared.store.Entry.{Entry}
use Rattle.wb_terms.specs.Graph.{AllBelow, operands_of}
use Rattle.wb_terms.specs.Entries.{name_of, node_of, graph_of}
use Rattle.wb_terms.proofs.StoreLemmas.{entry_of_store, AllSorts-at}
use Rattle.emitted_modules.specs.Laws.{StoresAreStored}

-- an entry at a place, whatever else would stand there
there : (es : List Entry) (k : ℕ) → k < length es → (e : Entry) × (e ≡ get_or es k e) × (get_or (map node_of es) k (Truth false) ≡ e.node)
there [] k low = absurd (omega (arith, low))
there (x ∷ es) zero low = (x, refl, refl)
there (x ∷ es) (suc k) low = there es k (omega (arith, low))

pub stores_are_stored : StoresAreStored
stores_are_stored ds es sorted few = record {
  ordered = λ k low.
      let x = there es k (subst (λ n. k < n) (length-map es node_of) low) in
      subst (λ n. AllBelow k (operands_of n)) (sym x.2) (entry_of_store ds es (graph_of ds es) k x.0 refl sorted low x.1).operands;
  in_range = λ k low. AllSorts-at (map name_of ds) k _ sorted.in_range low;
  few = subst (λ n. n < 2 ^ 64) (sym (length-map es node_of)) few;
}
