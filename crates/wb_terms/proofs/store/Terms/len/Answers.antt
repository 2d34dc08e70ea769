use Rattle.std.proofs.Common.{◌∙◌, length, sym, ap, arith}
use Rattle.std.proofs.lemmas.List.{length-map}
use Rattle.wb_terms.specs.Graph.{Graph}
use Rattle.wb_terms.specs.Entries.{node_of}
use Rattle.wb_terms.proofs.StoreLemmas.{length-trees_of}
use Rattle.wb_terms.proofs.store.Terms.len.Goals as goal

pub returns-clause-trees : goal.returns-clause-trees
returns-clause-trees c =
    let es = c.self.inside.terms in
    let n = sym (ap (λ (x : Graph). length x.nodes) c.self.view_is) ∙ length-map es.items node_of in
    omega (arith, n, length-trees_of c.args.self.now, c.len.ensures, es.ok.0)
