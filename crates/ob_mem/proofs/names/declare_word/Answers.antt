use Rattle.std.proofs.Common.{◌≡◌, ◌∙◌, ◌++◌, ◌∷◌, [], length, ap, sym, subst, arith}
use Rattle.std.specs.String.{string_bytes}
use Rattle.wb_values.specs.Value.{Name, word}
use Rattle.wb_terms.specs.Graph.{Graph}
use Rattle.ob_mem.specs.Words.{AreFree, name_of_word}
use Rattle.ob_mem.proofs.Naming.{free_push}
use Rattle.ob_mem.proofs.names.declare_word.Goals as goal

pub returns-clause-free : goal.returns-clause-free
returns-clause-free c =
    let g = c.args.terms.now in
    let n : string_bytes c.in_ok-name.name ≡ name_of_word c.args.marks (length g.names) = c.in_ok-name.ensures ∙ ap (name_of_word c.args.marks) c.name_count-place.ensures.names in
    let e : c.declare.new.terms.names ≡ g.names ++ (name_of_word c.args.marks (length g.names), word c.args.width) ∷ [] =
    ap (λ (x : Graph). x.names) c.in_ok-id.ensures.ok ∙ ap (λ (b : Name). g.names ++ (b, word c.args.width) ∷ []) n in
    subst (AreFree c.args.marks) (sym e) (free_push c.args.marks g.names (word c.args.width) (omega (arith, c.name_count-place.ensures.names)) c.requires.free)
