use Rattle.std.proofs.Common.{◌≡◌, suc, not, ◌&&◌, true, false, ◌∙◌, ap, sym}
use Rattle.emitted_modules.specs.Nodes.{node_at, is_part}
use Rattle.emitted_names.specs.Parts.{is_name}
use Rattle.emitted_names.proofs.parts.is_part.Goals as goal

pub returns-then-not-is_name : goal.returns-then-not-is_name
returns-then-not-is_name c =
    let g = c.args.terms.now in
    let m = c.args.memory.0 in
    let k = c.args.id.0 in
    let e : is_name (node_at g k) ≡ false = sym (c.is_name-is_name.ensures ∙ ap is_name c.node_of.ensures.node) ∙ c.if-not-is_name.true in
    c.is_marked-is_marked.ensures ∙ c.requires.marked k ∙ ap (λ b. not b && is_part g (suc m) m k) (sym e)

pub returns-else-not-is_name : goal.returns-else-not-is_name
returns-else-not-is_name c =
    let g = c.args.terms.now in
    let m = c.args.memory.0 in
    let k = c.args.id.0 in
    let e : is_name (node_at g k) ≡ true = sym (c.is_name-is_name.ensures ∙ ap is_name c.node_of.ensures.node) ∙ c.if-not-is_name.false in
    ap not c.if-not-is_name.false ∙ ap (λ b. not b && is_part g (suc m) m k) (sym e)
