use Rattle.std.proofs.Common.{◌≡◌, ◌∙◌, ◌<◌, ◌*◌, Bool, List, [], length, take, map, get_or, false, arith, ap, sym, subst}
use Rattle.std.proofs.lemmas.List.{take-map, get_or-map, length-map, length-replicate}
use Rattle.sat_base.specs.declared.literals.Lit.{Lit}
use Rattle.sat_base.specs.Propagation.{IsConflictBy}
use Rattle.sat_check.specs.Numbering.{literal_at}
use Rattle.sat_check.proofs.Numberings.{IsNumbering-literal_at}
use Rattle.sat_check.proofs.checker.Checker.follows.Goals as goal

pub returns-clause-decides : goal.returns-clause-decides
returns-clause-decides c =
    let variables = c.self.inside.variables.items in
    let clauses = c.self.inside.clauses in
    let number = c.args.number in
    let at = literal_at variables in
    let all : map (map at) clauses ≡ c.args.self.now = c.self.view_is in
    let below : number < length clauses = omega (arith, c.requires, ap (λ (cs : List (List Lit)). length cs) all, length-map clauses (map at)) in
    let size : length c.self.inside.marks ≡ 2 * length variables =
    ap (λ (m : List Bool). length m) c.self.invariant.clean ∙ length-replicate (2 * length variables) false in
    let increasing = c.self.invariant.increasing in
    let literals = c.list.result.now in
    let marked = c.mark_all.ensures.marked at (IsNumbering-literal_at variables increasing (length c.self.inside.marks) size) in
    let decides =
    c.leads_to_conflict-holds.ensures.decides at
    (IsNumbering-literal_at variables increasing (length c.mark_all.new.marks) (c.mark_all.ensures.size ∙ size)) (map at literals) marked in
    let front : map (map at) (take number clauses) ≡ take number c.args.self.now = sym (take-map (map at) number clauses) ∙ ap (take number) all in
    let own : map at literals ≡ get_or c.args.self.now number [] =
    ap (map at) c.list.ensures ∙ sym (get_or-map (map at) clauses number [] [] below) ∙ ap (λ (cs : List (List Lit)). get_or cs number []) all in (
      λ holds.
          subst (λ (lits : List Lit). IsConflictBy (take number c.args.self.now) lits c.args.hints.now) own
          (subst (λ (cs : List (List Lit)). IsConflictBy cs (map at literals) c.args.hints.now) front (decides.0 holds)),
      λ walk.
          decides.1
          (subst (λ (cs : List (List Lit)). IsConflictBy cs (map at literals) c.args.hints.now) (sym front)
          (subst (λ (lits : List Lit). IsConflictBy (take number c.args.self.now) lits c.args.hints.now) (sym own) walk)),
    )
