use Rattle.std.proofs.Common.{◌≡◌, ◌∙◌, ◌+◌, ◌<◌, List, length, Option, ap, sym, subst, arith}
use Rattle.std.specs.Map.{lookup}
use Rattle.std.specs.Ordering.{nat_cmp}
use Rattle.std.specs.BTreeMap.{get, is_at}
use Rattle.std.proofs.lemmas.Bool.{false≢true}
use Rattle.sat_gates.specs.Layout.{bit_count}
use Rattle.sat_gates.specs.Used.{listed}
use Rattle.sat_gates.proofs.Members.{emptied}
use Rattle.sat_gates.proofs.Laying.{among, laying_start, laying_next, laying_turn, laying_firsts, laying_end}
use Rattle.sat_gates.proofs.layout.lay_out.Goals as goal

pub loop-name-init : goal.loop-name-init
loop-name-init c =
    (0, laying_start c.args.terms.now.names c.args.used.keys (get nat_cmp c.new-firsts.result) c.requires.below (λ q. ap (λ es. lookup (is_at (nat_cmp q)) es) c.new-firsts.ensures.empty))

pub name_sort-requires : goal.name_sort-requires
name_sort-requires c =
    laying_next c.args.terms.now.names (among c.args.used.keys) c.in-Some.name c.pop_first.new.self.keys c.loop-name.used.keys (get nat_cmp c.loop-name.firsts) c.loop-name.inputs c.loop-name.invariant.0
    c.in-Some.ensures.removal c.loop-name.invariant.1

pub loop-name-preserved : goal.loop-name-preserved
loop-name-preserved c =
    let l = c.loop-name in (
      c.in-Some.name + 1,
      laying_turn c.args.terms.now.names (among c.args.used.keys) c.in-Some.name c.pop_first.new.self.keys l.used.keys (get nat_cmp l.firsts) (get nat_cmp c.insert.new.self)
          l.inputs c.in_ok-inputs.inputs l.invariant.0 c.in-Some.ensures.removal c.in-Some.ensures.all_above c.in_ok-insert.ensures.updates.0
          (c.in_ok-inputs.ensures ∙ ap (λ s. l.inputs + bit_count s) c.name_sort.ensures.sort) l.invariant.1,
    )

pub loop-name-smaller : goal.loop-name-smaller
loop-name-smaller c = omega (arith, ap length c.in-Some.ensures.removal)

pub returns-clause-firsts : goal.returns-clause-firsts
returns-clause-firsts c =
    let l = c.loop-name in
    ap (λ n. listed (get nat_cmp l.firsts) 0 n) c.name_count-names.ensures.names
    ∙ laying_firsts c.args.terms.now.names (among c.args.used.keys) l.used.keys (get nat_cmp l.firsts) l.inputs l.invariant.0
    (emptied l.used.keys (λ i. false≢true (c.in_default.ensures.variant.1 i))) l.invariant.1

pub returns-clause-inputs : goal.returns-clause-inputs
returns-clause-inputs c =
    let l = c.loop-name in
    laying_end c.args.terms.now.names (among c.args.used.keys) l.used.keys (get nat_cmp l.firsts) l.inputs l.invariant.0
    (emptied l.used.keys (λ i. false≢true (c.in_default.ensures.variant.1 i))) l.invariant.1
