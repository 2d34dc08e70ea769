use Rattle.std.proofs.Common.{◌≡◌, Bool, List, map, length, true, false, sym, ap, ◌∙◌, subst, Vec, Global}
use Rattle.std.specs.List.{list_all}
use Rattle.scripts.specs.Script.{sets_name, has_all_inputs}
use Rattle.ila_sim.specs.declared.names.Settable.{Settable}
use Rattle.ila_sim.specs.declared.set.Set.{Set}
use Rattle.ila_sim.specs.Lines.{sets_view}
use Rattle.ila_sim.specs.Names.{settable_of}
use Rattle.ila_sim.specs.Scripts.{script_view}
use Rattle.ila_sim.specs.Sets.{are_within}
use Rattle.ila_sim.specs.Settables.{settables_view}
use Rattle.ila_sim.proofs.Apart.{lines_within}
use Rattle.ila_sim.proofs.Faulty.{missing_noted, missing_reading}
use Rattle.ila_sim.proofs.reading.if_complete.Goals as goal

pub all_set-requires-clause-places : goal.all_set-requires-clause-places
all_set-requires-clause-places c =
    let es = c.args.names.now.inputs.items in
    let there = lines_within (map settable_of es) c.args.script.inputs.items c.requires.within.1 in
    subst (λ (ds : List Settable). list_all (λ (l : Vec Set Global). are_within (length (map settable_of ds)) l.items) c.deref-2.result.now ≡ true) (sym c.deref.ensures.value)
    (subst (λ (ls : List (Vec Set Global)). list_all (λ (l : Vec Set Global). are_within (length (map settable_of es)) l.items) ls ≡ true) (sym c.deref-2.ensures.value) there)

have_all : List Settable → List (Vec Set Global) → Bool
have_all es ls = list_all (λ ss. list_all (sets_name ss) (map settable_of es)) (map (λ (l : Vec Set Global). sets_view (map settable_of es) l.items) ls)

left_out : (es ds : List Settable) (ls ks : List (Vec Set Global)) (b : Bool) → ds ≡ es → ks ≡ ls → b ≡ have_all ds ks → b ≡ false → have_all es ls ≡ false
left_out es ds ls ks b e f g h = sym (ap (λ xs. have_all xs ks) e ∙ ap (have_all es) f) ∙ (sym g ∙ h)

pub refused-requires : goal.refused-requires
unfolding have_all
refused-requires c =
    let ns = settables_view c.args.names.now in
    let left : has_all_inputs ns (script_view ns c.args.script) ≡ false =
    left_out c.args.names.now.inputs.items c.deref.result.now c.args.script.inputs.items c.deref-2.result.now c.in-Ok-false.field-0 c.deref.ensures.value c.deref-2.ensures.value c.in-Ok-false.ensures c.in-Ok-false.field-0-test in
    missing_noted ns c.args.bytes.now (missing_reading ns c.args.bytes.now (script_view ns c.args.script) c.requires.read left)
