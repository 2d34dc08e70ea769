use Rattle.std.proofs.Common.{sym, subst}
use Rattle.v_design.specs.Seen.{parts_of}
use Rattle.ila_sim.specs.Scripts.{IsScriptWithin}
use Rattle.ila_sim.specs.Settables.{settables_view}
use Rattle.scripts.specs.Script.{script_reading}
use Rattle.ila_sim.specs.declared.whole.Simulation.TheVariants.{Refused}
use Rattle.ila_sim.specs.Whole.{IsSimulationNoted}
use Rattle.v_sim.specs.Whole.{IsAnswer}
use Rattle.v_sim.specs.Names.{names_by}
use Rattle.v_sim.specs.Texts.{text_by}
use Rattle.v_sim.proofs.Named.{are_settables}
use Rattle.v_sim.proofs.Told.{told}
use Rattle.v_sim.proofs.Answered.{told_answer, refused_answer, refused_by, noted_by, refused_note}
use Rattle.v_sim.proofs.whole.simulated.Goals as goal

pub returns-in-Ok : goal.returns-in-Ok
returns-in-Ok c =
    let design = c.args.design.now in
    let e = parts_of design in
    let n = names_by e in
    let seen = settables_view c.in_ok-names.names in
    let view = c.in_ok-names.ensures in
    let script = c.in-Ok.script in
    let text = c.in_ok-text-in-Ok.text in record {
      told = λ d meant runs. record {
        names = n;
        are_settables = are_settables d e meant design.counting design.words;
        is_answer = told_answer d seen n c.args.script.now script text (text_by e script) view c.in-Ok.ensures.answer c.in_ok-text-in-Ok.ensures.text
            (told d e meant runs design.counting design.words script (subst (λ m. IsScriptWithin m script) view c.in-Ok.ensures.right) c.in_ok-text-in-Ok.ensures.sorted);
        note = tt;
      };
    }

pub returns-in-Err-Refused : goal.returns-in-Err-Refused
returns-in-Err-Refused c =
    let design = c.args.design.now in
    let e = parts_of design in
    let n = names_by e in
    let seen = settables_view c.in_ok-names.names in
    let view = c.in_ok-names.ensures in
    let refusal = c.in-Err-Refused.refusal in record {
      told = λ d meant runs. record {
        names = n;
        are_settables = are_settables d e meant design.counting design.words;
        is_answer = subst (λ r. IsAnswer d n (script_reading n c.args.script.now) (Refused r)) (sym c.in-Err-Refused.refusal-is) (refused_answer d seen n c.args.script.now refusal view
            (refused_by seen c.args.script.now c.in-Err-Refused.field-0 refusal c.in-Err-Refused.field-0-is c.in-Err-Refused.ensures.answer));
        note = subst (λ r. IsSimulationNoted n c.args.script.now (Refused r)) (sym c.in-Err-Refused.refusal-is) (refused_note seen n c.args.script.now refusal view
            (noted_by seen c.args.script.now c.in-Err-Refused.field-0 refusal c.in-Err-Refused.field-0-is c.in-Err-Refused.ensures.note));
      };
    }
