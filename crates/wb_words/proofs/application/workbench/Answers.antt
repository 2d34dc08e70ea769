use Rattle.std.proofs.Common.{◌≡◌, ◌∙◌, ap, ap₂, codes, true}
use Rattle.std.proofs.lemmas.Result.{IfOk-weaker}
use Rattle.clap.specs.Simple.{App, Shape, app_of, app_of_fields, new_app, on_top, with_subcommand}
use Rattle.wb_words.specs.Application.{check_command, replay_command, simulate_both_command, simulate_command, simulate_rtl_command, workbench_app}
use Rattle.wb_words.proofs.application.workbench.Goals as goal

abbrev wanting : App → App
wanting = on_top (λ (s : Shape). record s { subcommand_required = true })

abbrev without_help : App → App
without_help = on_top (λ (s : Shape). record s { disable_help_subcommand = true })

pub returns : goal.returns
unfolding workbench_app
returns c =
    let first : app_of c.subcommand_required.result ≡ wanting (app_of c.new.result) = ap app_of_fields c.subcommand_required.ensures in
    let second : app_of c.disable_help_subcommand.result ≡ without_help (app_of c.subcommand_required.result) = ap app_of_fields c.disable_help_subcommand.ensures in
    let start : app_of c.disable_help_subcommand.result ≡ without_help (wanting (new_app (codes "wb"))) = second ∙ ap without_help (first ∙ ap wanting c.new.ensures.app) in
    let one : app_of c.in_ok-subcommand.field-0 ≡ with_subcommand (without_help (wanting (new_app (codes "wb")))) check_command =
    c.in_ok-subcommand.ensures.shape c.in_ok-check.ensures.local ∙ ap₂ with_subcommand start c.in_ok-check.ensures.app in
    let two : app_of c.in_ok-subcommand-2.field-0 ≡ with_subcommand (with_subcommand (without_help (wanting (new_app (codes "wb")))) check_command) simulate_command =
    c.in_ok-subcommand-2.ensures.shape c.in_ok-simulate.ensures.local ∙ ap₂ with_subcommand one c.in_ok-simulate.ensures.app in
    let three : app_of c.in_ok-subcommand-3.field-0 ≡ with_subcommand (with_subcommand (with_subcommand (without_help (wanting (new_app (codes "wb")))) check_command) simulate_command) simulate_rtl_command =
    c.in_ok-subcommand-3.ensures.shape c.in_ok-simulate_rtl.ensures.local ∙ ap₂ with_subcommand two c.in_ok-simulate_rtl.ensures.app in
    let four : app_of c.in_ok-subcommand-4.field-0 ≡ with_subcommand (with_subcommand (with_subcommand (with_subcommand (without_help (wanting (new_app (codes "wb")))) check_command) simulate_command) simulate_rtl_command) replay_command =
    c.in_ok-subcommand-4.ensures.shape c.in_ok-replay.ensures.local ∙ ap₂ with_subcommand three c.in_ok-replay.ensures.app in
    let five : app_of c.in_ok-subcommand-5.field-0 ≡ with_subcommand (with_subcommand (with_subcommand (with_subcommand (with_subcommand (without_help (wanting (new_app (codes "wb")))) check_command) simulate_command) simulate_rtl_command) replay_command) simulate_both_command =
    c.in_ok-subcommand-5.ensures.shape c.in_ok-simulate_both.ensures.local ∙ ap₂ with_subcommand four c.in_ok-simulate_both.ensures.app in
    IfOk-weaker c.subcommand-6.result _ _ (λ r h. h.shape c.in_ok-emit.ensures.local ∙ ap₂ with_subcommand five c.in_ok-emit.ensures.app) c.subcommand-6.ensures
