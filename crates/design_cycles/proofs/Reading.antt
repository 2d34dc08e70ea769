-- Scripts are read in one way, and have one text.
use Rattle.std.proofs.Common.{◌≡◌, ◌∙◌, ℕ, cond, ◌&&◌, List, [], ◌∷◌, Option, Some, None, option_map, refl, sym, ap, ap₂}
use Rattle.std.specs.List.{list_all, list_any}
use Rattle.std.specs.Str.{is_utf8}
use Rattle.std.specs.Prelude.{codes}
use Rattle.wb_values.specs.Value.{Name, same_name}
use Rattle.verilog_registers.specs.Outputs.{outputs_of}
use Rattle.scripts.specs.Script.{Settable, Settables, Set, Script, settable_named, at_last, before_bracket, numeral_in, set_named, set_of, set_from, with_set, all_sets, if_distinct, sets_in, line_of_words, line_in, with_input, inputs_in, script_from, script_in, state_line, input_line, is_return, words_of, sets_name, reading_from, is_script, missing_input, bad_line, script_reading, without_skipped, lines_of}
use Rattle.design_scripts.specs.Simulation.{run_text}
use Rattle.design_cycles.specs.Unique.{OneReading, OneText}
use Rattle.design_cycles.proofs.Order.{some_same}
use Rattle.design_cycles.proofs.Names.{one_states, one_input, one_all}

-- ---- two lists in which each name is found alike

module _ (ss ts : List Settable) (alike : (n : Name) → settable_named ss n ≡ settable_named ts n) where
  same_of : (left : List ℕ) (o : Option (List ℕ × List ℕ)) (x : Option ℕ) → set_of ss left o x ≡ set_of ts left o x
  same_of left None x = ap (λ s. set_named s None x) (alike left)
  same_of left (Some parts) x = ap (λ s. set_named s (Some (before_bracket (at_last 93 parts.1))) x) (alike parts.0)

  same_from : (o : Option (List ℕ × List ℕ)) → set_from ss o ≡ set_from ts o
  same_from None = refl
  same_from (Some parts) = same_of parts.0 (at_last 91 parts.0) (numeral_in parts.1)

  same_all : (ws : List (List ℕ)) → all_sets ss ws ≡ all_sets ts ws
  same_all [] = refl
  same_all (w ∷ ws) = ap₂ with_set (same_from (at_last 61 w)) (same_all ws)

  pub same_sets : (ws : List (List ℕ)) → sets_in ss ws ≡ sets_in ts ws
  same_sets ws = ap if_distinct (same_all ws)

module _ (names others : Settables) (states : names.states ≡ others.states) (inputs : (n : Name) → settable_named names.inputs n ≡ settable_named others.inputs n) where
  same_words : (ws : List (List ℕ)) → line_of_words names ws ≡ line_of_words others ws
  same_words [] = refl
  same_words (w ∷ ws) =
      ap₂ (λ x y. cond (same_name w (codes "state")) (option_map state_line x) (cond (same_name w (codes "in")) (option_map input_line y) None))
      (ap (λ ss. sets_in ss ws) states) (same_sets names.inputs others.inputs inputs ws)

  same_line : (line : List ℕ) → line_in names line ≡ line_in others line
  same_line line = ap (λ x. cond (list_any is_return line) None x) (same_words (words_of line))

  same_lines : (lines : List (List ℕ)) → inputs_in names lines ≡ inputs_in others lines
  same_lines [] = refl
  same_lines (line ∷ lines) = ap₂ with_input (same_line line) (same_lines lines)

  same_script : (lines : List (List ℕ)) → script_in names lines ≡ script_in others lines
  same_script [] = refl
  same_script (line ∷ lines) = ap₂ script_from (same_line line) (same_lines lines)

  module _ (all : (ss : List Set) → list_all (sets_name ss) names.inputs ≡ list_all (sets_name ss) others.inputs) where
    same_complete : (ls : List (List Set)) → list_all (λ ss. list_all (sets_name ss) names.inputs) ls ≡ list_all (λ ss. list_all (sets_name ss) others.inputs) ls
    same_complete [] = refl
    same_complete (l ∷ ls) = ap₂ (λ x y. x && y) (all l) (same_complete ls)

    same_judged : (o : Option Script) → reading_from names o ≡ reading_from others o
    same_judged None = refl
    same_judged (Some script) = ap (λ b. cond b (is_script script) missing_input) (same_complete script.inputs)

    pub same_reading : (bytes : List ℕ) → script_reading names bytes ≡ script_reading others bytes
    same_reading bytes =
        let lines = without_skipped (lines_of bytes) in
        ap (λ r. cond (is_utf8 bytes) r bad_line) (same_judged (script_in names lines) ∙ ap (reading_from others) (same_script lines))

pub one_reading : OneReading
one_reading d names others bytes runs a b = same_reading names others (one_states d names others runs a b) (one_input d names others a b) (one_all d names others a b) bytes

pub one_text : OneText
one_text d names others script text other runs a b t u =
    let run = t.some_run in
    let top = some_same (sym t.is_top ∙ u.is_top) in
    t.each_run run.0 run.1 run.2
    ∙ (ap₂ (λ p ss. run_text (outputs_of p.of_module) ss run.0 run.1) top (one_states d names others runs a b)
    ∙ sym (u.each_run run.0 run.1 run.2))
