-- When an instruction of an emitted module starts.
use Rattle.std.proofs.Common.{◌≡◌, ℕ, ◌<◌, ◌≤◌, Bool, true, false, ◌&&◌, inl, inr, List, [], ◌∷◌, ◌++◌, map, length, Some, None, refl, sym, ◌∙◌, ap, subst, arith}
use Rattle.std.specs.List.{list_all}
use Rattle.std.proofs.lemmas.Bool.{and_parts}
use Rattle.std.proofs.lemmas.List.{length-map}
use Rattle.wb_values.specs.Value.{Name, truth, number, as_truth, Valuation}
use Rattle.wb_values.specs.Names.{is_name_byte}
use Rattle.wb_values.specs.Number.{word_and}
use Rattle.model_meaning.specs.Term.{val}
use Rattle.model_meaning.specs.Model.{holds}
use Rattle.verilog_trees.specs.Syntax.{Expression, binary, bitwise_and}
use Rattle.verilog_meaning.specs.Expression.{bit, is_nonzero, is_true}
use Rattle.verilog_meaning.specs.Settled.{whole_name, IsDeclared}
use Rattle.term_expressions.specs.Expressions.{IsWorth}
use Rattle.term_expressions.proofs.Names.{name_is_its_value}
use Rattle.term_expressions.proofs.Forms.{bitwise_and_is_and}
use Rattle.term_expressions.proofs.Shifts.{by_itself}
use Rattle.wb_terms.specs.Graph.{tree}
use Rattle.ila_model.specs.declared.parts.Instruction.{Instruction}
use Rattle.ila_model.specs.declared.parts.Parts.{Parts}
use Rattle.ila_model.specs.Sorted.{is_condition, is_instruction, is_link, child_after, are_updates, are_instructions}
use Rattle.refinement.specs.Map.{condition_holds}
use Rattle.refinement.specs.Run.{Run, IsRun}
use Rattle.emitted_designs.specs.Names.{reset_name, go_name, start_name, commit_name}
use Rattle.emitted_designs.specs.Map.{setting_of}
use Rattle.emitted_designs.specs.Module.{top_of}
use Rattle.emitted_modules.specs.Rtl.{Wire, Rtl, module_of}
use Rattle.emitted_modules.specs.Nodes.{operand, node_wires}
use Rattle.emitted_modules.specs.Kept.{AreRead, IsKept}
use Rattle.emitted_modules.specs.Module.{one_name, decodes_of, decode_wires, all_ways, memories_from, ready_of, emitted_module}
use Rattle.emitted_modules.specs.Laws.{IsFlatModel}
use Rattle.emitted_modules.proofs.Names.{among_left, among_right}
use Rattle.emitted_modules.proofs.Declared.{scope_in, input_net}
use Rattle.emitted_modules.proofs.Nets.{IsPlain, plain_net, reset_plain, go_plain, start_plain, commit_plain, is_declared}
use Rattle.emitted_modules.proofs.Settled.{HasNumber, net_number, start_has, commit_has}
use Rattle.emitted_modules.proofs.Computed.{Worth}
use Rattle.emitted_modules.proofs.Decoding.{one_of, AreWorth, BitsAreRead, counted_by_wires}
use Rattle.emitted_modules.proofs.Reading.{read_number}
use Rattle.emitted_modules.proofs.Points.{bit_of_nonzero}
use Rattle.emitted_modules.proofs.Facts.{model, own, sorted_parts}
use Rattle.emitted_modules.proofs.Values.{nonzero_bit, setting, r, v, point, settled, wire_worth, node_done}
use Rattle.emitted_modules.proofs.Sorts.{term_of}

both_bits : (b c : Bool) → word_and (bit b) (bit c) ≡ bit (b && c)
both_bits true true = refl
both_bits true false = refl
both_bits false true = refl
both_bits false false = refl

pub bit_below : (b : Bool) → bit b < 2
bit_below true = omega arith
bit_below false = omega arith

module _ (name : Name) (p : Parts) (keep : ℕ → Bool) (h : IsFlatModel name p) (kept : IsKept p keep)
    (run : Run) (cycles : ℕ) (is_run : IsRun (setting_of (model name p keep h) (emitted_module name p keep)) run cycles) (t : ℕ) (le : t ≤ cycles) where
  abbrev here : Rtl
  here = r name p keep h kept run cycles is_run t le

  abbrev now : Valuation
  now = v name p keep h kept run cycles is_run t le

  abbrev at_start : Valuation
  at_start = point name p keep h kept run cycles is_run t le

  -- a condition of the model at the point
  abbrev pub condition : ℕ → Bool
  condition k = holds (tree p.terms k) at_start

  -- ---- conditions

  pub condition_worth : (k : ℕ) → is_condition p None k ≡ true → keep k ≡ true → IsWorth (scope_in here) now (operand p.terms k) 1 (bit (condition k))
  condition_worth k e is_kept =
      let known = term_of p truth k e in
      let worth : Worth (scope_in here) now (operand p.terms k) (Some truth) (val (tree p.terms k) at_start) =
      subst (λ o. Worth (scope_in here) now (operand p.terms k) o (val (tree p.terms k) at_start)) known.1
      (node_done name p keep h kept run cycles is_run t le k known.0 is_kept).0 in
      subst (λ b. IsWorth (scope_in here) now (operand p.terms k) 1 (bit b)) (sym (ap as_truth worth.1)) worth.2

  abbrev pub decoded : List Instruction → List Bool
  decoded is = map (λ (i : Instruction). condition i.decode.0) is

  decodes_worth : (from : ℕ) (is : List Instruction) → AreRead keep is → are_instructions p None from is ≡ true
      → AreWorth (scope_in here) now (decodes_of p.terms is) (decoded is)
  decodes_worth from [] read e = tt
  decodes_worth from (i ∷ is) read e =
      let parts = and_parts (is_instruction p None i) _ e in
      let own_parts = and_parts (is_condition p None i.decode.0) (are_updates p None 0 i.updates.items) parts.0 in
      let rest = and_parts (is_link p.children.items None from i.child) _ parts.1 in
      (condition_worth i.decode.0 own_parts.0 read.0, decodes_worth (child_after from i.child) is read.2 rest.1)

  pub bits_read : BitsAreRead (scope_in here) now here.wires
  bits_read w b at same worth = wire_worth name p keep h kept run cycles is_run t le w truth (bit b) at same tt worth

  decodes_read : BitsAreRead (scope_in here) now (decode_wires (decodes_of p.terms p.instructions.items))
  decodes_read w b at same worth =
      let rest : List Wire = all_ways p.terms (memories_from p.terms 0 p.instructions.items) in
      bits_read w b
      (among_right w (node_wires p.terms keep 0 p.terms.nodes) (decode_wires (decodes_of p.terms p.instructions.items) ++ rest)
      (among_left w (decode_wires (decodes_of p.terms p.instructions.items)) rest at))
      same worth

  one_worth : IsWorth (scope_in here) now (whole_name (one_name (length p.instructions.items))) 1 (bit (one_of (decoded p.instructions.items)))
  one_worth =
      subst (λ n. IsWorth (scope_in here) now (whole_name (one_name n)) 1 (bit (one_of (decoded p.instructions.items)))) (length-map p.instructions.items _)
      (counted_by_wires (scope_in here) now (decodes_of p.terms p.instructions.items) (decoded p.instructions.items) decodes_read
      (decodes_worth 0 p.instructions.items kept.instructions
      (and_parts (is_condition p None p.valid.0) _ (sorted_parts name p keep h).top).1)).1

  -- ---- signals

  input_number : (n : Name) → IsPlain here n truth → IsDeclared (top_of (module_of here)) n → HasNumber now n 1
  input_number n plain dec = net_number here (own name p keep h) now (settled name p keep h kept run cycles is_run t le) n truth plain dec

  pub go_number : HasNumber now go_name 1
  go_number = input_number go_name (go_plain here (own name p keep h)) (is_declared here (input_net go_name truth) (inr (inr (inl refl))))

  pub reset_number : HasNumber now reset_name 1
  reset_number = input_number reset_name (reset_plain here (own name p keep h)) (is_declared here (input_net reset_name truth) (inr (inl refl)))

  abbrev pub goes : Bool
  goes = is_nonzero go_number.0

  pub go_has : now go_name ≡ number (bit goes)
  go_has = go_number.1 ∙ ap number (bit_of_nonzero go_number.0 go_number.2)

  -- wb_start, as it should be
  abbrev pub starts : Bool
  starts = goes && (condition p.valid.0 && one_of (decoded p.instructions.items))

  ready_worth : IsWorth (scope_in here) now (ready_of p) 1 (bit starts)
  ready_worth =
      let valid : IsWorth (scope_in here) now (operand p.terms p.valid.0) 1 (bit (condition p.valid.0)) =
      condition_worth p.valid.0 (and_parts (is_condition p None p.valid.0) _ (sorted_parts name p keep h).top).0 kept.valid in
      let both : IsWorth (scope_in here) now
      (binary bitwise_and (operand p.terms p.valid.0) (whole_name (one_name (length p.instructions.items)))) 1
      (bit (condition p.valid.0 && one_of (decoded p.instructions.items))) =
      subst (IsWorth (scope_in here) now (binary bitwise_and (operand p.terms p.valid.0) (whole_name (one_name (length p.instructions.items)))) 1)
      (both_bits (condition p.valid.0) (one_of (decoded p.instructions.items)))
      (bitwise_and_is_and (scope_in here) now (operand p.terms p.valid.0) (whole_name (one_name (length p.instructions.items))) 1 (bit (condition p.valid.0))
      (bit (one_of (decoded p.instructions.items))) valid one_worth) in
      subst (IsWorth (scope_in here) now (ready_of p) 1) (both_bits goes (condition p.valid.0 && one_of (decoded p.instructions.items)))
      (bitwise_and_is_and (scope_in here) now (whole_name go_name)
      (binary bitwise_and (operand p.terms p.valid.0) (whole_name (one_name (length p.instructions.items)))) 1 (bit goes)
      (bit (condition p.valid.0 && one_of (decoded p.instructions.items)))
      (name_is_its_value (scope_in here) now go_name 1 (bit goes) (plain_net here go_name truth (go_plain here (own name p keep h))) go_has (bit_below goes)) both)

  pub start_is : now start_name ≡ number (bit starts)
  start_is = start_has here (own name p keep h) now (settled name p keep h kept run cycles is_run t le) (bit starts) ready_worth

  pub commit_is : now commit_name ≡ number (bit starts)
  commit_is = commit_has here (own name p keep h) now (settled name p keep h kept run cycles is_run t le) (bit starts) start_is (bit_below starts)

  -- ---- as they are read

  signal_read : (n : Name) (b : Bool) → list_all is_name_byte n ≡ true → IsPlain here n truth → now n ≡ number (bit b)
      → condition_holds (setting name p keep h kept run cycles is_run t le) now (whole_name n) ≡ b
  signal_read n b bytes plain e =
      ap is_nonzero (read_number (model name p keep h) here refl now n truth (bit b) bytes plain e (bit_below b)) ∙ nonzero_bit b

  pub go_read : condition_holds (setting name p keep h kept run cycles is_run t le) now (whole_name go_name) ≡ goes
  go_read = signal_read go_name goes refl (go_plain here (own name p keep h)) go_has

  pub start_read : condition_holds (setting name p keep h kept run cycles is_run t le) now (whole_name start_name) ≡ starts
  start_read = signal_read start_name starts refl (start_plain here (own name p keep h)) start_is

  pub commit_read : condition_holds (setting name p keep h kept run cycles is_run t le) now (whole_name commit_name) ≡ starts
  commit_read = signal_read commit_name starts refl (commit_plain here (own name p keep h)) commit_is

  -- as conditions of statements
  pub worth_is_true : (e : Expression) (b : Bool) → IsWorth (scope_in here) now e 1 (bit b) → is_true (scope_in here) now e ≡ b
  worth_is_true e b worth = ap is_nonzero (by_itself (scope_in here) now e 1 (bit b) worth) ∙ nonzero_bit b

  pub start_in_block : is_true (scope_in here) now (whole_name start_name) ≡ starts
  start_in_block =
      worth_is_true (whole_name start_name) starts
      (name_is_its_value (scope_in here) now start_name 1 (bit starts) (plain_net here start_name truth (start_plain here (own name p keep h))) start_is (bit_below starts))

  pub reset_in_block : is_true (scope_in here) now (whole_name reset_name) ≡ is_nonzero reset_number.0
  reset_in_block =
      ap is_nonzero
      (by_itself (scope_in here) now (whole_name reset_name) 1 reset_number.0
      (name_is_its_value (scope_in here) now reset_name 1 reset_number.0 (plain_net here reset_name truth (reset_plain here (own name p keep h))) reset_number.1 reset_number.2))
