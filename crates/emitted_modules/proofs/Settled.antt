-- What nets hold in a settled valuation: the numbers of the expressions that are assigned to them.
use Rattle.std.proofs.Common.{◌≡◌, ℕ, ◌<◌, ◌≤◌, ◌^◌, not, inl, inr, List, [], ◌∷◌, ◌++◌, map, refl, sym, ◌∙◌, ap, subst, pow_pos}
use Rattle.std.specs.Prelude.{is_some}
use Rattle.std.proofs.lemmas.Bool.{false≢true}
use Rattle.wb_values.specs.Value.{Name, Sort, truth, Value, truth_value, number, words, Valuation}
use Rattle.model_meaning.specs.Model.{StateDeclaration}
use Rattle.verilog_trees.specs.Syntax.{Expression, Target, Item}
use Rattle.verilog_meaning.specs.Expression.{is_memory}
use Rattle.verilog_meaning.specs.Statement.{target_width}
use Rattle.verilog_meaning.specs.Register.{words_between, word_count}
use Rattle.verilog_meaning.specs.Settled.{IsDeclared, AreWords, IsValueOf, HasAssigned, Has, assignments, whole_of, whole_name}
use Rattle.verilog_meaning.specs.Expression.{assigned_value}
use Rattle.term_expressions.specs.Expressions.{IsWorth, IsAssigned}
use Rattle.term_expressions.specs.Laws.{IsMemory}
use Rattle.term_expressions.proofs.Names.{name_is_its_value}
use Rattle.term_expressions.proofs.Assigned.{assigned_net_has_its_number}
use Rattle.term_expressions.proofs.Shifts.{standing_is_assigned}
use Rattle.emitted_designs.specs.Names.{start_name, commit_name}
use Rattle.emitted_designs.specs.Module.{top_of}
use Rattle.emitted_modules.specs.Rtl.{Wire, Rtl, bits_of_sort, register_item, wire_item, module_items, module_of}
use Rattle.emitted_modules.proofs.Words.{IsMemoryOf, words_of, count_of_words}
use Rattle.emitted_modules.proofs.Names.{Among, among_left, among_right, among_map}
use Rattle.emitted_modules.proofs.Declared.{output_net, given_net, register_net, wire_net, HasOwnNames, scope_in}
use Rattle.emitted_modules.proofs.Nets.{IsPlain, plain_net, is_declared, start_plain, commit_plain, wire_plain, in_own, in_ports}
use Rattle.emitted_modules.proofs.NetWidths.{IsBitsSort}

-- ---- the assignments

abbrev wire_pair : Wire → Target × Expression
wire_pair w = (whole_of w.wire_name, w.expression)

abbrev all_assigned : Rtl → List (Target × Expression)
all_assigned r = map wire_pair r.wires ++ (whole_of start_name, r.ready) ∷ (whole_of commit_name, whole_name start_name) ∷ []

wires_assigned : (ws : List Wire) (rest : List Item) (as_ : List (Target × Expression)) → assignments rest ≡ as_
    → assignments (map wire_item ws ++ rest) ≡ map wire_pair ws ++ as_
wires_assigned [] rest as_ e = e
wires_assigned (w ∷ ws) rest as_ e = ap (λ bs. wire_pair w ∷ bs) (wires_assigned ws rest as_ e)

registers_assign_none : (ss : List StateDeclaration) (rest : List Item) → assignments (map register_item ss ++ rest) ≡ assignments rest
registers_assign_none [] rest = refl
registers_assign_none (s ∷ ss) rest = registers_assign_none ss rest

are_assigned : (r : Rtl) → assignments (module_items r) ≡ all_assigned r
are_assigned r =
    registers_assign_none r.registers _
    ∙ wires_assigned r.wires _ ((whole_of start_name, r.ready) ∷ (whole_of commit_name, whole_name start_name) ∷ []) refl

-- what a net takes in a valuation that has all its assignments
abbrev Takes : Rtl → Valuation → Target × Expression → Type 0
Takes r v a = Has (scope_in r) v a.0 (assigned_value (scope_in r) v (target_width (scope_in r) a.0) a.1)

each_taken : (r : Rtl) (v : Valuation) (as_ : List (Target × Expression)) (a : Target × Expression) → HasAssigned (scope_in r) v as_ → Among a as_
    → Takes r v a
each_taken r v [] a h at = absurd at
each_taken r v (b ∷ bs) a h (inl e) = subst (λ c. Takes r v c) e h.0
each_taken r v (b ∷ bs) a h (inr at) = each_taken r v bs a h.1 at

-- a value of a plain net is a number of its bits
abbrev pub HasNumber : Valuation → Name → ℕ → Type 0
HasNumber v n w = (x : ℕ) × (v n ≡ number x) × (x < 2 ^ w)

-- a memory has its words
abbrev pub HasWords : Valuation → Name → (a d : ℕ) → Type 0
HasWords v n a d = (ws : List ℕ) × (v n ≡ words ws) × IsMemoryOf a d ws

-- ---- a settled valuation of the module

pub record IsSettledFor (r : Rtl) (v : Valuation) : Type 0 where
  pub fits : (n : Name) → IsDeclared (top_of (module_of r)) n → IsValueOf (scope_in r n) (v n)
  pub assigned : HasAssigned (scope_in r) v (assignments (module_items r))

module _ (r : Rtl) (own : HasOwnNames r) (v : Valuation) (h : IsSettledFor r v) where
  pub net_number : (n : Name) (t : Sort) → IsPlain r n t → IsDeclared (top_of (module_of r)) n → HasNumber v n (bits_of_sort t)
  net_number n t plain dec = by_value (v n) refl (h.fits n dec)
    where
      by_value : (y : Value) → v n ≡ y → IsValueOf (scope_in r n) y → HasNumber v n (bits_of_sort t)
      by_value (number x) e f = (x, e, subst (λ w. x < 2 ^ w) plain.width f.1)
      by_value (words xs) e f = absurd (false≢true (sym (ap (λ a. is_memory (record (scope_in r n) { addresses = a })) plain.no_memory) ∙ f.0))
      by_value (truth_value b) e f = absurd f

  pub net_words : (n : Name) (a d : ℕ) → IsMemory (scope_in r) n a d → 1 ≤ a → IsDeclared (top_of (module_of r)) n → HasWords v n a d
  net_words n a d mem some dec = by_value (v n) refl (h.fits n dec)
    where
      by_value : (y : Value) → v n ≡ y → IsValueOf (scope_in r n) y → HasWords v n a d
      by_value (number x) e f = absurd (false≢true (sym (ap (λ o. not (is_some o)) mem.addresses) ∙ f.0))
      by_value (words xs) e f = (
        xs,
        e,
        words_of a d (word_count (scope_in r n)) xs some (ap words_between mem.addresses ∙ count_of_words (2 ^ a) (pow_pos a))
            (subst (λ w. AreWords (word_count (scope_in r n)) w xs) mem.width f.1),
      )
      by_value (truth_value b) e f = absurd f

  taken_by : (a : Name) (e : Expression) (t : Sort) (x : ℕ) → IsPlain r a t → IsDeclared (top_of (module_of r)) a
      → Among (whole_of a, e) (all_assigned r) → IsAssigned (scope_in r) v e (bits_of_sort t) x → x < 2 ^ bits_of_sort t → v a ≡ number x
  taken_by a e t x plain dec at given low =
      let old = net_number a t plain dec in
      assigned_net_has_its_number (scope_in r) v a e (bits_of_sort t) x old.0 (plain_net r a t plain) old.1 old.2 given low
      (each_taken r v (all_assigned r) (whole_of a, e) (subst (λ bs. HasAssigned (scope_in r) v bs) (are_assigned r) h.assigned) at)

  -- A wire has the number of its expression.
  pub wire_has : (w : Wire) (x : ℕ) → Among w r.wires → IsBitsSort w.sort → IsAssigned (scope_in r) v w.expression (bits_of_sort w.sort) x
      → x < 2 ^ bits_of_sort w.sort → v w.wire_name ≡ number x
  wire_has w x at sorted given low =
      taken_by w.wire_name w.expression w.sort x (wire_plain r own w at sorted)
      (is_declared r (wire_net w)
      (in_own r own (wire_net w) (among_right (wire_net w) (map register_net r.registers) (map wire_net r.wires) (among_map wire_net w r.wires at))))
      (among_left (wire_pair w) (map wire_pair r.wires) ((whole_of start_name, r.ready) ∷ (whole_of commit_name, whole_name start_name) ∷ [])
      (among_map wire_pair w r.wires at))
      given low

  output_declared : (n : Name) → Among (output_net n) (output_net start_name ∷ output_net commit_name ∷ []) → IsDeclared (top_of (module_of r)) n
  output_declared n at =
      is_declared r (output_net n)
      (in_ports r own (output_net n)
      (among_right (output_net n) (map given_net r.inputs) (output_net start_name ∷ output_net commit_name ∷ []) at))

  -- wb_start has the number of what is ready, and wb_commit the same
  pub start_has : (x : ℕ) → IsWorth (scope_in r) v r.ready 1 x → v start_name ≡ number x
  start_has x worth =
      taken_by start_name r.ready truth x (start_plain r own) (output_declared start_name (inl refl))
      (among_right (whole_of start_name, r.ready) (map wire_pair r.wires)
      ((whole_of start_name, r.ready) ∷ (whole_of commit_name, whole_name start_name) ∷ []) (inl refl))
      (standing_is_assigned (scope_in r) v r.ready 1 x worth) worth.fits

  pub commit_has : (x : ℕ) → v start_name ≡ number x → x < 2 → v commit_name ≡ number x
  commit_has x e low =
      let worth : IsWorth (scope_in r) v (whole_name start_name) 1 x =
      name_is_its_value (scope_in r) v start_name 1 x (plain_net r start_name truth (start_plain r own)) e low in
      taken_by commit_name (whole_name start_name) truth x (commit_plain r own) (output_declared commit_name (inr (inl refl)))
      (among_right (whole_of commit_name, whole_name start_name) (map wire_pair r.wires)
      ((whole_of start_name, r.ready) ∷ (whole_of commit_name, whole_name start_name) ∷ []) (inr (inl refl)))
      (standing_is_assigned (scope_in r) v (whole_name start_name) 1 x worth) worth.fits
