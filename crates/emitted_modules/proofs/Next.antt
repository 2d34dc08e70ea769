-- What registers hold after an edge of the clock.
use Rattle.std.proofs.Common.{◌≡◌, ℕ, suc, ◌%◌, ◌<◌, ◌≤◌, ◌^◌, Bool, true, false, cond, ◌&&◌, ◌==◌, nat_lt, nat_le, List, [], ◌∷◌, ◌++◌, map, length, refl, sym, ◌∙◌, ap, subst, arith, pow_mono, pow_pos}
use Rattle.std.specs.Prelude.{slice_index}
use Rattle.std.specs.Int.{bit_at}
use Rattle.term_expressions.specs.Laws.{IsMemory}
use Rattle.std.proofs.lemmas.Bool.{and_parts}
use Rattle.std.proofs.Math.Nat.{div-eq_of_lt}
use Rattle.std.proofs.lemmas.Bool.Decides.{nat_tests}
use Rattle.std.proofs.lemmas.List.{append-nil}
use Rattle.std.proofs.lemmas.Nat.Bits.{bit_at-lt, same_from_bits}
use Rattle.wb_values.specs.Value.{Name, memory, number, words, Valuation}
use Rattle.model_meaning.specs.Term.{is_sort, is_width}
use Rattle.model_meaning.specs.Model.{StateDeclaration}
use Rattle.verilog_meaning.specs.Expression.{object_width, is_true}
use Rattle.verilog_meaning.specs.Statement.{Effect, Update, run, with_updates, unchanged}
use Rattle.verilog_meaning.specs.Register.{is_set, value_bit, clocked_blocks, after_edge, words_between, is_bit_of}
use Rattle.verilog_meaning.specs.Settled.{IsDeclared, is_counted, whole_name}
use Rattle.emitted_designs.specs.Names.{reset_name, start_name}
use Rattle.emitted_designs.specs.Module.{top_of}
use Rattle.emitted_modules.specs.Rtl.{Rtl, bits_of_sort, first_takes, kept_words, writes, takes, all_guarded, clocked_statement, in_block, module_items, module_of}
use Rattle.emitted_modules.proofs.Names.{Among, among_left, among_map}
use Rattle.emitted_modules.proofs.Declared.{register_net, wire_net, HasOwnNames, scope_in}
use Rattle.emitted_modules.proofs.Nets.{IsPlain, is_declared, register_plain, register_memory, in_own}
use Rattle.emitted_modules.proofs.NetWidths.{IsBitsSort}
use Rattle.emitted_modules.proofs.Words.{IsMemoryOf, count_of_words}
use Rattle.emitted_modules.proofs.Settled.{HasWords, IsSettledFor, net_number, net_words}
use Rattle.emitted_modules.proofs.Running.{updates_by, taking_runs, stores_by, stores_run, chosen, guarded_runs}
use Rattle.emitted_modules.proofs.Assigned.{clocked_is, AreSorts, register_counted}

-- ---- numbers with the same bits

bit_from_set : (m n : ℕ) → m < 2 → n < 2 → (m == 1) ≡ (n == 1) → m ≡ n
bit_from_set m n p q e = grind (arith, nat_tests)

unset_above : (w x b : ℕ) → x < 2 ^ w → w ≤ b → is_set x b ≡ false
unset_above w x b fits le = ap (λ q. q % 2 == 1) (div-eq_of_lt (below (2 ^ w) (2 ^ b) fits (pow_mono le)))
  where
    below : (p q : ℕ) → x < p → p ≤ q → x < q
    below p q h k = omega (arith, h, k)

pub same_fitting : (w x y : ℕ) → x < 2 ^ w → y < 2 ^ w → ((b : ℕ) → b < w → is_set x b ≡ is_set y b) → x ≡ y
same_fitting w x y low high same =
    same_from_bits x y (λ b. bit_from_set (bit_at x b) (bit_at y b) (bit_at-lt x b) (bit_at-lt y b) (by_place b (nat_lt b w) refl))
  where
    by_place : (b : ℕ) (t : Bool) → nat_lt b w ≡ t → is_set x b ≡ is_set y b
    by_place b true t = same b (grind (arith, nat_tests, t))
    by_place b false t =
        let le : w ≤ b = grind (arith, nat_tests, t) in unset_above w x b low le ∙ sym (unset_above w y b high le)

pub same_lists : (xs ys : List ℕ) → length xs ≡ length ys → ((k : ℕ) → k < length xs → slice_index xs k ≡ slice_index ys k) → xs ≡ ys
same_lists [] [] e h = refl
same_lists [] (y ∷ ys) e h = absurd (omega (arith, e))
same_lists (x ∷ xs) [] e h = absurd (omega (arith, e))
same_lists (x ∷ xs) (y ∷ ys) e h =
    ap (λ z. z ∷ xs) (h 0 (omega arith)) ∙ ap (λ zs. y ∷ zs) (same_lists xs ys (omega (arith, e)) (λ k low. h (suc k) (omega (arith, low))))

-- ---- an edge

-- The bits of registers that count are those that the clocked statement leaves.
abbrev pub IsAfter : Rtl → (v after : Valuation) → Type 0
IsAfter r v after =
    (n : Name) (k b : ℕ) → IsDeclared (top_of (module_of r)) n → is_counted (top_of (module_of r)) n k b ≡ true
    → value_bit (after n) k b ≡ value_bit (after_edge (scope_in r) (clocked_blocks (module_items r)) v n) k b

at_least : (k : ℕ) → nat_le 1 k ≡ true → 1 ≤ k
at_least k f = grind (arith, nat_tests, f)

pub some_address : (a w : ℕ) → is_sort (memory a w) ≡ true → 1 ≤ a
some_address a w h = at_least a (and_parts (nat_le 1 a) (nat_le a 16) (and_parts (nat_le 1 a && nat_le a 16) (is_width w) h).0).0

less_test : (a c : ℕ) → a < c → nat_lt a c ≡ true
less_test a c l = grind (arith, nat_tests, l)

module _ (r : Rtl) (own : HasOwnNames r) (sorts : AreSorts r.registers) (v after : Valuation) (h : IsSettledFor r after) (edge : IsAfter r v after) where
  pub register_declared : (d : StateDeclaration) → Among d r.registers → IsDeclared (top_of (module_of r)) d.state_name
  register_declared d at =
      is_declared r (register_net d)
      (in_own r own (register_net d)
      (among_left (register_net d) (map register_net r.registers) (map wire_net r.wires) (among_map register_net d r.registers at)))

  edge_is : (n : Name) (us : List Update) → run (scope_in r) (clocked_statement r) v ≡ record { valuation = v; updates = us }
      → after_edge (scope_in r) (clocked_blocks (module_items r)) v n ≡ with_updates (scope_in r) v us n
  edge_is n us runs =
      ap (λ blocks. after_edge (scope_in r) blocks v n) (clocked_is r)
      ∙ (ap (λ (f : Effect). with_updates (scope_in r) v (f.updates ++ []) n) runs ∙ ap (λ xs. with_updates (scope_in r) v xs n) (append-nil us))

  bit_there : (d : StateDeclaration) (b : ℕ) → Among d r.registers → IsBitsSort d.sort → b < bits_of_sort d.sort
      → is_bit_of (scope_in r d.state_name) 0 b ≡ true
  bit_there d b at bits low =
      let plain : IsPlain r d.state_name d.sort = register_plain r own d at bits in
      ap (λ a. nat_lt 0 (words_between a) && nat_lt b (object_width (scope_in r d.state_name))) plain.no_memory
      ∙ (ap (λ w. nat_lt b w) plain.width ∙ less_test b (bits_of_sort d.sort) low)

  -- a register after statements that leave these updates
  pub register_after : (d : StateDeclaration) (us : List Update) (y : ℕ) → Among d r.registers → IsBitsSort d.sort
      → run (scope_in r) (clocked_statement r) v ≡ record { valuation = v; updates = us } → with_updates (scope_in r) v us d.state_name ≡ number y
      → y < 2 ^ bits_of_sort d.sort → after d.state_name ≡ number y
  register_after d us y at bits runs left fits =
      let old = net_number r own after h d.state_name d.sort (register_plain r own d at bits) (register_declared d at) in
      old.1
      ∙ ap number
      (same_fitting (bits_of_sort d.sort) old.0 y old.2 fits
      (λ b low. ap (λ z. value_bit z 0 b) (sym old.1)
      ∙ (edge d.state_name 0 b (register_declared d at) (register_counted r own sorts d 0 b at (bit_there d b at bits low))
      ∙ ap (λ z. value_bit z 0 b) (edge_is d.state_name us runs ∙ left))))

  -- a memory after them
  pub memory_after : (d : StateDeclaration) (a w : ℕ) (us : List Update) (ws : List ℕ) → Among d r.registers → d.sort ≡ memory a w
      → run (scope_in r) (clocked_statement r) v ≡ record { valuation = v; updates = us } → with_updates (scope_in r) v us d.state_name ≡ words ws
      → IsMemoryOf a w ws → after d.state_name ≡ words ws
  memory_after d a w us ws at e runs left narrow =
      let mem : IsMemory (scope_in r) d.state_name a w = register_memory r own d a w at e (sorts d at) in
      let old : HasWords after d.state_name a w = net_words r own after h d.state_name a w mem (some_address a w (ap is_sort (sym e) ∙ sorts d at)) (register_declared d at) in
      old.1
      ∙ ap words
      (same_lists old.0 ws (old.2.long ∙ sym narrow.long)
      (λ k low. same_fitting w (slice_index old.0 k) (slice_index ws k) (old.2.narrow k) (narrow.narrow k)
      (λ b less. ap (λ z. value_bit z k b) (sym old.1)
      ∙ (edge d.state_name k b (register_declared d at)
      (register_counted r own sorts d k b at (bit_of_word d a w k b mem (subst (λ n. k < n) old.2.long low) less))
      ∙ ap (λ z. value_bit z k b) (edge_is d.state_name us runs ∙ left)))))
    where
      bit_of_word : (x : StateDeclaration) (i u k b : ℕ) → IsMemory (scope_in r) x.state_name i u → k < 2 ^ i → b < u
          → is_bit_of (scope_in r x.state_name) k b ≡ true
      bit_of_word x i u k b mem low less =
          ap (λ o. nat_lt k (words_between o) && nat_lt b (object_width (scope_in r x.state_name))) mem.addresses
          ∙ (ap (λ n. nat_lt k n && nat_lt b (object_width (scope_in r x.state_name))) (count_of_words (2 ^ i) (pow_pos i))
          ∙ (ap (λ c. c && nat_lt b (object_width (scope_in r x.state_name))) (less_test k (2 ^ i) low)
          ∙ (ap (λ n. nat_lt b n) mem.width ∙ less_test b u less)))

-- ---- what the statement leaves

abbrev leaves : Valuation → List Update → Effect
leaves v us = record { valuation = v; updates = us }

-- the updates of a reset
abbrev pub reset_updates : Rtl → Valuation → List Update
reset_updates r v = updates_by (scope_in r) v (first_takes r.registers) ++ stores_by (scope_in r) v (kept_words r.registers)

pub resets : (r : Rtl) (v : Valuation) → is_true (scope_in r) v (whole_name reset_name) ≡ true
    → run (scope_in r) (clocked_statement r) v ≡ leaves v (reset_updates r v)
resets r v e =
    ap
    (λ c. cond c (run (scope_in r) (in_block (map takes (first_takes r.registers) ++ map writes (kept_words r.registers))) v)
    (cond (is_true (scope_in r) v (whole_name start_name)) (run (scope_in r) (in_block (all_guarded r.guarded)) v) (unchanged v)))
    e
    ∙ taking_runs (scope_in r) v (first_takes r.registers) (map writes (kept_words r.registers)) (stores_by (scope_in r) v (kept_words r.registers))
    (stores_run (scope_in r) v (kept_words r.registers))

pub waits : (r : Rtl) (v : Valuation) → is_true (scope_in r) v (whole_name reset_name) ≡ false → is_true (scope_in r) v (whole_name start_name) ≡ false
    → run (scope_in r) (clocked_statement r) v ≡ leaves v []
waits r v e f =
    ap
    (λ c. cond c (run (scope_in r) (in_block (map takes (first_takes r.registers) ++ map writes (kept_words r.registers))) v)
    (cond (is_true (scope_in r) v (whole_name start_name)) (run (scope_in r) (in_block (all_guarded r.guarded)) v) (unchanged v)))
    e
    ∙ ap (λ c. cond c (run (scope_in r) (in_block (all_guarded r.guarded)) v) (unchanged v)) f

pub begins : (r : Rtl) (v : Valuation) → is_true (scope_in r) v (whole_name reset_name) ≡ false → is_true (scope_in r) v (whole_name start_name) ≡ true
    → run (scope_in r) (clocked_statement r) v ≡ leaves v (chosen (scope_in r) v r.guarded)
begins r v e f =
    ap
    (λ c. cond c (run (scope_in r) (in_block (map takes (first_takes r.registers) ++ map writes (kept_words r.registers))) v)
    (cond (is_true (scope_in r) v (whole_name start_name)) (run (scope_in r) (in_block (all_guarded r.guarded)) v) (unchanged v)))
    e
    ∙ (ap (λ c. cond c (run (scope_in r) (in_block (all_guarded r.guarded)) v) (unchanged v)) f
    ∙ guarded_runs (scope_in r) v r.guarded)
