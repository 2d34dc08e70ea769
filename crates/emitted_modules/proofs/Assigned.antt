-- The clocked statement, and that each register is assigned in it.
use Rattle.std.proofs.Common.{◌≡◌, ℕ, Bool, true, false, cond, ◌&&◌, ◌||◌, inl, inr, List, [], ◌∷◌, ◌++◌, map, None, refl, sym, ◌∙◌, ap, subst}
use Rattle.std.specs.Prelude.{is_some, option_and_then}
use Rattle.term_expressions.specs.Expressions.{word_at}
use Rattle.term_expressions.specs.Laws.{IsMemory}
use Rattle.std.proofs.lemmas.Bool.{false≢true}
use Rattle.wb_values.specs.Value.{Name, same_name, Sort, truth, word, memory, Entries}
use Rattle.model_meaning.specs.Term.{is_sort, is_memory_sort}
use Rattle.model_meaning.specs.Model.{StateDeclaration}
use Rattle.verilog_trees.specs.Syntax.{Expression, one, index, Item, Statement}
use Rattle.verilog_meaning.specs.Expression.{Scope, word_number, no_values, select_index}
use Rattle.verilog_meaning.specs.Register.{clocked_blocks, is_bit_of, is_word_number, may_mean, may_mean_word, may_mean_bit, may_assign, may_assign_in_all, counts}
use Rattle.verilog_meaning.specs.Settled.{is_counted, whole_name}
use Rattle.emitted_designs.specs.Names.{reset_name}
use Rattle.emitted_designs.specs.Module.{top_of}
use Rattle.emitted_designs.proofs.Named.{same_of}
use Rattle.emitted_modules.specs.Rtl.{Wire, Stored, Rtl, first_value, first_take, first_takes, kept_word, kept_words, writes, takes, clocked_statement, in_order, register_item, wire_item, module_items, module_of}
use Rattle.emitted_modules.proofs.Names.{Among, among_right, among_map}
use Rattle.emitted_modules.proofs.Declared.{HasOwnNames, scope_in}
use Rattle.emitted_modules.proofs.Nets.{reset_plain, register_memory}
use Rattle.emitted_modules.proofs.NetWidths.{IsBitsSort}

-- ---- the clocked statement

pub no_wire_blocks : (ws : List Wire) (rest : List Item) → clocked_blocks (map wire_item ws ++ rest) ≡ clocked_blocks rest
no_wire_blocks [] rest = refl
no_wire_blocks (w ∷ ws) rest = no_wire_blocks ws rest

pub no_blocks : (ss : List StateDeclaration) (rest : List Item) → clocked_blocks (map register_item ss ++ rest) ≡ clocked_blocks rest
no_blocks [] rest = refl
no_blocks (s ∷ ss) rest = no_blocks ss rest

pub clocked_is : (r : Rtl) → clocked_blocks (module_items r) ≡ clocked_statement r ∷ []
clocked_is r = no_blocks r.registers _ ∙ no_wire_blocks r.wires _

-- sorts of registers are in range
abbrev pub AreSorts : List StateDeclaration → Type 0
AreSorts ss = (d : StateDeclaration) → Among d ss → is_sort d.sort ≡ true

-- ---- registers are assigned

pub or_first : (a b : Bool) → a ≡ true → (a || b) ≡ true
or_first true b e = refl
or_first false b e = absurd (cc)

pub or_second : (a b : Bool) → b ≡ true → (a || b) ≡ true
or_second true b e = refl
or_second false b e = e

pub taken_is_assigned : (s : Scope) (us : Entries Expression) (xs : List Statement) (n : Name) (k b : ℕ) → Among n (map (λ u. u.0) us)
    → may_assign_in_all s (in_order (map takes us ++ xs)) n k b ≡ true
taken_is_assigned s [] xs n k b h = absurd h
taken_is_assigned s (u ∷ us) xs n k b (inl e) =
    or_first (same_name u.0 n && true) (may_assign_in_all s (in_order (map takes us ++ xs)) n k b) (ap (λ c. c && true) (same_of u.0 n e))
taken_is_assigned s (u ∷ us) xs n k b (inr h) =
    or_second (same_name u.0 n && true) (may_assign_in_all s (in_order (map takes us ++ xs)) n k b) (taken_is_assigned s us xs n k b h)

pub behind_is_assigned : (s : Scope) (us : Entries Expression) (xs : List Statement) (n : Name) (k b : ℕ)
    → may_assign_in_all s (in_order xs) n k b ≡ true → may_assign_in_all s (in_order (map takes us ++ xs)) n k b ≡ true
behind_is_assigned s [] xs n k b h = h
behind_is_assigned s (u ∷ us) xs n k b h =
    or_second (same_name u.0 n && true) (may_assign_in_all s (in_order (map takes us ++ xs)) n k b) (behind_is_assigned s us xs n k b h)

pub one_is_assigned : (s : Scope) (ws : List Stored) (w : Stored) (n : Name) (k b : ℕ) → Among w ws → may_assign s (writes w) n k b ≡ true
    → may_assign_in_all s (in_order (map writes ws)) n k b ≡ true
one_is_assigned s [] w n k b at h = absurd at
one_is_assigned s (x ∷ ws) w n k b (inl e) h =
    or_first (may_assign s (writes x) n k b) (may_assign_in_all s (in_order (map writes ws)) n k b) (ap (λ (y : Stored). may_assign s (writes y) n k b) e ∙ h)
one_is_assigned s (x ∷ ws) w n k b (inr at) h =
    or_second (may_assign s (writes x) n k b) (may_assign_in_all s (in_order (map writes ws)) n k b) (one_is_assigned s ws w n k b at h)

-- a register that is no memory
pub bits_taken_first : (ss : List StateDeclaration) (d : StateDeclaration) → Among d ss → IsBitsSort d.sort
    → Among (d.state_name, first_value d.state_name d.sort d.init) (first_takes ss)
bits_taken_first [] d h bits = absurd h
bits_taken_first (s ∷ ss) d (inl e) bits =
    subst (λ (x : StateDeclaration). Among (x.state_name, first_value x.state_name x.sort x.init) (first_take s.state_name s.sort s.init ++ first_takes ss)) e
    (by_sort s.sort (subst (λ (x : StateDeclaration). IsBitsSort x.sort) (sym e) bits))
  where
    by_sort : (t : Sort) → IsBitsSort t → Among (s.state_name, first_value s.state_name t s.init) (first_take s.state_name t s.init ++ first_takes ss)
    by_sort truth k = inl refl
    by_sort (word w) k = inl refl
    by_sort (memory a w) k = absurd k
bits_taken_first (s ∷ ss) d (inr h) bits =
    among_right (d.state_name, first_value d.state_name d.sort d.init) (first_take s.state_name s.sort s.init) (first_takes ss) (bits_taken_first ss d h bits)

-- what is written to a memory at reset
abbrev pub kept_store : Name → Stored
kept_store n = record { condition = None; memory_name = n; address = whole_name reset_name; value = word_at n (whole_name reset_name) }

pub memory_kept : (ss : List StateDeclaration) (d : StateDeclaration) → Among d ss → is_memory_sort d.sort ≡ true → Among (kept_store d.state_name) (kept_words ss)
memory_kept [] d h e = absurd h
memory_kept (s ∷ ss) d (inl f) e =
    subst (λ (x : StateDeclaration). Among (kept_store x.state_name) (kept_word s.state_name s.sort ++ kept_words ss)) f
    (by_sort s.sort (ap (λ (x : StateDeclaration). is_memory_sort x.sort) f ∙ e))
  where
    by_sort : (t : Sort) → is_memory_sort t ≡ true → Among (kept_store s.state_name) (kept_word s.state_name t ++ kept_words ss)
    by_sort truth k = absurd (false≢true k)
    by_sort (word w) k = absurd (false≢true k)
    by_sort (memory a w) k = inl refl
memory_kept (s ∷ ss) d (inr h) e =
    among_right (kept_store d.state_name) (kept_word s.state_name s.sort) (kept_words ss) (memory_kept ss d h e)

-- An index that is no constant may mean each word.
pub kept_is_assigned : (s : Scope) (n : Name) (a w k b : ℕ) → IsMemory s n a w → (s reset_name).constant ≡ None → may_assign s (writes (kept_store n)) n k b ≡ true
kept_is_assigned s n a w k b mem none =
    ap (λ c. c && may_mean s (s n) (one (index (whole_name reset_name))) k b) (same_of n n refl)
    ∙ (ap (λ c. cond c (may_mean_word s (s n) (index (whole_name reset_name)) k) (may_mean_bit s (s n) (index (whole_name reset_name)) b)) (ap is_some mem.addresses)
    ∙ ap (λ o. cond (is_some o && true) (is_word_number (option_and_then (λ c. word_number c (select_index s no_values (index (whole_name reset_name)))) (s n).addresses) k) true)
    none)

module _ (r : Rtl) (own : HasOwnNames r) (sorts : AreSorts r.registers) where
  pub reset_assigns : (d : StateDeclaration) (k b : ℕ) → Among d r.registers
      → may_assign_in_all (scope_in r) (in_order (map takes (first_takes r.registers) ++ map writes (kept_words r.registers))) d.state_name k b ≡ true
  reset_assigns d k b at = by_sort d.sort refl
    where
      of_bits : IsBitsSort d.sort
          → may_assign_in_all (scope_in r) (in_order (map takes (first_takes r.registers) ++ map writes (kept_words r.registers))) d.state_name k b ≡ true
      of_bits h =
          taken_is_assigned (scope_in r) (first_takes r.registers) (map writes (kept_words r.registers)) d.state_name k b
          (among_map (λ (u : Name × Expression). u.0) (d.state_name, first_value d.state_name d.sort d.init) (first_takes r.registers)
          (bits_taken_first r.registers d at h))

      by_sort : (t : Sort) → d.sort ≡ t
          → may_assign_in_all (scope_in r) (in_order (map takes (first_takes r.registers) ++ map writes (kept_words r.registers))) d.state_name k b ≡ true
      by_sort truth e = of_bits (subst IsBitsSort (sym e) tt)
      by_sort (word w) e = of_bits (subst IsBitsSort (sym e) (ap is_sort (sym e) ∙ sorts d at))
      by_sort (memory a w) e =
          behind_is_assigned (scope_in r) (first_takes r.registers) (map writes (kept_words r.registers)) d.state_name k b
          (one_is_assigned (scope_in r) (kept_words r.registers) (kept_store d.state_name) d.state_name k b
          (memory_kept r.registers d at (ap is_memory_sort e))
          (kept_is_assigned (scope_in r) d.state_name a w k b (register_memory r own d a w at e (sorts d at)) (reset_plain r own).no_parameter))

  pub register_counted : (d : StateDeclaration) (k b : ℕ) → Among d r.registers → is_bit_of (scope_in r d.state_name) k b ≡ true
      → is_counted (top_of (module_of r)) d.state_name k b ≡ true
  register_counted d k b at in_range =
      ap (λ blocks. counts (scope_in r) blocks d.state_name k b) (clocked_is r)
      ∙ (ap (λ c. c && (may_assign (scope_in r) (clocked_statement r) d.state_name k b || false)) in_range
      ∙ or_first (may_assign (scope_in r) (clocked_statement r) d.state_name k b) false
      (or_first
      (may_assign_in_all (scope_in r) (in_order (map takes (first_takes r.registers) ++ map writes (kept_words r.registers))) d.state_name k b) _
      (reset_assigns d k b at)))
