-- The names of obligations are plain, where the model keeps the rules of models.
use Rattle.std.proofs.Common.{◌≡◌, ℕ, zero, suc, ◌<◌, Bool, true, false, cond, List, [], ◌∷◌, ◌++◌, length, map, get_or, refl, subst, arith}
use Rattle.std.specs.Prelude.{is_some, codes, decimal, Contains}
use Rattle.std.specs.List.{list_all}
use Rattle.std.proofs.lemmas.Bool.{and_parts, and_from}
use Rattle.std.proofs.lemmas.Bool.Decides.{nat_tests}
use Rattle.wb_values.specs.Value.{Name}
use Rattle.wb_values.specs.Names.{is_name_byte, is_model_name}
use Rattle.model_meaning.specs.Model.{Model, Machine, machine, StateDeclaration, Instruction, instruction_name, Child, no_child, child, child_program, states_of, instructions_in}
use Rattle.model_meaning.specs.Invariant.{IsModel, all_machines, gathered, state_names, own_instruction_names}
use Rattle.refinement.specs.Map.{Map}
use Rattle.refinement.specs.Obligation.{Obligation, Fact, invariant, for_each, numbered, invariant_obligations, state_obligations, with_initial_values, reset_obligations, idle_obligations, child_obligations, commit_obligations, instruction_obligations, all_instruction_obligations, obligations, bound_named, ended_at, result_of, initial, same, reset_active, no_start, invariants_at, premises_at}
use Rattle.obligation_lists.specs.Within.{Each}
use Rattle.obligation_lists.proofs.Growing.{each_append}
use Rattle.obligation_lists.proofs.Apart.{each_for_each}
use Rattle.printed_traces.specs.Printed.{is_plain_byte, is_plain_name}
use Rattle.printed_traces.proofs.Digits.{decimal_plain}

abbrev pub Plain : Name → Type 0
Plain n = is_plain_name n ≡ true

pub plain_append : (m n : Name) → Plain m → Plain n → Plain (m ++ n)
plain_append [] n h k = k
plain_append (b ∷ m) n h k =
    let p = and_parts (is_plain_byte b) (is_plain_name m) h in
    and_from (is_plain_byte b) (is_plain_name (m ++ n)) p.0 (plain_append m n p.1 k)

-- ---- names of models

plain_name_byte : (b : ℕ) → is_name_byte b ≡ true → is_plain_byte b ≡ true
plain_name_byte b h = grind (arith, nat_tests)

plain_bytes : (n : Name) → list_all is_name_byte n ≡ true → Plain n
plain_bytes [] h = refl
plain_bytes (b ∷ n) h =
    let p = and_parts (is_name_byte b) (list_all is_name_byte n) h in
    and_from (is_plain_byte b) (is_plain_name n) (plain_name_byte b p.0) (plain_bytes n p.1)

model_name_plain : (n : Name) → is_model_name n ≡ true → Plain n
model_name_plain n h = plain_bytes n (and_parts _ _ (and_parts _ _ (and_parts _ _ h).0).0).1

names_plain : (ns : List Name) → list_all is_model_name ns ≡ true → Each Plain ns
names_plain [] h = tt
names_plain (n ∷ ns) h = let p = and_parts (is_model_name n) (list_all is_model_name ns) h in (model_name_plain n p.0, names_plain ns p.1)

each_left : {A : Type 0} (P : A → Type 0) (xs ys : List A) → Each P (xs ++ ys) → Each P xs
each_left P [] ys h = tt
each_left P (x ∷ xs) ys h = (h.0, each_left P xs ys h.1)

each_right : {A : Type 0} (P : A → Type 0) (xs ys : List A) → Each P (xs ++ ys) → Each P ys
each_right P [] ys h = h
each_right P (x ∷ xs) ys h = each_right P xs ys h.1

-- the top's own names stand first
first_states : (t : Machine) → Each Plain (gathered state_names (all_machines t)) → Each Plain (state_names t)
first_states (machine states valid is) h = each_left Plain (state_names (machine states valid is)) _ h

first_instructions : (t : Machine) → Each Plain (gathered own_instruction_names (all_machines t)) → Each Plain (own_instruction_names t)
first_instructions (machine states valid is) h = each_left Plain (own_instruction_names (machine states valid is)) _ h

-- ---- names of obligations

abbrev Named : Obligation → Type 0
Named o = Plain o.called

invariants_named : (p : Map) (text : Name) (cycles : ℕ) (hs : List Fact) (t : ℕ) → Plain text → Each Named (invariant_obligations p text cycles hs t)
invariants_named p text cycles hs t h =
    each_for_each Named (λ k. record { called = numbered text k; cycles = cycles; hypotheses = hs; claim = invariant k t } ∷ []) 0 (length p.invariants)
    (λ k. (plain_append text (decimal k) h (decimal_plain k), tt))

states_named : (text : Name) (cycles : ℕ) (hs : List Fact) (claim : Name → Fact) (ds : List StateDeclaration) → Plain text
    → Each Plain (map (λ d. d.state_name) ds) → Each Named (state_obligations text cycles hs claim ds)
states_named text cycles hs claim [] h k = tt
states_named text cycles hs claim (d ∷ ds) h k = (plain_append text d.state_name h k.0, states_named text cycles hs claim ds h k.1)

initial_names : (ds : List StateDeclaration) → Each Plain (map (λ d. d.state_name) ds) → Each Plain (map (λ d. d.state_name) (with_initial_values ds))
initial_names [] h = tt
initial_names (d ∷ ds) h = by (is_some d.init) (initial_names ds h.1)
  where
    by : (b : Bool) → Each Plain (map (λ d. d.state_name) (with_initial_values ds))
        → Each Plain (map (λ d. d.state_name) (cond b (d ∷ with_initial_values ds) (with_initial_values ds)))
    by true k = (h.0, k)
    by false k = k

module _ (m : Model) (p : Map) (states : Each Plain (state_names m.top)) where
  commits_named : (j : ℕ) (n : Name) → Plain n → (c : ℕ) → Each Named (commit_obligations m p j n c)
  commits_named j n h c =
      let text : Name = codes "commit." ++ n ++ codes "." ++ decimal c in
      let plain : Plain text =
      plain_append (codes "commit." ++ n ++ codes ".") (decimal c) (plain_append (codes "commit." ++ n) (codes ".") (plain_append (codes "commit.") n refl h) refl)
      (decimal_plain c) in
      each_append Named _ _ (invariants_named p (text ++ codes ".inv.") (suc c) (ended_at p j c) (suc c) (plain_append text (codes ".inv.") plain refl))
      (states_named (text ++ codes ".state.") (suc c) (ended_at p j c) (λ q. result_of j q (suc c)) (states_of m.top) (plain_append text (codes ".state.") plain refl) states)

  child_named : (j : ℕ) (n : Name) (c : Child) → Plain n → Each Named (child_obligations p j n c)
  child_named j n no_child h = tt
  child_named j n (child steps program) h = (plain_append (codes "child.") n refl h, tt)

  instruction_named : (j : ℕ) (i : Instruction) → Plain (instruction_name i) → Each Named (instruction_obligations m p j i)
  instruction_named j i h =
      let n : Name = instruction_name i in
      each_append Named (child_obligations p j n (child_program i)) _ (child_named j n (child_program i) h)
      (plain_append (codes "bound.") n refl h, each_for_each Named (commit_obligations m p j n) 0 (bound_named p n) (commits_named j n h))

  instructions_named : (j : ℕ) (is : List Instruction) → Each Plain (map instruction_name is) → Each Named (all_instruction_obligations m p j is)
  instructions_named j [] h = tt
  instructions_named j (i ∷ is) h =
      each_append Named (instruction_obligations m p j i) (all_instruction_obligations m p (suc j) is) (instruction_named j i h.0) (instructions_named (suc j) is h.1)

  abbrev active : List Fact
  active = for_each (λ t. reset_active t ∷ []) 0 p.reset_cycles

  reset_named : Each Named (reset_obligations m p)
  reset_named =
      each_append Named _ _ (invariants_named p (codes "reset.inv.") p.reset_cycles active p.reset_cycles refl)
      (states_named (codes "reset.init.") p.reset_cycles active (λ n. initial n p.reset_cycles) (with_initial_values (states_of m.top)) refl
      (initial_names (states_of m.top) states))

  abbrev idle : List Fact
  idle = invariants_at p 0 ++ premises_at p 0 ++ no_start 0 ∷ []

  idle_named : Each Named (idle_obligations m p)
  idle_named =
      each_append Named _ _ (invariants_named p (codes "idle.inv.") 1 idle 1 refl) (states_named (codes "idle.state.") 1 idle same (states_of m.top) refl states)

  all_named : Each Plain (own_instruction_names m.top) → Each Named (obligations m p)
  all_named h =
      each_append Named (reset_obligations m p ++ idle_obligations m p) _ (each_append Named (reset_obligations m p) (idle_obligations m p) reset_named idle_named)
      (refl, instructions_named 0 (instructions_in m.top) h)

contained : (os : List Obligation) (o : Obligation) → Each Named os → Contains os o → Named o
contained [] o h c = absurd (omega (arith, c.1))
contained (q ∷ os) o h c = at (λ d. contained os o h.1 d) c.0 c.1 c.2
  where
    at : (Contains os o → Named o) → (k : ℕ) → k < length (q ∷ os) → get_or (q ∷ os) k o ≡ o → Named o
    at f zero l e = subst Named e h.0
    at f (suc k) l e = f (k, omega (arith, l), e)

pub obligation_plain : (m : Model) (p : Map) (o : Obligation) → IsModel m → Contains (obligations m p) o → Plain o.called
obligation_plain m p o kept c =
    let states : Each Plain (state_names m.top) =
    first_states m.top (each_right Plain (map (λ i. i.input_name) m.inputs) (gathered state_names (all_machines m.top)) (names_plain _ kept.legal_names)) in
    contained (obligations m p) o (all_named m p states (first_instructions m.top (names_plain _ kept.legal_instruction_names))) c
