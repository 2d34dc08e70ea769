-- What statements do, 1364-2005, 9.2 to 9.5: a run of a statement on a valuation gives a valuation and a list of updates.
use Rattle.std.specs.Prelude.{ℕ, ◌+◌, ◌-◌, ◌*◌, ◌/◌, ◌%◌, ◌^◌, max, Bool, true, false, cond, ◌&&◌, ◌||◌, ◌==◌, List, [], ◌∷◌, ◌++◌, slice_index, slice_set, bit_or, Option, Some, None, option_and_then, ℤ, pos, negsuc}
use Rattle.wb_values.specs.Value.{Name, Value, number as a_number, words, as_number, as_words, Valuation, with_value}
use Rattle.verilog_trees.specs.Syntax.{Expression, number, name, concatenation, replication, as_signed, as_unsigned, unary, reduction, binary, shift, power, comparison, logical, conditional, Expressions, no_expressions, expression, Selects, whole, one, two, Target, place, joined, Targets, no_targets, target, CaseKind, exact_case, wild_case, Statement, empty, blocking, nonblocking, if_then, if_else, case, block, Statements, no_statements, statement, CaseItems, no_items, arm, default_arm}
use Rattle.verilog_meaning.specs.Expression.{Object, Scope, object_width, is_memory, Bits, word_number, width_of, sign_of, value_of, selects_width, select_index, select_bits, is_true, assigned_value}

-- where a value goes: a net or variable, a word of a memory, or an address out of range
pub data Cell : Type 0 where
  variable_cell : Cell
  word_cell : ℕ → Cell
  no_cell : Cell

-- some bits of a name's cell
pub record Place : Type 0 where
  pub of_name : Name
  pub cell : Cell
  pub bits : Bits

abbrev pub cell_at : Option ℕ → Cell
cell_at (Some k) = word_cell k
cell_at None = no_cell

-- the word of a memory that an index names
abbrev pub indexed_cell : Object → ℤ → Cell
indexed_cell o i = cell_at (option_and_then (λ a. word_number a i) o.addresses)

abbrev pub all_bits : Object → Bits
all_bits o = record { low = pos 0; count = object_width o }

-- The place that a name with selects means, its indexes read in the valuation.
abbrev pub named_place : Scope → Valuation → Name → Selects → Place
named_place s v n whole = record { of_name = n; cell = variable_cell; bits = all_bits (s n) }
named_place s v n (one i) =
    cond (is_memory (s n)) (record { of_name = n; cell = indexed_cell (s n) (select_index s v i); bits = all_bits (s n) })
    (record { of_name = n; cell = variable_cell; bits = select_bits s v (s n) i })
named_place s v n (two i j) =
    record { of_name = n; cell = indexed_cell (s n) (select_index s v i); bits = select_bits s v (s n) j }

abbrev mutual
  -- the places of a target, the leftmost first
  pub places : Scope → Valuation → Target → List Place
  places s v (place n x) = named_place s v n x ∷ []
  places s v (joined ts) = all_places s v ts

  pub all_places : Scope → Valuation → Targets → List Place
  all_places s v no_targets = []
  all_places s v (target t ts) = places s v t ++ all_places s v ts

-- how many bits the places take together
abbrev pub places_width : List Place → ℕ
places_width [] = 0
places_width (p ∷ ps) = p.bits.count + places_width ps

abbrev mutual
  pub target_width : Scope → Target → ℕ
  target_width s (place n x) = selects_width s (s n) x
  target_width s (joined ts) = targets_width s ts

  pub targets_width : Scope → Targets → ℕ
  targets_width s no_targets = 0
  targets_width s (target t ts) = target_width s t + targets_width s ts

-- A number of w bits with n of them, from place k on, replaced by those of x.
abbrev pub with_bits_from : ℕ → ℕ → ℕ → ℕ → ℕ → ℕ
with_bits_from w old k n x = (old % 2 ^ k + 2 ^ k * (x % 2 ^ n) + 2 ^ (k + n) * (old / 2 ^ (k + n))) % 2 ^ w

-- The same from any place on: bits out of range are not written.
abbrev pub with_bits_at : ℕ → ℕ → ℤ → ℕ → ℕ → ℕ
with_bits_at w old (pos k) n x = with_bits_from w old k n x
with_bits_at w old (negsuc k) n x = with_bits_from w old 0 (n - (k + 1)) (x / 2 ^ (k + 1))

abbrev pub with_bits : ℕ → ℕ → Bits → ℕ → ℕ
with_bits w old b x = with_bits_at w old b.low b.count x

-- What a name holds after a number was written to a place of it. A write out of range does nothing.
abbrev pub written_cell : Object → Value → Cell → Bits → ℕ → Value
written_cell o old variable_cell b x = a_number (with_bits (object_width o) (as_number old) b x)
written_cell o old (word_cell k) b x =
    words (slice_set (as_words old) k (with_bits (object_width o) (slice_index (as_words old) k) b x))
written_cell o old no_cell b x = old

abbrev pub written_place : Scope → Valuation → Place → ℕ → Valuation
written_place s v p x = with_value v p.of_name (written_cell (s p.of_name) (v p.of_name) p.cell p.bits x)

-- The valuation after a number was written to places, the leftmost getting the high bits.
-- Of a bit that is named twice the leftmost part's value stays.
abbrev pub written : Scope → Valuation → List Place → ℕ → Valuation
written s v [] x = v
written s v (p ∷ ps) x = written_place s (written s v ps (x % 2 ^ places_width ps)) p (x / 2 ^ places_width ps)

-- A waiting nonblocking assignment: its places and its value, both taken when it was met.
pub record Update : Type 0 where
  pub places : List Place
  pub value : ℕ

pub record Effect : Type 0 where
  pub valuation : Valuation
  pub updates : List Update

abbrev pub unchanged : Valuation → Effect
unchanged v = record { valuation = v; updates = [] }

-- an effect after updates that wait already
abbrev pub after_updates : List Update → Effect → Effect
after_updates us e = record { valuation = e.valuation; updates = us ++ e.updates }

-- one effect, and then the effect that follows from its valuation
abbrev pub followed_by : Effect → (Valuation → Effect) → Effect
followed_by e next = after_updates e.updates (next e.valuation)

-- The width and sign to which the expression of a case and all its items are widened: the greatest width, signed only if all are.
abbrev pub greatest_width : Scope → Expressions → ℕ
greatest_width s no_expressions = 0
greatest_width s (expression e es) = max (width_of s e) (greatest_width s es)

abbrev pub all_signed : Scope → Expressions → Bool
all_signed s no_expressions = true
all_signed s (expression e es) = sign_of s e && all_signed s es

abbrev pub items_width : Scope → CaseItems → ℕ
items_width s no_items = 0
items_width s (arm es x items) = max (greatest_width s es) (items_width s items)
items_width s (default_arm x items) = items_width s items

abbrev pub items_signed : Scope → CaseItems → Bool
items_signed s no_items = true
items_signed s (arm es x items) = all_signed s es && items_signed s items
items_signed s (default_arm x items) = items_signed s items

-- The z and ? bits of a case item that is a number; past the number's own width there are none.
abbrev pub wild_bits : Expression → ℕ
wild_bits (number k) = k.wild
wild_bits (name n x) = 0
wild_bits (concatenation es) = 0
wild_bits (replication k es) = 0
wild_bits (as_signed x) = 0
wild_bits (as_unsigned x) = 0
wild_bits (unary op x) = 0
wild_bits (reduction op x) = 0
wild_bits (binary op x y) = 0
wild_bits (shift op x n) = 0
wild_bits (power x n) = 0
wild_bits (comparison op x y) = 0
wild_bits (logical op x y) = 0
wild_bits (conditional c x y) = 0

-- In casez a z or ? bit of an item matches any bit.
abbrev pub matches : CaseKind → ℕ → ℕ → ℕ → Bool
matches exact_case wild x y = x == y
matches wild_case wild x y = bit_or x wild == bit_or y wild

-- one of the expressions, widened so, matches x
abbrev pub any_matches : Scope → Valuation → CaseKind → ℕ → Bool → ℕ → Expressions → Bool
any_matches s v kind w signed x no_expressions = false
any_matches s v kind w signed x (expression e es) =
    matches kind (wild_bits e) x (value_of s v e w signed) || any_matches s v kind w signed x es

abbrev mutual
  -- Runs of statements. A blocking assignment changes the valuation, a nonblocking one adds an update.
  pub run : Scope → Statement → Valuation → Effect
  run s empty v = unchanged v
  run s (blocking t e) v = unchanged (written s v (places s v t) (assigned_value s v (target_width s t) e))
  run s (nonblocking t e) v =
      record { valuation = v; updates = record { places = places s v t; value = assigned_value s v (target_width s t) e } ∷ [] }
  run s (if_then c x) v = cond (is_true s v c) (run s x v) (unchanged v)
  run s (if_else c x y) v = cond (is_true s v c) (run s x v) (run s y v)
  run s (case kind e items) v =
      let w : ℕ = max (width_of s e) (items_width s items) in
      let signed : Bool = sign_of s e && items_signed s items in
      run_case s v kind w signed (value_of s v e w signed) items (unchanged v)
  run s (block n xs) v = run_all s xs v

  -- one after the other
  pub run_all : Scope → Statements → Valuation → Effect
  run_all s no_statements v = unchanged v
  run_all s (statement x xs) v = followed_by (run s x v) (λ u. run_all s xs u)

  -- The first arm that matches x; else the default, wherever it stands; else nothing. The last argument is what
  -- is done where no arm from here on matches.
  pub run_case : Scope → Valuation → CaseKind → ℕ → Bool → ℕ → CaseItems → Effect → Effect
  run_case s v kind w signed x no_items otherwise = otherwise
  run_case s v kind w signed x (arm es y items) otherwise =
      cond (any_matches s v kind w signed x es) (run s y v) (run_case s v kind w signed x items otherwise)
  run_case s v kind w signed x (default_arm y items) otherwise = run_case s v kind w signed x items (run s y v)

-- An update takes place.
abbrev pub with_update : Scope → Valuation → Update → Valuation
with_update s v u = written s v u.places u.value

-- updates take place in their order
abbrev pub with_updates : Scope → Valuation → List Update → Valuation
with_updates s v [] = v
with_updates s v (u ∷ us) = with_updates s (with_update s v u) us
