-- Words that are taken ask for something.
use Rattle.std.proofs.Common.{◌≡◌, ◌∙◌, ◌&&◌, ◌||◌, ℕ, Bool, cond, true, false, not, suc, refl, sym, ap, subst, arith, List, [], ◌∷◌, ◌++◌, length, Option, Some, None, is_some, true≢false, nat_lt}
use Rattle.std.specs.Prelude.{codes, find, fold, nat_le, option_and_then, option_map, slice_get}
use Rattle.std.specs.List.{list_all, list_any}
use Rattle.std.specs.Option.{option_map_or}
use Rattle.std.specs.Str.{bytes_eq}
use Rattle.std.specs.Str.Parse.{digits_value, without_leading_plus}
use Rattle.std.proofs.lemmas.Bool.{leb-true, lt-ltb}
use Rattle.std.proofs.lemmas.Slice.Eq.{bytes_eq-Decides}
use Rattle.std.proofs.lemmas.List.Folds.{list_all-append}
use Rattle.clap.specs.ValueTests.{accepts, is_unsigned_in}
use Rattle.clap.specs.Facts.{explicit_source, parser_of_value, unwrap_or_range}
use Rattle.clap.specs.Values.{read_as, reading_of}
use Rattle.clap.specs.Walk.{Row, Rule, Text, action_of, all_of, answers_to, default_rows, first_of, has_row, is_empty, more_values, nothing_held, one_of, reading_by, row_text, rows_after, settled, stop_after, values_or_missing, walk, walk_from, with_default, with_values}
use Rattle.clap.specs.Simple.{App, Shape, argument_words, built, built_leaf, entered, inherited, is_simple, label_of, names_of, new_shape, rows_at}
use Rattle.clap.specs.Takes.{action_passes, built_takes, default_passes, entered_passes, is_given, level_passes, settle_passes, takes, use_passes, walk_passes}
use Rattle.clap.specs.declared.builder.action.ArgAction.TheVariants as action
use Rattle.clap.specs.declared.builder.value_parser.ValueParser.TheVariants as vp
use Rattle.clap.specs.declared.parser.matches.ValueSource.{ValueSource}
use Rattle.clap.specs.declared.parser.matches.ValueSource.TheVariants.{DefaultValue}
use Rattle.clap.specs.declared.builder.value_parser.Reading.{Reading}
use Rattle.clap.specs.declared.builder.value_parser.Reading.TheVariants as reading
use Rattle.wb_words.specs.Application.{check_command, emit_command, replay_command, simulate_both_command, simulate_command, simulate_rtl_command, workbench_app}
use Rattle.wb_words.specs.Requests.{budget_in, check_of, designs_in, emit_of, is_set, replay_of, request_in, request_of, simulate_both_of, simulate_of, simulate_rtl_of}
use Rattle.wb_words.proofs.Filled.{Every, Holds, Leaves, every_found, first_part, is_count, level_holds, second_part}

-- the values of a row: one or more, and those of a budget numbers in its range, read as they are written
pub record IsGood (id : Text) (how : Reading) (vs : List Text) : Type 0 where
  pub some : nat_lt 0 (length vs) ≡ true
  pub numbers : bytes_eq id (codes "budget") ≡ true → list_all (is_unsigned_in 1 1000000000) vs ≡ true
  pub written : bytes_eq id (codes "budget") ≡ true → how ≡ reading.AsWritten

joins : (id : Text) (how other : Reading) (xs ys : List Text) → IsGood id how xs → IsGood id other ys → IsGood id how (xs ++ ys)
joins id how other [] ys a b = absurd (true≢false (sym a.some))
joins id how other (x ∷ xs) ys a b = record {
  some = lt-ltb 0 (suc (length (xs ++ ys))) (omega arith);
  numbers = λ e. list_all-append (is_unsigned_in 1 1000000000) (x ∷ xs) ys ∙ both (a.numbers e) (b.numbers e);
  written = a.written;
}
  where
    both : {p q : Bool} → p ≡ true → q ≡ true → (p && q) ≡ true
    both e f = rw (e, f) refl

-- what the rows give
module _ (rows : List Row) (good : Every (Holds IsGood) rows) (id : Text) where
  row_holds : (r : Row) → find (λ x. bytes_eq x.id id) rows ≡ Some r → IsGood r.id r.reading r.values
  row_holds r e = every_found (Holds IsGood) (λ x. bytes_eq x.id id) rows r good e

  all_given : is_given id rows ≡ true → (v : Text) × (vs : List Text) × (all_of id rows ≡ Some (v ∷ vs)) × (first_of id rows ≡ Some v)
  all_given e = go (find (λ x. bytes_eq x.id id) rows) refl e
    where
      values : (vs : List Text) → nat_lt 0 (length vs) ≡ true → (v : Text) × (ws : List Text) × (vs ≡ v ∷ ws)
      values [] e = absurd (true≢false (sym e))
      values (v ∷ ws) e = (v, ws, refl)

      go : (o : Option Row) → find (λ x. bytes_eq x.id id) rows ≡ o → option_map_or (λ r. explicit_source r.source) o false ≡ true
          → (v : Text) × (vs : List Text) × (option_map (λ r. r.values) (find (λ x. bytes_eq x.id id) rows) ≡ Some (v ∷ vs))
          × (option_and_then (λ r. slice_get r.values 0) (find (λ x. bytes_eq x.id id) rows) ≡ Some v)
      go None is f = absurd (true≢false (sym f))
      go (Some r) is f =
          let got = values r.values (row_holds r is).some in (
            got.0,
            got.1,
            ap (option_map (λ x. x.values)) is ∙ ap Some got.2,
            ap (option_and_then (λ x. slice_get x.values 0)) is ∙ ap (λ vs. slice_get vs 0) got.2,
          )

found_passes : {X : Type 0} (p : X → Bool) (xs : List X) → list_any p xs ≡ true → (x : X) × (find p xs ≡ Some x) × (p x ≡ true)
found_passes p [] e = absurd (true≢false (sym e))
found_passes p (x ∷ xs) e = go (p x) refl (found_passes p xs) e
  where
    go : (b : Bool) → p x ≡ b → (list_any p xs ≡ true → (y : _) × (find p xs ≡ Some y) × (p y ≡ true)) → (b || list_any p xs) ≡ true
        → (y : _) × (cond b (Some x) (find p xs) ≡ Some y) × (p y ≡ true)
    go true is rest f = (x, refl, is)
    go false is rest f = rest f

-- a row of the budget gives a number
budget_given : (rows : List Row) → Every (Holds IsGood) rows → has_row (codes "budget") rows ≡ true
    → (n : ℕ) × (option_and_then budget_in (one_of (codes "budget") rows) ≡ Some n)
budget_given rows good e =
    let got = found_passes (λ r. bytes_eq r.id (codes "budget")) rows e in
    let r = got.0 in
    let holds = row_holds rows good (codes "budget") r got.1 in
    let read = number r.reading r.values holds.some (holds.numbers got.2) (holds.written got.2) in
    (read.0, ap (λ o. option_and_then budget_in (option_and_then row_text o)) got.1 ∙ read.1)
  where
    number : (how : Reading) (vs : List Text) → nat_lt 0 (length vs) ≡ true → list_all (is_unsigned_in 1 1000000000) vs ≡ true → how ≡ reading.AsWritten
        → (n : ℕ) × (option_and_then budget_in (option_map (read_as how) (slice_get vs 0)) ≡ Some n)
    number how [] some numbers written = absurd (true≢false (sym some))
    number how (v ∷ vs) some numbers written = (
      digits_value 10 (without_leading_plus v),
      ap (λ h. budget_in (read_as h v)) written ∙ rw (first_part (is_unsigned_in 1 1000000000 v) _ numbers) refl,
    )

-- the rows of a check, and of each simulation, ask for it
check_rows : (rows : List Row) → Every (Holds IsGood) rows → is_given (codes "model") rows ≡ true → is_given (codes "map") rows ≡ true
    → is_given (codes "designs") rows ≡ true → has_row (codes "budget") rows ≡ true → is_some (request_in (codes "check") rows) ≡ true
unfolding request_in
check_rows rows good m p d b =
    let model = all_given rows good (codes "model") m in
    let map = all_given rows good (codes "map") p in
    let designs = all_given rows good (codes "designs") d in
    let budget = budget_given rows good b in
    asks _ _ _ _ _ _ _ _ model.3 map.3 budget.1 (ap (option_and_then designs_in) designs.2)
  where
    asks : (om op : Option Text) (ob : Option ℕ) (od : Option (List Text)) (m p : Text) (b : ℕ) (ds : List Text) → om ≡ Some m → op ≡ Some p → ob ≡ Some b → od ≡ Some ds
        → is_some (check_of om op ob od) ≡ true
    asks om op ob od m p b ds e f g h = rw (e, f, g, h) refl

simulate_rows : (rows : List Row) → Every (Holds IsGood) rows → is_given (codes "model") rows ≡ true → is_given (codes "script") rows ≡ true
    → is_some (request_in (codes "simulate") rows) ≡ true
unfolding request_in
simulate_rows rows good m t =
    let model = all_given rows good (codes "model") m in
    let script = all_given rows good (codes "script") t in
    asks _ _ _ _ model.3 script.3
  where
    asks : (om os : Option Text) (m t : Text) → om ≡ Some m → os ≡ Some t → is_some (simulate_of om os) ≡ true
    asks om os m t e f = rw (e, f) refl

simulate_rtl_rows : (rows : List Row) → Every (Holds IsGood) rows → is_given (codes "top") rows ≡ true → is_given (codes "clock") rows ≡ true
    → is_given (codes "script") rows ≡ true → is_given (codes "designs") rows ≡ true → is_some (request_in (codes "simulate-rtl") rows) ≡ true
unfolding request_in
simulate_rtl_rows rows good t c s d =
    let top = all_given rows good (codes "top") t in
    let clock = all_given rows good (codes "clock") c in
    let script = all_given rows good (codes "script") s in
    let designs = all_given rows good (codes "designs") d in
    asks _ _ _ _ _ _ _ _ top.3 clock.3 script.3 (ap (option_and_then designs_in) designs.2)
  where
    asks : (ot oc os : Option Text) (od : Option (List Text)) (t c s : Text) (ds : List Text) → ot ≡ Some t → oc ≡ Some c → os ≡ Some s → od ≡ Some ds
        → is_some (simulate_rtl_of ot oc os od) ≡ true
    asks ot oc os od t c s ds e f g h = rw (e, f, g, h) refl

replay_rows : (rows : List Row) → Every (Holds IsGood) rows → is_given (codes "model") rows ≡ true → is_given (codes "map") rows ≡ true
    → is_given (codes "trace") rows ≡ true → is_given (codes "designs") rows ≡ true → is_some (request_in (codes "replay") rows) ≡ true
unfolding request_in
replay_rows rows good m p t d =
    let model = all_given rows good (codes "model") m in
    let map = all_given rows good (codes "map") p in
    let trace = all_given rows good (codes "trace") t in
    let designs = all_given rows good (codes "designs") d in
    asks _ _ _ _ _ _ _ _ model.3 map.3 trace.3 (ap (option_and_then designs_in) designs.2)
  where
    asks : (om op ot : Option Text) (od : Option (List Text)) (m p t : Text) (ds : List Text) → om ≡ Some m → op ≡ Some p → ot ≡ Some t → od ≡ Some ds
        → is_some (replay_of om op ot od) ≡ true
    asks om op ot od m p t ds e f g h = rw (e, f, g, h) refl

simulate_both_rows : (rows : List Row) → Every (Holds IsGood) rows → is_given (codes "model") rows ≡ true → is_given (codes "map") rows ≡ true
    → is_given (codes "script") rows ≡ true → is_given (codes "designs") rows ≡ true → is_some (request_in (codes "simulate-both") rows) ≡ true
unfolding request_in
simulate_both_rows rows good m p t d =
    let model = all_given rows good (codes "model") m in
    let map = all_given rows good (codes "map") p in
    let script = all_given rows good (codes "script") t in
    let designs = all_given rows good (codes "designs") d in
    asks _ _ _ _ _ _ _ _ model.3 map.3 script.3 (ap (option_and_then designs_in) designs.2)
  where
    asks : (om op ot : Option Text) (od : Option (List Text)) (m p t : Text) (ds : List Text) → om ≡ Some m → op ≡ Some p → ot ≡ Some t → od ≡ Some ds
        → is_some (simulate_both_of om op ot od) ≡ true
    asks om op ot od m p t ds e f g h = rw (e, f, g, h) refl

emit_rows : (rows : List Row) → Every (Holds IsGood) rows → is_given (codes "model") rows ≡ true → is_some (request_in (codes "emit") rows) ≡ true
unfolding request_in
emit_rows rows good m =
    let model = all_given rows good (codes "model") m in
    asks _ _ (is_set (first_of (codes "map-only") rows)) model.3
  where
    asks : (om : Option Text) (m : Text) (only : Bool) → om ≡ Some m → is_some (emit_of om only) ≡ true
    asks om m only e = rw e refl

-- ---- what the arguments leave

some_values : (again : Bool) (a : Rule) (vs : List Text) (rows : List Row) → nat_le 1 (unwrap_or_range a.range).start_inclusive ≡ true → use_passes again a vs rows ≡ true
    → nat_lt 0 (length (values_or_missing a vs)) ≡ true
some_values again a [] rows least e =
    let none : nat_le (unwrap_or_range a.range).start_inclusive 0 ≡ true = first_part _ _ e in
    absurd (omega (arith, leb-true _ _ least, leb-true _ _ none))
some_values again a (v ∷ vs) rows least e = lt-ltb 0 (suc (length vs)) (omega arith)

has_text : List Text → Bool
has_text [] = false
has_text (v ∷ vs) = true

no_text : (v : Text) (vs : List Text) → v ∷ vs ≡ [] → ⊥
unfolding has_text
no_text v vs e = true≢false (ap has_text e)

-- an argument that is no budget, with a value or more
plain_leaves : (again : Bool) (a : Rule) → is_count (action_of a) ≡ false → nat_le 1 (unwrap_or_range a.range).start_inclusive ≡ true → bytes_eq a.id (codes "budget") ≡ false
    → a.defaults ≡ [] → Leaves IsGood again a
plain_leaves again a count least other none = record {
  counts = count;
  uses = λ vs rows e. record {
    some = some_values again a vs rows least e;
    numbers = λ is. absurd (true≢false (sym is ∙ other));
    written = λ is. absurd (true≢false (sym is ∙ other));
  };
  default = λ v vs is. absurd (no_text v vs (sym is ∙ none));
}

-- a flag that is no budget, with a value where it is used
flag_leaves : (again : Bool) (a : Rule) → is_count (action_of a) ≡ false → is_empty a.missing ≡ false → bytes_eq a.id (codes "budget") ≡ false → Leaves IsGood again a
flag_leaves again a count valued other = record {
  counts = count;
  uses = λ vs rows e. good _ (used_with vs);
  default = λ v vs is. good _ (lt-ltb 0 (suc (length vs)) (omega arith));
}
  where
    good : (vs : List Text) → nat_lt 0 (length vs) ≡ true → IsGood a.id (reading_by a) vs
    good vs some = record {
      some = some;
      numbers = λ is. absurd (true≢false (sym is ∙ other));
      written = λ is. absurd (true≢false (sym is ∙ other));
    }

    missing_some : (ms : List Text) → is_empty ms ≡ false → nat_lt 0 (length ms) ≡ true
    missing_some [] e = absurd (true≢false e)
    missing_some (v ∷ vs) e = lt-ltb 0 (suc (length vs)) (omega arith)

    used_with : (vs : List Text) → nat_lt 0 (length (values_or_missing a vs)) ≡ true
    used_with [] = missing_some a.missing valued
    used_with (v ∷ vs) = lt-ltb 0 (suc (length vs)) (omega arith)

-- an argument that asks for help
help_leaves : (again : Bool) (a : Rule) → action_of a ≡ action.Help → a.defaults ≡ [] → Leaves IsGood again a
help_leaves again a help none = record {
  counts = ap is_count help;
  uses = λ vs rows e. absurd (true≢false (sym (second_part _ _ (second_part _ _ e)) ∙ ap (λ x. action_passes x again a (values_or_missing a vs) rows) help));
  default = λ v vs is. absurd (no_text v vs (sym is ∙ none));
}

-- the budget
budget_leaves : (again : Bool) (a : Rule) → action_of a ≡ action.Set → nat_le 1 (unwrap_or_range a.range).start_inclusive ≡ true
    → parser_of_value a.parser ≡ vp.Unsigned 1 1000000000 → a.defaults ≡ codes "100000" ∷ [] → Leaves IsGood again a
budget_leaves again a set least parser default = record {
  counts = ap is_count set;
  uses = λ vs rows e. record {
    some = some_values again a vs rows least e;
    numbers = λ is.
        let passes : action_passes action.Set again a (values_or_missing a vs) rows ≡ true = ap (λ x. action_passes x again a (values_or_missing a vs) rows) (sym set) ∙ second_part _ _ (second_part _ _ e) in
        subst (λ p. list_all (accepts a.ignore_case p) (values_or_missing a vs) ≡ true) parser (second_part (not (has_row a.id rows) || again) _ passes);
    written = λ is. ap reading_of parser;
  };
  default = λ v vs is.
      let same : v ∷ vs ≡ codes "100000" ∷ [] = sym is ∙ default in
      record {
        some = ap (λ xs. nat_lt 0 (length xs)) same;
        numbers = λ e. ap (list_all (is_unsigned_in 1 1000000000)) same;
        written = λ e. ap reading_of parser;
      };
}

-- ---- the row of a default

row_there : (id : Text) (how : Reading) (s : ValueSource) (vs : List Text) (rows : List Row) → has_row id (with_values id how s vs rows) ≡ true
row_there id how s vs [] = rw ((bytes_eq-Decides id id).1 refl) refl
row_there id how s vs (r ∷ rs) = go (bytes_eq r.id id) refl (row_there id how s vs rs)
  where
    go : (b : Bool) → bytes_eq r.id id ≡ b → has_row id (with_values id how s vs rs) ≡ true
        → has_row id (cond b (more_values s vs r ++ rs) (r ∷ with_values id how s vs rs)) ≡ true
    go true is rest = rw is refl
    go false is rest = rw is rest

row_stays : (id other : Text) (how : Reading) (s : ValueSource) (vs : List Text) (rows : List Row) → has_row id rows ≡ true → has_row id (with_values other how s vs rows) ≡ true
row_stays id other how s vs [] e = absurd (true≢false (sym e))
row_stays id other how s vs (r ∷ rs) e = go (bytes_eq r.id other) (bytes_eq r.id id) refl (row_stays id other how s vs rs) e
  where
    go : (b c : Bool) → bytes_eq r.id id ≡ c → (has_row id rs ≡ true → has_row id (with_values other how s vs rs) ≡ true) → (c || has_row id rs) ≡ true
        → has_row id (cond b (more_values s vs r ++ rs) (r ∷ with_values other how s vs rs)) ≡ true
    go true c is rest f = rw is f
    go false true is rest f = rw is refl
    go false false is rest f = rw is (rest f)

default_stays : (id : Text) (rows : List Row) (a : Rule) → has_row id rows ≡ true → has_row id (with_default rows a) ≡ true
default_stays id rows a e = go (has_row a.id rows) a.defaults
  where
    go : (b : Bool) (ds : List Text) → has_row id (cond b rows (default_rows a.id (reading_by a) ds rows)) ≡ true
    go true ds = e
    go false [] = e
    go false (v ∷ vs) = row_stays id a.id (reading_by a) DefaultValue (v ∷ vs) rows e

defaults_stay : (id : Text) (rows : List Row) (c : List Rule) → has_row id rows ≡ true → has_row id (fold with_default rows c) ≡ true
defaults_stay id rows [] e = e
defaults_stay id rows (a ∷ c) e = defaults_stay id (with_default rows a) c (default_stays id rows a e)

default_there : (rows : List Row) (a : Rule) → is_empty a.defaults ≡ false → has_row a.id (with_default rows a) ≡ true
default_there rows a some = go (has_row a.id rows) refl a.defaults some
  where
    go : (b : Bool) → has_row a.id rows ≡ b → (ds : List Text) → is_empty ds ≡ false → has_row a.id (cond b rows (default_rows a.id (reading_by a) ds rows)) ≡ true
    go true is ds e = is
    go false is [] e = absurd (true≢false e)
    go false is (v ∷ vs) e = row_there a.id (reading_by a) DefaultValue (v ∷ vs) rows

-- an argument of this id has a default
abbrev gives_default : Text → Rule → Bool
gives_default id a = bytes_eq a.id id && not (is_empty a.defaults)

defaults_there : (id : Text) (rows : List Row) (c : List Rule) → list_any (gives_default id) c ≡ true → has_row id (fold with_default rows c) ≡ true
defaults_there id rows [] e = absurd (true≢false (sym e))
defaults_there id rows (a ∷ c) e = go (gives_default id a) refl (defaults_there id (with_default rows a) c) e
  where
    is_false : (b : Bool) → not b ≡ true → b ≡ false
    is_false true f = sym f
    is_false false f = refl

    go : (b : Bool) → gives_default id a ≡ b → (list_any (gives_default id) c ≡ true → has_row id (fold with_default (with_default rows a) c) ≡ true)
        → (b || list_any (gives_default id) c) ≡ true → has_row id (fold with_default (with_default rows a) c) ≡ true
    go true is rest f =
        let same : a.id ≡ id = (bytes_eq-Decides a.id id).0 (first_part (bytes_eq a.id id) _ is) in
        let some : is_empty a.defaults ≡ false = is_false (is_empty a.defaults) (second_part (bytes_eq a.id id) _ is) in
        defaults_stay id (with_default rows a) c (subst (λ i. has_row i (with_default rows a) ≡ true) same (default_there rows a some))
    go false is rest f = rest f

-- ---- the commands

abbrev Asks : Shape → Type 0
Asks s = (words : List Text) → level_passes s [] nothing_held words false ≡ true → is_some (request_in s.name (rows_after s.rules [] words)) ≡ true

-- what is required is given
given : (s : Shape) (words : List Text) → level_passes s [] nothing_held words false ≡ true
    → ((s.subcommand_negates_reqs && false) || list_all (λ a. not a.required || is_given a.id (rows_after s.rules [] words)) s.rules) ≡ true
given s words e =
    let end = (walk s.rules [] nothing_held words).held in
    let settle = second_part (walk_passes s [] (walk_from nothing_held) words) _ e in
    let valid = second_part (list_all default_passes s.rules) _ (second_part (settle_passes s.rules s.args_override_self end) _ settle) in
    second_part (list_all (λ a. a.is_free) s.rules) _ (second_part (not s.subcommand_required || false) _
    (second_part (not s.arg_required_else_help || (false || list_any (λ r. explicit_source r.source) (rows_after s.rules [] words))) _ valid))

abbrev check_built : Shape
check_built = built_leaf (inherited (record (new_shape (codes "wb")) { subcommand_required = true; disable_help_subcommand = true; is_leaf = false; is_built = true }) check_command)

abbrev simulate_built : Shape
simulate_built = built_leaf (inherited (record (new_shape (codes "wb")) { subcommand_required = true; disable_help_subcommand = true; is_leaf = false; is_built = true }) simulate_command)

abbrev simulate_rtl_built : Shape
simulate_rtl_built = built_leaf (inherited (record (new_shape (codes "wb")) { subcommand_required = true; disable_help_subcommand = true; is_leaf = false; is_built = true }) simulate_rtl_command)

abbrev replay_built : Shape
replay_built = built_leaf (inherited (record (new_shape (codes "wb")) { subcommand_required = true; disable_help_subcommand = true; is_leaf = false; is_built = true }) replay_command)

abbrev simulate_both_built : Shape
simulate_both_built = built_leaf (inherited (record (new_shape (codes "wb")) { subcommand_required = true; disable_help_subcommand = true; is_leaf = false; is_built = true }) simulate_both_command)

abbrev emit_built : Shape
emit_built = built_leaf (inherited (record (new_shape (codes "wb")) { subcommand_required = true; disable_help_subcommand = true; is_leaf = false; is_built = true }) emit_command)

check_leaves : Every (Leaves IsGood false) check_built.rules
check_leaves = (
  plain_leaves false _ refl refl refl refl,
  (
    plain_leaves false _ refl refl refl refl,
    (
      budget_leaves false _ refl refl refl refl,
      (plain_leaves false _ refl refl refl refl, (help_leaves false _ refl refl, tt)),
    ),
  ),
)

simulate_leaves : Every (Leaves IsGood false) simulate_built.rules
simulate_leaves = (plain_leaves false _ refl refl refl refl, (plain_leaves false _ refl refl refl refl, (help_leaves false _ refl refl, tt)))

simulate_rtl_leaves : Every (Leaves IsGood false) simulate_rtl_built.rules
simulate_rtl_leaves = (
  plain_leaves false _ refl refl refl refl,
  (
    plain_leaves false _ refl refl refl refl,
    (
      plain_leaves false _ refl refl refl refl,
      (plain_leaves false _ refl refl refl refl, (help_leaves false _ refl refl, tt)),
    ),
  ),
)

replay_leaves : Every (Leaves IsGood false) replay_built.rules
replay_leaves = (
  plain_leaves false _ refl refl refl refl,
  (
    plain_leaves false _ refl refl refl refl,
    (
      plain_leaves false _ refl refl refl refl,
      (plain_leaves false _ refl refl refl refl, (help_leaves false _ refl refl, tt)),
    ),
  ),
)

simulate_both_leaves : Every (Leaves IsGood false) simulate_both_built.rules
simulate_both_leaves = (
  plain_leaves false _ refl refl refl refl,
  (
    plain_leaves false _ refl refl refl refl,
    (
      plain_leaves false _ refl refl refl refl,
      (plain_leaves false _ refl refl refl refl, (help_leaves false _ refl refl, tt)),
    ),
  ),
)

emit_leaves : Every (Leaves IsGood false) emit_built.rules
emit_leaves = (plain_leaves false _ refl refl refl refl, (flag_leaves false _ refl refl refl, (help_leaves false _ refl refl, tt)))

check_asks : Asks check_built
check_asks words e =
    let rows = rows_after check_built.rules [] words in
    let good = level_holds IsGood joins check_built [] words false check_leaves e in
    let all = given check_built words e in
    let rest = second_part (is_given (codes "model") rows) _ all in
    let more = second_part (is_given (codes "map") rows) _ rest in
    let end = (walk check_built.rules [] nothing_held words).held in
    let there : has_row (codes "budget") rows ≡ true = defaults_there (codes "budget") (settled check_built.rules end).rows check_built.rules refl in
    check_rows rows good (first_part _ _ all) (first_part _ _ rest) (first_part _ _ more) there

simulate_asks : Asks simulate_built
simulate_asks words e =
    let rows = rows_after simulate_built.rules [] words in
    let good = level_holds IsGood joins simulate_built [] words false simulate_leaves e in
    let all = given simulate_built words e in
    let rest = second_part (is_given (codes "model") rows) _ all in
    simulate_rows rows good (first_part _ _ all) (first_part _ _ rest)

simulate_rtl_asks : Asks simulate_rtl_built
simulate_rtl_asks words e =
    let rows = rows_after simulate_rtl_built.rules [] words in
    let good = level_holds IsGood joins simulate_rtl_built [] words false simulate_rtl_leaves e in
    let all = given simulate_rtl_built words e in
    let rest = second_part (is_given (codes "top") rows) _ all in
    let more = second_part (is_given (codes "clock") rows) _ rest in
    let last = second_part (is_given (codes "script") rows) _ more in
    simulate_rtl_rows rows good (first_part _ _ all) (first_part _ _ rest) (first_part _ _ more) (first_part _ _ last)

replay_asks : Asks replay_built
replay_asks words e =
    let rows = rows_after replay_built.rules [] words in
    let good = level_holds IsGood joins replay_built [] words false replay_leaves e in
    let all = given replay_built words e in
    let rest = second_part (is_given (codes "model") rows) _ all in
    let more = second_part (is_given (codes "map") rows) _ rest in
    let last = second_part (is_given (codes "trace") rows) _ more in
    replay_rows rows good (first_part _ _ all) (first_part _ _ rest) (first_part _ _ more) (first_part _ _ last)

simulate_both_asks : Asks simulate_both_built
simulate_both_asks words e =
    let rows = rows_after simulate_both_built.rules [] words in
    let good = level_holds IsGood joins simulate_both_built [] words false simulate_both_leaves e in
    let all = given simulate_both_built words e in
    let rest = second_part (is_given (codes "model") rows) _ all in
    let more = second_part (is_given (codes "map") rows) _ rest in
    let last = second_part (is_given (codes "script") rows) _ more in
    simulate_both_rows rows good (first_part _ _ all) (first_part _ _ rest) (first_part _ _ more) (first_part _ _ last)

emit_asks : Asks emit_built
emit_asks words e =
    let rows = rows_after emit_built.rules [] words in
    let good = level_holds IsGood joins emit_built [] words false emit_leaves e in
    let all = given emit_built words e in
    emit_rows rows good (first_part (is_given (codes "model") rows) _ all)

app_asks : (a : App) (words : List Text) → Every Asks a.subs → a.top.subcommand_required ≡ true → built_takes a nothing_held words ≡ true
    → is_some (option_and_then (λ p. request_in p.0 p.1) (entered a (stop_after a.top.rules (names_of a) words))) ≡ true
app_asks a words asks wanted e =
    let stop = stop_after a.top.rules (names_of a) words in
    let level = second_part (entered_passes a stop) _ e in
    let end = (walk a.top.rules (names_of a) nothing_held words).held in
    let settle = second_part (walk_passes a.top (names_of a) (walk_from nothing_held) words) _ level in
    let valid = second_part (list_all default_passes a.top.rules) _ (second_part (settle_passes a.top.rules a.top.args_override_self end) _ settle) in
    let subcommand = first_part (not a.top.subcommand_required || is_some (entered a stop)) _ (second_part _ _ valid) in
    in_sub stop (rw wanted at subcommand) (first_part (entered_passes a stop) _ e)
  where
    in_found : (p : Text × List Text) (o : Option Shape) → ((s : Shape) → o ≡ Some s → Asks s) → is_some (option_map (λ s. rows_at s p.1) o) ≡ true
        → option_map_or (λ s. level_passes s [] nothing_held p.1 false) o true ≡ true
        → is_some (option_and_then (λ q. request_in q.0 q.1) (option_map (λ s. rows_at s p.1) o)) ≡ true
    in_found p None asks some passes = some
    in_found p (Some s) asks some passes = asks s refl p.1 passes

    in_sub : (stop : Option (Text × List Text)) → is_some (entered a stop) ≡ true → entered_passes a stop ≡ true
        → is_some (option_and_then (λ q. request_in q.0 q.1) (entered a stop)) ≡ true
    in_sub None some passes = some
    in_sub (Some p) some passes =
        in_found p (find (λ s. answers_to p.0 (label_of s)) a.subs) (λ s is. every_found Asks _ a.subs s asks is) some passes

-- where clap takes the words, they ask for something
pub taken_asks : (words : List Text) → takes workbench_app words ≡ true → is_some (request_of words) ≡ true
unfolding request_of workbench_app
taken_asks words e =
    rw e (app_asks (built workbench_app) (argument_words workbench_app words) (check_asks, (simulate_asks, (simulate_rtl_asks, (replay_asks, (simulate_both_asks, (emit_asks, tt)))))) refl (second_part (is_simple workbench_app) _ e))
