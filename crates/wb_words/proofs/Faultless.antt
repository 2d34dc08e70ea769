-- Where no step of a parse fails, the words are taken.
use Rattle.std.proofs.Common.{◌≡◌, ◌∙◌, ◌&&◌, ◌||◌, ℕ, Bool, cond, true, false, not, zero, suc, refl, sym, ap, arith, List, [], ◌∷◌, length, drop, Option, Some, None, is_some, true≢false, nat_lt}
use Rattle.std.specs.Prelude.{◌==◌, nat_le, codes, encode_utf8, slice_get, find}
use Rattle.std.specs.List.{list_all, list_any}
use Rattle.std.specs.Option.{option_map_or}
use Rattle.std.specs.Str.{bytes_eq, chars}
use Rattle.std.proofs.lemmas.Bool.{eqb-true, le-leb, ltb-false}
use Rattle.clap.specs.Lexer.{long_of, short_of}
use Rattle.clap.specs.ValueTests.{accepts}
use Rattle.clap.specs.Facts.{explicit_source, parser_of_value, unwrap_or_range}
use Rattle.clap.specs.Kinds.{Kinds, or_else, range_kinds, value_kinds}
use Rattle.clap.specs.Walk.{Held, Names, Row, Rule, Step, Text, Waiting, Walk, action_of, answers_to, arg_by_id, arg_by_index, arg_by_long, arg_by_short, attached_value, finished, has_row, is_pending, most_values, next, nothing_held, reacted, settled, subcommand, subcommand_met, takes_several, takes_values, trailing, value, values_or_missing, walk, walk_from, walked, word_met}
use Rattle.clap.specs.Simple.{App, Shape, argument_words, built, entered, is_simple, label_of, names_of}
use Rattle.clap.specs.Takes.{action_passes, built_takes, bundle_passes, bundle_step_passes, count_passes, default_passes, entered_passes, flag_word_passes, flags_pass, is_given, is_valid, level_passes, long_passes, option_passes, other_passes, positional_passes, react_passes, set_passes, settle_passes, short_passes, step_passes, takes, turn_passes, use_passes, value_passes, values_pass, walk_passes, word_passes}
use Rattle.clap.specs.Faults.{action_fault, built_fault, bundle_fault, bundle_step_fault, check_fault, count_fault, entered_fault, fault_of, flag_word_fault, flags_fault, level_fault, long_fault, option_fault, other_fault, positional_fault, react_fault, repeat_fault, set_fault, settle_fault, short_fault, step_fault, stray_fault, turn_fault, use_fault, values_fault, walk_fault, word_fault}
use Rattle.clap.specs.declared.builder.action.ArgAction.{ArgAction}
use Rattle.clap.specs.declared.builder.action.ArgAction.TheVariants as action
use Rattle.clap.specs.declared.error.kind.ErrorKind.{ErrorKind}
use Rattle.wb_words.proofs.Filled.{first_part, second_part}

-- ---- lists of kinds that are empty

abbrev has_any : Kinds → Bool
has_any [] = false
has_any (k ∷ ks) = true

filled : (k : ErrorKind) (ks : Kinds) → k ∷ ks ≡ [] → ⊥
filled k ks e = true≢false (ap has_any e)

both_empty : (a b : Kinds) → or_else a b ≡ [] → (a ≡ []) × (b ≡ [])
both_empty [] b e = (refl, e)
both_empty (k ∷ ks) b e = absurd (filled k ks e)

-- a test that does not fail, and what is left
skipped : (b : Bool) (k : ErrorKind) (ks rest : Kinds) → cond b (k ∷ ks) rest ≡ [] → (b ≡ false) × (rest ≡ [])
skipped true k ks rest e = absurd (filled k ks e)
skipped false k ks rest e = (refl, e)

-- a test that passes
passed : (b : Bool) (k : ErrorKind) (ks : Kinds) → cond b [] (k ∷ ks) ≡ [] → b ≡ true
passed true k ks e = refl
passed false k ks e = absurd (filled k ks e)

unless : (x again : Bool) (k : ErrorKind) (ks : Kinds) → cond (x && not again) (k ∷ ks) [] ≡ [] → (not x || again) ≡ true
unless true true k ks e = refl
unless true false k ks e = absurd (filled k ks e)
unless false again k ks e = refl

together : (a b : Bool) → a ≡ true → b ≡ true → (a && b) ≡ true
together true b e f = f
together false b e f = absurd (true≢false (sym e))

option_fits : {X : Type 0} (f : X → Kinds) (g : X → Bool) → ((x : X) → f x ≡ [] → g x ≡ true) → (o : Option X)
    → option_map_or f o [] ≡ [] → option_map_or g o true ≡ true
option_fits f g fits None e = refl
option_fits f g fits (Some x) e = fits x e

-- ---- one use of an argument

value_fits : (a : Rule) (t : Text) → value_kinds a.ignore_case (parser_of_value a.parser) t ≡ [] → value_passes a t ≡ true
value_fits a t e = passed (accepts a.ignore_case (parser_of_value a.parser) t) _ _ e

values_fit : (a : Rule) (vs : List Text) → values_fault a vs ≡ [] → values_pass a vs ≡ true
values_fit a [] e = refl
values_fit a (v ∷ vs) e =
    let p = both_empty (value_kinds a.ignore_case (parser_of_value a.parser) v) _ e in
    together _ _ (value_fits a v p.0) (values_fit a vs p.1)

count_fits : (a : Rule) (vs : List Text) (rows : List Row) → count_fault a vs rows ≡ [] → count_passes a vs rows ≡ true
count_fits a [] rows e = value_fits a _ e
count_fits a (v ∷ vs) rows e = values_fit a (v ∷ vs) e

set_fits : (again : Bool) (a : Rule) (vs : List Text) (rows : List Row) → set_fault again a vs rows ≡ [] → set_passes again a vs rows ≡ true
set_fits again a vs rows e =
    let p = both_empty (repeat_fault again a.id rows) _ e in
    together _ _ (unless (has_row a.id rows) again _ _ p.0) (values_fit a vs p.1)

action_fits : (x : ArgAction) (again : Bool) (a : Rule) (vs : List Text) (rows : List Row) → action_fault x again a vs rows ≡ [] → action_passes x again a vs rows ≡ true
action_fits action.Set again a vs rows e = set_fits again a vs rows e
action_fits action.SetTrue again a vs rows e = set_fits again a vs rows e
action_fits action.SetFalse again a vs rows e = set_fits again a vs rows e
action_fits action.Append again a vs rows e = values_fit a vs e
action_fits action.Count again a vs rows e = count_fits a vs rows e
action_fits action.Help again a vs rows e = absurd (filled _ _ e)
action_fits action.HelpShort again a vs rows e = absurd (filled _ _ e)
action_fits action.HelpLong again a vs rows e = absurd (filled _ _ e)
action_fits action.Version again a vs rows e = absurd (filled _ _ e)

not_above : (n m : ℕ) → nat_lt n m ≡ false → nat_le m n ≡ true
not_above n m e = le-leb m n (ltb-false n m e)

range_step : (b : Bool) (least most n : ℕ) (k l m : ErrorKind) → (least == most) ≡ b
    → cond b (cond (least == n) [] (k ∷ [])) (cond (nat_lt n least) (l ∷ []) (cond (nat_lt most n) (m ∷ []) [])) ≡ [] → (nat_le least n ≡ true) × (nat_le n most ≡ true)
range_step true least most n k l m same e =
    let here : least ≡ n = eqb-true _ _ (passed (least == n) _ _ e) in
    let top : least ≡ most = eqb-true _ _ same in
    (le-leb least n (omega arith), le-leb n most (omega arith))
range_step false least most n k l m same e =
    let p = skipped (nat_lt n least) _ _ _ e in
    let q = skipped (nat_lt most n) _ _ _ p.1 in
    (not_above n least p.0, not_above most n q.0)

range_fits : (least most n : ℕ) → range_kinds least most n ≡ [] → (nat_le least n ≡ true) × (nat_le n most ≡ true)
range_fits least most n e = range_step (least == most) least most n _ _ _ refl (skipped (nat_lt 0 least && n == 0) _ _ _ e).1

use_fits : (again : Bool) (a : Rule) (vs : List Text) (rows : List Row) → use_fault again a vs rows ≡ [] → use_passes again a vs rows ≡ true
use_fits again a vs rows e =
    let p = both_empty (range_kinds (unwrap_or_range a.range).start_inclusive (most_values a) (length vs)) _ e in
    let r = range_fits (unwrap_or_range a.range).start_inclusive (most_values a) (length vs) p.0 in
    together _ _ r.0 (together _ _ r.1 (action_fits (action_of a) again a (values_or_missing a vs) rows p.1))

-- ---- one word

module _ (c : List Rule) (again : Bool) where
  settle_fits : (h : Held) → settle_fault c again h ≡ [] → settle_passes c again h ≡ true
  settle_fits h = option_fits
      (λ p. option_map_or (λ a. use_fault again a p.1 h.rows) (arg_by_id c p.0) [])
      (λ p. option_map_or (λ a. use_passes again a p.1 h.rows) (arg_by_id c p.0) true)
      (λ p. option_fits (λ a. use_fault again a p.1 h.rows) (λ a. use_passes again a p.1 h.rows) (λ a. use_fits again a p.1 h.rows) (arg_by_id c p.0))
      h.pending

  react_fits : (a : Rule) (vs : List Text) (h : Held) → react_fault c again a vs h ≡ [] → react_passes c again a vs h ≡ true
  react_fits a vs h e =
      let p = both_empty (settle_fault c again h) _ e in
      together _ _ (settle_fits h p.0) (use_fits again a vs (settled c h).rows p.1)

  value_option_fits : (a : Rule) (v : Option Text) (h : Held) → option_fault c again a v h ≡ [] → option_passes c again a v h ≡ true
  value_option_fits a (Some v) h e = react_fits a (v ∷ []) h e
  value_option_fits a None h e = settle_fits h e

  long_fits : (found : Option Rule) (v : Option Text) (h : Held) → long_fault c again found v h ≡ [] → long_passes c again found v h ≡ true
  long_fits None v h e = absurd (filled _ _ e)
  long_fits (Some a) v h e = go (takes_values a) _ e
    where
      go : (b : Bool) (k : ErrorKind) → cond b (option_fault c again a v h) (cond (is_some v) (k ∷ []) (react_fault c again a [] h)) ≡ []
          → cond b (option_passes c again a v h) (not (is_some v) && react_passes c again a [] h) ≡ true
      go true k f = value_option_fits a v h f
      go false k f =
          let p = skipped (is_some v) _ _ _ f in
          together _ _ (ap not p.0) (react_fits a [] h p.1)

  short_fits : (found : Option Rule) (rest : Text) (h : Held) (f : Held → Kinds) (g : Held → Bool) → ((x : Held) → f x ≡ [] → g x ≡ true)
      → short_fault c again found rest h f ≡ [] → short_passes c again found rest h g ≡ true
  short_fits None rest h f g fits e = absurd (filled _ _ e)
  short_fits (Some a) rest h f g fits e = go (takes_values a) e
    where
      go : (b : Bool) → cond b (option_fault c again a (attached_value rest) h) (or_else (react_fault c again a [] h) (f (reacted c a [] h))) ≡ []
          → cond b (option_passes c again a (attached_value rest) h) (react_passes c again a [] h && g (reacted c a [] h)) ≡ true
      go true i = value_option_fits a (attached_value rest) h i
      go false i =
          let p = both_empty (react_fault c again a [] h) _ i in
          together _ _ (react_fits a [] h p.0) (fits (reacted c a [] h) p.1)

  bundle_step_fits : (o : Option ℕ) (flags : Text) (skip : ℕ) (h : Held) (f : Text → ℕ → Held → Kinds) (g : Text → ℕ → Held → Bool)
      → ((t : Text) (k : ℕ) (x : Held) → f t k x ≡ [] → g t k x ≡ true)
      → bundle_step_fault c again o flags skip h f ≡ [] → bundle_step_passes c again o flags skip h g ≡ true
  bundle_step_fits None flags skip h f g fits e = refl
  bundle_step_fits (Some x) flags zero h f g fits e =
      let rest = drop (length (encode_utf8 x)) flags in
      short_fits (arg_by_short c x) rest h (f rest 0) (g rest 0) (fits rest 0) e
  bundle_step_fits (Some x) flags (suc skip) h f g fits e = fits (drop (length (encode_utf8 x)) flags) skip h e

  flags_fit : (k : ℕ) (flags : Text) (skip : ℕ) (h : Held) → flags_fault c again k flags skip h ≡ [] → flags_pass c again k flags skip h ≡ true
  unfolding flags_fault flags_pass
  flags_fit zero flags skip h e = refl
  flags_fit (suc k) flags skip h e = bundle_step_fits (slice_get (chars flags) 0) flags skip h (flags_fault c again k) (flags_pass c again k) (flags_fit k) e

  flag_word_fits : (p : Option (Text × Option Text)) (word : Text) (h : Held) → flag_word_fault c again p word h ≡ [] → flag_word_passes c again p word h ≡ true
  flag_word_fits (Some p) word h e = long_fits (arg_by_long c p.0) p.1 h e
  flag_word_fits None word h e = option_fits (λ flags. bundle_fault c again flags h) (λ flags. bundle_passes c again flags h)
      (λ flags. flags_fit (length flags) flags h.skip (record h { skip = 0 })) (short_of word) e

  positional_fits : (a : Rule) (h : Held) → positional_fault c again a h ≡ [] → positional_passes c again a h ≡ true
  positional_fits a h e = go (is_pending a h.pending && takes_several a) e
    where
      go : (b : Bool) → cond b [] (settle_fault c again h) ≡ [] → (b || settle_passes c again h) ≡ true
      go true f = refl
      go false f = settle_fits h f

-- ---- the walk

module _ (s : Shape) (names : Names) where
  other_fits : (met : Option Text) (word : Text) (h : Held) → other_fault s met word h ≡ [] → other_passes s met word h ≡ true
  other_fits (Some name) word h e = unless (bytes_eq name (codes "help")) s.disable_help_subcommand _ _ e
  other_fits None word h e = go (bytes_eq word (45 ∷ 45 ∷ [])) e
    where
      go : (b : Bool) → cond b [] (flag_word_fault s.rules s.args_override_self (long_of word) word h) ≡ []
          → (b || flag_word_passes s.rules s.args_override_self (long_of word) word h) ≡ true
      go true f = refl
      go false f = flag_word_fits s.rules s.args_override_self (long_of word) word h f

  word_fits : (is_trailing : Bool) (waiting : Waiting) (word : Text) (h : Held) → word_fault s names is_trailing waiting word h ≡ [] → word_passes s names is_trailing waiting word h ≡ true
  word_fits true waiting word h e = refl
  word_fits false waiting word h e = other_fits (subcommand_met names waiting word) word h e

  stray : (b : Bool) (k l : ErrorKind) → cond b (k ∷ []) (k ∷ l ∷ []) ≡ [] → ⊥
  stray true k l e = filled _ _ e
  stray false k l e = filled _ _ e

  step_fits : (position : ℕ) (h : Held) (step : Step) → step_fault s position h step ≡ [] → step_passes s position h step ≡ true
  step_fits position h value e = go (arg_by_index s.rules position) e
    where
      go : (o : Option Rule) → option_map_or (λ a. positional_fault s.rules s.args_override_self a h) o (stray_fault s) ≡ []
          → option_map_or (λ a. positional_passes s.rules s.args_override_self a h) o false ≡ true
      go None f = absurd (stray s.is_leaf _ _ f)
      go (Some a) f = positional_fits s.rules s.args_override_self a h f
  step_fits position h (next waiting) e = refl
  step_fits position h (trailing p) e = refl
  step_fits position h (subcommand name) e = refl

  turn_step : (b is_trailing : Bool) (waiting : Waiting) (position : ℕ) (word : Text) (h : Held) (met : Held × Step)
      → cond b [] (or_else (word_fault s names is_trailing waiting word h) (step_fault s position met.0 met.1)) ≡ []
      → (b || (word_passes s names is_trailing waiting word h && step_passes s position met.0 met.1)) ≡ true
  turn_step true is_trailing waiting position word h met e = refl
  turn_step false is_trailing waiting position word h met e =
      let p = both_empty (word_fault s names is_trailing waiting word h) _ e in
      together _ _ (word_fits is_trailing waiting word h p.0) (step_fits position met.0 met.1 p.1)

  turn_fits : (w : Walk) (word : Text) → turn_fault s names w word ≡ [] → turn_passes s names w word ≡ true
  turn_fits w word e =
      turn_step (is_some w.stopped) w.is_trailing w.waiting w.position word w.held (word_met s.rules names w.is_trailing w.waiting w.position word w.held) e

  walk_fits : (w : Walk) (words : List Text) → walk_fault s names w words ≡ [] → walk_passes s names w words ≡ true
  unfolding walk_fault walk_passes
  walk_fits w [] e = refl
  walk_fits w (word ∷ rest) e =
      let p = both_empty (turn_fault s names w word) _ e in
      together _ _ (turn_fits w word p.0) (walk_fits (walked s.rules names w word) rest p.1)

-- ---- after the walk

lacks_none : (p q : Rule → Bool) (xs : List Rule) → list_any (λ a. p a && not (q a)) xs ≡ false → list_all (λ a. not (p a) || q a) xs ≡ true
lacks_none p q [] e = refl
lacks_none p q (x ∷ xs) e = go (p x) (q x) (lacks_none p q xs) e
  where
    go : (a b : Bool) → (list_any (λ y. p y && not (q y)) xs ≡ false → list_all (λ y. not (p y) || q y) xs ≡ true) → ((a && not b) || list_any (λ y. p y && not (q y)) xs) ≡ false → ((not a || b) && list_all (λ y. not (p y) || q y) xs) ≡ true
    go true true rest f = rest f
    go true false rest f = absurd (true≢false f)
    go false b rest f = rest f

help_test : (wants has any : Bool) → (not has && (wants && not any)) ≡ false → (not wants || (has || any)) ≡ true
help_test true true any e = refl
help_test true false true e = refl
help_test true false false e = absurd (true≢false e)
help_test false has any e = refl

subcommand_test : (wants has : Bool) → (not has && wants) ≡ false → (not wants || has) ≡ true
subcommand_test true true e = refl
subcommand_test true false e = absurd (true≢false e)
subcommand_test false has e = refl

required_test : (b x y : Bool) → (x ≡ false → y ≡ true) → (not b && x) ≡ false → (b || y) ≡ true
required_test true x y go e = refl
required_test false x y go e = go e

check_fits : (s : Shape) (rows : List Row) (has : Bool) → list_all (λ a. a.is_free) s.rules ≡ true → check_fault s rows has ≡ [] → is_valid s rows has ≡ true
check_fits s rows has free e =
    let any = list_any (λ (r : Row). explicit_source r.source) rows in
    let p = skipped (not has && (s.arg_required_else_help && not any)) _ _ _ e in
    let q = skipped (not has && s.subcommand_required) _ _ _ p.1 in
    let r = skipped (not (s.subcommand_negates_reqs && has) && list_any (λ a. a.required && not (is_given a.id rows)) s.rules) _ _ _ q.1 in
    together _ _ (help_test s.arg_required_else_help has any p.0)
    (together _ _ (subcommand_test s.subcommand_required has q.0)
    (together _ _ free
    (required_test (s.subcommand_negates_reqs && has) _ _ (lacks_none (λ a. a.required) (λ a. is_given a.id rows) s.rules) r.0)))

-- the values of the defaults pass, and no argument has a rule on another
abbrev pub is_sound : Shape → Bool
is_sound s = list_all default_passes s.rules && list_all (λ a. a.is_free) s.rules

level_fits : (s : Shape) (names : Names) (h : Held) (words : List Text) (has : Bool) (below : Kinds) → is_sound s ≡ true → level_fault s names h words has below ≡ []
    → (below ≡ []) × (level_passes s names h words has ≡ true)
level_fits s names h words has below sound e =
    let end = (walk s.rules names h words).held in
    let p = both_empty (walk_fault s names (walk_from h) words) _ e in
    let q = both_empty below _ p.1 in
    let r = both_empty (settle_fault s.rules s.args_override_self end) _ q.1 in
    let t = both_empty _ (check_fault s (finished s.rules end) has) r.1 in (
      q.0,
      together _ _ (walk_fits s names (walk_from h) words p.0)
          (together _ _ (settle_fits s.rules s.args_override_self end r.0)
          (together _ _ (first_part (list_all default_passes s.rules) _ sound) (check_fits s (finished s.rules end) has (second_part (list_all default_passes s.rules) _ sound) t.1))),
    )

found_sound : (p : Shape → Bool) (xs : List Shape) (s : Shape) → list_all is_sound xs ≡ true → find p xs ≡ Some s → is_sound s ≡ true
found_sound p [] s all e = absurd (true≢false (sym (ap is_some e)))
found_sound p (x ∷ xs) s all e = go (p x) (found_sound p xs s (second_part (is_sound x) _ all)) e
  where
    go : (b : Bool) → (find p xs ≡ Some s → is_sound s ≡ true) → cond b (Some x) (find p xs) ≡ Some s → is_sound s ≡ true
    go true rest f = ap (λ o. option_map_or is_sound o true) (sym f) ∙ first_part (is_sound x) _ all
    go false rest f = rest f

entered_fits : (a : App) (stop : Option (Text × List Text)) → list_all is_sound a.subs ≡ true → entered_fault a stop ≡ [] → entered_passes a stop ≡ true
entered_fits a None all e = refl
entered_fits a (Some p) all e = go (find (λ s. answers_to p.0 (label_of s)) a.subs) refl e
  where
    go : (o : Option Shape) → find (λ s. answers_to p.0 (label_of s)) a.subs ≡ o
        → option_map_or (λ s. level_fault s [] nothing_held p.1 false []) o [] ≡ [] → option_map_or (λ s. level_passes s [] nothing_held p.1 false) o true ≡ true
    go None is f = refl
    go (Some s) is f = (level_fits s [] nothing_held p.1 false [] (found_sound _ a.subs s all is) f).1

built_fits : (a : App) (h : Held) (words : List Text) → is_sound a.top ≡ true → list_all is_sound a.subs ≡ true → built_fault a h words ≡ [] → built_takes a h words ≡ true
built_fits a h words top subs e =
    let stop = (walk a.top.rules (names_of a) h words).stopped in
    let p = level_fits a.top (names_of a) h words (is_some (entered a stop)) (entered_fault a stop) top e in
    together _ _ (entered_fits a stop subs p.0) p.1

-- a simple command takes the words at which no step fails
pub taken_without_fault : (a : App) (words : List Text) → is_simple a ≡ true → is_sound (built a).top ≡ true → list_all is_sound (built a).subs ≡ true
    → fault_of a words ≡ [] → takes a words ≡ true
taken_without_fault a words simple top subs e = together _ _ simple (built_fits (built a) nothing_held (argument_words a words) top subs e)
