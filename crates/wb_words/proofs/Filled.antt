-- What the rows of a parse hold, where the words are taken.
use Rattle.std.proofs.Common.{◌≡◌, ◌&&◌, ◌||◌, ℕ, Bool, cond, true, false, not, zero, suc, refl, sym, ap, subst, List, [], ◌∷◌, ◌++◌, length, drop, Option, Some, None, is_some, true≢false}
use Rattle.std.specs.Prelude.{encode_utf8, slice_get, find, fold}
use Rattle.std.specs.Option.{option_map_or, unwrap_or}
use Rattle.std.specs.Str.{bytes_eq, chars}
use Rattle.std.proofs.lemmas.Slice.Eq.{bytes_eq-Decides}
use Rattle.clap.specs.Lexer.{long_of, short_of}
use Rattle.clap.specs.Walk.{Held, Names, Outcome, Row, Rule, Step, Text, Waiting, Walk, action_of, after_flag, after_step, answers_to, arg_by_id, arg_by_index, arg_by_long, arg_by_short, at_row, attached_value, bundle, bundle_met, bundle_step, default_rows, done, finished, has_row, idle, is_empty, is_pending, long_met, long_or_other, more_values, next, nothing_held, option, option_met, option_word, plain, plain_word, positional, positional_held, reacted, reading_by, refused, rows_after, settled, settled_rows, short_met, short_or_plain, subcommand, subcommand_met, subcommand_or_other, takes_several, takes_values, to_positional, trailing, used, used_as, value, values_or_missing, waits, walk, walk_from, walked, walked_from, with_default, with_values, without, word_met}
use Rattle.clap.specs.Simple.{Shape}
use Rattle.clap.specs.Takes.{bundle_passes, bundle_step_passes, flag_word_passes, flags_pass, level_passes, long_passes, option_passes, other_passes, positional_passes, react_passes, settle_passes, short_passes, step_passes, turn_passes, use_passes, walk_passes, word_passes}
use Rattle.clap.specs.declared.builder.action.ArgAction.{ArgAction}
use Rattle.clap.specs.declared.builder.action.ArgAction.TheVariants as action
use Rattle.clap.specs.declared.builder.value_parser.Reading.{Reading}
use Rattle.clap.specs.declared.parser.matches.ValueSource.{ValueSource}
use Rattle.clap.specs.declared.parser.matches.ValueSource.TheVariants.{CommandLine, DefaultValue}

pub first_part : (a b : Bool) → (a && b) ≡ true → a ≡ true
first_part true b e = refl
first_part false b e = absurd (true≢false (sym e))

pub second_part : (a b : Bool) → (a && b) ≡ true → b ≡ true
second_part true b e = e
second_part false b e = absurd (true≢false (sym e))

-- what holds of each element
abbrev pub Every : {X : Type 0} → (X → Type 0) → List X → Type 0
Every Q [] = Unit {0}
Every Q (x ∷ xs) = Q x × Every Q xs

pub every_found : {X : Type 0} (Q : X → Type 0) (p : X → Bool) (xs : List X) (x : X) → Every Q xs → find p xs ≡ Some x → Q x
every_found Q p [] x all e = absurd (true≢false (sym (ap is_some e)))
every_found Q p (y ∷ ys) x all e = go (p y) (every_found Q p ys x all.1) e
  where
    go : (b : Bool) → (find p ys ≡ Some x → Q x) → cond b (Some y) (find p ys) ≡ Some x → Q x
    go true rest f = subst Q (ap (λ o. unwrap_or o y) f) all.0
    go false rest f = rest f

every_append : {X : Type 0} (Q : X → Type 0) (xs ys : List X) → Every Q xs → Every Q ys → Every Q (xs ++ ys)
every_append Q [] ys a b = b
every_append Q (x ∷ xs) ys a b = (a.0, every_append Q xs ys a.1 b)

abbrev pub is_count : ArgAction → Bool
is_count action.Count = true
is_count _ = false

-- P holds of the id, the reading and the values of a row
module _ (P : Text → Reading → List Text → Type 0) where
  abbrev pub Holds : Row → Type 0
  Holds r = P r.id r.reading r.values

  -- more values of one id may join those that it has
  abbrev pub Joins : Type 0
  Joins = (id : Text) (how other : Reading) (xs ys : List Text) → P id how xs → P id other ys → P id how (xs ++ ys)

  -- P holds of what a use of the argument leaves that passes, and of its default
  pub record Leaves (again : Bool) (a : Rule) : Type 0 where
    pub counts : is_count (action_of a) ≡ false
    pub uses : (vs : List Text) (rows : List Row) → use_passes again a vs rows ≡ true → P a.id (reading_by a) (values_or_missing a vs)
    pub default : (v : Text) (vs : List Text) → a.defaults ≡ v ∷ vs → P a.id (reading_by a) (v ∷ vs)

  at_row_holds : (id : Text) (change : Row → List Row) (missing rows : List Row) → ((r : Row) → bytes_eq r.id id ≡ true → Holds r → Every Holds (change r))
      → Every Holds missing → Every Holds rows → Every Holds (at_row id change missing rows)
  at_row_holds id change missing [] changes new all = new
  at_row_holds id change missing (r ∷ rs) changes new all = go (bytes_eq r.id id) refl (at_row_holds id change missing rs changes new all.1)
    where
      go : (b : Bool) → bytes_eq r.id id ≡ b → Every Holds (at_row id change missing rs) → Every Holds (cond b (change r ++ rs) (r ∷ at_row id change missing rs))
      go true e rest = every_append Holds (change r) rs (changes r e all.0) all.1
      go false e rest = (all.0, rest)

  without_holds : (id : Text) (rows : List Row) → Every Holds rows → Every Holds (without id rows)
  without_holds id rows all = at_row_holds id (λ _. []) [] rows (λ r e h. tt) tt all

  module _ (joins : Joins) where
    with_values_holds : (id : Text) (how : Reading) (s : ValueSource) (vs : List Text) (rows : List Row) → P id how vs → Every Holds rows → Every Holds (with_values id how s vs rows)
    with_values_holds id how s vs rows new all = at_row_holds id (more_values s vs) _ rows
        (λ r same h. (joins r.id r.reading how r.values vs h (subst (λ i. P i how vs) (sym ((bytes_eq-Decides r.id id).0 same)) new), tt)) (new, tt) all

    used_as_holds : (x : ArgAction) (id : Text) (how : Reading) (vs : List Text) (rows : List Row) → is_count x ≡ false → P id how vs → Every Holds rows → Every Holds (used_as x id how vs rows)
    used_as_holds action.Set id how vs rows c new all = with_values_holds id how CommandLine vs _ new (without_holds id rows all)
    used_as_holds action.SetTrue id how vs rows c new all = with_values_holds id how CommandLine vs _ new (without_holds id rows all)
    used_as_holds action.SetFalse id how vs rows c new all = with_values_holds id how CommandLine vs _ new (without_holds id rows all)
    used_as_holds action.Append id how vs rows c new all = with_values_holds id how CommandLine vs rows new all
    used_as_holds action.Count id how vs rows c new all = absurd (true≢false c)
    used_as_holds action.Help id how vs rows c new all = all
    used_as_holds action.HelpShort id how vs rows c new all = all
    used_as_holds action.HelpLong id how vs rows c new all = all
    used_as_holds action.Version id how vs rows c new all = all

    module _ (c : List Rule) (again : Bool) (leaves : Every (Leaves again) c) where
      used_holds : (a : Rule) (vs : List Text) (rows : List Row) → Leaves again a → use_passes again a vs rows ≡ true → Every Holds rows → Every Holds (used a vs rows)
      used_holds a vs rows l e all = used_as_holds (action_of a) a.id (reading_by a) (values_or_missing a vs) rows l.counts (l.uses vs rows e) all

      settled_holds : (h : Held) → settle_passes c again h ≡ true → Every Holds h.rows → Every Holds (settled c h).rows
      settled_holds h e all = go h.pending e
        where
          by_id : (vs : List Text) (o : Option Rule) → ((a : Rule) → o ≡ Some a → Leaves again a) → option_map_or (λ a. use_passes again a vs h.rows) o true ≡ true
              → Every Holds (Rattle.clap.specs.Walk.used_by_id o vs h.rows)
          by_id vs None l f = all
          by_id vs (Some a) l f = used_holds a vs h.rows (l a refl) f all

          go : (p : Option (Text × List Text)) → option_map_or (λ q. option_map_or (λ a. use_passes again a q.1 h.rows) (arg_by_id c q.0) true) p true ≡ true
              → Every Holds (settled_rows c p h.rows)
          go None f = all
          go (Some p) f = by_id p.1 (arg_by_id c p.0) (λ a is. every_found (Leaves again) _ c a leaves is) f

      reacted_holds : (a : Rule) (vs : List Text) (h : Held) → Leaves again a → react_passes c again a vs h ≡ true → Every Holds h.rows → Every Holds (reacted c a vs h).rows
      reacted_holds a vs h l e all =
          used_holds a vs (settled c h).rows l (second_part (settle_passes c again h) _ e) (settled_holds h (first_part (settle_passes c again h) _ e) all)

      option_holds : (a : Rule) (v : Option Text) (h : Held) → Leaves again a → option_passes c again a v h ≡ true → Every Holds h.rows → Every Holds (option_met c a v h).0.rows
      option_holds a (Some v) h l e all = reacted_holds a (v ∷ []) h l e all
      option_holds a None h l e all = settled_holds h e all

      long_holds : (found : Option Rule) (v : Option Text) (h : Held) → ((a : Rule) → found ≡ Some a → Leaves again a) → long_passes c again found v h ≡ true
          → Every Holds h.rows → Every Holds (long_met c found v h).0.rows
      long_holds None v h l e all = all
      long_holds (Some a) v h l e all = go (takes_values a) v e
        where
          go : (b : Bool) (v : Option Text) → cond b (option_passes c again a v h) (not (is_some v) && react_passes c again a [] h) ≡ true
              → Every Holds (cond b (option_met c a v h) (Rattle.clap.specs.Walk.flag_met c a v h)).0.rows
          go true v f = option_holds a v h (l a refl) f all
          go false None f = reacted_holds a [] h (l a refl) f all
          go false (Some v) f = all

      short_holds : (found : Option Rule) (rest : Text) (h : Held) (f : Held → Held × Outcome) (g : Held → Bool) → ((a : Rule) → found ≡ Some a → Leaves again a)
          → ((x : Held) → g x ≡ true → Every Holds x.rows → Every Holds (f x).0.rows) → short_passes c again found rest h g ≡ true
          → Every Holds h.rows → Every Holds (short_met c found rest h f).0.rows
      short_holds None rest h f g l holds e all = all
      short_holds (Some a) rest h f g l holds e all = go (takes_values a) e
        where
          go : (b : Bool) → cond b (option_passes c again a (attached_value rest) h) (react_passes c again a [] h && g (reacted c a [] h)) ≡ true
              → Every Holds (cond b (option_met c a (attached_value rest) h) (f (reacted c a [] h))).0.rows
          go true i = option_holds a (attached_value rest) h (l a refl) i all
          go false i = holds (reacted c a [] h) (second_part (react_passes c again a [] h) _ i) (reacted_holds a [] h (l a refl) (first_part (react_passes c again a [] h) _ i) all)

      bundle_step_holds : (o : Option ℕ) (flags : Text) (skip : ℕ) (so_far : Outcome) (h : Held) (f : Text → ℕ → Outcome → Held → Held × Outcome) (g : Text → ℕ → Held → Bool)
          → ((t : Text) (k : ℕ) (r : Outcome) (x : Held) → g t k x ≡ true → Every Holds x.rows → Every Holds (f t k r x).0.rows)
          → bundle_step_passes c again o flags skip h g ≡ true → Every Holds h.rows → Every Holds (bundle_step c o flags skip so_far h f).0.rows
      bundle_step_holds None flags skip so_far h f g holds e all = all
      bundle_step_holds (Some x) flags zero so_far h f g holds e all =
          let rest = drop (length (encode_utf8 x)) flags in
          short_holds (arg_by_short c x) rest h (f rest 0 done) (g rest 0) (λ a is. every_found (Leaves again) _ c a leaves is) (holds rest 0 done) e all
      bundle_step_holds (Some x) flags (suc skip) so_far h f g holds e all = holds (drop (length (encode_utf8 x)) flags) skip so_far h e all

      bundle_holds : (k : ℕ) (flags : Text) (skip : ℕ) (so_far : Outcome) (h : Held) → flags_pass c again k flags skip h ≡ true → Every Holds h.rows
          → Every Holds (bundle_met c k flags skip so_far h).0.rows
      unfolding flags_pass bundle_met
      bundle_holds zero flags skip so_far h e all = all
      bundle_holds (suc k) flags skip so_far h e all =
          bundle_step_holds (slice_get (chars flags) 0) flags skip so_far h (bundle_met c k) (flags_pass c again k) (bundle_holds k) e all

      plain_holds : (waiting : Waiting) (word : Text) (h : Held) → Every Holds h.rows → Every Holds (plain_word c waiting word h).0.rows
      plain_holds idle word h all = all
      plain_holds positional word h all = all
      plain_holds (option id) word h all = go (arg_by_id c id)
        where
          go : (o : Option Rule) → Every Holds (option_word o id word h).0.rows
          go None = all
          go (Some a) = all

      after_flag_holds : (waiting : Waiting) (word : Text) (h : Held) (o : Outcome) → Every Holds h.rows → Every Holds (after_flag c waiting word h o).0.rows
      after_flag_holds waiting word h done all = all
      after_flag_holds waiting word h (waits id) all = all
      after_flag_holds waiting word h plain all = plain_holds waiting word h all
      after_flag_holds waiting word h refused all = plain_holds waiting word h all

      flag_word_holds : (long : Option (Text × Option Text)) (waiting : Waiting) (word : Text) (h : Held) → flag_word_passes c again long word h ≡ true
          → Every Holds h.rows → Every Holds (long_or_other c waiting word long h).0.rows
      flag_word_holds (Some p) waiting word h e all = after_flag_holds waiting word _ _
          (long_holds (arg_by_long c p.0) p.1 h (λ a is. every_found (Leaves again) _ c a leaves is) e all)
      flag_word_holds None waiting word h e all = go (short_of word) e
        where
          go : (o : Option Text) → option_map_or (λ flags. bundle_passes c again flags h) o true ≡ true → Every Holds (short_or_plain c waiting word o h).0.rows
          go None f = plain_holds waiting word h all
          go (Some flags) f = after_flag_holds waiting word _ _ (bundle_holds (length flags) flags h.skip plain (record h { skip = 0 }) f all)

      positional_holds : (a : Rule) (word : Text) (h : Held) → positional_passes c again a h ≡ true → Every Holds h.rows → Every Holds (positional_held c a word h).rows
      positional_holds a word h e all = go (is_pending a h.pending && takes_several a) e
        where
          go : (b : Bool) → (b || settle_passes c again h) ≡ true → Every Holds (cond b h (settled c h)).rows
          go true f = all
          go false f = settled_holds h f all

    module _ (s : Shape) (names : Names) (leaves : Every (Leaves s.args_override_self) s.rules) where
      word_holds : (is_trailing : Bool) (waiting : Waiting) (position : ℕ) (word : Text) (h : Held) → word_passes s names is_trailing waiting word h ≡ true
          → Every Holds h.rows → Every Holds (word_met s.rules names is_trailing waiting position word h).0.rows
      word_holds true waiting position word h e all = all
      word_holds false waiting position word h e all = go (subcommand_met names waiting word) e
        where
          flags : (b : Bool) → (b || flag_word_passes s.rules s.args_override_self (long_of word) word h) ≡ true
              → Every Holds (cond b (h, trailing position) (long_or_other s.rules waiting word (long_of word) h)).0.rows
          flags true f = all
          flags false f = flag_word_holds s.rules s.args_override_self leaves (long_of word) waiting word h f all

          go : (o : Option Text) → other_passes s o word h ≡ true → Every Holds (subcommand_or_other s.rules o waiting position word h).0.rows
          go (Some name) f = all
          go None f = flags (bytes_eq word (45 ∷ 45 ∷ [])) f

      step_holds : (w : Walk) (word : Text) (h : Held) (step : Step) → step_passes s w.position h step ≡ true → Every Holds h.rows → Every Holds (after_step s.rules word w h step).held.rows
      step_holds w word h (next waiting) e all = all
      step_holds w word h (trailing position) e all = all
      step_holds w word h (subcommand name) e all = all
      step_holds w word h value e all = go (arg_by_index s.rules w.position) e
        where
          go : (o : Option Rule) → option_map_or (λ a. positional_passes s.rules s.args_override_self a h) o false ≡ true → Every Holds (to_positional s.rules o word w h).held.rows
          go None f = all
          go (Some a) f = positional_holds s.rules s.args_override_self leaves a word h f all

      turn_holds : (w : Walk) (word : Text) → turn_passes s names w word ≡ true → Every Holds w.held.rows → Every Holds (walked s.rules names w word).held.rows
      unfolding walked
      turn_holds w word e all = go w.stopped e
        where
          go : (o : Option (Text × List Text)) → (is_some o || (word_passes s names w.is_trailing w.waiting word w.held && step_passes s w.position
              (word_met s.rules names w.is_trailing w.waiting w.position word w.held).0 (word_met s.rules names w.is_trailing w.waiting w.position word w.held).1)) ≡ true
              → Every Holds (walked_from s.rules names o w word).held.rows
          go (Some p) f = all
          go None f = step_holds w word _ _ (second_part (word_passes s names w.is_trailing w.waiting word w.held) _ f)
              (word_holds w.is_trailing w.waiting w.position word w.held (first_part (word_passes s names w.is_trailing w.waiting word w.held) _ f) all)

      walk_holds : (w : Walk) (words : List Text) → walk_passes s names w words ≡ true → Every Holds w.held.rows → Every Holds (fold (walked s.rules names) w words).held.rows
      unfolding walk_passes
      walk_holds w [] e all = all
      walk_holds w (word ∷ rest) e all =
          walk_holds (walked s.rules names w word) rest (second_part (turn_passes s names w word) _ e) (turn_holds w word (first_part (turn_passes s names w word) _ e) all)

    default_holds : (again : Bool) (rows : List Row) (a : Rule) → Leaves again a → Every Holds rows → Every Holds (with_default rows a)
    default_holds again rows a l all = go (has_row a.id rows) a.defaults l.default
      where
        go : (b : Bool) (ds : List Text) → ((v : Text) (vs : List Text) → ds ≡ v ∷ vs → P a.id (reading_by a) (v ∷ vs))
            → Every Holds (cond b rows (default_rows a.id (reading_by a) ds rows))
        go true ds d = all
        go false [] d = all
        go false (v ∷ vs) d = with_values_holds a.id (reading_by a) DefaultValue (v ∷ vs) rows (d v vs refl) all

    defaults_hold : (again : Bool) (rows : List Row) (c : List Rule) → Every (Leaves again) c → Every Holds rows → Every Holds (fold with_default rows c)
    defaults_hold again rows [] l all = all
    defaults_hold again rows (a ∷ c) l all = defaults_hold again (with_default rows a) c l.1 (default_holds again rows a l.0 all)

    -- P holds of each row of a level that passes
    pub level_holds : (s : Shape) (names : Names) (words : List Text) (has : Bool) → Every (Leaves s.args_override_self) s.rules
        → level_passes s names nothing_held words has ≡ true → Every Holds (rows_after s.rules names words)
    level_holds s names words has l e =
        let end = (walk s.rules names nothing_held words).held in
        let walked = walk_holds s names l (walk_from nothing_held) words (first_part (walk_passes s names (walk_from nothing_held) words) _ e) tt in
        let rest = second_part (walk_passes s names (walk_from nothing_held) words) _ e in
        defaults_hold s.args_override_self (settled s.rules end).rows s.rules l
        (settled_holds s.rules s.args_override_self l end (first_part (settle_passes s.rules s.args_override_self end) _ rest) walked)
