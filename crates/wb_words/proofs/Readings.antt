-- What the getters of the matches give, by their rows.
use Rattle.std.proofs.Common.{◌≡◌, ◌∙◌, ◌<◌, ◌≤◌, ◌^◌, ◌&&◌, ℕ, Bool, cond, true, false, refl, sym, ap, subst, nat_lt, lt-ltb, List, [], ◌∷◌, Option, Some, None, Result, Ok, Err, map, length, arith, true≢false, ◌==◌}
use Rattle.std.specs.Prelude.{nat_le, option_and_then, option_map, codes}
use Rattle.std.specs.Borrow.{Bor}
use Rattle.std.specs.Global.{Global}
use Rattle.std.specs.Prelude.{Vec}
use Rattle.std.proofs.lemmas.Bool.{eqb-true, le-leb, leb-true}
use Rattle.std.specs.List.{list_all}
use Rattle.std.specs.Char.{digit_value}
use Rattle.std.specs.Str.Parse.{AllDigits, IsNumeral, ParsesUnsigned, digits_value, without_leading_plus}
use Rattle.clap.specs.Matches.{ReadsOne, matched_of, one_text, raw_values}
use Rattle.clap.specs.ValueTests.{is_numeral, is_unsigned_in}
use Rattle.clap.specs.Walk.{Row, Text, all_of, first_of, one_of, rows_of}
use Rattle.clap.specs.declared.parser.matches.Found.{Found}
use Rattle.clap.proofs.WalkLemmas.{one_text-rows, raw_values-rows}
use Rattle.clap.specs.declared.builder.value_parser.ValueParser.TheVariants as vp
use Rattle.clap.proofs.ValueTestLemmas.{accepts-Accepts}
use Rattle.std.specs.Str.{bytes_eq}
use Rattle.wb_words.specs.Requests.{budget_in, check_of, designs_in, emit_of, is_set, replay_of, request_in, simulate_both_of, simulate_of, simulate_rtl_of}
use Rattle.wb_words.specs.View.{IsAnswer, request_view}
use Rattle.wb_words.specs.declared.requests.Request.{Request}
use Rattle.wb_words.specs.declared.stop.WordsStop.{WordsStop}

all_digits : (ds : List ℕ) → AllDigits 10 ds → list_all (λ d. nat_lt (digit_value d) 10) ds ≡ true
all_digits [] h = refl
all_digits (d ∷ ds) h = rw (lt-ltb (digit_value d) 10 h.0) (all_digits ds h.1)

digits_test : (ds : List ℕ) → IsNumeral 10 ds → is_numeral ds ≡ true
digits_test ds h = rw (lt-ltb _ _ h.0, all_digits ds h.1) refl

-- the number of a budget that `u64` read
abbrev pub within : ℕ → Option ℕ
within n = cond (nat_le 1 n && nat_le n 1000000000) (Some n) None

pub within_yes : (n : ℕ) → 1 ≤ n → n ≤ 1000000000 → Some n ≡ within n
within_yes n low high = rw (le-leb 1 n low, le-leb n 1000000000 high) refl

pub within_low : (n : ℕ) → n < 1 → None ≡ within n
within_low n low =
    let zero : n ≡ 0 = omega arith in
    rw zero refl

pub within_high : (n : ℕ) → 1 ≤ n → 1000000000 < n → None ≡ within n
within_high n low high = go (nat_le n 1000000000) refl
  where
    go : (b : Bool) → nat_le n 1000000000 ≡ b → None ≡ within n
    go true e = absurd (omega (arith, leb-true _ _ e))
    go false e = rw (le-leb 1 n low, e) refl

module _ (E : Type 0) (G : Text → Result ℕ E → Type 0) (only : (t : Text) (x : Result ℕ E) → G t x → ParsesUnsigned 64 10 t x) where
  read_number : (t : Text) (r : Option ℕ) → ReadsOne G t r → option_and_then within r ≡ budget_in t
  read_number t (Some v) h =
      let parsed = only t (Ok v) h in
      let digits : is_numeral (without_leading_plus t) ≡ true = digits_test (without_leading_plus t) parsed.0.0 in
      let low : nat_lt (digits_value 10 (without_leading_plus t)) (2 ^ 64) ≡ true = lt-ltb _ _ parsed.0.1 in
      ap within parsed.1 ∙ rw (digits, low) refl
  read_number t None h = go (is_unsigned_in 1 1000000000 t) refl
    where
      go : (b : Bool) → is_unsigned_in 1 1000000000 t ≡ b → None ≡ cond b (Some (digits_value 10 (without_leading_plus t))) None
      go false e = refl
      go true e =
          let passed = accepts-Accepts false (vp.Unsigned 1 1000000000) t e in
          absurd (only t (Err h.0) h.1 (passed.0, passed.1))

  read_budget : (o : Option Text) (r : Option ℕ) → (o ≡ None → r ≡ None) → ((t : Text) → o ≡ Some t → ReadsOne G t r)
      → option_and_then within r ≡ option_and_then budget_in o
  read_budget None r none some = ap (option_and_then within) (none refl)
  read_budget (Some t) r none some = read_number t r (some t refl)

  -- and so by the rows of what was found
  pub budget_read : (f : Found) (r : Option ℕ) → (one_text f (codes "budget") ≡ None → r ≡ None) → ((t : Text) → one_text f (codes "budget") ≡ Some t → ReadsOne G t r)
      → option_and_then within r ≡ option_and_then budget_in (one_of (codes "budget") (rows_of f))
  budget_read f r none some = read_budget (one_text f (codes "budget")) r none some ∙ ap (option_and_then budget_in) (one_text-rows f (codes "budget"))

module _ (name : Text) (rows : List Row) where
  pub asks_check : (r : Result Request WordsStop) → bytes_eq name (codes "check") ≡ true
      → IsAnswer request_view r (check_of (first_of (codes "model") rows) (first_of (codes "map") rows) (option_and_then budget_in (one_of (codes "budget") rows)) (option_and_then designs_in (all_of (codes "designs") rows)))
      → IsAnswer request_view r (request_in name rows)
  unfolding request_in
  asks_check r is h = rw is h

  pub asks_simulate : (r : Result Request WordsStop) → bytes_eq name (codes "check") ≡ false → bytes_eq name (codes "simulate") ≡ true
      → IsAnswer request_view r (simulate_of (first_of (codes "model") rows) (first_of (codes "script") rows))
      → IsAnswer request_view r (request_in name rows)
  unfolding request_in
  asks_simulate r first is h = rw (first, is) h

  pub asks_simulate_rtl : (r : Result Request WordsStop) → bytes_eq name (codes "check") ≡ false → bytes_eq name (codes "simulate") ≡ false
      → bytes_eq name (codes "simulate-rtl") ≡ true
      → IsAnswer request_view r (simulate_rtl_of (first_of (codes "top") rows) (first_of (codes "clock") rows) (first_of (codes "script") rows) (option_and_then designs_in (all_of (codes "designs") rows)))
      → IsAnswer request_view r (request_in name rows)
  unfolding request_in
  asks_simulate_rtl r first second is h = rw (first, second, is) h

  pub asks_replay : (r : Result Request WordsStop) → bytes_eq name (codes "check") ≡ false → bytes_eq name (codes "simulate") ≡ false
      → bytes_eq name (codes "simulate-rtl") ≡ false → bytes_eq name (codes "replay") ≡ true
      → IsAnswer request_view r (replay_of (first_of (codes "model") rows) (first_of (codes "map") rows) (first_of (codes "trace") rows) (option_and_then designs_in (all_of (codes "designs") rows)))
      → IsAnswer request_view r (request_in name rows)
  unfolding request_in
  asks_replay r first second third is h = rw (first, second, third, is) h

  pub asks_simulate_both : (r : Result Request WordsStop) → bytes_eq name (codes "check") ≡ false → bytes_eq name (codes "simulate") ≡ false
      → bytes_eq name (codes "simulate-rtl") ≡ false → bytes_eq name (codes "replay") ≡ false → bytes_eq name (codes "simulate-both") ≡ true
      → IsAnswer request_view r (simulate_both_of (first_of (codes "model") rows) (first_of (codes "map") rows) (first_of (codes "script") rows) (option_and_then designs_in (all_of (codes "designs") rows)))
      → IsAnswer request_view r (request_in name rows)
  unfolding request_in
  asks_simulate_both r first second third fourth is h = rw (first, second, third, fourth, is) h

  pub asks_emit : (r : Result Request WordsStop) → bytes_eq name (codes "check") ≡ false → bytes_eq name (codes "simulate") ≡ false
      → bytes_eq name (codes "simulate-rtl") ≡ false → bytes_eq name (codes "replay") ≡ false → bytes_eq name (codes "simulate-both") ≡ false
      → bytes_eq name (codes "emit") ≡ true
      → IsAnswer request_view r (emit_of (first_of (codes "model") rows) (is_set (first_of (codes "map-only") rows)))
      → IsAnswer request_view r (request_in name rows)
  unfolding request_in
  asks_emit r first second third fourth fifth is h = rw (first, second, third, fourth, fifth, is) h

  pub asks_nothing : bytes_eq name (codes "check") ≡ false → bytes_eq name (codes "simulate") ≡ false → bytes_eq name (codes "simulate-rtl") ≡ false
      → bytes_eq name (codes "replay") ≡ false → bytes_eq name (codes "simulate-both") ≡ false → bytes_eq name (codes "emit") ≡ false
      → request_in name rows ≡ None
  unfolding request_in
  asks_nothing first second third fourth fifth sixth = rw (first, second, third, fourth, fifth, sixth) refl

-- the designs that the getter gives
module _ (f : Found) (id : Text) (o : Option (Bor (List (Bor Text)))) (got : option_map (λ s. map (λ v. v.now) s.now) o ≡ option_map raw_values (matched_of f id)) where
  pub designs_read : (names : Bor (List (Bor Text))) (r : Result (Vec (Bor Text) Global) WordsStop) → o ≡ Some names
      → IsAnswer (λ ds. map (λ s. s.now) ds.items) r (designs_in (map (λ s. s.now) names.now))
      → IsAnswer (λ ds. map (λ s. s.now) ds.items) r (option_and_then designs_in (all_of id (rows_of f)))
  designs_read names r some h =
      let all : option_map (λ (s : Bor (List (Bor Text))). map (λ (v : Bor Text). v.now) s.now) o ≡ all_of id (rows_of f) = got ∙ raw_values-rows f id in
      let same : Some (map (λ (v : Bor Text). v.now) names.now) ≡ all_of id (rows_of f) = ap (option_map (λ (s : Bor (List (Bor Text))). map (λ (v : Bor Text). v.now) s.now)) (sym some) ∙ all in
      subst (λ d. IsAnswer (λ (ds : Vec (Bor Text) Global). map (λ s. s.now) ds.items) r (option_and_then designs_in d)) same h

  pub designs_missing : o ≡ None → option_and_then designs_in (all_of id (rows_of f)) ≡ None
  designs_missing none =
      ap (option_and_then designs_in) (sym (raw_values-rows f id) ∙ sym got ∙ ap (option_map (λ (s : Bor (List (Bor Text))). map (λ (v : Bor Text). v.now) s.now)) none)

-- a copy of names, where there are some
pub names_copied : (names copy : List (Bor Text)) → (length names == 0) ≡ false → copy ≡ names → designs_in (map (λ s. s.now) names) ≡ Some (map (λ s. s.now) copy)
names_copied [] copy some same = absurd (true≢false some)
names_copied (x ∷ xs) copy some same = ap (λ vs. Some (map (λ (v : Bor Text). v.now) vs)) (sym same)

pub no_names : (names : List (Bor Text)) → (length names == 0) ≡ true → designs_in (map (λ s. s.now) names) ≡ None
no_names [] none = refl
no_names (x ∷ xs) none = absurd (omega (arith, eqb-true _ _ none))
