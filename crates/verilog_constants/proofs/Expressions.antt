-- In two scopes that differ in nets alone an expression breaks the rules on digits and on constants in both or in neither.
use Rattle.std.proofs.Common.{◌≡◌, ℕ, Bool, true, false, cond, not, ◌&&◌, ◌||◌, List, [], ◌∷◌, ◌⊎◌, inl, inr, refl, ap, sym, ◌∙◌, subst, Option, Some, None, pos}
use Rattle.std.specs.Prelude.{ℤ}
use Rattle.wb_values.specs.Value.{Name}
use Rattle.wb_values.specs.Choice.{some_if}
use Rattle.verilog_trees.specs.Syntax.{Expression, number, name, concatenation, replication, as_signed, as_unsigned, unary, reduction, binary, shift, power, comparison, logical, conditional, Expressions, no_expressions, expression, Select, index, part, part_up, part_down, Selects, whole, one, two}
use Rattle.verilog_meaning.specs.Expression.{Object, Scope, is_memory, no_values, sign_of, width_of, integer_of}
use Rattle.verilog_rules.specs.Expression.{Broken, nothing, also, is_unbroken, constant_if, Position, anywhere, constant, by_name, is_below, by_total, is_unsized, divides, number_if, by_itself, as_constant, broken, broken_parts, broken_selects, broken_select, broken_bits, has_width, broken_constant, constant_number}
use Rattle.verilog_designs.specs.Names.{names_in}
use Rattle.verilog_unique.proofs.Descent.{IsAmong}
use Rattle.verilog_exists.proofs.Scopes.{SameIn, same_in, constant_rules, constant_same}
use Rattle.verilog_constants.specs.Alike.{IsNet, AreAlike, AgreeOnConstants, ExpressionsAgree, HaveSameConstants, NumbersAgree}
use Rattle.verilog_constants.proofs.Digits.{either, totals, digits}
use Rattle.verilog_constants.proofs.Nets.{net_breaks}
use Rattle.verilog_constants.proofs.Names.{is_bad, bad_not, name_breaks}

-- ---- judgements that agree

pub agree_same : {a b : Broken} → a ≡ b → AgreeOnConstants a b
agree_same e = record { digits = ap (λ (x : Broken). x.has_xz) e; constants = ap (λ (x : Broken). x.bad_constant) e }

pub agree_both : {a b c d : Broken} → AgreeOnConstants a b → AgreeOnConstants c d → AgreeOnConstants (also a c) (also b d)
agree_both f g = record { digits = either f.digits g.digits; constants = either f.constants g.constants }

pub agree_if : {a b : Bool} → a ≡ b → AgreeOnConstants (constant_if a) (constant_if b)
agree_if e = record { digits = refl; constants = e }

pub agree_totals : (v w : Option ℕ) → AgreeOnConstants (by_total v) (by_total w)
agree_totals v w = record { digits = totals v w; constants = without v w }
  where
    without : (a b : Option ℕ) → (by_total a).bad_constant ≡ (by_total b).bad_constant
    without None None = refl
    without None (Some y) = refl
    without (Some x) None = refl
    without (Some x) (Some y) = refl

-- a name where anything may be read
and_false : (a : Bool) → (a && false) ≡ false
and_false true = refl
and_false false = refl

pub agree_names : (o u : Object) (x y : Selects) → AgreeOnConstants (by_name anywhere o x) (by_name anywhere u y)
agree_names o u x y = record { digits = refl; constants = and_false o.is_declared ∙ sym (and_false u.is_declared) }

-- the bits that a select takes
agree_bits : (s t : Scope) (o u : Object) (x : Select) → AgreeOnConstants (broken_bits s o x) (broken_bits t u x)
agree_bits s t o u (index i) = agree_same refl
agree_bits s t o u (part h l) = record { digits = refl; constants = refl }
agree_bits s t o u (part_up b n) = record { digits = refl; constants = refl }
agree_bits s t o u (part_down b n) = record { digits = refl; constants = refl }

agree_chosen : (a b : Bool) (x y : Broken) → AgreeOnConstants nothing y → AgreeOnConstants x nothing → AgreeOnConstants x y
    → AgreeOnConstants (cond a nothing x) (cond b nothing y)
agree_chosen true true x y f g h = agree_same refl
agree_chosen true false x y f g h = f
agree_chosen false true x y f g h = g
agree_chosen false false x y f g h = h

agree_word_bits : (s t : Scope) (o u : Object) (x : Select)
    → AgreeOnConstants (cond (is_memory o) nothing (broken_bits s o x)) (cond (is_memory u) nothing (broken_bits t u x))
agree_word_bits s t o u x =
    agree_chosen (is_memory o) (is_memory u) (broken_bits s o x) (broken_bits t u x) (none_there t u x) (there_none s o x) (agree_bits s t o u x)
  where
    none_there : (r : Scope) (w : Object) (y : Select) → AgreeOnConstants nothing (broken_bits r w y)
    none_there r w (index i) = agree_same refl
    none_there r w (part h l) = record { digits = refl; constants = refl }
    none_there r w (part_up b n) = record { digits = refl; constants = refl }
    none_there r w (part_down b n) = record { digits = refl; constants = refl }

    there_none : (r : Scope) (w : Object) (y : Select) → AgreeOnConstants (broken_bits r w y) nothing
    there_none r w (index i) = agree_same refl
    there_none r w (part h l) = record { digits = refl; constants = refl }
    there_none r w (part_up b n) = record { digits = refl; constants = refl }
    there_none r w (part_down b n) = record { digits = refl; constants = refl }

-- ---- the names of an expression are the same in both, or one is another kind of name

record HasOther (IsOther : Name → Type 0) (ns : List Name) : Type 0 where
  which : Name
  stands : IsAmong ns which
  other : IsOther which

decided : (s t : Scope) (IsOther : Name → Type 0) → ((n : Name) → (s n ≡ t n) ⊎ IsOther n) → (ns : List Name)
    → ((n : Name) → IsAmong ns n → s n ≡ t n) ⊎ HasOther IsOther ns
decided s t IsOther alike [] = inl (λ n h. absurd h)
decided s t IsOther alike (m ∷ ns) = by_first (alike m) (decided s t IsOther alike ns)
  where
    at_name : s m ≡ t m → ((n : Name) → IsAmong ns n → s n ≡ t n) → (n : Name) → IsAmong (m ∷ ns) n → s n ≡ t n
    at_name e g n (inl i) = subst (λ k. s k ≡ t k) i e
    at_name e g n (inr i) = g n i

    by_first : (s m ≡ t m) ⊎ IsOther m → ((n : Name) → IsAmong ns n → s n ≡ t n) ⊎ HasOther IsOther ns
        → ((n : Name) → IsAmong (m ∷ ns) n → s n ≡ t n) ⊎ HasOther IsOther (m ∷ ns)
    by_first (inl e) (inl f) = inl (at_name e f)
    by_first (inl e) (inr h) = inr (record { which = h.which; stands = inr h.stands; other = h.other })
    by_first (inr k) r = inr (record { which = m; stands = inl refl; other = k })

-- ---- constants

-- A constant in the contexts of two widths and signs, which are the same where its names are.
pub placed_agrees : (s t : Scope) (v w : Option ℕ) (g h : Bool) (e : Expression) → AreAlike s t
    → (((n : Name) → IsAmong (names_in e) n → s n ≡ t n) → constant v g ≡ constant w h)
    → AgreeOnConstants (broken s (constant v g) e) (broken t (constant w h) e)
placed_agrees s t v w g h e alike same = by_names (decided s t (λ n. IsNet (s n) × IsNet (t n)) alike (names_in e))
  where
    by_names : ((n : Name) → IsAmong (names_in e) n → s n ≡ t n) ⊎ HasOther (λ n. IsNet (s n) × IsNet (t n)) (names_in e)
        → AgreeOnConstants (broken s (constant v g) e) (broken t (constant w h) e)
    by_names (inl f) = agree_same ((same_in s t e f).rules (constant v g) ∙ ap (λ p. broken t p e) (same f))
    by_names (inr k) =
        record {
          digits = digits s t (constant v g) (constant w h) e;
          constants = net_breaks s k.which k.other.0 v g e k.stands ∙ sym (net_breaks t k.which k.other.1 w h e k.stands);
        }

-- in the context of its own width and sign
own_same : (s t : Scope) (e : Expression) → SameIn s t e → as_constant s (has_width s e) e ≡ as_constant t (has_width t e) e
own_same s t e h =
    ap (λ b. constant (some_if b (width_of s e)) (sign_of s e)) h.has
    ∙ (ap (λ w. constant (some_if (has_width t e) w) (sign_of s e)) h.width
    ∙ ap (constant (some_if (has_width t e) (width_of t e))) h.sign)

pub constant_agrees : (s t : Scope) (e : Expression) → AreAlike s t → AgreeOnConstants (broken_constant s e) (broken_constant t e)
constant_agrees s t e alike = placed_agrees s t _ _ _ _ e alike (λ f. own_same s t e (same_in s t e f))

pub numbers_agree : NumbersAgree
numbers_agree s t e alike = by_names (decided s t (λ n. ((s n).constant ≡ None) × ((t n).constant ≡ None)) alike (names_in e))
  where
    none : (r : Scope) → is_bad (broken_constant r e) ≡ true → constant_number r e ≡ None
    none r h = ap (λ b. some_if b (integer_of r no_values e)) (bad_not (broken_constant r e) h)

    by_names : ((n : Name) → IsAmong (names_in e) n → s n ≡ t n) ⊎ HasOther (λ n. ((s n).constant ≡ None) × ((t n).constant ≡ None)) (names_in e)
        → constant_number s e ≡ constant_number t e
    by_names (inl f) = constant_same s t e (same_in s t e f)
    by_names (inr k) =
        none s (name_breaks s k.which k.other.0 (some_if (has_width s e) (width_of s e)) (sign_of s e) e k.stands)
        ∙ sym (none t (name_breaks t k.which k.other.1 (some_if (has_width t e) (width_of t e)) (sign_of t e) e k.stands))

-- what is alike has the same constants
pub alike_constants : (s t : Scope) → AreAlike s t → HaveSameConstants s t
alike_constants s t alike n = elim (alike n) as (λ _. (s n ≡ t n) ⊎ (((s n).constant ≡ None) × ((t n).constant ≡ None))) [ inl e ↦ inl e | inr k ↦ inr (k.0.1, k.1.1) ]

-- ---- expressions

-- a place where anything may be read, or where a constant is wanted by itself
pub data IsOrdinary : Position → Type 0 where
  read_anywhere : IsOrdinary anywhere
  wanted_constant : (w : Option ℕ) (g : Bool) → IsOrdinary (constant w g)

module _ (s t : Scope) (alike : AreAlike s t) where
  -- a count, or a width of +: or -:
  pub count_agrees : (e : Expression)
      → AgreeOnConstants (also (constant_if (is_below (pos 1) (constant_number s e))) (broken_constant s e))
      (also (constant_if (is_below (pos 1) (constant_number t e))) (broken_constant t e))
  count_agrees e = agree_both (agree_if (ap (is_below (pos 1)) (numbers_agree s t e (alike_constants s t alike)))) (constant_agrees s t e alike)

  mutual
    pub agrees : (e : Expression) → AgreeOnConstants (broken s anywhere e) (broken t anywhere e)
    agrees (number k) = agree_same refl
    agrees (name n x) = agree_both (agree_names (s n) (t n) x x) (selects_agree anywhere read_anywhere (s n) (t n) x)
    agrees (concatenation es) = agree_both (agree_totals _ _) (parts_agree es)
    agrees (replication k es) = agree_both (count_agrees k) (agree_both (agree_totals _ _) (parts_agree es))
    agrees (as_signed x) = agrees x
    agrees (as_unsigned x) = agrees x
    agrees (unary op x) = agrees x
    agrees (reduction op x) = agrees x
    agrees (binary op x y) = agree_both (agrees x) (agree_both (agree_if {a = divides op && true} refl) (agrees y))
    agrees (shift op x n) = agree_both (agrees x) (agrees n)
    agrees (power x n) = agree_both (agrees x) (agree_both (agree_if {a = true} refl) (agrees n))
    agrees (comparison op x y) = agree_both (agrees x) (agrees y)
    agrees (logical op x y) = agree_both (agrees x) (agrees y)
    agrees (conditional c x y) = agree_both (agree_both (agrees c) (agrees x)) (agrees y)

    parts_agree : (es : Expressions) → AgreeOnConstants (broken_parts s anywhere es) (broken_parts t anywhere es)
    parts_agree no_expressions = agree_same refl
    parts_agree (expression e es) = agree_both (agree_both (agree_if {a = is_unsized e} refl) (agrees e)) (parts_agree es)

    pub selects_agree : (p : Position) → IsOrdinary p → (o u : Object) (x : Selects)
        → AgreeOnConstants (broken_selects s p o x) (broken_selects t p u x)
    selects_agree p h o u whole = agree_same refl
    selects_agree p h o u (one x) = agree_both (select_agrees p h x) (agree_word_bits s t o u x)
    selects_agree p h o u (two x y) = agree_both (select_agrees p h x) (agree_both (select_agrees p h y) (agree_bits s t o u y))

    select_agrees : (p : Position) → IsOrdinary p → (x : Select) → AgreeOnConstants (broken_select s p x) (broken_select t p x)
    select_agrees _ read_anywhere (index i) = agrees i
    select_agrees _ (wanted_constant w g) (index i) = constant_agrees s t i alike
    select_agrees _ read_anywhere (part a b) = agree_both (constant_agrees s t a alike) (constant_agrees s t b alike)
    select_agrees _ (wanted_constant w g) (part a b) = agree_both (constant_agrees s t a alike) (constant_agrees s t b alike)
    select_agrees _ read_anywhere (part_up b n) = agree_both (agrees b) (count_agrees n)
    select_agrees _ (wanted_constant w g) (part_up b n) = agree_both (constant_agrees s t b alike) (count_agrees n)
    select_agrees _ read_anywhere (part_down b n) = agree_both (agrees b) (count_agrees n)
    select_agrees _ (wanted_constant w g) (part_down b n) = agree_both (constant_agrees s t b alike) (count_agrees n)

pub expressions_agree : ExpressionsAgree
expressions_agree s t e alike = agrees s t alike e
