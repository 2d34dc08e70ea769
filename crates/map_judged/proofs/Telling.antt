-- What the code tells of expressions is what is so in the design, where their names are known.
use Rattle.std.proofs.Common.{◌≡◌, ◌∙◌, ℕ, ◌+◌, Bool, true, false, not, refl, ap, sym, subst, List, [], ◌∷◌, ◌++◌, Option, Some, None, ◌==◌}
use Rattle.std.specs.Prelude.{Contains, is_some, IsTrue, ◌↔◌, option_map, cond}
use Rattle.std.specs.List.{list_any}
use Rattle.std.proofs.lemmas.Bool.{true≢false, eqb-true, eqb-false}
use Rattle.std.proofs.lemmas.List.Elements.{Contains-append_left, Contains-append_right}
use Rattle.wb_values.specs.Value.{Name}
use Rattle.wb_values.specs.Choice.{first_of, some_if}
use Rattle.verilog_trees.specs.Syntax.{Expression}
use Rattle.verilog_meaning.specs.Expression.{width_of}
use Rattle.verilog_meaning.specs.Settled.{Design}
use Rattle.verilog_rules.specs.Expression.{has_width, refusal_of}
use Rattle.verilog_rules.specs.Expression as rules
use Rattle.verilog_designs.specs.Names.{names_in}
use Rattle.map_rules.specs.Expressions.{design_scope, NamesClock}
use Rattle.v_syntax.specs.Tree.{tree_of}
use Rattle.v_instances.specs.Texts.{texts}
use Rattle.v_value.specs.Scope.{scope_at}
use Rattle.v_clocks.specs.Views.{sets_of}
use Rattle.map_paths.specs.Tables.{numbers_in}
use Rattle.map_clocks.proofs.Nets.{clocks_are_named}
use Rattle.map_sizes.specs.Kinds.{AgreeOnRules, RulesAreAgreedOn}
use Rattle.map_judged.specs.declared.expression.MapExpression.{MapExpression}
use Rattle.map_judged.specs.declared.flaw.Flaw.{Flaw}
use Rattle.map_judged.specs.declared.flaw.FirstFlaw.{FirstFlaw}
use Rattle.map_judged.specs.declared.known.KnownNames.{KnownNames}
use Rattle.map_judged.specs.Asked.{Asked, asked_of, asked_list, names_asked, AreNamed, code_names}
use Rattle.map_judged.specs.Flaws.{HasFlaw, HasNoFlaw, IsFirstFlaw, IsMismatch, IsFirstMismatch}
use Rattle.map_judged.specs.Known.{AreKnown}
use Rattle.map_judged.specs.Told.{flaw_if, is_clock_in, flaw_of, numbered_flaw, first_flaw_from, differs_by, is_mismatch, first_mismatch_from}
use Rattle.map_judged.proofs.First.{Found, none_left, here, past, told_first}

-- the names that are given are those in the trees
pub named_all : (xs : List MapExpression) → AreNamed xs → code_names xs ≡ names_asked (asked_list xs)
named_all [] h = refl
named_all (x ∷ xs) h = λ i. h.0 i ++ named_all xs h.1 i

-- ---- one expression

-- it has this flaw, or none
abbrev ToldFlaw : Design → Expression → Option Flaw → Type 0
ToldFlaw d e None = HasNoFlaw d e
ToldFlaw d e (Some f) = HasFlaw d e f

-- it has another width than is wanted, or not
abbrev ToldMismatch : Design → Asked → Bool → Type 0
ToldMismatch d y true = IsMismatch d y
ToldMismatch d y false = ¬ IsMismatch d y

abbrev index_of : FirstFlaw → ℕ
index_of f = f.index

abbrev HasFlawHere : Design → Asked → FirstFlaw → Type 0
HasFlawHere d y f = HasFlaw d y.tree f.flaw

abbrev IsFlawless : Design → Asked → Type 0
IsFlawless d y = HasNoFlaw d y.tree

abbrev FlawFound : Design → ℕ → List Asked → Option FirstFlaw → Type 0
FlawFound d i ys o = Found index_of (HasFlawHere d) (IsFlawless d) i ys o

abbrev itself : ℕ → ℕ
itself j = j

abbrev DiffersHere : Design → Asked → ℕ → Type 0
DiffersHere d y j = IsMismatch d y

abbrev DoesNotDiffer : Design → Asked → Type 0
DoesNotDiffer d y = ¬ IsMismatch d y

abbrev MismatchFound : Design → ℕ → List Asked → Option ℕ → Type 0
MismatchFound d i ys o = Found itself (DiffersHere d) (DoesNotDiffer d) i ys o

abbrev IsWithin : List Name → List Name → Type 0
IsWithin ns ms = (n : Name) → Contains ns n → Contains ms n

module _ (law : RulesAreAgreedOn) (d : Design) (names : List Name) (k : KnownNames) (known : AreKnown d names k) where
  module _ (x : MapExpression) (named : texts x.names.items ≡ names_in (tree_of x.tree.now)) (within : IsWithin (names_in (tree_of x.tree.now)) names) where
    same : AgreeOnRules (scope_at k.scope) (design_scope d) (tree_of x.tree.now)
    same = law (scope_at k.scope) (design_scope d) (tree_of x.tree.now) (λ n c. known.means n (within n c))

    clock : IsTrue (list_any (is_clock_in k) (texts x.names.items)) ↔ NamesClock d (tree_of x.tree.now)
    clock =
        subst (λ ns. IsTrue (list_any (is_clock_in k) ns) ↔ NamesClock d (tree_of x.tree.now)) (sym named)
        (clocks_are_named d known.spots (numbers_in k.instances) (sets_of k.nets.items) known.clocks (tree_of x.tree.now))

    flaw_told : ToldFlaw d (tree_of x.tree.now) (flaw_of k x)
    flaw_told = by (refusal_of (scope_at k.scope) (tree_of x.tree.now)) refl (list_any (is_clock_in k) (texts x.names.items)) refl where
      by : (o : Option rules.Kind) → refusal_of (scope_at k.scope) (tree_of x.tree.now) ≡ o → (b : Bool) → list_any (is_clock_in k) (texts x.names.items) ≡ b
          → ToldFlaw d (tree_of x.tree.now) (flaw_if (is_some o) b)
      by (Some r) e b g = ap is_some (sym same.refusal ∙ e)
      by None e true g = (sym same.refusal ∙ e, clock.0 g)
      by None e false g = record { breaks_none = sym same.refusal ∙ e; names_none = λ n. true≢false (sym (clock.1 n) ∙ g) }

    -- and the width
    mismatch_told : ToldMismatch d (asked_of x) (is_mismatch k x)
    mismatch_told = by x.width refl (has_width (scope_at k.scope) (tree_of x.tree.now)) refl where
      differ : (w v : ℕ) → x.width ≡ Some w → has_width (scope_at k.scope) (tree_of x.tree.now) ≡ true → width_of (scope_at k.scope) (tree_of x.tree.now) ≡ v
          → (b : Bool) → (v == w) ≡ b → ToldMismatch d (asked_of x) (not b)
      differ w v a e g true t = λ m.
          let same_width : w ≡ m.width = (let f : Some w ≡ Some m.width = sym a ∙ m.is_wanted in cc) in
          m.differs (sym same.width ∙ (g ∙ (eqb-true v w t ∙ same_width)))
      differ w v a e g false t =
          record {
            width = w;
            is_wanted = a;
            has_one = sym same.has ∙ e;
            differs = λ f. eqb-false v w t (sym g ∙ (same.width ∙ f));
          }

      by : (o : Option ℕ) → x.width ≡ o → (b : Bool) → has_width (scope_at k.scope) (tree_of x.tree.now) ≡ b
          → ToldMismatch d (asked_of x) (differs_by o (some_if b (width_of (scope_at k.scope) (tree_of x.tree.now))))
      by None a b e = λ m. let f : None ≡ Some m.width = sym a ∙ m.is_wanted in cc
      by (Some w) a false e = λ m. true≢false (sym (same.has ∙ m.has_one) ∙ e)
      by (Some w) a true e = differ w (width_of (scope_at k.scope) (tree_of x.tree.now)) a e refl (width_of (scope_at k.scope) (tree_of x.tree.now) == w) refl

  -- ---- all of them

  first_part : (x : MapExpression) (xs : List MapExpression) → IsWithin (names_asked (asked_list (x ∷ xs))) names → IsWithin (names_in (tree_of x.tree.now)) names
  first_part x xs h n c = h n (Contains-append_left (names_in (tree_of x.tree.now)) (names_asked (asked_list xs)) n c)

  rest_part : (x : MapExpression) (xs : List MapExpression) → IsWithin (names_asked (asked_list (x ∷ xs))) names → IsWithin (names_asked (asked_list xs)) names
  rest_part x xs h n c = h n (Contains-append_right (names_in (tree_of x.tree.now)) (names_asked (asked_list xs)) n c)

  flaws_found : (i : ℕ) (xs : List MapExpression) → AreNamed xs → IsWithin (names_asked (asked_list xs)) names → FlawFound d i (asked_list xs) (first_flaw_from k i xs)
  flaws_found i [] h within = none_left index_of (HasFlawHere d) (IsFlawless d) i
  flaws_found i (x ∷ xs) h within = by (flaw_of k x) (flaw_told x h.0 (first_part x xs within)) (flaws_found (i + 1) xs h.1 (rest_part x xs within)) where
    by : (o : Option Flaw) → ToldFlaw d (tree_of x.tree.now) o → FlawFound d (i + 1) (asked_list xs) (first_flaw_from k (i + 1) xs)
        → FlawFound d i (asked_list (x ∷ xs)) (first_of (option_map (numbered_flaw i) o) (first_flaw_from k (i + 1) xs))
    by None told rest = past index_of (HasFlawHere d) (IsFlawless d) i (asked_of x) (asked_list xs) (first_flaw_from k (i + 1) xs) told rest
    by (Some f) told rest = here index_of (HasFlawHere d) (IsFlawless d) i (asked_of x) (asked_list xs) (numbered_flaw i f) refl told

  mismatches_found : (i : ℕ) (xs : List MapExpression) → AreNamed xs → IsWithin (names_asked (asked_list xs)) names
      → MismatchFound d i (asked_list xs) (first_mismatch_from k i xs)
  mismatches_found i [] h within = none_left itself (DiffersHere d) (DoesNotDiffer d) i
  mismatches_found i (x ∷ xs) h within =
      by (is_mismatch k x) (mismatch_told x h.0 (first_part x xs within)) (mismatches_found (i + 1) xs h.1 (rest_part x xs within))
    where
      by : (b : Bool) → ToldMismatch d (asked_of x) b → MismatchFound d (i + 1) (asked_list xs) (first_mismatch_from k (i + 1) xs)
          → MismatchFound d i (asked_list (x ∷ xs)) (cond b (Some i) (first_mismatch_from k (i + 1) xs))
      by false told rest = past itself (DiffersHere d) (DoesNotDiffer d) i (asked_of x) (asked_list xs) (first_mismatch_from k (i + 1) xs) told rest
      by true told rest = here itself (DiffersHere d) (DoesNotDiffer d) i (asked_of x) (asked_list xs) i refl told

-- ---- from the first of them on

pub flaw_is_first : RulesAreAgreedOn → (d : Design) (xs : List MapExpression) (k : KnownNames) → AreKnown d (names_asked (asked_list xs)) k → AreNamed xs
    → IsFirstFlaw d (asked_list xs) (first_flaw_from k 0 xs)
flaw_is_first law d xs k known named = by (first_flaw_from k 0 xs) (flaws_found law d (names_asked (asked_list xs)) k known 0 xs named (λ n c. c)) where
  by : (o : Option FirstFlaw) → FlawFound d 0 (asked_list xs) o → IsFirstFlaw d (asked_list xs) o
  by None f = f
  by (Some r) f = told_first index_of (HasFlawHere d) (IsFlawless d) (asked_list xs) r f

pub mismatch_is_first : RulesAreAgreedOn → (d : Design) (xs : List MapExpression) (k : KnownNames) → AreKnown d (names_asked (asked_list xs)) k → AreNamed xs
    → IsFirstMismatch d (asked_list xs) (first_mismatch_from k 0 xs)
mismatch_is_first law d xs k known named = by (first_mismatch_from k 0 xs) (mismatches_found law d (names_asked (asked_list xs)) k known 0 xs named (λ n c. c)) where
  by : (o : Option ℕ) → MismatchFound d 0 (asked_list xs) o → IsFirstMismatch d (asked_list xs) o
  by None f = f
  by (Some r) f = told_first itself (DiffersHere d) (DoesNotDiffer d) (asked_list xs) r f
