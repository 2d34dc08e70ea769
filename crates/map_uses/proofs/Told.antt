-- What the code tells of one expression, and which one is the first.
use Rattle.std.proofs.Common.{◌≡◌, ◌∙◌, ℕ, zero, suc, ◌<◌, ◌≤◌, ◌+◌, Bool, true, false, refl, ap, sym, subst, List, [], ◌∷◌, length, get_or, Some, None, ◌==◌, arith}
use Rattle.std.specs.Prelude.{◌↔◌, slice_get, Contains, IsTrue}
use Rattle.std.proofs.lemmas.Bool.{false≢true, eqb-true, eqb-false}
use Rattle.std.proofs.lemmas.List.Elements.{Contains-append_left, Contains-append_right}
use Rattle.wb_values.specs.Value.{Name}
use Rattle.verilog_trees.specs.Syntax.{Expression, Source}
use Rattle.verilog_meaning.specs.Expression.{Scope}
use Rattle.verilog_meaning.specs.Hierarchy.{dotted}
use Rattle.verilog_meaning.specs.Settled.{Design}
use Rattle.verilog_designs.specs.Reads.{BitSet, reads}
use Rattle.verilog_designs.specs.Names.{names_in}
use Rattle.verilog_designs.specs.Dependence.{Bit}
use Rattle.verilog_unique.proofs.Reading.{read}
use Rattle.verilog_unique.proofs.Descent.{IsAmong}
use Rattle.map_rules.specs.Expressions.{design_scope}
use Rattle.map_rules.specs.Inputs.{UsesInput}
use Rattle.v_syntax.specs.Tree.{tree_of}
use Rattle.v_instances.specs.Texts.{texts}
use Rattle.v_value.specs.Scope.{scope_at}
use Rattle.v_value.specs.Narrow.{HasNarrowObjects}
use Rattle.v_places.specs.Below.{Spot}
use Rattle.v_places.proofs.Spots.{same_some, get_within}
use Rattle.map_sizes.specs.Kinds.{AgreeOnRules, RulesAreAgreedOn}
use Rattle.map_inputs.specs.Bits.{OneIsMarked}
use Rattle.map_inputs.specs.Laws.{ExpressionsUseTheSame}
use Rattle.map_judged.specs.declared.expression.MapExpression.{MapExpression}
use Rattle.map_judged.specs.declared.known.KnownNames.{KnownNames}
use Rattle.map_judged.specs.Asked.{Asked, asked_of, asked_list, names_asked, AreNamed}
use Rattle.map_judged.specs.Flaws.{HasNoFlaw, IsFirstFlaw}
use Rattle.map_judged.specs.Known.{AreKnown}
use Rattle.map_uses.specs.Users.{IsMarked, IsFirstUser, AreOfTexts, AreFlawlessIn}
use Rattle.map_uses.specs.Table.{TellsInputs, IsKnownIn, AreKnownIn, AreNarrowIn}
use Rattle.map_uses.proofs.Declared.{names_declared, is_narrow}

-- ---- one expression

-- new names that are given to the names in an expression tell whether it uses an input
pub uses_told : ExpressionsUseTheSame → (d : Design) (s : Scope) (ns : List Name) (e : Expression) (new g : Name → Name) (marked : BitSet) → TellsInputs d new marked
    → IsKnownIn d s ns e → ((n : Name) → Contains ns n → g n ≡ new n) → UsesInput d e ↔ OneIsMarked g marked (reads s e)
uses_told law d s ns e new g marked t k given =
    law d t.called t.scope s t.items t.inputs g e marked t.has_inputs t.dots
    (λ n c.
    record {
      is_declared = k.declared n c;
      says = k.means n c;
      is_new = λ p own at named same.
          given n (subst (λ ms. Contains ms n) (sym k.named) c) ∙ (ap new (sym same) ∙ t.leads p own at named);
    })
    t.are_marked

-- an expression without names uses none
pub no_names : (d : Design) (e : Expression) → names_in e ≡ [] → UsesInput d e → ⊥
no_names d e none u =
    let y : Bit = record { of_name = dotted u.within.path u.bit.of_name; word = u.bit.word; place = u.bit.place } in
    subst (λ ns. IsAmong ns y.of_name) none (read (design_scope d) e y u.is_read).is_named

-- ---- lists

pub asked_got : (xs : List MapExpression) (k : ℕ) (x : MapExpression) → slice_get xs k ≡ Some x → slice_get (asked_list xs) k ≡ Some (asked_of x)
asked_got [] k x e = cc
asked_got (y ∷ xs) zero x e = ap (λ z. Some (asked_of z)) (same_some y x e)
asked_got (y ∷ xs) (suc k) x e = asked_got xs k x e

pub got_asked : (xs : List MapExpression) (k : ℕ) (y : Asked) → slice_get (asked_list xs) k ≡ Some y → (x : MapExpression) × (slice_get xs k ≡ Some x) × (asked_of x ≡ y)
got_asked [] k y e = cc
got_asked (x ∷ xs) zero y e = (x, refl, same_some (asked_of x) y e)
got_asked (x ∷ xs) (suc k) y e = got_asked xs k y e

named_at : (xs : List MapExpression) (k : ℕ) (x : MapExpression) → AreNamed xs → slice_get xs k ≡ Some x → texts x.names.items ≡ names_in (tree_of x.tree.now)
named_at [] k x h e = cc
named_at (y ∷ xs) zero x h e = subst (λ (z : MapExpression). texts z.names.items ≡ names_in (tree_of z.tree.now)) (same_some y x e) h.0
named_at (y ∷ xs) (suc k) x h e = named_at xs k x h.1 e

asked_names : (xs : List MapExpression) (k : ℕ) (x : MapExpression) (n : Name) → slice_get xs k ≡ Some x → Contains (names_in (tree_of x.tree.now)) n → Contains (names_asked (asked_list xs)) n
asked_names [] k x n e c = cc
asked_names (y ∷ xs) zero x n e c =
    Contains-append_left (names_in (tree_of y.tree.now)) (names_asked (asked_list xs)) n
    (subst (λ (z : MapExpression). Contains (names_in (tree_of z.tree.now)) n) (sym (same_some y x e)) c)
asked_names (y ∷ xs) (suc k) x n e c =
    Contains-append_right (names_in (tree_of y.tree.now)) (names_asked (asked_list xs)) n (asked_names xs k x n e c)

-- ---- what is known of each expression

module _ (d : Design) (xs : List MapExpression) (k : KnownNames) (known : AreKnown d (names_asked (asked_list xs)) k) (named : AreNamed xs)
    (flawless : IsFirstFlaw d (asked_list xs) None) where
  pub known_each : AreKnownIn d (scope_at k.scope) xs
  known_each i x e =
      let good : HasNoFlaw d (tree_of x.tree.now) = flawless i (asked_of x) (asked_got xs i x e) in
      record {
        named = named_at xs i x named e;
        declared = names_declared (design_scope d) (tree_of x.tree.now) good.breaks_none;
        means = λ n c. known.means n (asked_names xs i x n e c);
      }

  pub narrow_each : RulesAreAgreedOn → AreOfTexts (asked_list xs) → HasNarrowObjects (scope_at k.scope) → AreNarrowIn (scope_at k.scope) xs
  narrow_each law of_texts objects i x e =
      let good : HasNoFlaw d (tree_of x.tree.now) = flawless i (asked_of x) (asked_got xs i x e) in
      let same : AgreeOnRules (scope_at k.scope) (design_scope d) (tree_of x.tree.now) =
      law (scope_at k.scope) (design_scope d) (tree_of x.tree.now) (λ n c. known.means n (asked_names xs i x n e c)) in
      is_narrow (scope_at k.scope) (tree_of x.tree.now) objects (of_texts i (asked_of x) (scope_at k.scope) (asked_got xs i x e)) (same.refusal ∙ good.breaks_none)

-- ---- the first

-- none of the marked ones before this number uses an input
abbrev pub NoneBefore : Design → List MapExpression → List Bool → ℕ → Type 0
NoneBefore d xs marks i = (k : ℕ) (x : MapExpression) → k < i → slice_get xs k ≡ Some x → IsMarked marks k → ¬ UsesInput d (tree_of x.tree.now)

pub first_told : (d : Design) (xs : List MapExpression) (marks : List Bool) (i : ℕ) (x : MapExpression) → slice_get xs i ≡ Some x → IsMarked marks i
    → UsesInput d (tree_of x.tree.now) → NoneBefore d xs marks i → IsFirstUser d (asked_list xs) marks (Some i)
first_told d xs marks i x e m u none = (
  (asked_of x, asked_got xs i x e, m, u),
  λ k y l g n.
      let f = got_asked xs k y g in
      subst (λ (z : Asked). ¬ UsesInput d z.tree) f.2 (none k f.0 l f.1 n),
)

pub none_told : (d : Design) (xs : List MapExpression) (marks : List Bool) (i : ℕ) → ((k : ℕ) (x : MapExpression) → slice_get xs k ≡ Some x → k < i)
    → NoneBefore d xs marks i → IsFirstUser d (asked_list xs) marks None
none_told d xs marks i all none k y g n =
    let f = got_asked xs k y g in
    subst (λ (z : Asked). ¬ UsesInput d z.tree) f.2 (none k f.0 (all k f.0 f.1) f.1 n)

-- one more
pub none_further : (d : Design) (xs : List MapExpression) (marks : List Bool) (i : ℕ) → NoneBefore d xs marks i
    → ((x : MapExpression) → slice_get xs i ≡ Some x → IsMarked marks i → ¬ UsesInput d (tree_of x.tree.now)) → NoneBefore d xs marks (i + 1)
none_further d xs marks i none this k x l e m = by (k == i) refl where
  by : (b : Bool) → (k == i) ≡ b → ¬ UsesInput d (tree_of x.tree.now)
  by true t =
      let same : k ≡ i = eqb-true k i t in
      this x (subst (λ j. slice_get xs j ≡ Some x) same e) (subst (λ j. IsMarked marks j) same m)
  by false t =
      let other = eqb-false k i t in none k x (omega (arith, l, other)) e m

-- ---- names

-- none of the asked ones before this number has names
abbrev pub NoNamesBefore : List MapExpression → List Bool → ℕ → Type 0
NoNamesBefore xs marks i = (k : ℕ) (x : MapExpression) → k < i → slice_get xs k ≡ Some x → IsMarked marks k → texts x.names.items ≡ []

pub no_names_further : (xs : List MapExpression) (marks : List Bool) (i : ℕ) → NoNamesBefore xs marks i
    → ((x : MapExpression) → slice_get xs i ≡ Some x → IsMarked marks i → texts x.names.items ≡ []) → NoNamesBefore xs marks (i + 1)
no_names_further xs marks i none this k x l e m = by (k == i) refl where
  by : (b : Bool) → (k == i) ≡ b → texts x.names.items ≡ []
  by true t =
      let same : k ≡ i = eqb-true k i t in
      this x (subst (λ j. slice_get xs j ≡ Some x) same e) (subst (λ j. IsMarked marks j) same m)
  by false t =
      let other = eqb-false k i t in none k x (omega (arith, l, other)) e m

-- none of them uses an input where none has names
pub none_without_names : (d : Design) (xs : List MapExpression) (marks : List Bool) → AreNamed xs
    → ((k : ℕ) (x : MapExpression) → slice_get xs k ≡ Some x → IsMarked marks k → texts x.names.items ≡ []) → IsFirstUser d (asked_list xs) marks None
none_without_names d xs marks named none k y g m u =
    let f = got_asked xs k y g in
    let x : MapExpression = f.0 in
    no_names d (tree_of x.tree.now) (sym (named_at xs k x named f.1) ∙ none k x f.1 m) (subst (λ (z : Asked). UsesInput d z.tree) (sym f.2) u)

-- ---- elements by their places

pub got_item : {A : Type 0} (xs : List A) (k : ℕ) (x d : A) → k < length xs → x ≡ get_or xs k d → slice_get xs k ≡ Some x
got_item [] k x d l e = absurd (omega (arith, l))
got_item (y ∷ xs) zero x d l e = ap Some (sym e)
got_item (y ∷ xs) (suc k) x d l e = got_item xs k x d (omega (arith, l)) e

-- ---- one turn

module _ (d : Design) (xs : List MapExpression) (marks : List Bool) (i : ℕ) (x : MapExpression) (a b : Bool) (at : slice_get xs i ≡ Some x)
    (asked : IsTrue a ↔ IsMarked marks i) (told : IsTrue b ↔ (IsTrue a × UsesInput d (tree_of x.tree.now))) (none : NoneBefore d xs marks i) where
  pub user_found : b ≡ true → IsFirstUser d (asked_list xs) marks (Some i)
  user_found e = let r = told.0 e in first_told d xs marks i x at (asked.0 r.0) r.1 none

  pub user_passed : b ≡ false → NoneBefore d xs marks (i + 1)
  user_passed e =
      none_further d xs marks i none
      (λ y g m u.
      let same : y ≡ x = same_some y x (sym g ∙ at) in
      false≢true (sym e ∙ told.1 (asked.1 m, subst (λ (z : MapExpression). UsesInput d (tree_of z.tree.now)) same u)))

pub none_at_first : (d : Design) (xs : List MapExpression) (marks : List Bool) → NoneBefore d xs marks 0
none_at_first d xs marks k x l = absurd (omega (arith, l))

pub none_at_last : (d : Design) (xs : List MapExpression) (marks : List Bool) (i : ℕ) → length xs ≤ i → NoneBefore d xs marks i → IsFirstUser d (asked_list xs) marks None
none_at_last d xs marks i le none = none_told d xs marks i (λ k x e. let l = get_within xs k x e in omega (arith, l, le)) none

pub no_names_at_first : (xs : List MapExpression) (marks : List Bool) → NoNamesBefore xs marks 0
no_names_at_first xs marks k x l = absurd (omega (arith, l))

pub no_names_passed : (xs : List MapExpression) (marks : List Bool) (i : ℕ) (x : MapExpression) (a : Bool) → slice_get xs i ≡ Some x → IsTrue a ↔ IsMarked marks i
    → (IsTrue a → texts x.names.items ≡ []) → NoNamesBefore xs marks i → NoNamesBefore xs marks (i + 1)
no_names_passed xs marks i x a at asked none before =
    no_names_further xs marks i before
    (λ y g m.
    let same : y ≡ x = same_some y x (sym g ∙ at) in
    subst (λ (z : MapExpression). texts z.names.items ≡ []) (sym same) (none (asked.1 m)))

pub no_names_at_last : (xs : List MapExpression) (marks : List Bool) (i : ℕ) → length xs ≤ i → NoNamesBefore xs marks i → (k : ℕ) (x : MapExpression) → slice_get xs k ≡ Some x
    → IsMarked marks k → texts x.names.items ≡ []
no_names_at_last xs marks i le none k x e = none k x (let l = get_within xs k x e in omega (arith, l, le)) e

-- what is told of one that is not asked
pub not_asked : (a : Bool) (A : Type 0) → a ≡ false → IsTrue false ↔ (IsTrue a × A)
not_asked a A e = ((λ t. absurd (false≢true t)), (λ h. absurd (false≢true (sym e ∙ h.0))))

-- the source is the design's own
pub by_itself : {d : Design} {source : Source} {spots : List Spot} {xs : List MapExpression} {k : KnownNames} → AreFlawlessIn d source spots xs k
    → AreFlawlessIn d d.source spots xs k
by_itself h = record { stands = h.stands; is_source = refl; known = h.known; named = h.named; of_texts = h.of_texts; flawless = h.flawless }
