-- Printed targets, declarations and lists are no deeper than any tokens that spell them, and no more.
use Rattle.std.proofs.Common.{◌≡◌, ℕ, suc, ◌+◌, ◌≤◌, Bool, true, false, List, [], ◌∷◌, length, Option, Some, refl, sym, ap, ◌∙◌, subst, arith}
use Rattle.std.specs.Prelude.{codes}
use Rattle.verilog_text.specs.Token.{Mark, left_parenthesis, right_parenthesis, left_bracket, right_bracket, left_brace, right_brace, comma, colon, dot, equals, Token, word, mark}
use Rattle.verilog_text.specs.Text.{Opening, in_parentheses, in_brackets, in_braces, Step, opens, closes, stays, step_of_mark, step_of_word, step_of, open_behind}
use Rattle.verilog_text.specs.Grammar.{direction_word, parameter_word, AreParted, last_part, and_parts, IsPerhaps, left_out, given, IsFlag, absent, present, IsName, a_name, IsWhole, IsRange, bounds, IsPerhapsRange, IsTarget, a_place, some_joined, AreTargets, last_target, and_targets, IsAssignment, assigned, IsNetKind, no_kind, a_wire, a_variable, IsPort, a_port, IsSetting, set_to, IsParameter, a_parameter, IsWire, net, IsVariable, variable, IsEntry, empty_entry, an_entry, IsNamedEntry, under_name, AreConnections, named_entries, entries, IsInstance, an_instance}
use Rattle.verilog_trees.specs.Syntax as tree
use Rattle.verilog_trees.specs.Syntax.{Expression, Target, Targets, Range, Direction, NetKind, Connections}
use Rattle.v_print.specs.Spelled.{bare, bare_selects}
use Rattle.v_print.specs.Bodies.{bare_target, bare_targets, assignment_before, parts_before, name_before, flag_before, range_before, kind_before, port_before, setting_before, parameter_before, value_before, wire_before, variable_before, entry_before, named_before, connections_before, instance_before}
use Rattle.v_print.specs.Printable.{IsPrintableName, IsPrintable, IsPrintableTarget, ArePrintableTargets, IsPrintableOptional, Each, EachOfSome, IsPrintableRange, IsPrintablePort, IsPrintableSetting, IsPrintableParameter, IsPrintableWire, IsPrintableVariable, ArePrintableConnections, IsPrintableInstance}
use Rattle.v_print.proofs.Open.{IsShallow, shallow_by, other_stays, name_stays, bounds_stay, bare_fits, selects_fit}
use Rattle.v_print_source.proofs.Within.{behind_stays, behind_opens, behind_closes, behind_bound, closed_nearest, whole}
use Rattle.v_print_source.proofs.WithinExpressions.{within, selects_inside}

-- Behind some tokens the same are open, and so behind those that are printed in their place, which are no more.
pub record Keeps (xs : List Opening) (text rest : List Token) (f : List Token → List Token) : Type 0 where
  pub shallow : IsShallow xs rest
  pub fits : (q : List Token) → IsShallow xs q → IsShallow xs (f q)
  pub count : (q : List Token) → length (f q) + length rest ≤ length text + length q

pub kept_as : (xs : List Opening) (text rest : List Token) (f g : List Token → List Token) → ((q : List Token) → f q ≡ g q) → Keeps xs text rest f → Keeps xs text rest g
kept_as xs text rest f g e = subst (Keeps xs text rest) (λ i q. e q i)

pub nothing_kept : (xs : List Opening) (rest : List Token) → IsShallow xs rest → Keeps xs rest rest (λ q. q)
nothing_kept xs rest s = record { shallow = s; fits = λ q h. h; count = λ q. turned (length q) (length rest) }
  where
    turned : (q r : ℕ) → q + r ≤ r + q
    turned q r = omega arith

pub then_kept : (xs : List Opening) (text more rest : List Token) (f g : List Token → List Token) → Keeps xs text more f → Keeps xs more rest g → Keeps xs text rest (λ q. f (g q))
then_kept xs text more rest f g a b = record {
  shallow = b.shallow;
  fits = λ q h. a.fits (g q) (b.fits q h);
  count = λ q. sums (length (f (g q))) (length (g q)) (length more) (length rest) (length text) (length q) (a.count (g q)) (b.count q);
}
  where
    sums : (l r m s t q : ℕ) → l + m ≤ t + r → r + s ≤ m + q → l + s ≤ t + q
    sums l r m s t q h g = omega (arith, h, g)

-- a token in place of another one, which open and close nothing
pub other_kept : (t u : Token) (xs : List Opening) (rest : List Token) → step_of t ≡ stays → step_of u ≡ stays → IsShallow xs (t ∷ rest) → Keeps xs (t ∷ rest) rest (λ q. u ∷ q)
other_kept t u xs rest e f s =
    let a = behind_stays t xs rest e s in
    record { shallow = a.1; fits = λ q h. other_stays u xs q f a.0 h; count = λ q. turned (length q) (length rest) }
  where
    turned : (q r : ℕ) → suc q + r ≤ suc r + q
    turned q r = omega arith

pub token_kept : (t : Token) (xs : List Opening) (rest : List Token) → step_of t ≡ stays → IsShallow xs (t ∷ rest) → Keeps xs (t ∷ rest) rest (λ q. t ∷ q)
token_kept t xs rest e s = other_kept t t xs rest e e s

-- a token that opens and closes nothing, and what stands behind it
pub after_token : (t : Token) (xs : List Opening) (text rest : List Token) (f : List Token → List Token) → step_of t ≡ stays → IsShallow xs (t ∷ text) → (IsShallow xs text → Keeps xs text rest f) → Keeps xs (t ∷ text) rest (λ q. t ∷ f q)
after_token t xs text rest f e s more =
    let a = token_kept t xs text e s in
    then_kept xs (t ∷ text) text rest (λ q. t ∷ q) f a (more a.shallow)

-- between two tokens that open and close
pub pair_kept : (x : Opening) (o k : Token) (xs : List Opening) (text rest : List Token) (f : List Token → List Token) → step_of o ≡ opens x → step_of k ≡ closes x → IsShallow xs (o ∷ text)
    → (IsShallow (x ∷ xs) text → Keeps (x ∷ xs) text (k ∷ rest) f) → Keeps xs (o ∷ text) rest (λ q. o ∷ f (k ∷ q))
unfolding open_behind
pair_kept x o k xs text rest f e g s inner =
    let a = behind_opens x o xs text e s in
    let i = inner a.1 in
    let b = behind_closes x k xs rest g i.shallow in
    record {
      shallow = b.1;
      fits = λ q h.
          shallow_by o xs (x ∷ xs) (f (k ∷ q)) (ap (λ (n : Step). open_behind n xs) e) a.0
          (i.fits (k ∷ q) (shallow_by k (x ∷ xs) xs q (ap (λ (n : Step). open_behind n (x ∷ xs)) g ∙ closed_nearest x xs) b.0 h));
      count = λ q. sums (length (f (k ∷ q))) (length rest) (length text) (length q) (i.count (k ∷ q));
    }
  where
    sums : (a r t q : ℕ) → a + suc r ≤ t + suc q → suc a + r ≤ suc t + q
    sums a r t q h = omega (arith, h)

-- ---- expressions and targets

pub whole_kept : (e : Expression) (text rest : List Token) → IsWhole e text rest → IsPrintable e → (xs : List Opening) → IsShallow xs text → Keeps xs text rest (bare e)
whole_kept e text rest d p xs s =
    let w = whole e xs text rest (within 0 e text rest d xs s) in
    record { shallow = w.shallow; fits = λ q h. bare_fits e p xs q w.room h; count = w.count }

mutual
  pub target_kept : (t : Target) (text rest : List Token) → IsTarget t text rest → IsPrintableTarget t → (xs : List Opening) → IsShallow xs text → Keeps xs text rest (bare_target t)
  target_kept _ _ _ (a_place n c text rest free d) p xs s =
      let a = behind_stays (word n) xs text (name_stays n free) s in
      let i = selects_inside c text rest d xs a.0 a.1 in
      after_token (word n) xs text rest (bare_selects c) (name_stays n free) s (λ t. record { shallow = i.shallow; fits = λ q h. selects_fit c p.1 xs q i.room h; count = i.count })
  target_kept _ _ _ (some_joined ts text rest d) p xs s =
      pair_kept in_braces (mark left_brace) (mark right_brace) xs text rest (bare_targets false ts) refl refl s (λ h. targets_kept ts text (mark right_brace ∷ rest) d p.1 (in_braces ∷ xs) h)

  targets_kept : (ts : Targets) (text rest : List Token) → AreTargets ts text rest → ArePrintableTargets ts → (xs : List Opening) → IsShallow xs text → Keeps xs text rest (bare_targets false ts)
  targets_kept _ _ _ (last_target t text rest d) p xs s = target_kept t text rest d p.0 xs s
  targets_kept _ _ _ (and_targets t ts text more rest d ds) p xs s =
      let a = target_kept t text (mark comma ∷ more) d p.0 xs s in
      kept_as xs text rest (λ q. bare_target t (mark comma ∷ bare_targets false ts q)) (bare_targets false (tree.target t ts)) (λ q. ap (bare_target t) (sym (comma_targets ts more rest ds q)))
      (then_kept xs text (mark comma ∷ more) rest (bare_target t) (λ q. mark comma ∷ bare_targets false ts q) a
      (after_token (mark comma) xs more rest (bare_targets false ts) refl a.shallow (λ h. targets_kept ts more rest ds p.1 xs h)))

  comma_targets : (ts : Targets) (text rest : List Token) → AreTargets ts text rest → (q : List Token) → bare_targets true ts q ≡ mark comma ∷ bare_targets false ts q
  comma_targets _ _ _ (last_target t text rest d) q = refl
  comma_targets _ _ _ (and_targets t ts text more rest d ds) q = refl

pub assignment_kept : (m : Mark) (a : Target × Expression) (text rest : List Token) → IsAssignment m a text rest → step_of_mark m ≡ stays → IsPrintableTarget a.0 → IsPrintable a.1 → (xs : List Opening) → IsShallow xs text → Keeps xs text rest (assignment_before m a.0 a.1)
assignment_kept m _ _ _ (assigned t e text value rest dt de) st p r xs s =
    let a = target_kept t text (mark m ∷ value) dt p xs s in
    then_kept xs text (mark m ∷ value) rest (bare_target t) (λ q. mark m ∷ bare e q) a
    (after_token (mark m) xs value rest (bare e) st a.shallow (λ h. whole_kept e value rest de r xs h))

-- ---- lists

-- each part keeps what is open
abbrev pub KeepsEach : {A : Type 0} → (A → List Token → List Token → Type 0) → (A → Type 0) → (A → List Token → List Token) → Type 0
KeepsEach {A = A} Is P f = (x : A) (text rest : List Token) → Is x text rest → P x → (xs : List Opening) → IsShallow xs text → Keeps xs text rest (f x)

comma_parts : {A : Type 0} (Is : A → List Token → List Token → Type 0) (f : A → List Token → List Token) (as_ : List A) (text rest : List Token) → AreParted Is as_ text rest → (q : List Token)
    → parts_before f true as_ q ≡ mark comma ∷ parts_before f false as_ q
comma_parts Is f _ _ _ (last_part x text rest d) q = refl
comma_parts Is f _ _ _ (and_parts x as_ text more rest d ds) q = refl

pub parted_kept : {A : Type 0} (Is : A → List Token → List Token → Type 0) (P : A → Type 0) (f : A → List Token → List Token) → KeepsEach Is P f → (as_ : List A) (text rest : List Token) → AreParted Is as_ text rest → Each P as_
    → (xs : List Opening) → IsShallow xs text → Keeps xs text rest (parts_before f false as_)
parted_kept Is P f one _ _ _ (last_part x text rest d) p xs s = one x text rest d p.0 xs s
parted_kept Is P f one _ _ _ (and_parts x as_ text more rest d ds) p xs s =
    let a = one x text (mark comma ∷ more) d p.0 xs s in
    kept_as xs text rest (λ q. f x (mark comma ∷ parts_before f false as_ q)) (parts_before f false (x ∷ as_)) (λ q. ap (f x) (sym (comma_parts Is f as_ more rest ds q)))
    (then_kept xs text (mark comma ∷ more) rest (f x) (λ q. mark comma ∷ parts_before f false as_ q) a
    (after_token (mark comma) xs more rest (parts_before f false as_) refl a.shallow (λ h. parted_kept Is P f one as_ more rest ds p.1 xs h)))

each_of : {A : Type 0} (P : A → Type 0) (as_ : List A) → EachOfSome P as_ → Each P as_
each_of P [] h = absurd h
each_of P (x ∷ as_) h = h

pub some_kept : {A : Type 0} (Is : A → List Token → List Token → Type 0) (P : A → Type 0) (f : A → List Token → List Token) → KeepsEach Is P f → (as_ : List A) (text rest : List Token) → AreParted Is as_ text rest → EachOfSome P as_
    → (xs : List Opening) → IsShallow xs text → Keeps xs text rest (parts_before f false as_)
some_kept Is P f one as_ text rest d p = parted_kept Is P f one as_ text rest d (each_of P as_ p)

-- ---- declarations

pub name_kept : KeepsEach IsName IsPrintableName name_before
name_kept _ _ _ (a_name n rest free) p xs s = token_kept (word n) xs rest (name_stays n free) s

signed_stays : step_of (word (codes "signed")) ≡ stays
unfolding step_of_word
signed_stays = refl

pub flag_kept : (b : Bool) (text rest : List Token) → IsFlag (codes "signed") b text rest → (xs : List Opening) → IsShallow xs text → Keeps xs text rest (flag_before (codes "signed") b)
flag_kept _ _ _ (absent rest) xs s = nothing_kept xs rest s
flag_kept _ _ _ (present rest) xs s = token_kept (word (codes "signed")) xs rest signed_stays s

-- : between bounds
after_bound : (xs : List Opening) (text rest : List Token) (f : List Token → List Token) → IsShallow (in_brackets ∷ xs) (mark colon ∷ text) → (IsShallow (in_brackets ∷ xs) text → Keeps (in_brackets ∷ xs) text rest f)
    → Keeps (in_brackets ∷ xs) (mark colon ∷ text) rest (λ q. mark colon ∷ f q)
after_bound xs text rest f s more =
    let a = behind_bound xs text s in
    let i = more a.1 in
    record { shallow = i.shallow; fits = λ q h. bounds_stay xs (f q) a.0 (i.fits q h); count = λ q. one (length (f q)) (length rest) (length text) (length q) (i.count q) }
  where
    one : (a b n q : ℕ) → a + b ≤ n + q → suc a + b ≤ suc n + q
    one a b n q h = omega (arith, h)

pub range_kept : KeepsEach IsPerhapsRange IsPrintableRange range_before
range_kept _ _ _ (left_out rest) p xs s = nothing_kept xs rest s
range_kept _ _ _ (given g text rest d) p xs s = by g text rest d p s
  where
    by : (g : Range) (text rest : List Token) → IsRange g text rest → IsPrintableRange (Some g) → IsShallow xs (mark left_bracket ∷ text) → Keeps xs (mark left_bracket ∷ text) rest (range_before (Some g))
    by _ _ _ (bounds a b text more rest da db) p s =
        pair_kept in_brackets (mark left_bracket) (mark right_bracket) xs text rest (λ q. bare a (mark colon ∷ bare b q)) refl refl s (λ h.
        let x = whole_kept a text (mark colon ∷ more) da p.0 (in_brackets ∷ xs) h in
        then_kept (in_brackets ∷ xs) text (mark colon ∷ more) (mark right_bracket ∷ rest) (bare a) (λ q. mark colon ∷ bare b q) x
        (after_bound xs more (mark right_bracket ∷ rest) (bare b) x.shallow (λ k. whole_kept b more (mark right_bracket ∷ rest) db p.1 (in_brackets ∷ xs) k)))

wire_stays : step_of (word (codes "wire")) ≡ stays
unfolding step_of_word
wire_stays = refl

reg_stays : step_of (word (codes "reg")) ≡ stays
unfolding step_of_word
reg_stays = refl

kind_kept : (k : Option NetKind) (text rest : List Token) → IsNetKind k text rest → (xs : List Opening) → IsShallow xs text → Keeps xs text rest (kind_before k)
kind_kept _ _ _ (no_kind rest) xs s = nothing_kept xs rest s
kind_kept _ _ _ (a_wire rest) xs s = token_kept (word (codes "wire")) xs rest wire_stays s
kind_kept _ _ _ (a_variable rest) xs s = token_kept (word (codes "reg")) xs rest reg_stays s

direction_stays : (d : Direction) → step_of (word (direction_word d)) ≡ stays
unfolding step_of_word
direction_stays tree.input = refl
direction_stays tree.output = refl

pub port_kept : KeepsEach IsPort IsPrintablePort port_before
port_kept _ _ _ (a_port d k b r ns kind sign range names rest dk ds dr dn) p xs s =
    after_token (word (direction_word d)) xs kind rest (λ q. kind_before k (flag_before (codes "signed") b (range_before r (parts_before name_before false ns q)))) (direction_stays d) s (λ h.
    let x = kind_kept k kind sign dk xs h in
    let y = flag_kept b sign range ds xs x.shallow in
    let z = range_kept r range names dr p.0 xs y.shallow in
    then_kept xs kind sign rest (kind_before k) (λ q. flag_before (codes "signed") b (range_before r (parts_before name_before false ns q))) x
    (then_kept xs sign range rest (flag_before (codes "signed") b) (λ q. range_before r (parts_before name_before false ns q)) y
    (then_kept xs range names rest (range_before r) (parts_before name_before false ns) z (some_kept IsName IsPrintableName name_before name_kept ns names rest dn p.1 xs z.shallow))))

setting_kept : KeepsEach IsSetting IsPrintableSetting setting_before
setting_kept _ _ _ (set_to n e text rest free d) p xs s =
    after_token (word n) xs (mark equals ∷ text) rest (λ q. mark equals ∷ bare e q) (name_stays n free) s (λ h. after_token (mark equals) xs text rest (bare e) refl h (λ k. whole_kept e text rest d p.1 xs k))

parameter_stays : (b : Bool) → step_of (word (parameter_word b)) ≡ stays
unfolding step_of_word
parameter_stays true = refl
parameter_stays false = refl

pub parameter_kept : KeepsEach IsParameter IsPrintableParameter parameter_before
parameter_kept _ _ _ (a_parameter l b r vs sign range values rest ds dr dv) p xs s =
    after_token (word (parameter_word l)) xs sign rest (λ q. flag_before (codes "signed") b (range_before r (parts_before setting_before false vs q))) (parameter_stays l) s (λ h.
    let y = flag_kept b sign range ds xs h in
    let z = range_kept r range values dr p.0 xs y.shallow in
    then_kept xs sign range rest (flag_before (codes "signed") b) (λ q. range_before r (parts_before setting_before false vs q)) y
    (then_kept xs range values rest (range_before r) (parts_before setting_before false vs) z (some_kept IsSetting IsPrintableSetting setting_before setting_kept vs values rest dv p.1 xs z.shallow)))

value_kept : KeepsEach (IsPerhaps (mark equals) IsWhole) IsPrintableOptional value_before
value_kept _ _ _ (left_out rest) p xs s = nothing_kept xs rest s
value_kept _ _ _ (given e text rest d) p xs s = after_token (mark equals) xs text rest (bare e) refl s (λ h. whole_kept e text rest d p xs h)

pub net_kept : KeepsEach IsWire IsPrintableWire wire_before
net_kept _ _ _ (net n e text rest free d) p xs s = after_token (word n) xs text rest (value_before e) (name_stays n free) s (λ h. value_kept e text rest d p.1 xs h)

pub variable_kept : KeepsEach IsVariable IsPrintableVariable variable_before
variable_kept _ _ _ (variable n r text rest free d) p xs s = after_token (word n) xs text rest (range_before r) (name_stays n free) s (λ h. range_kept r text rest d p.1 xs h)

-- ---- instances

entry_kept : KeepsEach IsEntry IsPrintableOptional entry_before
entry_kept _ _ _ (empty_entry rest) p xs s = nothing_kept xs rest s
entry_kept _ _ _ (an_entry e text rest d) p xs s = whole_kept e text rest d p xs s

named_kept : KeepsEach IsNamedEntry IsPrintableWire named_before
named_kept _ _ _ (under_name n e text rest free d) p xs s =
    after_token (mark dot) xs (word n ∷ mark left_parenthesis ∷ text) rest (λ q. word n ∷ mark left_parenthesis ∷ entry_before e (mark right_parenthesis ∷ q)) refl s (λ h.
    after_token (word n) xs (mark left_parenthesis ∷ text) rest (λ q. mark left_parenthesis ∷ entry_before e (mark right_parenthesis ∷ q)) (name_stays n free) h (λ k.
    pair_kept in_parentheses (mark left_parenthesis) (mark right_parenthesis) xs text rest (entry_before e) refl refl k (λ l. entry_kept e text (mark right_parenthesis ∷ rest) d p.1 (in_parentheses ∷ xs) l)))

-- connections with the bracket in front of them
pub connections_kept : (c : Connections) (text rest : List Token) → AreConnections c text rest → ArePrintableConnections c → (xs : List Opening) → IsShallow xs (mark left_parenthesis ∷ text)
    → Keeps xs (mark left_parenthesis ∷ text) rest (λ q. mark left_parenthesis ∷ connections_before c q)
connections_kept _ _ _ (named_entries es text rest d) p xs s =
    pair_kept in_parentheses (mark left_parenthesis) (mark right_parenthesis) xs text rest (parts_before named_before false es) refl refl s
    (λ h. some_kept IsNamedEntry IsPrintableWire named_before named_kept es text (mark right_parenthesis ∷ rest) d p (in_parentheses ∷ xs) h)
connections_kept _ _ _ (entries es text rest d) p xs s =
    pair_kept in_parentheses (mark left_parenthesis) (mark right_parenthesis) xs text rest (parts_before entry_before false es) refl refl s
    (λ h. some_kept IsEntry IsPrintableOptional entry_before entry_kept es text (mark right_parenthesis ∷ rest) d p (in_parentheses ∷ xs) h)

pub instance_kept : KeepsEach IsInstance IsPrintableInstance instance_before
instance_kept _ _ _ (an_instance n c text rest free d) p xs s =
    after_token (word n) xs (mark left_parenthesis ∷ text) rest (λ q. mark left_parenthesis ∷ connections_before c q) (name_stays n free) s (λ h. connections_kept c text rest d p.1 xs h)
