-- Names that are declared too often: by how they stand after each declaration, and by how many declarations they have.
use Rattle.std.proofs.Common.{◌≡◌, ◌∙◌, refl, ap, sym, subst, ℕ, ◌+◌, Bool, true, false, cond, not, ◌&&◌, ◌||◌, List, [], ◌∷◌, ◌++◌, Option, Some, None, arith, zero-add, add_assoc}
use Rattle.std.proofs.lemmas.Bool.{false≢true}
use Rattle.std.specs.Prelude.{nat_le, ◌==◌, is_none, is_some}
use Rattle.std.specs.List.{list_any}
use Rattle.std.proofs.lemmas.Bool.Decides.{nat_tests}
use Rattle.std.proofs.lemmas.Slice.Eq.{bytes_eq-Decides}
use Rattle.wb_values.specs.Value.{Name, same_name}
use Rattle.verilog_trees.specs.Syntax.{Direction, NetKind, Module}
use Rattle.verilog_meaning.specs.Hierarchy.{Declaration, declarations, all_parameters}
use Rattle.verilog_meaning.specs.Settled.{port_order}
use Rattle.verilog_designs.specs.Names.{is_among, count_of, names_where, is_bare_port, is_net_alone, declared_names, is_once, has_repeated, has_duplicate, parameter_names, all_instance_names}
use Rattle.v_hier.specs.declared.entry.Tag.{Tag}
use Rattle.v_hier.specs.declared.entry.Tag.TheVariants.{BarePort, Net, Other}
use Rattle.v_hier.specs.declared.duplicate.Standing.{Standing}
use Rattle.v_hier.specs.declared.duplicate.Standing.TheVariants.{Free, OnePort, OneNet, OneOther, PortAndNet, Repeated}
use Rattle.v_hier.specs.Entries.{port_tag, tag_of, declaration_entries, tagged, entry_names, next, is_repeated, clashes}
use Rattle.v_hier.proofs.Named.{names-append, names-tagged}

-- ---- how a name stands after entries

abbrev tally : Name → Standing → List (Name × Tag) → Standing
tally n s [] = s
tally n s (e ∷ es) = tally n (cond (same_name e.0 n) (next e.1 s) s) es

self : (n : Name) → same_name n n ≡ true
self n = (bytes_eq-Decides n n).1 refl

stays : (t : Tag) (s : Standing) → is_repeated s ≡ true → is_repeated (next t s) ≡ true
stays t Free e = absurd (false≢true e)
stays t OnePort e = absurd (false≢true e)
stays t OneNet e = absurd (false≢true e)
stays t OneOther e = absurd (false≢true e)
stays t PortAndNet e = absurd (false≢true e)
stays BarePort Repeated e = refl
stays Net Repeated e = refl
stays Other Repeated e = refl

either_stays : (b : Bool) (t : Tag) (s : Standing) → is_repeated s ≡ true → is_repeated (cond b (next t s) s) ≡ true
either_stays true t s e = stays t s e
either_stays false t s e = e

repeated-stays : (n : Name) (s : Standing) (es : List (Name × Tag)) → is_repeated s ≡ true → is_repeated (tally n s es) ≡ true
repeated-stays n s [] e = e
repeated-stays n s (x ∷ es) e = repeated-stays n (cond (same_name x.0 n) (next x.1 s) s) es (either_stays (same_name x.0 n) x.1 s e)

-- a name that comes to be repeated stands among the entries
is-among : (n : Name) (s : Standing) (es : List (Name × Tag)) → is_repeated s ≡ false → is_repeated (tally n s es) ≡ true → is_among (entry_names es) n ≡ true
is-among n s [] e h = absurd (false≢true (sym e ∙ h))
is-among n s (x ∷ es) e h =
    (elim (same_name x.0 n) as (λ b. same_name x.0 n ≡ b → is_repeated (tally n (cond b (next x.1 s) s) es) ≡ true → (b || is_among (entry_names es) n) ≡ true) [
      | true ↦ λ q k. refl
      | false ↦ λ q k. is-among n s es e k
    ]) refl h

any-at : (p : Name → Bool) (n : Name) (ns : List Name) → is_among ns n ≡ true → p n ≡ true → list_any p ns ≡ true
any-at p n [] h e = absurd (false≢true h)
any-at p n (m ∷ ns) h e =
    (elim (same_name m n) as (λ b. same_name m n ≡ b → (b || is_among ns n) ≡ true → (p m || list_any p ns) ≡ true) [
      | true ↦ λ q k. ap (λ b. b || list_any p ns) (ap p ((bytes_eq-Decides m n).0 q) ∙ e)
      | false ↦ λ q k. ap (λ b. p m || b) (any-at p n ns k e) ∙ or_true (p m)
    ]) refl h
  where
    or_true : (b : Bool) → (b || true) ≡ true
    or_true true = refl
    or_true false = refl

abbrev IsClear : (Name → Standing) → Type 0
IsClear f = (q : Name) → is_repeated (f q) ≡ false

still-clear : (f : Name → Standing) (e : Name × Tag) → IsClear f → is_repeated (next e.1 (f e.0)) ≡ false
    → (q : Name) → is_repeated (cond (same_name e.0 q) (next e.1 (f q)) (f q)) ≡ false
still-clear f e clear h q =
    (elim (same_name e.0 q) as (λ b. same_name e.0 q ≡ b → is_repeated (cond b (next e.1 (f q)) (f q)) ≡ false) [
      | true ↦ λ k. subst (λ m. is_repeated (next e.1 (f m)) ≡ false) ((bytes_eq-Decides e.0 q).0 k) h
      | false ↦ λ k. clear q
    ]) refl

absorbed : (a b : Bool) → (a ≡ true → b ≡ true) → b ≡ (a || b)
absorbed true b h = h refl
absorbed false b h = refl

clash-any : (f : Name → Standing) → IsClear f → (es : List (Name × Tag)) → clashes f es ≡ list_any (λ n. is_repeated (tally n (f n) es)) (entry_names es)
clash-any f clear [] = refl
clash-any f clear (e ∷ es) =
    let g : Name → Standing = λ q. cond (same_name e.0 q) (next e.1 (f q)) (f q) in
    let p : Name → Bool = λ n. is_repeated (tally n (g n) es) in
    (elim (is_repeated (next e.1 (f e.0))) as (λ b. is_repeated (next e.1 (f e.0)) ≡ b → (b || clashes g es) ≡ (p e.0 || list_any p (entry_names es))) [
      | true ↦ λ k. sym (ap (λ b. b || list_any p (entry_names es))
          (repeated-stays e.0 (g e.0) es (ap (λ b. is_repeated (cond b (next e.1 (f e.0)) (f e.0))) (self e.0) ∙ k)))
      | false ↦ λ k. clash-any g (still-clear f e clear k) es
          ∙ absorbed (p e.0) (list_any p (entry_names es)) (λ h. any-at p e.0 (entry_names es) (is-among e.0 (g e.0) es (still-clear f e clear k e.0) h) h)
    ]) refl

-- ---- how many declarations a name has

abbrev bit : Bool → ℕ
bit true = 1
bit false = 0

abbrev count : (Tag → Bool) → Name → List (Name × Tag) → ℕ
count p n [] = 0
count p n (e ∷ es) = bit (p e.1 && same_name e.0 n) + count p n es

abbrev is_any : Tag → Bool
is_any t = true

abbrev is_port : Tag → Bool
is_port BarePort = true
is_port Net = false
is_port Other = false

abbrev is_net : Tag → Bool
is_net BarePort = false
is_net Net = true
is_net Other = false

abbrev is_fine : ℕ → ℕ → ℕ → Bool
is_fine c b k = nat_le c 1 || ((c == 2) && (b == 1 && k == 1))

-- so many declarations, as bare ports, as nets, are those of a name that stands so
abbrev HasCounts : Standing → ℕ → ℕ → ℕ → Type 0
HasCounts Free c b k = (c ≡ 0) × (b ≡ 0) × (k ≡ 0)
HasCounts OnePort c b k = (c ≡ 1) × (b ≡ 1) × (k ≡ 0)
HasCounts OneNet c b k = (c ≡ 1) × (b ≡ 0) × (k ≡ 1)
HasCounts OneOther c b k = (c ≡ 1) × (b ≡ 0) × (k ≡ 0)
HasCounts PortAndNet c b k = (c ≡ 2) × (b ≡ 1) × (k ≡ 1)
HasCounts Repeated c b k = is_fine c b k ≡ false

not_few : (c : ℕ) (r : Bool) → (nat_le c 1 || r) ≡ false → nat_le c 1 ≡ false
not_few c r h = by_value (nat_le c 1) h
  where
    by_value : (b : Bool) → (b || r) ≡ false → b ≡ false
    by_value true e = e
    by_value false e = refl

then_many : (c : ℕ) → nat_le c 1 ≡ false → nat_le (c + 1) 1 ≡ false
then_many c h = grind (arith, nat_tests)

not_two : (c : ℕ) → nat_le c 1 ≡ false → ((c + 1) == 2) ≡ false
not_two c h = grind (arith, nat_tests)

worse : (c b k x y : ℕ) → is_fine c b k ≡ false → is_fine (c + 1) x y ≡ false
worse c b k x y h =
    let few : nat_le c 1 ≡ false = not_few c ((c == 2) && (b == 1 && k == 1)) h in
    ap (λ t. t || (((c + 1) == 2) && (x == 1 && y == 1))) (then_many c few) ∙ ap (λ t. t && (x == 1 && y == 1)) (not_two c few)

bad : (c b k x y z : ℕ) → c ≡ x → b ≡ y → k ≡ z → is_fine x y z ≡ false → is_fine c b k ≡ false
bad c b k x y z p q r h = let e : is_fine c b k ≡ is_fine x y z = λ i. is_fine (p i) (q i) (r i) in e ∙ h

plus : (c d : ℕ) → c ≡ d → c + 1 ≡ d + 1
plus c d e = ap (λ x. x + 1) e

same : (c d : ℕ) → c ≡ d → c + 0 ≡ d + 0
same c d e = ap (λ x. x + 0) e

one-more : (t : Tag) (s : Standing) (c b k : ℕ) → HasCounts s c b k → HasCounts (next t s) (c + 1) (b + bit (is_port t)) (k + bit (is_net t))
one-more BarePort Free c b k h = (plus c 0 h.0, plus b 0 h.1, same k 0 h.2)
one-more Net Free c b k h = (plus c 0 h.0, same b 0 h.1, plus k 0 h.2)
one-more Other Free c b k h = (plus c 0 h.0, same b 0 h.1, same k 0 h.2)
one-more BarePort OnePort c b k h = bad (c + 1) (b + 1) (k + 0) 2 2 0 (plus c 1 h.0) (plus b 1 h.1) (same k 0 h.2) refl
one-more Net OnePort c b k h = (plus c 1 h.0, same b 1 h.1, plus k 0 h.2)
one-more Other OnePort c b k h = bad (c + 1) (b + 0) (k + 0) 2 1 0 (plus c 1 h.0) (same b 1 h.1) (same k 0 h.2) refl
one-more BarePort OneNet c b k h = (plus c 1 h.0, plus b 0 h.1, same k 1 h.2)
one-more Net OneNet c b k h = bad (c + 1) (b + 0) (k + 1) 2 0 2 (plus c 1 h.0) (same b 0 h.1) (plus k 1 h.2) refl
one-more Other OneNet c b k h = bad (c + 1) (b + 0) (k + 0) 2 0 1 (plus c 1 h.0) (same b 0 h.1) (same k 1 h.2) refl
one-more BarePort OneOther c b k h = bad (c + 1) (b + 1) (k + 0) 2 1 0 (plus c 1 h.0) (plus b 0 h.1) (same k 0 h.2) refl
one-more Net OneOther c b k h = bad (c + 1) (b + 0) (k + 1) 2 0 1 (plus c 1 h.0) (same b 0 h.1) (plus k 0 h.2) refl
one-more Other OneOther c b k h = bad (c + 1) (b + 0) (k + 0) 2 0 0 (plus c 1 h.0) (same b 0 h.1) (same k 0 h.2) refl
one-more BarePort PortAndNet c b k h = bad (c + 1) (b + 1) (k + 0) 3 2 1 (plus c 2 h.0) (plus b 1 h.1) (same k 1 h.2) refl
one-more Net PortAndNet c b k h = bad (c + 1) (b + 0) (k + 1) 3 1 2 (plus c 2 h.0) (same b 1 h.1) (plus k 1 h.2) refl
one-more Other PortAndNet c b k h = bad (c + 1) (b + 0) (k + 0) 3 1 1 (plus c 2 h.0) (same b 1 h.1) (same k 1 h.2) refl
one-more BarePort Repeated c b k h = worse c b k (b + 1) (k + 0) h
one-more Net Repeated c b k h = worse c b k (b + 0) (k + 1) h
one-more Other Repeated c b k h = worse c b k (b + 0) (k + 0) h

and-true : (b : Bool) → (b && true) ≡ b
and-true true = refl
and-true false = refl

and-false : (b : Bool) → (b && false) ≡ false
and-false true = refl
and-false false = refl

moved : (s : Standing) (c b k c2 b2 k2 : ℕ) → c ≡ c2 → b ≡ b2 → k ≡ k2 → HasCounts s c b k → HasCounts s c2 b2 k2
moved s c b k c2 b2 k2 p q r h = subst (λ z. HasCounts s c2 b2 z) r (subst (λ y. HasCounts s c2 y k) q (subst (λ x. HasCounts s x b k) p h))

counted : (n : Name) (s : Standing) (c b k : ℕ) (es : List (Name × Tag)) → HasCounts s c b k → HasCounts (tally n s es) (c + count is_any n es) (b + count is_port n es) (k + count is_net n es)
counted n s c b k [] h = moved s c b k (c + 0) (b + 0) (k + 0) (omega arith) (omega arith) (omega arith) h
counted n s c b k (e ∷ es) h =
    (elim (same_name e.0 n) as (λ t. same_name e.0 n ≡ t → HasCounts (tally n (cond t (next e.1 s) s) es) (c + (bit (true && t) + count is_any n es)) (b + (bit (is_port e.1 && t) + count is_port n es)) (k + (bit (is_net e.1 && t) + count is_net n es))) [
      | true ↦ λ q. moved (tally n (next e.1 s) es) _ _ _ _ _ _
          (add_assoc c 1 (count is_any n es))
          (add_assoc b (bit (is_port e.1)) (count is_port n es) ∙ ap (λ t. b + (bit t + count is_port n es)) (sym (and-true (is_port e.1))))
          (add_assoc k (bit (is_net e.1)) (count is_net n es) ∙ ap (λ t. k + (bit t + count is_net n es)) (sym (and-true (is_net e.1))))
          (counted n (next e.1 s) (c + 1) (b + bit (is_port e.1)) (k + bit (is_net e.1)) es (one-more e.1 s c b k h))
      | false ↦ λ q. moved (tally n s es) _ _ _ _ _ _
          (ap (λ x. c + x) (sym (zero-add (count is_any n es))))
          (ap (λ x. b + x) (sym (zero-add (count is_port n es))) ∙ ap (λ t. b + (bit t + count is_port n es)) (sym (and-false (is_port e.1))))
          (ap (λ x. k + x) (sym (zero-add (count is_net n es))) ∙ ap (λ t. k + (bit t + count is_net n es)) (sym (and-false (is_net e.1))))
          (counted n s c b k es h)
    ]) refl

told : (s : Standing) (c b k : ℕ) → HasCounts s c b k → is_repeated s ≡ not (is_fine c b k)
told Free c b k h = sym (λ i. not (is_fine (h.0 i) (h.1 i) (h.2 i)))
told OnePort c b k h = sym (λ i. not (is_fine (h.0 i) (h.1 i) (h.2 i)))
told OneNet c b k h = sym (λ i. not (is_fine (h.0 i) (h.1 i) (h.2 i)))
told OneOther c b k h = sym (λ i. not (is_fine (h.0 i) (h.1 i) (h.2 i)))
told PortAndNet c b k h = sym (λ i. not (is_fine (h.0 i) (h.1 i) (h.2 i)))
told Repeated c b k h = sym (ap not h)

-- a name is repeated where its numbers of declarations are not fine
told-by-counts : (n : Name) (es : List (Name × Tag)) → is_repeated (tally n Free es) ≡ not (is_fine (count is_any n es) (count is_port n es) (count is_net n es))
told-by-counts n es =
    told (tally n Free es) _ _ _
    (moved (tally n Free es) _ _ _ _ _ _ (zero-add (count is_any n es)) (zero-add (count is_port n es)) (zero-add (count is_net n es))
    (counted n Free 0 0 0 es (refl, refl, refl)))

clash-counts : (es : List (Name × Tag)) → clashes (λ q. Free) es ≡ list_any (λ n. not (is_fine (count is_any n es) (count is_port n es) (count is_net n es))) (entry_names es)
clash-counts es =
    let p : Name → Bool = λ n. is_repeated (tally n Free es) in
    let q : Name → Bool = λ n. not (is_fine (count is_any n es) (count is_port n es) (count is_net n es)) in
    let e : p ≡ q = λ i n. told-by-counts n es i in
    clash-any (λ m. Free) (λ m. refl) es ∙ ap (λ f. list_any f (entry_names es)) e

-- ---- the numbers of the definitions

count-names : (n : Name) (es : List (Name × Tag)) → count is_any n es ≡ count_of n (entry_names es)
count-names n [] = refl
count-names n (e ∷ es) = by_value (same_name e.0 n) (count-names n es)
  where
    by_value : (b : Bool) → count is_any n es ≡ count_of n (entry_names es) → bit b + count is_any n es ≡ cond b 1 0 + count_of n (entry_names es)
    by_value true h = ap (λ x. 1 + x) h
    by_value false h = ap (λ x. 0 + x) h

count-append : (p : Tag → Bool) (n : Name) (xs ys : List (Name × Tag)) → count p n (xs ++ ys) ≡ count p n xs + count p n ys
count-append p n [] ys = sym (zero-add (count p n ys))
count-append p n (x ∷ xs) ys = ap (λ c. bit (p x.1 && same_name x.0 n) + c) (count-append p n xs ys) ∙ sym (add_assoc (bit (p x.1 && same_name x.0 n)) (count p n xs) (count p n ys))

count-none : (p : Tag → Bool) (n : Name) (ns : List Name) → p Other ≡ false → count p n (tagged Other ns) ≡ 0
count-none p n [] e = refl
count-none p n (m ∷ ns) e = ap (λ b. bit (b && same_name m n) + count p n (tagged Other ns)) e ∙ (zero-add _ ∙ count-none p n ns e)

one-where : (a : Bool) (m n : Name) (rest : List Name) → bit (a && same_name m n) + count_of n rest ≡ count_of n (cond a (m ∷ []) [] ++ rest)
one-where true m n rest = by_value (same_name m n)
  where
    by_value : (b : Bool) → bit b + count_of n rest ≡ cond b 1 0 + count_of n rest
    by_value true = refl
    by_value false = refl
one-where false m n rest = zero-add (count_of n rest)

count-where : (p : Tag → Bool) (q : Declaration → Bool) → ((d : Declaration) → p (tag_of d) ≡ q d) → (n : Name) (ds : List Declaration) → count p n (declaration_entries ds) ≡ count_of n (names_where q ds)
count-where p q h n [] = refl
count-where p q h n (d ∷ ds) =
    ap (λ c. bit (p (tag_of d) && same_name d.of_name n) + c) (count-where p q h n ds)
    ∙ (ap (λ b. bit (b && same_name d.of_name n) + count_of n (names_where q ds)) (h d) ∙ one-where (q d) d.of_name n (names_where q ds))

port-kind : (k : Option NetKind) → is_port (port_tag k) ≡ is_none k
port-kind None = refl
port-kind (Some k) = refl

net-kind : (k : Option NetKind) → is_net (port_tag k) ≡ false
net-kind None = refl
net-kind (Some k) = refl

is-bare : (o : Option Direction) (k : Option NetKind) → is_port (cond (is_none o) Net (port_tag k)) ≡ (is_some o && is_none k)
is-bare None k = refl
is-bare (Some o) k = port-kind k

is-alone : (o : Option Direction) (k : Option NetKind) → is_net (cond (is_none o) Net (port_tag k)) ≡ is_none o
is-alone None k = refl
is-alone (Some o) k = net-kind k

names-declared : (ds : List Declaration) → entry_names (declaration_entries ds) ≡ names_where (λ d. true) ds
names-declared [] = refl
names-declared (d ∷ ds) = ap (λ ns. d.of_name ∷ ns) (names-declared ds)

abbrev pub entries : Module → List (Name × Tag)
entries m = declaration_entries (declarations m) ++ tagged Other (parameter_names (all_parameters m)) ++ tagged Other (all_instance_names m.items)

names-of-module : (m : Module) → entry_names (entries m) ≡ declared_names m
names-of-module m =
    let ds = declaration_entries (declarations m) in
    let ps = parameter_names (all_parameters m) in
    let us = all_instance_names m.items in
    names-append (ds ++ tagged Other ps) (tagged Other us)
    ∙ (ap (λ ns. ns ++ entry_names (tagged Other us)) (names-append ds (tagged Other ps) ∙ (ap (λ ns. ns ++ entry_names (tagged Other ps)) (names-declared (declarations m)) ∙ ap (λ ns. names_where (λ d. true) (declarations m) ++ ns) (names-tagged Other ps)))
    ∙ ap (λ ns. names_where (λ d. true) (declarations m) ++ ps ++ ns) (names-tagged Other us))

no_more : (a b c d : ℕ) → b ≡ 0 → c ≡ 0 → a ≡ d → (a + b) + c ≡ d
no_more a b c d h k e = omega (arith, h, k, e)

count-of-module : (p : Tag → Bool) (q : Declaration → Bool) → p Other ≡ false → ((d : Declaration) → p (tag_of d) ≡ q d) → (m : Module) (n : Name)
    → count p n (entries m) ≡ count_of n (names_where q (declarations m))
count-of-module p q none h m n =
    let ds = declaration_entries (declarations m) in
    let ps = tagged Other (parameter_names (all_parameters m)) in
    let us = tagged Other (all_instance_names m.items) in
    count-append p n (ds ++ ps) us
    ∙ (ap (λ c. c + count p n us) (count-append p n ds ps)
    ∙ no_more _ _ _ _ (count-none p n (parameter_names (all_parameters m)) none) (count-none p n (all_instance_names m.items) none) (count-where p q h n (declarations m)))

pub module-clash : (m : Module) → clashes (λ q. Free) (entries m) ≡ list_any (λ n. not (is_once m n)) (declared_names m)
module-clash m =
    let p : Name → Bool = λ n. not (is_fine (count is_any n (entries m)) (count is_port n (entries m)) (count is_net n (entries m))) in
    let q : Name → Bool = λ n. not (is_once m n) in
    let all : (n : Name) → count is_any n (entries m) ≡ count_of n (declared_names m) = λ n. count-names n (entries m) ∙ ap (count_of n) (names-of-module m) in
    let ports : (n : Name) → count is_port n (entries m) ≡ count_of n (names_where is_bare_port (declarations m)) = λ n. count-of-module is_port is_bare_port refl (λ d. is-bare d.direction d.kind) m n in
    let nets : (n : Name) → count is_net n (entries m) ≡ count_of n (names_where is_net_alone (declarations m)) = λ n. count-of-module is_net is_net_alone refl (λ d. is-alone d.direction d.kind) m n in
    let e : p ≡ q = λ i n. not (is_fine (all n i) (ports n i) (nets n i)) in
    clash-counts (entries m) ∙ (ap (λ f. list_any f (entry_names (entries m))) e ∙ ap (list_any q) (names-of-module m))

fine-alone : (c : ℕ) → is_fine c 0 0 ≡ nat_le c 1
fine-alone c = by_value (nat_le c 1) (c == 2)
  where
    by_value : (a b : Bool) → (a || (b && false)) ≡ a
    by_value true b = refl
    by_value false true = refl
    by_value false false = refl

pub names-clash : (ns : List Name) → clashes (λ q. Free) (tagged Other ns) ≡ has_repeated ns
names-clash ns =
    let es : List (Name × Tag) = tagged Other ns in
    let p : Name → Bool = λ n. not (is_fine (count is_any n es) (count is_port n es) (count is_net n es)) in
    let q : Name → Bool = λ n. not (nat_le (count_of n ns) 1) in
    let all : (n : Name) → count is_any n es ≡ count_of n ns = λ n. count-names n es ∙ ap (count_of n) (names-tagged Other ns) in
    let fine : (n : Name) → is_fine (count is_any n es) (count is_port n es) (count is_net n es) ≡ is_fine (count_of n ns) 0 0 =
    λ n i. is_fine (all n i) (count-none is_port n ns refl i) (count-none is_net n ns refl i) in
    let e : p ≡ q = λ i n. not ((fine n ∙ fine-alone (count_of n ns)) i) in
    clash-counts es ∙ (ap (λ f. list_any f (entry_names es)) e ∙ ap (list_any q) (names-tagged Other ns))

pub duplicate-first : (m : Module) (es : List (Name × Tag)) (b : Bool) → es ≡ entries m → b ≡ clashes (λ q. Free) es → b ≡ true → true ≡ has_duplicate m
duplicate-first m es b e h t =
    let found : list_any (λ n. not (is_once m n)) (declared_names m) ≡ true = sym (module-clash m) ∙ (sym (ap (clashes (λ q. Free)) e) ∙ (sym h ∙ t)) in
    sym (ap (λ x. x || has_repeated (port_order m)) found)

pub duplicate-rest : (m : Module) (es ps : List (Name × Tag)) (b r : Bool) → es ≡ entries m → b ≡ clashes (λ q. Free) es → b ≡ false
    → ps ≡ tagged Other (port_order m) → r ≡ clashes (λ q. Free) ps → r ≡ has_duplicate m
duplicate-rest m es ps b r e h t p k =
    let none : list_any (λ n. not (is_once m n)) (declared_names m) ≡ false = sym (module-clash m) ∙ (sym (ap (clashes (λ q. Free)) e) ∙ (sym h ∙ t)) in
    k ∙ (ap (clashes (λ q. Free)) p ∙ (names-clash (port_order m) ∙ sym (ap (λ x. x || has_repeated (port_order m)) none)))
