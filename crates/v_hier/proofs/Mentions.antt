-- A module's text read part by part.
use Rattle.std.proofs.Common.{◌≡◌, ◌∙◌, refl, ap, sym, subst, Bool, true, false, cond, not, ◌&&◌, ◌||◌, ℕ, ◌+◌, ◌<◌, length, drop, get_or, List, [], ◌∷◌, ◌++◌, append_assoc, append-nil, Bor, Option}
use Rattle.std.specs.BTreeSet.{BTreeSet}
use Rattle.wb_values.specs.Value.{Name, same_name}
use Rattle.verilog_trees.specs.Syntax as pure
use Rattle.verilog_meaning.specs.Hierarchy.{all_parameters, declarations}
use Rattle.verilog_meaning.specs.Settled.{is_declared_among}
use Rattle.verilog_designs.specs.Names.{is_among, parameter_names, names_in, names_in_range, names_in_ports, Mention, used, declares, uses, uses_unknown, item_mentions, mentions, instantiates_unknown, has_undeclared}
use Rattle.v_syntax.specs.declared.module.Item.{Item}
use Rattle.v_syntax.specs.declared.module.Item.TheVariants.{Port, Parameter, Wires, Variables, Assign, Always, Instances}
use Rattle.v_syntax.specs.declared.module.ParameterDeclaration.{ParameterDeclaration}
use Rattle.v_syntax.specs.Source.{item_of}
use Rattle.v_hier.specs.declared.known.Names.{Names}
use Rattle.v_hier.specs.Tables.{has_name}
use Rattle.v_hier.specs.Reading.{has_net, knows, all_known, expression_known, range_known, ports_known, text_known, uses_other, unknown_with, IsRead}
use Rattle.v_hier.proofs.Declared.{rest_is}
use Rattle.v_hier.proofs.Texts.{range-known, ports-known, text_names, text-known}

not_both : (a b c : Bool) → (not a || (not b || c)) ≡ (not (a && b) || c)
not_both true b c = refl
not_both false b c = refl

-- names that are used
uses-read : (ns : Names) (xs : List Name) (rest : List Mention) → unknown_with ns (uses xs ++ rest) ≡ (not (all_known (knows ns) xs) || unknown_with ns rest)
unfolding unknown_with
uses-read ns [] rest = refl
uses-read ns (x ∷ xs) rest = ap (λ b. not (knows ns x) || b) (uses-read ns xs rest) ∙ not_both (knows ns x) (all_known (knows ns) xs) (unknown_with ns rest)

read-uses : (ns : Names) (xs : List Name) (b : Bool) → b ≡ all_known (knows ns) xs → IsRead ns (uses xs) b ns
read-uses ns xs b e = λ rest. uses-read ns xs rest ∙ ap (λ c. not c || unknown_with ns rest) (sym e)

pub read-expression : (ns : Names) (x : pure.Expression) (b : Bool) → b ≡ expression_known (knows ns) x → IsRead ns (uses (names_in x)) b ns
unfolding expression_known
read-expression ns x b e = read-uses ns (names_in x) b e

pub read-range : (ns : Names) (r : Option pure.Range) (b : Bool) → b ≡ range_known (knows ns) r → IsRead ns (uses (names_in_range r)) b ns
read-range ns r b e = read-uses ns (names_in_range r) b (e ∙ sym (range-known (knows ns) r))

pub read-ports : (ns : Names) (ds : List pure.PortDeclaration) (b : Bool) → b ≡ ports_known (knows ns) ds → IsRead ns (uses (names_in_ports ds)) b ns
read-ports ns ds b e = read-uses ns (names_in_ports ds) b (e ∙ sym (ports-known (knows ns) ds))

read-text : (ns : Names) (i : pure.Item) (b : Bool) → b ≡ text_known (knows ns) i → IsRead ns (uses (text_names i)) b ns
read-text ns i b e = read-uses ns (text_names i) b (e ∙ sym (text-known (knows ns) i))

text-mentions : (i : Item) → ((d : ParameterDeclaration) → i ≡ Parameter d → ⊥) → item_mentions (item_of i) ≡ uses (text_names (item_of i))
text-mentions (Port d) h = refl
text-mentions (Parameter d) h = absurd (h d refl)
text-mentions (Wires s r ws) h = refl
text-mentions (Variables s r vs) h = refl
text-mentions (Assign xs) h = refl
text-mentions (Always es b) h = refl
text-mentions (Instances m ps is) h = refl

pub read-item : (ns : Names) (i : Item) (b : Bool) → ((d : ParameterDeclaration) → i ≡ Parameter d → ⊥) → b ≡ text_known (knows ns) (item_of i) → IsRead ns (item_mentions (item_of i)) b ns
read-item ns i b h e = subst (λ ms. IsRead ns ms b ns) (sym (text-mentions i h)) (read-text ns (item_of i) b e)

-- a parameter is declared
or_cond : (a b : Bool) → (a || b) ≡ cond a true b
or_cond true b = refl
or_cond false b = refl

pub read-declared : (ns : Names) (s : BTreeSet (Bor (List ℕ))) (n : Name) → ((q : Name) → has_name s q ≡ cond (same_name n q) true (has_name ns.before q))
    → IsRead ns (declares n ∷ []) true (record ns { before = s })
unfolding unknown_with
read-declared ns s n h =
    let f : Name → Bool = λ q. same_name n q || has_name ns.before q in
    let g : Name → Bool = λ q. has_name s q in
    let same : f ≡ g = λ i q. (or_cond (same_name n q) (has_name ns.before q) ∙ sym (h q)) i in
    λ rest. ap (λ b. uses_other (has_name ns.parameters) b (has_net ns.nets) rest) same

-- one part after the other
pub read-then : (a b c : Names) (xs ys : List Mention) (known : Bool) → IsRead a xs true b → IsRead b ys known c → IsRead a (xs ++ ys) known c
read-then a b c xs ys known p q = λ rest. ap (unknown_with a) (append_assoc xs ys rest) ∙ (p (ys ++ rest) ∙ q rest)

pub read-stop : (a b c : Names) (xs ys : List Mention) → IsRead a xs false b → IsRead a (xs ++ ys) false c
read-stop a b c xs ys p = λ rest. ap (unknown_with a) (append_assoc xs ys rest) ∙ p (ys ++ rest)

pub read-known : (a b : Names) (xs : List Mention) (k l : Bool) → k ≡ l → IsRead a xs k b → IsRead a xs l b
read-known a b xs k l e p = subst (λ m. IsRead a xs m b) e p

or_false : (b : Bool) → (b || false) ≡ b
or_false true = refl
or_false false = refl

none-unknown : (b : Names) → unknown_with b [] ≡ false
unfolding unknown_with
none-unknown b = refl

pub read-end : (a b : Names) (xs : List Mention) (known : Bool) → IsRead a xs known b → unknown_with a xs ≡ not known
read-end a b xs known p =
    sym (ap (unknown_with a) (append-nil xs)) ∙ (p [] ∙ (ap (λ c. not known || c) (none-unknown b) ∙ or_false (not known)))

-- ---- a loop: `part` gives the mentions of one element

-- what is said of all elements from here on is said of all
abbrev pub IsSoFar : {X : Type 0} → (List X → List Mention) → Names → List X → Names → List X → Type 0
IsSoFar all before xs now rest = (later : List Mention) → unknown_with before (all xs ++ later) ≡ unknown_with now (all rest ++ later)

module _ {X : Type 0} (all : List X → List Mention) (part : X → List Mention) (is_all : (x : X) (xs : List X) → all (x ∷ xs) ≡ part x ++ all xs) where
  turned : (xs : List X) (i : ℕ) (r : X) (a b : Names) (later : List Mention) → i < length xs → r ≡ get_or xs i r → IsSoFar all a xs b (drop i xs)
      → unknown_with a (all xs ++ later) ≡ unknown_with b (part r ++ (all (drop (i + 1) xs) ++ later))
  turned xs i r a b later h is so =
      so later ∙ (ap (λ ys. unknown_with b (all ys ++ later)) (rest_is xs i r h is)
      ∙ (ap (λ ms. unknown_with b (ms ++ later)) (is_all r (drop (i + 1) xs)) ∙ ap (unknown_with b) (append_assoc (part r) (all (drop (i + 1) xs)) later)))

  pub loop-more : (xs : List X) (i : ℕ) (r : X) (a b c : Names) → i < length xs → r ≡ get_or xs i r → IsSoFar all a xs b (drop i xs) → IsRead b (part r) true c
      → IsSoFar all a xs c (drop (i + 1) xs)
  loop-more xs i r a b c h is so p = λ later. turned xs i r a b later h is so ∙ p (all (drop (i + 1) xs) ++ later)

  pub loop-stop : (xs : List X) (i : ℕ) (r : X) (a b c e : Names) → i < length xs → r ≡ get_or xs i r → IsSoFar all a xs b (drop i xs) → IsRead b (part r) false c
      → IsRead a (all xs) false e
  loop-stop xs i r a b c e h is so p = λ later. turned xs i r a b later h is so ∙ p (all (drop (i + 1) xs) ++ later)

-- ---- the whole text

-- The sets of names are those of the module.
pub start : (m : pure.Module) (p b d : Name → Bool) (before : List Name) → ((q : Name) → p q ≡ is_among (parameter_names (all_parameters m)) q)
    → ((q : Name) → b q ≡ is_among before q) → ((q : Name) → d q ≡ is_declared_among (declarations m) q)
    → (ms : List Mention) → uses_other p b d ms ≡ uses_unknown m before ms
start m p b d before hp hb hd [] = refl
start m p b d before hp hb hd (used n ∷ ms) =
    ap (λ x. not (cond x (b n) (d n)) || uses_other p b d ms) (hp n)
    ∙ (ap (λ x. not (cond (is_among (parameter_names (all_parameters m)) n) x (d n)) || uses_other p b d ms) (hb n)
    ∙ (ap (λ x. not (cond (is_among (parameter_names (all_parameters m)) n) (is_among before n) x) || uses_other p b d ms) (hd n)
    ∙ ap (λ x. not (cond (is_among (parameter_names (all_parameters m)) n) (is_among before n) (is_declared_among (declarations m) n)) || x) (start m p b d before hp hb hd ms)))
start m p b d before hp hb hd (declares n ∷ ms) =
    start m p (λ q. same_name n q || b q) d (n ∷ before) hp (λ q. ap (λ x. same_name n q || x) (hb q)) hd ms

pub start-names : (m : pure.Module) (ns : Names) → ((q : Name) → has_name ns.parameters q ≡ is_among (parameter_names (all_parameters m)) q)
    → ((q : Name) → has_net ns.nets q ≡ is_declared_among (declarations m) q) → ((q : Name) → has_name ns.before q ≡ false)
    → (ms : List Mention) → unknown_with ns ms ≡ uses_unknown m [] ms
unfolding unknown_with
start-names m ns hp hd hb ms = start m (has_name ns.parameters) (has_name ns.before) (has_net ns.nets) [] hp hb hd ms

-- parameters, the list of ports, items
pub text-stop : (a b : Names) (xs ys zs : List Mention) → IsRead a xs true b → IsRead b ys false b → true ≡ unknown_with a (xs ++ ys ++ zs)
text-stop a b xs ys zs p q = sym (read-end a b (xs ++ ys ++ zs) false (read-stop a b b (xs ++ ys) zs (read-then a b b xs ys false p q)))

pub text-read : (a b c : Names) (xs ys zs : List Mention) (known : Bool) → IsRead a xs true b → IsRead b ys true b → IsRead b zs known c → not known ≡ unknown_with a (xs ++ ys ++ zs)
text-read a b c xs ys zs known p q r = sym (read-end a c (xs ++ ys ++ zs) known (read-then a b c (xs ++ ys) zs known (read-then a b b xs ys true p q) r))

pub undeclared-first : (source : pure.Source) (m : pure.Module) (b : Bool) → b ≡ uses_unknown m [] (mentions m) → b ≡ true → true ≡ has_undeclared source m
undeclared-first source m b e h = sym (ap (λ x. x || instantiates_unknown source m.items) (sym e ∙ h))

pub undeclared-rest : (source : pure.Source) (m : pure.Module) (b r : Bool) → b ≡ uses_unknown m [] (mentions m) → b ≡ false → r ≡ instantiates_unknown source m.items → r ≡ has_undeclared source m
undeclared-rest source m b r e h k = k ∙ sym (ap (λ x. x || instantiates_unknown source m.items) (sym e ∙ h))
