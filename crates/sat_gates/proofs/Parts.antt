-- What stands in an operand of a node stands in its term.
use Rattle.std.proofs.Common.{◌≡◌, ◌∙◌, ℕ, Bool, true, false, ◌&&◌, List, [], ◌∷◌, ◌++◌, Contains, refl, sym, subst, inl, inr}
use Rattle.std.proofs.lemmas.List.Elements.{Contains-append_left, Contains-append_right}
use Rattle.std.proofs.lemmas.Bool.{false≢true, and_parts}
use Rattle.wb_values.specs.Value.{Sort, Entries}
use Rattle.model_meaning.specs.Term.{Term}
use Rattle.wb_terms.specs.declared.nodes.Node.{Node}
use Rattle.wb_terms.specs.declared.nodes.Node.TheVariants.{Name as NameNode, Truth, Const, Not, And, Or, Xor, Neg, Add, Sub, Mul, Shl, Lshr, Ashr, Eq, Ult, Ule, Slt, Sle, Concat, Extract, Zext, Sext, Ite, Load, Store}
use Rattle.wb_terms.specs.Graph.{tree_at, tree_of, operands_of}
use Rattle.sat_gates.specs.Names.{names_in, is_blastable}
use Rattle.sat_gates.specs.Cone.{IsPart}
use Rattle.sat_gates.proofs.Members.{none_contained, contained_cons}

pub itself : (t : Term) → IsPart t t
itself t = record { names = λ n s h. h; blastable = λ h. h }

pub within : (t u x : Term) → IsPart t u → IsPart u x → IsPart t x
within t u x p q = record { names = λ n s h. p.names n s (q.names n s h); blastable = λ h. q.blastable (p.blastable h) }

-- each of the trees at the places is a part
abbrev AreOperandParts : Term → List Term → List ℕ → Type 0
AreOperandParts t ts [] = Unit {0}
AreOperandParts t ts (k ∷ ks) = IsPart t (tree_at ts k) × AreOperandParts t ts ks

one : (t x : Term) → names_in t ≡ names_in x → is_blastable t ≡ is_blastable x → IsPart t x
one t x e f = record { names = λ n s h. subst (λ ns. Contains ns (n, s)) (sym e) h; blastable = λ h. sym f ∙ h }

first : (t x : Term) (rest : Entries Sort) → names_in t ≡ names_in x ++ rest → (is_blastable t ≡ true → is_blastable x ≡ true) → IsPart t x
first t x rest e f = record { names = λ n s h. subst (λ ns. Contains ns (n, s)) (sym e) (Contains-append_left (names_in x) rest (n, s) h); blastable = f }

second : (t x : Term) (front : Entries Sort) → names_in t ≡ front ++ names_in x → (is_blastable t ≡ true → is_blastable x ≡ true) → IsPart t x
second t x front e f = record { names = λ n s h. subst (λ ns. Contains ns (n, s)) (sym e) (Contains-append_right front (names_in x) (n, s) h); blastable = f }

middle : (t x : Term) (front rest : Entries Sort) → names_in t ≡ front ++ (names_in x ++ rest) → (is_blastable t ≡ true → is_blastable x ≡ true) → IsPart t x
middle t x front rest e f = record {
  names = λ n s h. subst (λ ns. Contains ns (n, s)) (sym e) (Contains-append_right front (names_in x ++ rest) (n, s) (Contains-append_left (names_in x) rest (n, s) h));
  blastable = f;
}

last : (t x : Term) (front next : Entries Sort) → names_in t ≡ front ++ (next ++ names_in x) → (is_blastable t ≡ true → is_blastable x ≡ true) → IsPart t x
last t x front next e f = record {
  names = λ n s h. subst (λ ns. Contains ns (n, s)) (sym e) (Contains-append_right front (next ++ names_in x) (n, s) (Contains-append_right next (names_in x) (n, s) h));
  blastable = f;
}

two : (ts : List Term) (t : Term) (x y : ℕ) → names_in t ≡ names_in (tree_at ts x) ++ names_in (tree_at ts y)
    → is_blastable t ≡ (is_blastable (tree_at ts x) && is_blastable (tree_at ts y)) → AreOperandParts t ts (x ∷ y ∷ [])
two ts t x y e f = (first t (tree_at ts x) (names_in (tree_at ts y)) e (λ h. (and_parts _ _ (sym f ∙ h)).0), (second t (tree_at ts y) (names_in (tree_at ts x)) e (λ h. (and_parts _ _ (sym f ∙ h)).1), tt))

operand_parts : (ns : Entries Sort) (ts : List Term) (n : Node) → AreOperandParts (tree_of ns ts n) ts (operands_of n)
operand_parts ns ts (NameNode n) = tt
operand_parts ns ts (Truth b) = tt
operand_parts ns ts (Const w x) = tt
operand_parts ns ts (Not x) = (one _ _ refl refl, tt)
operand_parts ns ts (Neg x) = (one _ _ refl refl, tt)
operand_parts ns ts (And x y) = two ts _ x.0 y.0 refl refl
operand_parts ns ts (Or x y) = two ts _ x.0 y.0 refl refl
operand_parts ns ts (Xor x y) = two ts _ x.0 y.0 refl refl
operand_parts ns ts (Add x y) = two ts _ x.0 y.0 refl refl
operand_parts ns ts (Sub x y) = two ts _ x.0 y.0 refl refl
operand_parts ns ts (Mul x y) = two ts _ x.0 y.0 refl refl
operand_parts ns ts (Shl x y) = two ts _ x.0 y.0 refl refl
operand_parts ns ts (Lshr x y) = two ts _ x.0 y.0 refl refl
operand_parts ns ts (Ashr x y) = two ts _ x.0 y.0 refl refl
operand_parts ns ts (Eq x y) = two ts _ x.0 y.0 refl refl
operand_parts ns ts (Ult x y) = two ts _ x.0 y.0 refl refl
operand_parts ns ts (Ule x y) = two ts _ x.0 y.0 refl refl
operand_parts ns ts (Slt x y) = two ts _ x.0 y.0 refl refl
operand_parts ns ts (Sle x y) = two ts _ x.0 y.0 refl refl
operand_parts ns ts (Concat x y) = two ts _ x.0 y.0 refl refl
operand_parts ns ts (Extract h l x) = (one _ _ refl refl, tt)
operand_parts ns ts (Zext w x) = (one _ _ refl refl, tt)
operand_parts ns ts (Sext w x) = (one _ _ refl refl, tt)
operand_parts ns ts (Ite x y z) = (first _ (tree_at ts x.0) _ refl (λ h. (and_parts _ _ h).0), (middle _ (tree_at ts y.0) (names_in (tree_at ts x.0)) (names_in (tree_at ts z.0)) refl (λ h. (and_parts _ _ (and_parts _ _ h).1).0), (last _ (tree_at ts z.0) (names_in (tree_at ts x.0)) (names_in (tree_at ts y.0)) refl (λ h. (and_parts _ _ (and_parts _ _ h).1).1), tt)))
operand_parts ns ts (Load x y) = (first _ (tree_at ts x.0) _ refl (λ h. absurd (false≢true h)), (second _ (tree_at ts y.0) (names_in (tree_at ts x.0)) refl (λ h. absurd (false≢true h)), tt))
operand_parts ns ts (Store x y z) = (first _ (tree_at ts x.0) _ refl (λ h. absurd (false≢true h)), (middle _ (tree_at ts y.0) (names_in (tree_at ts x.0)) (names_in (tree_at ts z.0)) refl (λ h. absurd (false≢true h)), (last _ (tree_at ts z.0) (names_in (tree_at ts x.0)) (names_in (tree_at ts y.0)) refl (λ h. absurd (false≢true h)), tt)))

part_among : (t : Term) (ts : List Term) (ks : List ℕ) (k : ℕ) → AreOperandParts t ts ks → Contains ks k → IsPart t (tree_at ts k)
part_among t ts [] k p h = absurd (none_contained k h)
part_among t ts (j ∷ js) k p h = elim (contained_cons j js k h) [
  | inl e ↦ subst (λ i. IsPart t (tree_at ts i)) e p.0
  | inr r ↦ part_among t ts js k p.1 r
]

pub operand_part : (ns : Entries Sort) (ts : List Term) (n : Node) (k : ℕ) → Contains (operands_of n) k → IsPart (tree_of ns ts n) (tree_at ts k)
operand_part ns ts n k h = part_among (tree_of ns ts n) ts (operands_of n) k (operand_parts ns ts n) h
