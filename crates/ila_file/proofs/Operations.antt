-- A list that is a term, by its items.
use Rattle.std.proofs.Common.{◌≡◌, ◌<◌, ◌≤◌, List, [], ◌∷◌, length, get_or, Option, None, option_and_then, refl, ap, ◌∙◌, arith}
use Rattle.wb_values.specs.Value.{Name}
use Rattle.model_files.specs.Written.{WrittenTerm}
use Rattle.model_files.specs.Shape.{term_in, sort_in, of_one, of_two, of_three}
use Rattle.serde_json.specs.Data.{Data, null, boolean, number, string, array, object, Items, no_items, item}
use Rattle.serde_json.specs.Find.{as_str}
use Rattle.serde_json.specs.View.{view, items_view}
use Rattle.serde_json.specs.declared.value.Value.{Value}

-- ---- by the data of the items

no_operand : (o : Data) → None ≡ term_in (array (item o no_items))
no_operand null = refl
no_operand (boolean t) = refl
no_operand (number n) = refl
no_operand (string s) = refl
no_operand (array ds) = refl
no_operand (object ms) = refl

one_operand : (o a : Data) → option_and_then (λ op. of_one op (term_in a)) (as_str o) ≡ term_in (array (item o (item a no_items)))
one_operand null a = refl
one_operand (boolean t) a = refl
one_operand (number n) a = refl
one_operand (string s) a = refl
one_operand (array ds) a = refl
one_operand (object ms) a = refl

two_operands : (o a b : Data) → option_and_then (λ op. of_two op a b (term_in a) (term_in b)) (as_str o) ≡ term_in (array (item o (item a (item b no_items))))
two_operands null a b = refl
two_operands (boolean t) a b = refl
two_operands (number n) a b = refl
two_operands (string s) a b = refl
two_operands (array ds) a b = refl
two_operands (object ms) a b = refl

three_operands : (o a b c : Data) → option_and_then (λ op. of_three op a b (term_in a) (term_in b) (term_in c)) (as_str o) ≡ term_in (array (item o (item a (item b (item c no_items)))))
three_operands null a b c = refl
three_operands (boolean t) a b c = refl
three_operands (number n) a b c = refl
three_operands (string s) a b c = refl
three_operands (array ds) a b c = refl
three_operands (object ms) a b c = refl

more_operands : (o a b c d : Data) (es : Items) → None ≡ term_in (array (item o (item a (item b (item c (item d es))))))
more_operands null a b c d es = refl
more_operands (boolean t) a b c d es = refl
more_operands (number n) a b c d es = refl
more_operands (string s) a b c d es = refl
more_operands (array ds) a b c d es = refl
more_operands (object ms) a b c d es = refl

-- ---- by the list of values

pub few_items : (xs : List Value) → length xs < 2 → None ≡ term_in (array (items_view xs))
few_items [] h = refl
few_items (x ∷ []) h = no_operand (view x)
few_items (x ∷ y ∷ xs) h = absurd (omega arith)

pub many_items : (xs : List Value) → 5 ≤ length xs → None ≡ term_in (array (items_view xs))
many_items [] h = absurd (omega arith)
many_items (x ∷ []) h = absurd (omega arith)
many_items (x ∷ y ∷ []) h = absurd (omega arith)
many_items (x ∷ y ∷ z ∷ []) h = absurd (omega arith)
many_items (x ∷ y ∷ z ∷ u ∷ []) h = absurd (omega arith)
many_items (x ∷ y ∷ z ∷ u ∷ v ∷ xs) h = more_operands (view x) (view y) (view z) (view u) (view v) (items_view xs)

pub no_memory_below : (xs : List Value) → length xs < 2 → None ≡ sort_in (array (items_view xs))
no_memory_below [] h = refl
no_memory_below (x ∷ []) h = refl
no_memory_below (x ∷ y ∷ xs) h = absurd (omega arith)

pub no_memory_above : (xs : List Value) → 3 ≤ length xs → None ≡ sort_in (array (items_view xs))
no_memory_above [] h = absurd (omega arith)
no_memory_above (x ∷ []) h = absurd (omega arith)
no_memory_above (x ∷ y ∷ []) h = absurd (omega arith)
no_memory_above (x ∷ y ∷ z ∷ xs) h = refl

three : (xs : List Value) (o a b : Value) → 3 ≤ length xs → length xs < 4 → o ≡ get_or xs 0 o → a ≡ get_or xs 1 a → b ≡ get_or xs 2 b → o ∷ a ∷ b ∷ [] ≡ xs
three [] o a b m n p q r = absurd (omega arith)
three (x ∷ []) o a b m n p q r = absurd (omega arith)
three (x ∷ y ∷ []) o a b m n p q r = absurd (omega arith)
three (x ∷ y ∷ z ∷ []) o a b m n p q r = λ i. p i ∷ q i ∷ r i ∷ []
three (x ∷ y ∷ z ∷ u ∷ xs) o a b m n p q r = absurd (omega arith)

four : (xs : List Value) (o a b c : Value) → 4 ≤ length xs → length xs < 5 → o ≡ get_or xs 0 o → a ≡ get_or xs 1 a → b ≡ get_or xs 2 b → c ≡ get_or xs 3 c → o ∷ a ∷ b ∷ c ∷ [] ≡ xs
four [] o a b c m n p q r s = absurd (omega arith)
four (x ∷ []) o a b c m n p q r s = absurd (omega arith)
four (x ∷ y ∷ []) o a b c m n p q r s = absurd (omega arith)
four (x ∷ y ∷ z ∷ []) o a b c m n p q r s = absurd (omega arith)
four (x ∷ y ∷ z ∷ u ∷ []) o a b c m n p q r s = λ i. p i ∷ q i ∷ r i ∷ s i ∷ []
four (x ∷ y ∷ z ∷ u ∷ v ∷ xs) o a b c m n p q r s = absurd (omega arith)

-- what is made of an operator and its operands is the term of the list
pub made_of_two : (xs : List Value) (o a b : Value) (op : Option Name) (x y t : Option WrittenTerm) → 3 ≤ length xs → length xs < 4
    → o ≡ get_or xs 0 o → a ≡ get_or xs 1 a → b ≡ get_or xs 2 b → op ≡ as_str (view o) → x ≡ term_in (view a) → y ≡ term_in (view b)
    → t ≡ option_and_then (λ p. of_two p (view a) (view b) x y) op → t ≡ term_in (array (items_view xs))
made_of_two xs o a b op x y t m n p q r e f g h =
    h ∙ ((λ i. option_and_then (λ k. of_two k (view a) (view b) (f i) (g i)) (e i))
    ∙ (two_operands (view o) (view a) (view b) ∙ ap (λ (vs : List Value). term_in (array (items_view vs))) (three xs o a b m n p q r)))

pub made_of_three : (xs : List Value) (o a b c : Value) (op : Option Name) (x y z t : Option WrittenTerm) → 4 ≤ length xs → length xs < 5
    → o ≡ get_or xs 0 o → a ≡ get_or xs 1 a → b ≡ get_or xs 2 b → c ≡ get_or xs 3 c → op ≡ as_str (view o)
    → x ≡ term_in (view a) → y ≡ term_in (view b) → z ≡ term_in (view c)
    → t ≡ option_and_then (λ p. of_three p (view a) (view b) x y z) op → t ≡ term_in (array (items_view xs))
made_of_three xs o a b c op x y z t m n p q r s e f g h k =
    k ∙ ((λ i. option_and_then (λ l. of_three l (view a) (view b) (f i) (g i) (h i)) (e i))
    ∙ (three_operands (view o) (view a) (view b) (view c) ∙ ap (λ (vs : List Value). term_in (array (items_view vs))) (four xs o a b c m n p q r s)))
