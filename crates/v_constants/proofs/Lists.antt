-- Parameters, and names of parameters, that stand one after the other.
use Rattle.std.proofs.Common.{◌≡◌, ◌∙◌, refl, ap, sym, cond, List, [], ◌∷◌, ◌++◌, append_assoc}
use mathlib.Core.Path.{fun_ext}
use Rattle.wb_values.specs.Value.{Name, Entries}
use Rattle.verilog_trees.specs.Syntax.{ParameterDeclaration}
use Rattle.verilog_meaning.specs.Expression.{Object}
use Rattle.verilog_meaning.specs.Hierarchy.{value_names, overridable}
use Rattle.verilog_designs.specs.Known.{KnownOverrides, with_known_values, with_known_parameters}

pub parameters_append : (ds es : List ParameterDeclaration) (given : KnownOverrides) (known : Entries Object)
    → with_known_parameters (ds ++ es) given known ≡ with_known_parameters es given (with_known_parameters ds given known)
parameters_append [] es given known = refl
parameters_append (d ∷ ds) es given known = parameters_append ds es given (with_known_values d given d.values known)

-- those of the header, and then those of the body
pub all_so : (header body : List ParameterDeclaration) (g h : KnownOverrides) (start mid last : Entries Object) → ((n : Name) → g n ≡ h n) → start ≡ []
    → mid ≡ with_known_parameters header g start → last ≡ with_known_parameters body g mid → last ≡ with_known_parameters (header ++ body) h []
all_so header body g h start mid last e f i j =
    j ∙ (ap (with_known_parameters body g) i
    ∙ (sym (parameters_append header body g start)
    ∙ (ap (with_known_parameters (header ++ body) g) f
    ∙ ap (λ k. with_known_parameters (header ++ body) k []) (fun_ext e))))

pub overridable_append : (ds es : List ParameterDeclaration) → overridable (ds ++ es) ≡ overridable ds ++ overridable es
overridable_append [] es = refl
overridable_append (d ∷ ds) es =
    ap (λ ns. cond d.is_local [] (value_names d.values) ++ ns) (overridable_append ds es)
    ∙ sym (append_assoc (cond d.is_local [] (value_names d.values)) (overridable ds) (overridable es))

-- what is put between two lists
pub put_before : (old new part rest : List Name) → new ≡ old ++ part → old ++ (part ++ rest) ≡ new ++ rest
put_before old new part rest h = sym (append_assoc old part rest) ∙ ap (λ xs. xs ++ rest) (sym h)

pub two_parts : (old mid new a b all : List Name) → mid ≡ old ++ a → new ≡ mid ++ b → all ≡ a ++ b → new ≡ old ++ all
two_parts old mid new a b all h k e = k ∙ (ap (λ xs. xs ++ b) h ∙ (append_assoc old a b ∙ ap (λ xs. old ++ xs) (sym e)))
