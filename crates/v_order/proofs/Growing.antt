-- Lists that grow by the drivers of one thing after the other.
use Rattle.std.proofs.Common.{◌≡◌, ◌∙◌, refl, ap, sym, List, [], ◌∷◌, ◌++◌}
use Rattle.std.specs.Prelude.{map}
use Rattle.std.proofs.lemmas.List.{append_assoc, append-nil, map-append}
use Rattle.verilog_trees.specs.Syntax.{Expression, Target, Statement, blocking, Item}
use Rattle.verilog_meaning.specs.Register.{combinational_blocks}
use Rattle.verilog_meaning.specs.Settled.{assignments}
use Rattle.v_drivers.proofs.Driving.{links-of-items}
use Rattle.v_order.specs.declared.driver.Driver.{Driver}
use Rattle.v_order.specs.Drivers.{as_statements, drivers, Driving, by_link, by_block, statement_by, all_links, all_blocks, drivings}
use Rattle.v_order.specs.Lists.{driving_in, drivings_in, statement_in, statements_in}

-- ---- lists that grow

pub turn : (t a b p rest : List Driving) → t ≡ a ++ (p ++ rest) → b ≡ a ++ p → t ≡ b ++ rest
turn t a b p rest e h = e ∙ sym (append_assoc a p rest) ∙ ap (λ z. z ++ rest) (sym h)

pub end : (t a p : List Driving) → t ≡ a ++ p → p ≡ [] → a ≡ t
end t a p e h = sym (e ∙ ap (λ z. a ++ z) h ∙ append-nil a)

pub none : (a p : List Driving) → p ≡ [] → a ≡ a ++ p
none a p h = sym (append-nil a) ∙ ap (λ z. a ++ z) (sym h)

pub pushed : (xs ys : List Driver) (d : Driver) (x : Driving) → ys ≡ xs ++ d ∷ [] → driving_in d ≡ x → drivings_in ys ≡ drivings_in xs ++ x ∷ []
pushed xs ys d x e h = ap drivings_in e ∙ map-append driving_in xs (d ∷ []) ∙ ap (λ z. drivings_in xs ++ z ∷ []) h

pub begun : (t : List Driving) (xs : List Driver) → xs ≡ [] → t ≡ drivings_in xs ++ t
begun t xs e = ap (λ ys. drivings_in ys ++ t) (sym e)

pub same : (a b p q : List Driving) → p ≡ q → b ≡ a ++ p → b ≡ a ++ q
same a b p q e h = h ∙ ap (λ z. a ++ z) e

-- ---- continuous assignments

abbrev pub Links : Type 0
Links = List (Target × Expression)

pub statements-both : (xs ys : Links) → as_statements (xs ++ ys) ≡ as_statements xs ++ as_statements ys
statements-both [] ys = refl
statements-both (a ∷ xs) ys = ap (λ zs. blocking a.0 a.1 ∷ zs) (statements-both xs ys)

pub links-more : (i : Item) (items : List Item) → as_statements (assignments (i ∷ items)) ≡ as_statements (assignments (i ∷ [])) ++ as_statements (assignments items)
links-more i items = ap as_statements (links-of-items i items) ∙ statements-both (assignments (i ∷ [])) (assignments items)

links-both : (xs ys : Links) → all_links (xs ++ ys) ≡ all_links xs ++ all_links ys
links-both [] ys = refl
links-both (a ∷ xs) ys = ap (λ zs. by_link a.0 a.1 ∷ zs) (links-both xs ys)

-- those of the first, which end with nothing, and the rest
pub links-front : (xs ys : Links) → all_links (xs ++ ys) ≡ all_links (xs ++ []) ++ all_links ys
links-front xs ys = links-both xs ys ∙ ap (λ zs. all_links zs ++ all_links ys) (sym (append-nil xs))

-- ---- items

-- the drivers of one item, and those of the rest
pub drivers-more : (i : Item) (items : List Item) → drivers (i ∷ items) ≡ drivers (i ∷ []) ++ drivers items
drivers-more i items =
    let l = as_statements (assignments (i ∷ [])) in
    let b = combinational_blocks (i ∷ []) in
    ap (λ zs. l ++ (zs ++ drivers items)) (sym (append-nil b)) ∙ sym (append_assoc l (b ++ []) (drivers items))

pub drivings-more : (i : Item) (items : List Item) → drivings (i ∷ items) ≡ drivings (i ∷ []) ++ drivings items
drivings-more i items =
    let l = all_links (assignments (i ∷ [])) in
    let b = all_blocks (combinational_blocks (i ∷ [])) in
    ap (λ zs. l ++ (zs ++ drivings items)) (sym (append-nil b)) ∙ sym (append_assoc l (b ++ []) (drivings items))

-- an item that is a list of continuous assignments
pub of-links : (links : Links) → all_links links ≡ all_links (links ++ []) ++ ([] ++ [])
of-links links = sym (append-nil (all_links links)) ∙ ap (λ zs. all_links zs ++ []) (sym (append-nil links))

-- ---- drivers as statements

by-links : (links : Links) → map statement_by (all_links links) ≡ as_statements links
by-links [] = refl
by-links (a ∷ links) = ap (λ zs. blocking a.0 a.1 ∷ zs) (by-links links)

by-blocks : (xs : List Statement) → map statement_by (all_blocks xs) ≡ xs
by-blocks [] = refl
by-blocks (x ∷ xs) = ap (λ zs. x ∷ zs) (by-blocks xs)

both : (l m : List Driving) (xs ys : List Statement) → map statement_by l ≡ xs → map statement_by m ≡ ys → map statement_by (l ++ m) ≡ xs ++ ys
both l m xs ys e f = map-append statement_by l m ∙ ap (λ zs. zs ++ map statement_by m) e ∙ ap (λ zs. xs ++ zs) f

pub by-items : (items : List Item) → map statement_by (drivings items) ≡ drivers items
by-items [] = refl
by-items (i ∷ items) =
    both (all_links (assignments (i ∷ []))) (all_blocks (combinational_blocks (i ∷ [])) ++ drivings items) (as_statements (assignments (i ∷ []))) (combinational_blocks (i ∷ []) ++ drivers items)
    (by-links (assignments (i ∷ [])))
    (both (all_blocks (combinational_blocks (i ∷ []))) (drivings items) (combinational_blocks (i ∷ [])) (drivers items) (by-blocks (combinational_blocks (i ∷ []))) (by-items items))

in-list : (ds : List Driver) → statements_in ds ≡ map statement_by (drivings_in ds)
in-list [] = refl
in-list (d ∷ ds) = ap (λ zs. statement_in d ∷ zs) (in-list ds)

pub same-statements : (ds : List Driver) (items : List Item) → drivings_in ds ≡ drivings items → statements_in ds ≡ drivers items
same-statements ds items e = in-list ds ∙ ap (map statement_by) e ∙ by-items items
