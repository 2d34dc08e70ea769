-- Lemmas for who reads or writes several times: how lists that are told grow, and how counts rise.
use Rattle.std.proofs.Common.{◌≡◌, ◌<◌, ◌≤◌, ◌+◌, ℕ, List, [], ◌∷◌, ◌++◌, take, map, refl, ap, sym, ◌∙◌, append-nil, append_assoc, arith, Some, None, inl, inr, Ok, Err, length, get_or, String, Global, string_bytes, OnOk, IsErrOf}
use Rattle.std.proofs.lemmas.List.{map-append, take_more, length-map}
use Rattle.std.proofs.Math.ListN.{get_or-map}
use Rattle.std.specs.declared.result.Result.{Result}
use Rattle.wb_outside.specs.declared.reading.ReadStop.{ReadStop}
use Rattle.wb_outside.specs.declared.reading.ReadStop.TheVariants.{Failed, NoMemory}
use Rattle.std.specs.declared.option.Option.{Option}
use Rattle.std.specs.Option.{option_map}
use Rattle.wb_outside.specs.Outside.{Rose, last_count, with_appended, GrewByPrefix, IsStartOf, AreStartsOf}

-- nothing added
pub with_appended_nil : {A : Type 0} (told : Option (List A)) → with_appended told [] ≡ told
with_appended_nil None = refl
with_appended_nil (Some xs) = ap Some (append-nil xs)

-- two additions
pub with_appended_twice : {A : Type 0} (told : Option (List A)) (xs ys : List A) →
    with_appended (with_appended told xs) ys ≡ with_appended told (xs ++ ys)
with_appended_twice None xs ys = refl
with_appended_twice (Some told) xs ys = ap Some (append_assoc told xs ys)

-- a count that rose at a later call rose over both, and one that rose and did not fall since has risen
pub rose_later : (before middle after : ℕ) → before ≤ middle → Rose middle after → Rose before after
rose_later before middle after le (inl rose) = inl (omega arith)
rose_later before middle after le (inr last) = inr last

pub rose_earlier : (before middle after : ℕ) → Rose before middle → middle ≤ after → after ≤ last_count → Rose before after
rose_earlier before middle after (inl rose) le range = inl (omega arith)
rose_earlier before middle after (inr last) le range = inr (omega arith)

-- the name at this place is the next of those to ask for
pub take_named : (names : List (String Global)) (i : ℕ) (name : String Global) (bytes : List ℕ) → i < length names →
    name ≡ get_or names i name → bytes ≡ string_bytes name →
    take (i + 1) (map string_bytes names) ≡ take i (map string_bytes names) ++ bytes ∷ []
take_named names i name bytes below is same =
    let inside : i < length (map string_bytes names) = simp length-map below in
    take_more (map string_bytes names) i (string_bytes name) inside
    ∙ ap (λ last. take i (map string_bytes names) ++ last ∷ [])
    (get_or-map string_bytes names i name ∙ ap string_bytes (sym is) ∙ sym same)

-- one more name asked for
pub appended_more : (before middle after : Option (List (List ℕ))) (names : List (List ℕ)) (i : ℕ) (name : List ℕ) →
    middle ≡ with_appended before (take i names) → take (i + 1) names ≡ take i names ++ name ∷ [] →
    after ≡ with_appended middle (name ∷ []) → after ≡ with_appended before (take (i + 1) names)
appended_more before middle after names i name so_far next added =
    added ∙ ap (λ told. with_appended told (name ∷ [])) so_far
    ∙ with_appended_twice before (take i names) (name ∷ []) ∙ ap (with_appended before) (sym next)

-- whatever a read answers, the names asked for are a prefix of all
pub grew_at_read : {T : Type 0} (result : Result T ReadStop) (before middle after : Option (List (List ℕ)))
    (names : List (List ℕ)) (i : ℕ) (name : List ℕ) →
    middle ≡ with_appended before (take i names) → take (i + 1) names ≡ take i names ++ name ∷ [] →
    OnOk result (after ≡ with_appended middle (name ∷ [])) →
    (IsErrOf result Failed → after ≡ with_appended middle (name ∷ [])) → (IsErrOf result NoMemory → after ≡ middle) →
    GrewByPrefix before after names
grew_at_read (Ok value) before middle after names i name so_far next ok failed no_memory =
    (i + 1, appended_more before middle after names i name so_far next ok)
grew_at_read (Err Failed) before middle after names i name so_far next ok failed no_memory =
    (i + 1, appended_more before middle after names i name so_far next (failed refl))
grew_at_read (Err NoMemory) before middle after names i name so_far next ok failed no_memory =
    (i, no_memory refl ∙ so_far)

-- one more file read
pub starts_more : (held there : Option (List ℕ → Option (List ℕ))) (names : List (List ℕ)) (i limit : ℕ)
    (contents after : List (List ℕ)) (name bytes : List ℕ) → there ≡ held →
    take (i + 1) names ≡ take i names ++ name ∷ [] → after ≡ contents ++ bytes ∷ [] →
    AreStartsOf held (take i names) limit contents → IsStartOf there name limit bytes →
    AreStartsOf held (take (i + 1) names) limit after
starts_more held there names i limit contents after name bytes keeps next pushed so_far here =
    rw (next, pushed) (starts_push held (take i names) limit contents name bytes so_far (rw keeps at here))
  where
    starts_push : (held : Option (List ℕ → Option (List ℕ))) (names : List (List ℕ)) (limit : ℕ) (contents : List (List ℕ))
        (name bytes : List ℕ) → AreStartsOf held names limit contents → IsStartOf held name limit bytes →
        AreStartsOf held (names ++ name ∷ []) limit (contents ++ bytes ∷ [])
    starts_push None names limit contents name bytes before here = tt
    starts_push (Some files) names limit contents name bytes before here =
        simp map-append (ap (λ found. found ++ option_map (take (limit + 1)) (files name) ∷ []) before ∙ ap (λ last. map Some contents ++ last ∷ []) here)
