use Rattle.std.proofs.Common.{◌++◌, List, ℕ, map, ap, ◌∙◌}
use Rattle.std.specs.Borrow.{Bor}
use Rattle.std.specs.String.{string_bytes}
use Rattle.reports.specs.Report.{in_braces, quoted}
use Rattle.emitted_designs.specs.Map.{text_members, written_by_their_names}
use Rattle.emitted_maps.proofs.Joined.{whole_written}
use Rattle.emitted_maps.proofs.text.map_text.Goals as goal

pub returns : goal.returns
returns c =
    let names = λ (xs : List (Bor (List ℕ))). map (λ x. x.now) xs in
    let object = λ (ns : List (List ℕ)). in_braces (text_members (written_by_their_names ns)) in
    let o₁ = string_bytes c.in_ok-text.text in
    let o₅ = string_bytes c.push_str-2.new.self in
    let o₇ = string_bytes c.push_str-4.new.self in
    let o₉ = string_bytes c.push_str-5.new.self in
    whole_written o₁ (string_bytes c.append_names.new.text) (string_bytes c.push_str.new.self) (string_bytes c.append_instructions.new.text) o₅
    (string_bytes c.push_str-3.new.self) o₇ (string_bytes c.append_names-2.new.text) o₉ (string_bytes c.append_quoted.new.text) (string_bytes c.push_str-6.new.self)
    _ _ _ _ _ c.in_ok-text.ensures.ok (c.in_ok-append_names.ensures ∙ ap (λ ns. o₁ ++ object ns) (ap names c.deref.ensures.value ∙ c.in_ok-inputs.ensures))
    c.in_ok-push_str.ensures.bytes c.in_ok-append_instructions.ensures c.in_ok-push_str-2.ensures.bytes
    (c.in_ok-push_str-3.ensures.bytes ∙ ap (λ v. o₅ ++ v) c.invariants_text.ensures) c.in_ok-push_str-4.ensures.bytes
    (c.in_ok-append_names-2.ensures ∙ ap (λ ns. o₇ ++ object ns) (ap names c.deref-2.ensures.value ∙ c.in_ok-states.ensures)) c.in_ok-push_str-5.ensures.bytes
    (c.in_ok-append_quoted.ensures ∙ ap (λ n. o₉ ++ quoted n) c.as_str.ensures.value) c.in_ok-push_str-6.ensures.bytes
