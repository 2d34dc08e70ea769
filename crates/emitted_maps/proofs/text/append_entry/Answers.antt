use Rattle.std.proofs.Common.{ap, ◌∙◌, ◌++◌}
use Rattle.std.specs.Prelude.{decimal}
use Rattle.std.specs.String.{string_bytes}
use Rattle.emitted_maps.proofs.Joined.{entry_after}
use Rattle.emitted_maps.proofs.text.append_entry.Goals as goal

pub returns : goal.returns
returns c =
    let o₁ = string_bytes c.push_str.new.self in
    entry_after (string_bytes c.args.text.now) o₁ (string_bytes c.push_str-2.new.self) (string_bytes c.push_str-3.new.self) (string_bytes c.append_quoted.new.text)
    (string_bytes c.push_str-4.new.self) (decimal c.args.bound) c.args.name.now c.in_ok-push_str.ensures.bytes
    (c.in_ok-push_str-2.ensures.bytes ∙ ap (λ b. o₁ ++ b) c.format.ensures.text) c.in_ok-push_str-3.ensures.bytes c.in_ok-append_quoted.ensures
    c.in_ok-push_str-4.ensures.bytes
