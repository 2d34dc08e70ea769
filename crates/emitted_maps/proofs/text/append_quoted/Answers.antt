use Rattle.std.specs.String.{string_bytes}
use Rattle.emitted_maps.proofs.Joined.{quoted_after}
use Rattle.emitted_maps.proofs.text.append_quoted.Goals as goal

pub returns : goal.returns
returns c =
    quoted_after (string_bytes c.args.text.now) (string_bytes c.push_str.new.self) (string_bytes c.push_str-2.new.self) (string_bytes c.push_str-3.new.self)
    c.args.name.now c.in_ok-push_str.ensures.bytes c.in_ok-push_str-2.ensures.bytes c.in_ok-push_str-3.ensures.bytes
