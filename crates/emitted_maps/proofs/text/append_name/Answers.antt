use Rattle.std.specs.String.{string_bytes}
use Rattle.reports.specs.Report.{quoted}
use Rattle.emitted_maps.proofs.Joined.{member_after}
use Rattle.emitted_maps.proofs.text.append_name.Goals as goal

pub returns : goal.returns
returns c =
    member_after (string_bytes c.args.text.now) (string_bytes c.append_quoted.new.text) (string_bytes c.push_str.new.self) (string_bytes c.append_quoted-2.new.text)
    c.args.name.now (quoted c.args.name.now) c.in_ok-append_quoted.ensures c.in_ok-push_str.ensures.bytes c.in_ok-append_quoted-2.ensures
