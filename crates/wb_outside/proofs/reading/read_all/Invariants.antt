use Rattle.std.proofs.Common.{◌≡◌, ◌≤◌, ◌+◌, take, map, length, All, string_bytes}
use Rattle.wb_outside.specs.Outside.{with_appended, AreStartsOf}
use Rattle.wb_outside.proofs.reading.read_all.Given as goal

-- the names before this one were asked for, and the contents are what they start with
abbrev pub invariant-loop-name : goal.invariant-loop-name
invariant-loop-name g l = record {
  keeps : g.S.Shelf.holds l.shelf ≡ g.S.Shelf.holds l.fn.shelf;
  asked : g.S.Shelf.asked l.shelf ≡
      with_appended (g.S.Shelf.asked l.fn.shelf) (take l.name-index (map string_bytes l.names));
  counted : length l.contents.items ≡ l.name-index;
  stays : g.S.Shelf.faults l.shelf ≡ g.S.Shelf.faults l.fn.shelf;
  last : g.S.Shelf.last_fault l.shelf ≡ g.S.Shelf.last_fault l.fn.shelf;
  bounded : All (λ bytes. length bytes.items ≤ l.limit + 1) l.contents.items;
  starts : AreStartsOf (g.S.Shelf.holds l.fn.shelf) (take l.name-index (map string_bytes l.names)) l.limit
      (map (λ bytes. bytes.items) l.contents.items);
}
