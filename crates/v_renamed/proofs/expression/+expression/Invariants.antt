use Rattle.std.proofs.Common.{◌≡◌, ◌++◌, map, drop}
use Rattle.v_renamed.specs.NewNames.{new_name}
use Rattle.v_syntax.specs.Tree.{tree_of}
use Rattle.v_renamed.specs.Copies.{link_of, test_of, choice_of, part_under, link_under, test_under, choice_under}
use Rattle.v_renamed.proofs.expression.+expression.Given as goal

abbrev pub invariant-copy_parts-loop-part : goal.invariant-copy_parts-loop-part
invariant-copy_parts-loop-part l =
    map tree_of l.copies.items ++ map (part_under (new_name l.names)) (drop l.part-index l.parts) ≡ map (part_under (new_name l.names)) l.parts

abbrev pub invariant-copy_links-loop-link : goal.invariant-copy_links-loop-link
invariant-copy_links-loop-link l =
    map link_of l.copies.items ++ map (link_under (new_name l.names)) (drop l.link-index l.links) ≡ map (link_under (new_name l.names)) l.links

abbrev pub invariant-copy_tests-loop-link : goal.invariant-copy_tests-loop-link
invariant-copy_tests-loop-link l =
    map test_of l.copies.items ++ map (test_under (new_name l.names)) (drop l.link-index l.links) ≡ map (test_under (new_name l.names)) l.links

abbrev pub invariant-copy_choices-loop-choice : goal.invariant-copy_choices-loop-choice
invariant-copy_choices-loop-choice l =
    map choice_of l.copies.items ++ map (choice_under (new_name l.names)) (drop l.choice-index l.choices) ≡ map (choice_under (new_name l.names)) l.choices
