use Rattle.std.proofs.Common.{◌≡◌, ◌++◌, map, drop}
use Rattle.v_elab.specs.Names.{top_front, is_given_input, chosen, left_out}
use Rattle.v_elab.proofs.naming.inputs_among.Given as goal

abbrev pub invariant-loop-name : goal.invariant-loop-name
invariant-loop-name l = record {
  inputs : map (λ n. n.now) l.found.inputs.items ++ chosen (is_given_input l.names l.clock top_front) (map (λ n. n.now) (drop l.name-index l.list))
      ≡ chosen (is_given_input l.names l.clock top_front) (map (λ n. n.now) l.list);
  others : map (λ n. n.now) l.found.others.items ++ left_out (is_given_input l.names l.clock top_front) (map (λ n. n.now) (drop l.name-index l.list))
      ≡ left_out (is_given_input l.names l.clock top_front) (map (λ n. n.now) l.list);
}
