use Rattle.std.proofs.Common.{◌<◌, ◌^◌, length, arith}
use Rattle.std.specs.String.{string_bytes}
use Rattle.std.proofs.lemmas.List.{length-map}
use Rattle.v_places.specs.Views.{spot_of, spots_of}
use Rattle.v_elab.proofs.Telling.{if_ok, if_ok_all, told_as_read, told_unread}
use Rattle.v_elab.proofs.told.told_name.Goals as goal

pub returns-in-Some : goal.returns-in-Some
returns-in-Some c =
    let many = length-map c.args.places.now spot_of in
    let few : length (spots_of c.args.places.now) < 2 ^ 64 = omega (arith, many) in
    if_ok c.dotted_name.result
    (λ s h. told_as_read (spots_of c.args.places.now) c.args.name.now (string_bytes s) c.in-Some.own.now c.in-Some.number few c.in-Some.ensures h) c.dotted_name.ensures

pub returns-in-None : goal.returns-in-None
returns-in-None c =
    let many = length-map c.args.places.now spot_of in
    let few : length (spots_of c.args.places.now) < 2 ^ 64 = omega (arith, many) in
    if_ok_all c.from_str.result (λ s. told_unread (spots_of c.args.places.now) c.args.name.now (string_bytes s) few c.in-None.ensures)
