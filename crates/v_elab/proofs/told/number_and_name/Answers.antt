use Rattle.std.proofs.Common.{Some}
use Rattle.v_elab.proofs.Telling.{uncut, cut, number_read, number_lost}
use Rattle.v_elab.proofs.told.number_and_name.Goals as goal

pub returns-in_err-digits : goal.returns-in_err-digits
returns-in_err-digits c k n low e = absurd (uncut k n c.args.text.now low e c.split_once.result c.split_once.ensures.cases c.in_err-digits.was)

pub returns-in-Ok : goal.returns-in-Ok
returns-in-Ok c k n low e =
    let parts = cut k n c.args.text.now low e c.split_once.result c.split_once.ensures.cases _ c.in_ok-digits.was in
    let number = number_read k c.in-Ok.number c.in_ok-digits.digits.now c.parse.result low parts.0 c.parse.ensures.value.0 c.in-Ok.is in
    λ i. Some (number i, parts.1 i)

pub returns-in-Err : goal.returns-in-Err
returns-in-Err c k n low e =
    let parts = cut k n c.args.text.now low e c.split_once.result c.split_once.ensures.cases _ c.in_ok-digits.was in
    absurd (number_lost k c.in-Err.field-0 c.in_ok-digits.digits.now c.parse.result low parts.0 c.parse.ensures.value.0 c.in-Err.is)
