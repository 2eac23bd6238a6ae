-- `message::write::write_routine_request_message` meets its contract: document 01's writer behind the service byte, and then that byte.
use borrow.Author.Rules.{rules}
use Rattle.routine_control.specs.SubFunction.{sub_of}
use Rattle.routine_control.specs.Request.{routine_request}
use Rattle.message.proofs.Led.{routine-request-leads}
use Rattle.message.proofs.write.write_routine_request_message.Goals as goal

pub write_led-requires-clause-leads : goal.write_led-requires-clause-leads
write_led-requires-clause-leads c =
    let a = c.args in (_, routine-request-leads (routine_request a.suppress_positive_response (sub_of a.sub_function) a.routine_id a.option_record.now), λ old r new gave. search rules)

pub returns : goal.returns
returns c =
    let a = c.args in c.write_led.ensures _ (routine-request-leads (routine_request a.suppress_positive_response (sub_of a.sub_function) a.routine_id a.option_record.now)) (λ old r new gave. search rules)
