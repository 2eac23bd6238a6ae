-- `message::write::write_routine_response_message` meets its contract: document 01's writer behind the service byte, and then that byte.
use borrow.Author.Rules.{rules}
use Rattle.routine_control.specs.SubFunction.{sub_of}
use Rattle.routine_control.specs.Response.{routine_response}
use Rattle.message.proofs.Led.{routine-response-leads}
use Rattle.message.proofs.write.write_routine_response_message.Goals as goal

pub write_led-requires-clause-leads : goal.write_led-requires-clause-leads
write_led-requires-clause-leads c =
    let a = c.args in (_, routine-response-leads (routine_response (sub_of a.sub_function) a.routine_id a.status_record.now), λ old r new gave. search rules)

pub returns : goal.returns
returns c =
    let a = c.args in c.write_led.ensures _ (routine-response-leads (routine_response (sub_of a.sub_function) a.routine_id a.status_record.now)) (λ old r new gave. search rules)
