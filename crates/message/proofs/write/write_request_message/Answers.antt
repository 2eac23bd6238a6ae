-- `message::write::write_request_message` meets its contract: document 01's writer behind the service byte, and then that byte.
use borrow.Author.Rules.{rules}
use Rattle.request_file_transfer.specs.Writing.{request_of}
use Rattle.message.proofs.Led.{request-leads}
use Rattle.message.proofs.write.write_request_message.Goals as goal

pub write_led-requires-clause-leads : goal.write_led-requires-clause-leads
write_led-requires-clause-leads c =
    let a = c.args in (_, request-leads (request_of a.kind a.file_path_and_name.now a.data_format_identifier.0 a.size), λ old r new gave. search rules)

pub returns : goal.returns
returns c =
    let a = c.args in c.write_led.ensures _ (request-leads (request_of a.kind a.file_path_and_name.now a.data_format_identifier.0 a.size)) (λ old r new gave. search rules)
