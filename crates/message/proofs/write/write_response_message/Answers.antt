-- `message::write::write_response_message` meets its contract: document 01's writer behind the service byte, and then that byte.
use borrow.Author.Rules.{rules}
use Rattle.request_file_transfer_response.specs.Writing.{response_of}
use Rattle.message.proofs.Led.{response-leads}
use Rattle.message.proofs.write.write_response_message.Goals as goal

pub write_led-requires-clause-leads : goal.write_led-requires-clause-leads
write_led-requires-clause-leads c =
    let a = c.args in (_, response-leads (response_of a.kind a.max_number_of_block_length.now a.data_format_identifier.0 a.file_size a.position.file_position), λ old r new gave. search rules)

pub returns : goal.returns
returns c =
    let a = c.args in c.write_led.ensures _ (response-leads (response_of a.kind a.max_number_of_block_length.now a.data_format_identifier.0 a.file_size a.position.file_position)) (λ old r new gave. search rules)
