-- `keep_packet` meets its contract: inputs, items, how many bytes and the bytes, one after the other.
-- Assumes nothing.
use Rattle.data_packet.specs.Answers.{inputs_of}
use Rattle.packet_ask.proofs.Copying.{kept_whole}
use Rattle.packet_ask.proofs.kept.keep_packet.Goals as goal

pub returns : goal.returns
returns c =
    let a = c.args in
    kept_whole a.state.now a.number (inputs_of a.inputs) a.total a.bytes.now c.keep_inputs.ensures c.keep_items.ensures c.keep_bytes.ensures
