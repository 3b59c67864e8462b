-- `unpack::unpack` meets its contract: a refusal of the shape is handed on, else the shape's number is answered.
-- Assumes nothing.
use Rattle.unpack.proofs.Parts.{read_small}
use Rattle.unpack.proofs.unpack.Goals as goal

pub with_sign-requires : goal.with_sign-requires
with_sign-requires c = read_small _ _ _ c.in_ok-read.read c.in_ok-read.ensures
