-- No second answer, and no second final contents of the list, meets the contract of `read_batch`.
-- Assumes nothing.
use Rattle.wire.proofs.UniqueWriting.{WritesOnce, wrote_once}
use Rattle.batch.proofs.read_batch.Kinds as read-batch-kinds
use Rattle.batch.proofs.read_batch.Reads as read-batch

pub read_batch_determined : WritesOnce 3 read-batch-kinds.ps read-batch-kinds.r (λ κs x. x.1.1.0) read-batch.Post
read_batch_determined κs a x y r₁ r₂ p q = wrote_once p q
