-- `replay_line::replay_text` meets its contract: the text of what the run answers, in room enough for any.
use borrow.Author.Rules.{rules}
use Rattle.paper.specs.ReplayProgram.{replay_text}
use Rattle.ascii_text.proofs.Laid.{put-over}
use Rattle.replay_line.proofs.replay_text.Goals as goal

pub returns : goal.returns
unfolding replay_text
returns c =
    let o = rw c.run.ensures at (put-over c.put_answer.ensures (search rules)) in
    record { value = o.0; out_after = o.1.0; prefix_len = o.1.1 }
