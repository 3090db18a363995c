-- `cut_text::refused` meets its contract. Assumes nothing.
use Rattle.std.proofs.Common.{rules}
use Rattle.writer.proofs.Writing.{put_refused}
use Rattle.cut_text.specs.Output.{refusal_text}
use Rattle.cut_text.proofs.refused.Goals as goal

pub returns-in-Cut : goal.returns-in-Cut
unfolding refusal_text
returns-in-Cut c = search (rules, put_refused)
