-- `fleet_text::refused` meets its contract. Assumes nothing.
use Rattle.std.proofs.Common.{rules}
use Rattle.writer.proofs.Writing.{put_refused}
use Rattle.fleet_text.specs.Output.{refusal_text}
use Rattle.fleet_text.proofs.refused.Goals as goal

pub returns-in-Page : goal.returns-in-Page
unfolding refusal_text
returns-in-Page c = search (rules, put_refused)
