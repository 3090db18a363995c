-- `bounds::run::answer` meets its contract. Assumes nothing.
use Rattle.codelist.proofs.Ratable.{not-counted}
use Rattle.bounds.proofs.Answers.{no-codelist}
use Rattle.bounds.proofs.run.answer.Goals as goal

pub returns-then-not-n-count : goal.returns-then-not-n-count
returns-then-not-n-count c = no-codelist _ _ (not-counted _ c.if-not-n-count.true)
