-- `bounds::run::bent_in` meets its contract. Assumes nothing.
use mathlib.Core.Path.{sym, ap, ◌∙◌}
use Rattle.codelist.specs.declared.Year.{Year}
use Rattle.rules.specs.Run.{bent_in}
use Rattle.bounds.proofs.run.bent_in.Goals as goal

pub returns-in-Y2016 : goal.returns-in-Y2016
unfolding bent_in
returns-in-Y2016 c = sym (ap (λ (y : Year). bent_in y c.args.n) c.in-Y2016.is)

pub returns-in-Y2014 : goal.returns-in-Y2014
unfolding bent_in
returns-in-Y2014 c = c.all_of.ensures ∙ sym (ap (λ (y : Year). bent_in y c.args.n) c.in-Y2014.is)
