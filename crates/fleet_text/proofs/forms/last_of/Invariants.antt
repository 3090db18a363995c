use Rattle.fleet_text.proofs.forms.last_of.Given as goal

abbrev pub invariant-loop : goal.invariant-loop
invariant-loop g l = goal.F-post g l.page l.last
