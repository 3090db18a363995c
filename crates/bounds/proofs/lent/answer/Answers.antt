-- `bounds::lent::answer` meets its contract. Assumes nothing.
use borrow.Author.Rules.{rules}
use mathlib.Core.Path.{◌≡◌, sym, ◌∙◌}
use Rattle.std.specs.Prelude.{Some, None, Err}
use Rattle.rules.specs.declared.Refusal.TheVariants.{NoCodelist}
use Rattle.rules.specs.Rate.{in_full}
use Rattle.bounds.proofs.Reading.{in_held, no-front, lent-counted, lent-well, lent-lies, lent-answer}
use Rattle.bounds.proofs.lent.answer.Goals as goal

pub returns-in_err-front : goal.returns-in_err-front
returns-in_err-front c =
    let none : c.head.result ≡ None = search rules in
    let refused : c.from_residual.result ≡ Err NoCodelist = search rules in
    rw refused (no-front _ _ (sym c.head.ensures ∙ none))

pub rate-requires-clause-counted : goal.rate-requires-clause-counted
rate-requires-clause-counted c =
    let some : c.head.result ≡ Some c.in_ok-front.front = search rules in
    lent-counted _ _ (sym c.head.ensures ∙ some)

pub rate-requires-clause-well_formed : goal.rate-requires-clause-well_formed
rate-requires-clause-well_formed c =
    let some : c.head.result ≡ Some c.in_ok-front.front = search rules in
    λ k o i g. lent-well _ _ (sym c.head.ensures ∙ some) k o (search rules)

pub returns : goal.returns
returns c =
    let some : c.head.result ≡ Some c.in_ok-front.front = search rules in
    let head = sym c.head.ensures ∙ some in
    let held : in_full c.map_err.result ≡ in_held c.args.state.now c.rate.result = search rules in
    held ∙ lent-answer _ _ head _ _ (c.rate.ensures _ (lent-lies _ _ head _ (λ k o i g. search rules)))
