-- `numerals::byte_at` meets its contract: a byte of the slice fits, and is what stands at its place.
use mathlib.Core.Path.{sym, ◌∙◌}
use borrow.Author.Rules.{rules}
use Rattle.codelist.proofs.Laws.{peek-in, peek-out}
use Rattle.codelist.proofs.numerals.byte_at.Goals as goal

pub bounds-s-at : goal.bounds-s-at
bounds-s-at c = search rules

pub returns-then-at-s : goal.returns-then-at-s
returns-then-at-s c = c.from.ensures ∙ sym (peek-in _ _ c.if-at-s.true)

pub returns-else-at-s : goal.returns-else-at-s
returns-else-at-s c = sym (peek-out _ _ c.if-at-s.false)
