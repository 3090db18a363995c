-- `text::is_line` meets its contract. Assumes nothing.
use mathlib.Core.Bool.{Bool, ◌&&◌}
use mathlib.Core.List.{[], ◌∷◌}
use mathlib.Core.Path.{ap, ◌∙◌}
use lib.Dec.{eqb}
use lib.ListN.{length, drop}
use Rattle.std.proofs.lemmas.List.{take_rest}
use Rattle.std.specs.List.{starts_with}
use Rattle.text.proofs.Splitting.{line_is}
use Rattle.text.proofs.is_line.Goals as goal

pub returns-then-starts_with : goal.returns-then-starts_with
returns-then-starts_with c =
    let a = c.args in
    (rw (take_rest a.s.now (length a.w.now)) at c.starts_with-then-starts_with.ensures.value)
    ∙ ap (λ (t : Bool). t && starts_with eqb (drop (length a.w.now) a.s.now) (10 ∷ [])) c.if-starts_with.ensures.value
    ∙ line_is a.w.now a.s.now

pub returns-else-starts_with : goal.returns-else-starts_with
returns-else-starts_with c =
    let a = c.args in
    c.if-starts_with.false
    ∙ ap (λ (t : Bool). t && starts_with eqb (drop (length a.w.now) a.s.now) (10 ∷ [])) c.if-starts_with.ensures.value
    ∙ line_is a.w.now a.s.now
