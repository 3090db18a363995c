-- Swapped references change no byte of what is printed: `exchange-printed`. Assumes nothing.
use mathlib.Core.Bool.{cond}
use mathlib.Core.List.{List, []}
use mathlib.Core.Option.{Option, none, some}
use mathlib.Core.Path.{◌≡◌, refl, ap, ap₂, ◌∙◌}
use lib.Dec.{leb}
use lib.IntN.{ℤ}
use Rattle.codelist.specs.declared.Refusal.TheVariants.{TooLong}
use Rattle.codelist.proofs.Exchange.{same-codelist}
use Rattle.engine.specs.declared.Engine.{Engine}
use Rattle.engine.specs.declared.Refusal.TheVariants.{Load}
use Rattle.engine.specs.Engine.{empty_engine, loaded_of}
use Rattle.engine.specs.Exchange.{ExchangedEngine}
use Rattle.engine.proofs.Exchange.{exchange-calls}
use Rattle.text.specs.Input.{box, sheet_of, after_line, box_lines}
use Rattle.text.specs.Output as text
use Rattle.text.specs.Answer as text-answer
use Rattle.bisection.proofs.Exchange.{exchange-cut}
use Rattle.cut_text.specs.Input.{after_first, depth_in}
use Rattle.cut_text.specs.Output.{bisected_text}
use Rattle.cut_text.specs.Answer.{cut_text, rest_text, answer_of}
use Rattle.cut_text.specs.Exchange.{ExchangePrinted}

cut-alike : (e f : Engine) → ExchangedEngine e f → (d : ℤ) (b : Option (List ℤ)) → cut_text e d b ≡ cut_text f d b
cut-alike e f h d (some xs) = ap₂ bisected_text h.factors (exchange-cut e f xs d h)
cut-alike e f h d none = refl

pub exchange-printed : ExchangePrinted
unfolding answer_of
exchange-printed s t h =
    let u = after_first s in
    let v = after_first t in
    let k = h.input in
    let l = exchange-calls.load empty_engine empty_engine (sheet_of box u) (sheet_of box v) (same-codelist _) k.sheet in
    let f = (loaded_of empty_engine (sheet_of box v)).engine in
    let p : rest_text (depth_in s) u ≡ rest_text (depth_in s) v = ap₂ text-answer.unless_refused l.outcome
    (cut-alike _ _ l.engine (depth_in s) (box_lines 8 [] (after_line box u)) ∙ ap (λ w. cut_text f (depth_in s) (box_lines 8 [] w)) k.rest) in
    let q = p ∙ ap (λ d. rest_text d v) h.depth in
    λ i. cond (leb (h.long i) 8192) (q i) (text.refusal_text (Load TooLong))
