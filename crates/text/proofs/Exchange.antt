-- Swapped references change no byte of what is printed: `exchange-printed`. Assumes nothing.
use mathlib.Core.Bool.{cond}
use mathlib.Core.List.{List, []}
use mathlib.Core.Option.{Option, none, some}
use mathlib.Core.Path.{◌≡◌, refl, ap, ap₂, ◌∙◌}
use lib.Dec.{leb}
use lib.IntN.{ℤ}
use Rattle.codelist.specs.declared.Refusal.TheVariants.{TooLong}
use Rattle.codelist.proofs.Exchange.{same-codelist}
use Rattle.engine.specs.declared.Engine.{Engine}
use Rattle.engine.specs.declared.Refusal.TheVariants.{Load}
use Rattle.engine.specs.Engine.{empty_engine, loaded_of}
use Rattle.engine.specs.Exchange.{ExchangedEngine}
use Rattle.engine.proofs.Exchange.{exchange-calls}
use Rattle.text.specs.Input.{box, sheet_of, after_line, box_lines}
use Rattle.text.specs.Output.{refusal_text}
use Rattle.text.specs.Answer.{unless_refused, rating_text, rated_text, answer_of}
use Rattle.text.specs.Exchange.{ExchangePrinted}

rated-alike : (e f : Engine) → ExchangedEngine e f → (b : Option (List ℤ)) → rated_text e b ≡ rated_text f b
rated-alike e f h (some xs) = ap₂ rating_text h.factors (exchange-calls.rate e f xs h)
rated-alike e f h none = refl

pub exchange-printed : ExchangePrinted
unfolding answer_of
exchange-printed s t h =
    let l = exchange-calls.load empty_engine empty_engine (sheet_of box s) (sheet_of box t) (same-codelist _) h.sheet in
    let f = (loaded_of empty_engine (sheet_of box t)).engine in
    let p = ap₂ unless_refused l.outcome
    (rated-alike _ _ l.engine (box_lines 8 [] (after_line box s)) ∙ ap (λ u. rated_text f (box_lines 8 [] u)) h.rest) in
    λ i. cond (leb (h.long i) 8192) (p i) (refusal_text (Load TooLong))
