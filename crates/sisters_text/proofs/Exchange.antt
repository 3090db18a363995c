-- Swapped references change no byte of what is printed: `exchange-printed`. Assumes nothing.
use mathlib.Core.Bool.{cond}
use mathlib.Core.List.{List, []}
use mathlib.Core.Option.{Option, none, some}
use mathlib.Core.Path.{◌≡◌, refl, ap, ap₂, ◌∙◌}
use lib.Dec.{leb}
use lib.IntN.{ℤ}
use Rattle.codelist.specs.declared.Refusal.TheVariants.{TooLong}
use Rattle.codelist.proofs.Exchange.{same-codelist}
use Rattle.engine.specs.declared.Engine.{Engine}
use Rattle.engine.specs.declared.Refusal.TheVariants.{Load}
use Rattle.engine.specs.Engine.{empty_engine, loaded_of}
use Rattle.engine.specs.Exchange.{ExchangedEngine}
use Rattle.engine.proofs.Exchange.{exchange-calls}
use Rattle.text.specs.Input.{box, sheet_of, after_line, box_lines}
use Rattle.text.specs.Output.{refusal_text}
use Rattle.text.specs.Answer.{unless_refused}
use Rattle.increments.proofs.Exchange.{exchange-sisters}
use Rattle.sisters_text.specs.Input.{boats, boats_in}
use Rattle.sisters_text.specs.Output.{difference_text}
use Rattle.sisters_text.specs.Answer.{sisters_text, parts_text, answer_of}
use Rattle.sisters_text.specs.Exchange.{ExchangePrinted}

sisters-alike : (e f : Engine) → ExchangedEngine e f → (b : Option (List ℤ)) (bs : List ℤ) → sisters_text e b bs ≡ sisters_text f b bs
sisters-alike e f h (some xs) bs = ap difference_text (exchange-sisters e f xs bs h)
sisters-alike e f h none bs = refl

pub exchange-printed : ExchangePrinted
unfolding answer_of
exchange-printed s t h =
    let u = sheet_of boats s in
    let v = sheet_of boats t in
    let k = h.input in
    let l = exchange-calls.load empty_engine empty_engine (sheet_of box u) (sheet_of box v) (same-codelist _) k.sheet in
    let f = (loaded_of empty_engine (sheet_of box v)).engine in
    let b = ap₂ boats_in l.engine.factors h.rest in
    let p : parts_text u (after_line boats s) ≡ parts_text v (after_line boats t) = ap₂ unless_refused l.outcome
    (sisters-alike _ _ l.engine (box_lines 8 [] (after_line box u)) _ ∙ ap₂ (λ w bs. sisters_text f (box_lines 8 [] w) bs) k.rest b) in
    λ i. cond (leb (h.long i) 8192) (p i) (refusal_text (Load TooLong))
