-- Swapped references change no byte of what is printed: `exchange-printed`. Assumes nothing.
use mathlib.Core.List.{List}
use mathlib.Core.Option.{Option, none, some}
use mathlib.Core.Path.{◌≡◌, refl, ap, ap₂, ◌∙◌}
use lib.IntN.{ℤ}
use lib.ListN.{length}
use Rattle.codelist.proofs.Exchange.{same-codelist}
use Rattle.engine.specs.declared.Engine.{Engine}
use Rattle.engine.specs.Engine.{empty_engine}
use Rattle.engine.specs.Exchange.{ExchangedEngine}
use Rattle.engine.proofs.Exchange.{exchange-calls}
use Rattle.text.specs.Answer.{unless_refused}
use Rattle.boats.proofs.Exchange.{exchange-fleet}
use Rattle.fleet_text.specs.Input.{sheet_in, boats_in}
use Rattle.fleet_text.specs.Output.{counted_text}
use Rattle.fleet_text.specs.Answer.{page_text, answer_of}
use Rattle.fleet_text.specs.Exchange.{ExchangePrinted}

page-alike : (e f : Engine) → ExchangedEngine e f → (b : Option (List (List ℤ))) → page_text e b ≡ page_text f b
page-alike e f h (some bs) = ap (counted_text (length bs)) (exchange-fleet.of-records e f bs h)
page-alike e f h none = refl

pub exchange-printed : ExchangePrinted
unfolding answer_of
exchange-printed s t h =
    let l = exchange-calls.load empty_engine empty_engine (sheet_in s) (sheet_in t) (same-codelist _) h.sheet in
    ap₂ unless_refused l.outcome (page-alike _ _ l.engine (boats_in s) ∙ ap (page_text _) h.boats)
