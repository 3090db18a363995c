-- The program `fleet` as a function of the bytes that it reads.
use Rattle.std.specs.Prelude.{List, ℕ, ℤ, length}
use Rattle.std.proofs.Math.Option.{Option, none, some}
use Rattle.engine.specs.declared.Engine.{Engine}
use Rattle.engine.specs.InFull.{Loading}
use Rattle.engine.specs.Engine.{empty_engine, loaded_of}
use Rattle.text.specs.Answer.{unless_refused}
use Rattle.boats.specs.declared.Refusal.TheVariants.{Boats}
use Rattle.boats.specs.Fleet.{fleet_of}
use Rattle.fleet_text.specs.Input.{sheet_in, boats_in}
use Rattle.fleet_text.specs.Output.{refusal_text, counted_text}

-- the page of the boats; 14 where there are none to be had
abbrev pub page_text : Engine → Option (List (List ℤ)) → List ℕ
page_text e (some bs) = counted_text (length bs) (fleet_of e bs)
page_text e none = refusal_text Boats

-- what a loading leads to: its refusal comes before one of the boats
abbrev pub loading_text : Loading → Option (List (List ℤ)) → List ℕ
loading_text l bs = unless_refused l.outcome (page_text l.engine bs)

-- THE OUTPUT
unfoldable pub answer_of : List ℕ → List ℕ
answer_of s = loading_text (loaded_of empty_engine (sheet_in s)) (boats_in s)
