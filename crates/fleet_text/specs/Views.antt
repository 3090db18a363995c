-- What the code's readers and their answers say. For private contracts only.
use Rattle.std.specs.Prelude.{cond, List, [], ◌∷◌, ◌++◌, ◌≡◌, ℕ, ◌*◌, eqb, ℤ, length, take, drop}
use Rattle.std.specs.Cmp.Lexicographic.{pointwise}
use Rattle.std.specs.declared.option.Option as std
use Rattle.std.specs.declared.option.Option.TheVariants.{Some, None}
use Rattle.std.specs.declared.result.Result.{Result}
use Rattle.std.specs.declared.result.Result.TheVariants.{Ok, Err}
use Rattle.std.specs.Borrow.{Bor}
use Rattle.std.proofs.Math.Option.{Option, none, some}
use Rattle.codelist.specs.Read.{Read, good, bad}
use Rattle.text.specs.Output as text
use Rattle.boats.specs.declared.Boat.{Boat}
use Rattle.boats.specs.declared.Report.{Report}
use Rattle.boats.specs.Boats.{numbers_of}
use Rattle.boats.specs.Promises.{Eights}
use Rattle.fleet_text.specs.declared.Refusal.{Refusal}
use Rattle.fleet_text.specs.declared.Refusal.TheVariants.{Load, Page}
use Rattle.fleet_text.specs.Input.{boats, boat_lines}
use Rattle.fleet_text.specs.Output.{report_text, refusal_text}

-- A boat's line, and the boats of the lines
abbrev pub numbers_read : std.Option (Boat × Bor (List ℕ)) → Read (List ℤ)
numbers_read (Some p) = good p.0.numbers p.1.now
numbers_read None = bad

abbrev pub boats_read : std.Option (List Boat) → Option (List (List ℤ))
boats_read (Some bs) = some (numbers_of bs)
boats_read None = none

-- and those of what stands from the line `boats` on: none without that line
abbrev pub boats_from : List ℕ → Option (List (List ℤ))
boats_from s = cond (pointwise eqb (take 6 s) (boats ++ (10 ∷ []))) (boat_lines 1000 [] (drop 6 s)) none

abbrev pub concat : List (List ℤ) → List ℤ
concat [] = []
concat (b ∷ bs) = b ++ concat bs

-- The numbers of the records, eight each, one after another at the front of xs
pub record Flat (bs : List (List ℤ)) (xs : List ℤ) : Type 0 where
  pub eights : Eights bs
  pub same : take (8 * length bs) xs ≡ concat bs

-- What is printed of a page
abbrev pub refused_text : Refusal → List ℕ
refused_text (Load why) = text.refusal_text why
refused_text (Page why) = refusal_text why

abbrev pub told : Result (ℕ × Report) Refusal → List ℕ
told (Ok p) = report_text p.0 p.1
told (Err why) = refused_text why
