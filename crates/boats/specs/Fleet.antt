-- The calls of the fleet page. 02, request 3: "An empty desk gives 10 first, and a list of more than 1,000 boats, or with an unfinished record, gets
-- 14 with place 0 next."
use Rattle.std.specs.Prelude.{cond, ◌&&◌, List, [], ◌∷◌, ℕ, ◌%◌, leb, eqb, ℤ, pos, length}
use Rattle.std.specs.declared.result.Result.{Result}
use Rattle.std.specs.declared.result.Result.TheVariants.{Ok, Err}
use Rattle.codelist.specs.Codelist.{ratable}
use Rattle.engine.specs.declared.Engine.{Engine}
use Rattle.boats.specs.declared.Report.{Report}
use Rattle.boats.specs.declared.Refusal.{Refusal}
use Rattle.boats.specs.declared.Refusal.TheVariants.{NoCodelist, Boats}
use Rattle.boats.specs.InFull.{Reported, Refused}
use Rattle.boats.specs.InFull.{Counted}
use Rattle.boats.specs.Boats.{records}
use Rattle.boats.specs.Report.{report_of}

-- the number and place of each refusal
abbrev pub number_of : Refusal → ℕ
number_of NoCodelist = 10
number_of Boats = 14

abbrev pub place_of : Refusal → ℕ
place_of r = 0

-- the numbers in the order of checking
abbrev pub fleet_numbers : List ℕ
fleet_numbers = 10 ∷ 14 ∷ []

-- after a refusal every figure is 0, as 01 has it of every result field
abbrev pub no_report : Report
no_report = record { accepted = 0; range = 0; divisor = 0; limit = 0; low = pos 0; high = pos 0; greatest = 0 }

abbrev pub reported : Report → Counted
reported r = record { outcome = Reported; report = r }

abbrev pub refused : Refusal → Counted
refused r = record { outcome = Refused r; report = no_report }

-- the code's answer in full
abbrev pub in_full : Result Report Refusal → Counted
in_full (Ok r) = reported r
in_full (Err r) = refused r

-- THE PAGE of records
unfoldable pub fleet_of : Engine → List (List ℤ) → Counted
fleet_of e bs =
    cond (ratable e.codelist)
    (cond (leb (length bs) 1000) (reported (report_of e bs)) (refused Boats))
    (refused NoCodelist)

-- THE PAGE of the numbers of records, one after another
unfoldable pub fleet_of_numbers : Engine → List ℤ → Counted
fleet_of_numbers e xs =
    cond (ratable e.codelist)
    (cond (leb (length xs) 8000 && eqb (length xs % 8) 0) (reported (report_of e (records xs))) (refused Boats))
    (refused NoCodelist)
