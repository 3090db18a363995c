-- What is promised of the fleet page: proved in proofs/Promises.antt. That the routines give it is their contracts' to say. The words in
-- quotation marks are those of 02, request 3.
use Rattle.std.specs.Prelude.{◌≡◌, true, cond, ◌⊎◌, ◌↔◌, ℕ, suc, ◌+◌, ◌%◌, ◌≤◌, ◌<◌, ℤ, nat_abs, ◌+ℤ◌, length, get_or, take, ◌≤ℤ◌, ◌<ℤ◌}
use mathlib.Core.List.{List, [], ◌∷◌, ◌++◌, map, Memᴰ}
use Rattle.std.proofs.Math.Option.{Option, none, some}
use Rattle.exact.specs.Rat.{ℚ, 0ℚ, ◌+ℚ◌}
use Rattle.exact.specs.Units.{units, In}
use Rattle.codelist.specs.declared.Codelist.{Codelist}
use Rattle.codelist.specs.Codelist.{Ratable}
use Rattle.rules.specs.Exact.{Jet, premium_of}
use Rattle.engine.specs.declared.Engine.{Engine}
use Rattle.engine.specs.InFull.{Rating}
use Rattle.boats.specs.declared.Refusal.{Refusal}
use Rattle.boats.specs.declared.Refusal.TheVariants.{NoCodelist, Boats}
use Rattle.boats.specs.InFull.{Reported, Refused}
use Rattle.boats.specs.declared.Report.{Report}
use Rattle.boats.specs.Boats.{records, boat_rating}
use Rattle.boats.specs.Report.{is_accepted, high_end, report_of}
use Rattle.boats.specs.Fleet.{number_of, fleet_numbers, no_report, reported, fleet_of, fleet_of_numbers}

-- Every record has eight numbers: those of numbers (`eights`), and those of structs, whose arrays have eight. A shorter one that has not
-- the factors' numbers is refused with 8.
abbrev pub Eights : List (List ℤ) → Type 0
Eights [] = Unit
Eights (b ∷ bs) = (length b ≡ 8) × Eights bs

-- Of the first k ratings, the one at i, from 0, is "the first accepted boat with the greatest high end"
pub record First (f : ℕ → Rating) (k i : ℕ) : Type 0 where
  pub inside : i < k
  pub accepted : is_accepted (f i) ≡ true
  pub most : (j : ℕ) → j < k → is_accepted (f j) ≡ true → high_end (f j) ≤ℤ high_end (f i)
  pub first : (j : ℕ) → j < i → is_accepted (f j) ≡ true → high_end (f j) <ℤ high_end (f i)

-- What each refusal is for: "An empty desk gives 10 first", and what is wrong with the boats "gets 14 with place 0 next"
abbrev pub RefusedFor : Codelist → Type 0 → Refusal → Type 0
RefusedFor c wrong NoCodelist = ¬ (Ratable c)
RefusedFor c wrong Boats = Ratable c × wrong

-- "a list of more than 1,000 boats, or with an unfinished record": of records only their number can be wrong
abbrev pub TooMany : List (List ℤ) → Type 0
TooMany bs = 1000 < length bs

abbrev pub NoRecords : List ℤ → Type 0
NoRecords xs = (8000 < length xs) ⊎ (¬ (length xs % 8 ≡ 0))

-- the counts and sums of one report are those of two others, added
pub record Joined (r s u : Report) : Type 0 where
  pub accepted : u.accepted ≡ r.accepted + s.accepted
  pub range : u.range ≡ r.range + s.range
  pub divisor : u.divisor ≡ r.divisor + s.divisor
  pub limit : u.limit ≡ r.limit + s.limit
  pub low : u.low ≡ r.low +ℤ s.low
  pub high : u.high ≡ r.high +ℤ s.high

-- the exact premium, where there is one, and the sum of those of the accepted boats, each at the point of its numbers
abbrev pub value_of : Option Jet → ℚ
value_of none = 0ℚ
value_of (some j) = j.value

unfoldable pub income_of : Engine → List (List ℤ) → ℚ
income_of e [] = 0ℚ
income_of e (b ∷ bs) = cond (is_accepted (boat_rating e b)) (value_of (premium_of e.codelist (map units b))) 0ℚ +ℚ income_of e bs

pub record FleetFigures : Type 0 where
  -- "accepted plus refused equals its length": every boat is counted once, and none is refused with 8 or 10
  pub counts : (e : Engine) (bs : List (List ℤ)) → Eights bs → (fleet_of e bs).outcome ≡ Reported
      → (fleet_of e bs).report.accepted + (fleet_of e bs).report.range + (fleet_of e bs).report.divisor + (fleet_of e bs).report.limit ≡ length bs
  pub eights : (xs : List ℤ) → Eights (records xs)
  -- "An empty list gives all zeros"
  pub empty-list : (e : Engine) → Ratable e.codelist → fleet_of e [] ≡ reported no_report
  -- each refusal is given exactly where it is due, and else the report: of records, and of numbers
  pub refused-listed : (e : Engine) (bs : List (List ℤ)) (r : Refusal) → ((fleet_of e bs).outcome ≡ Refused r) ↔ RefusedFor e.codelist (TooMany bs) r
  pub reported-else : (e : Engine) (bs : List (List ℤ)) → ((fleet_of e bs).outcome ≡ Reported) ↔ (Ratable e.codelist × (¬ (TooMany bs)))
  pub numbers-refused-listed : (e : Engine) (xs : List ℤ) (r : Refusal)
      → ((fleet_of_numbers e xs).outcome ≡ Refused r) ↔ RefusedFor e.codelist (NoRecords xs) r
  pub numbers-reported-else : (e : Engine) (xs : List ℤ) → ((fleet_of_numbers e xs).outcome ≡ Reported) ↔ (Ratable e.codelist × (¬ (NoRecords xs)))
  -- the numbers of the refusals, in the order of checking
  pub numbers : (r : Refusal) → Memᴰ (number_of r) fleet_numbers
  -- after a refusal every figure is 0
  pub refused-zero : (e : Engine) (bs : List (List ℤ)) (r : Refusal) → (fleet_of e bs).outcome ≡ Refused r → (fleet_of e bs).report ≡ no_report
  pub numbers-refused-zero : (e : Engine) (xs : List ℤ) (r : Refusal) → (fleet_of_numbers e xs).outcome ≡ Refused r → (fleet_of_numbers e xs).report ≡ no_report
  -- "the position, from 1, of the first accepted boat with the greatest high end (0 if none)"
  pub greatest-none : (e : Engine) (bs : List (List ℤ)) → ((fleet_of e bs).report.greatest ≡ 0) ↔ ((fleet_of e bs).report.accepted ≡ 0)
  pub greatest-first : (e : Engine) (bs : List (List ℤ)) (k : ℕ) → (fleet_of e bs).report.greatest ≡ suc k
      → First (λ j. boat_rating e (get_or bs j [])) (length bs) k
  -- "the exact sums": they are within ±2·10¹², so that an i64 holds them
  pub fits : (e : Engine) (bs : List (List ℤ))
      → (nat_abs (fleet_of e bs).report.low ≤ 2000000000000) × (nat_abs (fleet_of e bs).report.high ≤ 2000000000000)
  -- "These are figures of the list": those of a list and of another one after it add up
  pub joined : (e : Engine) (bs cs : List (List ℤ)) → Joined (report_of e bs) (report_of e cs) (report_of e (bs ++ cs))
  -- "the rest are ignored"
  pub ignored : (e : Engine) (bs cs : List (List ℤ)) → map (take e.codelist.factors) bs ≡ map (take e.codelist.factors) cs → fleet_of e bs ≡ fleet_of e cs
  -- one page for both forms of a list
  pub same-list : (e : Engine) (xs : List ℤ) → length xs % 8 ≡ 0 → fleet_of_numbers e xs ≡ fleet_of e (records xs)
  -- every accepted boat has an exact premium, and the club's exact income from them lies between the page's two sums
  pub premium : (e : Engine) (b : List ℤ) → is_accepted (boat_rating e b) ≡ true → (j : Jet) × (premium_of e.codelist (map units b) ≡ some j)
  pub total : (e : Engine) (bs : List (List ℤ)) → In (report_of e bs).low (report_of e bs).high (income_of e bs)
