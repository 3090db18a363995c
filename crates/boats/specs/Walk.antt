-- The running total over the boats, one after another: its report is that of the boats so far (`figures-walked`), and the greatest high end is kept
-- beside it.
use Rattle.std.specs.Prelude.{Bool, true, false, cond, ◌||◌, List, [], ◌∷◌, ℕ, ◌+◌, ◌*◌, ◌≤◌, eqb, ℤ, pos, nat_abs, ◌+ℤ◌, replicate}
use Rattle.std.specs.Int.Signed.{lt_z}
use Rattle.range.specs.declared.Range.{Range}
use Rattle.engine.specs.declared.Engine.{Engine}
use Rattle.engine.specs.InFull.{Outcome}
use Rattle.engine.specs.InFull.{Accepted, Refused}
use Rattle.engine.specs.InFull.{Rating}
use Rattle.engine.specs.Engine as engine
use Rattle.boats.specs.declared.Boat.{Boat}
use Rattle.boats.specs.declared.totals.Sum.{Sum}
use Rattle.boats.specs.declared.Report.{Report}
use Rattle.boats.specs.Boats.{boat_rating}
use Rattle.boats.specs.Fleet.{no_report}

abbrev pub boat_of : List ℤ → Boat
boat_of xs = record { numbers = xs }

abbrev pub no_boat : Boat
no_boat = boat_of (replicate 8 (pos 0))

abbrev pub start : Sum
start = record { report = no_report; top = pos 0 }

abbrev pub one : Bool → ℕ
one true = 1
one false = 0

-- a high end is the first one, or above the greatest so far
abbrev pub exceeds : Sum → ℤ → Bool
exceeds s h = eqb s.report.greatest 0 || lt_z s.top h

-- the boat at k, from 0, is accepted with the value v
unfoldable pub with_value : ℕ → Sum → Range → Sum
with_value k s v = record {
  report = record {
    accepted = s.report.accepted + 1;
    range = s.report.range;
    divisor = s.report.divisor;
    limit = s.report.limit;
    low = s.report.low +ℤ v.low;
    high = s.report.high +ℤ v.high;
    greatest = cond (exceeds s v.high) (k + 1) s.report.greatest;
  };
  top = cond (exceeds s v.high) v.high s.top;
}

-- a boat is refused with the number n
unfoldable pub with_number : Report → ℕ → Report
with_number r n = record {
  accepted = r.accepted;
  range = r.range + one (eqb n 9);
  divisor = r.divisor + one (eqb n 11);
  limit = r.limit + one (eqb n 12);
  low = r.low;
  high = r.high;
  greatest = r.greatest;
}

abbrev pub with_outcome : ℕ → Sum → Outcome → Range → Sum
with_outcome k s Accepted v = with_value k s v
with_outcome k s (Refused r) v = record { report = with_number s.report (engine.number_of r); top = s.top }

abbrev pub with_rating : ℕ → Sum → Rating → Sum
with_rating k s r = with_outcome k s r.outcome r.limits.value

abbrev pub with_boat : Engine → ℕ → Sum → List ℤ → Sum
with_boat e k s b = with_rating k s (boat_rating e b)

-- the boats one after another, the first at k
unfoldable pub walked : Engine → ℕ → Sum → List (List ℤ) → Sum
walked e k s [] = s
walked e k s (b ∷ bs) = walked e (k + 1) (with_boat e k s b) bs

-- k boats make no greater figures
pub record Held (k : ℕ) (s : Sum) : Type 0 where
  pub accepted : s.report.accepted ≤ k
  pub range : s.report.range ≤ k
  pub divisor : s.report.divisor ≤ k
  pub limit : s.report.limit ≤ k
  pub low : nat_abs s.report.low ≤ k * 2000000000
  pub high : nat_abs s.report.high ≤ k * 2000000000
  pub top : nat_abs s.top ≤ 2000000000
