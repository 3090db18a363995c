-- The calls by class number. 02, request 13: "each loaded and rated by its class number 1 to 4", "a class number outside 1 to 4 gets 21 with place 0, before
-- everything else". Every call that reads or writes an engine takes one: it is the engine's call on the engine of that class, so that its 10 "now means an
-- empty class".
use Rattle.std.specs.Prelude.{cond, List, ◌∷◌, ℕ, ℤ, pos, Option, Some, None, Result, Ok, Err}
use Rattle.codelist.specs.Load.{load_numbers}
use Rattle.range.specs.declared.Range.{Range}
use Rattle.rules.specs.declared.Limits.{Limits}
use Rattle.rules.specs.Rate.{rate_numbers, no_limits}
use Rattle.formulas.specs.Load.{formula_numbers}
use Rattle.engine.specs.InFull.{Loading, Rating}
use Rattle.engine.specs.InFull as engine-outcome
use Rattle.engine.specs.Engine as Engine
use Rattle.engine.specs.Engine.{loaded_of, formula_loaded_of, rated_of}
use Rattle.boats.specs.InFull.{Counted}
use Rattle.boats.specs.InFull as fleet-outcome
use Rattle.boats.specs.declared.Report.{Report}
use Rattle.boats.specs.Fleet as Fleet
use Rattle.boats.specs.Fleet.{fleet_numbers, fleet_of, fleet_of_numbers, no_report}
use Rattle.bisection.specs.InFull.{Bisected}
use Rattle.bisection.specs.InFull as cut-outcome
use Rattle.bisection.specs.Cut as Cut
use Rattle.bisection.specs.Cut.{cut_numbers, cut_of}
use Rattle.increments.specs.InFull.{Difference}
use Rattle.increments.specs.Call.{sisters_of}
use Rattle.margin.specs.InFull as margin
use Rattle.margin.specs.declared.Widening.{Widening}
use Rattle.margin.specs.Edge as Edge
use Rattle.margin.specs.Edge.{edge_numbers, edge_for}
use Rattle.classes.specs.declared.Classes.{Classes}
use Rattle.classes.specs.declared.Refusal as refusal
use Rattle.classes.specs.declared.Refusal.{Refusal}
use Rattle.classes.specs.InFull.{Outcome, Accepted, Refused, ClassLoading, ClassRating, ClassFleet, ClassDifference}
use Rattle.classes.specs.EdgeInFull.{ClassEdge}
use Rattle.classes.specs.EdgeInFull as edge
use Rattle.classes.specs.Classes.{is_class, engine_at, with_engine}

-- ════ refusals ════

-- "21 with place 0"; the others are those of each call
abbrev pub number_of : Refusal → ℕ
number_of refusal.TheVariants.Class = 21
number_of (refusal.TheVariants.Engine r) = Engine.number_of r
number_of (refusal.TheVariants.Cut r) = Cut.number_of r
number_of (refusal.TheVariants.Fleet r) = Fleet.number_of r
number_of (refusal.TheVariants.Edge r) = Edge.number_of r

abbrev pub place_of : Refusal → ℕ
place_of refusal.TheVariants.Class = 0
place_of (refusal.TheVariants.Engine r) = Engine.place_of r
place_of (refusal.TheVariants.Cut r) = Cut.place_of r
place_of (refusal.TheVariants.Fleet r) = Fleet.place_of r
place_of (refusal.TheVariants.Edge r) = Edge.place_of r

-- "before everything else": the numbers of each call, in the order of checking
abbrev pub class_load_numbers : List ℕ
class_load_numbers = 21 ∷ load_numbers

abbrev pub class_formula_numbers : List ℕ
class_formula_numbers = 21 ∷ formula_numbers

abbrev pub class_rate_numbers : List ℕ
class_rate_numbers = 21 ∷ rate_numbers

abbrev pub class_cut_numbers : List ℕ
class_cut_numbers = 21 ∷ cut_numbers

abbrev pub class_fleet_numbers : List ℕ
class_fleet_numbers = 21 ∷ fleet_numbers

abbrev pub class_edge_numbers : List ℕ
class_edge_numbers = 21 ∷ edge_numbers

-- the outcomes of the engine's calls, of cut ratings and of pages
abbrev pub engine_outcome : engine-outcome.Outcome → Outcome
engine_outcome engine-outcome.Accepted = Accepted
engine_outcome (engine-outcome.Refused r) = Refused (refusal.TheVariants.Engine r)

abbrev pub cut_outcome : cut-outcome.Outcome → Outcome
cut_outcome cut-outcome.Accepted = Accepted
cut_outcome (cut-outcome.Refused r) = Refused (refusal.TheVariants.Cut r)

abbrev pub fleet_outcome : fleet-outcome.Outcome → Outcome
fleet_outcome fleet-outcome.Reported = Accepted
fleet_outcome (fleet-outcome.Refused r) = Refused (refusal.TheVariants.Fleet r)

-- ════ loading ════

-- class k with what its engine became
abbrev pub loading_of : Classes → ℕ → Loading → ClassLoading
loading_of d k l = record { outcome = engine_outcome l.outcome; classes = with_engine d k l.engine }

-- 21, and the classes as they are
abbrev pub unknown_loading : Classes → ClassLoading
unknown_loading d = record { outcome = Refused refusal.TheVariants.Class; classes = d }

-- of a sheet
unfoldable pub class_loaded : Classes → ℕ → List ℕ → ClassLoading
class_loaded d k s = cond (is_class k) (loading_of d k (loaded_of (engine_at d k) s)) (unknown_loading d)

-- of a formula with its factor count (request 12)
unfoldable pub class_formula : Classes → ℕ → List ℕ → ℕ → ClassLoading
class_formula d k s n = cond (is_class k) (loading_of d k (formula_loaded_of (engine_at d k) s n)) (unknown_loading d)

-- ════ rating ════

abbrev pub rating_of : Rating → ClassRating
rating_of r = record { outcome = engine_outcome r.outcome; limits = r.limits }

-- 21, and every field of the limits is 0
abbrev pub unknown_rating : ClassRating
unknown_rating = record { outcome = Refused refusal.TheVariants.Class; limits = no_limits }

unfoldable pub class_rated : Classes → ℕ → List ℤ → ClassRating
class_rated d k xs = cond (is_class k) (rating_of (rated_of (engine_at d k) xs)) unknown_rating

-- ════ the further calls ════

-- cut finer (request 6)
abbrev pub cut_rating_of : Bisected → ClassRating
cut_rating_of r = record { outcome = cut_outcome r.outcome; limits = r.limits }

unfoldable pub class_cut : Classes → ℕ → List ℤ → ℤ → ClassRating
class_cut d k xs depth = cond (is_class k) (cut_rating_of (cut_of (engine_at d k) xs depth)) unknown_rating

-- the fleet page (request 3): of records, and of their numbers one after another
abbrev pub page_of : Counted → ClassFleet
page_of c = record { outcome = fleet_outcome c.outcome; report = c.report }

abbrev pub unknown_page : ClassFleet
unknown_page = record { outcome = Refused refusal.TheVariants.Class; report = no_report }

unfoldable pub class_fleet : Classes → ℕ → List (List ℤ) → ClassFleet
class_fleet d k bs = cond (is_class k) (page_of (fleet_of (engine_at d k) bs)) unknown_page

unfoldable pub class_fleet_of_numbers : Classes → ℕ → List ℤ → ClassFleet
class_fleet_of_numbers d k xs = cond (is_class k) (page_of (fleet_of_numbers (engine_at d k) xs)) unknown_page

-- two boats of the class (request 7)
abbrev pub difference_of : Difference → ClassDifference
difference_of r = record { outcome = engine_outcome r.outcome; low = r.low; high = r.high }

abbrev pub unknown_difference : ClassDifference
unknown_difference = record { outcome = Refused refusal.TheVariants.Class; low = pos 0; high = pos 0 }

unfoldable pub class_sisters : Classes → ℕ → List ℤ → List ℤ → ClassDifference
class_sisters d k xs bs = cond (is_class k) (difference_of (sisters_of (engine_at d k) xs bs)) unknown_difference

-- the nearest edge (request 14)
abbrev pub edge_answer : margin.Edge → ClassEdge
edge_answer (margin.Widen i w) = edge.Widen i w
edge_answer margin.Nowhere = edge.Nowhere
edge_answer (margin.Refused r) = edge.Refused (refusal.TheVariants.Edge r)

abbrev pub unknown_edge : ClassEdge
unknown_edge = edge.Refused refusal.TheVariants.Class

unfoldable pub class_edge : Classes → ℕ → List ℤ → ℤ → ClassEdge
class_edge d k xs ceiling = cond (is_class k) (edge_answer (edge_for (engine_at d k) xs ceiling)) unknown_edge

-- ════ the code's answers in full ════

abbrev pub loading_in_full : Result Unit Refusal → Classes → ClassLoading
loading_in_full (Ok _) d = record { outcome = Accepted; classes = d }
loading_in_full (Err r) d = record { outcome = Refused r; classes = d }

abbrev pub rating_in_full : Result Limits Refusal → ClassRating
rating_in_full (Ok l) = record { outcome = Accepted; limits = l }
rating_in_full (Err r) = record { outcome = Refused r; limits = no_limits }

abbrev pub page_in_full : Result Report Refusal → ClassFleet
page_in_full (Ok p) = record { outcome = Accepted; report = p }
page_in_full (Err r) = record { outcome = Refused r; report = no_report }

abbrev pub difference_in_full : Result Range Refusal → ClassDifference
difference_in_full (Ok x) = record { outcome = Accepted; low = x.low; high = x.high }
difference_in_full (Err r) = record { outcome = Refused r; low = pos 0; high = pos 0 }

abbrev pub edge_in_full : Result (Option Widening) Refusal → ClassEdge
edge_in_full (Ok (Some w)) = edge.Widen w.factor w.units
edge_in_full (Ok None) = edge.Nowhere
edge_in_full (Err r) = edge.Refused r
