-- The calls of the engine (01's "desk"): "A desk is started empty, a sheet is loaded from bytes, and ranges are rated against the loaded sheet. Loading
-- replaces an earlier sheet. Rating changes nothing on the desk."
use Rattle.std.specs.Prelude.{List, ℕ, ℤ, Result, Ok, Err}
use Rattle.codelist.specs.InFull as loading
use Rattle.codelist.specs.declared.Codelist.{Codelist}
use Rattle.codelist.specs.InFull.{Loaded}
use Rattle.codelist.specs.Load as Load
use Rattle.rules.specs.InFull as rating
use Rattle.rules.specs.Rate as Rate
use Rattle.rules.specs.declared.Limits.{Limits}
use Rattle.formulas.specs.Load as Formula
use Rattle.formulas.specs.Load.{Given, given, refused, formula_of}
use Rattle.engine.specs.declared.Engine.{Engine}
use Rattle.engine.specs.declared.Refusal as refusal
use Rattle.engine.specs.declared.Refusal.{Refusal}
use Rattle.engine.specs.InFull.{Outcome, Accepted, Refused, Loading, Rating}

-- 01's number and place of each refusal
abbrev pub number_of : Refusal → ℕ
number_of (refusal.TheVariants.Load r) = Load.number_of r
number_of (refusal.TheVariants.Rate r) = Rate.number_of r
number_of (refusal.TheVariants.Formula r) = Formula.number_of r

abbrev pub place_of : Refusal → ℕ
place_of (refusal.TheVariants.Load r) = Load.place_of r
place_of (refusal.TheVariants.Rate r) = Rate.place_of r
place_of (refusal.TheVariants.Formula r) = Formula.place_of r

-- "A desk is started empty"
unfoldable pub empty_engine : Engine
empty_engine = record { codelist = Load.empty }

-- "Loading replaces an earlier sheet", and of a refusal "the desk is as before"
abbrev pub loaded : Engine → loading.Outcome → Codelist → Loading
loaded e loading.Accepted c = record { outcome = Accepted; engine = record { codelist = c } }
loaded e (loading.Refused r) c = record { outcome = Refused (refusal.TheVariants.Load r); engine = e }

unfoldable pub loaded_of : Engine → List ℕ → Loading
loaded_of e s = loaded e (Load.load_of s).outcome (Load.load_of s).codelist

-- A formula (02, request 12): "The resulting sheet is loaded as any other, in the same call"; after refusal 19 or 20 the engine is as before
abbrev pub formula_loaded : Engine → Given Loaded → Loading
formula_loaded e (given l) = loaded e l.outcome l.codelist
formula_loaded e (refused r) = record { outcome = Refused (refusal.TheVariants.Formula r); engine = e }

unfoldable pub formula_loaded_of : Engine → List ℕ → ℕ → Loading
formula_loaded_of e s k = formula_loaded e (formula_of s k)

-- Rating is a function of the codelist and the ranges
abbrev pub outcome_of : rating.Outcome → Outcome
outcome_of rating.Rated = Accepted
outcome_of (rating.Refused r) = Refused (refusal.TheVariants.Rate r)

abbrev pub as_rating : rating.Rating → Rating
as_rating r = record { outcome = outcome_of r.outcome; limits = r.limits }

unfoldable pub rated_of : Engine → List ℤ → Rating
rated_of e xs = as_rating (Rate.rate_of e.codelist xs)

-- The code's answers in full: "A refusal carries number and place, every other field is 0", and of a refused load "the desk is as before"
abbrev pub in_full : Result Limits Refusal → Rating
in_full (Ok l) = record { outcome = Accepted; limits = l }
in_full (Err r) = record { outcome = Refused r; limits = Rate.no_limits }

abbrev pub loading_in_full : Result Unit Refusal → Engine → Loading
loading_in_full (Ok _) e = record { outcome = Accepted; engine = e }
loading_in_full (Err r) e = record { outcome = Refused r; engine = e }
