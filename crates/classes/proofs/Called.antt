-- Each call by its class number: the engine's call where it is a class's, and 21 where it is none. Assumes nothing.
use Prim.Native.Nat.{ℕ}
use mathlib.Core.Bool.{true, false, cond}
use mathlib.Core.List.{List}
use mathlib.Core.Path.{◌≡◌}
use lib.IntN.{ℤ}
use Rattle.engine.specs.Engine.{loaded_of, formula_loaded_of, rated_of}
use Rattle.boats.specs.InFull.{Counted}
use Rattle.boats.specs.Fleet.{fleet_of, fleet_of_numbers}
use Rattle.bisection.specs.Cut.{cut_of}
use Rattle.increments.specs.Call.{sisters_of}
use Rattle.margin.specs.Edge.{edge_for}
use Rattle.classes.specs.declared.Classes.{Classes}
use Rattle.classes.specs.Classes.{is_class, engine_at}
use Rattle.classes.specs.Calls.{loading_of, unknown_loading, rating_of, unknown_rating, cut_rating_of, page_of, unknown_page, difference_of, unknown_difference}
use Rattle.classes.specs.Calls.{edge_answer, unknown_edge, class_edge}
use Rattle.classes.specs.Calls.{class_loaded, class_formula, class_rated, class_cut, class_fleet, class_fleet_of_numbers, class_sisters}

-- ---- of a class
module _ (d : Classes) (k : ℕ) (c : is_class k ≡ true) where
  pub loaded : (s : List ℕ) → class_loaded d k s ≡ loading_of d k (loaded_of (engine_at d k) s)
  unfolding class_loaded
  loaded s = rw c

  pub formula : (s : List ℕ) (n : ℕ) → class_formula d k s n ≡ loading_of d k (formula_loaded_of (engine_at d k) s n)
  unfolding class_formula
  formula s n = rw c

  pub rated : (xs : List ℤ) → class_rated d k xs ≡ rating_of (rated_of (engine_at d k) xs)
  unfolding class_rated
  rated xs = rw c

  pub cut : (xs : List ℤ) (depth : ℤ) → class_cut d k xs depth ≡ cut_rating_of (cut_of (engine_at d k) xs depth)
  unfolding class_cut
  cut xs depth = rw c

  pub fleet : (bs : List (List ℤ)) → class_fleet d k bs ≡ page_of (fleet_of (engine_at d k) bs)
  unfolding class_fleet
  fleet bs = rw c

  pub fleet-of-numbers : (xs : List ℤ) → class_fleet_of_numbers d k xs ≡ page_of (fleet_of_numbers (engine_at d k) xs)
  unfolding class_fleet_of_numbers
  fleet-of-numbers xs = rw c

  pub sisters : (xs bs : List ℤ) → class_sisters d k xs bs ≡ difference_of (sisters_of (engine_at d k) xs bs)
  unfolding class_sisters
  sisters xs bs = rw c

  pub edge : (xs : List ℤ) (ceiling : ℤ) → class_edge d k xs ceiling ≡ edge_answer (edge_for (engine_at d k) xs ceiling)
  unfolding class_edge
  edge xs ceiling = rw c

-- ---- of another number
module _ (d : Classes) (k : ℕ) (n : is_class k ≡ false) where
  pub loaded-nowhere : (s : List ℕ) → class_loaded d k s ≡ unknown_loading d
  unfolding class_loaded
  loaded-nowhere s = rw n

  pub formula-nowhere : (s : List ℕ) (m : ℕ) → class_formula d k s m ≡ unknown_loading d
  unfolding class_formula
  formula-nowhere s m = rw n

  pub rated-nowhere : (xs : List ℤ) → class_rated d k xs ≡ unknown_rating
  unfolding class_rated
  rated-nowhere xs = rw n

  pub cut-nowhere : (xs : List ℤ) (depth : ℤ) → class_cut d k xs depth ≡ unknown_rating
  unfolding class_cut
  cut-nowhere xs depth = rw n

  pub sisters-nowhere : (xs bs : List ℤ) → class_sisters d k xs bs ≡ unknown_difference
  unfolding class_sisters
  sisters-nowhere xs bs = rw n

  pub edge-nowhere : (xs : List ℤ) (ceiling : ℤ) → class_edge d k xs ceiling ≡ unknown_edge
  unfolding class_edge
  edge-nowhere xs ceiling = rw n

-- pages, of which the test comes last
module _ (k : ℕ) (r : Counted) where
  pub page : is_class k ≡ true → page_of r ≡ cond (is_class k) (page_of r) unknown_page
  page c = rw c

  pub page-nowhere : is_class k ≡ false → unknown_page ≡ cond (is_class k) (page_of r) unknown_page
  page-nowhere n = rw n
