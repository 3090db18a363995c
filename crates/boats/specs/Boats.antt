-- Boats: records of eight numbers, each rated as a class of one point. 02, request 3: "The boats come as a lent list of records, eight numbers
-- each; the first n are the factor values, the rest are ignored. Each boat is rated with both ends of every range at its value."
use Rattle.std.specs.Prelude.{List, [], ◌∷◌, map, ℕ, zero, suc, ◌/◌, ℤ, length, take, drop}
use Rattle.engine.specs.declared.Engine.{Engine}
use Rattle.engine.specs.InFull.{Rating}
use Rattle.engine.specs.Engine.{rated_of}
use Rattle.boats.specs.declared.Boat.{Boat}

-- the first m records: eight numbers each, from the front
unfoldable pub first_records : ℕ → List ℤ → List (List ℤ)
first_records zero xs = []
first_records (suc m) xs = take 8 xs ∷ first_records m (drop 8 xs)

-- "a lent list of records, eight numbers each": as many as there are; fewer than eight numbers at the end are no record
abbrev pub records : List ℤ → List (List ℤ)
records xs = first_records (length xs / 8) xs

-- the records of structs
abbrev pub numbers_of : List Boat → List (List ℤ)
numbers_of bs = map (λ (b : Boat). b.numbers) bs

-- "with both ends of every range at its value": each number twice
unfoldable pub doubled : List ℤ → List ℤ
doubled [] = []
doubled (x ∷ xs) = x ∷ x ∷ doubled xs

-- "the first n are the factor values, the rest are ignored", also beyond the limit: the ranges of n factors
abbrev pub point : ℕ → List ℤ → List ℤ
point n b = doubled (take n b)

-- THE RATING OF A BOAT: the engine's own
unfoldable pub boat_rating : Engine → List ℤ → Rating
boat_rating e b = rated_of e (point e.codelist.factors b)

abbrev pub ratings_of : Engine → List (List ℤ) → List Rating
ratings_of e bs = map (boat_rating e) bs
